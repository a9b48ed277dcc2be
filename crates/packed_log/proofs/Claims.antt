-- The claims of specs/Claims: a case that is packed reads back, a log has one packed form, and the calls of the writer write it.
use Prim.Native.Nat.{ℕ, ◌+◌, ◌*◌, ◌≤◌}
use mathlib.Core.Path.{◌≡◌, sym, ap, ◌∙◌}
use mathlib.Core.Bool.{Bool, false}
use mathlib.Core.List.{List, [], ◌∷◌, ◌++◌, append_assoc, append-nil}
use native.Mathlib.{Nat.zero-add, Omega.arith}
use borrow.Author.Tests.{le-ltb}
use lib.ListN.{length, take, drop, length-append, length-take, take-append-drop, drop_of_length-le}
use lib.Seq.{sets-eq}
use Rattle.words.specs.{Refusals.first, Tests.choose}
use Rattle.words.proofs.Tests.{either_false_left, either_false_right}
use Rattle.quorum.specs.Opening.{opening_refusal}
use Rattle.register.specs.declared.step.Step.{Step}
use Rattle.packed_log.specs.Bits.{Bytes, bits, bytes, put}
use Rattle.packed_log.specs.Rows.{row_of}
use Rattle.packed_log.specs.Writing.{step_bits, end_bits, room, short, opening_refused, step_refused, end_refused, wrote, laid}
use Rattle.packed_log.specs.Logs.{Case, steps_bits, body_bits, packed, any_wide, Filled, after_call, after_step_calls, after_opening_call, after_end_call, after_calls}
use Rattle.packed_log.specs.Claims.{ReadsBack, OneForm, CallsPack}
use Rattle.packed_log.proofs.BitsLaws.{length_bits, length_put, put_put, put_left, put_none, bytes_bits}
use Rattle.packed_log.proofs.Windows.{bytes_drop}
use Rattle.packed_log.proofs.WritingLaws.{row_fits, end_room, opening_room}
use Rattle.packed_log.proofs.LogsReadBack.{case_bits, packed_row, first_bits, log_reads, log_stands}

-- the buffer with the row t laid over it from its start on, and the position behind t
abbrev filled : (buffer : List ℕ) → (t : List Bool) → Filled
filled buffer t = record { buffer = put buffer 0 t; at = length t }

-- the writer has room in the buffer for the row t
abbrev Room : (buffer : List ℕ) → (t : List Bool) → Type 0
Room buffer t = length t ≤ room buffer 0

module _ (buffer : List ℕ) (t u : List Bool) where
  -- a call that is not refused lays its row behind those before it
  call : (refusal : ℕ) → refusal ≡ 0 → after_call (filled buffer t) refusal u ≡ filled buffer (t ++ u)
  unfolding after_call wrote laid choose
  call refusal none =
      let joined : put (put buffer 0 t) (length t) u ≡ put buffer 0 (t ++ u) = rw zero-add at (put_put buffer 0 t u) in
      rw (none, joined, length-append t u)

  -- where there is room for two rows, there is for the first
  room_front : Room buffer (t ++ u) → Room buffer t
  room_front enough = omega (arith, rw length-append at enough)

  -- where there is room for a row behind those before it, the buffer is not too short for it
  long_enough : Room buffer (t ++ u) → short (put buffer 0 t) (length t) u ≡ false
  long_enough enough =
      let fits : length t + length u ≤ room buffer 0 = rw length-append at enough in
      le-ltb _ (length u) (rw length_put (omega arith))

-- the call for an opening that is not refused lays it
opening_call : (buffer : List ℕ) (c : Case) → Bytes buffer → opening_refusal c.n c.trust c.schedule ≡ 0
    → Room buffer (first_bits c) → after_opening_call buffer c ≡ filled buffer (first_bits c)
unfolding after_opening_call first choose
opening_call buffer c h opens enough =
    let long : short buffer 0 (first_bits c) ≡ false = rw (put_none buffer 0 h) at (long_enough buffer [] (first_bits c) enough) in
    let refusal : ℕ = opening_refused buffer 0 c.n c.trust c.schedule in
    let none : refusal ≡ 0 = opening_room buffer 0 c.n c.trust c.schedule opens ∙ rw long in
    rw (put_none buffer 0 h) at (call buffer [] (first_bits c) refusal none)

-- the calls for steps within the widths lay them
steps_calls : (buffer : List ℕ) (t : List Bool) (ss : List Step) → any_wide ss ≡ false → Room buffer (t ++ steps_bits ss)
    → after_step_calls (filled buffer t) ss ≡ filled buffer (t ++ steps_bits ss)
unfolding after_step_calls steps_bits any_wide
steps_calls buffer t [] narrow enough = rw append-nil
steps_calls buffer t (s ∷ ss) narrow enough =
    let joined : t ++ (step_bits s ++ steps_bits ss) ≡ t ++ step_bits s ++ steps_bits ss = sym (append_assoc t (step_bits s) (steps_bits ss)) in
    let all : Room buffer (t ++ step_bits s ++ steps_bits ss) = rw joined at enough in
    let one : Room buffer (t ++ step_bits s) = room_front buffer (t ++ step_bits s) (steps_bits ss) all in
    let none : step_refused (put buffer 0 t) (length t) s ≡ 0 = row_fits (put buffer 0 t) (length t) (row_of s) (either_false_left _ _ narrow) (long_enough buffer t (step_bits s) one) in
    rw (call buffer t (step_bits s) (step_refused (put buffer 0 t) (length t) s) none, joined)
    (steps_calls buffer (t ++ step_bits s) ss (either_false_right _ _ narrow) all)

-- the call for the end lays it
end_call : (buffer : List ℕ) (t : List Bool) → Room buffer (t ++ end_bits (length t))
    → after_end_call (filled buffer t) ≡ filled buffer (t ++ end_bits (length t))
unfolding after_end_call first choose
end_call buffer t enough =
    let none : end_refused (put buffer 0 t) (length t) ≡ 0 = end_room (put buffer 0 t) (length t) ∙ rw (long_enough buffer t (end_bits (length t)) enough) in
    call buffer t (end_bits (length t)) (end_refused (put buffer 0 t) (length t)) none

-- a row that covers a whole buffer, laid over it, leaves just its own bytes
put_over : (l : List ℕ) (t : List Bool) → length t ≡ 8 * length l → put l 0 t ≡ bytes t
unfolding put
put_over l t h =
    let long : length (bits l) ≡ length t = length_bits l ∙ sym h in
    let behind : drop (length t) (bits l) ≡ [] = drop_of_length-le (bits l) {i = length t} (omega arith) in
    ap bytes (sets-eq t (bits l) 0 (omega arith) ∙ rw (zero-add, behind, append-nil t))

-- a row of whole bytes, laid over the start of a buffer, leaves its own bytes and those behind them
put_start : (buffer : List ℕ) (m : ℕ) (t : List Bool) → Bytes buffer → length t ≡ 8 * m → m ≤ length buffer
    → put buffer 0 t ≡ bytes t ++ drop m buffer
put_start buffer m t h long room =
    let front : length (take m buffer) ≡ m = simp length-take (omega arith) in
    let within : 0 + length t ≤ 8 * length (take m buffer) = rw front (omega arith) in
    let start : put (take m buffer) 0 t ≡ bytes t = put_over (take m buffer) t (rw front long) in
    rw (take-append-drop, start) at (put_left (take m buffer) (drop m buffer) 0 t (bytes_drop m buffer h) within)

-- what is packed reads back as the same opening and steps
pub reads_back : ReadsBack
unfolding ReadsBack
reads_back c h = log_reads (packed c) c h.small h.opens h.narrow (packed_row c)

-- a log that reads as an opening with steps is its packed form, byte for byte
pub one_form : OneForm
unfolding OneForm packed
one_form log bytes-log c h = sym (bytes_bits log bytes-log) ∙ ap bytes (log_stands log c h)

-- the calls of the writer for an opening, its steps and the end write the packed form, leave the bytes behind it and give its last position
pub calls_pack : CallsPack
unfolding CallsPack after_calls body_bits packed
calls_pack buffer h c packable within =
    let m : ℕ = length (packed c) in
    let long : length (case_bits c) ≡ 8 * m = ap length (sym (packed_row c)) ∙ length_bits (packed c) in
    let all : Room buffer (case_bits c) = omega (arith, packable.small) in
    let body : Room buffer (body_bits c) = room_front buffer (body_bits c) (end_bits (length (body_bits c))) all in
    let first : Room buffer (first_bits c) = room_front buffer (first_bits c) (steps_bits c.steps) body in
    let start : put buffer 0 (case_bits c) ≡ packed c ++ drop m buffer = put_start buffer m (case_bits c) h long within in
    rw (
      opening_call buffer c h packable.opens first,
      steps_calls buffer (first_bits c) c.steps packable.narrow body,
      end_call buffer (body_bits c) all,
      start,
      long,
    )

-- What an accepted opening says of its schedule, and how the table of leaders is filled.
use Prim.Native.Nat.{ℕ, suc, ◌+◌, ◌-◌, ◌≤◌, ◌<◌}
use mathlib.Core.Path.{◌≡◌, ap, ◌∙◌}
use mathlib.Core.List.{List, [], ◌∷◌, ◌++◌}
use native.Mathlib.Numerals.{add-one}
use native.Mathlib.Omega.{arith}
use borrow.Author.Tests.{not-false}
use lib.ListN.{length, take, set, get_or, replicate}
use lib.Seq.{take-suc, length-take-le, append_snoc, set_at}
use Rattle.quorum.specs.Opening.{opening_refusal}
use Rattle.words.specs.Tests.{choose}
use Rattle.words.proofs.Tests.{between_true}
use Rattle.words.proofs.Refusals.{numbered, cleared}
use Rattle.register.specs.Opening.{leader_table}

-- an opening that is not refused has a schedule of at most 256 epochs
pub accepted_schedule : (n trust : ℕ) (schedule : List ℕ) → opening_refusal n trust schedule ≡ 0 → length schedule ≤ 256
unfolding opening_refusal numbered choose
accepted_schedule n trust schedule h = (between_true 1 256 (length schedule) (not-false _ (cleared 1 _ h))).1

-- a table with room for one entry more
room : (k : ℕ) → k < 256 → replicate {A = ℕ} (256 - k) 0 ≡ 0 ∷ replicate (256 - suc k) 0
room k h =
    let e : 256 - k ≡ suc (256 - suc k) = omega arith in
    ap (λ (x : ℕ). replicate {A = ℕ} x 0) e

-- a loop's next turn: the first k leaders are in the table, and the next is put in
pub next_leader : (schedule : List ℕ) (k : ℕ) → k < length schedule → length schedule ≤ 256
    → set (leader_table (take k schedule)) k (get_or schedule k 0) ≡ leader_table (take (k + 1) schedule)
unfolding leader_table
next_leader schedule k h most =
    let before : length (take k schedule) ≡ k = length-take-le k schedule (omega arith) in
    let after : length (take (k + 1) schedule) ≡ suc k = length-take-le (k + 1) schedule (omega arith) ∙ add-one k in
    let more : take (k + 1) schedule ≡ take k schedule ++ (get_or schedule k 0 ∷ []) = rw add-one (take-suc schedule k 0 h) in
    rw (before, room k (omega arith), set_at (take k schedule) _ _ _ k before, after, more, append_snoc)

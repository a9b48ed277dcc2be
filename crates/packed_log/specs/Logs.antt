-- Whole logs: the packed form of an opening with steps, a log that reads as an opening with steps, and a run of calls of the writer.
use Rattle.std.specs.Prelude.{ℕ, ◌≤◌, ◌≡◌, Bool, false, List, [], ◌∷◌, ◌++◌, length}
use Rattle.quorum.specs.Opening.{opening_refusal}
use Rattle.words.specs.Tests.{either}
use Rattle.register.specs.declared.step.Step.{Step}
use Rattle.register.specs.Opening.{fresh}
use Rattle.packed_log.specs.declared.item.Item.TheVariants as items
use Rattle.packed_log.specs.Bits.{bytes}
use Rattle.packed_log.specs.Rows.{row_of}
use Rattle.packed_log.specs.Items.{item_at}
use Rattle.packed_log.specs.Openings.{opening_in}
use Rattle.packed_log.specs.Writing.{opening_bits, step_bits, end_bits, wide, opening_refused, step_refused, end_refused, wrote, laid}

-- an opening with steps
pub record Case : Type 0 where
  pub n : ℕ
  pub trust : ℕ
  pub schedule : List ℕ
  pub steps : List Step

-- the bits of some steps, one behind the other
unfoldable pub steps_bits : List Step → List Bool
steps_bits [] = []
steps_bits (s ∷ ss) = step_bits s ++ steps_bits ss

-- the bits of an opening with steps, up to the end
unfoldable pub body_bits : Case → List Bool
body_bits c = opening_bits c.n c.trust c.schedule ++ steps_bits c.steps

-- the packed form
unfoldable pub packed : Case → List ℕ
packed c = bytes (body_bits c ++ end_bits (length (body_bits c)))

-- some step is not within the widths
unfoldable pub any_wide : List Step → Bool
any_wide [] = false
any_wide (s ∷ ss) = either (wide (row_of s)) (any_wide ss)

-- an opening that is not refused, with steps within the widths, whose log stays within 65,536 bytes
pub record Packable (c : Case) : Type 0 where
  pub opens : opening_refusal c.n c.trust c.schedule ≡ 0
  pub narrow : any_wide c.steps ≡ false
  pub small : length (packed c) ≤ 65536

-- from position p on, the log reads as these steps and the end
unfoldable pub ReadsFrom : (log : List ℕ) → (p : ℕ) → List Step → Type 0
ReadsFrom log p [] = (item_at log p).item ≡ items.End
ReadsFrom log p (s ∷ ss) = ((item_at log p).item ≡ items.Step s) × ReadsFrom log (item_at log p).next ss

-- the log reads as this opening with steps
pub record Reads (log : List ℕ) (c : Case) : Type 0 where
  pub opens : (opening_in log).refusal ≡ 0
  pub register : (opening_in log).register ≡ fresh c.n c.trust c.schedule
  pub steps : ReadsFrom log (opening_in log).next c.steps

-- a buffer, and the position behind what has been written into it
pub record Filled : Type 0 where
  pub buffer : List ℕ
  pub at : ℕ

-- after a call that was to lay these bits, and was refused or not
unfoldable pub after_call : Filled → (refusal : ℕ) → List Bool → Filled
after_call w refusal t = record { buffer = laid w.buffer refusal w.at t; at = (wrote refusal w.at t).next }

-- after a call for each of some steps, each at the position that the call before it gave
unfoldable pub after_step_calls : Filled → List Step → Filled
after_step_calls w [] = w
after_step_calls w (s ∷ ss) = after_step_calls (after_call w (step_refused w.buffer w.at s) (step_bits s)) ss

-- after the calls for the opening, at position 0, for the steps and for the end
unfoldable pub after_opening_call : (buffer : List ℕ) → Case → Filled
after_opening_call buffer c =
    after_call (record { buffer = buffer; at = 0 }) (opening_refused buffer 0 c.n c.trust c.schedule)
    (opening_bits c.n c.trust c.schedule)

unfoldable pub after_end_call : Filled → Filled
after_end_call w = after_call w (end_refused w.buffer w.at) (end_bits w.at)

unfoldable pub after_calls : (buffer : List ℕ) → Case → Filled
after_calls buffer c = after_end_call (after_step_calls (after_opening_call buffer c) c.steps)

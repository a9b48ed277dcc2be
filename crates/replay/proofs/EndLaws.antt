-- The end of a run: what is left to run, part by part, and what a log gives, told from its opening and its fault.
use Prim.Native.Nat.{ℕ}
use mathlib.Core.Path.{◌≡◌, refl, sym, ap, ◌∙◌}
use mathlib.Core.List.{List, [], ◌∷◌}
use native.Mathlib.Omega.{arith}
use borrow.Author.Tests.{ne_eqb}
use lib.Dec.{eqb}
use lib.ListN.{length, take, drop, take-append-drop}
use Rattle.words.specs.Tests.{choose}
use Rattle.register.specs.declared.step.Step.{Step}
use Rattle.register.specs.declared.table.Register.{Register}
use Rattle.register.specs.declared.table.Ran.{Ran}
use Rattle.register.specs.Opening.{closed}
use Rattle.register.specs.Runs.{after_steps, ran}
use Rattle.register.proofs.Running.{after_append}
use Rattle.packed_log.specs.declared.opening.Opening.{Opening}
use Rattle.packed_log.specs.Openings.{opening_in}
use Rattle.replay.specs.Bodies.{body_at, body_of}
use Rattle.replay.specs.Endings.{last_of, end_of}
use Rattle.replay.proofs.BodyLaws.{same_fault}

-- behind a part that was run, the steps that are left give what all of them give from before it
pub run_on : (r : Register) (count : ℕ) (steps : List Step) (given : Ran) → given ≡ ran r (take count steps)
    → after_steps given.register (drop count steps) ≡ after_steps r steps
unfolding ran
run_on r count steps given runs =
    rw runs (sym (after_append r (take count steps) (drop count steps)) ∙ ap (after_steps r) (take-append-drop count steps))

-- where no step is left, the register stays
pub run_over : (r : Register) (steps : List Step) → length steps ≡ 0 → after_steps r steps ≡ r
unfolding after_steps
run_over r [] none = refl
run_over r (s ∷ steps) none = absurd (omega arith)

module _ (log : List ℕ) (o : Opening) (refusal : ℕ) (opens : o ≡ opening_in log)
    (told : refusal ≡ choose (eqb o.refusal 0) (body_at log o.next).refusal o.refusal) (register : Register)
  where
    -- what a log gives that does not read
    pub end_refused : (refusal ≡ 0 → ⊥) → register ≡ closed → record { register = register; refusal = refusal } ≡ end_of log
    unfolding end_of choose
    end_refused some none = rw (none, ← same_fault log o refusal opens told, ne_eqb refusal 0 some)

    -- what a log gives that reads
    pub end_reached : refusal ≡ 0 → register ≡ after_steps o.register (body_at log o.next).steps
        → record { register = register; refusal = refusal } ≡ end_of log
    unfolding end_of last_of body_of choose
    end_reached none runs = rw (runs, opens, ← same_fault log o refusal opens told, none)

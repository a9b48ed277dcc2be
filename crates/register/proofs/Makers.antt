-- What makers may rely on: the promises of specs/Promises.antt that are not about one step's fitness alone.
use native.Mathlib.Omega.{arith}
use mathlib.Core.Path.{◌≡◌, refl, ap, ◌∙◌, subst⁻¹}
use mathlib.Core.Bool.{false}
use mathlib.Core.List.{List, [], ◌∷◌}
use borrow.Author.Tests.{ne_eqb}
use lib.ListN.{take, replicate}
use Rattle.words.specs.Tests.{choose, both, conj, between}
use Rattle.words.specs.Refusals.{first}
use Rattle.register.specs.Types.{Step, Register, Stepped, Book}
use Rattle.register.specs.Books.{book_of}
use Rattle.register.specs.Fitness.{counts_fit, fit}
use Rattle.register.specs.Opening.{blank, closed, opening}
use Rattle.register.specs.Effects.{with_block, with_sent, with_moved, with_acted, with_state, with_next_epoch}
use Rattle.register.specs.Steps.{refusal, judged, rule_of, book_rule, step_rule}
use Rattle.register.specs.Runs.{after_steps, opened, moment}
use Rattle.register.specs.Promises.{RunsAreFit, RefusedOpeningCloses, ClosedGetsFive, RefusedStepStays, council_of, StepsKeepCouncil}
use Rattle.register.proofs.Typing.{book_register, register_book, step_book}
use Rattle.register.proofs.Judging.{judged_has}
use Rattle.register.proofs.Naming.{named_keeps}
use Rattle.register.proofs.Ranges.{Ranges, ranges_fit}
use Rattle.register.proofs.FitSteps.{ranges_step}
use Rattle.register.proofs.FitOpening.{ranges_opening}

-- steps keep the numbers in their ranges
ranges_after : (r : Register) (steps : List Step) → Ranges (book_of r) → Ranges (book_of (after_steps r steps))
unfolding after_steps
ranges_after r [] z = z
ranges_after r (step ∷ later) z =
    ranges_after (step_rule r step).register later (subst⁻¹ Ranges (step_book r step) (ranges_step (book_of r) step z))

-- after an opening that is not refused and any steps the register is fit
pub runs_are_fit : RunsAreFit
unfolding RunsAreFit moment opened
runs_are_fit run i =
    ranges_fit (ranges_after _ (take i run.steps) (ranges_opening run.n run.trust run.schedule run.accepted))

-- a refused opening gives the closed register
pub refused_opening_closes : RefusedOpeningCloses
unfolding RefusedOpeningCloses opening choose
refused_opening_closes n trust schedule refused = rw (ne_eqb _ 0 refused)

-- a step that is refused, by the number of its refusal
refused_by : (r : Register) (step : Step) → ((book_rule (book_of r) step).refusal ≡ 0 → ⊥)
    → step_rule r step ≡ record { register = r; refusal = (book_rule (book_of r) step).refusal; value = 0 }
unfolding step_rule book_rule judged choose
refused_by r step some = rw (ne_eqb _ 0 some, register_book)

-- a refused step gives the register back as it was, with value 0
pub refused_step_stays : RefusedStepStays
unfolding RefusedStepStays step_rule
refused_step_stays r step some =
    let is = refused_by r step some in
    (ap (λ (s : Stepped). s.register) is, ap (λ (s : Stepped). s.value) is)

-- the closed register is not fit: it has no offices
closed_unfit : fit (book_of closed) ≡ false
unfolding closed fit blank counts_fit conj both between
closed_unfit = ap fit (book_register (blank 0 0 0 0 (replicate 256 0)))

-- on the closed register the rules refuse each step with 5
closed_five : (step : Step) → (book_rule (book_of closed) step).refusal ≡ 5
unfolding book_rule judged refusal first choose
closed_five step = rw closed_unfit

-- on the closed register every step gets 5, and leaves it closed
pub closed_gets_five : ClosedGetsFive
unfolding ClosedGetsFive
closed_gets_five step =
    refused_by closed step (λ e. omega (arith, e, closed_five step))
    ∙ ap (λ k. record { register = closed; refusal = k; value = 0 }) (closed_five step)

-- no step's effect changes the council
council_stays : (r : Book) (step : Step) → council_of (rule_of r step).effect ≡ council_of r
unfolding council_of rule_of with_acted with_sent with_moved with_state with_block with_next_epoch
council_stays r (Step.Propose office parent w) = named_keeps r _ council_of refl
council_stays r (Step.Vote office message) = refl
council_stays r (Step.Register office message) = refl
council_stays r (Step.Finalise office newest) = refl
council_stays r (Step.Deliver message office) = refl
council_stays r (Step.BadSend sender kind signer about) = refl
council_stays r (Step.Draft parent epoch w) = named_keeps r _ council_of refl
council_stays r Step.Advance = refl

-- no step changes the number of offices, who is trusted, or the schedule
pub steps_keep_council : StepsKeepCouncil
unfolding StepsKeepCouncil book_rule
steps_keep_council r step =
    ap council_of (step_book r step)
    ∙ judged_has (λ (s : Book). council_of s ≡ council_of (book_of r)) (book_of r) (fit (book_of r)) step refl
    (λ fits accepted. council_stays (book_of r) step)

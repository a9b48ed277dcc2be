-- The claims of specs/Claims: a log without a fault is a run that it reads as, its final chains agree and never go back, some office is
-- trusted, and running it ends at its last place.
use Prim.Native.Nat.{ℕ, zero, suc}
use mathlib.Core.Path.{◌≡◌, refl, ◌∙◌}
use mathlib.Core.List.{List}
use native.Mathlib.Omega.{arith}
use lib.Dec.{eqb, eqb-suc-zero}
use lib.ListN.{length}
use lib.Seq.{take_all}
use Rattle.words.specs.Tests.{choose}
use Rattle.register.specs.Opening.{opening}
use Rattle.register.specs.Runs.{opened, moment}
use Rattle.agreement.specs.Claim.{Agreement, NeverBack}
use Rattle.agreement.proofs.Safety.{someone}
use Rattle.agreement.proofs.Agreement.{agreement, safe_moment}
use Rattle.agreement.proofs.Consequences.{never_back}
use Rattle.packed_log.specs.Openings.{opening_in}
use Rattle.packed_log.proofs.OpeningsReadBack.{opening_opens}
use Rattle.replay.specs.Bodies.{body_of, fault_of}
use Rattle.replay.specs.Endings.{last_of, end_of}
use Rattle.replay.proofs.BodyLaws.{reads_body, body_reads}
use Rattle.replay.specs.Claims.{
  case_of,
  RunOf,
  LogsAreRuns,
  ReadsHaveNoFault,
  place_in,
  LogsAgree,
  LogsNeverGoBack,
  SomeoneIsTrusted,
  RunsEndAtTheLastPlace,
}

-- where neither the opening nor what stands behind it is refused, the opening is not
none_first : (opening body : ℕ) → choose (eqb opening 0) body opening ≡ 0 → opening ≡ 0
unfolding choose
none_first zero body none = refl
none_first (suc k) body none = rw eqb-suc-zero at none

-- a log without a fault reads as a run
pub logs_are_runs : LogsAreRuns
unfolding LogsAreRuns case_of fault_of body_of opened opening choose
logs_are_runs log none =
    let accepted : (opening_in log).refusal ≡ 0 = none_first (opening_in log).refusal (body_of log).refusal none in
    let whole : (body_of log).refusal ≡ 0 = rw accepted at none in
    let opens = opening_opens log accepted in
    record {
      run = record { n = _; trust = _; schedule = _; accepted = opens.0; steps = (body_of log).steps };
      reads = record { opens = accepted; register = opens.1 ∙ rw opens.0; steps = body_reads log (opening_in log).next whole };
      opens = opens.1;
      steps = refl;
    }

-- a log that reads as an opening with steps has no fault
pub reads_have_no_fault : ReadsHaveNoFault
unfolding ReadsHaveNoFault fault_of body_of choose
reads_have_no_fault log c h = rw (h.opens, reads_body log (opening_in log).next c.steps h.steps)

-- the places of a log are the moments of the run that it holds
pub place_moment : (log : List ℕ) (held : RunOf log) (i : ℕ) → place_in log i ≡ moment held.run i
unfolding place_in moment
place_moment log held i = rw (held.opens, held.steps)

-- final chains agree at every place of every log that reads
pub logs_agree : LogsAgree
unfolding LogsAgree LogsAreRuns Agreement
logs_agree log reads i j p q e =
    let held : RunOf log = logs_are_runs log reads in
    rw (place_moment log held i, place_moment log held j)
    (λ finalist viewer notarised long.
    agreement held.run i j p q e (record { finalist = finalist; viewer = viewer; notarised = notarised; long = long }))

-- and never go back from one place to a later one
pub logs_never_go_back : LogsNeverGoBack
unfolding LogsNeverGoBack LogsAreRuns NeverBack
logs_never_go_back log reads i j p before =
    let held : RunOf log = logs_are_runs log reads in
    rw (place_moment log held i, place_moment log held j) (never_back held.run i j p before)

-- some office is trusted at every place of every log that reads
pub someone_is_trusted : SomeoneIsTrusted
unfolding SomeoneIsTrusted LogsAreRuns
someone_is_trusted log reads i =
    let held : RunOf log = logs_are_runs log reads in
    rw (place_moment log held i) (someone (safe_moment held.run i))

-- running a log that reads ends at its last place
pub runs_end_at_the_last_place : RunsEndAtTheLastPlace
unfolding RunsEndAtTheLastPlace place_in end_of last_of choose
runs_end_at_the_last_place log reads = rw (reads, take_all (length (body_of log).steps) (body_of log).steps (omega arith))

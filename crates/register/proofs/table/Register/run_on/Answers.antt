-- `Register::run_on`: each turn judges a step and writes its change.
use Prim.Native.Nat.{ℕ, ◌<◌, min}
use mathlib.Core.Path.{◌≡◌, subst}
use native.Mathlib.Omega.{arith}
use mathlib.Core.List.{List}
use lib.ListN.{get_or}
use Rattle.register.specs.Types.{Block, Step, Register, Actor}
use Rattle.register.specs.Books.{office, block, book_of}
use Rattle.register.specs.Settled.{Acts}
use Rattle.register.proofs.Typing.{register_book}
use Rattle.register.proofs.Carrying.{CarriesOut, carries}
use Rattle.register.proofs.Settling.{acts}
use Rattle.register.proofs.Running.{Held, held_none, held_next, held_counts, held_all}
use Rattle.register.proofs.table.Register.run_on.Goals as goal
use Rattle.register.proofs.table.Register.run_on.Goals.{After-judge-change, After-settled_base-base}

-- the step of a turn
abbrev step : List Step → ℕ → Step
step steps i = get_or steps i (Step.Propose (office 0) (block 0) 0)

-- its actor
abbrev actor : ℕ → Block → Actor
actor at base = record { at = at; base = base }

-- what is known of the actor
acting : (c : After-settled_base-base) → Acts (book_of c.loop-i.self) (step c.args.steps c.loop-i.i) (actor c.place_of-at.result c.settled_base-base.result)
unfolding book_of
acting c =
    acts (book_of c.loop-i.self) _ c.loop-i.settled c.actor_of-office.result _ c.actor_of-office.ensures c.place_of-at.ensures.0
    c.place_of-at.ensures.1 c.settled_base-base.ensures.0 c.loop-i.invariant.settled c.settled_base-base.ensures.1

-- so the change carries the step out
carried : (c : After-judge-change) → Acts (book_of c.loop-i.self) (step c.args.steps c.loop-i.i) (actor c.place_of-at.result c.settled_base-base.result)
    → CarriesOut c.is_fit-fits.result (book_of c.loop-i.self) (step c.args.steps c.loop-i.i) c.judge-change.result
carried c known =
    rw c.judge-change.ensures
    (carries (book_of c.loop-i.self) c.place_of-at.result known.within c.is_fit-fits.result (step c.args.steps c.loop-i.i)
    (held_counts c.loop-i.invariant) known.own)

pub loop-i-init : goal.loop-i-init
loop-i-init c =
    subst (λ (r : Register). Held r c.args.steps 0 (book_of c.args.self.now) _ _ c.is_fit-fits.result 0) (register_book c.args.self.now)
    (held_none (book_of c.args.self.now) c.args.steps _ c.is_fit-fits.ensures c.know_sizes.ensures)

pub judge-change-requires : goal.judge-change-requires
unfolding book_of
judge-change-requires c = (held_counts c.loop-i.invariant, acting (goal.at.judge-change-requires c).After-settled_base-base)

pub write-requires : goal.write-requires
write-requires c =
    (carried (goal.at.write-requires c).After-judge-change (acting (goal.at.write-requires c).After-settled_base-base)).within

pub loop-i-preserved : goal.loop-i-preserved
loop-i-preserved c =
    let held = c.loop-i.invariant in
    let carries = carried (goal.at.loop-i-preserved c).After-judge-change (acting (goal.at.loop-i-preserved c).After-settled_base-base) in
    let low : c.loop-i.i < 256 = omega (arith, c.loop-i-test.true) in
    rw (c.settled_after-settled.ensures, c.actor_of-office.ensures, c.write.ensures)
    (held_next held _ (omega (arith, low)) c.judge-change.result carries low (λ fit. (held_counts held fit).offices))

pub returns : goal.returns
returns c =
    let end : c.loop-i.i ≡ min c.args.count 256 = omega (arith, c.loop-i-test.false, c.min-i-end.ensures) in
    rw (← end, ← register_book c.loop-i.self) (held_all c.loop-i.invariant)

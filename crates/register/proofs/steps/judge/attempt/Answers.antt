-- `attempt`: each step's own function gives the step's change.
use mathlib.Core.Path.{subst}
use Rattle.register.specs.Books.{book_of}
use Rattle.register.specs.Types.{Step}
use Rattle.register.specs.Settled.{actor_of, Acts}
use Rattle.register.proofs.steps.judge.attempt.Goals as goal

pub finalise-requires : goal.finalise-requires
unfolding actor_of book_of
finalise-requires c =
    let acts : Acts (book_of c.args.register.now) (Step.Finalise c.in-Finalise.office c.in-Finalise.newest) c.args.actor =
    subst (λ (x : Step). Acts (book_of c.args.register.now) x c.args.actor) c.in-Finalise.is c.requires.1 in
    (c.requires.0, acts.base)

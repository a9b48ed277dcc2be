-- `actor_of`: only a finalise step changes what an office holds.
use mathlib.Core.Path.{◌≡◌, refl}
use Rattle.register.specs.Types.{Office, Block, Step}
use Rattle.register.specs.Books.{office}
use Rattle.register.specs.Settled.{actor_of}
use Rattle.register.proofs.actor.actor_of.Goals as goal

-- a step of any other kind
others : (step : Step) → ((q : Office) (b : Block) → step ≡ Step.Finalise q b → ⊥) → office 32 ≡ actor_of step
unfolding actor_of
others (Step.Propose office parent payload) other = refl
others (Step.Vote office message) other = refl
others (Step.Register office message) other = refl
others (Step.Finalise office newest) other = absurd (other office newest refl)
others (Step.Deliver message office) other = refl
others (Step.BadSend sender kind signer about) other = refl
others (Step.Draft parent epoch payload) other = refl
others Step.Advance other = refl

pub returns-in-Finalise : goal.returns-in-Finalise
unfolding actor_of
returns-in-Finalise c = rw c.in-Finalise.is

pub returns-in_default : goal.returns-in_default
unfolding actor_of
returns-in_default c = others c.args.step c.in_default.not-Finalise

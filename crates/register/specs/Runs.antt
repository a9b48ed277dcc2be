-- Steps one after the other: what they give, and the moments of a list of steps from an opening.
use Rattle.std.specs.Prelude.{ℕ, ◌-◌, ◌≡◌, List, [], ◌∷◌, ◌++◌, map, length, take, replicate}
use Rattle.register.specs.Types.{Step, Register, Stepped, Ran}
use Rattle.register.specs.Limits.{batch}
use Rattle.register.specs.Opening.{opening}
use Rattle.register.specs.Steps.{step_rule}

-- the register after some steps, each made on the register that the one before it gave back, accepted or refused
unfoldable pub after_steps : Register → List Step → Register
after_steps r [] = r
after_steps r (step ∷ later) = after_steps (step_rule r step).register later

-- the answers to some steps
unfoldable pub answers : Register → List Step → List Stepped
answers r [] = []
answers r (step ∷ later) = step_rule r step ∷ answers (step_rule r step).register later

-- a batch's table of numbers: those given, and 0 behind them
unfoldable pub padded : List ℕ → List ℕ
padded numbers = numbers ++ replicate (batch - length numbers) 0

-- what a batch of steps gives
unfoldable pub ran : Register → List Step → Ran
ran r steps =
    record {
      register = after_steps r steps;
      refusals = padded (map (λ (s : Stepped). s.refusal) (answers r steps));
      values = padded (map (λ (s : Stepped). s.value) (answers r steps));
    }

-- an opening that is not refused, and a list of steps
pub record Run : Type 0 where
  pub n : ℕ
  pub trust : ℕ
  pub schedule : List ℕ
  pub accepted : (opening n trust schedule).refusal ≡ 0
  pub steps : List Step

-- the register that the opening gives
unfoldable pub opened : Run → Register
opened run = (opening run.n run.trust run.schedule).register

-- moment i of a run: moment 0 is the opening, moment i the state after step i; where there are fewer steps, the state after all of them
unfoldable pub moment : Run → ℕ → Register
moment run i = after_steps (opened run) (take i run.steps)

-- The end of a log's run.
use Rattle.std.specs.Prelude.{ℕ, List, eqb}
use Rattle.words.specs.Tests.{choose}
use Rattle.register.specs.declared.table.Register.{Register}
use Rattle.register.specs.Opening.{closed}
use Rattle.register.specs.Runs.{after_steps}
use Rattle.packed_log.specs.Openings.{opening_in}
use Rattle.replay.specs.declared.ending.Ended.{Ended}
use Rattle.replay.specs.Bodies.{body_of, fault_of}

-- the register behind the log's last step
unfoldable pub last_of : (log : List ℕ) → Register
last_of log = after_steps (opening_in log).register (body_of log).steps

-- what running the log gives: that register and 0; or, where it does not read, a register without offices and the number that it is refused with
unfoldable pub end_of : (log : List ℕ) → Ended
end_of log = record { register = choose (eqb (fault_of log) 0) (last_of log) closed; refusal = fault_of log }

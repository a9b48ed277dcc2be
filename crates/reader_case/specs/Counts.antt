-- Counting the steps of a log.
use Rattle.std.specs.Prelude.{ℕ, zero, suc, Option, Some, None, List, eqb, length}
use Rattle.words.specs.Tests.{choose}
use Rattle.packed_log.specs.Openings.{opening_in}
use Rattle.replay.specs.Bodies.{body_of, fault_of}
use Rattle.reader_case.specs.declared.Count.{Count}

-- so many steps, and a refusal or none
abbrev pub count : (steps : ℕ) → (refusal : Option ℕ) → Count
count steps refusal = record { steps = steps; refusal = refusal }

-- the refusal of that number; 0 is none
unfoldable pub refusal_of : (number : ℕ) → Option ℕ
refusal_of zero = None
refusal_of (suc k) = Some (suc k)

-- the count of a whole log: the steps behind its opening, none where that is refused, and the refusal that the log is refused with, if any
unfoldable pub count_of : (log : List ℕ) → Count
count_of log = count (choose (eqb (opening_in log).refusal 0) (length (body_of log).steps) 0) (refusal_of (fault_of log))

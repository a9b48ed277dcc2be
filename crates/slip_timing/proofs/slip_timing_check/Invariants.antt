-- `slip_timing_check`: a log that does not read, and a slip that is checked turn for turn.
use Prim.Native.Nat.{◌^◌, ◌<◌, ◌≤◌}
use mathlib.Core.Path.{◌≡◌}
use Rattle.register.specs.Books.{book_of}
use Rattle.slip.specs.Checking.{checked}
use Rattle.skovarnek_slip.specs.Answers.{tells_checked}
use Rattle.slip_timing.proofs.slip_timing_check.Given as goal

abbrev pub invariant-loop-turn : goal.invariant-loop-turn
invariant-loop-turn l =
    (l.last < 2 ^ 24) × (l._turn ≡ 0 → l.last ≡ 0)
    × (0 < l._turn → l.times ≤ 2147483647 → l.last ≡ tells_checked (checked (book_of l.register) l.slip))

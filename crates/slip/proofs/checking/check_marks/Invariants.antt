-- `slip::checking::check_marks`: at each turn the marks on the blocks passed are in the history, and it is known whether those blocks are links.
use Prim.Native.Nat.{ℕ}
use Rattle.tables.specs.Blocks.{parent_in, epoch_in}
use Rattle.tables.specs.Columns.{parents_of, epochs_of}
use Rattle.tables.proofs.Chains.{parent_in_lt}
use Rattle.slip.proofs.Judging.{Judged}
use Rattle.slip.proofs.checking.check_marks.Given as goal

abbrev pub invariant-loop-at : goal.invariant-loop-at
invariant-loop-at l =
    let last : ℕ = l.blocks.last.0 in
    Judged l.slip l.history (parent_in (parents_of l.blocks) last) (epoch_in (epochs_of l.blocks) last) (parent_in_lt (parents_of l.blocks) last)
    l.n l.fn.b.0 l.three l.notarised l.end l.at.0

abbrev pub decreases-loop-at : goal.decreases-loop-at
decreases-loop-at l = l.at.0

-- `tables::blocks::Blocks::name`: at each turn no block below b is the one looked for.
use Prim.Native.Nat.{◌+◌, ◌-◌}
use Rattle.tables.specs.Columns.{parents_of, epochs_of}
use Rattle.tables.proofs.Scans.{Unnamed}
use Rattle.tables.proofs.blocks.Blocks.name.Given as goal

abbrev pub invariant-loop-b : goal.invariant-loop-b
invariant-loop-b l = Unnamed (parents_of l.self) (epochs_of l.self) l.self.payloads l.self.last.0 l.header.parent.0 l.header.epoch.0 l.header.payload l.b

abbrev pub decreases-loop-b : goal.decreases-loop-b
decreases-loop-b l = l.last + 1 - l.b

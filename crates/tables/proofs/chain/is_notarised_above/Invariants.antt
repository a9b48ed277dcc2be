-- `tables::chain::is_notarised_above`: at each turn the blocks tested are certified, so the chain above the base is so as from the block reached.
use Prim.Native.Nat.{ℕ}
use mathlib.Core.Path.{◌≡◌}
use mathlib.Core.List.{List}
use Rattle.tables.specs.Columns.{parents_of, epochs_of, signers_of, about_of, sent_of}
use Rattle.tables.specs.Searches.{view_in, certified_above}
use Rattle.tables.proofs.chain.is_notarised_above.Given as goal

abbrev pub invariant-loop : goal.invariant-loop
invariant-loop l =
    let view : List ℕ = view_in l.messages.places (signers_of l.messages) (about_of l.messages) (sent_of l.messages) l.office.0 in
    certified_above view (parents_of l.blocks) (epochs_of l.blocks) l.blocks.last.0 l.few l.fn.b.0 l.base.0 ≡ certified_above view (parents_of l.blocks) (epochs_of l.blocks) l.blocks.last.0 l.few l.at.0 l.base.0

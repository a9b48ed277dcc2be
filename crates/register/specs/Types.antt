-- The types of the code, as the rules name them. What the rules read of a register is its book.
pub use Rattle.tables.specs.declared.sorts.Office.{Office}
pub use Rattle.tables.specs.declared.sorts.Epoch.{Epoch}
pub use Rattle.tables.specs.declared.sorts.Block.{Block}
pub use Rattle.tables.specs.declared.sorts.Message.{Message}
pub use Rattle.tables.specs.declared.sorts.Kind.{Kind}
pub use Rattle.tables.specs.declared.sorts.Kind.TheVariants.{Proposal, Vote}
pub use Rattle.tables.specs.declared.sorts.Stage.{Stage}
pub use Rattle.register.specs.declared.step.Step.{Step}
pub use Rattle.tables.specs.declared.blocks.Header.{Header}
pub use Rattle.register.specs.declared.table.Content.{Content}
pub use Rattle.register.specs.declared.table.OfficeState.{OfficeState}
pub use Rattle.register.specs.declared.table.Register.{Register}
pub use Rattle.register.specs.declared.table.Opened.{Opened}
pub use Rattle.register.specs.declared.table.Stepped.{Stepped}
pub use Rattle.register.specs.declared.table.Ran.{Ran}
pub use Rattle.register.specs.declared.table.Notarised.{Notarised}
pub use Rattle.register.specs.declared.book.Book.{Book}
pub use Rattle.register.specs.declared.change.Clock.{Clock}
pub use Rattle.register.specs.declared.change.BlockEntry.{BlockEntry}
pub use Rattle.register.specs.declared.change.MessageEntry.{MessageEntry}
pub use Rattle.register.specs.declared.change.PlaceEntry.{PlaceEntry}
pub use Rattle.register.specs.declared.change.OfficeEntry.{OfficeEntry}
pub use Rattle.register.specs.declared.change.Answer.{Answer}
pub use Rattle.register.specs.declared.change.Change.{Change}
pub use Rattle.register.specs.declared.actor.Actor.{Actor}

use Rattle.tables.specs.Columns.{signers_of, about_of}
use Rattle.tables.proofs.Columns.{office_entry, block_entry}
use Rattle.tables.proofs.Views.{signers_next}
use Rattle.tables.proofs.messages.Messages.chunk_signers.Goals as goal

pub loop-m-preserved : goal.loop-m-preserved
loop-m-preserved c =
    let t = c.args.self.now in
    signers_next t.places (signers_of t) (about_of t) c.args.office.0 c.args.b.0 c.loop-m.m c.loop-m.all c.with_signer-all.result c.loop-m.invariant
    (rw (block_entry, office_entry) c.with_signer-all.ensures)

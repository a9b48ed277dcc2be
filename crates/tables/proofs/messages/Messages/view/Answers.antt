use borrow.Author.Rules.{rules}
use mathlib.Core.Path.{refl}
use native.Mathlib.Omega.{arith}
use Rattle.tables.specs.Columns.{signers_of, about_of}
use Rattle.tables.proofs.Columns.{office_entry, block_entry}
use Rattle.tables.proofs.Views.{gather_none, gather_turn, gather_all}
use Rattle.tables.proofs.messages.Messages.view.Goals as goal

pub loop-low-init : goal.loop-low-init
loop-low-init c =
    let a = c.args in
    (search rules, search rules, search rules, (refl, gather_none a.self.now.places (signers_of a.self.now) (about_of a.self.now) c.sent-sent.result a.office.0))

pub loop-low-preserved : goal.loop-low-preserved
loop-low-preserved c =
    let a = c.args in
    let turn = c.loop-low in (
      omega arith,
      omega arith,
      omega arith,
      gather_turn a.self.now.places (signers_of a.self.now) (about_of a.self.now) c.sent-sent.result a.office.0 turn.low turn.high turn.sets c.note.new.sets c.note-in-loop-low.new.sets
          c.loop-low-test.true turn.invariant.2 turn.invariant.3.0 turn.invariant.3.1 (rw (block_entry, office_entry) c.note.ensures)
          (rw (block_entry, office_entry) c.note-in-loop-low.ensures),
    )

pub returns : goal.returns
returns c =
    let a = c.args in
    let turn = c.loop-low in
    rw (← c.sent-sent.ensures)
    (gather_all a.self.now.places (signers_of a.self.now) (about_of a.self.now) c.sent-sent.result a.office.0 turn.low turn.high turn.sets
    c.loop-low-test.false turn.invariant.3.0 turn.invariant.3.1)

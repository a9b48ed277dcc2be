-- `report::lines::write_office`: the line of a trusted office.
use mathlib.Core.Path.{◌≡◌, refl, sym, ◌∙◌}
use mathlib.Core.Bool.{true, false}
use native.Mathlib.Nat.{add-zero}
use native.Mathlib.Omega.{arith}
use Rattle.register.specs.Books.{book_of}
use Rattle.register.specs.Tables.{trusted}
use Rattle.words.specs.Tests.{choose}
use Rattle.report.specs.Reports.{office_text}
use Rattle.report.proofs.RunText.{office_some}
use Rattle.report.proofs.lines.write_office.Goals as goal

pub returns-then-not-is_trusted : goal.returns-then-not-is_trusted
unfolding office_text choose
returns-then-not-is_trusted c =
    let a = c.args in
    let none : trusted (book_of a.register.now) a.q ≡ false = sym c.is_trusted.ensures ∙ c.if-not-is_trusted.true in
    (rw none (record { counted = sym (add-zero _); laid = refl }), omega arith)

pub returns : goal.returns
returns c =
    let a = c.args in
    let some : trusted (book_of a.register.now) a.q ≡ true = sym c.is_trusted.ensures ∙ c.if-not-is_trusted.false in
    let line = c.write_office_line.ensures in
    let is =
    office_some a.register.now a.q _ _ _ some c.final_block-last.ensures c.chain_length-size.ensures
    c.notarised-told.ensures in
    (rw is line.0, line.1)

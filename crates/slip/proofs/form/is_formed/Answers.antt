-- `slip::form::is_formed`: the length decides how many bits of pad there are, and these are read as a field.
use mathlib.Core.Path.{sym, ◌∙◌}
use Rattle.slip.proofs.FormLaws.{ill_sized, well_sized}
use Rattle.slip.proofs.form.is_formed.Goals as goal

pub returns-then-slip-bytes_due : goal.returns-then-slip-bytes_due
returns-then-slip-bytes_due c =
    let a = c.args in
    ill_sized a.slip.now a.bits (λ e. c.if-slip-bytes_due.true (e ∙ sym c.bytes_due.ensures))

pub returns : goal.returns
returns c = well_sized _ _ _ c.requires (c.if-slip-bytes_due.false ∙ c.bytes_due.ensures) c.read_field.ensures

-- `slip::form::block_in`: the block's 8 bits are the first byte.
use mathlib.Core.Path.{◌∙◌}
use native.Mathlib.Omega.{arith}
use Rattle.slip.proofs.FormLaws.{first_byte, no_byte}
use Rattle.slip.proofs.form.block_in.Goals as goal

pub returns-in-Some : goal.returns-in-Some
returns-in-Some c =
    let there = c.in-Some.ensures.item.3 in
    there.1 0 ∙ first_byte _ there.0 (c.type_inv.slip 0).fits

pub returns-in-None : goal.returns-in-None
returns-in-None c = no_byte _ (omega (arith, c.in-None.ensures.item.3))

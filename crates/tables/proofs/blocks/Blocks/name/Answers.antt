use mathlib.Core.Path.{sym, ◌∙◌}
use Rattle.words.proofs.Tests.{either_false_right}
use Rattle.tables.proofs.Scans.{unnamed_past, named_here, named_new}
use Rattle.tables.proofs.blocks.Blocks.name.Goals as goal

pub loop-b-preserved-then-not-may_have : goal.loop-b-preserved-then-not-may_have
loop-b-preserved-then-not-may_have c =
    unnamed_past _ _ _ _ _ _ _ _ c.loop-b.invariant (either_false_right _ _ (sym c.may_have.ensures ∙ c.if-not-may_have.true))

pub returns-then-b-has : goal.returns-then-b-has
returns-then-b-has c =
    named_here _ _ _ _ _ _ _ _ c.loop-b.invariant _ c.has.ensures c.loop-b-test.true c.if-b-has.true

pub returns : goal.returns
returns c = named_new _ _ _ _ _ _ _ _ c.loop-b.invariant c.loop-b-test.false

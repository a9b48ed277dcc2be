use borrow.Author.Rules.{rules}
use mathlib.Core.Path.{◌≡◌, refl, sym, ◌∙◌}
use Rattle.std.specs.Prelude.{Err}
use Rattle.replay.proofs.BodyLaws.{skipped_tells}
use Rattle.replay.proofs.body.check_from.Goals as goal

pub returns-in_err-skip : goal.returns-in_err-skip
returns-in_err-skip c =
    let is : c.from_residual.result ≡ Err c.in_err-skip.field-0.0 = search rules in
    rw is (sym (c.loop-skip.invariant ∙ (skipped_tells _ _ _ c.in_err-skip.ensures).closed refl))

pub returns-then-skip-eq0 : goal.returns-then-skip-eq0
returns-then-skip-eq0 c = sym (c.loop-skip.invariant ∙ (skipped_tells _ _ _ c.in_ok-skip.ensures).closed c.if-skip-eq0.true)

pub loop-skip-smaller : goal.loop-skip-smaller
loop-skip-smaller c = (skipped_tells _ _ _ c.in_ok-skip.ensures).fewer c.if-skip-eq0.false

pub loop-skip-preserved : goal.loop-skip-preserved
loop-skip-preserved c = c.loop-skip.invariant ∙ (skipped_tells _ _ _ c.in_ok-skip.ensures).behind c.if-skip-eq0.false

use borrow.Author.Rules.{rules}
use mathlib.Core.Path.{refl, sym, ◌∙◌}
use native.Mathlib.Omega.{arith}
use Rattle.words.specs.Tests.{any}
use Rattle.words.proofs.Tests.{any_more}
use Rattle.tables.specs.Searches.{signed_in}
use Rattle.tables.proofs.messages.Messages.is_signed.Goals as goal

pub loop-from-init : goal.loop-from-init
unfolding signed_in
loop-from-init c = ((search rules, λ _. refl), unfold any in refl)

pub returns-then-chunk_signed : goal.returns-then-chunk_signed
unfolding signed_in
returns-then-chunk_signed c = sym (any_more _ _ _ (omega arith) (sym c.chunk_signed.ensures ∙ c.if-chunk_signed.true))

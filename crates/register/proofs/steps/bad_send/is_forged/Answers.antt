-- `is_forged`: an untrusted signer's message is never forged, a trusted signer's is where the history has none like it.
use native.Mathlib.Omega.{arith}
use Prim.Native.Nat.{ℕ, min}
use mathlib.Core.Path.{◌≡◌, sym, ◌∙◌}
use Rattle.words.specs.Tests.{both}
use Rattle.register.specs.Books.{book_of}
use Rattle.register.proofs.steps.bad_send.is_forged.Goals as goal

pub returns-then-not-is_trusted : goal.returns-then-not-is_trusted
unfolding both book_of
returns-then-not-is_trusted c = rw (sym c.is_trusted.ensures ∙ c.if-not-is_trusted.true)

pub returns : goal.returns
unfolding both book_of
returns c =
    let count : ℕ = (book_of c.args.register.now).count in
    let sent : min count 1024 ≡ count = omega arith in
    rw (sym c.is_trusted.ensures ∙ c.if-not-is_trusted.false, c.in_history.ensures, sent)

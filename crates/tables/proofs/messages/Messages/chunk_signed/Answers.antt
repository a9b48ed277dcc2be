use borrow.Author.Rules.{rules}
use mathlib.Core.Path.{sym, ◌∙◌}
use native.Mathlib.Omega.{arith}
use Rattle.tables.specs.Columns.{signers_of, about_of}
use Rattle.tables.proofs.Scans.{unsigned_past, unsaid_past, unseen_past, signed_hit}
use Rattle.tables.proofs.messages.Messages.chunk_signed.Goals as goal

pub returns-then-not-chunk_says : goal.returns-then-not-chunk_says
returns-then-not-chunk_says c =
    let a = c.args in
    sym c.requires ∙ unsaid_past a.self.now.places (signers_of a.self.now) (about_of a.self.now) a.office.0 a.signer.0 a.b.0 a.chunk.from
    (rw (← c.chunk_says.ensures) c.if-not-chunk_says.true) _ (search rules)

pub returns-then-not-chunk_seen : goal.returns-then-not-chunk_seen
returns-then-not-chunk_seen c =
    sym c.requires ∙ unseen_past _ _ _ _ _ _ _ (sym c.chunk_seen.ensures ∙ c.if-not-chunk_seen.true) _ (search rules)

pub returns-then-is_signature : goal.returns-then-is_signature
returns-then-is_signature c =
    let t = c.args.self.now in
    signed_hit t.places (signers_of t) (about_of t) _ _ _ _ _ _ c.loop-i-test.true _ c.is_signature.ensures c.loop-i.auto.i c.if-is_signature.true

pub returns : goal.returns
returns c =
    sym c.requires ∙ unsigned_past _ _ _ _ _ _ _ _ (λ i low l. c.loop-i.invariant i (omega arith) l)

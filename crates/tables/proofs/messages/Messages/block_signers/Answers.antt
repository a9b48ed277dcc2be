use borrow.Author.Rules.{rules}
use Prim.Native.Nat.{◌+◌, ◌≤◌}
use mathlib.Core.Path.{◌≡◌, refl, sym, ◌∙◌}
use native.Mathlib.Omega.{arith}
use Rattle.tables.specs.Columns.{signers_of, about_of}
use Rattle.tables.specs.Searches.{signers_in}
use Rattle.tables.proofs.Scans.{past_chunk}
use Rattle.tables.proofs.Views.{signers_none, signers_past}
use Rattle.tables.proofs.messages.Messages.block_signers.Goals as goal
use Rattle.tables.proofs.messages.Messages.block_signers.Goals.{Joined-chunk_about, then-chunk_about+else-read-eq-FEW, else-chunk_about}

-- past a chunk the set holds the signers by its messages too: they were read, or none is about the block
abbrev Held : Joined-chunk_about → Type 0
Held c =
    let turn = c.loop-from in
    let a = c.args in
    (c.if-chunk_about.set ≡ signers_in a.self.now.places (signers_of a.self.now) (about_of a.self.now) (turn.from + c.chunk_at-chunk.result.size) a.office.0 a.b.0)
    × (c.if-chunk_about.read ≤ 2)

held : (c : Joined-chunk_about) → Held c
held c =
    let turn = c.loop-from in
    let a = c.args in
    elim c.if-chunk_about.branch as (λ _. Held c) [
      | then-chunk_about+else-read-eq-FEW w ↦ (rw w.set-is (rw c.chunk_at-chunk.ensures.starts at w.chunk_signers-set.ensures), rw w.read-is (omega (arith, turn.invariant.2, w.if-read-eq-FEW.false)))
      | else-chunk_about w ↦ (
        w.set-is ∙ signers_past a.self.now.places (signers_of a.self.now) (about_of a.self.now) a.office.0 a.b.0 _ _ _ (search rules) turn.invariant.1
            (rw c.chunk_at-chunk.ensures.starts at (sym c.chunk_about.ensures ∙ w.if-chunk_about.false)),
        rw w.read-is turn.invariant.2,
      )
    ]

pub loop-from-init : goal.loop-from-init
loop-from-init c = ((search rules, λ _. refl), signers_none _ _ _ _ _, search rules)

pub loop-from-preserved : goal.loop-from-preserved
loop-from-preserved c =
    (past_chunk _ _ _ c.loop-from.invariant.0 c.loop-from-test.true c.chunk_at-chunk.ensures.ends, (held (goal.at.loop-from-preserved c).Joined-chunk_about).0, (held (goal.at.loop-from-preserved c).Joined-chunk_about).1)

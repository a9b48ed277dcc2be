-- Judging the marks of a slip on the way down a chain.
use Prim.Native.Nat.{ℕ, suc, ◌+◌, ◌*◌, ◌-◌, ◌≤◌, ◌<◌}
use mathlib.Core.Path.{◌≡◌, refl, ap, ◌∙◌}
use mathlib.Core.Bool.{Bool, true, false, not, ◌&&◌}
use mathlib.Core.List.{List, [], ◌∷◌}
use native.Mathlib.Nat.{mul-suc}
use native.Mathlib.Omega.{arith}
use lib.Dec.{ltb}
use lib.ListN.{length, get_or}
use Rattle.words.specs.Tests.{choose, both, every}
use Rattle.words.specs.Digits.{within}
use Rattle.words.specs.Refusals.{◌⇒◌, first}
use Rattle.words.proofs.Tests.{and_both, both_all}
use Rattle.tables.specs.Chains.{chain_by}
use Rattle.tables.specs.Searches.{enough_in}
use Rattle.tables.proofs.Chains.{Down, chain_by_genesis, chain_by_step}
use Rattle.packed_log.specs.Fields.{field_at}
use Rattle.slip.specs.Rows.{row_in, truth_in, link_in}
use Rattle.slip.proofs.FormLaws.{field_there}

-- three tests joined, in either way
both_assoc : (a b c : Bool) → both a (both b c) ≡ both (both a b) c
unfolding both
both_assoc true b c = refl
both_assoc false b c = refl

module _ (slip history : List ℕ) (parent epoch : ℕ → ℕ) (down : Down parent) (n : ℕ) where
  -- how far the marks on block b's chain are judged: down to block `at`, whose rows end at position `end`
  pub record Judged (b : ℕ) (three : Bool) (notarised : Bool) (end at : ℕ) : Type 0 where
    pub below : at ≤ b
    pub position : end ≡ 8 + n * length (chain_by parent at)
    pub room : end ≤ 8 * length slip
    pub truths : every (truth_in slip history parent n) (chain_by parent b) ≡ every (truth_in slip history parent n) (chain_by parent at)
    pub links : both three (every (link_in slip parent epoch n) (chain_by parent b))
        ≡ both notarised (every (link_in slip parent epoch n) (chain_by parent at))

  -- none is judged yet
  pub judged_none : (b due : ℕ) (three : Bool) → due ≡ 8 + n * length (chain_by parent b) → due ≤ 8 * length slip → Judged b three three due b
  judged_none b due three position room = record { below = omega arith; position = position; room = room; truths = refl; links = refl }

  module _ {b : ℕ} {three notarised : Bool} {end at : ℕ} (so_far : Judged b three notarised end at) (above : 0 < at) where
    -- a chain has one block more than its last block's parent's
    one_more : length (chain_by parent at) ≡ suc (length (chain_by parent (parent at)))
    one_more = ap length (chain_by_step parent down at above)

    -- the block's row stands in front of the position, behind those of its parent's chain
    pub row_before : end ≡ 8 + n * length (chain_by parent (parent at)) + n
    row_before = so_far.position ∙ rw (one_more, mul-suc) (omega arith)

    -- and is read there
    pub row_read : length slip ≤ 65536 → n ≤ 32 → field_at slip (end - n) n ≡ row_in slip parent n at
    unfolding row_in
    row_read short few =
        let place : length (chain_by parent at) - 1 ≡ length (chain_by parent (parent at)) = omega (arith, one_more) in
        let start : end - n ≡ 8 + n * length (chain_by parent (parent at)) = omega (arith, row_before) in
        rw (place, start) (field_there slip _ n short few (omega (arith, row_before, so_far.room)))

    module _ (row : ℕ) (read : row ≡ row_in slip parent n at) where
      -- where a mark on the block is not in the history, that decides
      pub untrue : within row (get_or history at 0) ≡ false → (rest : Bool)
          → 34 ≡ first ((not (every (truth_in slip history parent n) (chain_by parent b)) ⇒ 34) ∷ (rest ⇒ 21) ∷ [])
      unfolding first choose every both truth_in
      untrue false-mark rest = rw (so_far.truths, chain_by_step parent down at above, ← read, false-mark)

      -- where all are, judging goes on with the parent
      pub judged_more : within row (get_or history at 0) ≡ true → (ok : Bool)
          → ok ≡ both (ltb (epoch (parent at)) (epoch at)) (enough_in row n) → Judged b three (notarised && ok) (end - n) (parent at)
      unfolding every both truth_in link_in
      judged_more true_marks ok link =
          record {
            below = omega (arith, so_far.below, down at above);
            position = omega (arith, row_before);
            room = omega (arith, so_far.room);
            truths = so_far.truths ∙ rw (chain_by_step parent down at above, ← read, true_marks);
            links = so_far.links ∙ rw (chain_by_step parent down at above, ← read, ← link, and_both) (both_assoc notarised ok _);
          }

  module _ {b : ℕ} {three notarised : Bool} {end at : ℕ} (so_far : Judged b three notarised end at) (over : at ≡ 0) where
    -- where no block is left, every mark is in the history, and the other tests have decided
    pub judged_all : (k : ℕ) → k ≡ choose notarised 0 21
        → k
        ≡ first
        ((not (every (truth_in slip history parent n) (chain_by parent b)) ⇒ 34)
        ∷ (not (both three (every (link_in slip parent epoch n) (chain_by parent b))) ⇒ 21)
        ∷ [])
    unfolding first every choose
    judged_all k is =
        rw (is, so_far.truths, so_far.links, over, chain_by_genesis parent, both_all) (decide notarised)
      where
        decide : (t : Bool) → ◌≡◌ {A = ℕ} (choose t 0 21) (choose (not true) 34 (choose (not t) 21 0))
        decide true = refl
        decide false = refl

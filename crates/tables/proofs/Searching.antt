-- Climbing chains and searching for a longer one: what a turn of each loop adds, and what it tells of the chain.
use Prim.Native.Nat.{ℕ, zero, suc, ◌+◌, ◌*◌, ◌<◌, ◌≤◌}
use mathlib.Core.Path.{◌≡◌, refl, sym, ap, ◌∙◌}
use mathlib.Core.Bool.{Bool, true, false, not, ◌&&◌}
use mathlib.Core.Logic.{◌⊎◌, inl, inr, ⊎_elim}
use mathlib.Core.List.{List, [], ◌∷◌}
use native.Mathlib.Omega.{arith}
use native.Mathlib.Numerals.{add-one}
use native.Mathlib.Decide.{ℕ_discrete, dec_lt}
use borrow.Author.Tests.{eq-eqb, ne_eqb, eqb-true, eqb-false, lt-ltb, le-ltb, ltb-true, lt-leb}
use lib.Dec.{eqb, ltb}
use lib.ListN.{length}
use Rattle.quorum.specs.Enough.{enough}
use Rattle.quorum.proofs.Enough.{enough_make}
use Rattle.words.specs.Digits.{fill, in_set, set_of}
use Rattle.words.specs.Sums.{tally}
use Rattle.words.specs.Tests.{choose, both, either, every}
use Rattle.words.proofs.Tests.{and_both, any_fails, any_same, both_left, both_right, decided, either_cases, either_left, either_false_left, either_false_right}
use Rattle.words.proofs.Sums.{always, tally_always, tally_ext, tally_none}
use Rattle.words.proofs.Digits.{digit_zero, in_set_lem}
use Rattle.tables.specs.Blocks.{parent_in}
use Rattle.tables.specs.Chains.{chain_by}
use Rattle.tables.specs.Searches.{blocks, offices, enough_in, certified_by, certified_in, above, certified_above, rank, rank_above, raised, outranked, longer_by, longest_by, longest_in}
use Rattle.tables.proofs.Chains.{Down, parent_in_lt, chain_by_genesis, chain_by_step, climb_induction}

-- the chain of genesis is of certified blocks alone
certified_genesis : (parent : ℕ → ℕ) (certified : ℕ → Bool) → every certified (chain_by parent 0) ≡ true
unfolding every
certified_genesis parent certified = rw (chain_by_genesis parent)

-- the word of 32 ones is the set of all 32 offices
everyone_all : 4294967295 ≡ set_of always
unfolding set_of fill choose
everyone_all = refl

-- everyone is enough, however many offices there are
pub everyone_enough : (n : ℕ) → n ≤ offices → enough_in 4294967295 n ≡ true
everyone_enough n few =
    let in-it : (s : ℕ) → s < n → in_set 4294967295 s ≡ true = λ s h. rw everyone_all (in_set_lem always s (omega arith)) in
    enough_make _ n (omega (arith, tally_ext n (in_set 4294967295) always in-it, tally_always n))

-- nobody is not enough, where there are offices
pub nobody_enough : (set n : ℕ) → eqb set 0 && ltb 0 n ≡ true → enough_in set n ≡ false
unfolding enough
nobody_enough set n e =
    let nobody : both (eqb set 0) (ltb 0 n) ≡ true = sym (and_both _ _) ∙ e in
    let none : tally n (in_set 0) ≡ 0 = tally_none n (in_set 0) (λ s. rw (digit_zero 2 s)) in
    rw (eqb-true set 0 (both_left _ _ nobody), none) (lt-leb (2 * n) 0 (omega (arith, ltb-true 0 n (both_right _ _ nobody))))

-- a certified block has enough signers
pub certified_enough : (parent epoch : ℕ → ℕ) (n b set : ℕ) (t : Bool) → t ≡ certified_by parent epoch (λ _. enough_in set n) b → t ≡ true → enough_in set n ≡ true
unfolding certified_by
certified_enough parent epoch n b set t e holds = both_right _ _ (sym e ∙ holds)

-- a rank raised by no block
pub raised_start : (r : ℕ) → r ≡ raised 0 r
unfolding raised
raised_start zero = refl
raised_start (suc r) = omega arith

-- above a rank that is not 0
pub raised_some : (climbed k : ℕ) → raised climbed (k + 1) ≡ k + 1 + climbed
unfolding raised
raised_some climbed k = rw (add-one k)

-- one certified block more
raised_one : (climbed n : ℕ) (t : Bool) → raised climbed (choose t (suc n + 1) 0) ≡ raised (climbed + 1) (choose t (n + 1) 0)
unfolding raised choose
raised_one climbed n true = rw (raised_some climbed (suc n), raised_some (climbed + 1) n) (omega arith)
raised_one climbed n false = refl

-- a climb that ends at genesis, or where another test holds, is above genesis where it goes on
pub unmet_above : (at : ℕ) (t : Bool) → either (eqb at 0) t ≡ false → 0 < at
unmet_above at t more = omega (arith, eqb-false at 0 (either_false_left (eqb at 0) t more))

-- above genesis a climb to genesis goes on
pub over_genesis : (at : ℕ) → 0 < at → either (eqb at 0) (eqb at 0) ≡ false
unfolding either
over_genesis at h = rw (ne_eqb at 0 (omega arith))

-- so many blocks of block b's chain have been climbed, up to block `at`, whose chain is the rest
pub record Climbed (parent : ℕ → ℕ) (b climbed at : ℕ) : Type 0 where
  pub within : climbed + at ≤ b
  pub rest : climbed + length (chain_by parent at) ≡ length (chain_by parent b)

module _ (parent : ℕ → ℕ) (down : Down parent) where
  -- the chain of any block but genesis is one longer than its parent's
  pub length_by_step : (b : ℕ) → 0 < b → length (chain_by parent b) ≡ length (chain_by parent (parent b)) + 1
  length_by_step b h = rw (chain_by_step parent down b h) (omega arith)

  -- a chain is no longer than its last block's number
  length_by_most : (b : ℕ) → length (chain_by parent b) ≤ b
  length_by_most =
      climb_induction parent down (λ (b : ℕ). length (chain_by parent b) ≤ b) (omega (arith, ap length (chain_by_genesis parent)))
      (λ b h ih. omega (arith, ih, length_by_step b h, down b h))

  -- a climb goes on to the next parent
  pub climbed_on : (b climbed at : ℕ) → 0 < at → Climbed parent b climbed at → Climbed parent b (climbed + 1) (parent at)
  climbed_on b climbed at h c =
      record { within = omega (arith, c.within, down at h); rest = omega (arith, c.rest, length_by_step at h) }

  -- a chain that was climbed down to another block, or for as many blocks as that one's number, is not shorter than its chain
  pub not_shorter : (b other climbed at : ℕ) → Climbed parent b climbed at → (at ≡ other) ⊎ (other ≤ climbed)
      → false ≡ ltb (length (chain_by parent b)) (length (chain_by parent other))
  not_shorter b other climbed at c (inl met) =
      let one : length (chain_by parent at) ≡ length (chain_by parent other) = ap (λ (x : ℕ). length (chain_by parent x)) met in
      sym (le-ltb (length (chain_by parent b)) (length (chain_by parent other)) (omega (arith, one, c.rest)))
  not_shorter b other climbed at c (inr far) =
      sym (le-ltb (length (chain_by parent b)) (length (chain_by parent other)) (omega (arith, far, length_by_most other, c.rest)))

  -- climbs that end at genesis or at a base
  module _ (base : ℕ) where
    -- at the end no block of the chain is above the base
    above_end : (at : ℕ) → either (eqb at 0) (eqb at base) ≡ true → above base (chain_by parent at) ≡ []
    unfolding above choose either
    above_end at end =
        elim (ℕ_discrete at 0) as (λ _. above base (chain_by parent at) ≡ []) [
          | yes genesis ↦ rw (genesis, chain_by_genesis parent)
          | no over ↦ rw (chain_by_step parent down at (omega (arith, over)), rw (ne_eqb at 0 over) at end)
        ]

    -- elsewhere: the block itself, and then those of its parent's chain above the base
    above_next : (at : ℕ) → either (eqb at 0) (eqb at base) ≡ false → above base (chain_by parent at) ≡ at ∷ above base (chain_by parent (parent at))
    unfolding above choose
    above_next at more = rw (chain_by_step parent down at (unmet_above at (eqb at base) more), either_false_right (eqb at 0) (eqb at base) more)

    -- a rule on such climbs by induction: from their ends, and from each parent to its block
    above_induction : (P : ℕ → Type 0) → ((b : ℕ) → either (eqb b 0) (eqb b base) ≡ true → P b)
        → ((b : ℕ) → either (eqb b 0) (eqb b base) ≡ false → P (parent b) → P b) → (b : ℕ) → P b
    above_induction P end step =
        climb_induction parent down P (end 0 (either_left (eqb 0 0) (eqb 0 base) (eq-eqb 0 0 refl)))
        (λ b h ih. ⊎_elim (end b) (λ more. step b more ih) (decided (either (eqb b 0) (eqb b base))))

  -- two tests that agree on every block agree on every chain
  pub certified_same : (p q : ℕ → Bool) → ((b : ℕ) → 0 < b → b < blocks → p b ≡ q b)
      → (b : ℕ) → b < blocks → every p (chain_by parent b) ≡ every q (chain_by parent b)
  unfolding every
  certified_same p q same =
      climb_induction parent down (λ (b : ℕ). b < blocks → every p (chain_by parent b) ≡ every q (chain_by parent b))
      (λ l. rw (chain_by_genesis parent))
      (λ b h ih l. rw (chain_by_step parent down b h, same b h l, ih (omega (arith, down b h))))

  -- where the base's chain is of certified blocks alone, b's chain is so exactly where its blocks above the base are certified
  pub certified_above_lem : (certified : ℕ → Bool) (base : ℕ) → every certified (chain_by parent base) ≡ true
      → (b : ℕ) → every certified (above base (chain_by parent b)) ≡ every certified (chain_by parent b)
  unfolding every
  certified_above_lem certified base whole =
      above_induction base (λ (b : ℕ). every certified (above base (chain_by parent b)) ≡ every certified (chain_by parent b))
      (λ b end.
      rw (above_end base b end)
      (⊎_elim (λ (genesis : eqb b 0 ≡ true). rw (eqb-true b 0 genesis) (sym (certified_genesis parent certified)))
      (λ (met : eqb b base ≡ true). rw (eqb-true b base met) (sym whole)) (either_cases (eqb b 0) (eqb b base) end)))
      (λ b more ih. rw (above_next base b more, chain_by_step parent down b (unmet_above b (eqb b base) more), ih))

  -- every block of a chain is above genesis
  pub above_genesis : (b : ℕ) → above 0 (chain_by parent b) ≡ chain_by parent b
  unfolding above choose
  above_genesis =
      climb_induction parent down (λ (b : ℕ). above 0 (chain_by parent b) ≡ chain_by parent b) (rw (chain_by_genesis parent))
      (λ b h ih. rw (chain_by_step parent down b h, ne_eqb b 0 (omega arith), ih))

-- one more where a test holds, else 0, is above 0 where it holds
chosen_above : (t : Bool) (n : ℕ) → ltb 0 (choose t (n + 1) 0) ≡ t
unfolding choose
chosen_above true n = lt-ltb 0 (n + 1) (omega arith)
chosen_above false n = le-ltb 0 0 (omega arith)

chosen_most : (t : Bool) (n b : ℕ) → n ≤ b → choose t (n + 1) 0 ≤ b + 1
unfolding choose
chosen_most true n b h = omega arith
chosen_most false n b h = omega arith

-- more blocks, of a chain that passes a test: one more of each is more
more_blocks : (beat n : ℕ) (t : Bool) → both t (ltb beat n) ≡ ltb (beat + 1) (choose t (n + 1) 0)
unfolding both choose
more_blocks beat n true =
    elim (dec_lt beat n) as (λ _. ltb beat n ≡ ltb (beat + 1) (n + 1)) [
      | yes more ↦ lt-ltb beat n more ∙ sym (lt-ltb (beat + 1) (n + 1) (omega arith))
      | no over ↦ le-ltb beat n (omega arith) ∙ sym (le-ltb (beat + 1) (n + 1) (omega arith))
    ]
more_blocks beat n false = sym (le-ltb (beat + 1) 0 (omega arith))

-- climbs in a view
module _ (view parents epochs : List ℕ) (last n : ℕ) where
  abbrev parent : ℕ → ℕ
  parent = parent_in parents last

  abbrev certified : ℕ → Bool
  certified = certified_in view parents epochs last n

  abbrev certifiedTo : (base b : ℕ) → Bool
  certifiedTo base b = certified_above view parents epochs last n b base

  abbrev rankTo : (base b : ℕ) → ℕ
  rankTo base b = rank_above view parents epochs last n b base

  module _ (base at : ℕ) where
    -- at its foot a climb has no block left
    module _ (end : either (eqb at 0) (eqb at base) ≡ true) where
      pub foot_certified : certifiedTo base at ≡ true
      unfolding certified_above every
      foot_certified = rw (above_end parent (parent_in_lt parents last) base at end)

      pub foot_rank : rankTo base at ≡ 1
      unfolding rank_above rank every choose
      foot_rank = rw (above_end parent (parent_in_lt parents last) base at end)

    -- elsewhere the test of a block tells whether it goes on
    module _ (more : either (eqb at 0) (eqb at base) ≡ false) (t : Bool) (e : t ≡ certified at) where
      pub next_certified : t ≡ true → certifiedTo base at ≡ certifiedTo base (parent at)
      unfolding certified_above every both
      next_certified holds = rw (above_next parent (parent_in_lt parents last) base at more, sym e ∙ holds)

      pub stop_certified : t ≡ false → certifiedTo base at ≡ false
      unfolding certified_above every both
      stop_certified fails = rw (above_next parent (parent_in_lt parents last) base at more, sym e ∙ fails)

      pub next_rank : (climbed : ℕ) → t ≡ true → raised climbed (rankTo base at) ≡ raised (climbed + 1) (rankTo base (parent at))
      unfolding rank_above rank every both
      next_rank climbed holds =
          rw (above_next parent (parent_in_lt parents last) base at more, sym e ∙ holds) (raised_one climbed _ _)

      pub stop_rank : (climbed : ℕ) → t ≡ false → raised climbed (rankTo base at) ≡ 0
      unfolding rank_above rank every both raised choose
      stop_rank climbed fails = rw (above_next parent (parent_in_lt parents last) base at more, sym e ∙ fails)

  -- a rank tells whether the blocks above the base are certified
  pub rank_test : (base b : ℕ) → ltb 0 (rankTo base b) ≡ certifiedTo base b
  unfolding rank_above rank certified_above
  rank_test base b = chosen_above _ _

  -- above genesis is the whole chain
  rank_whole : (b : ℕ) → rankTo 0 b ≡ choose (every certified (chain_by parent b)) (length (chain_by parent b) + 1) 0
  unfolding rank_above rank
  rank_whole b = rw (above_genesis parent (parent_in_lt parents last) b)

  -- a rank is at most one more than the block's number
  pub rank_most : (b : ℕ) → rankTo 0 b ≤ b + 1
  rank_most b = rw (rank_whole b) (chosen_most (every certified (chain_by parent b)) _ b (length_by_most parent (parent_in_lt parents last) b))

  -- so no rank is above the one to beat, where that is above the last block's number
  pub none_outranks : (beat : ℕ) → last < beat → false ≡ outranked view parents epochs last n beat
  unfolding outranked
  none_outranks beat small = sym (any_fails _ (last + 1) (λ k l. le-ltb beat (rankTo 0 k) (omega (arith, rank_most k))))

  -- a rank tells whether the whole chain is certified
  whole_test : (b : ℕ) → every certified (chain_by parent b) ≡ ltb 0 (rankTo 0 b)
  whole_test b = rw (rank_whole b) (sym (chosen_above _ _))

  -- a chain of rank 0 is not longest
  pub unranked_longest : (b : ℕ) → rankTo 0 b ≡ 0 → false ≡ longest_in view parents epochs last n b
  unfolding longest_in longest_by both
  unranked_longest b none = rw (whole_test b, none)

  -- any other is, where no block has a greater rank
  pub ranked_longest : (b beat : ℕ) (found : Bool) → beat ≡ rankTo 0 b → 0 < beat → found ≡ outranked view parents epochs last n beat
      → not found ≡ longest_in view parents epochs last n b
  unfolding longest_in longest_by longer_by outranked both choose
  ranked_longest b beat found same some e =
      let all-of-it : every certified (chain_by parent b) ≡ true = whole_test b ∙ lt-ltb 0 (rankTo 0 b) (omega arith) in
      let whole : length (chain_by parent b) + 1 ≡ beat = sym (same ∙ rw all-of-it at (rank_whole b)) in
      rw (all-of-it, e, ← whole)
      (ap not (any_same _ _ (last + 1) (λ x l. rw (rank_whole x) (sym (more_blocks (length (chain_by parent b)) (length (chain_by parent x)) (every certified (chain_by parent x)))))))

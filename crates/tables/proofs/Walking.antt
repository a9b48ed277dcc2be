-- What is kept of the blocks that climbs have passed, by the rank s of each block: where the climb started, how many blocks it had passed with
-- this one, and the rank of the block that it started from. The first climb is from the block whose rank is to beat; a walk makes the others.
use Prim.Native.Nat.{ℕ, zero, suc, ◌+◌, ◌-◌, ◌<◌, ◌≤◌}
use mathlib.Core.Bool.{false}
use mathlib.Core.Path.{◌≡◌, refl, sym, ap, ◌∙◌}
use mathlib.Core.Logic.{⊎_elim, ◌⊎◌, inl, inr}
use mathlib.Core.List.{List}
use native.Mathlib.Omega.{arith}
use native.Mathlib.Decide.{ℕ_discrete}
use borrow.Author.Tests.{ne_eqb, le-ltb}
use lib.Dec.{eqb, ltb}
use lib.ListN.{length, length-set, get_or, set, replicate}
use lib.Seq.{get_or-set_same, get_or-set_other}
use Rattle.words.specs.Tests.{choose, either}
use Rattle.tables.specs.Searches.{blocks, rank_above, raised, PassedFrom}
use Rattle.tables.proofs.Searching.{foot_rank}

-- a rank that is raised is above what it is raised by
raised_above : (c r : ℕ) → 0 < raised c r → c < raised c r
unfolding raised
raised_above c zero h = absurd (omega arith)
raised_above c (suc r) h = omega arith

-- the rank of a chain that joins another, from what each has above the block where they meet
raised_joined : (c d r : ℕ) → 0 < d → choose (eqb (raised (d - 1) r) 0) 0 (raised (d - 1) r + 1 + c - d) ≡ raised c r
unfolding raised choose
raised_joined c d zero h = refl
raised_joined c d (suc r) h = rw (ne_eqb (suc r + (d - 1)) 0 (omega arith)) (omega arith)

-- P holds of what is kept of each block passed: where the climb started, and how many blocks it had passed with this one
abbrev Kept : (P : (y start count : ℕ) → Type 0) → (starts passed : List ℕ) → Type 0
Kept P starts passed = (y : ℕ) → 0 < get_or passed y 0 → P y (get_or starts y 0) (get_or passed y 0)

-- so it does with one block more
kept_next : (P : (y start count : ℕ) → Type 0) (starts passed : List ℕ) (at start count : ℕ) → at < length starts → at < length passed
    → P at start count → Kept P starts passed → Kept P (set starts at start) (set passed at count)
kept_next P starts passed at start count in-starts in-passed new old y p =
    elim (ℕ_discrete y at) as (λ _. P y (get_or (set starts at start) y 0) (get_or (set passed at count) y 0)) [
      | yes here ↦ rw (here, get_or-set_same starts at start 0 in-starts, get_or-set_same passed at count 0 in-passed) new
      | no there ↦ rw (get_or-set_other starts at y start 0 there, get_or-set_other passed at y count 0 there)
          (old y (rw (get_or-set_other passed at y count 0 there) at p))
    ]

-- what is kept after a climb
pub record Settled (s : ℕ → ℕ) (starts passed ranks : List ℕ) : Type 0 where
  pub sizes : (length starts ≡ blocks) × (length passed ≡ blocks) × (length ranks ≡ blocks)
  -- genesis counts as passed
  pub genesis : 0 < get_or passed 0 0
  -- the climb that passed a block had passed so many certified blocks before it
  pub placed : (y : ℕ) → 0 < get_or passed y 0 → s (get_or starts y 0) ≡ raised (get_or passed y 0 - 1) (s y)
  -- the rank of the block that it started from is kept
  pub known : (y : ℕ) → 0 < get_or passed y 0 → get_or ranks (get_or starts y 0) 0 ≡ s (get_or starts y 0)

-- what is kept while a climb from block x has come to block `at`: it may be the climb that passed a block
pub record Climbing (s : ℕ → ℕ) (starts passed ranks : List ℕ) (x at : ℕ) : Type 0 where
  pub sizes : (length starts ≡ blocks) × (length passed ≡ blocks) × (length ranks ≡ blocks)
  pub genesis : 0 < get_or passed 0 0
  pub placed : (y : ℕ) → 0 < get_or passed y 0 → s (get_or starts y 0) ≡ raised (get_or passed y 0 - 1) (s y)
  pub known : (y : ℕ) → 0 < get_or passed y 0
      → ((get_or starts y 0 ≡ x) × (at < y)) ⊎ (get_or ranks (get_or starts y 0) 0 ≡ s (get_or starts y 0))

-- a block that was not passed is above genesis
pub unpassed_above : (passed : List ℕ) (at : ℕ) → 0 < get_or passed 0 0 → get_or passed at 0 ≤ 0 → 0 < at
unpassed_above passed zero some none = absurd (omega arith)
unpassed_above passed (suc at) some none = omega arith

module _ (s : ℕ → ℕ) (starts passed ranks : List ℕ) (x : ℕ) where
  -- a climb begins
  pub climb_start : Settled s starts passed ranks → Climbing s starts passed ranks x x
  climb_start h = record { sizes = h.sizes; genesis = h.genesis; placed = h.placed; known = λ y p. inr (h.known y p) }

  module _ (at climbed : ℕ) (h : Climbing s starts passed ranks x at) where
    -- it ends with the rank of the block that it started from
    pub climb_end : (r : ℕ) → x < blocks → r ≡ s x → Settled s starts passed (set ranks x r)
    climb_end r l e =
        record {
          sizes = (h.sizes.0, h.sizes.1, simp length-set h.sizes.2);
          genesis = h.genesis;
          placed = h.placed;
          known = λ y p.
              elim (ℕ_discrete (get_or starts y 0) x) as (λ _. get_or (set ranks x r) (get_or starts y 0) 0 ≡ s (get_or starts y 0)) [
                | yes here ↦ rw here (get_or-set_same ranks x r 0 (omega (arith, h.sizes.2)) ∙ e)
                | no there ↦ get_or-set_other ranks x (get_or starts y 0) r 0 there ∙ ⊎_elim (λ o. absurd (there o.0)) (λ k. k) (h.known y p)
              ];
        }

    -- it comes to a block that was passed before: the rank kept is that of the block reached, raised
    kept_rank : 0 < get_or passed at 0 → get_or ranks (get_or starts at 0) 0 ≡ raised (get_or passed at 0 - 1) (s at)
    kept_rank before = ⊎_elim (λ o. absurd (omega (arith, o.1))) (λ k. k) (h.known at before) ∙ h.placed at before

    -- so it has at least the blocks passed
    pub kept_most : 0 < get_or passed at 0 → 0 < get_or ranks (get_or starts at 0) 0 → get_or passed at 0 ≤ get_or ranks (get_or starts at 0) 0
    kept_most before = rw (kept_rank before) (λ some. omega (arith, raised_above (get_or passed at 0 - 1) (s at) some))

    -- and what the two climbs have passed gives the rank
    pub climb_joined : (r : ℕ) → 0 < get_or passed at 0 → s x ≡ raised climbed (s at)
        → r ≡ choose (eqb (get_or ranks (get_or starts at 0) 0) 0) 0 (get_or ranks (get_or starts at 0) 0 + 1 + climbed - get_or passed at 0) → r ≡ s x
    climb_joined r before e j = j ∙ rw (kept_rank before) (raised_joined climbed (get_or passed at 0) (s at) before) ∙ sym e

    -- it goes on past a block
    pub climb_next : (below : ℕ) → at < blocks → below < at → s x ≡ raised climbed (s at)
        → Climbing s (set starts at x) (set passed at (climbed + 1)) ranks x below
    climb_next below l under e =
        let in-starts : at < length starts = omega (arith, h.sizes.0) in
        let in-passed : at < length passed = omega (arith, h.sizes.1) in
        record {
          sizes = (simp length-set h.sizes.0, simp length-set h.sizes.1, h.sizes.2);
          genesis =
              elim (ℕ_discrete 0 at) as (λ _. 0 < get_or (set passed at (climbed + 1)) 0 0) [
                | yes here ↦ absurd (omega arith)
                | no there ↦ rw (get_or-set_other passed at 0 (climbed + 1) 0 there) h.genesis
              ];
          placed = kept_next (λ y start count. s start ≡ raised (count - 1) (s y)) starts passed at x (climbed + 1) in-starts in-passed
              (e ∙ ap (λ c. raised c (s at)) (omega arith)) h.placed;
          known = kept_next (λ y start count. ((start ≡ x) × (below < y)) ⊎ (get_or ranks start 0 ≡ s start)) starts passed at x (climbed + 1)
              in-starts in-passed (inl (refl, under)) (λ y p. ⊎_elim (λ o. inl (o.0, omega (arith, o.1))) (λ k. inr k) (h.known y p));
        }

-- each entry of a column of zeros is 0
zeros : (n y : ℕ) → ◌≡◌ {A = ℕ} (get_or (replicate n 0) y 0) 0
zeros zero y = refl
zeros (suc n) zero = refl
zeros (suc n) (suc y) = zeros n y

-- the first climb, from block b
module _ (view parents epochs : List ℕ) (last n b : ℕ) where
  abbrev rank : ℕ → ℕ
  rank x = rank_above view parents epochs last n x 0

  abbrev Passed : (starts passed : List ℕ) → Type 0
  Passed = PassedFrom view parents epochs last n b

  -- nothing has been passed at first
  pub passed_none : Passed (replicate blocks 0) (replicate blocks 0)
  passed_none = record { sizes = (refl, refl); entries = λ y p. absurd (omega (arith, rw (zeros blocks y) at p)) }

  module _ (starts passed : List ℕ) (h : Passed starts passed) where
    -- one block more
    passed_more : (at count : ℕ) → at < blocks → rank b ≡ raised (count - 1) (rank at) → Passed (set starts at b) (set passed at count)
    passed_more at count l e =
        record {
          sizes = (simp length-set h.sizes.0, simp length-set h.sizes.1);
          entries = kept_next (λ y start count. (start ≡ b) × (rank b ≡ raised (count - 1) (rank y))) starts passed at b count
              (omega (arith, h.sizes.0)) (omega (arith, h.sizes.1)) (refl, e) h.entries;
        }

    -- it goes on past a block
    pub passed_next : (at climbed : ℕ) → at < blocks → rank b ≡ raised climbed (rank at) → Passed (set starts at b) (set passed at (climbed + 1))
    passed_next at climbed l e = passed_more at (climbed + 1) l (e ∙ ap (λ c. raised c (rank at)) (omega arith))

    -- it ends with a rank that is not 0, and a walk can start
    module _ (beat : ℕ) (l : b < blocks) (some : 0 < beat) (same : beat ≡ rank b) where
      -- genesis counts as passed, after all others
      whole : Passed (set starts 0 b) (set passed 0 beat)
      unfolding either raised
      whole = passed_more 0 beat (omega arith) (sym same ∙ rw (foot_rank view parents epochs last n 0 0 refl) (omega arith))

      pub walk_start : Settled rank (set starts 0 b) (set passed 0 beat) (set (replicate blocks 0) b beat)
      walk_start =
          record {
            sizes = (whole.sizes.0, whole.sizes.1, simp length-set refl);
            genesis = rw (get_or-set_same passed 0 beat 0 (omega (arith, h.sizes.1))) some;
            placed = λ y p. rw (whole.entries y p).0 (whole.entries y p).1;
            known = λ y p. rw (whole.entries y p).0 (get_or-set_same (replicate blocks 0) b beat 0 l ∙ same);
          }

-- a walk has come to block x: no block before it has a greater rank
module _ (s : ℕ → ℕ) (beat x : ℕ) where
  abbrev pub Behind : Type 0
  Behind = (k : ℕ) → k < x → ltb beat (s k) ≡ false

  -- at first, where their numbers are too small
  pub walk_low : ((k : ℕ) → s k ≤ k + 1) → x ≤ beat → Behind
  walk_low most small k l = le-ltb beat (s k) (omega (arith, most k))

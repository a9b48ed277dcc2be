-- What naming a block does: the block named has been made, with the parent and the epoch that were given.
use Prim.Native.Nat.{ℕ, ◌+◌, ◌<◌, ◌≤◌}
use mathlib.Core.Path.{◌≡◌, refl, ap, ap₂, ◌∙◌, subst⁻¹}
use mathlib.Core.Bool.{Bool, true, false}
use mathlib.Core.Logic.{◌⊎◌, inl, inr, ⊎_elim}
use native.Mathlib.Omega.{arith}
use borrow.Author.Tests.{eqb-true, ltb-false, le-leb, leb-true, leb-false, lt-ltb}
use lib.Dec.{eqb, ltb, leb}
use Rattle.words.specs.Tests.{choose, both, lowest}
use Rattle.words.proofs.Tests.{both_left, both_right, both_make, both_false, decided, Lowest, lowest_is}
use Rattle.tables.specs.Blocks.{made_in, named_in, matches_in, parent_in, epoch_in}
use Rattle.tables.proofs.Scans.{named_most}
use Rattle.register.specs.Types.{Header, Book}
use Rattle.register.specs.Tables.{made, parent_of, epoch_of, named}
use Rattle.register.specs.Refusals.{blocks_full}
use Rattle.register.specs.Effects.{with_block, with_named}
use Rattle.register.specs.Promises.{Sizes}
use Rattle.register.proofs.Tables.{parent_new, epoch_new}

-- block b has been made, with parent p and epoch e
pub record MadeOf (r : Book) (p e b : ℕ) : Type 0 where
  pub made : made r b ≡ true
  pub parent : parent_of r b ≡ p
  pub epoch : epoch_of r b ≡ e

module _ (r : Book) (new : Header) where
  -- the block that a name stands for is the next or a smaller one
  pub named_most_next : named r new ≤ r.last.0 + 1
  named_most_next = (named_most r.parents r.epochs r.payloads r.last.0 new.parent.0 new.epoch.0 new.payload).1

  -- naming a block changes nothing that making one does not
  pub named_keeps : {A : Type 0} (f : Book → A) → f (with_block r new) ≡ f r → f (with_named r new) ≡ f r
  unfolding with_named
  named_keeps {A} f same = by (leb (named r new) r.last.0)
    where
      by : (t : Bool) → f (choose t r (with_block r new)) ≡ f r
      by true = unfold choose in refl
      by false = unfold choose in same

  -- a block that is named and not there is the next
  pub next_block : leb (named r new) r.last.0 ≡ false → named r new ≡ r.last.0 + 1
  next_block none = omega (arith, leb-false (named r new) r.last.0 none, named_most_next)

  -- what holds of a book, and of it with the next block made, holds of it with the block named
  pub named_has : (P : Book → Type 0) → P r → (named r new ≡ r.last.0 + 1 → P (with_block r new)) → P (with_named r new)
  unfolding with_named
  named_has P there made = by (leb (named r new) r.last.0) refl
    where
      by : (t : Bool) → leb (named r new) r.last.0 ≡ t → P (choose t r (with_block r new))
      by true h = unfold choose in there
      by false h = unfold choose in made (next_block h)

  -- once it is named, it has been made
  pub named_within : (1 ≤ named r new) × (named r new ≤ (with_named r new).last.0)
  unfolding with_named with_block named_in
  named_within = (omega arith, by (leb (named r new) r.last.0) refl)
    where
      by : (t : Bool) → leb (named r new) r.last.0 ≡ t → named r new ≤ (choose t r (with_block r new)).last.0
      by true h = unfold choose in leb-true _ _ h
      by false h = unfold choose in named_most_next

  -- where there is room, the block named is at most 255
  pub named_room : r.last.0 ≤ 255 → blocks_full r new ≡ false → named r new ≤ 255
  named_room few full =
      ⊎_elim
      (λ needed. omega (arith, leb-false 255 r.last.0 (both_false _ _ full needed), named_most_next))
      (λ there. omega (arith, ltb-false r.last.0 (named r new) there)) (decided (ltb r.last.0 (named r new)))

  -- and there is room for a block that is made
  pub block_room : blocks_full r new ≡ false → named r new ≡ r.last.0 + 1 → r.last.0 < 255
  block_room full next = leb-false 255 r.last.0 (both_false _ _ full (lt-ltb r.last.0 (named r new) (omega arith)))

  -- the number named has been made already with that parent and epoch, or it is the next
  named_is : ((named r new ≤ r.last.0) × MadeOf r new.parent.0 new.epoch.0 (named r new)) ⊎ (named r new ≡ r.last.0 + 1)
  unfolding named_in matches_in made_in
  named_is = by (lowest_is r.last.0 matches)
    where
      matches : ℕ → Bool
      matches k =
          matches_in r.parents r.epochs r.payloads r.last.0 new.parent.0 new.epoch.0 new.payload (k + 1)

      found : ℕ
      found = lowest r.last.0 matches

      by : Lowest r.last.0 matches found
          → ((found + 1 ≤ r.last.0) × MadeOf r new.parent.0 new.epoch.0 (found + 1)) ⊎ (found + 1 ≡ r.last.0 + 1)
      by (inl h) =
          inl (
            omega (arith, h.0),
            record {
              made = both_make _ _ (lt-ltb 0 (found + 1) (omega arith)) (le-leb (found + 1) r.last.0 (omega (arith, h.0)));
              parent = eqb-true _ _ (both_left _ _ h.1);
              epoch = eqb-true _ _ (both_left _ _ (both_right (eqb (parent_of r (found + 1)) new.parent.0) _ h.1));
            },
          )
      by (inr h) = inr (omega (arith, h))

  -- a block that is made has what it was made with
  made_as_asked : Sizes r → new.parent.0 ≤ r.last.0 → r.last.0 < 255
      → MadeOf (with_block r new) new.parent.0 new.epoch.0 (r.last.0 + 1)
  unfolding made_in parent_in epoch_in with_block choose both
  made_as_asked sizes low room =
      let b : ℕ = r.last.0 + 1 in
      let is_made : both (ltb 0 b) (leb b b) ≡ true = both_make _ _ (lt-ltb 0 b (omega arith)) (le-leb b b (omega arith)) in
      let smaller : ltb new.parent.0 b ≡ true = lt-ltb new.parent.0 b (omega arith) in
      record {
        made = is_made;
        parent =
            ap₂ (λ (t : Bool) (x : ℕ). choose (both t (ltb x b)) x 0) is_made (parent_new r sizes new room)
            ∙ ap (λ (t : Bool). choose t new.parent.0 0) smaller;
        epoch = ap₂ (λ (t : Bool) (x : ℕ). choose t x 0) is_made (epoch_new r sizes new room);
      }

  -- where the parent is there and there is room for a block that is needed, the block named is as asked
  pub named_made : Sizes r → new.parent.0 ≤ r.last.0 → blocks_full r new ≡ false
      → MadeOf (with_named r new) new.parent.0 new.epoch.0 (named r new)
  unfolding with_named
  named_made size low full = by (leb (named r new) r.last.0) refl named_is
    where
      b : ℕ
      b = named r new

      p : ℕ
      p = new.parent.0

      e : ℕ
      e = new.epoch.0

      by : (t : Bool) → leb b r.last.0 ≡ t → ((b ≤ r.last.0) × MadeOf r p e b) ⊎ (b ≡ r.last.0 + 1)
          → MadeOf (choose t r (with_block r new)) p e b
      by true t (inl h) = unfold choose in h.1
      by true t (inr h) = absurd (omega (arith, leb-true b r.last.0 t))
      by false t (inl h) = absurd (omega (arith, leb-false b r.last.0 t, h.0))
      by false t (inr h) =
          subst⁻¹ (MadeOf (choose false r (with_block r new)) p e) h
          (unfold choose in made_as_asked size low (block_room full h))

-- A register grows: blocks and messages are only added, and what is in a view stays there. What was notarised stays notarised.
use Prim.Native.Nat.{ℕ, ◌<◌, ◌≤◌}
use mathlib.Core.Path.{◌≡◌, refl, sym, ap, ap₂, ◌∙◌, subst⁻¹}
use mathlib.Core.Bool.{Bool, true}
use mathlib.Core.List.{List}
use mathlib.Core.Logic.{⊎_elim}
use native.Mathlib.Omega.{arith}
use borrow.Author.Tests.{le-leb}
use lib.Dec.{eqb, ltb}
use lib.ListN.{length}
use Rattle.words.specs.Tests.{choose, both, every, member}
use Rattle.words.specs.Sums.{tally, unit}
use Rattle.words.proofs.Tests.{both_left, both_right, both_make, either_cases, either_left, either_right, any_at, any_make, every_same}
use Rattle.words.proofs.Sums.{weigh_more}
use Rattle.tables.specs.Blocks.{trusted_in, made_in, parent_in, epoch_in}
use Rattle.tables.specs.Messages.{says_in}
use Rattle.register.specs.Types.{Header, Content, Book}
use Rattle.register.specs.Limits.{most_offices}
use Rattle.register.specs.Tables.{trusted, made, header_of, parent_of, epoch_of, content_of}
use Rattle.register.specs.Views.{in_view, says, signed, ever_signed, signs, signers, notarised}
use Rattle.register.specs.Chains.{chain, chain_length, chain_notarised_by, chain_notarised}
use Rattle.register.proofs.Chains.{parent_le, on_chain_le, chain_kept, notarised_more}
use Rattle.quorum.proofs.Enough.{enough_make, enough_least}
use Rattle.register.proofs.Finalising.{Consecutive}

-- from register r to register s
pub record Grows (r s : Book) : Type 0 where
  pub n : s.n ≡ r.n
  pub trust : s.trust ≡ r.trust
  pub last : r.last.0 ≤ s.last.0
  pub blocks : (b : ℕ) → b ≤ r.last.0 → header_of s b ≡ header_of r b
  pub count : r.count ≤ s.count
  pub messages : (m : ℕ) → m < r.count → content_of s m ≡ content_of r m
  pub views : (q m : ℕ) → in_view r q m ≡ true → in_view s q m ≡ true

pub grows_refl : (r : Book) → Grows r r
grows_refl r =
    record {
      n = refl;
      trust = refl;
      last = omega arith;
      blocks = λ b h. refl;
      count = omega arith;
      messages = λ m h. refl;
      views = λ q m h. h;
    }

pub grows_trans : {r s t : Book} → Grows r s → Grows s t → Grows r t
grows_trans g h =
    record {
      n = h.n ∙ g.n;
      trust = h.trust ∙ g.trust;
      last = omega (arith, g.last, h.last);
      blocks = λ b l. h.blocks b (omega (arith, g.last)) ∙ g.blocks b l;
      count = omega (arith, g.count, h.count);
      messages = λ m l. h.messages m (omega (arith, g.count)) ∙ g.messages m l;
      views = λ q m v. h.views q m (g.views q m v);
    }

-- a signature in a view is one of the history
pub ever_signed_lem : (r : Book) (q h b : ℕ) → signed r q h b ≡ true → ever_signed r h b ≡ true
unfolding signed ever_signed
ever_signed_lem r q h b t =
    let f : (m : ℕ) × (m < r.count) × (both (in_view r q m) (says r h b m) ≡ true) = any_at _ r.count t in
    any_make _ r.count f.0 f.1 (both_right _ _ f.2)

module _ {r s : Book} (g : Grows r s) where
  -- the same offices are trusted
  pub trusted_kept : (q : ℕ) → trusted s q ≡ trusted r q
  trusted_kept q = ap₂ (λ (n t : ℕ). trusted_in n t q) g.n g.trust

  made_kept : (b : ℕ) → b ≤ r.last.0 → made s b ≡ made r b
  unfolding made_in
  made_kept b l = ap (both (ltb 0 b)) (le-leb b s.last.0 (omega (arith, g.last)) ∙ sym (le-leb b r.last.0 l))

  -- a block keeps its parent
  pub parent_kept : (b : ℕ) → b ≤ r.last.0 → parent_of s b ≡ parent_of r b
  unfolding parent_in
  parent_kept b l =
      ap₂ (λ (t : Bool) (x : Header). choose (both t (ltb x.parent.0 b)) x.parent.0 0) (made_kept b l) (g.blocks b l)

  -- a block keeps its epoch
  pub epoch_kept : (b : ℕ) → b ≤ r.last.0 → epoch_of s b ≡ epoch_of r b
  unfolding epoch_in
  epoch_kept b l = ap₂ (λ (t : Bool) (x : Header). choose t x.epoch.0 0) (made_kept b l) (g.blocks b l)

  -- a block keeps its chain
  pub chain_same : (b : ℕ) → b ≤ r.last.0 → chain s b ≡ chain r b
  chain_same b l = chain_kept r s b (λ x h. parent_kept x (omega arith))

  -- a chain keeps its length
  pub length_kept : (b : ℕ) → b ≤ r.last.0 → chain_length s b ≡ chain_length r b
  length_kept b l = ap length (chain_same b l)

  -- a message keeps what it says
  says_kept : (q b m : ℕ) → m < r.count → says s q b m ≡ says r q b m
  unfolding says_in
  says_kept q b m l = ap (λ (x : Content). both (eqb x.signer.0 q) (eqb x.about.0 b)) (g.messages m l)

  -- a signature that is in a view stays there
  signed_kept : (q h b : ℕ) → signed r q h b ≡ true → signed s q h b ≡ true
  unfolding signed
  signed_kept q h b t =
      let f : (m : ℕ) × (m < r.count) × (both (in_view r q m) (says r h b m) ≡ true) = any_at _ r.count t in
      any_make _ s.count f.0 (omega (arith, f.1, g.count))
      (both_make _ _ (g.views q f.0 (both_left _ _ f.2)) (says_kept h b f.0 f.1 ∙ both_right _ _ f.2))

  -- a signature that is in the history stays there
  pub ever_kept : (h b : ℕ) → ever_signed r h b ≡ true → ever_signed s h b ≡ true
  unfolding ever_signed
  ever_kept h b t =
      let f : (m : ℕ) × (m < r.count) × (says r h b m ≡ true) = any_at _ r.count t in
      any_make _ s.count f.0 (omega (arith, f.1, g.count)) (says_kept h b f.0 f.1 ∙ f.2)

  -- and an office that has signed a block there has
  signs_kept : (q b h : ℕ) → signs r q b h ≡ true → signs s q b h ≡ true
  signs_kept q b h t =
      both_make _ _ (ap (λ (n : ℕ). ltb h n) g.n ∙ both_left _ _ t) (signed_kept q h b (both_right _ _ t))

  -- a block that is notarised in a view stays so
  notarised_kept : (q b : ℕ) → notarised r q b ≡ true → notarised s q b ≡ true
  unfolding notarised tally
  notarised_kept q b t =
      let more : signers r q b ≤ signers s q b = weigh_more unit most_offices _ _ (λ h l. signs_kept q b h) in
      ⊎_elim (λ z. either_left _ _ z)
      (λ e. either_right _ _ (enough_make _ s.n (omega (arith, g.n, more, enough_least _ r.n e))))
      (either_cases _ _ t)

  -- a chain that is notarised by a test stays so
  pub notarised_by_kept : (p : ℕ → Bool) (b : ℕ) → b ≤ r.last.0 → chain_notarised_by r p b ≡ true → chain_notarised_by s p b ≡ true
  unfolding chain_notarised_by
  notarised_by_kept p b l t =
      let low : (x : ℕ) → member x (chain r b) ≡ true → x ≤ r.last.0 = λ x m. omega (arith, on_chain_le r x b m) in
      let later : Book → ℕ → Bool = λ y x. ltb (epoch_of y (parent_of y x)) (epoch_of y x) in
      let later-kept : (x : ℕ) → member x (chain r b) ≡ true → later s x ≡ later r x =
      λ x m.
      ap₂ (λ (e f : ℕ). ltb e f)
      (ap (epoch_of s) (parent_kept x (low x m)) ∙ epoch_kept (parent_of r x) (omega (arith, low x m, parent_le r x)))
      (epoch_kept x (low x m)) in
      both_make _ _
      (subst⁻¹ (λ (c : List ℕ). every (later s) c ≡ true) (chain_same b l)
      (every_same (later r) (later s) (chain r b) (λ x m h. later-kept x m ∙ h) (both_left _ _ t)))
      (subst⁻¹ (λ (c : List ℕ). every p c ≡ true) (chain_same b l) (both_right _ _ t))

  -- a chain that is notarised in a view stays so
  pub chain_notarised_kept : (q b : ℕ) → b ≤ r.last.0 → chain_notarised r q b ≡ true → chain_notarised s q b ≡ true
  chain_notarised_kept q b l t = notarised_more s b (λ x m. notarised_kept q x) (notarised_by_kept (notarised r q) b l t)

  -- three consecutive blocks stay so
  pub consecutive_kept : {p : ℕ → Bool} {b c d : ℕ} → b ≤ r.last.0 → Consecutive r p b c d → Consecutive s p b c d
  consecutive_kept {p} {b} {c} {d} l t =
      let lc : c ≤ r.last.0 = omega (arith, parent_le r b, t.parent) in
      let ld : d ≤ r.last.0 = omega (arith, parent_le r c, t.grandparent) in
      record {
        parent = parent_kept b l ∙ t.parent;
        grandparent = parent_kept c lc ∙ t.grandparent;
        newest = t.newest;
        middle = t.middle;
        two_later = omega (arith, epoch_kept b l, epoch_kept d ld, t.two_later);
        one_later = omega (arith, epoch_kept c lc, epoch_kept d ld, t.one_later);
        chain = notarised_by_kept p b l t.chain;
      }

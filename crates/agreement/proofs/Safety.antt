-- What holds at every moment of a run, and why a step keeps it.
use Prim.Native.Nat.{ℕ, ◌+◌, ◌*◌, ◌<◌, ◌≤◌}
use mathlib.Core.Path.{◌≡◌}
use mathlib.Core.Bool.{true, false, not}
use mathlib.Core.Logic.{◌⊎◌}
use native.Mathlib.Omega.{arith}
use borrow.Author.Tests.{eqb-true, ltb-false, le-ltb, not-true}
use lib.Dec.{eqb}
use Rattle.words.specs.Tests.{both, any}
use Rattle.words.specs.Sums.{tally}
use Rattle.words.proofs.Tests.{both_left, both_right, both_false, any_none}
use Rattle.words.proofs.Sums.{tally_past, tally_not}
use Rattle.tables.specs.Blocks.{trusted_in}
use Rattle.tables.specs.Messages.{says_in}
use Rattle.register.specs.declared.book.Book.{Book}
use Rattle.register.specs.Limits.{most_offices}
use Rattle.register.specs.Tables.{trusted, acted, parent_of, epoch_of, signer_of, about_of, final_of}
use Rattle.register.specs.Views.{says}
use Rattle.register.specs.Chains.{chain_length, chain_notarised, longer, longest}
use Rattle.register.proofs.Ranges.{Ranges}
use Rattle.register.proofs.Finalising.{Consecutive}
use Rattle.register.proofs.Growth.{Grows}
use Rattle.agreement.proofs.Backing.{backed}

-- a message of the history has signer h and block x
pub record Signature (r : Book) (h x : ℕ) : Type 0 where
  pub message : ℕ
  pub sent : message < r.count
  pub signer : signer_of r message ≡ h
  pub about : about_of r message ≡ x

-- what is known of a block x that a trusted office h has signed: its epoch has come; if it is the current one then h has acted; and
-- the parent's chain is notarised in h's view
pub record Vouched (r : Book) (h x : ℕ) : Type 0 where
  pub past : epoch_of r x ≤ r.epoch.0
  pub marked : epoch_of r x ≡ r.epoch.0 → acted r h ≡ true
  pub parent : chain_notarised r h (parent_of r x) ≡ true

-- x has the earlier epoch, and a parent's chain that is not longer
pub record Before (r : Book) (x y : ℕ) : Type 0 where
  pub earlier : epoch_of r x < epoch_of r y
  pub shorter : chain_length r (parent_of r x) ≤ chain_length r (parent_of r y)

-- two blocks that one trusted office has signed
pub data Ordered (r : Book) (x y : ℕ) : Type 0 where
  same : x ≡ y → Ordered r x y
  before : Before r x y → Ordered r x y
  after : Before r y x → Ordered r x y

-- a block that can be final: genesis, or the middle one of three consecutive blocks, the newest of which is on a chain that the history backs
pub data Finalised (r : Book) (c : ℕ) : Type 0 where
  genesis : c ≡ 0 → Finalised r c
  middle : (b d : ℕ) → b ≤ r.last.0 → Consecutive r (backed r) b c d → Finalised r c

-- what holds at every moment
pub record Safe (r : Book) : Type 0 where
  pub ranges : Ranges r
  pub few : 3 * tally r.n (λ q. not (trusted r q)) < r.n
  pub vouched : (h x : ℕ) → trusted r h ≡ true → Signature r h x → Vouched r h x
  pub ordered : (h x y : ℕ) → trusted r h ≡ true → Signature r h x → Signature r h y → Ordered r x y
  pub final : (p : ℕ) → trusted r p ≡ true → Finalised r (final_of r p)

-- a trusted office h, which was ready, signs block x of the current epoch, whose parent's chain is longest in its view
pub record Signing (r s : Book) (h x : ℕ) : Type 0 where
  pub epoch : s.epoch.0 ≡ r.epoch.0
  pub current : epoch_of s x ≡ r.epoch.0
  pub ready : acted r h ≡ false
  pub acts : acted s h ≡ true
  pub known : parent_of s x ≤ r.last.0
  pub parent : longest r h (parent_of s x) ≡ true

-- a new message, with signer h and block x: a trusted signer has signed that block before, or does so now
abbrev pub News : (r s : Book) → (h x : ℕ) → Type 0
News r s h x = trusted r h ≡ true → Signature r h x ⊎ Signing r s h x

-- the epoch is the same, and who has acted still has; or it is a later one
pub data Clock (r s : Book) : Type 0 where
  still : s.epoch.0 ≡ r.epoch.0 → ((h : ℕ) → h < 32 → acted r h ≡ true → acted s h ≡ true) → Clock r s
  later : r.epoch.0 < s.epoch.0 → Clock r s

-- office p has a new final block: it became final as it should, and its chain is not shorter than that of the one before
pub record NewFinal (r s : Book) (p : ℕ) : Type 0 where
  pub final : Finalised s (final_of s p)
  pub forward : chain_length r (final_of r p) ≤ chain_length s (final_of s p)

-- what a step may do, as far as the claims depend on it
pub record Lawful (r s : Book) : Type 0 where
  pub grows : Grows r s
  pub clock : Clock r s
  pub one : s.count ≤ r.count + 1
  pub news : (m : ℕ) → m < s.count → (m < r.count) ⊎ News r s (signer_of s m) (about_of s m)
  pub finals : (p : ℕ) → trusted r p ≡ true → (final_of s p ≡ final_of r p) ⊎ NewFinal r s p

-- a message of the history that says so is a signature
pub signature : (r : Book) (h x m : ℕ) → m < r.count → says r h x m ≡ true → Signature r h x
unfolding says_in
signature r h x m sent t =
    record {
      message = m;
      sent = sent;
      signer = eqb-true (signer_of r m) h (both_left _ _ t);
      about = eqb-true (about_of r m) x (both_right (eqb (signer_of r m) h) _ t);
    }

-- a signed block has been made
pub signed_le : {r : Book} {h x : ℕ} → Safe r → Signature r h x → x ≤ r.last.0
signed_le {r} {h} {x} safe s = omega (arith, (safe.ranges.messages s.message s.sent).1.1, s.about)

-- some office is trusted
pub someone : {r : Book} → Safe r → 0 < tally most_offices (trusted r)
unfolding trusted_in both
someone {r} safe =
    let here : tally most_offices (trusted r) ≡ tally r.n (trusted r)
    = tally_past r.n most_offices (trusted r) safe.ranges.counts.offices (λ q past. rw (le-ltb q r.n past)) in
    omega (arith, here, safe.few, tally_not r.n (trusted r))

-- a longest chain is notarised
pub longest_notarised : (r : Book) (q b : ℕ) → longest r q b ≡ true → chain_notarised r q b ≡ true
unfolding longest
longest_notarised r q b h = both_left _ _ h

-- no notarised chain is longer than a longest one
pub longest_most : (r : Book) (q b x : ℕ) → longest r q b ≡ true → x ≤ r.last.0 → chain_notarised r q x ≡ true
    → chain_length r x ≤ chain_length r b
unfolding longest
longest_most r q b x h l n =
    let none : any (r.last.0 + 1) (longer r q b) ≡ false = not-true _ (both_right _ _ h) in
    ltb-false _ _ (both_false _ _ (any_none (longer r q b) (r.last.0 + 1) x none (omega arith)) n)

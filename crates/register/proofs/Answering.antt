-- What the calls of a step's tests answer, said of a book, and what the refusal found makes of the change.
use Prim.Native.Nat.{ℕ, ◌≤◌, ◌<◌, min}
use mathlib.Core.Path.{◌≡◌, sym, ap, ◌∙◌}
use mathlib.Core.List.{List}
use mathlib.Core.Bool.{Bool, true, false, not, ◌||◌}
use native.Mathlib.Omega.{arith}
use borrow.Author.Tests.{le-leb, lt-leb, lt-ltb, ltb-true, eq-eqb, ne_eqb}
use lib.Dec.{ltb, leb}
use Rattle.words.specs.Tests.{choose, both, either}
use Rattle.words.specs.Refusals.{Refusal, first, until, since}
use Rattle.words.proofs.Tests.{or_either, both_make, both_fails}
use Rattle.words.proofs.Refusals.{positive, first_early, first_late}
use Rattle.words.proofs.Turns.{turns}
use Rattle.tables.specs.Blocks.{named_in}
use Rattle.tables.specs.Searches.{signed_in, view_in, certified_above, longest_in}
use Rattle.tables.proofs.Scans.{named_most}
use Rattle.register.specs.Types.{Step, Book, Change}
use Rattle.register.specs.Tables.{trusted}
use Rattle.register.specs.Views.{signed}
use Rattle.register.specs.Chains.{chain_notarised, longest}
use Rattle.register.specs.Steps.{rule_of}
use Rattle.register.specs.Changes.{refusing, accepting, entries_of, change_by}
use Rattle.register.proofs.Searching.{signed_in_lem, longest_by_lem, notarised_above}

-- 18, of a trusted office's view
pub found_signed : (r : Book) (q signer b : ℕ) (x : Bool) → r.count ≤ 1024 → trusted r q ≡ true
    → x ≡ signed_in r.places r.signers r.about (min r.count 1024) q signer b → x ≡ signed r q signer b
found_signed r q signer b x few t e = e ∙ sym (signed_in_lem r few q signer b t)

-- 19, of a trusted office's view
pub found_longest : (r : Book) (q b : ℕ) (view : List ℕ) (a u : Bool) → r.count ≤ 1024 → r.n ≤ 32 → r.last.0 ≤ 255 → b < 256
    → trusted r q ≡ true → view ≡ view_in r.places r.signers r.about (min r.count 1024) q
    → a ≡ longest_in view r.parents r.epochs r.last.0 (min r.n 32) b → not a ≡ u → not (longest r q b) ≡ u
found_longest r q b view a u few offices last l t seen e f =
    ap not (longest_by_lem r few offices q t b l (omega arith) ∙ sym (rw seen at e)) ∙ f

-- 21's chain, of a trusted office in whose view the base's chain is notarised
pub found_notarised : (r : Book) (q base b : ℕ) (x : Bool) → r.count ≤ 1024 → r.n ≤ 32 → base < 256 → b < 256 → trusted r q ≡ true
    → chain_notarised r q base ≡ true
    → x
    ≡ certified_above (view_in r.places r.signers r.about (min r.count 1024) q) r.parents r.epochs r.last.0
    (min r.n 32) b base
    → x ≡ chain_notarised r q b
found_notarised r q base b x few offices k l t known e = e ∙ sym (notarised_above r few offices q t base b k l known)

-- a number that a call gave is, or is not, at least the one that the test asks about
pub found_least : (a r b : ℕ) → r ≡ b → a ≤ r → leb a b ≡ true
found_least a r b e h = le-leb a b (omega arith)

pub found_less : (a r b : ℕ) → r ≡ b → r < a → leb a b ≡ false
found_less a r b e h = lt-leb a b (omega arith)

-- two tests that the code joins by `|`
pub found_either : (a b u : Bool) → a || b ≡ u → either a b ≡ u
found_either a b u e = sym (or_either a b) ∙ e

-- 25 holds where the number that naming gave is above 255
module _ (parents epochs payloads : List ℕ) (last p e w b : ℕ) where
  abbrev block-named : ℕ
  block-named = named_in parents epochs payloads last p e w

  pub found_full : last ≤ 255 → b ≡ block-named → 255 < b → both (ltb last block-named) (leb 255 last) ≡ true
  found_full few i h =
      let most = (named_most parents epochs payloads last p e w).1 in
      both_make _ _ (lt-ltb last block-named (omega (arith, most))) (le-leb 255 last (omega (arith, most)))

  pub found_room : b ≡ block-named → b ≤ 255 → both (ltb last block-named) (leb 255 last) ≡ false
  found_room i h = both_fails _ _ (λ needed. lt-leb 255 last (omega (arith, ltb-true last block-named needed)))

pub ruleset answers = (turns, found_least, found_less, found_either, found_full, found_room)

-- a refusal that the tests before the one numbered k gave is the list's
pub early : (k : ℕ) (rs : List Refusal) (x : ℕ) → x ≡ first (until k rs) → (x ≡ 0 → ⊥) → x ≡ first rs
early k rs x e some = e ∙ sym (first_early k rs (λ none. some (e ∙ none)))

-- where they gave none, the tests from that one on decide
pub late : (k : ℕ) (rs : List Refusal) (x y : ℕ) → positive rs ≡ true → x ≡ first (until k rs) → x ≡ 0 → y ≡ first (since k rs)
    → y ≡ first rs
late k rs x y p e none f = f ∙ sym (first_late k rs p (sym e ∙ none))

module _ (c : Change) (r : Book) (step : Step) (k : ℕ) (found : k ≡ first (rule_of r step).tests) where
  -- a step is refused with the number that was found
  pub refuses : (k ≡ 0 → ⊥) → refusing c k ≡ change_by c r step
  unfolding change_by choose
  refuses some = rw (← found, ne_eqb k 0 some)

  -- and accepted where 0 was found
  pub accepts : k ≡ 0 → accepting (entries_of c r step) (rule_of r step).value ≡ change_by c r step
  unfolding change_by choose
  accepts none = rw (← found, eq-eqb k 0 none)

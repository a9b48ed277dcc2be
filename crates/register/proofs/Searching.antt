-- What the code's searches over columns find, said of a register. The code reads 1,024 messages and 32 offices at most: of a register that has no
-- more, all.
use Prim.Native.Nat.{ℕ, ◌+◌, ◌<◌, ◌≤◌, min}
use mathlib.Core.Path.{◌≡◌, sym, ap, ◌∙◌}
use mathlib.Core.Bool.{Bool, true}
use mathlib.Core.List.{List}
use native.Mathlib.Omega.{arith}
use borrow.Author.Tests.{ne_eqb, lt-ltb}
use lib.Dec.{ltb}
use lib.ListN.{get_or}
use Rattle.quorum.specs.Enough.{enough}
use Rattle.words.specs.Tests.{choose, both, either, every}
use Rattle.words.proofs.Tests.{any_same, every_both}
use Rattle.words.proofs.Sums.{tally_ext, tally_below}
use Rattle.tables.specs.Blocks.{parent_in}
use Rattle.tables.specs.Chains.{chain_by}
use Rattle.tables.specs.Searches.{signed_in, view_in, enough_in, certified_by, certified_in, certified_above, longer_by, longest_by, longest_in}
use Rattle.tables.proofs.Scans.{signs}
use Rattle.tables.proofs.Chains.{parent_in_lt}
use Rattle.tables.proofs.Views.{view_enough}
use Rattle.tables.proofs.Searching.{certified_same, certified_above_lem}
use Rattle.register.specs.Types.{Book}
use Rattle.register.specs.Limits.{most_offices}
use Rattle.register.specs.Tables.{trusted, parent_of, epoch_of}
use Rattle.register.specs.Views.{stage, in_view, says, signed, notarised}
use Rattle.register.specs.Chains.{chain, chain_length, chain_notarised_by, chain_notarised, longer, longest}

-- a trusted office's view
abbrev pub view_of : Book → (q : ℕ) → List ℕ
view_of r q = view_in r.places r.signers r.about (min r.count 1024) q

-- a register's block is certified there
abbrev pub certified_of : Book → (q : ℕ) → ℕ → Bool
certified_of r q = certified_in (view_of r q) r.parents r.epochs r.last.0 (min r.n 32)

-- the signatures in a trusted office's view are what the columns show
pub signed_columns : (r : Book) (q signer b : ℕ) → trusted r q ≡ true
    → signed r q signer b ≡ signed_in r.places r.signers r.about r.count q signer b
unfolding signed signed_in stage choose both
signed_columns r q signer b h =
    any_same (λ m. both (in_view r q m) (says r signer b m)) (signs r.places r.signers r.about q signer b) r.count
    (λ m l. rw (h, lt-ltb m r.count l))

module _ (r : Book) (few : r.count ≤ 1024) where
  -- all its messages are read
  all_messages : min r.count 1024 ≡ r.count
  all_messages = omega arith

  -- the signatures are what the columns show by the messages that are read
  pub signed_in_lem : (q signer b : ℕ) → trusted r q ≡ true
      → signed r q signer b ≡ signed_in r.places r.signers r.about (min r.count 1024) q signer b
  signed_in_lem q signer b h = rw all_messages (signed_columns r q signer b h)

module _ (r : Book) (few : r.count ≤ 1024) (offices : r.n ≤ 32) (q : ℕ) (h : trusted r q ≡ true) where
  -- all its offices are read
  all_offices : min r.n 32 ≡ r.n
  all_offices = omega arith

  -- a block is notarised in a trusted office's view where what the view has for it is enough
  notarised_in : (b : ℕ) → 0 < b → b < 256 → enough_in (get_or (view_of r q) b 0) (min r.n 32) ≡ notarised r q b
  unfolding notarised either
  notarised_in b above l =
      rw (ne_eqb b 0 (omega arith), all_offices)
      (view_enough r.places r.signers r.about q b (min r.count 1024) r.n offices l
      ∙ ap (λ (k : ℕ). enough k r.n)
      (tally_ext r.n _ (λ s. signed r q s b) (λ s h'. sym (signed_in_lem r few q s b h))
      ∙ sym (tally_below r.n most_offices (λ s. signed r q s b) offices)))

  -- a chain is notarised there where each of its blocks is certified
  chain_notarised_by_lem : (b : ℕ) → b < 256 → chain_notarised r q b ≡ every (certified_of r q) (chain_by (parent_in r.parents r.last.0) b)
  unfolding chain_notarised_by chain certified_in certified_by
  chain_notarised_by_lem b l =
      every_both (λ x. ltb (epoch_of r (parent_of r x)) (epoch_of r x)) (notarised r q) (chain r b)
      ∙ certified_same (parent_in r.parents r.last.0) (parent_in_lt r.parents r.last.0) _ (certified_of r q)
      (λ x above k. rw (notarised_in x above k)) b l

  -- or, where the base's chain is notarised there, where each block above the base is certified
  pub notarised_above : (base b : ℕ) → base < 256 → b < 256 → chain_notarised r q base ≡ true
      → chain_notarised r q b ≡ certified_above (view_of r q) r.parents r.epochs r.last.0 (min r.n 32) b base
  unfolding certified_above
  notarised_above base b k l known =
      chain_notarised_by_lem b l
      ∙ sym
      (certified_above_lem (parent_in r.parents r.last.0) (parent_in_lt r.parents r.last.0) (certified_of r q) base
      (sym (chain_notarised_by_lem base k) ∙ known) b)

  -- and longest there where the search over certified blocks finds no longer one
  pub longest_by_lem : (b : ℕ) → b < 256 → r.last.0 < 256
      → longest r q b ≡ longest_in (view_of r q) r.parents r.epochs r.last.0 (min r.n 32) b
  unfolding longest chain longest_in longest_by longer_by
  longest_by_lem b l m =
      let beat : ℕ = chain_length r b in
      rw (chain_notarised_by_lem b l, any_same (longer r q b) (longer_by (parent_in r.parents r.last.0) (certified_of r q) beat) (r.last.0 + 1) (λ x k. rw (chain_notarised_by_lem x (omega arith))))

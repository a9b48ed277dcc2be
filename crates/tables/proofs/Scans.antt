-- The tests that a walk over the columns makes at each entry, and what a caller knows of its answer.
use Prim.Native.Nat.{ℕ, zero, suc, ◌+◌, ◌-◌, ◌%◌, ◌≤◌, ◌<◌, min}
use mathlib.Core.Path.{◌≡◌, refl, sym, ◌∙◌}
use mathlib.Core.Bool.{Bool, true, false, ◌&&◌}
use mathlib.Core.List.{List}
use mathlib.Core.Logic.{⊎_elim, inl, inr}
use native.Mathlib.Omega.{arith}
use native.Mathlib.Nat.{add-zero, add-suc}
use native.Mathlib.Decide.{dec_lt}
use borrow.Author.Tests.{le-leb, lt-ltb, ltb-true}
use lib.Dec.{eqb, ltb}
use lib.ListN.{length, get_or, get_or-eq_default}
use Rattle.words.specs.Tests.{choose, both, any}
use Rattle.words.specs.Digits.{digit}
use Rattle.words.proofs.Digits.{digit_zero}
use Rattle.words.proofs.Tests.{and_both, any_make, any_none, both_left, both_right, both_none, either_none, lowest_is, lowest_only}
use Rattle.tables.specs.Blocks.{made_in, epoch_in, matches_in, named_in}
use Rattle.tables.specs.Messages.{view, says_in}
use Rattle.tables.specs.Searches.{messages, signed_in}

-- a walk by chunks of 64 has come to `from`: a chunk starts there, or all messages that were sent are behind it
abbrev pub AtChunk : (from sent : ℕ) → Type 0
AtChunk from sent = (from ≤ sent) × (from < sent → from % 64 ≡ 0)

-- past that chunk it has come to such a place again
pub past_chunk : (from sent size : ℕ) → AtChunk from sent → from < sent → from + size ≡ min (from + 64) sent → AtChunk (from + size) sent
past_chunk from sent size here more e = (omega arith, λ left. omega (arith, here.1 more))

-- message m is in office q's view, and has that signer and that block
abbrev pub signs : (places signers about : List ℕ) → (q signer b : ℕ) → (m : ℕ) → Bool
signs places signers about q signer b m = both (eqb (digit 4 (get_or places m 0) q) view) (says_in signers about signer b m)

module _ (places signers about : List ℕ) (q s b from : ℕ) where
  -- of the first `size` messages of the chunk that starts at `from`, none but the first `left` can have that signature
  abbrev pub Unsigned : (left size : ℕ) → Type 0
  Unsigned left size = (i : ℕ) → left ≤ i → i < size → signs places signers about q s b (from + i) ≡ false

  -- where none has, they tell nothing new of it
  pub unsigned_past : (size : ℕ) → Unsigned 0 size → signed_in places signers about from q s b ≡ signed_in places signers about (from + size) q s b
  unfolding signed_in any
  unsigned_past zero none = rw add-zero
  unsigned_past (suc size) none =
      rw (add-suc, none size (omega arith) (omega arith), either_none) (unsigned_past size (λ i low l. none i low (omega arith)))

  -- so where no message of the chunk has that signer and that block
  pub unsaid_past : any 64 (λ i. says_in signers about s b (from + i)) ≡ false → (size : ℕ) → size ≤ 64
      → signed_in places signers about from q s b ≡ signed_in places signers about (from + size) q s b
  unsaid_past none size few =
      unsigned_past size (λ i low l. rw (any_none (λ i. says_in signers about s b (from + i)) 64 i none (omega arith), both_none))

  -- where none is about the block
  pub untold_past : any 64 (λ i. eqb (get_or about (from + i) 0) b) ≡ false → (size : ℕ) → size ≤ 64
      → signed_in places signers about from q s b ≡ signed_in places signers about (from + size) q s b
  unfolding says_in
  untold_past none size few =
      unsigned_past size (λ i low l. rw (any_none (λ i. eqb (get_or about (from + i) 0) b) 64 i none (omega arith), both_none, both_none))

  -- and where none is in the view
  pub unseen_past : any 64 (λ i. eqb (digit 4 (get_or places (from + i) 0) q) view) ≡ false → (size : ℕ) → size ≤ 64
      → signed_in places signers about from q s b ≡ signed_in places signers about (from + size) q s b
  unfolding both
  unseen_past none size few =
      unsigned_past size (λ i low l. rw (any_none (λ i. eqb (digit 4 (get_or places (from + i) 0) q) view) 64 i none (omega arith)))

  -- the newest message of the first `left`, by whether it has that signature
  module _ (left size : ℕ) (some : 0 < left) (t : Bool) (e : t ≡ signs places signers about q s b (from + (left - 1))) where
    -- where it has, some message of the chunk's first has
    pub signed_hit : left ≤ size → t ≡ true → true ≡ signed_in places signers about (from + size) q s b
    unfolding signed_in
    signed_hit few hit = sym (any_make _ (from + size) (from + (left - 1)) (omega arith) (sym e ∙ hit))

-- a column of places has no entry past its end, so that of all messages those with an entry tell
pub signed_most : (places signers about : List ℕ) (q s b count : ℕ) → length places ≡ messages
    → signed_in places signers about (min count messages) q s b ≡ signed_in places signers about count q s b
unfolding both
signed_most places signers about q s b count whole =
    elim (dec_lt count messages) as (λ _. signed_in places signers about (min count messages) q s b ≡ signed_in places signers about count q s b) [
      | yes few ↦
          let all : min count messages ≡ count = omega arith in
          rw all
      | no more ↦
          let most : min count messages ≡ messages = omega arith in
          let rest : count ≡ messages + (count - messages) = omega arith in
          rw (most, rest)
          (unsigned_past places signers about q s b messages (count - messages)
          (λ i low l. rw (get_or-eq_default places 0 {n = messages + i} (omega arith), digit_zero 4 q)))
    ]

module _ (parents epochs payloads : List ℕ) (last p e w : ℕ) where
  -- a block has the parent, epoch and payload looked for
  abbrev matches : ℕ → Bool
  matches = matches_in parents epochs payloads last p e w

  -- the block that is named
  abbrev named : ℕ
  named = named_in parents epochs payloads last p e w

  -- no block below b is the one looked for
  abbrev pub Unnamed : (b : ℕ) → Type 0
  Unnamed b = (i : ℕ) → 0 < i → i ≤ last → i < b → matches i ≡ false

  -- a block that has not that epoch or not that payload is not
  unmatched : (i : ℕ) → 0 < i → i ≤ last → both (eqb (get_or epochs i 0) e) (eqb (get_or payloads i 0) w) ≡ false → matches i ≡ false
  unfolding matches_in epoch_in made_in choose both
  unmatched i some made none = rw (lt-ltb 0 i some, le-leb i last made, none, both_none)

  module _ (b : ℕ) (below : Unnamed b) where
    -- past a chunk that has no block of that epoch and payload
    pub unnamed_past : any 32 (λ i. both (eqb (get_or epochs (b + i) 0) e) (eqb (get_or payloads (b + i) 0) w)) ≡ false → Unnamed (b + 32)
    unnamed_past none i some made l =
        elim (dec_lt i b) as (λ _. matches i ≡ false) [
          | yes under ↦ below i some made under
          | no over ↦
              let here : b + (i - b) ≡ i = omega arith in
              unmatched i some made (rw here at (any_none _ 32 (i - b) none (omega arith)))
        ]

    -- the test of block b, which passes genesis over
    module _ (t : Bool) (is : t ≡ matches b) where
      -- where it holds, the block is the one
      pub named_here : b ≤ last → ltb 0 b && t ≡ true → b ≡ named
      unfolding named_in
      named_here made hit =
          let both_hold : both (ltb 0 b) t ≡ true = rw and_both at hit in
          let some : 0 < b = ltb-true 0 b (both_left _ t both_hold) in
          let here : b - 1 + 1 ≡ b = omega arith in
          let holds : matches b ≡ true = sym is ∙ both_right (ltb 0 b) t both_hold in
          rw (lowest_only last (b - 1) (λ k. matches (k + 1)) (λ i l. below (i + 1) (omega arith) (omega arith) (omega arith)) (inl (omega arith, rw here holds))) (sym here)

    -- no block is
    pub named_new : last < b → last + 1 ≡ named
    unfolding named_in
    named_new past = rw (lowest_only last last (λ k. matches (k + 1)) (λ i l. below (i + 1) (omega arith) (omega arith) (omega arith)) (inr refl))

  -- the block that is named is from 1 up to the next number
  pub named_most : (1 ≤ named) × (named ≤ last + 1)
  unfolding named_in
  named_most = ⊎_elim (λ h. (omega arith, omega (arith, h.0))) (λ h. (omega arith, omega (arith, h))) (lowest_is last (λ k. matches (k + 1)))

-- Gathering signers, of all blocks or of one: by which messages the sets hold signers at each turn of the loop, and that the sets by all messages
-- say what the columns do.
use Prim.Native.Nat.{ℕ, zero, suc, ◌+◌, ◌-◌, ◌<◌, ◌≤◌, min}
use mathlib.Core.Path.{◌≡◌, refl, sym, ap, ◌∙◌}
use mathlib.Core.Bool.{Bool, true, false}
use mathlib.Core.Logic.{⊎_elim}
use mathlib.Core.List.{List}
use native.Mathlib.Omega.{arith}
use native.Mathlib.Numerals.{add-one}
use native.Mathlib.Decide.{ℕ_discrete, dec_lt}
use borrow.Author.Tests.{eq-eqb, ne_eqb, lt-ltb, le-ltb, le-leb, lt-leb}
use lib.Dec.{eqb, ltb, leb}
use lib.ListN.{length, length-set, get_or, set, replicate, get_or-replicate}
use lib.Seq.{get_or-set_same, get_or-set_other, ext_get_or}
use Rattle.quorum.specs.Enough.{enough}
use Rattle.words.specs.Digits.{digit, set_of, with_member}
use Rattle.words.specs.Sums.{tally}
use Rattle.words.specs.Tests.{choose, both, either, any}
use Rattle.words.proofs.Tests.{any_fails, any_same, any_with, both_all, both_none, decided, either_left, either_none, either_right}
use Rattle.words.proofs.Sums.{tally_ext}
use Rattle.words.proofs.Digits.{in_set_lem, set_ext, set_none}
use Rattle.tables.specs.Messages.{view, says_in}
use Rattle.tables.specs.Searches.{messages, blocks, offices, signed_in, signers_in, tabulate, view_in, enough_in}
use Rattle.tables.proofs.Scans.{signs, signed_most, untold_past}

-- the values of a function are as many as were asked for, and each is at its place
length_tabulate : (n : ℕ) (f : ℕ → ℕ) → length (tabulate n f) ≡ n
unfolding tabulate
length_tabulate zero f = refl
length_tabulate (suc n) f = ap suc (length_tabulate n (λ k. f (suc k)))

get_d_tabulate : (n : ℕ) (f : ℕ → ℕ) (k : ℕ) → k < n → get_or (tabulate n f) k 0 ≡ f k
unfolding tabulate
get_d_tabulate zero f k h = absurd (omega arith)
get_d_tabulate (suc n) f zero h = refl
get_d_tabulate (suc n) f (suc k) h = get_d_tabulate n (λ k. f (suc k)) k (omega arith)

module _ (places signers about : List ℕ) (count q : ℕ) where
  -- what a view has for a block is the set of its signers
  pub view_entry : (b : ℕ) → b < blocks → get_or (view_in places signers about count q) b 0 ≡ signers_in places signers about count q b
  unfolding view_in
  view_entry b h = get_d_tabulate blocks (signers_in places signers about count q) b h

  -- it has a set for each block
  length_view : length (view_in places signers about count q) ≡ blocks
  unfolding view_in
  length_view = length_tabulate blocks (signers_in places signers about count q)

  -- sets that hold each block's signers are the view
  view_ext : (sets : List ℕ) → length sets ≡ blocks
      → ((b : ℕ) → b < blocks → get_or sets b 0 ≡ set_of (λ s. signed_in places signers about count q s b))
      → sets ≡ view_in places signers about count q
  unfolding view_in signers_in
  view_ext sets whole h =
      ext_get_or 0 sets (view_in places signers about count q) (whole ∙ sym length_view)
      (λ b l. h b (omega arith) ∙ sym (view_entry b (omega arith)))

-- a column of places has no entry past its end: by all messages the view is that by those with an entry
pub view_most : (places signers about : List ℕ) (count q : ℕ) → length places ≡ messages
    → view_in places signers about (min count messages) q ≡ view_in places signers about count q
unfolding signers_in
view_most places signers about count q whole =
    view_ext places signers about count q _ (length_view places signers about (min count messages) q)
    (λ b l. view_entry places signers about (min count messages) q b l ∙ set_ext _ _ (λ s h. signed_most places signers about q s b count whole))

-- to choose between two sets is the set of the choice between their tests
choose_set : (t : Bool) (p q : ℕ → Bool) → choose t (set_of p) (set_of q) ≡ set_of (λ s. choose t (p s) (q s))
unfolding choose
choose_set true p q = refl
choose_set false p q = refl

-- an office is among the signers already, or the message joins it to them: it is about the block, in the view, and signed by the office
joins : (about inside mine old : Bool) → choose (both about inside) (either old mine) old ≡ either old (both inside (both mine about))
unfolding choose both
joins true true mine old = rw both_all
joins true false mine old = rw either_none
joins false true mine old = rw (both_none, either_none)
joins false false mine old = rw either_none

-- the set of a test, with the signer of a message that is about the block and in the view
set_next : (f : ℕ → Bool) (w next place q signer about b : ℕ) → w ≡ set_of f
    → next ≡ choose (both (eqb about b) (eqb (digit 4 place q) view)) (with_member w signer) w
    → next ≡ set_of (λ s. either (f s) (both (eqb (digit 4 place q) view) (both (eqb signer s) (eqb about b))))
unfolding with_member
set_next f w next place q signer about b h e =
    rw (e, h, choose_set _ _ _) (set_ext _ _ (λ s l. rw (in_set_lem f s l) (joins _ _ _ _)))

-- what a message that was noted, in the view or not, does to the set of each block
noted_entry : (sets : List ℕ) (inside : Bool) (about signer b : ℕ) → length sets ≡ blocks → about < blocks
    → get_or (choose inside (set sets about (with_member (get_or sets about 0) signer)) sets) b 0
    ≡ choose (both (eqb about b) inside) (with_member (get_or sets b 0) signer) (get_or sets b 0)
unfolding choose
noted_entry sets true about signer b whole within =
    elim (ℕ_discrete b about) as
    (λ _. get_or (set sets about (with_member (get_or sets about 0) signer)) b 0 ≡ choose (both (eqb about b) true) (with_member (get_or sets b 0) signer) (get_or sets b 0)) [
      | yes here ↦ rw (here, eq-eqb about about refl, both_all) (get_or-set_same sets about _ 0 (omega arith))
      | no there ↦ rw (ne_eqb about b (λ o. there (sym o)), both_all) (get_or-set_other sets about b _ 0 there)
    ]
noted_entry sets false about signer b whole within = rw both_none

-- a message below the one or from the other up
unfoldable pub outside : (low high : ℕ) → ℕ → Bool
outside low high m = either (ltb m low) (leb high m)

-- one below
outside_low : (low high m : ℕ) → m < low → outside low high m ≡ true
unfolding outside
outside_low low high m h = either_left (ltb m low) (leb high m) (lt-ltb m low h)

-- one from the other up
outside_high : (low high m : ℕ) → high ≤ m → outside low high m ≡ true
unfolding outside
outside_high low high m h = either_right (ltb m low) (leb high m) (le-leb high m h)

-- every message, where the two have met
outside_all : (low high m : ℕ) → high ≤ low → outside low high m ≡ true
outside_all low high m h =
    elim (dec_lt m low) as (λ _. outside low high m ≡ true) [
      | yes under ↦ outside_low low high m under
      | no over ↦ outside_high low high m (omega arith)
    ]

-- with the next message at either end
outside_next : (low high m : ℕ) → low < high
    → either (either (outside low high m) (eqb m low)) (eqb m (high - 1)) ≡ outside (low + 1) (high - 1) m
unfolding outside either
outside_next low high m h =
    elim (dec_lt m (low + 1)) as (λ _. either (either (outside low high m) (eqb m low)) (eqb m (high - 1)) ≡ outside (low + 1) (high - 1) m) [
      | yes below ↦ rw (outside_low (low + 1) (high - 1) m below)
          (either_left (either (outside low high m) (eqb m low)) (eqb m (high - 1))
          (elim (dec_lt m low) as (λ _. either (outside low high m) (eqb m low) ≡ true) [
            | yes under ↦ either_left (outside low high m) (eqb m low) (outside_low low high m under)
            | no over ↦ either_right (outside low high m) (eqb m low) (eq-eqb m low (omega arith))
          ]))
      | no above ↦ rw (ne_eqb m low (omega arith), either_none, le-ltb m low (omega arith), le-ltb m (low + 1) (omega arith))
          (elim (dec_lt m (high - 1)) as (λ _. either (leb high m) (eqb m (high - 1)) ≡ leb (high - 1) m) [
            | yes under ↦ rw (lt-leb high m (omega arith), lt-leb (high - 1) m under, ne_eqb m (high - 1) (omega arith))
            | no over ↦ rw (le-leb (high - 1) m (omega arith))
                (elim (ℕ_discrete m (high - 1)) as (λ _. either (leb high m) (eqb m (high - 1)) ≡ true) [
                  | yes last ↦ either_right (leb high m) (eqb m (high - 1)) (eq-eqb m (high - 1) last)
                  | no more ↦ either_left (leb high m) (eqb m (high - 1)) (le-leb high m (omega (arith, more)))
                ])
          ])
    ]

module _ (places signers about : List ℕ) (count q : ℕ) where
  -- office s signed block b in the view, by one of the messages that a test picks
  abbrev signed_by : (picked : ℕ → Bool) → (b s : ℕ) → Bool
  signed_by picked b s = any count (λ m. both (picked m) (signs places signers about q s b m))

  -- the sets hold each block's signers of those messages
  abbrev pub Gathered : (picked : ℕ → Bool) → (sets : List ℕ) → Type 0
  Gathered picked sets = (b : ℕ) → b < blocks → get_or sets b 0 ≡ set_of (signed_by picked b)

  -- at first they hold nobody
  pub gather_none : Gathered (outside 0 count) (replicate blocks 0)
  unfolding outside either both
  gather_none b h =
      get_or-replicate blocks b 0 0 h
      ∙ sym (set_none (signed_by (outside 0 count) b) (λ s. any_fails _ count (λ m below. rw (le-ltb m 0 (omega arith), lt-leb count m below))))

  -- what noting message m makes of the sets
  abbrev pub Noted : (m : ℕ) → (sets noted : List ℕ) → Type 0
  Noted m sets noted =
      (noted ≡ choose (eqb (digit 4 (get_or places m 0) q) view) (set sets (get_or about m 0) (with_member (get_or sets (get_or about m 0) 0) (get_or signers m 0))) sets)
      × (get_or about m 0 < blocks)

  -- they hold its signer too
  gather_noted : (picked : ℕ → Bool) (m : ℕ) (sets noted : List ℕ) → m < count → length sets ≡ blocks → Gathered picked sets → Noted m sets noted
      → Gathered (λ k. either (picked k) (eqb k m)) noted
  unfolding says_in
  gather_noted picked m sets noted below whole h (n, within) b l =
      set_next (signed_by picked b) (get_or sets b 0) _ _ q _ _ b (h b l) (rw n (noted_entry sets _ _ _ b whole within))
      ∙ set_ext _ (signed_by (λ k. either (picked k) (eqb k m)) b) (λ s k. sym (any_with picked (signs places signers about q s b) count m below))

  -- and are as many
  noted_whole : (m : ℕ) (sets noted : List ℕ) → length sets ≡ blocks → Noted m sets noted → length noted ≡ blocks
  unfolding choose
  noted_whole m sets noted whole (n, within) =
      ⊎_elim (λ (t : eqb (digit 4 (get_or places m 0) q) view ≡ true). rw (n, t) (simp length-set whole))
      (λ (f : eqb (digit 4 (get_or places m 0) q) view ≡ false). rw (n, f) whole) (decided (eqb (digit 4 (get_or places m 0) q) view))

  -- a turn: the next message at either end
  pub gather_turn : (low high : ℕ) (sets one two : List ℕ) → low < high → high ≤ count → length sets ≡ blocks → Gathered (outside low high) sets
      → Noted low sets one → Noted (high - 1) one two → (length two ≡ blocks) × Gathered (outside (low + 1) (high - 1)) two
  gather_turn low high sets one two l k whole h n m =
      let whole' : length one ≡ blocks = noted_whole low sets one whole n in
      let h' = gather_noted (outside low high) low sets one (omega arith) whole h n in (
        noted_whole (high - 1) one two whole' m,
        λ b below.
            gather_noted (λ k. either (outside low high k) (eqb k low)) (high - 1) one two (omega arith) whole' h' m b below
            ∙ set_ext _ (signed_by (outside (low + 1) (high - 1)) b) (λ s few. any_same _ _ count (λ m within. rw (outside_next low high m l))),
      )

  -- all messages
  pub gather_all : (low high : ℕ) (sets : List ℕ) → high ≤ low → length sets ≡ blocks → Gathered (outside low high) sets
      → sets ≡ view_in places signers about count q
  unfolding both signed_in
  gather_all low high sets l whole h =
      view_ext places signers about count q sets whole
      (λ b k.
      h b k
      ∙ set_ext (signed_by (outside low high) b) (λ s. signed_in places signers about count q s b)
      (λ s below. any_same _ _ count (λ m within. rw (outside_all low high m l))))

module _ (places signers about : List ℕ) (q b : ℕ) where
  -- no messages, no signers
  pub signers_none : 0 ≡ signers_in places signers about 0 q b
  unfolding signers_in signed_in any
  signers_none = sym (set_none (λ s. signed_in places signers about 0 q s b) (λ s. refl))

  -- one message more
  pub signers_next : (m w next : ℕ) → w ≡ signers_in places signers about m q b
      → next ≡ choose (both (eqb (get_or about m 0) b) (eqb (digit 4 (get_or places m 0) q) view)) (with_member w (get_or signers m 0)) w
      → next ≡ signers_in places signers about (m + 1) q b
  unfolding signers_in signed_in says_in any
  signers_next m w next h e = set_next _ w next _ q _ _ b h e ∙ set_ext _ _ (λ s l. rw add-one)

  -- a chunk with no message about the block adds no signer
  pub signers_past : (from size w : ℕ) → size ≤ 64 → w ≡ signers_in places signers about from q b
      → any 64 (λ i. eqb (get_or about (from + i) 0) b) ≡ false → w ≡ signers_in places signers about (from + size) q b
  unfolding signers_in
  signers_past from size w few h none =
      h ∙ set_ext _ (λ s. signed_in places signers about (from + size) q s b) (λ s l. untold_past places signers about q s b from none size few)

  -- what a view has for the block is enough where its signers are
  pub view_enough : (count n : ℕ) → n ≤ offices → b < blocks
      → enough_in (get_or (view_in places signers about count q) b 0) n ≡ enough (tally n (λ s. signed_in places signers about count q s b)) n
  unfolding signers_in
  view_enough count n few l =
      rw (view_entry places signers about count q b l)
      (ap (λ (k : ℕ). enough k n)
      (tally_ext n _ (λ s. signed_in places signers about count q s b) (λ s h. in_set_lem _ s (omega arith))))

-- Laws of words with one digit per office, over any base.
use Prim.Native.Nat.{ℕ, zero, suc, ◌+◌, ◌-◌, ◌*◌, ◌/◌, ◌%◌, ◌^◌, ◌≤◌, ◌<◌, min}
use mathlib.Core.Path.{◌≡◌, refl, sym, ap, ◌∙◌}
use mathlib.Core.Bool.{Bool, true, false, not}
use mathlib.Core.Logic.{⊎_elim}
use native.Mathlib.Nat.{add_comm, add-mul, add-zero, eq_of_mul-eq-mul_right, eq-or-lt_of_le, lt_of_le_of_lt, lt_of_lt_of_le, mul_assoc, mul-lt-mul_of_pos_left, mul-one, mul-zero, one-le-pow, one-mul, pow-le-pow_right, pow-suc, pow-succ', pow-zero, zero-add, zero-mul, add-mul-div_right, add-mul-mod_self_right, div-eq_of_lt, mod-eq_of_lt, mod-le, mod-lt, mod-one, mul-mod_right, zero-div, zero-mod}
use native.Mathlib.Decide.{ℕ_discrete, dec_lt, dec_le, le_ind}
use native.Mathlib.Numerals.{add-one}
use native.Mathlib.Omega.{arith}
use borrow.Author.Tests.{eq-eqb, ne_eqb, eqb-true, lt-ltb, le-ltb}
use lib.Arith.{digits_lt, digits_div, mod-mul}
use lib.Bits.{bit_and, bit_or, and_high, or_lt, or_mod, or_shr, or_zero_l}
use lib.Count.{ones, ones_in, ones_cat}
use lib.Dec.{eqb, ltb}
use lib.Pow.{pow-add}
use Rattle.words.specs.Digits.{digit, fill, in_set, set_of, with_member, within, with_stage}
use Rattle.words.specs.Sums.{tally, weigh, unit}
use Rattle.words.specs.Tests.{choose, both, either}
use Rattle.words.proofs.Tests.{all_at, all_make, both_ways}

-- a digit is below the base
pub digit_lt : (b w q : ℕ) → 0 < b → digit b w q < b
unfolding digit
digit_lt b w q pos = mod-lt (w / b ^ q) pos

-- every digit of 0 is 0
pub digit_zero : (b q : ℕ) → digit b 0 q ≡ 0
unfolding digit
digit_zero b q = rw (zero-div, zero-mod)

-- a power, split at a lower place
pow_split : (b k q : ℕ) → k < q → b ^ q ≡ b ^ (q - suc k) * b * b ^ k
pow_split b k q h =
    let e : q ≡ q - suc k + suc k = omega arith in
    ap (λ (x : ℕ). b ^ x) e ∙ rw (pow-add b (q - suc k) (suc k), pow-succ' b k, mul_assoc)

-- what is added at place q or above changes no digit below q
digit_add_above : (b w m q k : ℕ) → 0 < b → k < q → digit b (w + m * b ^ q) k ≡ digit b w k
unfolding digit
digit_add_above b w m q k pos h =
    let pow : 0 < b ^ k = one-le-pow k b pos in
    let j : ℕ = q - suc k in
    let e : m * b ^ q ≡ m * b ^ j * b * b ^ k = rw (pow_split b k q h) (simp mul_assoc) in
    rw (e, add-mul-div_right w (m * b ^ j * b) pow, add-mul-mod_self_right)

-- a word is below the power of its places
fill_lt : (b n : ℕ) (f : ℕ → ℕ) → ((q : ℕ) → f q < b) → fill b n f < b ^ n
unfolding fill
fill_lt b zero f small = omega (arith, pow-zero b)
fill_lt b (suc n) f small = rw (add_comm, pow-succ') (digits_lt (small n) (fill_lt b n f small))

-- the digits of a word that is filled are those that were put in
pub digit_fill : (b n : ℕ) (f : ℕ → ℕ) → ((q : ℕ) → f q < b) → (q : ℕ) → q < n → digit b (fill b n f) q ≡ f q
unfolding fill digit
digit_fill b zero f small q h = absurd (omega arith)
digit_fill b (suc n) f small q h =
    let within : q ≤ n = omega arith in
    ⊎_elim
    (λ (e : q ≡ n). rw (e, add_comm, digits_div (f n) (fill_lt b n f small), mod-eq_of_lt (small n)))
    (λ (l : q < n). digit_add_above b (fill b n f) (f n) n q (omega (arith, small n)) l ∙ digit_fill b n f small q l)
    (eq-or-lt_of_le within)

-- past the places that a word fills the digits are 0
pub digit_past : (b w n q : ℕ) → w < b ^ n → n ≤ q → digit b w q ≡ 0
unfolding digit
digit_past zero w zero q fit h =
    let e : w ≡ 0 = omega (arith, rw pow-zero at fit) in
    rw e (digit_zero 0 q)
digit_past zero w (suc n) q fit h = absurd (omega (arith, rw (pow-suc, mul-zero) at fit))
digit_past (suc b) w n q fit h =
    let most : w < suc b ^ q = lt_of_lt_of_le fit (pow-le-pow_right (omega arith) h) in
    rw (div-eq_of_lt most, zero-mod)

-- digits that agree below n fill the same word
pub fill_ext : (b n : ℕ) (f g : ℕ → ℕ) → ((q : ℕ) → q < n → f q ≡ g q) → fill b n f ≡ fill b n g
unfolding fill
fill_ext b zero f g same = refl
fill_ext b (suc n) f g same =
    rw (same n (omega arith), fill_ext b n f g (λ q h. same q (omega arith)))

-- a word's own digits below n fill its remainder
pub fill_digit : (b n w : ℕ) → 0 < b → fill b n (digit b w) ≡ w % b ^ n
unfolding fill digit
fill_digit b zero w pos = rw (pow-zero, mod-one)
fill_digit b (suc n) w pos =
    rw (fill_digit b n w pos, pow-succ', mod-mul w pos (one-le-pow n b pos)) (omega arith)

-- a power whose place is within a word
pub pow_within : (b q n : ℕ) → 1 < b → q < n → b ^ q % b ^ n ≡ b ^ q
pow_within b q n big h =
    let pos : 0 < b ^ q = one-le-pow q b (omega arith) in
    let next : b ^ q < b ^ suc q = rw pow-suc (rw mul-one at (mul-lt-mul_of_pos_left big pos)) in
    mod-eq_of_lt (lt_of_lt_of_le next (pow-le-pow_right (omega arith) h))

-- a power whose place is past a word
pub pow_past : (b q n : ℕ) → n ≤ q → b ^ q % b ^ n ≡ 0
pow_past b q n h =
    let e : q ≡ n + (q - n) = omega arith in
    let split : b ^ q ≡ b ^ n * b ^ (q - n) = ap (λ (x : ℕ). b ^ x) e ∙ pow-add b n (q - n) in
    rw (split, mul-mod_right)

-- two multiples are equal where the numbers are
eqb_mul : (d e p : ℕ) → 0 < p → eqb (d * p) (e * p) ≡ eqb d e
eqb_mul d e p pos =
    both_ways _ _ (λ h. eq-eqb d e (eq_of_mul-eq-mul_right p pos d e (eqb-true (d * p) (e * p) h)))
    (λ h. eq-eqb (d * p) (e * p) (ap (λ (x : ℕ). x * p) (eqb-true d e h)))

-- a digit of base 4 takes two of base 2
pub four_pow : (q : ℕ) → 4 ^ q ≡ 2 ^ (2 * q)
four_pow zero = refl
four_pow (suc q) =
    let e : 2 * suc q ≡ 2 * q + 2 = omega arith in
    rw (e, pow-add 2 (2 * q) 2, pow-suc 4 q, four_pow q)

-- digits that are 0 from m up fill nothing there
pub fill_min : (b m n : ℕ) (f : ℕ → ℕ) → ((q : ℕ) → m ≤ q → f q ≡ 0) → fill b (min n m) f ≡ fill b n f
unfolding fill
fill_min b m n f none =
    elim (dec_le n m) as (λ _. fill b (min n m) f ≡ fill b n f) [
      | yes h ↦
          let all : min n m ≡ n = omega arith in
          rw all
      | no h ↦
          let few : min n m ≡ m = omega arith in
          let more : (k : ℕ) → m ≤ k → fill b m f ≡ fill b k f → fill b m f ≡ fill b (suc k) f = λ k l e. e ∙ rw (none k l, zero-mul, add-zero) in
          rw few (le_ind (λ (k : ℕ). fill b m f ≡ fill b k f) refl more n (omega arith))
    ]

-- a word of m places is filled by its own digits
pub fill_whole : (b m n w : ℕ) → 0 < b → w < b ^ m → m ≤ n → fill b n (digit b w) ≡ w
fill_whole b m n w pos fit h = fill_digit b n w pos ∙ mod-eq_of_lt (lt_of_lt_of_le fit (pow-le-pow_right pos h))

-- one more digit, put in by a product: the word so far is w, its next digit d, and p the power of its place
pub fill_next : (b m q w d p : ℕ) (f : ℕ → ℕ) → 1 < b → ((k : ℕ) → f k < b) → q < m
    → w ≡ fill b q f → d ≡ f q → p ≡ b ^ q % b ^ m → (w + d * p ≡ fill b (q + 1) f) × (w + d * p < b ^ m)
unfolding fill
fill_next b m q w d p f big small h ew ed ep =
    let e : w + d * p ≡ fill b (suc q) f = rw (ew, ed, ep, pow_within b q m big h) in
    let fit : fill b (suc q) f < b ^ suc q = fill_lt b (suc q) f small in
    (rw add-one e, rw e (lt_of_lt_of_le fit (pow-le-pow_right (omega arith) h)))

-- the ones of a digit of base 2
ones_digit : (d : ℕ) → d < 2 → ones d ≡ choose (eqb d 1) 1 0
unfolding ones ones_in choose
ones_digit zero h = refl
ones_digit (suc zero) h = refl
ones_digit (suc (suc d)) h = absurd (omega arith)

-- the ones of a filled word are as many as the places that hold a 1
pub ones_fill : (n : ℕ) (f : ℕ → ℕ) → ((q : ℕ) → f q < 2) → ones (fill 2 n f) ≡ tally n (λ q. eqb (f q) 1)
unfolding fill tally weigh unit ones
ones_fill zero f small = refl
ones_fill (suc n) f small =
    rw (add_comm (fill 2 n f) (f n * 2 ^ n), ones_cat n (f n) (fill 2 n f) (fill_lt 2 n f small), ones_digit (f n) (small n), ones_fill n f small)
    (add_comm (choose (eqb (f n) 1) 1 0) (tally n (λ q. eqb (f q) 1)))

-- more at a place that a word fills is more in the digit of that place
pub fill_add : (b n d : ℕ) (f : ℕ → ℕ) (q : ℕ) → q < n
    → fill b n f + d * b ^ q ≡ fill b n (λ k. choose (eqb k q) (f k + d) (f k))
unfolding fill choose
fill_add b zero d f q h = absurd (omega arith)
fill_add b (suc n) d f q h =
    let within : q ≤ n = omega arith in
    ⊎_elim
    (λ (e : q ≡ n).
    let below : fill b n (λ k. choose (eqb k q) (f k + d) (f k)) ≡ fill b n f =
    fill_ext b n _ f (λ k l. rw (ne_eqb k q (λ x. omega arith))) in
    rw (below, eq-eqb n q (sym e), e, add-mul) (omega arith))
    (λ (l : q < n). rw (← fill_add b n d f q l, ne_eqb n q (λ x. omega arith)) (omega arith))
    (eq-or-lt_of_le within)

-- what is chosen of two numbers is below a limit that both are below
choose_lt : (t : Bool) (x y b : ℕ) → x < b → y < b → choose t x y < b
unfolding choose
choose_lt true x y b l h = l
choose_lt false x y b l h = h

-- a word in which the digit at a place is left out, with another put in there
put_in : (b n d : ℕ) (f : ℕ → ℕ) (q : ℕ) → q < n
    → fill b n (λ k. choose (eqb k q) 0 (f k)) + d * b ^ q ≡ fill b n (λ k. choose (eqb k q) d (f k))
put_in b n d f q h = fill_add b n d (λ k. choose (eqb k q) 0 (f k)) q h ∙ fill_ext b n _ _ (λ k l. by (eqb k q) (f k))
  where
    by : (t : Bool) (x : ℕ) → choose t (choose t 0 x + d) (choose t 0 x) ≡ choose t d x
    by true x = unfold choose in zero-add d
    by false x = unfold choose in refl

-- a word with another digit at a place: what is taken out there is in the word, and what is put in fits and is that digit
pub record Put (b n w q d : ℕ) : Type 0 where
  pub taken : digit b w q * b ^ q ≤ w
  pub fits : w - digit b w q * b ^ q + d * b ^ q < b ^ n
  pub is : w - digit b w q * b ^ q + d * b ^ q ≡ fill b n (λ k. choose (eqb k q) d (digit b w k))

pub digit_put : (b n w q d : ℕ) → d < b → q < n → w < b ^ n → Put b n w q d
digit_put b n w q d small h fit =
    let rest : ℕ = fill b n (λ k. choose (eqb k q) 0 (digit b w k)) in
    let was : rest + digit b w q * b ^ q ≡ w =
    put_in b n (digit b w q) (digit b w) q h
    ∙ fill_ext b n _ (digit b w) (λ k l. own k (ℕ_discrete k q))
    ∙ fill_whole b n n w (omega arith) fit (omega arith) in
    let now : rest + d * b ^ q ≡ fill b n (λ k. choose (eqb k q) d (digit b w k)) = put_in b n d (digit b w) q h in
    record { taken = omega arith; fits = omega (arith, fill_lt b n _ (λ k. choose_lt (eqb k q) d (digit b w k) b small (digit_lt b w k (omega arith)))); is = omega arith }
  where
    own : (k : ℕ) → Dec (k ≡ q) → choose (eqb k q) (digit b w q) (digit b w k) ≡ digit b w k
    own k (yes e) = unfold choose in rw (eq-eqb k q e, e)
    own k (no o) = unfold choose in rw (ne_eqb k q o)

-- the same of a stage, as code has it: the power of the place modulo the width, and the old digit
pub record Staged (w q s old power : ℕ) : Type 0 where
  pub taken : old * power ≤ w
  pub fits : w - old * power + s % 4 * power < 4 ^ 32
  pub is : w - old * power + s % 4 * power ≡ with_stage w q s

pub staged : (w q s old power : ℕ) → q < 32 → w < 4 ^ 32 → old ≡ digit 4 w q → power ≡ 4 ^ q % 4 ^ 32 → Staged w q s old power
unfolding with_stage
staged w q s old power h fit o p =
    let put : Put 4 32 w q (s % 4) = digit_put 4 32 w q (s % 4) (mod-lt s (omega arith)) h fit in
    let at : power ≡ 4 ^ q = p ∙ pow_within 4 q 32 (omega arith) h in
    record { taken = rw (o, at) put.taken; fits = rw (o, at) put.fits; is = rw (o, at) put.is }

-- a digit of the word with another stage for one office
pub stage_put : (w q s k : ℕ) → k < 32 → digit 4 (with_stage w q s) k ≡ choose (eqb k q) (s % 4) (digit 4 w k)
unfolding with_stage
stage_put w q s k h =
    digit_fill 4 32 _ (λ x. choose_lt (eqb x q) (s % 4) (digit 4 w x) 4 (mod-lt s (omega arith)) (digit_lt 4 w x (omega arith))) k h

-- a digit of base 2 is 1 exactly where the test that it was put in for holds
bit_chosen : (t : Bool) → eqb (choose t 1 0) 1 ≡ t
unfolding choose
bit_chosen true = refl
bit_chosen false = refl

-- a digit of base 2, put in again
chosen_bit : (d : ℕ) → d < 2 → choose (eqb d 1) 1 0 ≡ d
unfolding choose
chosen_bit zero h = refl
chosen_bit (suc zero) h = refl
chosen_bit (suc (suc d)) h = absurd (omega arith)

-- the set of the numbers below n of which a test holds has just these
bit_set : (n : ℕ) (p : ℕ → Bool) (q : ℕ) → q < n → eqb (digit 2 (fill 2 n (λ k. choose (p k) 1 0)) q) 1 ≡ p q
bit_set n p q h = rw (digit_fill 2 n (λ k. choose (p k) 1 0) (λ k. choose_lt (p k) 1 0 2 (omega arith) (omega arith)) q h) (bit_chosen (p q))

-- a word of n bits is the set of the numbers of which a test holds, where its bits say what the test says
set_of_bits : (n w : ℕ) (p : ℕ → Bool) → w < 2 ^ n → ((q : ℕ) → q < n → eqb (digit 2 w q) 1 ≡ p q)
    → w ≡ fill 2 n (λ k. choose (p k) 1 0)
set_of_bits n w p fit same =
    sym (fill_whole 2 n n w (omega arith) fit (omega arith))
    ∙ fill_ext 2 n (digit 2 w) (λ k. choose (p k) 1 0)
    (λ q h. sym (chosen_bit (digit 2 w q) (digit_lt 2 w q (omega arith))) ∙ ap (λ (t : Bool). choose t 1 0) (same q h))

-- a word in which every digit is 0
fill_none : (b n : ℕ) → fill b n (λ k. 0) ≡ 0
unfolding fill
fill_none b zero = refl
fill_none b (suc n) = rw (fill_none b n, zero-mul)

-- a power is the word in which the digit of its place alone is 1
pow_fill : (b n q : ℕ) → q < n → b ^ q ≡ fill b n (λ k. choose (eqb k q) 1 0)
pow_fill b n q h = rw (fill_none, one-mul, zero-add) at (fill_add b n 1 (λ k. 0) q h)

-- whether two numbers are equal does not depend on their order
eqb_swap : (a b : ℕ) → eqb a b ≡ eqb b a
eqb_swap a b = both_ways _ _ (λ h. eq-eqb b a (sym (eqb-true a b h))) (λ h. eq-eqb a b (sym (eqb-true b a h)))

-- the only number in the set of a power is its place, where that is below n
bit_only : (n q k : ℕ) → k < n → eqb (digit 2 (2 ^ q % 2 ^ n) k) 1 ≡ eqb q k
bit_only n q k l =
    elim (dec_lt q n) as (λ _. eqb (digit 2 (2 ^ q % 2 ^ n) k) 1 ≡ eqb q k) [
      | yes h ↦ rw (pow_within 2 q n (omega arith) h, pow_fill 2 n q h) (bit_set n (λ x. eqb x q) k l ∙ eqb_swap k q)
      | no h ↦ rw (pow_past 2 q n (omega arith), digit_zero, ne_eqb q k (omega arith))
    ]

-- two bits joined
or_bits : (d e : ℕ) → d < 2 → e < 2 → eqb (bit_or d e) 1 ≡ either (eqb d 1) (eqb e 1)
unfolding either
or_bits zero e h l = rw (or_zero_l e)
or_bits (suc zero) zero h l = refl
or_bits (suc zero) (suc zero) h l = refl
or_bits (suc zero) (suc (suc e)) h l = absurd (omega arith)
or_bits (suc (suc d)) e h l = absurd (omega arith)

-- a number is in two sets joined where it is in one of them
bit_or_lem : (w v k : ℕ) → eqb (digit 2 (bit_or w v) k) 1 ≡ either (eqb (digit 2 w k) 1) (eqb (digit 2 v k) 1)
unfolding digit
bit_or_lem w v k =
    rw (or_shr w v k, or_mod (w / 2 ^ k) (v / 2 ^ k) 1)
    (or_bits (w / 2 ^ k % 2) (v / 2 ^ k % 2) (mod-lt (w / 2 ^ k) (omega arith)) (mod-lt (v / 2 ^ k) (omega arith)))

-- the set of n bits with a number put in; a number from n up leaves it as it is
pub set_with : (n w q : ℕ) → w < 2 ^ n → bit_or w (2 ^ q % 2 ^ n) ≡ fill 2 n (λ k. choose (either (eqb (digit 2 w k) 1) (eqb q k)) 1 0)
set_with n w q fit =
    set_of_bits n (bit_or w (2 ^ q % 2 ^ n)) (λ k. either (eqb (digit 2 w k) 1) (eqb q k))
    (or_lt n w (2 ^ q % 2 ^ n) fit (mod-lt (2 ^ q) (one-le-pow n 2 (omega arith))))
    (λ k l. rw (bit_or_lem w (2 ^ q % 2 ^ n) k, bit_only n q k l))

-- an office is in the set of a test where the test holds of it
pub in_set_lem : (p : ℕ → Bool) (s : ℕ) → s < 32 → in_set (set_of p) s ≡ p s
unfolding set_of
in_set_lem p s h = bit_set 32 p s h

-- who is in a set with one more member
pub member_put : (w q k : ℕ) → k < 32 → in_set (with_member w q) k ≡ either (in_set w k) (eqb q k)
unfolding with_member
member_put w q k h = in_set_lem (λ x. either (in_set w x) (eqb q x)) k h

-- two tests that agree on the 32 offices make the same set
pub set_ext : (p q : ℕ → Bool) → ((s : ℕ) → s < 32 → p s ≡ q s) → set_of p ≡ set_of q
unfolding set_of
set_ext p q same =
    fill_ext 2 32 (λ s. choose (p s) 1 0) (λ s. choose (q s) 1 0) (λ s h. ap (λ (t : Bool). choose t 1 0) (same s h))

-- the set of a test that holds of nobody is empty
pub set_none : (p : ℕ → Bool) → ((s : ℕ) → p s ≡ false) → set_of p ≡ 0
unfolding set_of choose
set_none p none = set_ext p (λ s. false) (λ s h. none s) ∙ fill_none 2 32

-- a set is a word of 32 bits
set_lt : (p : ℕ → Bool) → set_of p < 2 ^ 32
unfolding set_of
set_lt p = fill_lt 2 32 _ (λ s. choose_lt (p s) 1 0 2 (omega arith) (omega arith))

-- from 32 up there is nobody in the set of a test
pub in_set_past : (p : ℕ → Bool) (s : ℕ) → 32 ≤ s → in_set (set_of p) s ≡ false
in_set_past p s h = rw (digit_past 2 (set_of p) 32 s (set_lt p) h)

-- the offices below n of the set of a test
pub set_below : (n : ℕ) (p : ℕ → Bool) → fill 2 n (digit 2 (set_of p)) ≡ set_of (λ s. both (ltb s n) (p s))
unfolding set_of both
set_below n p =
    let low : ℕ = fill 2 n (digit 2 (set_of p)) in
    let bit : (q : ℕ) → digit 2 (set_of p) q < 2 = λ q. digit_lt 2 (set_of p) q (omega arith) in
    set_of_bits 32 low (λ s. both (ltb s n) (p s)) (rw (fill_digit 2 n (set_of p) (omega arith)) (lt_of_le_of_lt (mod-le (set_of p) (2 ^ n)) (set_lt p)))
    (λ s h.
    elim (dec_lt s n) as (λ _. in_set low s ≡ both (ltb s n) (p s)) [
      | yes l ↦ rw (digit_fill 2 n (digit 2 (set_of p)) bit s l, lt-ltb s n l) (in_set_lem p s h)
      | no past ↦ rw (digit_past 2 low n s (fill_lt 2 n (digit 2 (set_of p)) bit) (omega arith), le-ltb s n (omega arith))
    ])

-- two words of n bits with the same members are one word
same_word : (n w v : ℕ) → w < 2 ^ n → v < 2 ^ n → ((q : ℕ) → q < n → in_set w q ≡ in_set v q) → w ≡ v
same_word n w v fw fv same = set_of_bits n w (in_set v) fw same ∙ sym (set_of_bits n v (in_set v) fv (λ q h. refl))

-- a set that adds nobody to another is within it
pub within_or : (w v : ℕ) → w < 2 ^ 32 → v < 2 ^ 32 → eqb (bit_or w v) v ≡ within w v
unfolding within either
within_or w v fw fv =
    both_ways _ _
    (λ h. all_make _ 32 (λ q l. told (in_set w q) (in_set v q) (sym (bit_or_lem w v q) ∙ ap (λ (x : ℕ). in_set x q) (eqb-true _ _ h))))
    (λ h.
    eq-eqb _ _
    (same_word 32 (bit_or w v) v (or_lt 32 w v fw fv) fv (λ q l. bit_or_lem w v q ∙ joined (in_set w q) (in_set v q) (all_at _ 32 q h l))))
  where
    -- one test joined with another is that one: so where the first holds the other does
    told : (a b : Bool) → either a b ≡ b → either (not a) b ≡ true
    told true b e = sym e
    told false b e = refl

    joined : (a b : Bool) → either (not a) b ≡ true → either a b ≡ b
    joined true b e = sym e
    joined false b e = refl

-- the digit 3 of base 4 at a place within a word
last_within : (q n : ℕ) → q < n → 3 * 2 ^ (2 * q) % 4 ^ n ≡ 3 * 4 ^ q
last_within q n h =
    let pos : 0 < 4 ^ q = one-le-pow q 4 (omega arith) in
    let next : 3 * 4 ^ q < 4 ^ suc q = rw (pow-suc 4 q) (omega arith) in
    rw (← four_pow q) (mod-eq_of_lt (lt_of_lt_of_le next (pow-le-pow_right (omega arith) h)))

-- the two bits of a digit of base 4, looked at in place, are both 1 where the digit is 3
pub last_digit : (w q n m : ℕ) → q < n → m ≡ 3 * 2 ^ (2 * q) % 4 ^ n → eqb (bit_and w m) m ≡ eqb (digit 4 w q) 3
unfolding digit
last_digit w q n m h e =
    let pos : 0 < 4 ^ q = one-le-pow q 4 (omega arith) in
    let last : m ≡ 3 * 4 ^ q = e ∙ last_within q n h in
    let mask : 3 * 4 ^ q ≡ 2 ^ (2 + 2 * q) - 2 ^ (2 * q) = rw (four_pow q, pow-add 2 2 (2 * q)) (omega arith) in
    let inside : bit_and w m ≡ w / 4 ^ q % 4 * 4 ^ q = ap (bit_and w) (last ∙ mask) ∙ and_high w 2 (2 * q) ∙ rw (four_pow q) in
    rw (inside, last) (eqb_mul (w / 4 ^ q % 4) 3 (4 ^ q) pos)

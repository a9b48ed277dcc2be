-- Laws of rows of bits and their numbers, and of a row that is laid over another.
use Prim.Native.Nat.{ℕ, zero, suc, ◌+◌, ◌*◌, ◌-◌, ◌/◌, ◌%◌, ◌^◌, ◌≤◌, ◌<◌}
use mathlib.Core.Path.{◌≡◌, refl, sym, ap, ◌∙◌}
use mathlib.Core.Bool.{Bool, true, false}
use mathlib.Core.List.{List, [], ◌∷◌, ◌++◌, append_assoc}
use native.Mathlib.Nat.{add_assoc, add_comm, add-mul, add-suc, add-zero, mod-eq_of_lt, mod-lt, mod-one, mul_assoc, one-mul, pow-succ', suc-add, two-pow-succ, zero-add, zero-div, zero-mul, div-one}
use native.Mathlib.Omega.{arith}
use lib.Dec.{eqb}
use lib.ListN.{length, take, drop, set, replicate, length-append, length-drop, length-set, take-append-drop}
use lib.Pow.{pow-add, pow_pos, mod-pow-add, high, low, shr-shr}
use lib.Seq.{sets, sets-eq, set-append_left, set_comm, drop-append-le, take-append-le}
use Rattle.words.specs.Tests.{choose}
use Rattle.packed_log.specs.{Bits.to_bits, Bits.num, Windows.over}

-- w bits are w long
pub length_to_bits : (w v : ℕ) → length (to_bits w v) ≡ w
unfolding to_bits
length_to_bits zero v = refl
length_to_bits (suc w) v = ap suc (length_to_bits w v)

-- the bits of 0 are zero bits
pub zero_bits : (w : ℕ) → to_bits w 0 ≡ replicate w false
unfolding to_bits
zero_bits zero = refl
zero_bits (suc w) = rw (zero-div, zero_bits w)

-- a digit of base 2 as a row of one bit
pub bit_row : (d : ℕ) → d < 2 → to_bits 1 d ≡ eqb d 1 ∷ []
unfolding to_bits
bit_row d h = rw (div-one, mod-eq_of_lt h)

-- a bit as a number is 0 or 1
bit_number : (d : ℕ) → d < 2 → choose (eqb d 1) 1 0 ≡ d
unfolding choose
bit_number zero h = refl
bit_number (suc zero) h = refl
bit_number (suc (suc d)) h = absurd (omega arith)

-- a number as a bit is that bit
number_bit : (b : Bool) → eqb (choose b 1 0) 1 ≡ b
unfolding choose
number_bit true = refl
number_bit false = refl

-- a bit is below 2
bit_lt : (b : Bool) → choose b 1 0 < 2
unfolding choose
bit_lt true = omega arith
bit_lt false = omega arith

-- the number of a row is below the power of its length
pub num_lt : (r : List Bool) → num r < 2 ^ length r
unfolding num choose
num_lt [] = omega arith
num_lt (true ∷ r) = rw (two-pow-succ, one-mul) (omega (arith, num_lt r))
num_lt (false ∷ r) = rw (two-pow-succ, zero-mul) (omega (arith, num_lt r))

-- the number of two rows, one behind the other
pub num_append : (s t : List Bool) → num (s ++ t) ≡ num s * 2 ^ length t + num t
unfolding num
num_append [] t = rw (zero-mul, zero-add)
num_append (b ∷ s) t =
    let d : ℕ = choose b 1 0 in
    let e : d * 2 ^ length (s ++ t) + num (s ++ t) ≡ (d * 2 ^ length s + num s) * 2 ^ length t + num t = rw (length-append, pow-add, num_append s t, add-mul, mul_assoc, add_assoc) in
    e

-- the number of the w bits of v is v within w bits
pub num_to_bits_mod : (w v : ℕ) → num (to_bits w v) ≡ v % 2 ^ w
unfolding num to_bits
num_to_bits_mod zero v = rw mod-one
num_to_bits_mod (suc w) v =
    let d : ℕ = v / 2 ^ w % 2 in
    let e : choose (eqb d 1) 1 0 * 2 ^ length (to_bits w v) + num (to_bits w v) ≡ d * 2 ^ w + v % 2 ^ w = rw (bit_number d (omega arith), length_to_bits, num_to_bits_mod w v) in
    let one : suc w ≡ 1 + w = omega arith in
    e ∙ sym (rw one (mod-pow-add v 1 w))

-- a number that has room in w bits is read back from them
pub num_to_bits : (w v : ℕ) → v < 2 ^ w → num (to_bits w v) ≡ v
num_to_bits w v h = num_to_bits_mod w v ∙ mod-eq_of_lt h

-- the lower bits of a number, whatever stands above them
to_bits_below : (x : ℕ) (r : List Bool) → to_bits (length r) (x * 2 ^ length r + num r) ≡ r
unfolding to_bits num
to_bits_below x [] = refl
to_bits_below x (b ∷ r) =
    let n : ℕ = length r in
    let d : ℕ = choose b 1 0 in
    let e : x * 2 ^ suc n + (d * 2 ^ n + num r) ≡ (x * 2 + d) * 2 ^ n + num r = rw (pow-succ', add-mul, mul_assoc, add_assoc) in
    let odd : (x * 2 + d) % 2 ≡ d = low x 1 (bit_lt b) in
    let head : eqb (((x * 2 + d) * 2 ^ n + num r) / 2 ^ n % 2) 1 ≡ b = rw (high (x * 2 + d) n (num_lt r), odd, number_bit) in
    let tail : to_bits n ((x * 2 + d) * 2 ^ n + num r) ≡ r = to_bits_below (x * 2 + d) r in
    rw (to_bits, num, e, head, tail)

-- the bits of a row's number are the row
pub to_bits_num : (r : List Bool) → to_bits (length r) (num r) ≡ r
to_bits_num r = rw (zero-mul, zero-add) at (to_bits_below 0 r)

-- two numbers, one behind the other, as one number of their joined bits
pub join_bits : (a b x y : ℕ) → y < 2 ^ b → to_bits (a + b) (x * 2 ^ b + y) ≡ to_bits a x ++ to_bits b y
unfolding to_bits
join_bits zero b x y h = rw zero-add (rw (length_to_bits, num_to_bits b y h) at (to_bits_below x (to_bits b y)))
join_bits (suc a) b x y h =
    let v : ℕ = x * 2 ^ b + y in
    let above : v / 2 ^ (a + b) ≡ x / 2 ^ a = rw (add_comm a b, ← shr-shr v b a, high x b h) in
    rw (suc-add, above, join_bits a b x y h)

-- the first k bits of a row, and the others, as parts of its number
num_split : (r : List Bool) (k : ℕ) → (num (take k r) ≡ num r / 2 ^ (length r - k)) × (num (drop k r) ≡ num r % 2 ^ (length r - k))
num_split r k =
    let rest : length (drop k r) ≡ length r - k = length-drop k r in
    let split : num r ≡ num (take k r) * 2 ^ length (drop k r) + num (drop k r) = ap num (sym (take-append-drop k r)) ∙ num_append (take k r) (drop k r) in
    rw (split, ← rest, high (num (take k r)) (length (drop k r)) (num_lt (drop k r)), low (num (take k r)) (length (drop k r)) (num_lt (drop k r))) (refl, refl)

-- the w bits from position p on, as a part of the number of the whole row
pub num_part : (r : List Bool) (p w : ℕ) → p + w ≤ length r → num (take w (drop p r)) ≡ num r / 2 ^ (length r - (p + w)) % 2 ^ w
num_part r p w h =
    let g : ℕ = length r - (p + w) in
    let behind : length (drop p r) - w ≡ g = rw length-drop (omega arith) in
    let within : length r - p ≡ w + g = omega arith in
    (num_split (drop p r) w).0 ∙ rw (behind, (num_split r p).1, within, mod-pow-add (num r) w g, high (num r / 2 ^ g % 2 ^ w) g (mod-lt (num r) (pow_pos g)))

-- what stands behind both rows is out of reach
pub part_append : {A : Type 0} (x y : List A) (p w : ℕ) → p + w ≤ length x → take w (drop p (x ++ y)) ≡ take w (drop p x)
part_append x y p w h =
    let left : w ≤ length (drop p x) = simp length-drop (omega arith) in
    rw (drop-append-le p x y (omega arith), take-append-le w (drop p x) y left)

-- laying two rows one behind the other is laying the joined row
pub sets_sets : {A : Type 0} (r : List A) (p : ℕ) (t u : List A) → sets (sets r p t) (p + length t) u ≡ sets r p (t ++ u)
sets_sets r p [] u = rw add-zero
sets_sets r p (a ∷ t) u = rw (add-suc, ← suc-add) (sets_sets (set r p a) (suc p) t u)

-- what is laid over the first of two rows leaves the second
pub sets_left : {A : Type 0} (x y : List A) (p : ℕ) (t : List A) → p + length t ≤ length x → sets (x ++ y) p t ≡ sets x p t ++ y
sets_left x y p [] h = refl
sets_left x y p (a ∷ t) h =
    rw (set-append_left x y p a (omega arith))
    (sets_left (set x p a) y (suc p) t (rw length-set (omega arith)))

-- an element stays in front of what is laid behind it
sets_cons : {A : Type 0} (a : A) (y : List A) (p : ℕ) (t : List A) → sets (a ∷ y) (suc p) t ≡ a ∷ sets y p t
sets_cons a y p [] = refl
sets_cons a y p (b ∷ t) = sets_cons a (set y p b) (suc p) t

-- what is laid over the second of two rows leaves the first
pub sets_right : {A : Type 0} (x y : List A) (p : ℕ) (t : List A) → sets (x ++ y) (length x + p) t ≡ x ++ sets y p t
sets_right [] y p t = rw zero-add
sets_right (a ∷ x) y p t = rw (suc-add, sets_cons a (x ++ y) (length x + p) t, sets_right x y p t)

-- the number of a row with another laid over it
pub num_sets : (r : List Bool) (p : ℕ) (t : List Bool) → p + length t ≤ length r → num (sets r p t) ≡ over (num r) (length r - (p + length t)) (length t) (num t)
unfolding over
num_sets r p t h =
    let w : ℕ = length t in
    let g : ℕ = length r - (p + w) in
    let z : List Bool = drop (p + w) r in
    let long : length z ≡ g = length-drop (p + w) r in
    let laid : sets r p t ≡ take p r ++ (t ++ z) = rw append_assoc at (sets-eq t r p h) in
    let above : length r - p ≡ g + w = omega arith in
    let front : num (take p r) ≡ num r / 2 ^ (g + w) = rw above at (num_split r p).0 in
    let both : length (t ++ z) ≡ g + w = rw (length-append, long) (add_comm w g) in
    ap num laid
    ∙ num_append (take p r) (t ++ z)
    ∙ rw (num_append t z, both, long, front, (num_split r (p + w)).1) (sym (add_assoc _ _ _))

-- an element in front of a row that is laid is set before it as well as after it
set_sets : {A : Type 0} (r : List A) (p k : ℕ) (a : A) (u : List A) → p < k → set (sets r k u) p a ≡ sets (set r p a) k u
set_sets r p k a [] h = refl
set_sets {A} r p k a (b ∷ u) h =
    set_sets (set r k b) p (suc k) a u (omega arith)
    ∙ ap (λ (l : List A). sets l (suc k) u) (set_comm r k p b a (λ e. omega arith))

-- laying a row right in front of one that was laid before is laying the joined row
pub sets_before : {A : Type 0} (r : List A) (p : ℕ) (t u : List A) → sets (sets r (p + length t) u) p t ≡ sets r p (t ++ u)
sets_before r p [] u = rw add-zero
sets_before r p (a ∷ t) u =
    rw (set_sets r p (p + suc (length t)) a u (omega arith), add-suc, ← suc-add) (sets_before (set r p a) (suc p) t u)

-- Laws of fields of up to 32 bits, which the code reads and writes as two parts of up to 16 bits, the upper one first.
use Prim.Native.Nat.{ℕ, ◌+◌, ◌*◌, ◌-◌, ◌/◌, ◌%◌, ◌^◌, ◌≤◌, ◌<◌, min}
use mathlib.Core.Path.{◌≡◌, sym, ap, ◌∙◌}
use mathlib.Core.Bool.{Bool, true, false}
use mathlib.Core.List.{List, ◌++◌}
use mathlib.Core.Logic.{⊎_elim}
use native.Mathlib.Nat.{div-one, lt_of_lt_of_le, mod-lt}
use native.Mathlib.Omega.{arith}
use borrow.Author.Tests.{leb-true, le-leb, lt-leb}
use lib.Dec.{leb}
use lib.ListN.{length, take, drop, length-take, length-drop}
use lib.Pow.{pow_mono, pow_pos, shl_exact, split}
use lib.Seq.{take-add, drop-drop}
use Rattle.words.specs.Tests.{choose, conj}
use Rattle.words.proofs.Tests.{decided, both_left, both_right, both_ways}
use Rattle.words.proofs.Turns.{answered_not}
use Rattle.packed_log.specs.Bits.{to_bits, num, bits, field, put}
use Rattle.packed_log.specs.Fields.{there, field_at, with_field}
use Rattle.packed_log.proofs.BitRows.{length_to_bits, num_append, num_to_bits_mod, to_bits_num, join_bits}
use Rattle.packed_log.proofs.BitsLaws.{length_bits, field_lt, put_put}

-- the code's test of the room behind a position, which computes no sum
pub room_behind : (n p w : ℕ) → p ≤ n → leb w (n - p) ≡ leb (p + w) n
room_behind n p w h =
    both_ways (leb w (n - p)) (leb (p + w) n)
    (λ t. le-leb (p + w) n (omega (arith, leb-true w (n - p) t)))
    (λ t. le-leb w (n - p) (omega (arith, leb-true (p + w) n t)))

-- there is none behind a position past the end
pub none_behind : (n p w : ℕ) → n < p → leb (p + w) n ≡ false
none_behind n p w h = lt-leb (p + w) n (omega arith)

-- the bits of a field are there
abbrev pub Room : (l : List ℕ) → (p w : ℕ) → Type 0
Room l p w = (length l ≤ 65536) × (w ≤ 32) × (p + w ≤ 8 * length l)

-- what the test of them says where it holds
pub in_room : (l : List ℕ) (p w : ℕ) → there l p w ≡ true → Room l p w
unfolding there conj
in_room l p w h =
    let rest = both_right (leb (length l) 65536) _ h in
    (leb-true _ _ (both_left _ _ h), leb-true _ _ (both_left _ _ rest), leb-true _ _ (both_left _ _ (both_right _ _ rest)))

-- what is read has room in 32 bits
pub field_fits : (l : List ℕ) (p w : ℕ) → field_at l p w < 2 ^ 32
unfolding field_at choose
field_fits l p w =
    ⊎_elim (λ t. rw t (lt_of_lt_of_le (field_lt l p w) (pow_mono {j = 32} (in_room l p w t).1))) (λ f. rw f (omega arith)) (decided (there l p w))

-- a field is its upper part, moved up, and its lower part
field_split : (l : List ℕ) (p a b : ℕ) → p + (a + b) ≤ 8 * length l → field l p (a + b) ≡ field l p a * 2 ^ b + field l (p + a) b
unfolding field
field_split l p a b h =
    let r : List Bool = drop p (bits l) in
    let long : length (take b (drop a r)) ≡ b = simp (length-take, length-drop, length_bits) (omega arith) in
    ap num (take-add a b r) ∙ num_append (take a r) (take b (drop a r)) ∙ rw (long, drop-drop a p (bits l))

-- the two parts, each of at most 16 bits, are the field, and the upper one loses no bit where it is moved up
pub parts_read : (l : List ℕ) (p w b x y : ℕ) → there l p w ≡ true → b ≡ min w 16 → x ≡ field l p (w - b) → y ≡ field l (p + (w - b)) b
    → x * 2 ^ b % 2 ^ 32 + y ≡ field_at l p w
unfolding field_at choose
parts_read l p w b x y h low ex ey =
    let a : ℕ = w - b in
    let whole : a + b ≡ w = omega arith in
    let moved : x * 2 ^ b % 2 ^ 32 ≡ x * 2 ^ b = rw ex (shl_exact a b 32 (field_lt l p a) (omega (arith, in_room l p w h))) in
    rw (h, moved, ex, ey) (rw whole at (sym (field_split l p a b (omega (arith, in_room l p w h)))))

-- w bits show of a number only what is within them
to_bits_mod : (w v : ℕ) → to_bits w (v % 2 ^ w) ≡ to_bits w v
to_bits_mod w v = rw (length_to_bits, num_to_bits_mod) at (to_bits_num (to_bits w v))

-- the bits of a number are those of its upper part and those of its lower part
to_bits_split : (a b v : ℕ) → to_bits a (v / 2 ^ b % 2 ^ a) ++ to_bits b (v % 2 ^ b) ≡ to_bits (a + b) v
to_bits_split a b v =
    rw (to_bits_mod a (v / 2 ^ b), ← join_bits a b (v / 2 ^ b) (v % 2 ^ b) (mod-lt v (pow_pos b)), split v b)

-- the two parts, laid one behind the other, are the field
pub parts_laid : (l l1 l2 : List ℕ) (p w v b x y : ℕ) → there l p w ≡ true → b ≡ min w 16
    → l1 ≡ put l p (to_bits (w - b) x) → x ≡ v / 2 ^ b % 2 ^ (w - b) → l2 ≡ put l1 (p + (w - b)) (to_bits b y) → y ≡ v / 2 ^ 0 % 2 ^ b
    → l2 ≡ with_field l p w v
unfolding with_field choose
parts_laid l l1 l2 p w v b x y h low e1 ex e2 ey =
    let a : ℕ = w - b in
    let whole : a + b ≡ w = omega arith in
    let joined : to_bits a x ++ to_bits b y ≡ to_bits w v = rw (ex, ey, div-one) (rw whole at (to_bits_split a b v)) in
    rw (h, e2, e1, ← joined) (rw length_to_bits at (put_put l p (to_bits a x) (to_bits b y)))

-- For `search parts`: both laws, and that the test holds which the code has made.
pub ruleset parts = (parts_read, parts_laid, answered_not)

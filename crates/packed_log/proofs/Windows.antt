-- Laws of three bytes as one number: a field is a part of it, and a field that is laid over them changes only that part.
use Prim.Native.Nat.{ℕ, zero, suc, ◌+◌, ◌*◌, ◌-◌, ◌/◌, ◌%◌, ◌^◌, ◌≤◌, ◌<◌}
use mathlib.Core.Path.{◌≡◌, sym, ap, ◌∙◌}
use mathlib.Core.Bool.{Bool}
use mathlib.Core.List.{List, [], ◌∷◌, ◌++◌, append-nil}
use native.Mathlib.Nat.{add-zero, div-add-mod, div-mul-le_self, div-one, lt_of_le_of_lt, mod-eq_of_lt, one-mul}
use native.Mathlib.Omega.{arith}
use lib.ListN.{length, get_or, set, take, drop, replicate, length-append, length-drop}
use lib.Pow.{pow_pos, shl_exact}
use lib.Seq.{sets, length-sets, take_at, drop-drop, get_or-drop}
use mir.{Syntax.w8, Val.Fits}
use Rattle.packed_log.specs.Bits.{Bytes, to_bits, num, bits, pack, field, put}
use Rattle.packed_log.specs.Windows.{window, over}
use Rattle.packed_log.proofs.BitRows.{length_to_bits, num_lt, num_append, num_to_bits, num_part, num_sets}
use Rattle.packed_log.proofs.BitsLaws.{length_bits, field_left, field_drop, put_pack, length_put, put_left}

-- 1 shifted within 24 bits is the power of 2, which fits
pub unit_shift : (w : ℕ) → w ≤ 24 → 1 * 2 ^ w % 2 ^ 32 ≡ 2 ^ w
unit_shift w h = shl_exact 1 w 32 (omega arith) (omega arith) ∙ one-mul (2 ^ w)

-- the bits above the lowest a, shifted down and up again, still fit
high_shift : (v a : ℕ) → v < 2 ^ 24 → v / 2 ^ a * 2 ^ a % 2 ^ 32 ≡ v / 2 ^ a * 2 ^ a
high_shift v a h = mod-eq_of_lt (lt_of_le_of_lt (div-mul-le_self v (2 ^ a)) (omega arith))

-- the first three bytes, 0 for each that is not there
unfoldable three : List ℕ → List ℕ
three l = get_or l 0 0 ∷ get_or l 1 0 ∷ get_or l 2 0 ∷ []

-- the row of three bytes has the number of the three
num_three : (l : List ℕ) → Bytes l → num (bits (three l)) ≡ window l 0
unfolding three bits
num_three l h =
    simp (append-nil, num_append, length-append, length_to_bits, num_to_bits 8 (get_or l 0 0) (h 0), num_to_bits 8 (get_or l 1 0) (h 1), num_to_bits 8 (get_or l 2 0) (h 2))
    (omega arith)

-- a field within the first three bytes is a field of these
field_three : (l : List ℕ) (p w : ℕ) → p + w ≤ 8 * length l → p + w ≤ 24 → field l p w ≡ field (three l) p w
unfolding three
field_three [] p w room h = sym (field_left [] (0 ∷ 0 ∷ 0 ∷ []) p w room)
field_three (a ∷ []) p w room h = sym (field_left (a ∷ []) (0 ∷ 0 ∷ []) p w room)
field_three (a ∷ b ∷ []) p w room h = sym (field_left (a ∷ b ∷ []) (0 ∷ []) p w room)
field_three (a ∷ b ∷ c ∷ l) p w room h = field_left (a ∷ b ∷ c ∷ []) l p w h

-- bytes from a place on are bytes
pub bytes_drop : (f : ℕ) (l : List ℕ) → Bytes l → Bytes (drop f l)
bytes_drop f l h i = rw get_or-drop (h (f + i))

-- the window at a byte is the window at the front of the log from that byte on
window_drop : (l : List ℕ) (f : ℕ) → window (drop f l) 0 ≡ window l f
window_drop l f = rw (get_or-drop f l 0, get_or-drop f l 1, get_or-drop f l 2, add-zero)

-- a field as a part of the window from its first byte on
pub field_window : (l : List ℕ) (p w : ℕ) → Bytes l → w ≤ 16 → p + w ≤ 8 * length l → window l (p / 8) / 2 ^ (24 - p % 8 - w) % 2 ^ w ≡ field l p w
unfolding field three
field_window l p w h narrow room =
    let f : ℕ = p / 8 in
    let s : ℕ = p % 8 in
    let m : List ℕ = drop f l in
    let at : p ≡ 8 * f + s = sym (div-add-mod p 8) in
    let within : s + w ≤ 8 * length m = simp length-drop (omega arith) in
    let all : length (bits (three m)) ≡ 24 = length_bits (three m) in
    let part : s + w ≤ length (bits (three m)) = rw all (omega arith) in
    let behind : 24 - s - w ≡ 24 - (s + w) = omega arith in
    let whole : num (bits (three m)) ≡ window l f = num_three m (bytes_drop f l h) ∙ window_drop l f in
    sym
    (ap (λ (k : ℕ). field l k w) at
    ∙ field_drop l f s w
    ∙ field_three m s w within (omega arith)
    ∙ num_part (bits (three m)) s w part
    ∙ rw (all, whole, behind))

-- the number after a field is laid over 24 bits, as the number of a row
over_num : (v g w x : ℕ) → v < 2 ^ 24 → g + w ≤ 24 → x < 2 ^ w → over v g w x ≡ num (sets (to_bits 24 v) (24 - g - w) (to_bits w x))
over_num v g w x hv hw hx =
    let room : 24 - g - w + length (to_bits w x) ≤ length (to_bits 24 v) = simp length_to_bits (omega arith) in
    let behind : 24 - (24 - g - w + w) ≡ g = omega arith in
    sym (num_sets (to_bits 24 v) (24 - g - w) (to_bits w x) room ∙ simp (length_to_bits, num_to_bits 24 v hv, num_to_bits w x hx, behind))

-- the number stays within 24 bits
over_lt : (v g w x : ℕ) → v < 2 ^ 24 → g + w ≤ 24 → x < 2 ^ w → over v g w x < 2 ^ 24
over_lt v g w x hv hw hx =
    let r : List Bool = sets (to_bits 24 v) (24 - g - w) (to_bits w x) in
    let long : length r ≡ 24 = length-sets (to_bits 24 v) (24 - g - w) (to_bits w x) ∙ length_to_bits 24 v in
    rw (over_num v g w x hv hw hx) (rw long at (num_lt r))

-- what the code computes of it by shifts, each of which loses no bit
pub record Shifted (v g w x : ℕ) : Type 0 where
  pub high : v / 2 ^ (g + w) * 2 ^ (g + w) % 2 ^ 32 ≡ v / 2 ^ (g + w) * 2 ^ (g + w)
  pub middle : x * 2 ^ g % 2 ^ 32 ≡ x * 2 ^ g
  pub unit : 1 * 2 ^ g % 2 ^ 32 ≡ 2 ^ g
  pub low : v % (1 * 2 ^ g % 2 ^ 32) ≡ v % 2 ^ g
  pub some : 0 < 2 ^ g
  pub small : over v g w x < 2 ^ 24

pub shifted : (v g w x : ℕ) → v < 2 ^ 24 → g + w ≤ 24 → x < 2 ^ w → Shifted v g w x
shifted v g w x hv hw hx =
    record {
      high = high_shift v (g + w) hv;
      middle = shl_exact {a = x} w g 32 hx (omega arith);
      unit = unit_shift g (omega arith);
      low = rw (unit_shift g (omega arith));
      some = pow_pos g;
      small = over_lt v g w x hv hw hx;
    }

-- three bytes of a number
unfoldable split : ℕ → List ℕ
split v = v / 65536 ∷ v / 256 % 256 ∷ v % 256 ∷ []

-- a row of 24 bits packs into the three bytes of its number
pack_three : (r : List Bool) → length r ≡ 24 → pack 3 r ≡ split (num r)
unfolding pack split
pack_three r h =
    let small : num r < 2 ^ 24 = rw h at (num_lt r) in
    let first : num (take 8 r) ≡ num r / 65536 = rw h at (num_part r 0 8 (omega arith)) ∙ mod-eq_of_lt (omega arith) in
    let second : num (take 8 (drop 8 r)) ≡ num r / 256 % 256 = rw h at (num_part r 8 8 (omega arith)) in
    let third : num (take 8 (drop 16 r)) ≡ num r % 256 = (rw h at (num_part r 16 8 (omega arith))) ∙ rw div-one in
    rw (first, second, drop-drop 8 8 r, third)

-- the first three bytes after a field is laid over them
put_three : (l : List ℕ) (p w x : ℕ) → Bytes l → p + w ≤ 24 → x < 2 ^ w → put (three l) p (to_bits w x) ≡ split (over (window l 0) (24 - p - w) w x)
unfolding three
put_three l p w x h room hx =
    let r : List Bool = sets (bits (three l)) p (to_bits w x) in
    let all : length (bits (three l)) ≡ 24 = length_bits (three l) in
    let within : p + length (to_bits w x) ≤ length (bits (three l)) = rw (all, length_to_bits) room in
    let long : length r ≡ 24 = length-sets (bits (three l)) p (to_bits w x) ∙ all in
    let behind : 24 - (p + w) ≡ 24 - p - w = omega arith in
    let value : num r ≡ over (window l 0) (24 - p - w) w x = num_sets (bits (three l)) p (to_bits w x) within ∙ rw (all, length_to_bits, behind, num_three l h, num_to_bits w x hx) in
    put_pack (three l) p (to_bits w x) ∙ pack_three r long ∙ ap split value

-- what is laid over a buffer is the front of what is laid over the buffer with more behind it
put_front : (l m y : List ℕ) (p : ℕ) (t : List Bool) → Bytes m → p + length t ≤ 8 * length l → put (l ++ m) p t ≡ y → put l p t ≡ take (length l) y
put_front l m y p t h room e =
    sym (take_at (put l p t) m (length l) (length_put l p t)) ∙ ap (take (length l)) (sym (put_left l m p t h room) ∙ e)

-- bytes of 0 are bytes
zeros : (n : ℕ) → Bytes (replicate n 0)
zeros zero i = omega arith
zeros (suc n) zero = omega arith
zeros (suc n) (suc i) = zeros n i

-- three stores, of the bytes of a window with a field laid over it, lay the field over the buffer
pub put_stores : (l l1 l2 l3 : List ℕ) (p w x v before : ℕ) → ((i : ℕ) → Fits w8 (get_or l i 0)) → p < 8 → w ≤ 16 → p + w ≤ 8 * length l → x < 2 ^ w
    → before ≡ window l 0 → v ≡ over before (24 - p - w) w x
    → l1 ≡ set l 0 (v / 65536) → l2 ≡ set l1 1 (v / 256 % 256) → l3 ≡ set l2 2 (v % 256) → l3 ≡ put l p (to_bits w x)
unfolding three split
put_stores l l1 l2 l3 p w x v before known low narrow room hx seen laid e1 e2 e3 =
    let h : Bytes l = λ i. (known i).fits in
    let short : p + w ≤ 24 = omega arith in
    rw (e3, e2, e1) (sym (go l h room (put_three l p w x h short hx ∙ ap split (sym (rw seen at laid)))))
  where
    go : (l : List ℕ) → Bytes l → p + w ≤ 8 * length l → put (three l) p (to_bits w x) ≡ split v → put l p (to_bits w x) ≡ set (set (set l 0 (v / 65536)) 1 (v / 256 % 256)) 2 (v % 256)
    go [] h room f = put_front [] (0 ∷ 0 ∷ 0 ∷ []) (split v) p (to_bits w x) (zeros 3) (rw length_to_bits room) f
    go (a ∷ []) h room f = put_front (a ∷ []) (0 ∷ 0 ∷ []) (split v) p (to_bits w x) (zeros 2) (rw length_to_bits room) f
    go (a ∷ b ∷ []) h room f = put_front (a ∷ b ∷ []) (0 ∷ []) (split v) p (to_bits w x) (zeros 1) (rw length_to_bits room) f
    go (a ∷ b ∷ d ∷ l) h room f = put_left (a ∷ b ∷ d ∷ []) l p (to_bits w x) (λ i. h (suc (suc (suc i)))) (rw length_to_bits (omega arith)) ∙ ap (λ (y : List ℕ). y ++ l) f

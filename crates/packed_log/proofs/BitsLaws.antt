-- Laws of logs as rows of bits: bytes and rows turned into each other, fields read and rows laid over a buffer.
use Prim.Native.Nat.{ℕ, zero, suc, ◌+◌, ◌*◌, ◌-◌, ◌/◌, ◌%◌, ◌^◌, ◌≤◌, ◌<◌}
use mathlib.Core.Path.{◌≡◌, refl, sym, ap, ◌∙◌}
use mathlib.Core.Bool.{Bool}
use mathlib.Core.List.{List, [], ◌∷◌, ◌++◌, append_assoc, append-nil}
use native.Mathlib.Nat.{div-add-mod, mul-div_cancel_left, mul-suc, add_comm, lt_of_lt_of_le, min-le_left}
use native.Mathlib.Omega.{arith}
use lib.ListN.{length, take, drop, length-append, length-take, length-drop, take-append-drop, drop_of_length-le}
use lib.Pow.{pow_mono}
use lib.Seq.{sets, length-sets, take_all, take_at, take-append-add, take-nil, drop_at, drop-append-add, drop-drop, drop-nil}
use Rattle.packed_log.specs.Bits.{Bytes, to_bits, num, bits, pack, bytes, field, put}
use Rattle.packed_log.proofs.BitRows.{length_to_bits, num_lt, num_to_bits, to_bits_num, part_append, sets_sets, sets_before, sets_left, sets_right}

-- eight bits to a byte
pub length_bits : (l : List ℕ) → length (bits l) ≡ 8 * length l
unfolding bits
length_bits [] = refl
length_bits (b ∷ l) = rw (length-append, length_to_bits, length_bits l, mul-suc) (add_comm 8 (8 * length l))

-- the row of two logs, one behind the other
bits_append : (l m : List ℕ) → bits (l ++ m) ≡ bits l ++ bits m
unfolding bits
bits_append [] m = refl
bits_append (b ∷ l) m = rw (bits_append l m, append_assoc)

-- the row from a byte's first bit on
drop_bits : (f : ℕ) (l : List ℕ) → drop (8 * f) (bits l) ≡ bits (drop f l)
unfolding bits
drop_bits zero l = refl
drop_bits (suc f) [] = rw drop-nil
drop_bits (suc f) (b ∷ l) =
    let e : 8 * suc f ≡ length (to_bits 8 b) + 8 * f = rw length_to_bits (omega arith) in
    rw (e, drop-append-add (to_bits 8 b) (bits l) (8 * f)) (drop_bits f l)

-- a row of n whole bytes is the row of its bytes
bits_pack : (n : ℕ) (r : List Bool) → length r ≡ 8 * n → bits (pack n r) ≡ r
unfolding bits pack
bits_pack zero [] h = refl
bits_pack zero (b ∷ r) h = absurd (omega arith)
bits_pack (suc n) r h =
    let eight : length (take 8 r) ≡ 8 = simp length-take (omega arith) in
    let rest : length (drop 8 r) ≡ 8 * n = simp length-drop (omega arith) in
    let first : to_bits 8 (num (take 8 r)) ≡ take 8 r = rw eight at (to_bits_num (take 8 r)) in
    rw (first, bits_pack n (drop 8 r) rest, take-append-drop)

-- a packed row has only bytes
bytes_pack : (n : ℕ) (r : List Bool) → Bytes (pack n r)
unfolding pack
bytes_pack zero r i = omega arith
bytes_pack (suc n) r zero = lt_of_lt_of_le (num_lt (take 8 r)) (pow_mono {j = 8} (simp length-take (omega arith)))
bytes_pack (suc n) r (suc i) = bytes_pack n (drop 8 r) i

-- the bytes of a log's row are the log
pack_bits : (l : List ℕ) → Bytes l → pack (length l) (bits l) ≡ l
unfolding pack bits
pack_bits [] h = refl
pack_bits (b ∷ l) h =
    rw (take_at (to_bits 8 b) (bits l) 8 (length_to_bits 8 b), drop_at (to_bits 8 b) (bits l) 8 (length_to_bits 8 b), num_to_bits 8 b (h 0), pack_bits l (λ i. h (suc i)))

-- n bytes are n long
length_pack : (n : ℕ) (r : List Bool) → length (pack n r) ≡ n
unfolding pack
length_pack zero r = refl
length_pack (suc n) r = ap suc (length_pack n (drop 8 r))

-- a row of n whole bytes has n bytes
bytes_pack_eq : (n : ℕ) (r : List Bool) → length r ≡ 8 * n → bytes r ≡ pack n r
unfolding bytes
bytes_pack_eq n r h = rw (h, mul-div_cancel_left n {n = 8} (omega arith))

-- the row of the bytes of whole bytes is that row
pub bits_bytes : (n : ℕ) (r : List Bool) → length r ≡ 8 * n → bits (bytes r) ≡ r
bits_bytes n r h = ap bits (bytes_pack_eq n r h) ∙ bits_pack n r h

-- the bytes of a log's row are the log
pub bytes_bits : (l : List ℕ) → Bytes l → bytes (bits l) ≡ l
bytes_bits l h = bytes_pack_eq (length l) (bits l) (length_bits l) ∙ pack_bits l h

-- the bytes of the buffer's row with t laid over it
pub put_pack : (l : List ℕ) (p : ℕ) (t : List Bool) → put l p t ≡ pack (length l) (sets (bits l) p t)
unfolding put
put_pack l p t = bytes_pack_eq (length l) (sets (bits l) p t) (length-sets (bits l) p t ∙ length_bits l)

-- a buffer keeps its length
pub length_put : (l : List ℕ) (p : ℕ) (t : List Bool) → length (put l p t) ≡ length l
length_put l p t = ap length (put_pack l p t) ∙ length_pack (length l) (sets (bits l) p t)

-- a buffer that was written holds bytes
bytes_put : (l : List ℕ) (p : ℕ) (t : List Bool) → Bytes (put l p t)
bytes_put l p t = rw put_pack (bytes_pack (length l) (sets (bits l) p t))

-- the row of a buffer after t was laid over it
pub bits_put : (l : List ℕ) (p : ℕ) (t : List Bool) → bits (put l p t) ≡ sets (bits l) p t
unfolding put
bits_put l p t = bits_bytes (length l) (sets (bits l) p t) (length-sets (bits l) p t ∙ length_bits l)

-- where nothing is laid, the buffer stays
pub put_none : (l : List ℕ) (p : ℕ) → Bytes l → put l p [] ≡ l
unfolding put
put_none l p h = bytes_bits l h

-- laying one row and then the next right behind it is laying both, joined
pub put_put : (l : List ℕ) (p : ℕ) (t u : List Bool) → put (put l p t) (p + length t) u ≡ put l p (t ++ u)
put_put l p t u =
    put_pack (put l p t) (p + length t) u
    ∙ rw (length_put l p t, bits_put l p t, sets_sets (bits l) p t u) (sym (put_pack l p (t ++ u)))

-- a field of w bits is below their power
pub field_lt : (l : List ℕ) (p w : ℕ) → field l p w < 2 ^ w
unfolding field
field_lt l p w = lt_of_lt_of_le (num_lt (take w (drop p (bits l)))) (pow_mono {j = w} (rw length-take (min-le_left w (length (drop p (bits l))))))

-- a field within the first of two parts is a field of that part
pub field_left : (l m : List ℕ) (p w : ℕ) → p + w ≤ 8 * length l → field (l ++ m) p w ≡ field l p w
unfolding field
field_left l m p w h = rw (bits_append l m, part_append (bits l) (bits m) p w (rw length_bits h))

-- a field behind whole bytes is a field of the log without them
pub field_drop : (l : List ℕ) (f p w : ℕ) → field l (8 * f + p) w ≡ field (drop f l) p w
unfolding field
field_drop l f p w = rw (← drop_bits f l, drop-drop p (8 * f) (bits l))

-- two logs with one row are one log
same_row : (l m : List ℕ) → Bytes l → Bytes m → bits l ≡ bits m → l ≡ m
same_row l m hl hm e = sym (bytes_bits l hl) ∙ ap bytes e ∙ bytes_bits m hm

-- bytes joined to bytes are bytes
bytes_append : (l m : List ℕ) → Bytes l → Bytes m → Bytes (l ++ m)
bytes_append [] m hl hm i = hm i
bytes_append (b ∷ l) m hl hm zero = hl 0
bytes_append (b ∷ l) m hl hm (suc i) = bytes_append l m (λ k. hl (suc k)) hm i

-- what is laid over the first of two parts leaves the second
pub put_left : (l m : List ℕ) (p : ℕ) (t : List Bool) → Bytes m → p + length t ≤ 8 * length l → put (l ++ m) p t ≡ put l p t ++ m
put_left l m p t h room =
    let within : p + length t ≤ length (bits l) = rw length_bits room in
    same_row (put (l ++ m) p t) (put l p t ++ m) (bytes_put (l ++ m) p t) (bytes_append (put l p t) m (bytes_put l p t) h)
    (simp (bits_put, bits_append, sets_left (bits l) (bits m) p t within))

-- what is laid over the second of two parts leaves the first
put_right : (l m : List ℕ) (p : ℕ) (t : List Bool) → Bytes l → put (l ++ m) (8 * length l + p) t ≡ l ++ put m p t
put_right l m p t h =
    same_row (put (l ++ m) (8 * length l + p) t) (l ++ put m p t) (bytes_put (l ++ m) (8 * length l + p) t) (bytes_append l (put m p t) h (bytes_put m p t))
    (simp (bits_put, bits_append, ← length_bits, sets_right (bits l) (bits m) p t))

-- the first bytes of a log are bytes
bytes_take : (f : ℕ) (l : List ℕ) → Bytes l → Bytes (take f l)
bytes_take zero l h i = omega arith
bytes_take (suc f) [] h i = h i
bytes_take (suc f) (b ∷ l) h zero = h 0
bytes_take (suc f) (b ∷ l) h (suc i) = bytes_take f l (λ k. h (suc k)) i

-- laying a row over the part that starts at the first unfinished byte is laying it over the whole buffer
pub put_part : (l : List ℕ) (p : ℕ) (t : List Bool) → Bytes l → p ≤ 8 * length l
    → take (p / 8) l ++ (put (take (length l - p / 8) (drop (p / 8) l)) (p % 8) t ++ drop (length l - p / 8) (drop (p / 8) l)) ≡ put l p t
put_part l p t h within =
    let f : ℕ = p / 8 in
    let front : length (take f l) ≡ f = simp length-take (omega arith) in
    let rest : length (drop f l) ≤ length l - f = simp length-drop (omega arith) in
    rw (take_all (length l - f) (drop f l) rest, drop_of_length-le (drop f l) rest, append-nil)
    (sym (put_right (take f l) (drop f l) (p % 8) t (bytes_take f l h)) ∙ rw (front, take-append-drop f l, div-add-mod p 8))

-- laying a row right in front of one that was laid before is laying both, joined
pub put_before : (l : List ℕ) (p : ℕ) (t u : List Bool) → put (put l (p + length t) u) p t ≡ put l p (t ++ u)
put_before l p t u =
    put_pack (put l (p + length t) u) p t
    ∙ rw (length_put l (p + length t) u, bits_put l (p + length t) u, sets_before (bits l) p t u) (sym (put_pack l p (t ++ u)))

-- the row of the first bytes of a log
pub take_bits : (f : ℕ) (l : List ℕ) → bits (take f l) ≡ take (8 * f) (bits l)
unfolding bits
take_bits zero l = refl
take_bits (suc f) [] = rw take-nil
take_bits (suc f) (b ∷ l) =
    let e : 8 * suc f ≡ length (to_bits 8 b) + 8 * f = rw length_to_bits (omega arith) in
    rw (e, take-append-add (to_bits 8 b) (bits l) (8 * f), take_bits f l)

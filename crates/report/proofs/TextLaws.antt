-- Laws of text that is written piece by piece, of numbers in decimal, and of how long the lines are.
use Prim.Native.Nat.{ℕ, zero, suc, ◌+◌, ◌*◌, ◌-◌, ◌/◌, ◌%◌, ◌^◌, ◌≤◌, ◌<◌}
use mathlib.Core.Path.{◌≡◌, ap, ◌∙◌}
use mathlib.Core.List.{List, [], ◌∷◌, ◌++◌}
use native.Mathlib.Decide.{dec_lt}
use native.Mathlib.Nat.{add_assoc, add-suc, add-zero, one-le-pow, pow-succ', suc-add, zero-add}
use native.Mathlib.Omega.{arith}
use borrow.Author.Tests.{lt-ltb, le-ltb}
use lib.ListN.{length, drop, set, length-append}
use lib.Seq.{sets, sets-eq, length-sets, set_comm}
use Rattle.words.specs.Tests.{choose}
use Rattle.packed_log.proofs.BitRows.{sets_sets}
use Rattle.report.specs.Text.{TextWritten, digits_by, decimal, number_then, numbers, step_line, office_line, step_bytes, office_bytes}

-- a text, and then another behind it, is the joined text
pub then : {l m k : List ℕ} {p q r : ℕ} {t u : List ℕ} → TextWritten l p t q m → TextWritten m q u r k → TextWritten l p (t ++ u) r k
then {l} {m} {k} {p} {q} {r} {t} {u} first second =
    record {
      counted = second.counted ∙ rw (first.counted, length-append) (add_assoc _ _ _);
      laid = second.laid ∙ rw (first.laid, first.counted) (sets_sets l p t u);
    }

-- a buffer that is written into keeps its length
pub same_size : {l m t : List ℕ} {p q : ℕ} → TextWritten l p t q m → length m ≡ length l
same_size {l} {m} {t} {p} w = ap length w.laid ∙ length-sets l p t

-- a text that is laid over a buffer from its start, where it fits: the text, and behind it the rest of the buffer
pub sets_front : (buffer t : List ℕ) → length t ≤ length buffer → sets buffer 0 t ≡ t ++ drop (length t) buffer
sets_front buffer t h = rw zero-add at (sets-eq t buffer 0 (rw zero-add h))

-- the byte behind a text may be laid before the text
byte_first : (l : List ℕ) (p : ℕ) (t : List ℕ) (b : ℕ) → sets (set l (p + length t) b) p t ≡ sets l p (t ++ (b ∷ []))
byte_first l p [] b = rw add-zero
byte_first l p (a ∷ t) b =
    rw (set_comm l (p + suc (length t)) p b a (λ e. omega arith), add-suc, ← suc-add) (byte_first (set l p a) (suc p) t b)

-- the tenth of a number is below the next lower power of ten
shorter : (k n : ℕ) → n < 10 ^ suc k → n / 10 < 10 ^ k
shorter k n h = let e : 10 ^ suc k ≡ 10 * 10 ^ k = pow-succ' 10 k in omega arith

-- where there is room for all digits, more room changes nothing
digits_more : (most n : ℕ) → n < 10 ^ suc most → digits_by (suc (suc most)) n ≡ digits_by (suc most) n
unfolding digits_by choose
digits_more zero n h = rw (lt-ltb n 10 h)
digits_more (suc most) n h = rw (digits_more most (n / 10) (shorter (suc most) n h))

-- a number below 10 in decimal is its digit
pub decimal_one : (n : ℕ) → n < 10 → decimal n ≡ (48 + n) ∷ []
unfolding decimal digits_by choose
decimal_one n h = rw (lt-ltb n 10 h)

-- any other is its tenth in decimal, and its last digit
decimal_more : (n : ℕ) → n < 2 ^ 64 → 10 ≤ n → decimal n ≡ decimal (n / 10) ++ ((48 + n % 10) ∷ [])
unfolding decimal digits_by choose
decimal_more n fits h = rw (le-ltb n 10 h, digits_more 18 (n / 10) (omega arith))

-- a number from 10 on has one digit more than its tenth
pub decimal_longer : (n : ℕ) → n < 2 ^ 64 → 10 ≤ n → length (decimal n) ≡ length (decimal (n / 10)) + 1
decimal_longer n fits h = rw (decimal_more n fits h, length-append)

-- a number is laid by its last digit, and then its tenth before it
pub last_first : (l : List ℕ) (p place n : ℕ) → n < 2 ^ 64 → 10 ≤ n → place ≡ p + length (decimal n)
    → sets (set l (place - 1) (48 + n % 10)) p (decimal (n / 10)) ≡ sets l p (decimal n)
last_first l p place n fits h at-end =
    let here : place - 1 ≡ p + length (decimal (n / 10)) = omega (arith, decimal_longer n fits h) in
    rw (here, decimal_more n fits h) (byte_first l p (decimal (n / 10)) (48 + n % 10))

-- a number in decimal has a digit, and at most one more than its tenth
pub decimal_some : (n : ℕ) → n < 2 ^ 64 → (0 < length (decimal n)) × (length (decimal n) ≤ length (decimal (n / 10)) + 1)
decimal_some n fits = by (dec_lt n 10)
  where
    by : Dec (n < 10) → (0 < length (decimal n)) × (length (decimal n) ≤ length (decimal (n / 10)) + 1)
    by (yes h) = rw (decimal_one n h) (omega arith, omega arith)
    by (no h) = rw (decimal_longer n fits (omega arith)) (omega arith, omega arith)

-- a number below 10 ^ (k + 1) has at most k + 1 digits in decimal
pub decimal_short : (k n : ℕ) → n < 2 ^ 64 → n < 10 ^ suc k → length (decimal n) ≤ suc k
decimal_short zero n fits h = rw (decimal_one n h) (omega arith)
decimal_short (suc k) n fits h = omega (arith, (decimal_some n fits).1, decimal_short k (n / 10) (omega arith) (shorter (suc k) n h))

-- a number from 10 ^ k on has more than k
pub decimal_long : (k n : ℕ) → n < 2 ^ 64 → 10 ^ k ≤ n → suc k ≤ length (decimal n)
decimal_long zero n fits h = (decimal_some n fits).0
decimal_long (suc k) n fits h =
    let e : 10 ^ suc k ≡ 10 * 10 ^ k = pow-succ' 10 k in
    let some : 0 < 10 ^ k = one-le-pow k 10 (omega arith) in
    rw (decimal_longer n fits (omega arith)) (omega (arith, decimal_long k (n / 10) (omega arith) (omega arith)))

-- a number on a line that is below 10 ^ (k + 1), and the byte behind it, are at most k + 2 bytes long
number_size : (k n byte : ℕ) → n < 2 ^ 64 → n < 10 ^ suc k → length (number_then n byte) ≤ k + 2
unfolding number_then
number_size k n byte fits h = rw length-append (omega (arith, decimal_short k n fits h))

-- one number more on a line
numbers_more : (k m first second : ℕ) (more : List ℕ) → first < 2 ^ 64 → first < 10 ^ suc k → length (numbers second more) ≤ m
    → length (numbers first (second ∷ more)) ≤ k + 2 + m
unfolding numbers
numbers_more k m first second more fits h rest = rw length-append (omega (arith, number_size k first 32 fits h))

-- three numbers on a line, which are below powers of ten: how long they are at most
three_size : (i j k a b c : ℕ) → a + b + c < 2 ^ 64 → a < 10 ^ suc i → b < 10 ^ suc j → c < 10 ^ suc k
    → length (numbers a (b ∷ c ∷ [])) ≤ i + 2 + (j + 2 + (k + 2))
unfolding numbers
three_size i j k a b c fit x y z =
    numbers_more i _ a b (c ∷ []) (omega arith) x (numbers_more j _ b c [] (omega arith) y (number_size k c 10 (omega arith) z))

-- the line of a step takes at most `step_bytes`
pub step_line_size : (place refusal value : ℕ) → place ≤ 131072 → refusal < 256 → value < 65536 → length (step_line place refusal value) ≤ step_bytes
step_line_size place refusal value p r v =
    three_size 5 2 4 place refusal value (omega arith) (omega arith) (omega arith) (omega arith)

-- and that of an office at most `office_bytes`
pub office_line_size : (office final size signers : ℕ) → office < 32 → final < 256 → size < 256 → signers < 256
    → length (office_line office final size signers) ≤ office_bytes
unfolding office_line
office_line_size office final size signers o f s k =
    let rest = three_size 2 2 2 final size signers (omega arith) (omega arith) (omega arith) (omega arith) in
    rw length-append (omega (arith, numbers_more 1 _ office final (size ∷ signers ∷ []) (omega arith) (omega arith) rest))

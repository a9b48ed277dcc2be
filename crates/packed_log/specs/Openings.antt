-- The opening that stands at a log's start: n in 6 bits, n trust bits, the schedule's length in 9 bits and each leader in 5.
use Rattle.std.specs.Prelude.{ℕ, zero, suc, ◌+◌, ◌*◌, ◌/◌, min, not, List, [], ◌∷◌, ◌++◌, eqb, ltb, length}
use Rattle.quorum.specs.Opening.{untrusted, too_many, stray}
use Rattle.words.specs.Tests.{choose, between}
use Rattle.words.specs.Digits.{fill}
use Rattle.words.specs.Refusals.{Refusal, ◌⇒◌, first}
use Rattle.register.specs.declared.table.Register.{Register}
use Rattle.register.specs.Opening.{closed, fresh}
use Rattle.packed_log.specs.declared.opening.Front.{Front}
use Rattle.packed_log.specs.declared.opening.Opening.{Opening}
use Rattle.packed_log.specs.Bits.{field}
use Rattle.packed_log.specs.Items.{left}

-- n
abbrev pub count_in : (log : List ℕ) → ℕ
count_in log = field log 0 6

-- the trust word: bit q stands for office q, office 0 first
abbrev pub trust_in : (log : List ℕ) → (n : ℕ) → ℕ
trust_in log n = fill 2 n (λ q. field log (6 + q) 1)

-- the schedule's length
abbrev pub length_in : (log : List ℕ) → (n : ℕ) → ℕ
length_in log n = field log (6 + n) 9

-- k leaders, from position p on
unfoldable pub leaders_at : (log : List ℕ) → (p k : ℕ) → List ℕ
leaders_at log p zero = []
leaders_at log p (suc k) = field log p 5 ∷ leaders_at log (p + 5) k

-- of the schedule's k leaders, those that are wholly there
abbrev pub there_in : (log : List ℕ) → (n k : ℕ) → ℕ
there_in log n k = min k (left log (15 + n) / 5)

-- 30 stands first; then the leftmost fault decides: 27 where the log ends before or inside a field, 1 at n, 2 at the schedule's length
abbrev pub front_tests : (log : List ℕ) → (n k : ℕ) → List Refusal
front_tests log n k =
    (ltb 65536 (length log) ⇒ 30)
    ∷ (ltb (left log 0) 6 ⇒ 27)
    ∷ (not (between 1 32 n) ⇒ 1)
    ∷ (ltb (left log 6) (n + 9) ⇒ 27)
    ∷ (not (between 1 256 k) ⇒ 2)
    ∷ []

-- n and the schedule's length
abbrev pub front_in : (log : List ℕ) → Front
front_in log = record { n = count_in log; epochs = length_in log (count_in log) }

-- what is refused up to the schedule's length
abbrev pub front_refusal : (log : List ℕ) → ℕ
front_refusal log = first (front_tests log (count_in log) (length_in log (count_in log)))

-- 3 at a leader that is wholly there, 27 at the first that is not, 4 after the last
abbrev pub leader_tests : (log : List ℕ) → (n k : ℕ) → List Refusal
leader_tests log n k =
    (stray n (leaders_at log (15 + n) (there_in log n k)) ⇒ 3)
    ∷ (ltb (there_in log n k) k ⇒ 27)
    ∷ (too_many (untrusted n (trust_in log n)) n ⇒ 4)
    ∷ []

-- the same, of k leaders of which these are there
abbrev pub led_tests : (n trust : ℕ) → (schedule : List ℕ) → (k : ℕ) → List Refusal
led_tests n trust schedule k = (stray n schedule ⇒ 3) ∷ (ltb (length schedule) k ⇒ 27) ∷ (too_many (untrusted n trust) n ⇒ 4) ∷ []

abbrev pub opening_tests_in : (log : List ℕ) → (n k : ℕ) → List Refusal
opening_tests_in log n k = front_tests log n k ++ leader_tests log n k

abbrev pub opening_refusal_in : (log : List ℕ) → ℕ
opening_refusal_in log = first (opening_tests_in log (count_in log) (length_in log (count_in log)))

-- a register, 0 or the refusal, and the position behind the opening
abbrev pub opened : Register → (refusal next : ℕ) → Opening
opened register refusal next = record { register = register; refusal = refusal; next = next }

-- what reading n offices and k leaders gives: the fresh register and the position behind the last leader; refused, the register of a
-- refused opening and position 0
unfoldable pub opened_by : (log : List ℕ) → (n k refusal : ℕ) → Opening
opened_by log n k refusal =
    choose (eqb refusal 0) (opened (fresh n (trust_in log n) (leaders_at log (15 + n) k)) 0 (15 + n + 5 * k)) (opened closed refusal 0)

unfoldable pub opening_in : (log : List ℕ) → Opening
opening_in log = opened_by log (count_in log) (length_in log (count_in log)) (opening_refusal_in log)

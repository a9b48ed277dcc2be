-- Openings: one that stands at a log's start is read there, and what is read there stands there.
use Prim.Native.Nat.{ℕ, zero, suc, ◌+◌, ◌*◌, ◌-◌, ◌≤◌, ◌<◌}
use mathlib.Core.Path.{◌≡◌, refl, sym, ap, ◌∙◌}
use mathlib.Core.Bool.{Bool, true, false}
use mathlib.Core.List.{List, [], ◌∷◌, ◌++◌, append_assoc}
use native.Mathlib.{Nat.add-zero, Omega.arith}
use borrow.Author.Tests.{ltb-false, le-ltb, not-false}
use lib.Dec.{eqb, eqb-suc-zero, ltb}
use lib.ListN.{length, get_or, take, drop, length-append}
use lib.Seq.{take_at}
use Rattle.words.specs.Tests.{choose, both, between}
use Rattle.words.specs.{Digits.digit, Digits.fill, Refusals.first}
use Rattle.words.proofs.Digits.{digit_lt, digit_fill, fill_ext}
use Rattle.words.proofs.Refusals.{positive, Clear, first_clear}
use Rattle.words.proofs.Sums.{tally_ext}
use Rattle.quorum.specs.Opening.{untrusted, opening_refusal}
use Rattle.register.specs.declared.table.Register.{Register}
use Rattle.register.specs.declared.book.Book.{Book}
use Rattle.register.specs.Books.{book_of}
use Rattle.register.specs.Opening.{leader_table, blank, fresh_book, fresh, opening}
use Rattle.register.proofs.Typing.{book_register}
use Rattle.packed_log.specs.Bits.{to_bits, bits, field}
use Rattle.packed_log.specs.Items.{left}
use Rattle.packed_log.specs.Openings.{count_in, trust_in, length_in, leaders_at, there_in, opening_tests_in, opening_refusal_in, opened, opened_by, opening_in}
use Rattle.packed_log.specs.Writing.{office_bits, leader_bits, opening_bits}
use Rattle.packed_log.proofs.{BitRows.bit_row, BitsLaws.field_lt}
use Rattle.packed_log.proofs.WritingLaws.{length_trust, length_leaders, length_opening}
use Rattle.packed_log.proofs.OpeningLaws.{Accepted, accepted, length_leaders_at}
use Rattle.packed_log.proofs.Standing.{Stands, left_stands, stands_behind, value_read, stands_field}

-- trust bits that stand at a position are read there
trust_reads : (log : List ℕ) (p n trust : ℕ) (u : List Bool) → Stands log p (office_bits n trust ++ u)
    → fill 2 n (λ q. field log (p + q) 1) ≡ fill 2 n (digit 2 trust)
unfolding fill office_bits
trust_reads log p zero trust u h = refl
trust_reads log p (suc n) trust u h =
    let d : ℕ = digit 2 trust n in
    let small : d < 2 = digit_lt 2 trust n (omega arith) in
    let stands : Stands log p (office_bits n trust ++ (to_bits 1 d ++ u)) = rw bit_row (rw append_assoc at h) in
    let behind : Stands log (p + n) (to_bits 1 d ++ u) = rw length_trust at (stands_behind log p (office_bits n trust) _ stands) in
    rw (trust_reads log p n trust _ stands, (value_read log (p + n) 1 d u small behind).value)

-- where words are filled alike, the bits that fill the one are the digits that fill the other
word_digit : (log : List ℕ) (p n trust : ℕ) → fill 2 n (λ q. field log (p + q) 1) ≡ fill 2 n (digit 2 trust)
    → (q : ℕ) → q < n → field log (p + q) 1 ≡ digit 2 trust q
word_digit log p n trust h q l =
    sym (digit_fill 2 n (λ i. field log (p + i) 1) (λ i. field_lt log (p + i) 1) q l)
    ∙ ap (λ (word : ℕ). digit 2 word q) h
    ∙ digit_fill 2 n (digit 2 trust) (λ i. digit_lt 2 trust i (omega arith)) q l

-- trust bits that are read stand there
trust_stands : (log : List ℕ) (p n trust : ℕ) → p + n ≤ 8 * length log → ((q : ℕ) → q < n → field log (p + q) 1 ≡ digit 2 trust q)
    → Stands log p (office_bits n trust ++ drop (p + n) (bits log))
unfolding office_bits
trust_stands log p zero trust room same = rw add-zero
trust_stands log p (suc n) trust room same =
    let d : ℕ = digit 2 trust n in
    let bit : to_bits 1 d ≡ eqb d 1 ∷ [] = bit_row d (digit_lt 2 trust n (omega arith)) in
    let next : p + n + 1 ≡ p + suc n = omega arith in
    let last : Stands log (p + n) ((eqb d 1 ∷ []) ++ drop (p + suc n) (bits log)) =
    rw (same n (omega arith), bit, next) at (stands_field log (p + n) 1 (omega arith)) in
    trust_stands log p n trust (omega arith) (λ q h. same q (omega arith)) ∙ rw (last, append_assoc)

-- leaders that stand at a position are read there
leaders_read : (log : List ℕ) (p : ℕ) (schedule : List ℕ) (u : List Bool) → ((i : ℕ) → i < length schedule → get_or schedule i 0 < 32)
    → Stands log p (leader_bits schedule ++ u) → leaders_at log p (length schedule) ≡ schedule
unfolding leaders_at leader_bits
leaders_read log p [] u small h = refl
leaders_read log p (q ∷ schedule) u small h =
    let one = value_read log p 5 q _ (small 0 (omega arith)) (rw append_assoc at h) in
    rw (one.value, leaders_read log (p + 5) schedule u (λ i l. small (suc i) (omega arith)) one.behind)

-- leaders that are read stand there
leaders_stand : (log : List ℕ) (p k : ℕ) → p + 5 * k ≤ 8 * length log
    → Stands log p (leader_bits (leaders_at log p k) ++ drop (p + 5 * k) (bits log))
unfolding leaders_at leader_bits
leaders_stand log p zero room = rw add-zero
leaders_stand log p (suc k) room =
    let next : p + 5 + 5 * k ≡ p + 5 * suc k = omega arith in
    let rest : Stands log (p + 5) (leader_bits (leaders_at log (p + 5) k) ++ drop (p + 5 * suc k) (bits log)) =
    rw next at (leaders_stand log (p + 5) k (omega arith)) in
    stands_field log p 5 (omega arith) ∙ rw (rest, append_assoc)

-- a filled word is filled by its own digits
fill_again : (n : ℕ) (f : ℕ → ℕ) → ((q : ℕ) → f q < 2) → fill 2 n (digit 2 (fill 2 n f)) ≡ fill 2 n f
fill_again n f small = fill_ext 2 n (digit 2 (fill 2 n f)) f (digit_fill 2 n f small)

-- as many offices are untrusted by a word as by its digits below n
untrusted_again : (n trust : ℕ) → untrusted n (fill 2 n (digit 2 trust)) ≡ untrusted n trust
unfolding untrusted
untrusted_again n trust =
    tally_ext n _ _ (λ q h. rw (digit_fill 2 n (digit 2 trust) (λ k. digit_lt 2 trust k (omega arith)) q h))

-- the parts of an opening, as they are read at the log's start
record Parts (log : List ℕ) (n trust : ℕ) (schedule : List ℕ) : Type 0 where
  count : count_in log ≡ n
  word : trust_in log n ≡ fill 2 n (digit 2 trust)
  epochs : length_in log n ≡ length schedule
  leaders : leaders_at log (15 + n) (length schedule) ≡ schedule
  room : 15 + n + 5 * length schedule ≤ 8 * length log

-- where an opening is read, nothing is refused
opened_refusal : (a b : Register) (refusal next : ℕ)
    → (choose (eqb refusal 0) (opened a 0 next) (opened b refusal 0)).refusal ≡ 0 → refusal ≡ 0
unfolding choose
opened_refusal a b zero next h = refl
opened_refusal a b (suc refusal) next h = rw eqb-suc-zero at h

-- schedules of one length with one table of leaders are one schedule
same_schedule : (s t : List ℕ) → length s ≡ length t → leader_table s ≡ leader_table t → s ≡ t
unfolding leader_table
same_schedule s t long h = sym (take_at s _ (length t) long) ∙ ap (take (length t)) h ∙ take_at t _ (length t) refl

-- where the tests of an opening that is read refuse nothing, its parts open a register, and all of them are there
fine : (log : List ℕ) (n k : ℕ) → first (opening_tests_in log n k) ≡ 0
    → (opening_refusal n (trust_in log n) (leaders_at log (15 + n) k) ≡ 0) × (15 + n + 5 * k ≤ 8 * length log)
unfolding opening_refusal first choose Clear positive both
fine log n k h =
    let tests : Clear (opening_tests_in log n k) = first_clear (opening_tests_in log n k) refl h in
    let offices : between 1 32 n ≡ true = not-false (between 1 32 n) tests.1.1.0 in
    let there : n + 9 ≤ left log 6 = ltb-false (left log 6) (n + 9) tests.1.1.1.0 in
    let epochs : between 1 256 k ≡ true = not-false (between 1 256 k) tests.1.1.1.1.0 in
    let most : k ≤ there_in log n k = ltb-false (there_in log n k) k tests.1.1.1.1.1.1.0 in
    let all : there_in log n k ≡ k = omega arith in
    (rw (offices, length_leaders_at, epochs, rw all at tests.1.1.1.1.1.0, tests.1.1.1.1.1.1.1.0), omega arith)

module _ (log : List ℕ) (n trust : ℕ) (schedule : List ℕ) where
  -- the parts of an opening that stands at the log's start are read there
  parts_read : (u : List Bool) → Accepted n trust schedule → Stands log 0 (opening_bits n trust schedule ++ u) → Parts log n trust schedule
  unfolding opening_bits
  parts_read u tests h =
      let k : ℕ = length schedule in
      let offices : (1 ≤ n) × (n ≤ 32) = tests.count in
      let epochs : (1 ≤ k) × (k ≤ 256) = tests.turns in
      let count = value_read log 0 6 n _ (omega arith) (simp append_assoc at h) in
      let at_length = rw length_trust at (stands_behind log 6 (office_bits n trust) _ count.behind) in
      let turns = value_read log (6 + n) 9 k _ (omega arith) at_length in
      let behind : 6 + n + 9 ≡ 15 + n = omega arith in
      let at-leaders : Stands log (15 + n) (leader_bits schedule ++ u) = rw behind at turns.behind in
      let rest : 8 * length log - (15 + n) ≡ 5 * k + length u = left_stands log (15 + n) _ at-leaders ∙ simp (length-append, length_leaders) in
      record {
        count = count.value;
        word = trust_reads log 6 n trust _ count.behind;
        epochs = turns.value;
        leaders = leaders_read log (15 + n) schedule u (λ i l. omega (arith, tests.leader i l)) at-leaders;
        room = omega arith;
      }

  -- where the parts of an opening that is not refused are read from a log that is not too long, nothing is refused
  parts_clear : length log ≤ 65536 → Accepted n trust schedule → Parts log n trust schedule → first (opening_tests_in log n (length schedule)) ≡ 0
  unfolding first choose
  parts_clear small tests parts =
      let k : ℕ = length schedule in
      let short : ltb 65536 (length log) ≡ false = le-ltb 65536 (length log) small in
      let has-count : ltb (left log 0) 6 ≡ false = le-ltb (left log 0) 6 (omega (arith, parts.room)) in
      let has-length : ltb (left log 6) (n + 9) ≡ false = le-ltb (left log 6) (n + 9) (omega (arith, parts.room)) in
      let there : there_in log n k ≡ k = omega (arith, parts.room) in
      let has_all : ltb k k ≡ false = le-ltb k k (omega arith) in
      rw (short, has-count, tests.offices, has-length, tests.epochs, there, parts.leaders, tests.leaders, has_all, parts.word, untrusted_again, tests.third)

  -- an opening that is not refused, and stands at the start of a log that is not too long, is read there
  pub opening_reads : (u : List Bool) → length log ≤ 65536 → opening_refusal n trust schedule ≡ 0 → Stands log 0 (opening_bits n trust schedule ++ u)
      → opening_in log ≡ opened (fresh n trust schedule) 0 (length (opening_bits n trust schedule))
  unfolding opening_in opened_by fresh_book fresh choose
  opening_reads u small h stands =
      let tests : Accepted n trust schedule = accepted n trust schedule h in
      let parts : Parts log n trust schedule = parts_read u tests stands in
      let again : fill 2 n (digit 2 (fill 2 n (digit 2 trust))) ≡ fill 2 n (digit 2 trust) = fill_again n (digit 2 trust) (λ q. digit_lt 2 trust q (omega arith)) in
      rw (parts.count, parts.epochs, parts_clear small tests parts, parts.word, parts.leaders, again, length_opening)

  -- an opening whose parts are read at the log's start stands there
  parts_stand : Parts log n trust schedule → Stands log 0 (opening_bits n trust schedule ++ drop (15 + n + 5 * length schedule) (bits log))
  unfolding opening_bits
  parts_stand parts =
      let k : ℕ = length schedule in
      let bit : (q : ℕ) → q < n → field log (6 + q) 1 ≡ digit 2 trust q = word_digit log 6 n trust parts.word in
      let room : 15 + n + 5 * k ≤ 8 * length log = parts.room in
      let behind : 6 + n + 9 ≡ 15 + n = omega arith in
      let at_start : Stands log 0 (to_bits 6 n ++ drop 6 (bits log)) = rw parts.count at (stands_field log 0 6 (omega arith)) in
      let at-trust : Stands log 6 (office_bits n trust ++ drop (6 + n) (bits log)) = trust_stands log 6 n trust (omega arith) bit in
      let at_length : Stands log (6 + n) (to_bits 9 k ++ drop (15 + n) (bits log)) = rw (parts.epochs, behind) at (stands_field log (6 + n) 9 (omega arith)) in
      let at-leaders : Stands log (15 + n) (leader_bits schedule ++ drop (15 + n + 5 * k) (bits log)) = rw parts.leaders at (leaders_stand log (15 + n) k room) in
      at_start ∙ rw (at-trust, at_length, at-leaders) (simp append_assoc)

  -- the parts of the opening that a register is opened by are those that were read
  register_parts : opening_refusal_in log ≡ 0
      → fresh (count_in log) (trust_in log (count_in log)) (leaders_at log (15 + count_in log) (length_in log (count_in log))) ≡ fresh n trust schedule
      → Parts log n trust schedule
  unfolding fresh fresh_book blank
  register_parts none same =
      let leaders : List ℕ = leaders_at log (15 + count_in log) (length_in log (count_in log)) in
      let books : fresh_book (count_in log) (trust_in log (count_in log)) leaders ≡ fresh_book n trust schedule = sym (book_register _) ∙ ap book_of same ∙ book_register _ in
      let count : count_in log ≡ n = ap (λ (b : Book). b.n) books in
      let long : length leaders ≡ length schedule = ap (λ (b : Book). b.scheduled) books in
      let epochs : length_in log n ≡ length schedule = rw (length_leaders_at, count) at long in
      let table : leader_table leaders ≡ leader_table schedule = ap (λ (b : Book). b.leaders) books in
      let word : fill 2 n (digit 2 (trust_in log n)) ≡ fill 2 n (digit 2 trust) = rw count at (ap (λ (b : Book). b.trust) books) in
      record {
        count = count;
        word = sym (fill_again n (λ q. field log (6 + q) 1) (λ q. field_lt log (6 + q) 1)) ∙ word;
        epochs = epochs;
        leaders = rw (count, epochs) at (same_schedule leaders schedule long table);
        room = rw (count, epochs) at (fine log (count_in log) (length_in log (count_in log)) none).1;
      }

  -- the opening that is read at the log's start stands there, up to the position behind it
  pub opening_stands : (opening_in log).refusal ≡ 0 → (opening_in log).register ≡ fresh n trust schedule
      → Stands log 0 (opening_bits n trust schedule ++ drop (opening_in log).next (bits log)) × ((opening_in log).next ≡ length (opening_bits n trust schedule))
  unfolding opening_in opened_by choose
  opening_stands accepts register =
      let none : opening_refusal_in log ≡ 0 = opened_refusal _ _ (opening_refusal_in log) _ accepts in
      let parts : Parts log n trust schedule = register_parts none (rw none at register) in
      let next : (opening_in log).next ≡ 15 + n + 5 * length schedule = rw (none, parts.count, parts.epochs) in
      (rw next (parts_stand parts), next ∙ sym (length_opening n trust schedule))

-- where the opening of a log is not refused, its parts open a register, and that is the one that is given
pub opening_opens : (log : List ℕ) → (opening_in log).refusal ≡ 0
    → ((opening (count_in log) (trust_in log (count_in log)) (leaders_at log (15 + count_in log) (length_in log (count_in log)))).refusal ≡ 0)
    × ((opening_in log).register ≡ (opening (count_in log) (trust_in log (count_in log)) (leaders_at log (15 + count_in log) (length_in log (count_in log)))).register)
unfolding opening_in opened_by opening choose
opening_opens log accepts =
    let none : opening_refusal_in log ≡ 0 = opened_refusal _ _ (opening_refusal_in log) _ accepts in
    let opens = (fine log (count_in log) (length_in log (count_in log)) none).0 in
    (opens, rw (none, opens))

-- Laws of openings: what their tests say; the trust word bit by bit, the leaders one by one; and the tests that reading an opening makes.
use Prim.Native.Nat.{ℕ, ◌≤◌, ◌<◌, zero, suc, ◌+◌, ◌*◌, ◌/◌, ◌%◌, ◌^◌}
use mathlib.Core.Path.{◌≡◌, refl, sym, ap, ◌∙◌}
use mathlib.Core.Bool.{true, false, Bool, not}
use mathlib.Core.List.{List, [], ◌∷◌, ◌++◌}
use native.Mathlib.{Nat.add-zero, Nat.min-le_left, Nat.mod-eq_of_lt, Numerals.add-one, Omega.arith}
use mathlib.Core.Logic.{⊎_elim}
use borrow.Author.Tests.{not-false, leb-false, ltb-false, lt-ltb, le-ltb, ne_eqb, eqb-true}
use lib.Dec.{leb, eqb, ltb}
use lib.ListN.{length, get_or, set, take, length-set}
use lib.Seq.{take-suc, take-set-le, get_or-set_same}
use Rattle.words.specs.Tests.{both, between, choose, any}
use Rattle.words.specs.Refusals.{◌⇒◌, first}
use Rattle.words.proofs.Tests.{decided, any_none, between_true, clash, between_make}
use Rattle.words.proofs.Refusals.{positive, Clear, first_clear, first_before, first_behind}
use Rattle.words.proofs.Digits.{pow_within, fill_next}
use Rattle.quorum.specs.Opening.{untrusted, too_many, stray, opening_tests, opening_refusal}
use Rattle.register.specs.declared.table.Opened.{Opened}
use Rattle.register.specs.Opening.{fresh, closed, opening}
use Rattle.packed_log.specs.declared.opening.Opening.{Opening}
use Rattle.packed_log.specs.{Bits.field, Items.left}
use Rattle.packed_log.specs.Openings.{trust_in, leaders_at, count_in, length_in, there_in, front_tests, led_tests, leader_tests, opening_tests_in, opened, opened_by, opening_in}
use Rattle.packed_log.proofs.BitsLaws.{field_lt}

-- what the tests of an opening say, and what that means
pub record Accepted (n trust : ℕ) (schedule : List ℕ) : Type 0 where
  pub offices : between 1 32 n ≡ true
  pub epochs : between 1 256 (length schedule) ≡ true
  pub leaders : stray n schedule ≡ false
  pub third : too_many (untrusted n trust) n ≡ false
  pub count : (1 ≤ n) × (n ≤ 32)
  pub turns : (1 ≤ length schedule) × (length schedule ≤ 256)
  pub leader : (i : ℕ) → i < length schedule → get_or schedule i 0 < n

-- they say it where the opening is not refused
pub accepted : (n trust : ℕ) (schedule : List ℕ) → opening_refusal n trust schedule ≡ 0 → Accepted n trust schedule
unfolding opening_refusal stray Clear positive both
accepted n trust schedule h =
    let tests : Clear (opening_tests n trust schedule) = first_clear (opening_tests n trust schedule) refl h in
    let leader : (i : ℕ) → i < length schedule → get_or schedule i 0 < n =
    λ i l. leb-false n (get_or schedule i 0) (any_none (λ j. leb n (get_or schedule j 0)) (length schedule) i tests.1.1.0 l) in
    search (between_true, not-false)

-- a loop's next turn: the trust bits of the offices below q are in the word, and now that of office q
pub next_trust : (log : List ℕ) (q w d : ℕ) → q < 32 → w ≡ trust_in log q → d ≡ field log (6 + q) 1
    → (w + d * 2 ^ q % 4294967296 ≡ trust_in log (q + 1)) × (w + d * 2 ^ q % 4294967296 < 4294967296)
next_trust log q w d h ew ed =
    let f : ℕ → ℕ = λ k. field log (6 + k) 1 in
    let whole : 2 ^ q % 2 ^ 32 ≡ 2 ^ q = pow_within 2 q 32 (omega arith) h in
    let next : (w + d * 2 ^ q ≡ trust_in log (q + 1)) × (w + d * 2 ^ q < 2 ^ 32) = fill_next 2 32 q w d (2 ^ q) f (omega arith) (λ k. field_lt log (6 + k) 1) h ew ed (sym whole) in
    let small : d * 2 ^ q < 4294967296 = omega (arith, next.1) in
    rw (mod-eq_of_lt small) next

-- k leaders are k
pub length_leaders_at : (log : List ℕ) (p k : ℕ) → length (leaders_at log p k) ≡ k
unfolding leaders_at
length_leaders_at log p zero = refl
length_leaders_at log p (suc k) = ap suc (length_leaders_at log (p + 5) k)

-- the leaders up to one more
leaders_snoc : (log : List ℕ) (p k : ℕ) → leaders_at log p (suc k) ≡ leaders_at log p k ++ (field log (p + 5 * k) 5 ∷ [])
unfolding leaders_at
leaders_snoc log p zero = rw add-zero
leaders_snoc log p (suc k) =
    let e : p + 5 + 5 * k ≡ p + 5 * suc k = omega arith in
    ap (λ r. field log p 5 ∷ r) (rw e at (leaders_snoc log (p + 5) k))

-- a loop's next turn: the first i leaders are in the table, and the next is put in
pub next_leader : (log : List ℕ) (p i count size x : ℕ) (l : List ℕ) → i < count → count ≤ size → length l ≡ size
    → take i l ≡ leaders_at log p i → x ≡ field log (p + 5 * i) 5 → take (i + 1) (set l i x) ≡ leaders_at log p (i + 1)
next_leader log p i count size x l h most long before e =
    let inside : i < length l = omega arith in
    let room : i < length (set l i x) = rw length-set inside in
    rw (add-one, take-suc (set l i x) i 0 room, take-set-le i l i x (omega arith), get_or-set_same, before, e) (sym (leaders_snoc log p i))

-- the refusal of all leaders, told from that of opening those that are there: by what is tested of their number (b), of each (s), of
-- how many there should be (c) and of the untrusted offices (m)
by_tests : (b s c m : Bool) → (b ≡ false → (s ≡ false) × (c ≡ true))
    → choose (eqb (first ((not b ⇒ 2) ∷ (s ⇒ 3) ∷ (m ⇒ 4) ∷ [])) 3) 3 (choose c 27 (first ((not b ⇒ 2) ∷ (s ⇒ 3) ∷ (m ⇒ 4) ∷ [])))
    ≡ first ((s ⇒ 3) ∷ (c ⇒ 27) ∷ (m ⇒ 4) ∷ [])
unfolding first choose
by_tests true true c m none = refl
by_tests true false true true none = refl
by_tests true false true false none = refl
by_tests true false false true none = refl
by_tests true false false false none = refl
by_tests false s c m none = rw ((none refl).0, (none refl).1)

-- a schedule whose length is out of range, though not above it, is empty: no leader is stray, and some leader is missing
empty : (n k : ℕ) (schedule : List ℕ) → length schedule ≤ 256 → 1 ≤ k → between 1 256 (length schedule) ≡ false
    → (stray n schedule ≡ false) × (ltb (length schedule) k ≡ true)
unfolding stray any
empty n k [] small some out = (refl, lt-ltb 0 k some)
empty n k (q ∷ schedule) small some out = clash (between_make 1 256 (length (q ∷ schedule)) (omega arith, small)) out

-- the refusal of k leaders, told from that of opening those of them that are there
led : (n trust k : ℕ) (schedule : List ℕ) → 1 ≤ n → n ≤ 32 → 1 ≤ k → length schedule ≤ 256
    → choose (eqb (opening_refusal n trust schedule) 3) 3 (choose (ltb (length schedule) k) 27 (opening_refusal n trust schedule))
    ≡ first ((stray n schedule ⇒ 3) ∷ (ltb (length schedule) k ⇒ 27) ∷ (too_many (untrusted n trust) n ⇒ 4) ∷ [])
unfolding opening_refusal first choose
led n trust k schedule low high some most =
    let offices : between 1 32 n ≡ true = between_make 1 32 n (low, high) in
    rw offices (by_tests (between 1 256 (length schedule)) (stray n schedule) (ltb (length schedule) k) (too_many (untrusted n trust) n) (empty n k schedule most some))

-- the same refusal, by what code finds: the number that those that are there are refused with, and whether that is a stray leader
module _ (n trust k : ℕ) (schedule : List ℕ) (low : 1 ≤ n) (high : n ≤ 32) (some : 1 ≤ k) (most : length schedule ≤ 256)
    (r : ℕ) (opens : r ≡ opening_refusal n trust schedule)
  where
    -- some leader is missing and none is stray
    pub led_cut : length schedule < k → eqb r 3 ≡ false → 27 ≡ first (led_tests n trust schedule k)
    unfolding choose
    led_cut short other = rw (← led n trust k schedule low high some most, ← opens, other, lt-ltb _ _ short)

    -- some leader is stray
    pub led_stray : eqb r 3 ≡ true → r ≡ first (led_tests n trust schedule k)
    unfolding choose
    led_stray stray = rw (← led n trust k schedule low high some most, ← opens, stray) (eqb-true r 3 stray)

    -- none is missing
    pub led_whole : k ≤ length schedule → r ≡ first (led_tests n trust schedule k)
    led_whole enough = ⊎_elim (λ stray. led_stray stray) (λ other. all other) (decided (eqb r 3))
      where
        all : eqb r 3 ≡ false → r ≡ first (led_tests n trust schedule k)
        all other = rw (← led n trust k schedule low high some most, ← opens, other, le-ltb _ _ enough) (unfold choose in refl)

-- where the leaders are not refused, none is missing, and opening them is not refused
told_none : (three cut : Bool) (refusal : ℕ) → choose three 3 (choose cut 27 refusal) ≡ 0 → (cut ≡ false) × (refusal ≡ 0)
unfolding choose
told_none true cut refusal h = absurd (omega arith)
told_none false true refusal h = absurd (omega arith)
told_none false false refusal h = (refl, h)

-- a refused opening
opened_refused : (log : List ℕ) (n k refusal : ℕ) → (refusal ≡ 0 → ⊥) → opened closed refusal 0 ≡ opened_by log n k refusal
unfolding opened_by choose
opened_refused log n k refusal some = rw (ne_eqb refusal 0 some)

-- n offices and k leaders in their ranges; the leaders that are there have been checked
module _ (log : List ℕ) (n k : ℕ) (low : 1 ≤ n) (high : n ≤ 32) (some : 1 ≤ k) (most : k ≤ 256)
    (there : ℕ) (whole : there ≡ there_in log n k)
    (trust : ℕ) (word : trust ≡ trust_in log n) (schedule : List ℕ) (led-by : schedule ≡ leaders_at log (15 + n) there)
    (refusal : ℕ) (told : refusal ≡ first (led_tests n trust schedule k))
  where
    long : length schedule ≡ there
    long = rw led-by (length_leaders_at log (15 + n) there)

    -- their refusal is the first of the leaders' tests
    same : refusal ≡ first (leader_tests log n k)
    same = told ∙ rw (long, word, led-by, whole)

    -- some leader is refused
    pub leaders_refused : (x : Opening) → x ≡ opened closed refusal 0 → (refusal ≡ 0 → ⊥) → x ≡ opened_by log n k (first (leader_tests log n k))
    leaders_refused x e bad = e ∙ opened_refused log n k refusal bad ∙ ap (opened_by log n k) same

    -- none is
    pub leaders_opened : refusal ≡ 0 → (o : Opened) → o ≡ opening n trust schedule
        → opened o.register 0 (15 + n + 5 * k) ≡ opened_by log n k (first (leader_tests log n k))
    unfolding opened_by opening choose
    leaders_opened good o opens =
        let clear : (ltb (length schedule) k ≡ false) × (opening_refusal n trust schedule ≡ 0) = told_none (eqb (opening_refusal n trust schedule) 3) (ltb (length schedule) k) (opening_refusal n trust schedule) (led n trust k schedule low high some (omega (arith, long)) ∙ sym told ∙ good) in
        let few : there ≤ k = rw whole (min-le_left k (left log (15 + n) / 5)) in
        let all : there ≡ k = omega (arith, long, ltb-false (length schedule) k clear.0) in
        let held : o.register ≡ fresh n (trust_in log n) (leaders_at log (15 + n) k) = rw (← all, ← word, ← led-by) (ap (λ (x : Opened). x.register) opens ∙ rw clear.1) in
        rw (← same, good, held)

-- what holds where nothing is refused up to the schedule's length
pub record Front (log : List ℕ) (n k : ℕ) : Type 0 where
  pub small : length log ≤ 65536
  pub offices : (1 ≤ n) × (n ≤ 32)
  pub there : n + 9 ≤ left log 6
  pub epochs : (1 ≤ k) × (k ≤ 256)

pub front_clear : (log : List ℕ) (n k : ℕ) → first (front_tests log n k) ≡ 0 → Front log n k
unfolding Clear positive both
front_clear log n k h =
    let tests : Clear (front_tests log n k) = first_clear (front_tests log n k) refl h in
    search (ltb-false, between_true, not-false)

module _ (log : List ℕ) (n k : ℕ) (count : n ≡ count_in log) (epochs : k ≡ length_in log n) where
  -- the opening, by the first of all the tests
  by_refusal : (refusal : ℕ) → refusal ≡ first (opening_tests_in log n k) → opened_by log n k refusal ≡ opening_in log
  unfolding opening_in
  by_refusal refusal same = rw (same, epochs, count)

  -- something is refused up to the schedule's length
  pub front_refused : (refusal : ℕ) → refusal ≡ first (front_tests log n k) → (refusal ≡ 0 → ⊥) → opened closed refusal 0 ≡ opening_in log
  front_refused refusal same bad =
      opened_refused log n k refusal bad
      ∙ by_refusal refusal (same ∙ sym (first_before (front_tests log n k) (leader_tests log n k) (λ none. bad (same ∙ none))))

  -- nothing is: the leaders decide
  pub led_opening : first (front_tests log n k) ≡ 0 → opened_by log n k (first (leader_tests log n k)) ≡ opening_in log
  unfolding positive both
  led_opening none = by_refusal _ (sym (first_behind (front_tests log n k) (leader_tests log n k) refl none))

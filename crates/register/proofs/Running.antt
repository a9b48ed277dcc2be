-- One more step of a batch.
use Prim.Native.Nat.{ℕ, suc, ◌+◌, ◌-◌, ◌<◌, ◌≤◌}
use mathlib.Core.Path.{◌≡◌, refl, sym, ap, ◌∙◌, subst, subst⁻¹}
use mathlib.Core.Bool.{Bool, true}
use mathlib.Core.List.{List, [], ◌∷◌, ◌++◌, map, map-append, append_assoc}
use native.Mathlib.Numerals.{add-one}
use native.Mathlib.Omega.{arith}
use lib.Dec.{eqb}
use lib.ListN.{length, take, get_or, set, replicate, length-append, length-map}
use lib.Seq.{take-suc, length-take-le, set-append_seam}
use Rattle.words.specs.Tests.{choose}
use Rattle.words.specs.Digits.{with_member}
use Rattle.register.specs.Types.{Step, Register, Stepped, Ran, Book, Change}
use Rattle.register.specs.Limits.{batch}
use Rattle.register.specs.Books.{register_of}
use Rattle.register.specs.Fitness.{fit}
use Rattle.register.specs.Steps.{Outcome, judged, rule_of, book_rule, step_rule}
use Rattle.register.specs.Runs.{after_steps, answers, padded, ran}
use Rattle.register.specs.Promises.{Sizes}
use Rattle.register.specs.Counted.{CountedBook}
use Rattle.register.specs.Settled.{AllSettled, actor_of}
use Rattle.register.proofs.Typing.{book_register}
use Rattle.register.proofs.Ranges.{ranges}
use Rattle.register.proofs.FitSteps.{fit_step}
use Rattle.register.specs.Written.{written}
use Rattle.register.proofs.Carrying.{outcome, CarriesOut}
use Rattle.register.proofs.Settling.{none_settled, settled_next}

-- the register after steps in two parts
pub after_append : (r : Register) (xs ys : List Step) → after_steps r (xs ++ ys) ≡ after_steps (after_steps r xs) ys
unfolding after_steps
after_append r [] ys = refl
after_append r (x ∷ xs) ys = after_append (step_rule r x).register xs ys

-- the answers to steps in two parts
pub answers_append : (r : Register) (xs ys : List Step) → answers r (xs ++ ys) ≡ answers r xs ++ answers (after_steps r xs) ys
unfolding answers after_steps
answers_append r [] ys = refl
answers_append r (x ∷ xs) ys = ap (λ rest. step_rule r x ∷ rest) (answers_append (step_rule r x).register xs ys)

-- there are as many answers as steps
pub length_answers : (r : Register) (xs : List Step) → length (answers r xs) ≡ length xs
unfolding answers
length_answers r [] = refl
length_answers r (x ∷ xs) = ap suc (length_answers (step_rule r x).register xs)

-- one more number in a batch's table
padded_more : (xs : List ℕ) (x : ℕ) → length xs < batch → set (padded xs) (length xs) x ≡ padded (xs ++ (x ∷ []))
unfolding padded
padded_more xs x room =
    let left : batch - length xs ≡ suc (batch - suc (length xs)) = omega arith in
    let less : batch - length (xs ++ (x ∷ [])) ≡ batch - suc (length xs) = simp length-append (omega arith) in
    rw (left, less, append_assoc) (set-append_seam xs 0 (replicate (batch - suc (length xs)) 0) x)

-- one more answer
numbers_more : (f : Stepped → ℕ) (ss : List Stepped) (s : Stepped) (i : ℕ) → length ss ≡ i → i < batch
    → set (padded (map f ss)) i (f s) ≡ padded (map f (ss ++ (s ∷ [])))
numbers_more f ss s i long room =
    let size : length (map f ss) ≡ i = simp length-map long in
    subst (λ (k : ℕ). set (padded (map f ss)) k (f s) ≡ padded (map f (ss ++ (s ∷ [])))) size
    (rw map-append (padded_more (map f ss) (f s) (omega arith)))

-- what is held after the first i steps of a batch: the book, the answers so far, whether the book is fit, and whose final blocks are settled
pub record Held (r : Register) (steps : List Step) (i : ℕ) (book : Book) (ks vs : List ℕ) (fits : Bool) (set : ℕ) : Type 0 where
  pub register : register_of book ≡ after_steps r (take i steps)
  pub refusals : ks ≡ padded (map (λ (s : Stepped). s.refusal) (answers r (take i steps)))
  pub values : vs ≡ padded (map (λ (s : Stepped). s.value) (answers r (take i steps)))
  pub fit : fit book ≡ fits
  pub sizes : Sizes book
  pub settled : AllSettled book set

module _ {r : Register} {steps : List Step} {i : ℕ} {book : Book} {ks vs : List ℕ} {fits : Bool} {settled : ℕ}
    (held : Held r steps i book ks vs fits settled) (d : Step) (within : i < length steps) where
  -- the steps so far and one more
  more : take (i + 1) steps ≡ take i steps ++ (get_or steps i d ∷ [])
  more = rw add-one (take-suc steps i d within)

  -- what the rule gives of the book is what it gives of the register so far
  rule_of_book : step_rule (after_steps r (take i steps)) (get_or steps i d)
      ≡ record {
        register = register_of (book_rule book (get_or steps i d)).book;
        refusal = (book_rule book (get_or steps i d)).refusal;
        value = (book_rule book (get_or steps i d)).value;
      }
  unfolding step_rule
  rule_of_book = rw (← held.register, book_register)

  -- what is written and answered is what the rule gives
  gives : (c : Change) → CarriesOut fits book (get_or steps i d) c → outcome book c ≡ book_rule book (get_or steps i d)
  unfolding book_rule
  gives c carries = carries.answer ∙ ap (λ (t : Bool). judged t book (rule_of book (get_or steps i d))) (sym held.fit)

  -- and one more answer
  next_answer : (c : Change) → CarriesOut fits book (get_or steps i d) c
      → step_rule (after_steps r (take i steps)) (get_or steps i d)
      ≡ record { register = register_of (written book c); refusal = c.answer.refusal; value = c.answer.value }
  next_answer c carries =
      rule_of_book
      ∙ sym
      (ap (λ (o : Outcome). record { register = register_of o.book; refusal = o.refusal; value = o.value }) (gives c carries))

  -- the answers with one more
  more_answers : answers r (take (i + 1) steps)
      ≡ answers r (take i steps) ++ (step_rule (after_steps r (take i steps)) (get_or steps i d) ∷ [])
  unfolding answers
  more_answers = ap (answers r) more ∙ answers_append r (take i steps) (get_or steps i d ∷ [])

  -- the numbers of the answers with one more
  more_numbers : (f : Stepped → ℕ) (ns : List ℕ) (x : ℕ) → ns ≡ padded (map f (answers r (take i steps)))
      → x ≡ f (step_rule (after_steps r (take i steps)) (get_or steps i d)) → i < batch
      → set ns i x ≡ padded (map f (answers r (take (i + 1) steps)))
  more_numbers f ns x so_far is room =
      let long : length (answers r (take i steps)) ≡ i =
      length_answers r (take i steps) ∙ length-take-le i steps (omega arith) in
      rw (so_far, is, more_answers) (numbers_more f (answers r (take i steps)) _ i long room)

  -- whose final blocks are settled
  next_settled : (c : Change) → CarriesOut fits book (get_or steps i d) c → (fits ≡ true → book.n ≤ 32)
      → AllSettled (written book c) (choose (eqb c.answer.refusal 0) (with_member settled (actor_of (get_or steps i d)).0) settled)
  unfolding judged
  next_settled c carries few =
      let step : Step = get_or steps i d in
      let end : Outcome → Type 0 =
      λ o. AllSettled o.book (choose (eqb o.refusal 0) (with_member settled (actor_of step).0) settled) in
      subst⁻¹ end carries.answer (settled_next book fits few step settled _ refl held.settled)

  -- a change that carries the next step out, written and answered at its place, is one step more
  pub held_next : (c : Change) → CarriesOut fits book (get_or steps i d) c → i < batch → (fits ≡ true → book.n ≤ 32)
      → Held r steps (i + 1) (written book c) (set ks i c.answer.refusal) (set vs i c.answer.value) fits
      (choose (eqb c.answer.refusal 0) (with_member settled (actor_of (get_or steps i d)).0) settled)
  unfolding after_steps
  held_next c carries room few =
      let end : written book c ≡ (book_rule book (get_or steps i d)).book = ap (λ (o : Outcome). o.book) (gives c carries) in
      let answer = next_answer c carries in
      let after = fit_step book (get_or steps i d) held.sizes in
      record {
        register =
            ap (λ (s : Stepped). s.register) (sym answer)
            ∙ sym (ap (after_steps r) more ∙ after_append r (take i steps) (get_or steps i d ∷ []));
        refusals = more_numbers (λ (s : Stepped). s.refusal) ks _ held.refusals (ap (λ (s : Stepped). s.refusal) (sym answer)) room;
        values = more_numbers (λ (s : Stepped). s.value) vs _ held.values (ap (λ (s : Stepped). s.value) (sym answer)) room;
        fit = rw end (after.0 ∙ held.fit);
        sizes = subst⁻¹ Sizes end after.1;
        settled = next_settled c carries few;
      }

-- the single numbers of a fit book are in their ranges
pub held_counts : {r : Register} {steps : List Step} {i : ℕ} {book : Book} {ks vs : List ℕ} {fits : Bool} {settled : ℕ}
    → Held r steps i book ks vs fits settled → fits ≡ true
    → CountedBook book
held_counts held fit = (ranges held.sizes (held.fit ∙ fit)).counts

-- before the first step
pub held_none : (b : Book) (steps : List Step) (fits : Bool) → fits ≡ fit b → Sizes b
    → Held (register_of b) steps 0 b (replicate batch 0) (replicate batch 0) fits 0
unfolding after_steps answers padded
held_none b steps fits is sizes =
    record { register = refl; refusals = refl; values = refl; fit = sym is; sizes = sizes; settled = none_settled b }

-- after the last the batch has been run
pub held_all : {r : Register} {steps : List Step} {i : ℕ} {book : Book} {ks vs : List ℕ} {fits : Bool} {settled : ℕ}
    → Held r steps i book ks vs fits settled → record { register = register_of book; refusals = ks; values = vs } ≡ ran r (take i steps)
unfolding ran
held_all held = λ j. record { register = held.register j; refusals = held.refusals j; values = held.values j }

-- a batch of one step
pub ran_one : (r : Register) (step : Step) (given : Ran) → given ≡ ran r (take 1 (replicate batch step))
    → record { register = given.register; refusal = get_or given.refusals 0 0; value = get_or given.values 0 0 } ≡ step_rule r step
unfolding ran after_steps answers padded
ran_one r step given e =
    ap (λ (x : Ran). record { register = x.register; refusal = get_or x.refusals 0 0; value = get_or x.values 0 0 }) e

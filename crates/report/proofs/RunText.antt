-- The text of a run: its lines, those of a batch that was run, and all of it written part by part.
use Prim.Native.Nat.{ℕ, zero, suc, ◌+◌, ◌*◌, ◌≤◌, ◌<◌}
use mathlib.Core.Path.{◌≡◌, refl, sym, ap, ◌∙◌}
use mathlib.Core.Bool.{true}
use mathlib.Core.List.{List, [], ◌∷◌, ◌++◌, map, append_assoc, append-nil}
use native.Mathlib.Nat.{add-zero}
use native.Mathlib.Omega.{arith}
use lib.ListN.{length, get_or, take, drop, length-drop, length-map, take-append-drop, get_or-append, get_or-map}
use lib.Seq.{take-suc, take_all, length-take-le}
use Rattle.words.specs.Tests.{choose}
use Rattle.register.specs.Types.{Block}
use Rattle.register.specs.declared.step.Step.{Step}
use Rattle.register.specs.declared.table.Register.{Register}
use Rattle.register.specs.declared.table.Stepped.{Stepped}
use Rattle.register.specs.declared.table.Ran.{Ran}
use Rattle.register.specs.declared.table.Notarised.{Notarised}
use Rattle.register.specs.Books.{block, book_of}
use Rattle.register.specs.Tables.{trusted, final_of, final_for}
use Rattle.register.specs.Views.{notarised_test}
use Rattle.register.specs.Chains.{length_of}
use Rattle.register.specs.Runs.{after_steps, answers, padded, ran}
use Rattle.register.proofs.Running.{after_append, answers_append, length_answers}
use Rattle.report.specs.Text.{TextWritten, office_line, step_bytes}
use Rattle.report.specs.Reports.{step_lines, office_text, office_lines, run_lines}
use Rattle.report.specs.Batches.{batch_lines}
use Rattle.report.proofs.TextLaws.{then, same_size}

-- the lines of answers in two parts
lines_append : (place : ℕ) (xs ys : List Stepped) → step_lines place (xs ++ ys) ≡ step_lines place xs ++ step_lines (place + length xs) ys
unfolding step_lines
lines_append place [] ys = rw add-zero
lines_append place (x ∷ xs) ys =
    let next : place + 1 + length xs ≡ place + suc (length xs) = omega arith in
    rw (lines_append (place + 1) xs ys, next, append_assoc)

-- the lines of steps in two parts: those of the first, and then those of the second from where the first left off
run_append : (r : Register) (place : ℕ) (xs ys : List Step)
    → run_lines r place (xs ++ ys) ≡ step_lines place (answers r xs) ++ run_lines (after_steps r xs) (place + length xs) ys
unfolding run_lines
run_append r place xs ys =
    rw (answers_append r xs ys, after_append r xs ys, lines_append place (answers r xs) (answers (after_steps r xs) ys), length_answers r xs, append_assoc)

-- a number of a batch's table is that of its answer
number_at : (f : Stepped → ℕ) (ss : List Stepped) (i : ℕ) (d : Stepped) → f d ≡ 0 → i < length ss
    → get_or (padded (map f ss)) i 0 ≡ f (get_or ss i d)
unfolding padded
number_at f ss i d none l =
    get_or-append (map f ss) _ 0 i (rw length-map l) ∙ ap (get_or (map f ss) i) (sym none) ∙ get_or-map f ss i d

-- the first lines of a batch are those of its first answers
lines_first : (place : ℕ) (ss : List Stepped) (d : Stepped) → d.refusal ≡ 0 → d.value ≡ 0 → (i : ℕ) → i ≤ length ss
    → batch_lines place (padded (map (λ (s : Stepped). s.refusal) ss)) (padded (map (λ (s : Stepped). s.value) ss)) i
    ≡ step_lines place (take i ss)
unfolding batch_lines step_lines
lines_first place ss d k v zero h = refl
lines_first place ss d k v (suc i) h =
    let long : length (take i ss) ≡ i = length-take-le i ss (omega arith) in
    rw (
      take-suc ss i d (omega arith),
      lines_append place (take i ss) (get_or ss i d ∷ []),
      long,
      lines_first place ss d k v i (omega arith),
      number_at (λ (s : Stepped). s.refusal) ss i d k (omega arith),
      number_at (λ (s : Stepped). s.value) ss i d v (omega arith),
      append-nil,
    )

-- the lines of a batch that was run are those of its answers
ran_lines : (r : Register) (place : ℕ) (ss : List Stepped) (count : ℕ) → length ss ≡ count
    → batch_lines place (padded (map (λ (s : Stepped). s.refusal) ss)) (padded (map (λ (s : Stepped). s.value) ss)) count ≡ step_lines place ss
ran_lines r place ss count long =
    lines_first place ss (record { register = r; refusal = 0; value = 0 }) refl refl count (omega arith)
    ∙ ap (step_lines place) (take_all count ss (omega arith))

-- the line of a trusted office, told from what the register's calls give
pub office_some : (r : Register) (q size : ℕ) (last : Block) (told : Notarised) → trusted (book_of r) q ≡ true
    → last ≡ block (final_for (book_of r) q) → size ≡ length_of (book_of r) last.0 → told ≡ notarised_test (book_of r) q last.0
    → office_text r q ≡ office_line q last.0 size told.signers
unfolding office_text choose
office_some r q size last told h e long test =
    let is : last ≡ block (final_of (book_of r) q) = e ∙ rw h in
    rw (test, long, is, h)

-- how far a run of at most so many steps has come: with the lines of the rest of them, from this register on, the whole text is written
pub record SoFar (most : ℕ) (before report whole : List ℕ) (next place : ℕ) (r : Register) (rest : List Step) : Type 0 where
  pub sized : length report ≡ length before
  pub finish : {after : List ℕ} {later : ℕ} → TextWritten report next (run_lines r place rest) later after → TextWritten before 0 whole later after
  pub short : next + step_bytes ≤ step_bytes * place
  pub few : place + length rest ≤ most + 1

-- nothing is written yet
pub run_begins : (most : ℕ) (before : List ℕ) (r : Register) (rest : List Step) → length rest ≤ most
    → SoFar most before before (run_lines r 1 rest) 0 1 r rest
run_begins most before r rest few = record { sized = refl; finish = λ lines. lines; short = omega arith; few = omega arith }

module _ (r : Register) (place : ℕ) (rest : List Step) (count : ℕ) (given : Ran)
    (counts : count ≤ length rest) (runs : given ≡ ran r (take count rest))
  where
    -- the register behind the part
    part_register : given.register ≡ after_steps r (take count rest)
    unfolding ran
    part_register = ap (λ (x : Ran). x.register) runs

    -- the lines of the part
    part_lines : batch_lines place given.refusals given.values count ≡ step_lines place (answers r (take count rest))
    unfolding ran
    part_lines =
        rw runs (ran_lines r place (answers r (take count rest)) count (length_answers r (take count rest) ∙ length-take-le count rest counts))

    -- the text from here on is those lines, and then that from behind the part on
    part_text : run_lines r place rest
        ≡ batch_lines place given.refusals given.values count ++ run_lines given.register (place + count) (drop count rest)
    part_text =
        let whole : run_lines r place rest ≡ run_lines r place (take count rest ++ drop count rest) = rw take-append-drop in
        whole ∙ run_append r place (take count rest) (drop count rest) ∙ rw (part_lines, part_register, length-take-le count rest counts)

    -- a run comes one part further
    pub run_goes_on : {before report after whole : List ℕ} {most next later : ℕ} → SoFar most before report whole next place r rest
        → TextWritten report next (batch_lines place given.refusals given.values count) later after → later ≤ next + step_bytes * count
        → SoFar most before after whole later (place + count) given.register (drop count rest)
    run_goes_on so_far lines short =
        record {
          sized = same_size lines ∙ so_far.sized;
          finish = λ tail. so_far.finish (rw part_text (then lines tail));
          short = omega (arith, so_far.short);
          few = simp length-drop (omega (arith, so_far.few));
        }

-- where no step is left, the lines of the offices are still to come, and with them the run ends
pub run_ends : {before report after whole : List ℕ} {most next later place : ℕ} {r : Register} (rest : List Step)
    → SoFar most before report whole next place r rest → length rest ≡ 0 → TextWritten report next (office_lines r 32) later after
    → TextWritten before 0 whole later after
unfolding run_lines answers step_lines after_steps
run_ends [] so_far none lines = so_far.finish lines
run_ends (s ∷ rest) so_far none lines = absurd (omega arith)

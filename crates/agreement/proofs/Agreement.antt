-- The theorems of specs/Claim.antt.
use Prim.Native.Nat.{ℕ, ◌<◌, ◌≤◌}
use mathlib.Core.Path.{◌≡◌, refl, sym, ap, ◌∙◌, subst, subst⁻¹}
use mathlib.Core.Bool.{true}
use mathlib.Core.List.{List, [], ◌∷◌}
use native.Mathlib.Omega.{arith}
use lib.ListN.{length, take, drop, take-append-drop}
use Rattle.words.specs.Tests.{member}
use Rattle.register.specs.declared.step.Step.{Step}
use Rattle.register.specs.declared.table.Register.{Register}
use Rattle.register.specs.declared.book.Book.{Book}
use Rattle.register.specs.Books.{book_of}
use Rattle.register.specs.Steps.{book_rule, step_rule}
use Rattle.register.specs.Runs.{after_steps, Run, opened, moment}
use Rattle.register.proofs.Typing.{step_book}
use Rattle.register.proofs.Ranges.{Ranges}
use Rattle.register.proofs.FitSteps.{ranges_step}
use Rattle.register.proofs.Running.{after_append}
use Rattle.register.specs.Tables.{trusted, final_of, parent_of}
use Rattle.register.specs.Chains.{chain, chain_length, begins}
use Rattle.register.proofs.Chains.{parent_le, chain_genesis, chain_step, last_notarised}
use Rattle.register.proofs.Finalising.{Consecutive}
use Rattle.register.proofs.Growth.{Grows, grows_refl, grows_trans, trusted_kept, chain_same, length_kept}
use Rattle.agreement.specs.Claim.{chain_of, final_chain, Trusted, Notarised, Begins, Agreement}
use Rattle.agreement.proofs.Backing.{backed, Backed, chain_backed, chain_backed_kept, three_kept}
use Rattle.agreement.proofs.Safety.{Finalised, genesis, middle, Safe, Lawful, signed_le}
use Rattle.agreement.proofs.Preservation.{safe_step, forward_step}
use Rattle.agreement.proofs.Steps.{lawful}
use Rattle.agreement.proofs.Conflict.{shared_signer, middle_on_chain}
use Rattle.agreement.proofs.Opening.{safe_opened}

-- what steps make of a safe book: a safe one that has grown, in which no trusted office's final chain has got shorter
pub record Onward (r s : Book) : Type 0 where
  pub safe : Safe s
  pub grows : Grows r s
  pub forward : (p : ℕ) → trusted r p ≡ true → chain_length r (final_of r p) ≤ chain_length s (final_of s p)

-- every step does so
onward_next : (r : Register) (step : Step) → Safe (book_of r) → Onward (book_of r) (book_of (step_rule r step).register)
onward_next r step safe =
    let law : Lawful (book_of r) (book_rule (book_of r) step).book = lawful (book_of r) step safe.ranges in
    let ranges : Ranges (book_rule (book_of r) step).book = ranges_step (book_of r) step safe.ranges in
    subst⁻¹ (Onward (book_of r)) (step_book r step)
    (record { safe = safe_step safe ranges law; grows = law.grows; forward = forward_step safe ranges law })

-- so does every list of steps
pub onward_after : (steps : List Step) (r : Register) → Safe (book_of r) → Onward (book_of r) (book_of (after_steps r steps))
unfolding after_steps
onward_after [] r safe = record { safe = safe; grows = grows_refl (book_of r); forward = λ p t. omega arith }
onward_after (x ∷ xs) r safe =
    let next = onward_next r x safe in
    let end = onward_after xs (step_rule r x).register next.safe in
    record {
      safe = end.safe;
      grows = grows_trans next.grows end.grows;
      forward = λ p t. omega (arith, next.forward p t, end.forward p (trusted_kept next.grows p ∙ t));
    }

-- every moment is safe
pub safe_moment : (run : Run) (i : ℕ) → Safe (book_of (moment run i))
unfolding moment
safe_moment run i = (onward_after (take i run.steps) (opened run) (safe_opened run)).safe

-- the register after the whole list
last : Run → Register
last run = after_steps (opened run) run.steps

safe_last : (run : Run) → Safe (book_of (last run))
unfolding last
safe_last run = (onward_after run.steps (opened run) (safe_opened run)).safe

-- the steps that are left lead from every moment to the last
to_last : (run : Run) (i : ℕ) → after_steps (moment run i) (drop i run.steps) ≡ last run
unfolding moment last
to_last run i =
    sym (after_append (opened run) (take i run.steps) (drop i run.steps))
    ∙ ap (after_steps (opened run)) (take-append-drop i run.steps)

-- from every moment on the book grows
grows_moment : (run : Run) (i : ℕ) → Grows (book_of (moment run i)) (book_of (last run))
grows_moment run i =
    subst (λ (r : Register). Grows (book_of (moment run i)) (book_of r)) (to_last run i)
    (onward_after (drop i run.steps) (moment run i) (safe_moment run i)).grows

-- a block other than genesis whose chain is backed has been made
backed_le : {r : Book} (e : ℕ) → Safe r → 0 < e → Backed r e → e ≤ r.last.0
backed_le {r} e safe pos n =
    let on : _ = last_notarised r (backed r) e pos n in
    signed_le safe (shared_signer safe e e pos pos on on).2

-- the middle one of three consecutive blocks of one moment is on every backed chain of another that is at least as long
on_other : {r s end : Book} → Grows r end → Grows s end → Safe s → Safe end → {b c d : ℕ} (e : ℕ) → b ≤ r.last.0
    → Consecutive r (backed r) b c d → 0 < e → Backed s e → chain_length r c ≤ chain_length s e → member c (chain s e) ≡ true
on_other {r} {s} {end} gr gs safe safe-end {b} {c} {d} e l three pos n long =
    let le : e ≤ s.last.0 = backed_le e safe pos n in
    let lc : c ≤ r.last.0 = omega (arith, parent_le r b, three.parent) in
    subst (λ (x : List ℕ). member c x ≡ true) (chain_same gs e le)
    (middle_on_chain safe-end e (three_kept gr l three) (chain_backed_kept gs e le n)
    (omega (arith, length_kept gr c lc, length_kept gs e le)))

-- a final chain of one moment and a backed chain of another, by how the final block became final
agreed : {r s end : Book} → Grows r end → Grows s end → Safe s → Safe end → {c : ℕ} (e : ℕ) → Finalised r c → Backed s e
    → length (chain r c) ≤ length (chain s e) → begins (chain r c) (chain s e) ≡ true
unfolding begins
agreed {r} {s} gr gs safe safe-end e (genesis z) n long =
    subst⁻¹ (λ (b : List ℕ). begins b (chain s e) ≡ true) (ap (chain r) z ∙ chain_genesis r) refl
agreed {r} {s} gr gs safe safe-end {c} e (middle b d l three) n long =
    let own : chain r c ≡ c ∷ chain r (parent_of r c) = chain_step r c three.middle in
    let above : e ≡ 0 → ⊥ = λ z. omega (arith, ap length own, ap length (ap (chain s) z ∙ chain_genesis s)) in
    subst⁻¹ (λ (b : List ℕ). begins b (chain s e) ≡ true) own (on_other gr gs safe safe-end e l three (omega arith) n long)

-- In every run, the chain of a block that can be final at one moment begins every chain at least as long that is backed at another.
pub agreed_moments : (run : Run) (i j : ℕ) {c : ℕ} (e : ℕ) → Finalised (book_of (moment run i)) c → Backed (book_of (moment run j)) e
    → length (chain (book_of (moment run i)) c) ≤ length (chain (book_of (moment run j)) e)
    → begins (chain (book_of (moment run i)) c) (chain (book_of (moment run j)) e) ≡ true
agreed_moments run i j e = agreed (grows_moment run i) (grows_moment run j) (safe_moment run j) (safe_last run) e

pub agreement : Agreement
unfolding Agreement Trusted Notarised Begins final_chain chain_of
agreement run i j p q e case =
    let s : Book = book_of (moment run j) in
    agreed_moments run i j e.0 ((safe_moment run i).final p.0 case.finalist)
    (chain_backed s (safe_moment run j).ranges.counts.offices q.0 e.0 case.notarised) case.long

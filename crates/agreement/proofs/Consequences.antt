-- What follows from agreement, and what ties it to the calls.
use Prim.Native.Nat.{ℕ, zero, suc, ◌+◌, ◌-◌, ◌<◌, ◌≤◌}
use mathlib.Core.Path.{◌≡◌, sym, ap, ◌∙◌, subst, subst⁻¹}
use mathlib.Core.Bool.{true}
use mathlib.Core.List.{List, [], ◌∷◌}
use mathlib.Core.Logic.{◌⊎◌, inl, inr}
use native.Mathlib.Decide.{dec_le}
use native.Mathlib.Omega.{arith}
use lib.ListN.{length, get_or, take, drop}
use lib.Seq.{take-suc, take-add}
use Rattle.register.specs.Types.{Office}
use Rattle.register.specs.declared.book.Book.{Book}
use Rattle.register.specs.declared.step.Step.{Step}
use Rattle.register.specs.declared.table.Register.{Register}
use Rattle.register.specs.Books.{book_of}
use Rattle.register.specs.Tables.{final_of}
use Rattle.register.specs.Chains.{chain, begins}
use Rattle.register.specs.Steps.{step_rule}
use Rattle.register.proofs.Chains.{genesis_notarised}
use Rattle.register.proofs.Finalising.{middle_notarised}
use Rattle.register.proofs.Growth.{trusted_kept}
use Rattle.register.proofs.Running.{after_append}
use Rattle.register.specs.Runs.{after_steps, ran, Run, opened, moment}
use Rattle.agreement.specs.Claim.{final_chain, Trusted, Begins, NeverPart, NeverBack, CallsAreMoments, BatchesAreMoments, OnlyAdded}
use Rattle.agreement.proofs.Backing.{backed, Backed}
use Rattle.agreement.proofs.Safety.{Finalised, genesis, middle}
use Rattle.agreement.proofs.Agreement.{Onward, onward_after, safe_moment, agreed_moments}

-- the chain of a block that can be final is backed
final_backed : {r : Book} {c : ℕ} → Finalised r c → Backed r c
final_backed {r} (genesis z) = subst⁻¹ (Backed r) z (genesis_notarised r (backed r))
final_backed (middle b d l three) = middle_notarised three

-- In every run, of the chains of two blocks that can be final, each at a moment, one begins the other.
pub finals_agree : (run : Run) (i j : ℕ) {c e : ℕ} → Finalised (book_of (moment run i)) c → Finalised (book_of (moment run j)) e
    → (begins (chain (book_of (moment run i)) c) (chain (book_of (moment run j)) e) ≡ true)
    ⊎ (begins (chain (book_of (moment run j)) e) (chain (book_of (moment run i)) c) ≡ true)
finals_agree run i j {c} {e} fc fe = by (dec_le (length chain_c) (length chain_e))
  where
    chain_c : List ℕ
    chain_c = chain (book_of (moment run i)) c

    chain_e : List ℕ
    chain_e = chain (book_of (moment run j)) e

    by : Dec (length chain_c ≤ length chain_e) → (begins chain_c chain_e ≡ true) ⊎ (begins chain_e chain_c ≡ true)
    by (yes h) = inl (agreed_moments run i j e fc (final_backed fe) h)
    by (no h) = inr (agreed_moments run j i c fe (final_backed fc) (omega arith))

-- a trusted office's final block is such a block
pub office_final : (run : Run) (i : ℕ) (p : Office) → Trusted (moment run i) p
    → Finalised (book_of (moment run i)) (final_of (book_of (moment run i)) p.0)
unfolding Trusted
office_final run i p t = (safe_moment run i).final p.0 t

-- the final chain that is not longer begins the other
pub shorter_begins : (run : Run) (i j : ℕ) (p q : Office) → Trusted (moment run i) p → Trusted (moment run j) q
    → length (final_chain (moment run i) p) ≤ length (final_chain (moment run j) q)
    → Begins (final_chain (moment run i) p) (final_chain (moment run j) q)
unfolding Begins final_chain
shorter_begins run i j p q tp tq = agreed_moments run i j _ (office_final run i p tp) (final_backed (office_final run j q tq))

pub never_part : NeverPart
unfolding NeverPart Begins final_chain
never_part run i j p q tp tq = finals_agree run i j (office_final run i p tp) (office_final run j q tq)

-- one more step is the step that stands there in the list
pub one_more : (run : Run) (i : ℕ) → i < length run.steps
    → moment run (suc i) ≡ (step_rule (moment run i) (get_or run.steps i Step.Advance)).register
unfolding moment after_steps
one_more run i l =
    ap (after_steps (opened run)) (take-suc run.steps i Step.Advance l)
    ∙ after_append (opened run) (take i run.steps) (get_or run.steps i Step.Advance ∷ [])

pub calls_are_moments : CallsAreMoments
unfolding CallsAreMoments moment after_steps
calls_are_moments run given handed zero l = handed.first
calls_are_moments run given handed (suc i) l =
    let step : Step = get_or run.steps i Step.Advance in
    handed.next i (omega arith)
    ∙ ap (λ (r : Register). (step_rule r step).register) (calls_are_moments run given handed i (omega arith))
    ∙ sym (one_more run i (omega arith))

pub batches_are_moments : BatchesAreMoments
unfolding BatchesAreMoments moment ran
batches_are_moments run i k =
    sym (after_append (opened run) (take i run.steps) (take k (drop i run.steps)))
    ∙ ap (after_steps (opened run)) (sym (take-add i k run.steps))

-- what steps make of a book they make of it from every moment to every later one
pub onward : (run : Run) (i j : ℕ) → i ≤ j → Onward (book_of (moment run i)) (book_of (moment run j))
unfolding BatchesAreMoments ran
onward run i j before =
    let k : ℕ = j - i in
    let later : moment run (i + k) ≡ moment run j = ap (moment run) (omega arith) in
    subst (λ (r : Register). Onward (book_of (moment run i)) (book_of r)) (batches_are_moments run i k ∙ later)
    (onward_after (take k (drop i run.steps)) (moment run i) (safe_moment run i))

pub only_added : OnlyAdded
unfolding OnlyAdded book_of
only_added run i j before =
    let g = (onward run i j before).grows in
    record { last = g.last; blocks = g.blocks; count = g.count; messages = g.messages }

-- a final chain never gets shorter, and the shorter of two begins the longer
pub never_back : NeverBack
unfolding NeverBack Trusted final_chain
never_back run i j p before t =
    let on = onward run i j (omega (arith, before)) in
    shorter_begins run i j p p t (trusted_kept on.grows p.0 ∙ t) (on.forward p.0 t)

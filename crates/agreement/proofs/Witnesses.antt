-- What the claims are about is there, and says something: without these, a premise that nothing builds could be made impossible unnoticed.
use Prim.Native.Nat.{ℕ, zero, suc, ◌≤◌}
use mathlib.Core.Path.{◌≡◌, refl, subst}
use mathlib.Core.Bool.{true}
use mathlib.Core.List.{List}
use native.Mathlib.Omega.{arith}
use lib.ListN.{length}
use Rattle.register.specs.Types.{Office, Block}
use Rattle.register.specs.declared.book.Book.{Book}
use Rattle.register.specs.declared.step.Step.{Step}
use Rattle.register.specs.Books.{book_of}
use Rattle.register.specs.Tables.{trusted, final_of}
use Rattle.register.specs.Chains.{chain, begins, chain_notarised}
use Rattle.register.specs.Opening.{opening}
use Rattle.register.specs.Runs.{after_steps, Run, moment}
use Rattle.register.proofs.Chains.{chain_step, on_chain_le}
use Rattle.agreement.specs.Claim.{chain_of, final_chain, Trusted, Notarised, Begins, Agreement, HandedOn}
use Rattle.agreement.proofs.Agreement.{agreement}
use Rattle.agreement.proofs.Consequences.{shorter_begins, one_more}

-- every opening that is not refused has a run of every list of steps
pub any_run : (n trust : ℕ) (schedule : List ℕ) → (opening n trust schedule).refusal ≡ 0 → (steps : List Step) → Run
any_run n trust schedule accepted steps = record { n = n; trust = trust; schedule = schedule; accepted = accepted; steps = steps }

-- the moments of a run are registers as calls hand them on
pub moments_handed : (run : Run) → HandedOn run (moment run)
unfolding moment after_steps
moments_handed run = record { first = refl; next = one_more run }

-- agreement with its four premises one by one, each a plain test of a book
pub agreement_plain : (run : Run) (i j : ℕ) (p q : Office) (e : Block)
    → (let r : Book = book_of (moment run i) in
    let s : Book = book_of (moment run j) in
    trusted r p.0 ≡ true
    → trusted s q.0 ≡ true
    → chain_notarised s q.0 e.0 ≡ true
    → length (chain r (final_of r p.0)) ≤ length (chain s e.0)
    → begins (chain r (final_of r p.0)) (chain s e.0) ≡ true)
unfolding Agreement Trusted Notarised Begins final_chain chain_of
agreement_plain run i j p q e tp tq n long =
    agreement run i j p q e (record { finalist = tp; viewer = tq; notarised = n; long = long })

-- a final chain that begins another ends in a block that is not above the other's
begins_le : (r s : Book) (c e : ℕ) → begins (chain r c) (chain s e) ≡ true → c ≤ e
unfolding begins
begins_le r s zero e h = omega arith
begins_le r s (suc c) e h =
    on_chain_le s (suc c) e (subst (λ (b : List ℕ). begins b (chain s e) ≡ true) (chain_step r (suc c) (omega arith)) h)

-- so two trusted offices' final chains of one length, at any two moments, end in one block
pub one_final : (run : Run) (i j : ℕ) (p q : Office) → Trusted (moment run i) p → Trusted (moment run j) q
    → length (final_chain (moment run i) p) ≡ length (final_chain (moment run j) q)
    → final_of (book_of (moment run i)) p.0 ≡ final_of (book_of (moment run j)) q.0
unfolding final_chain Begins
one_final run i j p q tp tq same =
    let r : Book = book_of (moment run i) in
    let s : Book = book_of (moment run j) in
    let there : final_of r p.0 ≤ final_of s q.0 = begins_le r s _ _ (shorter_begins run i j p q tp tq (omega arith)) in
    let back : final_of s q.0 ≤ final_of r p.0 = begins_le s r _ _ (shorter_begins run j i q p tq tp (omega arith)) in
    omega arith

-- Settled final blocks stay settled: a book only grows, and what was notarised stays notarised.
use Prim.Native.Nat.{ℕ, ◌<◌, ◌≤◌, ◌^◌}
use mathlib.Core.Path.{◌≡◌, refl, sym, ap, ◌∙◌, subst, subst⁻¹}
use mathlib.Core.Bool.{Bool, true, false}
use mathlib.Core.Logic.{⊎_elim}
use native.Mathlib.Omega.{arith}
use native.Mathlib.Decide.{ℕ_discrete, dec_lt}
use borrow.Author.Tests.{eqb-true, lt-ltb}
use lib.Dec.{eqb, ltb}
use lib.ListN.{get_or, set, length, get_or-eq_default, length-set}
use lib.Seq.{get_or-set_same, get_or-set_other}
use Rattle.words.specs.Tests.{choose}
use Rattle.words.specs.Digits.{digit, with_member}
use Rattle.words.proofs.Tests.{either_cases}
use Rattle.words.proofs.Digits.{digit_zero, digit_past, member_put}
use Rattle.register.specs.Types.{Office, Step, OfficeState, Book, Actor}
use Rattle.register.specs.Books.{block}
use Rattle.register.specs.Tables.{state_of, parent_of, final_of}
use Rattle.register.specs.Chains.{chain_notarised}
use Rattle.register.specs.Effects.{with_block, with_sent, with_moved, with_acted, with_state, with_next_epoch}
use Rattle.register.specs.Steps.{refusal, judged, rule_of}
use Rattle.register.specs.Settled.{Settled, AllSettled, Base, settled_base, actor_of, Acts}
use Rattle.register.specs.Views.{notarised}
use Rattle.register.proofs.Chains.{parent_le, genesis_notarised}
use Rattle.register.proofs.Finalising.{middle_notarised}
use Rattle.register.proofs.Naming.{named_keeps}
use Rattle.register.proofs.Accepted.{Accepted, accepted}
use Rattle.register.proofs.Judging.{passed, judged_has}
use Rattle.register.proofs.Growth.{Grows, chain_notarised_kept}
use Rattle.register.proofs.Growing.{grows_state, grows_step}

-- the final blocks of nobody are settled
pub none_settled : (r : Book) → AllSettled r 0
none_settled r q l h = absurd (omega (arith, digit_zero 2 q, eqb-true (digit 2 0 q) 1 h))

-- where the book grows and an office keeps its state, its final block stays settled
settled_kept : {r s : Book} (q : ℕ) → Grows r s → state_of s q ≡ state_of r q → Settled r q → Settled s q
settled_kept {r} {s} q g same t =
    let final : final_of s q ≡ final_of r q = ap (λ (x : OfficeState). x.finalised.0) same in
    record {
      made = omega (arith, final, t.made, g.last);
      notarised = subst⁻¹ (λ (b : ℕ). chain_notarised s q b ≡ true) final (chain_notarised_kept g q (final_of r q) t.made t.notarised);
    }

-- where it becomes a block whose chain is notarised, it is settled
settled_new : (r : Book) (q c : ℕ) (state : OfficeState) → state.finalised.0 ≡ c → c ≤ r.last.0 → chain_notarised r q c ≡ true
    → Settled (with_state r q state) q
unfolding with_state
settled_new r q c state is low n = by (dec_lt q (length r.offices))
  where
    end : Book
    end = with_state r q state

    held : (s : OfficeState) → get_or (set r.offices q state) q (record { finalised = block 0 }) ≡ s → s.finalised.0 ≤ r.last.0
        → chain_notarised r q s.finalised.0 ≡ true → Settled end q
    held s e l t =
        record {
          made = omega (arith, ap (λ (x : OfficeState). x.finalised.0) e);
          notarised =
              subst⁻¹ (λ (x : OfficeState). chain_notarised end q x.finalised.0 ≡ true) e
              (chain_notarised_kept (grows_state r q state) q s.finalised.0 l t);
        }

    by : Dec (q < length r.offices) → Settled end q
    by (yes h) =
        held state (get_or-set_same r.offices q state _ h) (omega arith) (subst⁻¹ (λ (x : ℕ). chain_notarised r q x ≡ true) is n)
    by (no h) =
        held (record { finalised = block 0 })
        (get_or-eq_default (set r.offices q state) _ (omega (arith, length-set r.offices q state))) (omega arith)
        (genesis_notarised r (notarised r q))

-- an accepted step leaves the state of every office but its actor, whose final block it settles
abbrev States : (r : Book) (step : Step) → Type 0
States r step =
    ((q : ℕ) → (q ≡ (actor_of step).0 → ⊥) → state_of (rule_of r step).effect q ≡ state_of r q)
    × ((actor_of step).0 < 32 → Settled (rule_of r step).effect (actor_of step).0)

states : (r : Book) (step : Step) → Accepted r step → States r step
unfolding rule_of actor_of with_acted with_sent with_moved with_state with_block with_next_epoch
states r (Step.Propose office parent w) a = (λ q other. named_keeps r _ (λ (x : Book). state_of x q) refl, λ l. absurd (omega arith))
states r (Step.Vote office message) a = (λ q other. refl, λ l. absurd (omega arith))
states r (Step.Register office message) a = (λ q other. refl, λ l. absurd (omega arith))
states r (Step.Finalise office newest) a = (
  λ q other. get_or-set_other r.offices office.0 q _ _ other,
  λ l.
      settled_new r office.0 (parent_of r newest.0) _ refl (omega (arith, parent_le r newest.0, a.block))
      (middle_notarised a.three),
)
states r (Step.Deliver message office) a = (λ q other. refl, λ l. absurd (omega arith))
states r (Step.BadSend sender kind signer about) a = (λ q other. refl, λ l. absurd (omega arith))
states r (Step.Draft parent epoch w) a = (λ q other. named_keeps r _ (λ (x : Book). state_of x q) refl, λ l. absurd (omega arith))
states r Step.Advance a = (λ q other. refl, λ l. absurd (omega arith))

module _ (r : Book) (fits : Bool) (few : fits ≡ true → r.n ≤ 32) (step : Step) where
  -- a final block that is settled is so after any step, accepted or refused
  settled_step : (q : ℕ) → q < 32 → Settled r q → Settled (judged fits r (rule_of r step)).book q
  settled_step q l t =
      judged_has (λ s. Settled s q) r fits step t
      (λ fit a.
      elim (ℕ_discrete q (actor_of step).0) as (λ _. Settled (rule_of r step).effect q) [
        | yes e ↦ subst⁻¹ (Settled (rule_of r step).effect) e ((states r step a).1 (omega arith))
        | no d ↦ settled_kept q (grows_step r step (few fit) a) ((states r step a).0 q d) t
      ])

  -- that of an accepted step's actor is so after it
  actor_settled : eqb (refusal fits (rule_of r step)) 0 ≡ true → (actor_of step).0 < 32
      → Settled (judged fits r (rule_of r step)).book (actor_of step).0
  unfolding judged choose
  actor_settled e l = rw e ((states r step (accepted r step (passed fits (rule_of r step) (eqb-true _ 0 e)).1)).1 l)

  -- and so are those of a set, with the actor where the step is accepted
  pub settled_next : (set : ℕ) (accept : Bool) → eqb (refusal fits (rule_of r step)) 0 ≡ accept → AllSettled r set
      → AllSettled (judged fits r (rule_of r step)).book (choose accept (with_member set (actor_of step).0) set)
  unfolding choose
  settled_next set false e all q l h = settled_step q l (all q l h)
  settled_next set true e all q l h =
      ⊎_elim (λ was. settled_step q l (all q l was)) (λ is. taken q l (eqb-true (actor_of step).0 q is))
      (either_cases (eqb (digit 2 set q) 1) (eqb (actor_of step).0 q) (sym (member_put set (actor_of step).0 q l) ∙ h))
    where
      taken : (q : ℕ) → q < 32 → (actor_of step).0 ≡ q → Settled (judged fits r (rule_of r step)).book q
      taken q l is = subst (Settled (judged fits r (rule_of r step)).book) is (actor_settled e (omega arith))

-- the base of an office, by the test whether it is in the set
base_by : (r : Book) (set q at : ℕ) → AllSettled r set → q < 32 → at ≡ q → (t : Bool) → eqb (digit 2 set q) 1 ≡ t
    → Base r q (choose t (state_of r at).finalised (block 0)).0
unfolding choose
base_by r set q at all l own true h = subst⁻¹ (λ (x : ℕ). Base r q (final_of r x)) own (all q l h).notarised
base_by r set q at all l own false h = genesis_notarised r (notarised r q)

-- the base of an office, whose final block is settled where the office is in the set
pub settled_base_lem : (r : Book) (set q at : ℕ) → AllSettled r set → set < 2 ^ 32 → (q < 32 → at ≡ q)
    → Base r q (settled_base (state_of r at) set q).0
unfolding choose
settled_base_lem r set q at all fits own =
    elim (dec_lt q 32) as (λ _. Base r q (settled_base (state_of r at) set q).0) [
      | yes l ↦ base_by r set q at all l (own l) (eqb (digit 2 set q) 1) refl
      | no l ↦ rw (digit_past 2 set 32 q fits (omega arith)) (genesis_notarised r (notarised r q))
    ]

-- what the code finds of a step's actor
pub acts : (r : Book) (step : Step) (set : ℕ) (office : Office) (actor : Actor) → office ≡ actor_of step
    → actor.at ≡ choose (ltb office.0 32) office.0 0 → actor.at < 32
    → actor.base ≡ settled_base (state_of r actor.at) set office.0 → AllSettled r set → set < 2 ^ 32 → Acts r step actor
unfolding choose
acts r step set office actor who place within base all fits =
    let own : (actor_of step).0 < 32 → actor.at ≡ (actor_of step).0 =
    λ l. rw (who, lt-ltb (actor_of step).0 32 l) at place in
    record {
      within = within;
      own = own;
      base = rw (base, who) (settled_base_lem r set (actor_of step).0 actor.at all fits own);
    }

-- Every step, accepted or refused, is lawful.
use Prim.Native.Nat.{ℕ, ◌+◌, ◌<◌, ◌≤◌}
use mathlib.Core.Path.{◌≡◌, refl, sym, ap, ◌∙◌, subst, subst⁻¹, subst₂}
use mathlib.Core.Bool.{true, false}
use mathlib.Core.List.{List}
use mathlib.Core.Logic.{◌⊎◌, inl, inr}
use native.Mathlib.Omega.{arith}
use native.Mathlib.Decide.{ℕ_discrete, dec_lt}
use borrow.Author.Tests.{eq-eqb}
use lib.Dec.{eqb}
use lib.ListN.{get_or, set, length, get_or-eq_default, length-set}
use lib.Seq.{get_or-set_same, get_or-set_other}
use Rattle.words.specs.Tests.{both, agree}
use Rattle.words.specs.Digits.{digit}
use Rattle.words.proofs.Tests.{both_right, either_left, either_right, any_at}
use Rattle.words.proofs.Digits.{member_put}
use Rattle.tables.specs.Messages.{history_in}
use Rattle.register.specs.Types.{Office, Block, Message, Kind, Header}
use Rattle.register.specs.declared.book.Book.{Book}
use Rattle.register.specs.declared.step.Step.{Step}
use Rattle.register.specs.declared.table.Content.{Content}
use Rattle.register.specs.declared.table.OfficeState.{OfficeState}
use Rattle.register.specs.Books.{block, is_vote}
use Rattle.register.specs.Tables.{acted, parent_of, epoch_of, named, signer_of, about_of, final_of}
use Rattle.register.specs.Views.{says}
use Rattle.register.specs.Chains.{chain, chain_length}
use Rattle.register.specs.Refusals.{in_history}
use Rattle.register.specs.Effects.{with_block, with_named, with_sent, with_moved, with_acted, with_state, with_next_epoch}
use Rattle.register.specs.Steps.{propose, vote, finalise, bad_send, rule_of, book_rule}
use Rattle.register.specs.Promises.{Sizes}
use Rattle.register.proofs.Tables.{signer_new, about_new}
use Rattle.register.proofs.Accepted.{Accepted, Signs, trusted_below}
use Rattle.register.proofs.Judging.{judged_has}
use Rattle.register.proofs.Naming.{MadeOf, named_keeps, named_has, named_made}
use Rattle.register.proofs.Chains.{parent_le}
use Rattle.register.proofs.Finalising.{consecutive_more}
use Rattle.register.proofs.Ranges.{Ranges}
use Rattle.register.proofs.Growth.{Grows, grows_refl}
use Rattle.register.proofs.Growing.{grows_state, grows_step}
use Rattle.agreement.proofs.Backing.{notarised_backed, three_kept}
use Rattle.agreement.proofs.Safety.{Signature, Finalised, middle, Signing, News, NewFinal, still, later, Lawful, signature}

-- a step that is refused changes nothing
lawful_refl : (r : Book) → Lawful r r
lawful_refl r =
    record {
      grows = grows_refl r;
      clock = still refl (λ h l a. a);
      one = omega arith;
      news = λ m l. inl l;
      finals = λ p t. inl refl;
    }

-- an office that acts has then acted, and whoever had still has
acts : (r : Book) (q : ℕ) → q < 32 → acted (with_acted r q) q ≡ true
unfolding with_acted
acts r q l = member_put r.acted q q l ∙ either_right _ _ (eq-eqb q q refl)

acted_kept : (r : Book) (q h : ℕ) → h < 32 → acted r h ≡ true → acted (with_acted r q) h ≡ true
unfolding with_acted
acted_kept r q h l a = member_put r.acted q h l ∙ either_left _ _ a

-- the one new message of a step
one_new : (r s : Book) (new : Content) → s.count ≡ r.count + 1 → signer_of s r.count ≡ new.signer.0 → about_of s r.count ≡ new.about.0
    → News r s new.signer.0 new.about.0 → (m : ℕ) → m < s.count → (m < r.count) ⊎ News r s (signer_of s m) (about_of s m)
one_new r s new more signer about news m l = by (dec_lt m r.count)
  where
    by : Dec (m < r.count) → (m < r.count) ⊎ News r s (signer_of s m) (about_of s m)
    by (yes h) = inl h
    by (no h) =
        let last : m ≡ r.count = omega arith in
        inr
        (subst⁻¹ (λ (x : ℕ). News r s (signer_of s x) (about_of s x)) last
        (subst₂ (News r s) (sym signer) (sym about) news))

-- Book r is ready for trusted office q to sign block b: what is done to it first gives `next`.
record Signable (r next : Book) (q b : ℕ) : Type 0 where
  pub sizes : Sizes next
  pub epoch : next.epoch.0 ≡ r.epoch.0
  pub marks : next.acted ≡ r.acted
  pub count : next.count ≡ r.count
  pub states : next.offices ≡ r.offices
  pub current : epoch_of next b ≡ r.epoch.0
  pub known : parent_of next b ≤ r.last.0
  pub office : q < 32
  pub signs : Signs r q (parent_of next b) r.epoch.0

-- an office signs a block: what propose and vote share
lawful_signed : (r next : Book) (q : Office) (kind : Kind) (b : ℕ)
    → Grows r (with_acted (with_sent next q.0 (record { kind = kind; signer = q; about = block b })) q.0)
    → Signable r next q.0 b
    → Lawful r (with_acted (with_sent next q.0 (record { kind = kind; signer = q; about = block b })) q.0)
unfolding with_acted with_sent
lawful_signed r next q kind b grows p =
    let new : Content = record { kind = kind; signer = q; about = block b } in
    let sent : Book = with_sent next q.0 new in
    let end : Book = with_acted sent q.0 in
    let signing : Signing r end q.0 b =
    record {
      epoch = p.epoch;
      current = p.current;
      ready = p.signs.ready;
      acts = acts sent q.0 p.office;
      known = p.known;
      parent = p.signs.longest;
    } in
    let room : next.count < 1024 = omega (arith, p.count, p.signs.room) in
    record {
      grows = grows;
      clock = still p.epoch (λ h l a. acted_kept sent q.0 h l (ap (λ (w : ℕ). eqb (digit 2 w h) 1) p.marks ∙ a));
      one = omega (arith, p.count);
      news = one_new r end new (ap (λ (k : ℕ). k + 1) p.count)
          (ap (signer_of end) (sym p.count) ∙ signer_new next p.sizes q.0 new room)
          (ap (about_of end) (sym p.count) ∙ about_new next p.sizes q.0 new room) (λ t. inr signing);
      finals = λ x t. inl (ap (λ (o : List OfficeState). (get_or o x (record { finalised = block 0 })).finalised.0) p.states);
    }

-- naming a block keeps the sizes
sizes_named : (r : Book) (new : Header) → Sizes r → Sizes (with_named r new)
unfolding with_block
sizes_named r new s =
    named_has r new Sizes s
    (λ next.
    record {
      parents = length-set r.parents _ _ ∙ s.parents;
      epochs = length-set r.epochs _ _ ∙ s.epochs;
      signers = s.signers;
      about = s.about;
    })

-- propose: the block named is of the current epoch, on the parent that was given
lawful_propose : (r : Book) (office : Office) (parent : Block) (w : ℕ) → Ranges r → Accepted r (Step.Propose office parent w)
    → Grows r (propose r office parent w).effect → Lawful r (propose r office parent w).effect
unfolding with_block
lawful_propose r office parent w z a grows =
    let new : Header = record { parent = parent; epoch = r.epoch; payload = w } in
    let next : Book = with_named r new in
    let b : MadeOf next parent.0 r.epoch.0 (named r new) = named_made r new z.sizes a.parent a.blocks in
    lawful_signed r next office Kind.Proposal (named r new) grows
    (record {
      sizes = sizes_named r new z.sizes;
      epoch = named_keeps r new (λ (x : Book). x.epoch.0) refl;
      marks = named_keeps r new (λ (x : Book). x.acted) refl;
      count = named_keeps r new (λ (x : Book). x.count) refl;
      states = named_keeps r new (λ (x : Book). x.offices) refl;
      current = b.epoch;
      known = omega (arith, b.parent, a.parent);
      office = omega (arith, trusted_below r office.0 a.signs.trusted, z.counts.offices);
      signs = subst⁻¹ (λ (x : ℕ). Signs r office.0 x r.epoch.0) b.parent a.signs;
    })

-- vote: the block is that of a message sent
lawful_vote : (r : Book) (office : Office) (message : Message) → Ranges r → Accepted r (Step.Vote office message)
    → Grows r (vote r office message).effect → Lawful r (vote r office message).effect
unfolding with_moved
lawful_vote r office message z a grows =
    let b : ℕ = about_of r message.0 in
    let s = z.sizes in
    lawful_signed r (with_moved r message.0 office.0 3) office Kind.Vote b grows
    (record {
      sizes = record { parents = s.parents; epochs = s.epochs; signers = s.signers; about = s.about };
      epoch = refl;
      marks = refl;
      count = refl;
      states = refl;
      current = a.current;
      known = omega (arith, parent_le r b, (z.messages message.0 a.message.sent).1.1);
      office = omega (arith, trusted_below r office.0 a.signs.trusted, z.counts.offices);
      signs = subst (λ (x : ℕ). Signs r office.0 (parent_of r b) x) a.current a.signs;
    })

-- one office's final block changes, and the others' stay
finals_after : (r : Book) (q c p : ℕ) (state : OfficeState) → state.finalised.0 ≡ c → Finalised (with_state r q state) c
    → chain_length r (final_of r q) ≤ chain_length r c
    → (final_of (with_state r q state) p ≡ final_of r p) ⊎ NewFinal r (with_state r q state) p
unfolding with_state chain
finals_after r q c p state is three forward = by (ℕ_discrete p q) (dec_lt q (length r.offices))
  where
    end : Book
    end = with_state r q state

    final : OfficeState → ℕ
    final s = s.finalised.0

    own : q < length r.offices → NewFinal r end q
    own h =
        let now : final_of end q ≡ c = ap final (get_or-set_same r.offices q state _ h) ∙ is in
        record {
          final = subst⁻¹ (Finalised end) now three;
          forward = subst⁻¹ (λ (x : ℕ). chain_length r (final_of r q) ≤ chain_length end x) now forward;
        }

    by : Dec (p ≡ q) → Dec (q < length r.offices) → (final_of end p ≡ final_of r p) ⊎ NewFinal r end p
    by (yes e) (yes h) = inr (subst⁻¹ (NewFinal r end) e (own h))
    by (yes e) (no h) =
        inl
        (ap final (get_or-eq_default (set r.offices q state) _ (omega (arith, length-set r.offices q state)))
        ∙ sym (ap final (get_or-eq_default r.offices _ (omega arith))))
    by (no d) h = inl (ap final (get_or-set_other r.offices q p state _ d))

lawful_finalise : (r : Book) (office : Office) (newest : Block) → Ranges r → Accepted r (Step.Finalise office newest)
    → Grows r (finalise r office newest).effect → Lawful r (finalise r office newest).effect
unfolding with_state
lawful_finalise r office newest z a grows =
    record {
      grows = grows;
      clock = still refl (λ x l a. a);
      one = omega arith;
      news = λ x l. inl l;
      finals = λ p t.
          finals_after r office.0 (parent_of r newest.0) p _ refl
          (middle newest.0 _ a.block
          (three_kept (grows_state r office.0 _) a.block
          (consecutive_more (λ x m. notarised_backed r z.counts.offices office.0 x) a.three))) a.forward;
    }

-- a message of the history is a signature
in_history_lem : (r : Book) (kind : Kind) (h b : ℕ) → in_history r kind h b ≡ true → Signature r h b
unfolding history_in
in_history_lem r kind h b t =
    let f : (m : ℕ) × (m < r.count) × (both (agree (get_or r.votes m false) (is_vote kind)) (says r h b m) ≡ true) = any_at _ r.count t in
    signature r h b f.0 f.1 (both_right _ _ f.2)

lawful_bad_send : (r : Book) (sender : Office) (kind : Kind) (signer : Office) (about : Block) → Ranges r
    → Accepted r (Step.BadSend sender kind signer about) → Grows r (bad_send r sender kind signer about).effect
    → Lawful r (bad_send r sender kind signer about).effect
unfolding with_sent
lawful_bad_send r sender kind signer about z a grows =
    let new : Content = record { kind = kind; signer = signer; about = about } in
    record {
      grows = grows;
      clock = still refl (λ x l a. a);
      one = omega arith;
      news = one_new r (with_sent r sender.0 new) new refl (signer_new r z.sizes sender.0 new a.room)
          (about_new r z.sizes sender.0 new a.room) (λ t. inl (in_history_lem r kind signer.0 about.0 (a.known t)));
      finals = λ p t. inl refl;
    }

-- a step that sends nothing, names a block at most, and keeps clock, marks and states
lawful_quiet : (r s : Book) → Grows r s → s.epoch.0 ≡ r.epoch.0 → s.acted ≡ r.acted → s.count ≡ r.count → s.offices ≡ r.offices
    → Lawful r s
lawful_quiet r s grows epoch marks count states =
    record {
      grows = grows;
      clock = still epoch (λ h l a. ap (λ (w : ℕ). eqb (digit 2 w h) 1) marks ∙ a);
      one = omega arith;
      news = λ m l. inl (omega arith);
      finals = λ x t. inl (ap (λ (o : List OfficeState). (get_or o x (record { finalised = block 0 })).finalised.0) states);
    }

-- every accepted step
lawful_accepted : (r : Book) (step : Step) → Ranges r → Accepted r step → Grows r (rule_of r step).effect → Lawful r (rule_of r step).effect
unfolding rule_of with_moved with_block with_next_epoch
lawful_accepted r (Step.Propose office parent w) z a g = lawful_propose r office parent w z a g
lawful_accepted r (Step.Vote office message) z a g = lawful_vote r office message z a g
lawful_accepted r (Step.Register office message) z a g = lawful_quiet r _ g refl refl refl refl
lawful_accepted r (Step.Finalise office newest) z a g = lawful_finalise r office newest z a g
lawful_accepted r (Step.Deliver message office) z a g = lawful_quiet r _ g refl refl refl refl
lawful_accepted r (Step.BadSend sender kind signer about) z a g = lawful_bad_send r sender kind signer about z a g
lawful_accepted r (Step.Draft parent epoch w) z a g =
    let new : Header = record { parent = parent; epoch = epoch; payload = w } in
    lawful_quiet r _ g (named_keeps r new (λ (x : Book). x.epoch.0) refl) (named_keeps r new (λ (x : Book). x.acted) refl)
    (named_keeps r new (λ (x : Book). x.count) refl) (named_keeps r new (λ (x : Book). x.offices) refl)
lawful_accepted r Step.Advance z a g =
    record { grows = g; clock = later (omega arith); one = omega arith; news = λ m l. inl l; finals = λ p t. inl refl }

-- every step
pub lawful : (r : Book) (step : Step) → Ranges r → Lawful r (book_rule r step).book
unfolding book_rule
lawful r step z =
    judged_has (Lawful r) r _ step (lawful_refl r) (λ fits a. lawful_accepted r step z a (grows_step r step z.counts.offices a))

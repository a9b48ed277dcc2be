-- Steps keep a register fit: each effect keeps its numbers in their ranges where the step's tests have passed.
use Prim.Native.Nat.{ℕ, zero, suc, ◌+◌, ◌≤◌, ◌<◌}
use mathlib.Core.Path.{◌≡◌, refl, ap, ◌∙◌}
use mathlib.Core.Bool.{Bool, true, false}
use mathlib.Core.List.{List, [], ◌∷◌}
use native.Mathlib.Omega.{arith}
use lib.ListN.{length, get_or, set, length-set}
use Rattle.words.specs.Tests.{choose}
use Rattle.words.specs.Digits.{with_member}
use Rattle.words.specs.Refusals.{first}
use Rattle.register.specs.Types.{Office, Epoch, Block, Message, Step, Header, Content, OfficeState, Book}
use Rattle.register.specs.Books.{block, epoch, blocks_of, changed, book_of}
use Rattle.register.specs.Tables.{trusted}
use Rattle.register.specs.Fitness.{fit}
use Rattle.register.specs.Refusals.{blocks_full}
use Rattle.register.specs.Effects.{with_block, with_named, with_sent, with_moved, with_acted, with_state, with_next_epoch}
use Rattle.register.specs.Steps.{propose, vote, refusal, judged, rule_of, book_rule}
use Rattle.register.specs.Promises.{Sizes, StepsKeepFit}
use Rattle.register.proofs.Typing.{step_book}
use Rattle.register.proofs.Chains.{parent_le}
use Rattle.register.proofs.Accepted.{Accepted, trusted_below}
use Rattle.register.proofs.Judging.{judged_has}
use Rattle.register.proofs.Naming.{named_keeps, named_has, named_within, block_room}
use Rattle.register.proofs.Ranges.{Ranges, recounted, ranges, ranges_fit}

-- An entry of a table after a store at place i is the new one, or as it was, or the default past the table's end. What holds of each holds of it.
stored : {A : Type 0} (P : A → Type 0) (l : List A) (i : ℕ) (v : A) (j : ℕ) (d : A)
    → (j ≡ i → P v) → (length l ≤ i → P d) → ((j ≡ i → ⊥) → P (get_or l j d)) → P (get_or (set l i v) j d)
stored P [] i v j d new none old = none (omega arith)
stored P (x ∷ xs) zero v zero d new none old = new refl
stored P (x ∷ xs) zero v (suc j) d new none old = old (λ e. omega arith)
stored P (x ∷ xs) (suc i) v zero d new none old = old (λ e. omega arith)
stored P (x ∷ xs) (suc i) v (suc j) d new none old =
    stored P xs i v j d (λ e. new (ap suc e)) (λ h. none (omega arith)) (λ o. old (λ e. o (omega arith)))

module _ {r : Book} (z : Ranges r) where
  -- a change of epoch, marks, places and what offices hold that keeps the ranges and the sizes
  ranges_quiet : (e : Epoch) (a : ℕ) (places : List ℕ) (o : List OfficeState) → 1 ≤ e.0 → e.0 ≤ r.scheduled
      → ((q : ℕ) → q < r.n → trusted r q ≡ true → (get_or o q (record { finalised = block 0 })).finalised.0 ≤ r.last.0)
      → Ranges
      (changed r e a (blocks_of r)
      (record { count = r.count; votes = r.votes; signers = r.signers; about = r.about; places = places }) o)
  ranges_quiet e a places o first now finals =
      let c = z.counts in
      let s = z.sizes in
      record {
        counts = recounted _ _ _ c first now c.blocks c.messages;
        fixed = z.fixed;
        blocks = z.blocks;
        messages = z.messages;
        finals = finals;
        sizes = record { parents = s.parents; epochs = s.epochs; signers = s.signers; about = s.about };
      }

  -- where a message stands is no matter
  ranges_moved : (m q stage : ℕ) → Ranges (with_moved r m q stage)
  unfolding with_moved
  ranges_moved m q stage =
      ranges_quiet r.epoch r.acted _ r.offices z.counts.first z.counts.current z.finals

  -- nor is who has acted
  ranges_acted : (q : ℕ) → Ranges (with_acted r q)
  unfolding with_acted
  ranges_acted q =
      ranges_quiet r.epoch (with_member r.acted q) r.places r.offices z.counts.first z.counts.current z.finals

  -- the next epoch is one of the schedule's
  ranges_epoch : r.epoch.0 < r.scheduled → Ranges (with_next_epoch r)
  unfolding with_next_epoch
  ranges_epoch more =
      ranges_quiet (epoch (r.epoch.0 + 1)) 0 r.places r.offices (omega arith) (omega arith) z.finals

  -- the new final block has been made
  ranges_state : (q : ℕ) (state : OfficeState) → state.finalised.0 ≤ r.last.0 → Ranges (with_state r q state)
  unfolding with_state
  ranges_state q state low =
      ranges_quiet r.epoch r.acted r.places (set r.offices q state) z.counts.first z.counts.current
      (λ p l t.
      stored (λ (x : OfficeState). x.finalised.0 ≤ r.last.0) r.offices q state p _ (λ e. low) (λ h. omega arith) (λ d. z.finals p l t))

  -- the new block's parent has been made, its epoch is no greater than 511, and there is room for it
  ranges_block : (new : Header) → new.parent.0 ≤ r.last.0 → new.epoch.0 ≤ 511 → r.last.0 < 255 → Ranges (with_block r new)
  unfolding with_block
  ranges_block new low small room =
      let b : ℕ = r.last.0 + 1 in
      let c = z.counts in
      let s = z.sizes in
      record {
        counts = recounted _ _ _ c c.first c.current (omega arith) c.messages;
        fixed = z.fixed;
        blocks = λ k l. (
          stored (λ (x : ℕ). x < k + 1) r.parents b new.parent.0 (k + 1) 0 (λ h. omega arith) (λ h. omega arith)
              (λ d. (z.blocks k (omega (arith, d))).0),
          stored (λ (x : ℕ). x ≤ 511) r.epochs b new.epoch.0 (k + 1) 0 (λ h. small) (λ h. omega arith)
              (λ d. (z.blocks k (omega (arith, d))).1),
        );
        messages = λ m l. ((z.messages m l).0, ((z.messages m l).1.0, omega (arith, (z.messages m l).1.1)));
        finals = λ q l t. omega (arith, z.finals q l t);
        sizes =
            record {
              parents = length-set r.parents b _ ∙ s.parents;
              epochs = length-set r.epochs b _ ∙ s.epochs;
              signers = s.signers;
              about = s.about;
            };
      }

  -- the new message's signer is an office, and its block has been made
  ranges_sent : (actor : ℕ) (new : Content) → r.count < 1024 → new.signer.0 < r.n
      → (1 ≤ new.about.0) × (new.about.0 ≤ r.last.0) → Ranges (with_sent r actor new)
  unfolding with_sent
  ranges_sent actor new room signer about =
      let m : ℕ = r.count in
      let c = z.counts in
      let s = z.sizes in
      record {
        counts = recounted _ _ _ c c.first c.current c.blocks (omega arith);
        fixed = z.fixed;
        blocks = z.blocks;
        messages = λ x l. (
          stored (λ (x : ℕ). x < r.n) r.signers m new.signer.0 x 0 (λ e. signer) (λ h. omega arith)
              (λ d. (z.messages x (omega (arith, d))).0),
          stored (λ (x : ℕ). (1 ≤ x) × (x ≤ r.last.0)) r.about m new.about.0 x 0 (λ e. about)
              (λ h. absurd (omega (arith, s.about))) (λ d. (z.messages x (omega (arith, d))).1),
        );
        finals = z.finals;
        sizes =
            record {
              parents = s.parents;
              epochs = s.epochs;
              signers = length-set r.signers m _ ∙ s.signers;
              about = length-set r.about m _ ∙ s.about;
            };
      }

  -- the same where the block may be there already
  ranges_named : (new : Header) → new.parent.0 ≤ r.last.0 → new.epoch.0 ≤ 511 → blocks_full r new ≡ false → Ranges (with_named r new)
  ranges_named new low small full = named_has r new Ranges z (λ next. ranges_block new low small (block_room r new full next))

-- propose: the parent is there, the epoch is one of the schedule's, and the signer is an office
ranges_propose : (r : Book) (office : Office) (parent : Block) (w : ℕ) → Ranges r → Accepted r (Step.Propose office parent w)
    → Ranges (propose r office parent w).effect
unfolding with_block
ranges_propose r office parent w z a =
    let new : Header = record { parent = parent; epoch = r.epoch; payload = w } in
    let n_kept : (with_named r new).n ≡ r.n = named_keeps r new (λ (x : Book). x.n) refl in
    let count_kept : (with_named r new).count ≡ r.count = named_keeps r new (λ (x : Book). x.count) refl in
    ranges_acted
    (ranges_sent (ranges_named z new a.parent (omega arith) a.blocks) office.0 _ (omega (arith, a.signs.room))
    (omega (arith, trusted_below r office.0 a.signs.trusted)) (named_within r new))
    office.0

-- vote: the block is that of a message sent
ranges_vote : (r : Book) (office : Office) (message : Message) → Ranges r → Accepted r (Step.Vote office message)
    → Ranges (vote r office message).effect
unfolding with_moved
ranges_vote r office message z a =
    ranges_acted
    (ranges_sent (ranges_moved z message.0 office.0 3) office.0 _ a.signs.room
    (trusted_below r office.0 a.signs.trusted) (z.messages message.0 a.message.sent).1)
    office.0

-- every accepted step
ranges_accepted : (r : Book) (step : Step) → Ranges r → Accepted r step → Ranges (rule_of r step).effect
unfolding rule_of
ranges_accepted r (Step.Propose office parent w) z a = ranges_propose r office parent w z a
ranges_accepted r (Step.Vote office message) z a = ranges_vote r office message z a
ranges_accepted r (Step.Register office message) z a = ranges_moved z message.0 office.0 3
ranges_accepted r (Step.Finalise office newest) z a =
    ranges_state z office.0 _ (omega (arith, parent_le r newest.0, a.block))
ranges_accepted r (Step.Deliver message office) z a = ranges_moved z message.0 office.0 2
ranges_accepted r (Step.BadSend sender kind signer about) z a = ranges_sent z sender.0 _ a.room a.office (a.above, a.made)
ranges_accepted r (Step.Draft parent epoch w) z a = ranges_named z _ a.parent a.epoch a.blocks
ranges_accepted r Step.Advance z a = ranges_epoch z a

-- every step, accepted or refused
pub ranges_step : (r : Book) (step : Step) → Ranges r → Ranges (book_rule r step).book
unfolding book_rule
ranges_step r step z = judged_has Ranges r (fit r) step z (λ fits. ranges_accepted r step z)

-- a step leaves a book fit or unfit, as it was, and its tables as large
pub fit_step : (r : Book) (step : Step) → Sizes r → (fit (book_rule r step).book ≡ fit r) × Sizes (book_rule r step).book
unfolding book_rule
fit_step r step sizes = by (fit r) refl
  where
    by : (t : Bool) → fit r ≡ t → (fit (judged t r (rule_of r step)).book ≡ t) × Sizes (judged t r (rule_of r step)).book
    by true h =
        let z : Ranges (judged true r (rule_of r step)).book = judged_has Ranges r true step (ranges sizes h) (λ fits. ranges_accepted r step (ranges sizes h)) in
        (ranges_fit z, z.sizes)
    by false h = unfold judged refusal first choose in (h, sizes)

-- steps keep a register fit
pub steps_keep_fit : StepsKeepFit
unfolding StepsKeepFit
steps_keep_fit r step sizes h = rw (step_book r step) (ranges_fit (ranges_step (book_of r) step (ranges sizes h)))

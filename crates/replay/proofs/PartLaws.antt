-- Parts: gathering one step after the other, up to a whole part, and what a part is for.
use Prim.Native.Nat.{ℕ, zero, suc, ◌+◌, ◌-◌, ◌≤◌, ◌<◌, min}
use mathlib.Core.Path.{◌≡◌, refl, sym, ap, ◌∙◌}
use mathlib.Core.List.{List, [], ◌∷◌, ◌++◌, append-nil, append_assoc}
use mathlib.Core.Logic.{◌⊎◌, inl, inr}
use native.Mathlib.Omega.{arith}
use lib.ListN.{length, take, drop, set, replicate, length-append, length-drop}
use lib.Seq.{length-take-le, take_at, drop-cons, set_at}
use Rattle.register.specs.Limits.{batch}
use Rattle.register.specs.declared.step.Step.{Step}
use Rattle.register.specs.declared.table.Register.{Register}
use Rattle.register.specs.declared.table.Ran.{Ran}
use Rattle.register.specs.Runs.{ran}
use Rattle.packed_log.specs.declared.item.Item.{Item}
use Rattle.packed_log.specs.declared.item.Read.{Read}
use Rattle.packed_log.specs.Items.{item_at}
use Rattle.replay.specs.declared.body.Part.{Part}
use Rattle.replay.specs.Bodies.{Body, begun, body_at}
use Rattle.replay.specs.Parts.{filled, behind, part_at}
use Rattle.replay.proofs.BodyLaws.{body_begins}

-- what is gathered from position p on: some steps, in a batch, with the rest of the body behind them
pub record Gathered (log : List ℕ) (p : ℕ) (part : Part) : Type 0 where
  pub steps : List Step
  pub few : length steps ≤ batch
  pub count : part.count ≡ length steps
  pub steps_are : part.steps ≡ filled steps
  pub next : part.next ≡ behind log p (length steps)
  pub body : (body_at log p).steps ≡ steps ++ (body_at log part.next).steps

-- steps are all that a batch takes where they fill it, or where none follows
all_there : (ss rest : List Step) → length ss ≤ batch → (length ss ≡ batch) ⊎ (rest ≡ []) → length ss ≡ min batch (length (ss ++ rest))
all_there ss rest few (inl all) = simp length-append (omega arith)
all_there ss rest few (inr none) = rw (none, append-nil) (omega arith)

-- a step that is put at the next place of a batch comes behind the others
next_put : (ss : List Step) (s : Step) → length ss < batch → set (filled ss) (length ss) s ≡ filled (ss ++ s ∷ [])
unfolding filled
next_put ss s less =
    let one_less : batch - length ss ≡ suc (batch - length (ss ++ s ∷ [])) = simp length-append (omega arith) in
    rw one_less (simp append_assoc (set_at ss _ _ _ _ refl))

module _ (log : List ℕ) (p : ℕ) where
  -- nothing gathered yet
  pub gathered_none : Gathered log p (record { steps = replicate batch Step.Advance; count = 0; next = p })
  unfolding filled behind
  gathered_none = record { steps = []; few = omega arith; count = refl; steps_are = refl; next = refl; body = refl }

  -- one step more
  pub gathered_step : (part : Part) (step : Step) (read : Read) → Gathered log p part → part.count < batch → read ≡ item_at log part.next
      → body_at log part.next ≡ begun (Item.Step step) (body_at log read.next)
      → Gathered log p (record { steps = set part.steps part.count step; count = part.count + 1; next = read.next })
  unfolding behind begun
  gathered_step part step read so_far less here one =
      let ss : List Step = so_far.steps in
      let more : length (ss ++ step ∷ []) ≡ suc (length ss) = simp length-append (omega arith) in
      record {
        steps = ss ++ step ∷ [];
        few = omega (arith, so_far.count);
        count = omega (arith, so_far.count);
        steps_are = rw (so_far.steps_are, so_far.count) (next_put ss step (omega (arith, so_far.count)));
        next = rw (here, more, so_far.next);
        body = so_far.body ∙ rw (one, append_assoc);
      }

  -- a part is whole where it fills a batch, or where no step follows
  pub gathered_part : (part : Part) → Gathered log p part → (part.count ≡ batch) ⊎ ((body_at log part.next).steps ≡ []) → part ≡ part_at log p
  unfolding part_at
  gathered_part part so_far whole =
      let ss : List Step = so_far.steps in
      let front : take (length ss) (body_at log p).steps ≡ ss = rw so_far.body (take_at ss _ (length ss) refl) in
      let all : length ss ≡ min batch (length (body_at log p).steps) = rw so_far.body (all_there ss _ so_far.few (rw so_far.count at whole)) in
      rw (← all, front) (λ i. record { steps = so_far.steps_are i; count = so_far.count i; next = so_far.next i })

-- an item in front is passed over
passed : (item : Item) (rest : Body) (ss : List Step) (k : ℕ) → (begun item rest).steps ≡ drop k ss → k < length ss → rest.steps ≡ drop (suc k) ss
unfolding begun
passed (Item.Step s) rest ss k e less = cc (drop-cons ss k s less)
passed Item.End rest ss k e less = absurd (omega (arith, simp length-drop at (ap length e)))
passed (Item.Refused number) rest ss k e less = absurd (omega (arith, simp length-drop at (ap length e)))

-- behind k steps there is the body without them
rest_behind : (log : List ℕ) (p k : ℕ) → k ≤ length (body_at log p).steps → (body_at log (behind log p k)).steps ≡ drop k (body_at log p).steps
unfolding behind
rest_behind log p zero less = refl
rest_behind log p (suc k) less =
    passed (item_at log (behind log p k)).item _ (body_at log p).steps k
    (sym (ap (λ (b : Body). b.steps) (body_begins log (behind log p k))) ∙ rest_behind log p k (omega arith)) less

module _ (log : List ℕ) (p : ℕ) (part : Part) (read : part ≡ part_at log p) where
  -- how many steps a part has
  pub part_count : part.count ≡ min batch (length (body_at log p).steps)
  unfolding part_at
  part_count = ap (λ (x : Part). x.count) read

  -- what is left behind a part is the body without its steps
  pub part_rest : (body_at log part.next).steps ≡ drop part.count (body_at log p).steps
  unfolding part_at
  part_rest = rw read (rest_behind log p _ (omega arith))

  -- behind a part that is not empty there are fewer steps
  pub part_fewer : (part.count ≡ 0 → ⊥) → length (body_at log part.next).steps < length (body_at log p).steps
  part_fewer some = rw (part_rest, length-drop) (omega (arith, part_count))

  -- the batch of a part's steps, run, gives what the body's first steps give
  pub part_ran : (r : Register) (given : Ran) → given ≡ ran r (take (min part.count batch) part.steps) → given ≡ ran r (take part.count (body_at log p).steps)
  unfolding part_at filled
  part_ran r given runs =
      let count : ℕ = min batch (length (body_at log p).steps) in
      let ss : List Step = take count (body_at log p).steps in
      let long : length ss ≡ min count batch = length-take-le count (body_at log p).steps (omega arith) ∙ omega arith in
      runs ∙ rw read (ap (ran r) (take_at ss _ _ long))

-- What the test of a register says of the numbers in it.
use Prim.Native.Nat.{ℕ, ◌+◌, ◌≤◌, ◌<◌}
use mathlib.Core.Path.{◌≡◌}
use mathlib.Core.Bool.{true}
use native.Mathlib.Omega.{arith}
use borrow.Author.Tests.{ltb-true, leb-true, lt-ltb, le-leb}
use lib.ListN.{get_or}
use Rattle.words.proofs.Tests.{both_left, both_right, both_make, implied, implies, all_at, all_make, between_true, between_make}
use Rattle.words.proofs.Clearing.{holds, hold}
use Rattle.register.specs.Types.{Book}
use Rattle.register.specs.Tables.{trusted, final_of}
use Rattle.register.specs.Fitness.{counts_fit, block_fits, message_fits, state_fits, fit}
use Rattle.register.specs.Promises.{Sizes}
use Rattle.register.specs.Counted.{InRanges, CountedBook}

-- the ranges of what no step changes: the same type before and after a step
abbrev Fixed : Book → Type 0
Fixed r = (i : ℕ) → i < r.scheduled → get_or r.leaders i 0 < r.n

-- of a message: its signer is an office, and its block one from 1 up to the last
abbrev pub MessageRange : Book → (m : ℕ) → Type 0
MessageRange r m =
    (get_or r.signers m 0 < r.n) × ((1 ≤ get_or r.about m 0) × (get_or r.about m 0 ≤ r.last.0))

-- every number of the book is in its range, and the tables have their sizes
pub record Ranges (r : Book) : Type 0 where
  pub counts : CountedBook r
  pub fixed : Fixed r
  pub blocks : (k : ℕ) → k < r.last.0 → (get_or r.parents (k + 1) 0 < k + 1) × (get_or r.epochs (k + 1) 0 ≤ 511)
  pub messages : (m : ℕ) → m < r.count → MessageRange r m
  pub finals : (q : ℕ) → q < r.n → trusted r q ≡ true → final_of r q ≤ r.last.0
  pub sizes : Sizes r

-- the single numbers are in their ranges where the tests of them hold
pub counted : (s : Book) → counts_fit s ≡ true → CountedBook s
unfolding counts_fit
counted s h =
    let all = holds _ h in
    let offices = between_true 1 32 s.n all.0 in
    let epoch = between_true 1 s.scheduled s.epoch.0 all.1.1.0 in
    record {
      some = offices.0;
      offices = offices.1;
      schedule = (between_true 1 256 s.scheduled all.1.0).1;
      first = epoch.0;
      current = epoch.1;
      blocks = leb-true _ 255 all.1.1.1.0;
      messages = leb-true _ 1024 all.1.1.1.1.0;
    }

-- so they are in a fit book
pub fit_counts : (r : Book) → fit r ≡ true → CountedBook r
unfolding fit
fit_counts r h = counted _ (holds _ h).0

-- and so are those of every message sent
pub fit_messages : (r : Book) → fit r ≡ true → (m : ℕ) → m < r.count → MessageRange r m
unfolding fit message_fits
fit_messages r h m l =
    let fits = all_at _ _ m (holds _ h).1.1.1.0 l in
    (ltb-true _ _ (both_left _ _ fits), between_true _ _ _ (both_right _ _ fits))

-- single numbers stay in their ranges with another epoch and other counts that are
pub recounted : {n scheduled epoch last count : ℕ} (e l m : ℕ) → InRanges n scheduled epoch last count → 1 ≤ e → e ≤ scheduled
    → l ≤ 255 → m ≤ 1024 → InRanges n scheduled e l m
recounted e l m c first current blocks messages =
    record {
      some = c.some;
      offices = c.offices;
      schedule = c.schedule;
      first = first;
      current = current;
      blocks = blocks;
      messages = messages;
    }

module _ {r : Book} where
  -- the numbers of a fit book are in their ranges
  pub ranges : Sizes r → fit r ≡ true → Ranges r
  unfolding fit block_fits state_fits
  ranges sizes h =
      let all = holds _ h in
      record {
        counts = fit_counts r h;
        fixed = λ i l. ltb-true _ _ (all_at _ _ i all.1.0 l);
        blocks = λ k l.
            let fits = all_at _ _ k all.1.1.0 l in
            (ltb-true _ _ (both_left _ _ fits), leb-true _ _ (both_right _ _ fits));
        messages = fit_messages r h;
        finals = λ q l t. leb-true _ _ (implied _ _ (all_at _ _ q all.1.1.1.1.0 l) t);
        sizes = sizes;
      }

  -- a book whose numbers are in their ranges is fit
  pub ranges_fit : Ranges r → fit r ≡ true
  unfolding fit counts_fit block_fits message_fits state_fits
  ranges_fit z =
      let c = z.counts in
      let leaders = all_make _ _ (λ i l. lt-ltb _ _ (z.fixed i l)) in
      let blocks = all_make _ _ (λ k l. both_make _ _ (lt-ltb _ _ (z.blocks k l).0) (le-leb _ _ (z.blocks k l).1)) in
      let messages = all_make _ _ (λ m l. both_make _ _ (lt-ltb _ _ (z.messages m l).0) (between_make _ _ _ (z.messages m l).1)) in
      let offices = all_make _ _ (λ q l. implies _ _ (λ t. le-leb _ _ (z.finals q l t))) in
      hold _ (
        hold _ (
          between_make _ _ _ (c.some, c.offices),
          (
            between_make _ _ _ (omega arith, c.schedule),
            (between_make _ _ _ (c.first, c.current), (le-leb _ _ c.blocks, (le-leb _ _ c.messages, tt))),
          ),
        ),
        (leaders, (blocks, (messages, (offices, tt)))),
      )

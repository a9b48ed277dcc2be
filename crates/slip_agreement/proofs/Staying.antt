-- A slip that is accepted stays so: blocks and messages are only added, so its bits mean what they meant, and what they say is still true.
use Prim.Native.Nat.{ℕ, ◌+◌, ◌*◌, ◌-◌, ◌≤◌}
use mathlib.Core.Path.{◌≡◌, sym, ap, ap₂, ◌∙◌, subst, subst⁻¹}
use mathlib.Core.Bool.{true, false, not}
use mathlib.Core.List.{List}
use native.Mathlib.Omega.{arith}
use borrow.Author.Tests.{le-ltb}
use lib.Dec.{leb}
use lib.ListN.{length, get_or}
use Rattle.words.specs.Tests.{choose, both, every, member}
use Rattle.words.specs.Sums.{tally}
use Rattle.words.proofs.Tests.{both_left, both_right, both_make, implied, implies, all_at, all_make, every_same}
use Rattle.words.proofs.Sums.{tally_ext}
use Rattle.words.proofs.Turns.{skip, none}
use Rattle.quorum.specs.Enough.{enough}
use Rattle.register.specs.declared.book.Book.{Book}
use Rattle.register.specs.Books.{block, book_of}
use Rattle.register.specs.Tables.{parent_of, epoch_of}
use Rattle.register.specs.Views.{ever_signed}
use Rattle.register.specs.Chains.{chain}
use Rattle.register.specs.Refusals.{consecutive, finalises_by}
use Rattle.register.specs.Fitness.{fit}
use Rattle.register.specs.Promises.{RunsAreFit}
use Rattle.register.specs.Runs.{moment}
use Rattle.register.proofs.Chains.{parent_le, on_chain_le, notarised_more}
use Rattle.register.proofs.Growth.{Grows, parent_kept, epoch_kept, chain_same, length_kept, ever_kept, notarised_by_kept}
use Rattle.register.proofs.Makers.{runs_are_fit}
use Rattle.agreement.proofs.Consequences.{onward}
use Rattle.packed_log.specs.Bits.{bits}
use Rattle.packed_log.specs.Items.{padded}
use Rattle.slip.specs.Slips.{block_in, marked, formed}
use Rattle.slip.specs.Checking.{truly, marked_enough, check_refusal, checked}
use Rattle.slip_agreement.specs.Claims.{Accepts, SlipsStay}
use Rattle.slip_agreement.proofs.Agreeing.{Passed, passed, answer_is}

module _ {r s : Book} (g : Grows r s) (slip : List ℕ) where
  -- a mark on a block that was there stays where it was
  marked_kept : (x : ℕ) → x ≤ r.last.0 → (q : ℕ) → marked s slip x q ≡ marked r slip x q
  unfolding marked
  marked_kept x l q = ap₂ (λ (n k : ℕ). get_or (bits slip) (8 + n * (k - 1) + q) false) g.n (length_kept g x l)

  -- a block's marks stay true
  truly_kept : (x : ℕ) → x ≤ r.last.0 → truly r slip x ≡ true → truly s slip x ≡ true
  unfolding truly
  truly_kept x l t =
      all_make _ s.n
      (λ q below.
      implies (marked s slip x q) (ever_signed s q x)
      (λ mark. ever_kept g q x (implied _ _ (all_at _ r.n q t (omega (arith, g.n))) (sym (marked_kept x l q) ∙ mark))))

  -- enough marks stay enough
  enough_kept : (x : ℕ) → x ≤ r.last.0 → marked_enough r slip x ≡ true → marked_enough s slip x ≡ true
  unfolding marked_enough
  enough_kept x l t =
      subst⁻¹ (λ (n : ℕ). enough (tally n (marked s slip x)) n ≡ true) g.n
      (ap (λ (k : ℕ). enough k r.n) (tally_ext r.n _ _ (λ q below. marked_kept x l q)) ∙ t)

  module _ (b : ℕ) (made : b ≤ r.last.0) where
    -- the blocks of a chain that was there were there
    low : (x : ℕ) → member x (chain r b) ≡ true → x ≤ r.last.0
    low x on = omega (arith, on_chain_le r x b on)

    -- the form stays right
    form_kept : formed s slip b ≡ formed r slip b
    unfolding formed
    form_kept =
        ap (λ (due : ℕ). both (leb due (8 * length slip)) (padded slip due))
        (ap₂ (λ (n k : ℕ). 8 + n * k) g.n (length_kept g b made))

    -- all marks on the chain stay true
    truth_kept : every (truly r slip) (chain r b) ≡ true → every (truly s slip) (chain s b) ≡ true
    truth_kept t =
        subst⁻¹ (λ (c : List ℕ). every (truly s slip) c ≡ true) (chain_same g b made)
        (every_same (truly r slip) (truly s slip) (chain r b) (λ x on. truly_kept x (low x on)) t)

    -- three consecutive blocks stay so
    three_same : consecutive (epoch_of s) b (parent_of s b) (parent_of s (parent_of s b)) ≡ consecutive (epoch_of r) b (parent_of r b) (parent_of r (parent_of r b))
    unfolding consecutive
    three_same =
        let c : ℕ = parent_of r b in
        let lc : c ≤ r.last.0 = omega (arith, parent_le r b) in
        let ld : parent_of r c ≤ r.last.0 = omega (arith, parent_le r c) in
        rw (parent_kept g b made, parent_kept g c lc, epoch_kept g b made, epoch_kept g c lc, epoch_kept g (parent_of r c) ld)

    -- and the rule still holds
    rule_kept : finalises_by r (marked_enough r slip) b ≡ true → finalises_by s (marked_enough s slip) b ≡ true
    rule_kept t =
        both_make _ _ (three_same ∙ both_left _ _ t)
        (notarised_more s b (λ x on. enough_kept x (low x (subst (λ (c : List ℕ). member x c ≡ true) (chain_same g b made) on)))
        (notarised_by_kept g (marked_enough r slip) b made (both_right _ _ t)))

  -- so an accepted slip is accepted, with the same answer
  still : Passed r slip → fit s ≡ true → checked s slip ≡ record { refusal = 0; block = block (parent_of r (block_in slip)) }
  unfolding checked choose
  still p fits =
      let b : ℕ = block_in slip in
      let clear : 0 ≡ check_refusal s slip =
      skip _ 0 5 _ (ap not fits)
      (skip _ 0 7 _ (le-ltb s.last.0 b (omega (arith, p.made, g.last)))
      (skip _ 0 33 _ (ap not (form_kept b p.made ∙ p.form))
      (skip _ 0 34 _ (ap not (truth_kept b p.made p.truth))
      (skip _ 0 21 _ (ap not (rule_kept b p.made p.final)) none)))) in
      rw (← clear, parent_kept g b p.made)

pub slips_stay : SlipsStay
unfolding SlipsStay Accepts RunsAreFit
slips_stay run i j slip answer before a =
    let r : Book = book_of (moment run i) in
    let is = answer_is r slip answer a in
    still (onward run i j before).grows slip (passed r slip is.0) (runs_are_fit run j) ∙ ap (λ (c : ℕ). record { refusal = 0; block = block c }) is.1

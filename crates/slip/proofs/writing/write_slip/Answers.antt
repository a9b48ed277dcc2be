-- `slip::writing::write_slip`: refuses by the rule, then with 31, or lays the slip over the buffer's first bytes.
use borrow.Author.Rules.{rules}
use Prim.Native.Nat.{◌-◌, ◌<◌}
use mathlib.Core.Path.{◌≡◌, refl, sym, ◌∙◌}
use native.Mathlib.Omega.{arith}
use lib.ListN.{length-take}
use Rattle.words.specs.Refusals.{first}
use Rattle.refusals.proofs.Numbers.{number_some}
use Rattle.register.specs.Books.{book_of}
use Rattle.register.specs.Chains.{chain}
use Rattle.register.proofs.Ranges.{Ranges, ranges}
use Rattle.slip.specs.Slips.{bits_due}
use Rattle.slip.specs.Writing.{rule_tests}
use Rattle.slip.proofs.WritingLaws.{not_refused, Allowed, allowed, slip_over, slip_refused, slip_short, slip_laid}
use Rattle.slip.proofs.writing.write_slip.Goals as goal
use Rattle.slip.proofs.writing.write_slip.Goals.{After-bits_due-due, After-know_sizes, In_default, Start}

-- there the rule refuses nothing
none : (c : In_default) → 0 ≡ first (rule_tests (book_of c.args.register) c.args.office.0 c.args.b.0)
none c = sym (not_refused _ c.in_default.not-Err) ∙ c.check_rule.ensures

-- what the rule's tests say there
rule : (c : In_default) → Allowed (book_of c.args.register) c.args.office.0 c.args.b.0
rule c = allowed _ _ _ (sym (none c))

-- the book's numbers are in their ranges
inside : (c : After-know_sizes) → Ranges (book_of c.args.register)
inside c = ranges c.know_sizes.ensures (allowed _ _ _ (sym c.check_rule.ensures ∙ not_refused _ c.in_default.not-Err)).fits

-- a block's number is below 256
small : (s : Start) → s.args.b.0 < 256
small s = search rules

-- so many bits are due as have been counted
due : (c : After-bits_due-due) → c.bits_due-due.result ≡ bits_due (book_of c.args.register) c.args.b.0
unfolding chain book_of
due c = rw c.chain_length.ensures at c.bits_due-due.ensures.0

pub returns-in-Err : goal.returns-in-Err
returns-in-Err c =
    rw c.refused.ensures
    (slip_refused _ _ _ _ _ c.in-Err.ensures (number_some c.in-Err.refusal))

pub bits_due-due-requires : goal.bits_due-due-requires
unfolding book_of
bits_due-due-requires c = (inside (goal.at.bits_due-due-requires c).After-know_sizes).counts.offices

pub returns-then-buf-length : goal.returns-then-buf-length
returns-then-buf-length c =
    rw c.refused-then-buf-length.ensures
    (slip_short _ _ _ _ _ (none (goal.at.returns-then-buf-length c).In_default) refl
    (omega (arith, c.if-buf-length.true, c.bytes_due-length.ensures, due (goal.at.returns-then-buf-length c).After-bits_due-due)))

pub lay_slip-requires : goal.lay_slip-requires
unfolding chain book_of
lay_slip-requires c =
    let size = c.bytes_due-length.ensures in (
      (inside (goal.at.lay_slip-requires c).After-know_sizes).counts.offices,
      due (goal.at.lay_slip-requires c).After-bits_due-due,
      simp length-take (omega (arith, c.if-buf-length.false, size)),
      simp length-take (omega (arith, size, c.bits_due-due.ensures.1)),
    )

pub returns : goal.returns
unfolding chain book_of
returns c =
    let size = c.bytes_due-length.ensures in
    (slip_laid _ _ _ _ _ (none (goal.at.returns c).In_default) _ _ refl (omega (arith, size, due (goal.at.returns c).After-bits_due-due)) c.if-buf-length.false
    (omega (arith, size, c.bits_due-due.ensures.1))
    (slip_over _ (inside (goal.at.returns c).After-know_sizes) _ (rule (goal.at.returns c).In_default).trusts _ (c.bytes_due-length.result - 0) _ _ _ _ (small (goal.at.returns c).Start)
    (λ i. ((goal.at.returns c).In_default.type_inv.buf i).fits) c.rows_of-rows.ensures (due (goal.at.returns c).After-bits_due-due) (omega (arith, size))
    (omega (arith, c.if-buf-length.false)) c.lay_slip.ensures))

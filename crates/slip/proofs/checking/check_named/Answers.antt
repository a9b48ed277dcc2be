-- `slip::checking::check_named` makes the tests in their order.
use Prim.Native.Nat.{◌*◌, ◌≤◌}
use mathlib.Core.Path.{◌≡◌, sym, ◌∙◌}
use mathlib.Core.Bool.{true}
use lib.ListN.{length}
use Rattle.words.proofs.Turns.{turns}
use Rattle.register.specs.Books.{book_of}
use Rattle.register.specs.Fitness.{fit}
use Rattle.register.proofs.Ranges.{fit_counts}
use Rattle.slip.specs.Slips.{bits_due, formed}
use Rattle.slip.proofs.CheckLaws.{bits_due_by, formed_by, formed_room}
use Rattle.slip.proofs.checking.check_named.Goals as goal
use Rattle.slip.proofs.checking.check_named.Goals.{After-is_formed, Else-not-is_fit}

-- past 5 the book is fit
fits : (c : Else-not-is_fit) → fit (book_of c.args.register.now) ≡ true
fits c = sym c.is_fit.ensures ∙ c.if-not-is_fit.false

-- where the form is tested: so many bits are due
due : (c : After-is_formed) → c.bits_due-due.result ≡ bits_due (book_of c.args.register.now) c.args.b.0
unfolding book_of
due c = bits_due_by (book_of c.args.register.now) c.args.slip.now c.args.b.0 _ _ _ c.chain_length.ensures c.bits_due-due.ensures.0 c.is_formed.ensures

-- the slip's form
form : (c : After-is_formed) → c.is_formed.result ≡ formed (book_of c.args.register.now) c.args.slip.now c.args.b.0
unfolding book_of
form c = formed_by (book_of c.args.register.now) c.args.slip.now c.args.b.0 _ _ _ c.chain_length.ensures c.bits_due-due.ensures.0 c.is_formed.ensures

-- where it is formed, the bits are there, and the slip is short
room : (c : After-is_formed) → c.is_formed.result ≡ true
    → (c.bits_due-due.result ≤ 8 * length c.args.slip.now) × (length c.args.slip.now ≤ 65536)
unfolding book_of
room c holds =
    formed_room (book_of c.args.register.now) c.args.slip.now c.args.b.0 _ _ _ c.chain_length.ensures c.bits_due-due.ensures.0 c.is_formed.ensures holds
    c.bits_due-due.ensures.1

pub bits_due-due-requires : goal.bits_due-due-requires
unfolding book_of
bits_due-due-requires c = (fit_counts _ (fits (goal.at.bits_due-due-requires c).Else-not-is_fit)).offices

pub judge-requires : goal.judge-requires
unfolding book_of
judge-requires c =
    let tested = (goal.at.judge-requires c).After-is_formed in
    let there = room tested c.if-not-is_formed.false in
    (fits (goal.at.judge-requires c).Else-not-is_fit, c.know_sizes.ensures, due tested, there.0, there.1)

pub returns-then-not-is_fit : goal.returns-then-not-is_fit
unfolding book_of
returns-then-not-is_fit c = search turns depth 7

pub returns-then-register-b : goal.returns-then-register-b
unfolding book_of
returns-then-register-b c = search turns depth 7

pub returns-then-not-is_formed : goal.returns-then-not-is_formed
unfolding book_of
returns-then-not-is_formed c = let form_found = form (goal.at.returns-then-not-is_formed c).After-is_formed in search turns depth 7

pub returns : goal.returns
unfolding book_of
returns c = let form_found = form (goal.at.returns c).After-is_formed in search turns depth 7

-- Which slips are accepted, and their answer.
use Rattle.std.specs.Prelude.{ℕ, Bool, not, List, [], ◌∷◌, eqb}
use Rattle.words.specs.Tests.{choose, either, all, every}
use Rattle.words.specs.Sums.{tally}
use Rattle.words.specs.Refusals.{Refusal, ◌⇒◌, first}
use Rattle.quorum.specs.Enough.{enough}
use Rattle.register.specs.declared.book.Book.{Book}
use Rattle.register.specs.Books.{block}
use Rattle.register.specs.Tables.{parent_of}
use Rattle.register.specs.Views.{ever_signed}
use Rattle.register.specs.Chains.{chain}
use Rattle.register.specs.Refusals.{no_block, finalises_by}
use Rattle.register.specs.Fitness.{fit}
use Rattle.slip.specs.declared.checking.Checked.{Checked}
use Rattle.slip.specs.Slips.{block_in, marked, formed}

-- every signature on block x that is marked is in the history
unfoldable pub truly : Book → (slip : List ℕ) → (x : ℕ) → Bool
truly r slip x = all r.n (λ q. either (not (marked r slip x q)) (ever_signed r q x))

-- block x has enough marked signers to be notarised
unfoldable pub marked_enough : Book → (slip : List ℕ) → (x : ℕ) → Bool
marked_enough r slip x = enough (tally r.n (marked r slip x)) r.n

-- the refusals of a slip that names block b, in their order: 5 unfit register, 7 no block, 33 slip form, 34 unsigned mark; and 21 where the finalise rule
-- does not hold, by the marks. A slip of no bytes names genesis and is not formed.
abbrev pub check_tests : Book → (slip : List ℕ) → (b : ℕ) → List Refusal
check_tests r slip b =
    (not (fit r) ⇒ 5)
    ∷ (no_block r b ⇒ 7)
    ∷ (not (formed r slip b) ⇒ 33)
    ∷ (not (every (truly r slip) (chain r b)) ⇒ 34)
    ∷ (not (finalises_by r (marked_enough r slip) b) ⇒ 21)
    ∷ []

abbrev pub check_refusal : Book → (slip : List ℕ) → ℕ
check_refusal r slip = first (check_tests r slip (block_in slip))

-- what checking a slip gives: 0 and the parent of the block that it names, or the refusal and genesis
unfoldable pub checked : Book → (slip : List ℕ) → Checked
checked r slip =
    record {
      refusal = check_refusal r slip;
      block = block (choose (eqb (check_refusal r slip) 0) (parent_of r (block_in slip)) 0);
    }

-- For `search judging`: tests that compare what calls have counted or read, in lists of tests that code makes by early returns.
use Prim.Native.Nat.{ℕ, ◌≤◌, ◌<◌}
use mathlib.Core.{Path.◌≡◌, Bool.true, Bool.false}
use borrow.Author.Tests.{lt-ltb, le-ltb}
use lib.Dec.{ltb}
use Rattle.words.proofs.Turns.{turns}

-- a count is below a number, or is not
pub counted_less : (x a b : ℕ) → x ≡ a → x < b → ltb a b ≡ true
counted_less x a b e h = rw (← e) (lt-ltb x b h)

pub counted_most : (x a b : ℕ) → x ≡ a → b ≤ x → ltb a b ≡ false
counted_most x a b e h = rw (← e) (le-ltb x b h)

-- a count is below another, or is not
pub counts_less : (x y a b : ℕ) → x ≡ a → y ≡ b → x < y → ltb a b ≡ true
counts_less x y a b e f h = rw (← e, ← f) (lt-ltb x y h)

pub counts_most : (x y a b : ℕ) → x ≡ a → y ≡ b → y ≤ x → ltb a b ≡ false
counts_most x y a b e f h = rw (← e, ← f) (le-ltb x y h)

pub ruleset judging = (turns, counted_less, counted_most, counts_less, counts_most)

-- The text of a report: its numbers and its lines, as ASCII bytes, and what it is to write text into a buffer.
use Rattle.std.specs.Prelude.{ℕ, zero, suc, ◌+◌, ◌/◌, ◌%◌, ◌≡◌, List, [], ◌∷◌, ◌++◌, ltb, length}
use Rattle.std.proofs.lemmas.List.Edits.{sets}
use Rattle.words.specs.Tests.{choose}

-- the digits of a number, where there are at most so many: below 10 the one digit, else the digits of its tenth and then its last one
unfoldable pub digits_by : (most n : ℕ) → List ℕ
digits_by zero n = []
digits_by (suc most) n = choose (ltb n 10) ((48 + n) ∷ []) (digits_by most (n / 10) ++ ((48 + n % 10) ∷ []))

-- a number of 64 bits in decimal, which takes at most 20 digits
unfoldable pub decimal : (n : ℕ) → List ℕ
decimal n = digits_by 20 n

-- a number and the byte behind it
unfoldable pub number_then : (n byte : ℕ) → List ℕ
number_then n byte = decimal n ++ (byte ∷ [])

-- numbers on a line, one or more: a space behind each but the last, and behind that the line's end
unfoldable pub numbers : (first : ℕ) → (more : List ℕ) → List ℕ
numbers first [] = number_then first 10
numbers first (second ∷ more) = number_then first 32 ++ numbers second more

-- the line of a step: its place, counted from 1, then 0 or its refusal, then its value
abbrev pub step_line : (place refusal value : ℕ) → List ℕ
step_line place refusal value = numbers place (refusal ∷ value ∷ [])

-- the line of a trusted office: the word `office`, the office, its final block, the length of its chain, how many signed it
unfoldable pub office_line : (office final size signers : ℕ) → List ℕ
office_line office final size signers = (111 ∷ 102 ∷ 102 ∷ 105 ∷ 99 ∷ 101 ∷ 32 ∷ []) ++ numbers office (final ∷ size ∷ signers ∷ [])

-- the most bytes that such lines take, where the numbers are those of a report
abbrev pub step_bytes : ℕ
step_bytes = 17

abbrev pub office_bytes : ℕ
office_bytes = 22

-- the line of a refused log: the word `log` and the number of the refusal
unfoldable pub log_line : (number : ℕ) → List ℕ
log_line number = (108 ∷ 111 ∷ 103 ∷ 32 ∷ []) ++ numbers number []

-- the line of a log of no bytes: the word `empty`
unfoldable pub empty_line : List ℕ
empty_line = 101 ∷ 109 ∷ 112 ∷ 116 ∷ 121 ∷ 10 ∷ []

-- the text is written into a buffer from position `at` on: what fits is laid, and all of it is counted
pub record TextWritten (before : List ℕ) (at : ℕ) (text : List ℕ) (next : ℕ) (after : List ℕ) : Type 0 where
  pub counted : next ≡ at + length text
  pub laid : after ≡ sets before at text

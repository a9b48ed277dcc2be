-- A step as a row of the log: the number of its kind and the numbers of its fields, and back.
use Rattle.std.specs.Prelude.{ℕ, ◌^◌, ◌<◌, List, [], ◌∷◌, eqb, get_or}
use Rattle.words.specs.Tests.{choose}
use Rattle.register.specs.Types.{Message, Kind, Proposal, Vote as AVote}
use Rattle.register.specs.declared.step.Step.{Step}
use Rattle.register.specs.declared.step.Step.TheVariants as steps
use Rattle.register.specs.Books.{office, epoch, block}
use Rattle.packed_log.specs.declared.row.Row.{Row as Coded}
use Rattle.packed_log.specs.Widths.{width}

-- a number as a message; the register has the like for the other sorts
abbrev pub message : ℕ → Message
message m = record { 0 = m }

-- the kind of a message as a number, 0 proposal and 1 vote, and back
abbrev pub kind_number : Kind → ℕ
kind_number Proposal = 0
kind_number AVote = 1

unfoldable pub kind_numbered : ℕ → Kind
kind_numbered k = choose (eqb k 0) Proposal AVote

-- a row: the number of a kind, and those of its fields
pub record Row : Type 0 where
  pub kind : ℕ
  pub first : ℕ
  pub second : ℕ
  pub third : ℕ
  pub fourth : ℕ

abbrev pub row : (kind first second third fourth : ℕ) → Row
row kind first second third fourth = record { kind = kind; first = first; second = second; third = third; fourth = fourth }

-- the row that the code has as a kind and a list of fields
abbrev pub row_by : Coded → Row
row_by r = row r.kind (get_or r.fields 0 0) (get_or r.fields 1 0) (get_or r.fields 2 0) (get_or r.fields 3 0)

-- the row of a step, with 0 in the columns that its kind has no field for
unfoldable pub row_of : Step → Row
row_of (steps.Propose o p w) = row 1 o.0 p.0 w 0
row_of (steps.Vote o m) = row 2 o.0 m.0 0 0
row_of (steps.Register o m) = row 3 o.0 m.0 0 0
row_of (steps.Finalise o b) = row 4 o.0 b.0 0 0
row_of (steps.Deliver m o) = row 5 m.0 o.0 0 0
row_of (steps.BadSend o k s b) = row 6 o.0 (kind_number k) s.0 b.0
row_of (steps.Draft p e w) = row 7 p.0 e.0 w 0
row_of steps.Advance = row 8 0 0 0 0

infix 20 ◌⟼◌
-- the number of a kind and a step of that kind
pub record Numbered : Type 0 where
  pub number : ℕ
  pub step : Step

abbrev pub ◌⟼◌ : ℕ → Step → Numbered
k ⟼ s = record { number = k; step = s }

-- the step with that number in a list, which has it
unfoldable pub pick : (kind : ℕ) → List Numbered → Step
pick kind [] = steps.Advance
pick kind (x ∷ xs) = choose (eqb kind x.number) x.step (pick kind xs)

-- the steps that the numbers of a row make, by kind
unfoldable pub steps_of : Row → List Numbered
steps_of r =
    (1 ⟼ steps.Propose (office r.first) (block r.second) r.third)
    ∷ (2 ⟼ steps.Vote (office r.first) (message r.second))
    ∷ (3 ⟼ steps.Register (office r.first) (message r.second))
    ∷ (4 ⟼ steps.Finalise (office r.first) (block r.second))
    ∷ (5 ⟼ steps.Deliver (message r.first) (office r.second))
    ∷ (6 ⟼ steps.BadSend (office r.first) (kind_numbered r.second) (office r.third) (block r.fourth))
    ∷ (7 ⟼ steps.Draft (block r.first) (epoch r.second) r.third)
    ∷ (8 ⟼ steps.Advance)
    ∷ []

-- the step of a row
unfoldable pub step_of : Row → Step
step_of r = pick r.kind (steps_of r)

-- each number of the row has room in its column
pub record Narrow (r : Row) : Type 0 where
  pub first : r.first < 2 ^ width r.kind 0
  pub second : r.second < 2 ^ width r.kind 1
  pub third : r.third < 2 ^ width r.kind 2
  pub fourth : r.fourth < 2 ^ width r.kind 3

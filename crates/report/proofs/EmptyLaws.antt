-- The report of a log of no bytes is told from every other by its first byte, the letter e.
use Prim.Native.Nat.{◌+◌, ℕ, zero, suc, ◌/◌, ◌<◌}
use mathlib.Core.Path.{◌≡◌, refl}
use mathlib.Core.Bool.{Bool, true, false}
use mathlib.Core.List.{List, [], ◌∷◌, ◌++◌}
use native.Mathlib.Omega.{arith}
use borrow.Author.Tests.{ltb-true, ne_eqb}
use lib.Dec.{ltb}
use lib.ListN.{length, get_or}
use Rattle.words.specs.Tests.{choose}
use Rattle.register.specs.declared.table.Register.{Register}
use Rattle.register.specs.declared.table.Stepped.{Stepped}
use Rattle.report.specs.Text.{digits_by, decimal, number_then, numbers, office_line, log_line}
use Rattle.report.specs.Reports.{step_lines, office_text, office_lines, run_lines, fault_line, report_of}

-- the text does not begin with the letter e
pub record Other (text : List ℕ) : Type 0 where
  pub unlike : get_or text 0 0 ≡ 101 → ⊥

-- two texts, one behind the other, do not begin so if neither does
other_then : {xs ys : List ℕ} → Other xs → Other ys → Other (xs ++ ys)
other_then {xs} {ys} x y = by xs x
  where
    by : (xs : List ℕ) → Other xs → Other (xs ++ ys)
    by [] x = y
    by (byte ∷ xs) x = record { unlike = x.unlike }

-- one of two texts does not begin so if neither does, the first of them where it is the one that is taken
other_choice : (test : Bool) {xs ys : List ℕ} → (test ≡ true → Other xs) → Other ys → Other (choose test xs ys)
unfolding choose
other_choice true x y = x refl
other_choice false x y = y

-- the digits of a number do not begin so
other_digits : (most n : ℕ) → Other (digits_by most n)
unfolding digits_by
other_digits zero n = record { unlike = λ e. omega arith }
other_digits (suc most) n =
    other_choice (ltb n 10) (λ h. record { unlike = λ e. omega (arith, ltb-true n 10 h) })
    (other_then (other_digits most (n / 10)) (record { unlike = λ e. omega arith }))

-- nor do a number and the space or the line's end behind it
other_number : (n byte : ℕ) → byte < 33 → Other (number_then n byte)
unfolding number_then decimal
other_number n byte h = other_then (other_digits 20 n) (record { unlike = λ e. omega arith })

-- nor do the numbers of a line
other_numbers : (first : ℕ) (more : List ℕ) → Other (numbers first more)
unfolding numbers
other_numbers first [] = other_number first 10 (omega arith)
other_numbers first (second ∷ more) = other_then (other_number first 32 (omega arith)) (other_numbers second more)

-- nor do the lines of steps
other_steps : (place : ℕ) (answers : List Stepped) → Other (step_lines place answers)
unfolding step_lines
other_steps place [] = record { unlike = λ e. omega arith }
other_steps place (s ∷ ss) = other_then (other_numbers _ _) (other_steps (place + 1) ss)

-- nor does the line of an office: it begins with the letter o, or there is none
other_office : (r : Register) (q : ℕ) → Other (office_text r q)
unfolding office_text office_line
other_office r q = other_choice _ (λ h. record { unlike = λ e. omega arith }) (record { unlike = λ e. omega arith })

-- nor do the lines of offices
other_offices : (r : Register) (q : ℕ) → Other (office_lines r q)
unfolding office_lines
other_offices r zero = record { unlike = λ e. omega arith }
other_offices r (suc q) = other_then (other_offices r q) (other_office r q)

-- nor does the one line of a log that has bytes and is refused: it begins with the letter l
other_fault : (log : List ℕ) (fault : ℕ) → (length log ≡ 0 → ⊥) → Other (fault_line log fault)
unfolding fault_line log_line choose
other_fault log fault some = rw (ne_eqb (length log) 0 some) (record { unlike = λ e. omega arith })

-- so the report of a log that has bytes does not begin with the letter e
pub other_report : (log : List ℕ) → (length log ≡ 0 → ⊥) → Other (report_of log)
unfolding report_of run_lines
other_report log some = other_choice _ (λ h. other_then (other_steps _ _) (other_offices _ _)) (other_fault log _ some)

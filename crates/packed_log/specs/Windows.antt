-- Three bytes as one number, which every field of up to 16 bits fits into.
use Rattle.std.specs.Prelude.{ℕ, ◌+◌, ◌*◌, ◌/◌, ◌%◌, ◌^◌, List, get_or}

-- the three bytes from byte i on, as one number; past the end of the log a byte counts as 0
abbrev pub window : (log : List ℕ) → (i : ℕ) → ℕ
window log i = get_or log i 0 * 65536 + get_or log (i + 1) 0 * 256 + get_or log (i + 2) 0

-- the number v with the w bits above its lowest g bits replaced by those of x
unfoldable pub over : (v g w x : ℕ) → ℕ
over v g w x = v / 2 ^ (g + w) * 2 ^ (g + w) + x * 2 ^ g + v % 2 ^ g

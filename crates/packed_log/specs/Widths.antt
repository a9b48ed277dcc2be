-- The widths of the fields, by kind.
use Rattle.std.specs.Prelude.{ℕ, ◌+◌, List, [], ◌∷◌, get_or}

-- the widths of the six sorts of field
abbrev office : ℕ
office = 5

abbrev block : ℕ
block = 8

abbrev payload : ℕ
payload = 16

abbrev message : ℕ
message = 10

abbrev message_kind : ℕ
message_kind = 1

abbrev epoch : ℕ
epoch = 9

-- so many kinds there are, the end being the first: 0 to 8
abbrev pub kinds : ℕ
kinds = 9

-- the fields of each kind, in the order of the kinds
unfoldable pub fields : List (List ℕ)
fields =
    -- end
    []
    -- propose
    ∷ (office ∷ block ∷ payload ∷ [])
    -- vote
    ∷ (office ∷ message ∷ [])
    -- register
    ∷ (office ∷ message ∷ [])
    -- finalise
    ∷ (office ∷ block ∷ [])
    -- deliver
    ∷ (message ∷ office ∷ [])
    -- bad send
    ∷ (office ∷ message_kind ∷ office ∷ block ∷ [])
    -- draft
    ∷ (block ∷ epoch ∷ payload ∷ [])
    -- advance
    ∷ []
    ∷ []

-- the width of a kind's field in a column, from 0 on; 0 where there is no field
unfoldable pub width : (kind column : ℕ) → ℕ
width kind column = get_or (get_or fields kind []) column 0

-- how many bits the fields of a kind take
abbrev pub due : (kind : ℕ) → ℕ
due kind = width kind 0 + width kind 1 + width kind 2 + width kind 3

-- A register and its book are the same numbers and flags.
use mathlib.Core.Path.{◌≡◌, refl, ◌∙◌}
use mathlib.Core.Bool.{Bool, true, false}
use mathlib.Core.List.{List, map, map-map, map-id}
use Rattle.register.specs.Types.{Kind, Step, Register, Book}
use Rattle.register.specs.Books.{is_vote, kind_of, book_of, register_of}
use Rattle.register.specs.Steps.{book_rule, step_rule}

-- a flag and the kind of that flag are the same
pub vote_kind : (vote : Bool) → is_vote (kind_of vote) ≡ vote
unfolding is_vote kind_of
vote_kind true = refl
vote_kind false = refl

pub kind_vote : (kind : Kind) → kind_of (is_vote kind) ≡ kind
unfolding is_vote kind_of
kind_vote Kind.Proposal = refl
kind_vote Kind.Vote = refl

-- and so are a column of flags and one of kinds
votes_kinds : (votes : List Bool) → map (λ vote. is_vote (kind_of vote)) votes ≡ votes
votes_kinds votes = (λ i. map (λ vote. vote_kind vote i) votes) ∙ map-id votes

kinds_votes : (kinds : List Kind) → map (λ kind. kind_of (is_vote kind)) kinds ≡ kinds
kinds_votes kinds = (λ i. map (λ kind. kind_vote kind i) kinds) ∙ map-id kinds

-- the book of a book's register is that book
pub book_register : (b : Book) → book_of (register_of b) ≡ b
unfolding book_of register_of
book_register b = simp (map-map, map-id, votes_kinds)

-- the register of a register's book is that register
pub register_book : (r : Register) → register_of (book_of r) ≡ r
unfolding book_of register_of
register_book r = simp (map-map, map-id, kinds_votes)

-- the book after a step
pub step_book : (r : Register) (step : Step) → book_of (step_rule r step).register ≡ (book_rule (book_of r) step).book
unfolding step_rule
step_book r step = book_register (book_rule (book_of r) step).book

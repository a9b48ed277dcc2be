-- An entry of a column, as a number, is the number of the entry; and so with the flag of a kind.
use Prim.Native.Nat.{ℕ}
use mathlib.Core.Path.{◌≡◌, refl, sym, ◌∙◌}
use mathlib.Core.Bool.{false}
use mathlib.Core.List.{List, map}
use lib.ListN.{get_or, get_or-map}
use Rattle.words.specs.Tests.{agree}
use Rattle.tables.specs.declared.sorts.Office.{Office}
use Rattle.tables.specs.declared.sorts.Epoch.{Epoch}
use Rattle.tables.specs.declared.sorts.Block.{Block}
use Rattle.tables.specs.declared.sorts.Kind.{Kind}
use Rattle.tables.specs.contracts.sorts.KindPartialEq.TheImpl.{ghosts}
use Rattle.tables.specs.Columns.{office_number, epoch_number, block_number, is_vote}

pub office_entry : (xs : List Office) (i : ℕ) → get_or (map office_number xs) i 0 ≡ (get_or xs i (record { 0 = 0 })).0
office_entry xs i = get_or-map office_number xs i (record { 0 = 0 })

pub epoch_entry : (xs : List Epoch) (i : ℕ) → get_or (map epoch_number xs) i 0 ≡ (get_or xs i (record { 0 = 0 })).0
epoch_entry xs i = get_or-map epoch_number xs i (record { 0 = 0 })

pub block_entry : (xs : List Block) (i : ℕ) → get_or (map block_number xs) i 0 ≡ (get_or xs i (record { 0 = 0 })).0
block_entry xs i = get_or-map block_number xs i (record { 0 = 0 })

pub vote_entry : (xs : List Kind) (i : ℕ) → get_or (map is_vote xs) i false ≡ is_vote (get_or xs i Kind.Proposal)
unfolding is_vote
vote_entry xs i = get_or-map is_vote xs i Kind.Proposal

-- two kinds are the same where both are votes or neither is
pub same_kind : (k l : Kind) → ghosts.eq k l ≡ agree (is_vote k) (is_vote l)
unfolding agree is_vote
same_kind Kind.Proposal Kind.Proposal = refl
same_kind Kind.Proposal Kind.Vote = refl
same_kind Kind.Vote Kind.Proposal = refl
same_kind Kind.Vote Kind.Vote = refl

-- a kind is that of a vote where it has the flag
is_vote_kind : (k : Kind) → ghosts.eq k Kind.Vote ≡ is_vote k
unfolding is_vote
is_vote_kind Kind.Proposal = refl
is_vote_kind Kind.Vote = refl

-- an entry of the column of kinds has the flag where it is that of a vote
pub vote_at : (xs : List Kind) (i : ℕ) → get_or (map is_vote xs) i false ≡ ghosts.eq (get_or xs i Kind.Proposal) Kind.Vote
vote_at xs i = vote_entry xs i ∙ sym (is_vote_kind _)

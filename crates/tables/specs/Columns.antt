-- The columns of the tables as lists of plain numbers and flags, which is how the other definitions read them.
use Rattle.std.specs.Prelude.{ℕ, Bool, true, false, List, map, min}
use Rattle.tables.specs.declared.sorts.Office.{Office}
use Rattle.tables.specs.declared.sorts.Epoch.{Epoch}
use Rattle.tables.specs.declared.sorts.Block.{Block}
use Rattle.tables.specs.declared.sorts.Kind.{Kind}
use Rattle.tables.specs.declared.blocks.Blocks.{Blocks}
use Rattle.tables.specs.declared.messages.Messages.{Messages}
use Rattle.tables.specs.Searches.{messages}

-- an office's number
abbrev pub office_number : Office → ℕ
office_number o = o.0

-- an epoch's number
abbrev pub epoch_number : Epoch → ℕ
epoch_number e = e.0

-- a block's number
abbrev pub block_number : Block → ℕ
block_number b = b.0

-- a message of that kind is a vote
unfoldable pub is_vote : Kind → Bool
is_vote Kind.Vote = true
is_vote Kind.Proposal = false

-- the number of each block's parent
abbrev pub parents_of : Blocks → List ℕ
parents_of t = map block_number t.parents

-- the number of each block's epoch
abbrev pub epochs_of : Blocks → List ℕ
epochs_of t = map epoch_number t.epochs

-- whether each message is a vote
abbrev pub votes_of : Messages → List Bool
votes_of t = map is_vote t.kinds

-- the number of each message's signer
abbrev pub signers_of : Messages → List ℕ
signers_of t = map office_number t.signers

-- the number of the block that each message is about
abbrev pub about_of : Messages → List ℕ
about_of t = map block_number t.about

-- how many messages have been sent; of a count above the most those that have an entry
abbrev pub sent_of : Messages → ℕ
sent_of t = min t.count messages

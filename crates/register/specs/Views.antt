-- Where a message is for an office, what stands in an office's view, who signed a block there, and when it is notarised.
use Rattle.std.specs.Prelude.{ℕ, Bool, eqb, ltb, get_or}
use Rattle.words.specs.Tests.{choose, both, either, any}
use Rattle.words.specs.Sums.{tally}
use Rattle.words.specs.Digits.{digit, set_of}
use Rattle.quorum.specs.Enough.{enough}
use Rattle.tables.specs.Messages.{absent, transit, inbox, view, says_in}
use Rattle.register.specs.Types.{Stage, Notarised, Book}
use Rattle.register.specs.Limits.{most_offices}
use Rattle.register.specs.Tables.{trusted}

-- the stage of message m for office q. An untrusted office keeps nothing, and what was not sent is nowhere.
unfoldable pub stage : Book → ℕ → ℕ → ℕ
stage r q m = choose (both (trusted r q) (ltb m r.count)) (digit 4 (get_or r.places m 0) q) absent

-- a stage by its number
unfoldable pub stage_numbered : ℕ → Stage
stage_numbered k =
    choose (eqb k transit) Stage.Transit (choose (eqb k inbox) Stage.Inbox (choose (eqb k view) Stage.View Stage.Absent))

abbrev pub in_transit : Book → ℕ → ℕ → Bool
in_transit r q m = eqb (stage r q m) transit

abbrev pub in_inbox : Book → ℕ → ℕ → Bool
in_inbox r q m = eqb (stage r q m) inbox

abbrev pub in_view : Book → ℕ → ℕ → Bool
in_view r q m = eqb (stage r q m) view

-- message m has that signer and that block
abbrev pub says : Book → ℕ → ℕ → ℕ → Bool
says r signer b m = says_in r.signers r.about signer b m

-- a signature on block b is in office q's view: a message there has that signer and that block
unfoldable pub signed : Book → (q : ℕ) → (signer : ℕ) → (b : ℕ) → Bool
signed r q signer b = any r.count (λ m. both (in_view r q m) (says r signer b m))

-- a signature on block b is in the history: a message that was sent, of either kind, has that signer and that block
unfoldable pub ever_signed : Book → (signer : ℕ) → (b : ℕ) → Bool
ever_signed r signer b = any r.count (says r signer b)

-- the signer is an office, and its signature on block b is in office q's view
abbrev pub signs : Book → (q b : ℕ) → (signer : ℕ) → Bool
signs r q b signer = both (ltb signer r.n) (signed r q signer b)

-- how many different offices' signatures on block b are in office q's view
abbrev pub signers : Book → ℕ → ℕ → ℕ
signers r q b = tally most_offices (signs r q b)

-- these offices as a word of 32 bits: bit s is that of office s, and from n up no bit is set
unfoldable pub signer_set : Book → ℕ → ℕ → ℕ
signer_set r q b = set_of (signs r q b)

-- block b is notarised in office q's view; genesis always is
unfoldable pub notarised : Book → ℕ → ℕ → Bool
notarised r q b = either (eqb b 0) (enough (signers r q b) r.n)

-- how many signed block b, as the notarised test tells it; of genesis, all n
unfoldable pub signers_on : Book → ℕ → ℕ → ℕ
signers_on r q b = choose (eqb b 0) r.n (signers r q b)

-- the notarised test of block b in office q's view: whether it is notarised there, and how many signed it, whether or not they are enough
abbrev pub notarised_test : Book → ℕ → ℕ → Notarised
notarised_test r q b = record { holds = notarised r q b; signers = signers_on r q b }

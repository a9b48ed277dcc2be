-- The tests behind a step's refusals, by the words of their numbers. Each is made on the book of the register as it was handed in.
use Rattle.std.specs.Prelude.{ℕ, ◌+◌, Bool, false, not, [], ◌∷◌, eqb, ltb, leb, get_or}
use Rattle.words.specs.Tests.{both, either, conj}
use Rattle.tables.specs.Messages.{history_in}
use Rattle.register.specs.Types.{Kind, Header, Book}
use Rattle.register.specs.Limits.{most_blocks, most_messages, widest_epoch}
use Rattle.register.specs.Books.{is_vote}
use Rattle.register.specs.Tables.{trusted, leader_of, final_of, parent_of, epoch_of, named, signer_of, about_of}
use Rattle.register.specs.Views.{in_transit, in_inbox, signed, notarised}
use Rattle.register.specs.Chains.{chain_length, chain_notarised_by, longest}

-- 6: the number is not below n
abbrev pub no_office : Book → ℕ → Bool
no_office r q = leb r.n q

-- 7: the number is above the last block
abbrev pub no_block : Book → ℕ → Bool
no_block r b = ltb r.last.0 b

-- 8: the number has not been sent yet
abbrev pub no_message : Book → ℕ → Bool
no_message r m = leb r.count m

-- 9: an epoch above 511
abbrev pub wide : ℕ → Bool
wide epoch = ltb widest_epoch epoch

-- 10: the actor is untrusted. 11, a trusted sender, is `trusted`; 12 is `acted`.
abbrev pub barred : Book → ℕ → Bool
barred r q = not (trusted r q)

-- 13 where it fails, 14 where it holds: the office is the leader of the current epoch
abbrev pub leads : Book → ℕ → Bool
leads r q = eqb (leader_of r r.epoch.0) q

-- 15: the message is not in the office's inbox
abbrev pub not_in_hand : Book → ℕ → ℕ → Bool
not_in_hand r q m = not (in_inbox r q m)

-- 16 where it holds in a vote, and where it fails in a register: the message is a vote and no proposal
abbrev pub votes : Book → ℕ → Bool
votes r m = get_or r.votes m false

-- 17: the message's signer is not the leader, or its block's epoch is not the current one
abbrev pub off_epoch : Book → ℕ → Bool
off_epoch r m = either (not (leads r (signer_of r m))) (not (eqb (epoch_of r (about_of r m)) r.epoch.0))

-- 18: the signature of the message's signer on the message's block is in the office's view
abbrev pub entered : Book → ℕ → ℕ → Bool
entered r q m = signed r q (signer_of r m) (about_of r m)

-- 19: the parent's chain is not notarised in the office's view, or not longest there
abbrev pub not_longest : Book → ℕ → ℕ → Bool
not_longest r q parent = not (longest r q parent)

-- 20: the block's epoch is not above its parent's
abbrev pub epochs : (epoch : ℕ) → (parentEpoch : ℕ) → Bool
epochs epoch parentEpoch = leb epoch parentEpoch

-- three consecutive blocks: b and c are not genesis, and the epochs of b, c and d are k + 2, k + 1 and k. The oldest, d, may be genesis, of epoch 0.
unfoldable pub consecutive : (epoch : ℕ → ℕ) → (b c d : ℕ) → Bool
consecutive epoch b c d =
    conj (not (eqb b 0) ∷ not (eqb c 0) ∷ eqb (epoch b) (epoch d + 2) ∷ eqb (epoch c) (epoch d + 1) ∷ [])

-- the finalise rule: block b, its parent c and c's parent d are consecutive, and b's chain is notarised by a test of blocks
abbrev pub finalises_by : Book → (ℕ → Bool) → ℕ → Bool
finalises_by r passes b =
    both (consecutive (epoch_of r) b (parent_of r b) (parent_of r (parent_of r b))) (chain_notarised_by r passes b)

-- it holds in the office's view
unfoldable pub finalises : Book → ℕ → ℕ → Bool
finalises r q b = finalises_by r (notarised r q) b

-- 21: the condition for finalising is unmet
abbrev pub not_final : Book → ℕ → ℕ → Bool
not_final r q b = not (finalises r q b)

-- a message of that kind, signer and block has been sent
abbrev pub in_history : Book → Kind → ℕ → ℕ → Bool
in_history r kind signer b = history_in r.votes r.signers r.about r.count (is_vote kind) signer b

-- 22: the signer is trusted, and this kind, signer and block are not in the history
abbrev pub forged : Book → Kind → ℕ → ℕ → Bool
forged r kind signer b = both (trusted r signer) (not (in_history r kind signer b))

-- 23: the message is not in transit to the office
abbrev pub not_sent : Book → ℕ → ℕ → Bool
not_sent r q m = not (in_transit r q m)

-- 24: the current epoch is the schedule's last
abbrev pub spent : Book → Bool
spent r = leb r.scheduled r.epoch.0

-- 25: a new block is needed, and there are 255
abbrev pub blocks_full : Book → Header → Bool
blocks_full r new = both (ltb r.last.0 (named r new)) (leb most_blocks r.last.0)

-- 26: there are 1,024 messages
abbrev pub messages_full : Book → Bool
messages_full r = leb most_messages r.count

-- 32: the new final chain, that of block b's parent, would be shorter than the office's present one
abbrev pub behind : Book → ℕ → ℕ → Bool
behind r q b = ltb (chain_length r (parent_of r b)) (chain_length r (final_of r q))

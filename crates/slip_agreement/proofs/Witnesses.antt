-- Slips in the run with a fork: the premises of the claims hold, and say something. All that is told is computed from the rules.
use Prim.Native.Nat.{ℕ}
use mathlib.Core.Path.{◌≡◌, refl}
use mathlib.Core.List.{List, [], ◌∷◌}
use Rattle.words.specs.Tests.{choose, both, either, between, conj, all, any, lowest, every}
use Rattle.words.specs.Sums.{tally, weigh, unit}
use Rattle.words.specs.Digits.{digit, fill, set_of, with_member, with_stage}
use Rattle.words.specs.Refusals.{first}
use Rattle.quorum.specs.Enough.{enough}
use Rattle.quorum.specs.Opening.{untrusted, too_many, stray, opening_refusal}
use Rattle.tables.specs.Blocks.{trusted_in, made_in, parent_in, epoch_in, matches_in, named_in}
use Rattle.tables.specs.Messages.{says_in}
use Rattle.tables.specs.Chains.{climb, chain_by}
use Rattle.register.specs.declared.book.Book.{Book}
use Rattle.register.specs.Books.{office, block, is_vote, kind_of, book_of, register_of}
use Rattle.register.specs.Views.{stage, signed, ever_signed, signer_set, notarised}
use Rattle.register.specs.Chains.{chain, chain_notarised_by, longest}
use Rattle.register.specs.Fitness.{counts_fit, block_fits, message_fits, state_fits, fit}
use Rattle.register.specs.Refusals.{consecutive, finalises}
use Rattle.register.specs.Opening.{leader_table, blank, fresh_book, fresh, opening}
use Rattle.register.specs.Effects.{with_block, with_named, sent_stage, with_sent, with_moved, with_acted, with_state, with_next_epoch}
use Rattle.register.specs.Steps.{rule_of, refusal, judged, book_rule, step_rule}
use Rattle.register.specs.Runs.{after_steps, opened, moment}
use Rattle.agreement.specs.Claim.{chain_of, Trusted}
use Rattle.agreement.proofs.Runs.{fork, fork_steps, fork_shows}
use Rattle.packed_log.specs.Bits.{to_bits, num, bits, pack, bytes, field, put}
use Rattle.packed_log.specs.Items.{padded}
use Rattle.packed_log.specs.Writing.{office_bits, laid}
use Rattle.slip.specs.Slips.{marked, formed}
use Rattle.slip.specs.Checking.{truly, marked_enough, checked}
use Rattle.slip.specs.Writing.{rows_bits, front_bits, slip_bits, written, buffer_after}
use Rattle.slip_agreement.specs.Claims.{Accepts, OneBegins, SlipsAgree}
use Rattle.slip_agreement.proofs.Agreeing.{slips_agree}

-- a slip about block 5, of four offices: on each of blocks 3, 4 and 5 the marks of offices 1, 2 and 3, and four bits of pad
abbrev deed : List ℕ
deed = 5 ∷ 119 ∷ 112 ∷ []

-- the same without office 3's mark on block 3
abbrev poor : List ℕ
poor = 5 ∷ 103 ∷ 112 ∷ []

-- the same with office 0's mark on block 3, who never signed it
abbrev forged : List ℕ
forged = 5 ∷ 247 ∷ 112 ∷ []

-- the register at a moment of the run
abbrev at : ℕ → Book
at i = book_of (moment fork i)

-- What the run shows. At moment 47 office 2 writes the slip about block 5 into a buffer of four bytes, the last of which stays; office 0, whose view lacks
-- the chain, may not. The slip is accepted at moment 42 already, before any office made block 4 final. Without a mark it gets 21, with a false one 34.
pub record Slipped : Type 0 where
  pub writes : written (at 47) 2 5 (255 ∷ 255 ∷ 255 ∷ 255 ∷ []) ≡ record { refusal = 0; length = 3 }
  pub leaves : buffer_after (at 47) 2 5 (255 ∷ 255 ∷ 255 ∷ 255 ∷ []) ≡ 5 ∷ 119 ∷ 112 ∷ 255 ∷ []
  pub not_seen : written (at 47) 0 5 (255 ∷ []) ≡ record { refusal = 21; length = 0 }
  pub early : Accepts (moment fork 42) deed (block 4)
  pub answer : chain_of (moment fork 42) (block 4) ≡ 4 ∷ 3 ∷ []
  pub too_few : checked (at 42) poor ≡ record { refusal = 21; block = block 0 }
  pub unsigned : checked (at 42) forged ≡ record { refusal = 34; block = block 0 }
  pub finalist : Trusted (moment fork 57) (office 2)

-- it does, as the rules compute
pub fork_slips : Slipped
unfolding Accepts Trusted chain_of moment fork fork_steps after_steps step_rule book_of register_of opened opening fresh opening_refusal untrusted too_many stray choose both either between conj all any lowest every tally weigh unit digit fill set_of with_member with_stage first enough trusted_in made_in parent_in epoch_in matches_in named_in says_in climb chain_by is_vote kind_of stage signed ever_signed signer_set notarised chain chain_notarised_by longest counts_fit block_fits message_fits state_fits fit consecutive finalises leader_table blank fresh_book with_block with_named sent_stage with_sent with_moved with_acted with_state with_next_epoch rule_of refusal judged book_rule to_bits num bits pack bytes field put padded office_bits laid marked formed truly marked_enough checked rows_bits front_bits slip_bits written buffer_after
fork_slips = record { writes = refl; leaves = refl; not_seen = refl; early = refl; answer = refl; too_few = refl; unsigned = refl; finalist = refl }

-- So slips agree with office 2's final chain at the end of the run, fifteen moments later: of the chains of blocks 4 and 5 one begins the other.
pub deed_agrees : OneBegins (4 ∷ 3 ∷ []) (5 ∷ 4 ∷ 3 ∷ [])
unfolding SlipsAgree
deed_agrees =
    rw (fork_slips.answer, fork_shows.later) at (slips_agree fork 42 57 deed (block 4) (office 2) fork_slips.early fork_slips.finalist)

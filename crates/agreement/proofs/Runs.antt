-- Two runs of which the premises of the claims hold: they speak of them, and say something. One starts from genesis, the other has a fork and a bad
-- leader. All that is told of them is computed from the rules.
use Prim.Native.Nat.{ℕ, ◌≤◌}
use mathlib.Core.Path.{◌≡◌, refl}
use mathlib.Core.Bool.{true, false}
use mathlib.Core.List.{List, [], ◌∷◌, ◌++◌, map}
use native.Mathlib.Omega.{arith}
use lib.ListN.{length, replicate}
use Rattle.words.specs.Tests.{choose, both, either, between, conj, all, any, lowest, every, member}
use Rattle.words.specs.Sums.{tally, weigh, unit}
use Rattle.words.specs.Digits.{digit, fill, set_of, with_member, with_stage}
use Rattle.words.specs.Refusals.{first}
use Rattle.quorum.specs.Enough.{enough}
use Rattle.quorum.specs.Opening.{untrusted, too_many, stray, opening_refusal}
use Rattle.tables.specs.Blocks.{trusted_in, made_in, parent_in, epoch_in, matches_in, named_in}
use Rattle.tables.specs.Messages.{says_in}
use Rattle.tables.specs.Chains.{climb, chain_by}
use Rattle.register.specs.Types.{Office, Block, Message, Kind}
use Rattle.register.specs.declared.step.Step.{Step}
use Rattle.register.specs.declared.table.Stepped.{Stepped}
use Rattle.register.specs.Books.{office, epoch, block, is_vote, kind_of, book_of, register_of}
use Rattle.register.specs.Views.{stage, signed, signer_set, notarised, signers_on, notarised_test}
use Rattle.register.specs.Chains.{chain, begins, chain_notarised_by, longest}
use Rattle.register.specs.Fitness.{counts_fit, block_fits, message_fits, state_fits, fit}
use Rattle.register.specs.Refusals.{consecutive, finalises}
use Rattle.register.specs.Opening.{leader_table, blank, fresh_book, fresh, opening}
use Rattle.register.specs.Effects.{with_block, with_named, sent_stage, with_sent, with_moved, with_acted, with_state, with_next_epoch}
use Rattle.register.specs.Steps.{rule_of, refusal, judged, book_rule, step_rule}
use Rattle.register.specs.Runs.{after_steps, answers, Run, opened, moment}
use Rattle.agreement.specs.Claim.{chain_of, final_chain, Trusted, Notarised, Begins, AtLeastAsLong, Agreement, NeverBack}
use Rattle.agreement.proofs.Agreement.{agreement}
use Rattle.agreement.proofs.Consequences.{never_back}

abbrev message : ℕ → Message
message m = record { 0 = m }

-- what is seen of agreement in a run: an office's final chain at a moment, and a chain that is notarised in an office's view at a moment
pub record Seen (run : Run) (i j : ℕ) (p q : Office) (e : Block) (final notarised : List ℕ) : Type 0 where
  pub finalist : Trusted (moment run i) p
  pub is_final : final_chain (moment run i) p ≡ final
  pub viewer : Trusted (moment run j) q
  pub is_notarised : Notarised (moment run j) q e
  pub is_chain : chain_of (moment run j) e ≡ notarised

-- where the notarised chain is at least as long, the premises of agreement hold
premises : {run : Run} {i j : ℕ} {p q : Office} {e : Block} {final notarised : List ℕ} → Seen run i j p q e final notarised
    → length final ≤ length notarised → AtLeastAsLong run i j p q e
premises seen long =
    record {
      finalist = seen.finalist;
      viewer = seen.viewer;
      notarised = seen.is_notarised;
      long = rw (seen.is_final, seen.is_chain) long;
    }

-- and agreement says that the final chain begins the notarised one
agrees : {run : Run} {i j : ℕ} {p q : Office} {e : Block} {final notarised : List ℕ} → Seen run i j p q e final notarised
    → AtLeastAsLong run i j p q e → Begins final notarised
unfolding Agreement
agrees {run} {i} {j} {p} {q} {e} seen holds = rw (seen.is_final, seen.is_chain) at (agreement run i j p q e holds)

-- the openings of the two runs are not refused: three offices, all trusted, and two epochs, led by 0 and 1; four offices, of which office 3 is not
-- trusted, and five epochs, led by 3, 2, 1, 2 and 1
pub runs_open : ((opening 3 7 (0 ∷ 1 ∷ [])).refusal ≡ 0) × ((opening 4 7 (3 ∷ 2 ∷ 1 ∷ 2 ∷ 1 ∷ [])).refusal ≡ 0)
unfolding opening opening_refusal first choose both either between any stray too_many untrusted tally weigh unit digit
runs_open = (refl, refl)

-- the steps of a run in which genesis is the oldest of three consecutive blocks
unfoldable pub start_steps : List Step
start_steps =
    -- epoch 1: office 0 proposes block 1 on genesis, office 1 votes for it, and both see it notarised
    Step.Propose (office 0) (block 0) 1
    ∷ Step.Deliver (message 0) (office 1)
    ∷ Step.Vote (office 1) (message 0)
    ∷ Step.Deliver (message 1) (office 0)
    ∷ Step.Register (office 0) (message 1)
    -- it stands directly on genesis: naming it is refused
    ∷ Step.Finalise (office 0) (block 1)
    ∷ Step.Advance
    -- epoch 2: office 1 proposes block 2 on block 1, and office 0 votes for it
    ∷ Step.Propose (office 1) (block 1) 2
    ∷ Step.Deliver (message 2) (office 0)
    ∷ Step.Vote (office 0) (message 2)
    -- moment 11: office 0 makes block 1 final
    ∷ Step.Finalise (office 0) (block 2)
    -- moment 13: office 1 sees block 2 notarised
    ∷ Step.Deliver (message 3) (office 1)
    ∷ Step.Register (office 1) (message 3)
    ∷ []

-- the run that starts from genesis
unfoldable pub start : Run
start = record { n = 3; trust = 7; schedule = 0 ∷ 1 ∷ []; accepted = runs_open.0; steps = start_steps }

-- what the run shows: every step is accepted but the one that names a block directly on genesis, which gets 21; at moment 11 office 0's final chain is
-- that of block 1; and at moment 13 the longer chain of block 2 is notarised in office 1's view
pub record Started : Type 0 where
  pub refusals : map (λ (s : Stepped). s.refusal) (answers (opened start) start.steps) ≡ replicate 5 0 ++ (21 ∷ replicate 7 0)
  pub seen : Seen start 11 13 (office 0) (office 1) (block 2) (1 ∷ []) (2 ∷ 1 ∷ [])

-- the steps of the run with a fork, epoch by epoch
unfoldable pub fork_steps : List Step
fork_steps =
    -- epoch 1: the leader, office 3, drafts blocks 1 and 2 and proposes both; offices 0 and 1 vote for the one, office 2 for the other
    Step.Draft (block 0) (epoch 1) 1
    ∷ Step.Draft (block 0) (epoch 1) 2
    ∷ Step.BadSend (office 3) Kind.Proposal (office 3) (block 1)
    ∷ Step.BadSend (office 3) Kind.Proposal (office 3) (block 2)
    ∷ Step.Deliver (message 0) (office 0)
    ∷ Step.Vote (office 0) (message 0)
    ∷ Step.Deliver (message 0) (office 1)
    ∷ Step.Vote (office 1) (message 0)
    ∷ Step.Deliver (message 1) (office 2)
    ∷ Step.Vote (office 2) (message 1)
    -- office 0 learns of office 1's vote: in its view block 1 is notarised, by 3, 0 and 1
    ∷ Step.Deliver (message 3) (office 0)
    ∷ Step.Register (office 0) (message 3)
    ∷ Step.Advance
    -- epoch 2: office 2, which has heard of no notarised block, proposes block 3 on genesis; offices 1 and 3 vote for it, and 1 and 2 see it notarised
    ∷ Step.Propose (office 2) (block 0) 3
    ∷ Step.Deliver (message 5) (office 1)
    ∷ Step.Vote (office 1) (message 5)
    ∷ Step.BadSend (office 3) Kind.Vote (office 3) (block 3)
    ∷ Step.Deliver (message 7) (office 1)
    ∷ Step.Register (office 1) (message 7)
    ∷ Step.Deliver (message 6) (office 2)
    ∷ Step.Register (office 2) (message 6)
    ∷ Step.Deliver (message 7) (office 2)
    ∷ Step.Register (office 2) (message 7)
    ∷ Step.Advance
    -- epoch 3: office 1 proposes block 4 on block 3; offices 2 and 3 vote for it, and 1 and 2 see it notarised
    ∷ Step.Propose (office 1) (block 3) 4
    ∷ Step.Deliver (message 8) (office 2)
    ∷ Step.Vote (office 2) (message 8)
    ∷ Step.BadSend (office 3) Kind.Vote (office 3) (block 4)
    ∷ Step.Deliver (message 9) (office 1)
    ∷ Step.Register (office 1) (message 9)
    ∷ Step.Deliver (message 10) (office 1)
    ∷ Step.Register (office 1) (message 10)
    ∷ Step.Deliver (message 10) (office 2)
    ∷ Step.Register (office 2) (message 10)
    -- block 4 is of epoch 3, on block 3 of epoch 2, on genesis of epoch 0: naming it is refused. Accepted, it would make block 3 final, whose chain is as
    -- long as that of block 1 and does not begin it.
    ∷ Step.Finalise (office 2) (block 4)
    ∷ Step.Advance
    -- epoch 4: office 2 proposes block 5 on block 4; offices 1 and 3 vote for it
    ∷ Step.Propose (office 2) (block 4) 5
    ∷ Step.Deliver (message 11) (office 1)
    ∷ Step.Vote (office 1) (message 11)
    ∷ Step.BadSend (office 3) Kind.Vote (office 3) (block 5)
    -- moment 42: office 1 sees it notarised
    ∷ Step.Deliver (message 13) (office 1)
    ∷ Step.Register (office 1) (message 13)
    -- moment 47: so does office 2, and makes block 4 final
    ∷ Step.Deliver (message 12) (office 2)
    ∷ Step.Register (office 2) (message 12)
    ∷ Step.Deliver (message 13) (office 2)
    ∷ Step.Register (office 2) (message 13)
    ∷ Step.Finalise (office 2) (block 5)
    ∷ Step.Advance
    -- epoch 5: office 1 proposes block 6 on block 5; offices 2 and 3 vote for it, and office 2 sees it notarised
    ∷ Step.Propose (office 1) (block 5) 6
    ∷ Step.Deliver (message 14) (office 2)
    ∷ Step.Vote (office 2) (message 14)
    ∷ Step.BadSend (office 3) Kind.Vote (office 3) (block 6)
    ∷ Step.Deliver (message 16) (office 2)
    ∷ Step.Register (office 2) (message 16)
    -- moment 55: office 2 makes block 5 final; naming the older three again is refused, and naming the newest again is not
    ∷ Step.Finalise (office 2) (block 6)
    ∷ Step.Finalise (office 2) (block 5)
    ∷ Step.Finalise (office 2) (block 6)
    ∷ []

-- the run with a fork
unfoldable pub fork : Run
fork = record { n = 4; trust = 7; schedule = 3 ∷ 2 ∷ 1 ∷ 2 ∷ 1 ∷ []; accepted = runs_open.1; steps = fork_steps }

-- what the run shows: every step is accepted but the one that names block 4 too early, which gets 21, and the one that would go back, which gets 32; at
-- moment 47 office 2's final chain is that of block 4, and at the end that of block 5; before, at moment 42, the longer chain of block 5 is notarised in
-- office 1's view; and at moment 47 the chain of block 1, which forks off from both, is notarised in office 0's. Of block 1 office 0 has the signatures
-- of 0, 1 and 3, bits of the word 1 + 2 + 8; office 1, whom the vote of office 0 has not reached, those of 1 and 3. So the notarised test tells the one
-- that three signed, which is enough of four, and the other that two did; the untrusted office, which has no view, that nobody did; and of genesis that
-- all four did.
pub record Forked : Type 0 where
  pub refusals : map (λ (s : Stepped). s.refusal) (answers (opened fork) fork.steps)
      ≡ replicate 34 0 ++ (21 ∷ replicate 20 0 ++ (32 ∷ 0 ∷ []))
  pub seen : Seen fork 47 42 (office 2) (office 1) (block 5) (4 ∷ 3 ∷ []) (5 ∷ 4 ∷ 3 ∷ [])
  pub later : final_chain (moment fork 57) (office 2) ≡ 5 ∷ 4 ∷ 3 ∷ []
  pub other : Trusted (moment fork 47) (office 0)
  pub forked : Notarised (moment fork 47) (office 0) (block 1)
  pub shorter : chain_of (moment fork 47) (block 1) ≡ 1 ∷ []
  pub signed_there : signer_set (book_of (moment fork 47)) 0 1 ≡ 11
  pub signed_elsewhere : signer_set (book_of (moment fork 47)) 1 1 ≡ 10
  pub told_there : notarised_test (book_of (moment fork 47)) 0 1 ≡ record { holds = true; signers = 3 }
  pub told_elsewhere : notarised_test (book_of (moment fork 47)) 1 1 ≡ record { holds = false; signers = 2 }
  pub told_genesis : notarised_test (book_of (moment fork 47)) 1 0 ≡ record { holds = true; signers = 4 }
  pub told_nobody : notarised_test (book_of (moment fork 47)) 3 1 ≡ record { holds = false; signers = 0 }

-- they do, as the rules compute
pub runs_show : Started × Forked
unfolding final_chain chain_of Trusted Notarised moment start start_steps fork fork_steps answers after_steps step_rule book_of register_of opened opening fresh opening_refusal untrusted too_many stray choose both either between conj all any lowest every tally weigh unit digit fill set_of with_member with_stage first enough trusted_in made_in parent_in epoch_in matches_in named_in says_in climb chain_by is_vote kind_of stage signed signer_set notarised signers_on chain chain_notarised_by longest counts_fit block_fits message_fits state_fits fit consecutive finalises leader_table blank fresh_book with_block with_named sent_stage with_sent with_moved with_acted with_state with_next_epoch rule_of refusal judged book_rule
runs_show = (
  record { refusals = refl; seen = record { finalist = refl; is_final = refl; viewer = refl; is_notarised = refl; is_chain = refl } },
  record { refusals = refl; seen = record { finalist = refl; is_final = refl; viewer = refl; is_notarised = refl; is_chain = refl }; later = refl; other = refl; forked = refl; shorter = refl; signed_there = refl; signed_elsewhere = refl; told_there = refl; told_elsewhere = refl; told_genesis = refl; told_nobody = refl },
)

pub start_shows : Started
start_shows = runs_show.0

pub fork_shows : Forked
fork_shows = runs_show.1

-- so the premises of agreement hold, of two offices and two moments, where genesis is the oldest of the three
pub start_run : AtLeastAsLong start 11 13 (office 0) (office 1) (block 2)
start_run = premises start_shows.seen (omega arith)

-- and the final chain begins the longer one
pub start_agrees : Begins (1 ∷ []) (2 ∷ 1 ∷ [])
start_agrees = agrees start_shows.seen start_run

-- they hold where there is a fork
pub fork_run : AtLeastAsLong fork 47 42 (office 2) (office 1) (block 5)
fork_run = premises fork_shows.seen (omega arith)

-- and the final chain begins the longer one
pub fork_agrees : Begins (4 ∷ 3 ∷ []) (5 ∷ 4 ∷ 3 ∷ [])
fork_agrees = agrees fork_shows.seen fork_run

-- It does not begin the chain that forks off, though that is notarised in a trusted office's view: of shorter chains the claim would be false.
pub fork_parts : Begins (final_chain (moment fork 47) (office 2)) (chain_of (moment fork 47) (block 1)) → ⊥
unfolding Begins begins member either
fork_parts = rw (fork_shows.seen.is_final, fork_shows.shorter) (λ b. let never : ◌≡◌ {A = ℕ} 0 1 = cc in omega arith)

-- And office 2's final chain never goes back: that of moment 47 begins that of moment 57.
pub fork_goes_on : Begins (4 ∷ 3 ∷ []) (5 ∷ 4 ∷ 3 ∷ [])
unfolding NeverBack
fork_goes_on = rw (fork_shows.seen.is_final, fork_shows.later) at (never_back fork 47 57 (office 2) (omega arith) fork_shows.seen.finalist)

-- What a step changes, as the code passes it on. Only contracts inside this crate cite these definitions; no promise to makers does.
use Rattle.std.specs.Prelude.{ℕ, ◌+◌, Bool, false, Result, Ok, Err, eqb, leb, get_or}
use Rattle.refusals.specs.declared.Refusal.{Refusal}
use Rattle.refusals.specs.Numbers.{number_of}
use Rattle.words.specs.Tests.{choose}
use Rattle.words.specs.Digits.{with_member, with_stage}
use Rattle.words.specs.Refusals.{first}
use Rattle.tables.specs.Messages.{inbox, view}
use Rattle.register.specs.Types.{Office, Block, Kind, Step, Header, OfficeState, Book, Clock, BlockEntry, MessageEntry, PlaceEntry, OfficeEntry, Answer, Change}
use Rattle.register.specs.Books.{office, epoch, block, kind_of}
use Rattle.register.specs.Tables.{state_of, header_of, parent_of, named, about_of}
use Rattle.register.specs.Effects.{sent_place, finalising}
use Rattle.register.specs.Steps.{rule_of}

-- the change that leaves a book as it is, where the acting office, at that place of the table of offices, holds that state
unfoldable pub unchanged_of : Book → (at : ℕ) → OfficeState → Change
unchanged_of r at state =
    record {
      clock = record { epoch = r.epoch; acted = r.acted };
      block = record { last = r.last; at = 0; header = header_of r 0 };
      message =
          record {
            count = r.count;
            at = 0;
            kind = kind_of (get_or r.votes 0 false);
            signer = office (get_or r.signers 0 0);
            about = block (get_or r.about 0 0);
            place = get_or r.places 0 0;
          };
      place = record { at = 0; place = get_or r.places 0 0 };
      office = record { at = at; state = state };
      answer = record { value = 0; refusal = 0 };
    }

-- the builder of a change
abbrev pub change : Clock → BlockEntry → MessageEntry → PlaceEntry → OfficeEntry → Answer → Change
change clock block message place office answer =
    record { clock = clock; block = block; message = message; place = place; office = office; answer = answer }

-- a refused step: nothing but the answer
abbrev pub refusing : Change → (refusal : ℕ) → Change
refusing c k = change c.clock c.block c.message c.place c.office (record { value = 0; refusal = k })

-- an accepted step, with its value
abbrev pub accepting : Change → (value : ℕ) → Change
accepting c v = change c.clock c.block c.message c.place c.office (record { value = v; refusal = 0 })

-- another epoch, or other marks
abbrev pub timing : Change → Clock → Change
timing c clock = change clock c.block c.message c.place c.office c.answer

-- office q has acted
abbrev pub acting : Change → (q : ℕ) → Change
acting c q = timing c (record { epoch = c.clock.epoch; acted = with_member c.clock.acted q })

-- block b is named: it is made, of that header, where it is the next
unfoldable pub naming : Change → (b : ℕ) → Header → Change
naming c b new =
    change c.clock (choose (leb b c.block.last.0) c.block (record { last = block b; at = b; header = new })) c.message
    c.place c.office c.answer

-- the message of that number is sent
abbrev pub sending : Change → (m : ℕ) → Kind → (signer : Office) → (about : Block) → (word : ℕ) → Change
sending c m kind signer about word =
    change c.clock c.block
    (record { count = m + 1; at = m; kind = kind; signer = signer; about = about; place = word })
    (record { at = m; place = word }) c.office c.answer

-- the word of message m's places becomes that word
abbrev pub moving : Change → (m : ℕ) → (word : ℕ) → Change
moving c m word = change c.clock c.block c.message (record { at = m; place = word }) c.office c.answer

-- the acting office holds that
abbrev pub holding : Change → OfficeState → Change
holding c state = change c.clock c.block c.message c.place (record { at = c.office.at; state = state }) c.answer

-- the word of message m's places once it has come to a stage for office q
abbrev pub moved_place : Book → (m q stage : ℕ) → ℕ
moved_place r m q stage = with_stage (get_or r.places m 0) q stage

-- the entries of an accepted step, over those of the change that leaves the book as it is
unfoldable pub entries_of : (unchanged : Change) → Book → Step → Change
entries_of c r (Step.Propose office parent w) =
    let new : Header = record { parent = parent; epoch = r.epoch; payload = w } in
    acting
    (sending (naming c (named r new) new) r.count Kind.Proposal office (block (named r new)) (sent_place r office.0))
    office.0
entries_of c r (Step.Vote office message) =
    acting
    (moving (sending c r.count Kind.Vote office (block (about_of r message.0)) (sent_place r office.0)) message.0
    (moved_place r message.0 office.0 view))
    office.0
entries_of c r (Step.Register office message) = moving c message.0 (moved_place r message.0 office.0 view)
entries_of c r (Step.Finalise office newest) = holding c (finalising c.office.state (parent_of r newest.0))
entries_of c r (Step.Deliver message office) = moving c message.0 (moved_place r message.0 office.0 inbox)
entries_of c r (Step.BadSend sender kind signer about) =
    sending c r.count kind signer about (sent_place r sender.0)
entries_of c r (Step.Draft parent epoch w) =
    let new : Header = record { parent = parent; epoch = epoch; payload = w } in
    naming c (named r new) new
entries_of c r Step.Advance = timing c (record { epoch = epoch (r.epoch.0 + 1); acted = 0 })

-- the change of a step: refused with the first of the rule's tests that holds, else accepted with the rule's value
unfoldable pub change_by : (unchanged : Change) → Book → Step → Change
change_by c r step =
    choose (eqb (first (rule_of r step).tests) 0) (accepting (entries_of c r step) (rule_of r step).value)
    (refusing c (first (rule_of r step).tests))

-- the change of a step whose acting office stands at that place of the table; a book that is not fit refuses it with 5
unfoldable pub change_of : (fits : Bool) → Book → (at : ℕ) → Step → Change
change_of fits r at step =
    choose fits (change_by (unchanged_of r at (state_of r at)) r step) (refusing (unchanged_of r at (state_of r at)) 5)

-- the change that is told: the one that was made, or the refusal
abbrev pub told : (unchanged : Change) → Result Change Refusal → Change
told c (Ok change) = change
told c (Err refusal) = refusing c (number_of refusal)

-- The law of the test for a stray leader.
use mathlib.Core.Path.{◌≡◌, refl}
use lib.Dec.{eqb}
use Rattle.std.proofs.Common.{Result, Ok, Err}
use Rattle.std.specs.Result.{result_eq}
use Rattle.std.specs.contracts.prelude.UnitPartialEq.TheImpl as units
use Rattle.refusals.specs.contracts.RefusalPartialEq.TheImpl as refusals
use Rattle.refusals.specs.declared.Refusal.{Refusal}
use Rattle.refusals.specs.declared.Refusal.TheVariants.{Count, Schedule, StrayLeader, Third, UnfitRegister, NoOffice, NoBlock, NoMessage, Wide, Barred, TrustedSender, Acted, NotLeader, LeaderVotes, NotInHand, Kind, OffEpoch, Entered, NotLongest, Epochs, NotFinal, Forged, NotSent, Spent, BlocksFull, MessagesFull, Cut, NoSuchStep, Ending, LongLog, ShortBuffer, Behind, SlipForm, UnsignedMark}
use Rattle.refusals.specs.Numbers.{outcome}

-- the code's test of an outcome for the refusal of a stray leader asks for its number
pub is_stray : (r : Result Unit Refusal) → result_eq units.eq-value.it refusals.eq-value.it r (Err StrayLeader) ≡ eqb (outcome r) 3
is_stray (Ok done) = refl
is_stray (Err Count) = refl
is_stray (Err Schedule) = refl
is_stray (Err StrayLeader) = refl
is_stray (Err Third) = refl
is_stray (Err UnfitRegister) = refl
is_stray (Err NoOffice) = refl
is_stray (Err NoBlock) = refl
is_stray (Err NoMessage) = refl
is_stray (Err Wide) = refl
is_stray (Err Barred) = refl
is_stray (Err TrustedSender) = refl
is_stray (Err Acted) = refl
is_stray (Err NotLeader) = refl
is_stray (Err LeaderVotes) = refl
is_stray (Err NotInHand) = refl
is_stray (Err Kind) = refl
is_stray (Err OffEpoch) = refl
is_stray (Err Entered) = refl
is_stray (Err NotLongest) = refl
is_stray (Err Epochs) = refl
is_stray (Err NotFinal) = refl
is_stray (Err Forged) = refl
is_stray (Err NotSent) = refl
is_stray (Err Spent) = refl
is_stray (Err BlocksFull) = refl
is_stray (Err MessagesFull) = refl
is_stray (Err Cut) = refl
is_stray (Err NoSuchStep) = refl
is_stray (Err Ending) = refl
is_stray (Err LongLog) = refl
is_stray (Err ShortBuffer) = refl
is_stray (Err Behind) = refl
is_stray (Err SlipForm) = refl
is_stray (Err UnsignedMark) = refl

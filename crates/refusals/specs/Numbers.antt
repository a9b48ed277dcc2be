-- The numbers of the refusals, as the scope document's table has them.
use Rattle.std.specs.Prelude.{ℕ, Result, Ok, Err}
use Rattle.refusals.specs.declared.Refusal.{Refusal}
use Rattle.refusals.specs.declared.Refusal.TheVariants.{Count, Schedule, StrayLeader, Third, UnfitRegister, NoOffice, NoBlock, NoMessage, Wide, Barred, TrustedSender, Acted, NotLeader, LeaderVotes, NotInHand, Kind, OffEpoch, Entered, NotLongest, Epochs, NotFinal, Forged, NotSent, Spent, BlocksFull, MessagesFull, Cut, NoSuchStep, Ending, LongLog, ShortBuffer, Behind, SlipForm, UnsignedMark}

-- the number of a refusal
abbrev pub number_of : Refusal → ℕ
number_of Count = 1
number_of Schedule = 2
number_of StrayLeader = 3
number_of Third = 4
number_of UnfitRegister = 5
number_of NoOffice = 6
number_of NoBlock = 7
number_of NoMessage = 8
number_of Wide = 9
number_of Barred = 10
number_of TrustedSender = 11
number_of Acted = 12
number_of NotLeader = 13
number_of LeaderVotes = 14
number_of NotInHand = 15
number_of Kind = 16
number_of OffEpoch = 17
number_of Entered = 18
number_of NotLongest = 19
number_of Epochs = 20
number_of NotFinal = 21
number_of Forged = 22
number_of NotSent = 23
number_of Spent = 24
number_of BlocksFull = 25
number_of MessagesFull = 26
number_of Cut = 27
number_of NoSuchStep = 28
number_of Ending = 29
number_of LongLog = 30
number_of ShortBuffer = 31
number_of Behind = 32
number_of SlipForm = 33
number_of UnsignedMark = 34

-- the number of an outcome: that of its refusal, 0 where nothing is refused
abbrev pub outcome : Result Unit Refusal → ℕ
outcome (Ok done) = 0
outcome (Err refusal) = number_of refusal

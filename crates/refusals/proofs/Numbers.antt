-- The law of the refusals' numbers.
use mathlib.Core.Path.{◌≡◌}
use native.Mathlib.Omega.{arith}
use Rattle.refusals.specs.declared.Refusal.{Refusal}
use Rattle.refusals.specs.declared.Refusal.TheVariants.{Count, Schedule, StrayLeader, Third, UnfitRegister, NoOffice, NoBlock, NoMessage, Wide, Barred, TrustedSender, Acted, NotLeader, LeaderVotes, NotInHand, Kind, OffEpoch, Entered, NotLongest, Epochs, NotFinal, Forged, NotSent, Spent, BlocksFull, MessagesFull, Cut, NoSuchStep, Ending, LongLog, ShortBuffer, Behind, SlipForm, UnsignedMark}
use Rattle.refusals.specs.Numbers.{number_of}

-- no refusal has number 0, which stands for none
pub number_some : (refusal : Refusal) → number_of refusal ≡ 0 → ⊥
number_some Count e = omega arith
number_some Schedule e = omega arith
number_some StrayLeader e = omega arith
number_some Third e = omega arith
number_some UnfitRegister e = omega arith
number_some NoOffice e = omega arith
number_some NoBlock e = omega arith
number_some NoMessage e = omega arith
number_some Wide e = omega arith
number_some Barred e = omega arith
number_some TrustedSender e = omega arith
number_some Acted e = omega arith
number_some NotLeader e = omega arith
number_some LeaderVotes e = omega arith
number_some NotInHand e = omega arith
number_some Kind e = omega arith
number_some OffEpoch e = omega arith
number_some Entered e = omega arith
number_some NotLongest e = omega arith
number_some Epochs e = omega arith
number_some NotFinal e = omega arith
number_some Forged e = omega arith
number_some NotSent e = omega arith
number_some Spent e = omega arith
number_some BlocksFull e = omega arith
number_some MessagesFull e = omega arith
number_some Cut e = omega arith
number_some NoSuchStep e = omega arith
number_some Ending e = omega arith
number_some LongLog e = omega arith
number_some ShortBuffer e = omega arith
number_some Behind e = omega arith
number_some SlipForm e = omega arith
number_some UnsignedMark e = omega arith

-- `words::with_member` joins the set with that of the one office.
use Rattle.words.specs.Digits.{set_of, with_member}
use Rattle.words.proofs.Digits.{set_with}
use Rattle.words.proofs.with_member.Goals as goal

pub returns : goal.returns
unfolding with_member set_of
returns c = rw c.only_bit.ensures (set_with 32 _ _ c.ranges.set.fits)

-- `words::is_within` asks whether the set adds anybody to the other.
use Rattle.words.proofs.Digits.{within_or}
use Rattle.words.proofs.is_within.Goals as goal

pub returns : goal.returns
returns c = within_or _ _ c.ranges.set.fits c.ranges.other.fits

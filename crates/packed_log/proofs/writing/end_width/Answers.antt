-- `packed_log::writing::end_width`: counts the bits of the end.
use native.Mathlib.Omega.{arith}
use Rattle.packed_log.proofs.WritingLaws.{length_end}
use Rattle.packed_log.proofs.writing.end_width.Goals as goal

pub returns : goal.returns
returns c = (rw (length_end c.args.at) (omega arith), omega arith)

-- `check_log::report_buffer`: it has as many zeros as the longest report has bytes.
use mathlib.Core.Path.{refl}
use Rattle.check_log.proofs.report_buffer.Goals as goal

pub returns : goal.returns
returns c = refl

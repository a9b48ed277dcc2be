-- `packed_log::bits::write_front`: the three stores put down the window with the field laid over it.
use Rattle.packed_log.proofs.Windows.{put_stores}
use Rattle.packed_log.proofs.bits.write_front.Goals as goal

pub returns : goal.returns
returns c = search put_stores depth 2

-- `inspect::look` meets its contract: a located option has room for its eight bytes. Assumes nothing.
use Rattle.inspect.proofs.SightLaws.{room_of}
use Rattle.inspect.proofs.look.Goals as goal

pub read_at-asking-requires : goal.read_at-asking-requires
read_at-asking-requires c = room_of _ c.args.packet.now _ c.in_ok-place.ensures

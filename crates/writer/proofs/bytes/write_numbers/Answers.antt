-- `writer::bytes::write_numbers` meets its contract. Assumes nothing.
use Rattle.writer.proofs.ByteReturns.{pouring-starts, pouring-next, pouring-done, pouring-long, pouring-room, pouring-again}
use Rattle.writer.proofs.bytes.write_numbers.Goals as goal

ruleset cases = (pouring-starts, pouring-next, pouring-done, pouring-long, pouring-room, pouring-again)

pub loop-x-init : goal.loop-x-init
loop-x-init c = search cases

pub write-q-requires : goal.write-q-requires
write-q-requires c = search cases

pub loop-x-preserved : goal.loop-x-preserved
loop-x-preserved c = search cases

pub shape_of-out : goal.shape_of-out
shape_of-out c = search cases

pub returns : goal.returns
returns c = search cases

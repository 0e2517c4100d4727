-- `writer::bytes::write_all` meets its contract. Assumes nothing.
use Rattle.writer.proofs.ByteReturns.{filling-starts, filling-done, filling-long, filling-room, filling-again}
use Rattle.writer.proofs.bytes.write_all.Goals as goal

ruleset cases = (filling-starts, filling-done, filling-long, filling-room, filling-again)

pub loop-r-init : goal.loop-r-init
loop-r-init c = search cases

pub write_numbers-p-requires : goal.write_numbers-p-requires
write_numbers-p-requires c = search cases

pub loop-r-preserved : goal.loop-r-preserved
loop-r-preserved c = search cases

pub shape_of-out : goal.shape_of-out
shape_of-out c = search cases

pub returns : goal.returns
returns c = search cases

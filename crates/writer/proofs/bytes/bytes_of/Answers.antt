-- `writer::bytes::bytes_of` meets its contract. Assumes nothing.
use Rattle.writer.proofs.ByteReturns.{counting-starts, counting-done, counting-large, counting-again, counting-fits, sum-small}
use Rattle.writer.proofs.bytes.bytes_of.Goals as goal

ruleset cases = (counting-starts, counting-done, counting-large, counting-again, counting-fits, sum-small)

pub loop-r-init : goal.loop-r-init
loop-r-init c = search cases

pub size_of-sum-requires : goal.size_of-sum-requires
size_of-sum-requires c = search cases

pub overflow_add-sum : goal.overflow_add-sum
overflow_add-sum c = search cases

pub returns-then-sum-gt4096 : goal.returns-then-sum-gt4096
returns-then-sum-gt4096 c = search cases

pub loop-r-preserved : goal.loop-r-preserved
loop-r-preserved c = search cases

pub returns : goal.returns
returns c = search cases

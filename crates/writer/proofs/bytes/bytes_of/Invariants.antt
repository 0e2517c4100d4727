-- `writer::bytes::bytes_of` meets its contract. Assumes nothing.
use Rattle.writer.proofs.ByteReturns.{Counting}
use Rattle.writer.proofs.bytes.bytes_of.Given as goal

abbrev pub invariant-loop-r : goal.invariant-loop-r
invariant-loop-r l = Counting l.t l.r-end l.sum l.r

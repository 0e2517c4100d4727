-- `writer::bytes::write_all` meets its contract. Assumes nothing.
use Rattle.writer.proofs.ByteReturns.{Filling}
use Rattle.writer.proofs.bytes.write_all.Given as goal

abbrev pub invariant-loop-r : goal.invariant-loop-r
invariant-loop-r l = Filling l.t l.r-end l.initial.out l.out l.p l.r

-- `writer::bytes::write_numbers` meets its contract. Assumes nothing.
use Rattle.writer.proofs.ByteReturns.{Pouring}
use Rattle.writer.proofs.bytes.write_numbers.Given as goal

abbrev pub invariant-loop-x : goal.invariant-loop-x
invariant-loop-x l = Pouring l.row l.initial.out l.p l.out l.q l.x-index

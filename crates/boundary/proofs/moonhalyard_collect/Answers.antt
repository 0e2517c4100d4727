-- `boundary::moonhalyard_collect` meets its contract. Assumes nothing.
use Rattle.machine.specs.Calls.{collect}
use Rattle.boundary.proofs.Calling.{handed-short, handed-taken, handed-refused}
use Rattle.boundary.proofs.moonhalyard_collect.Goals as goal

pub returns-then-message-lt32 : goal.returns-then-message-lt32
returns-then-message-lt32 c = let w = handed-short collect c.args.state.now c.args.message.now c.if-message-lt32.true in record { is = w.0; bytes = w.1.0; message = w.1.1 }

pub returns-then-r-eq0 : goal.returns-then-r-eq0
returns-then-r-eq0 c = let w = handed-taken collect c.args.state.now c.args.message.now c.if-message-lt32.false c.unpack-k.ensures c.collect-r.ensures c.write_message.ensures.is c.if-r-eq0.true c.pack.ensures.is in record { is = w.0; bytes = w.1.0; message = w.1.1 }

pub returns : goal.returns
returns c = let w = handed-refused collect c.args.state.now c.args.message.now c.if-message-lt32.false c.unpack-k.ensures c.collect-r.ensures c.write_message.ensures.is c.if-r-eq0.false in record { is = w.0; bytes = w.1.0; message = w.1.1 }

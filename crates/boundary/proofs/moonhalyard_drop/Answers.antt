-- `boundary::moonhalyard_drop` meets its contract. Assumes nothing.
use native.Mathlib.Omega.{arith}
use Rattle.machine.specs.Calls.{drop_at}
use Rattle.boundary.proofs.Calling.{handed-short, handed-taken, handed-refused}
use Rattle.boundary.proofs.moonhalyard_drop.Goals as goal

pub returns-then-message-le31 : goal.returns-then-message-le31
returns-then-message-le31 c = let w = handed-short (drop_at c.args.place) c.args.state.now c.args.message.now (omega (arith, c.if-message-le31.true)) in record { is = w.0; bytes = w.1.0; message = w.1.1 }

pub returns-then-r-eq0 : goal.returns-then-r-eq0
returns-then-r-eq0 c = let w = handed-taken (drop_at c.args.place) c.args.state.now c.args.message.now (omega (arith, c.if-message-le31.false)) c.unpack-k.ensures c.drop_at-r.ensures c.write_message.ensures.is c.if-r-eq0.true c.pack.ensures.is in record { is = w.0; bytes = w.1.0; message = w.1.1 }

pub returns : goal.returns
returns c = let w = handed-refused (drop_at c.args.place) c.args.state.now c.args.message.now (omega (arith, c.if-message-le31.false)) c.unpack-k.ensures c.drop_at-r.ensures c.write_message.ensures.is c.if-r-eq0.false in record { is = w.0; bytes = w.1.0; message = w.1.1 }

-- `boundary::moonhalyard_step` meets its contract. Assumes nothing.
use Rattle.boundary.proofs.Calling.{step-taken, step-refused}
use Rattle.boundary.proofs.moonhalyard_step.Goals as goal

pub returns-then-x-eq0 : goal.returns-then-x-eq0
returns-then-x-eq0 c = let w = step-taken c.args.choice c.args.state.now c.unpack-k.ensures c.take_step-r.ensures c.step_number.ensures c.if-x-eq0.true c.pack.ensures.is in record { is = w.0; bytes = w.1 }

pub returns : goal.returns
returns c = let w = step-refused c.args.choice c.args.state.now c.unpack-k.ensures c.take_step-r.ensures c.step_number-2.ensures c.if-x-eq0.false in record { is = w.0; bytes = w.1 }

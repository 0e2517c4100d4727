-- `boundary::moonhalyard_tell` meets its contract. Assumes nothing.
use Rattle.boundary.proofs.Calling.{run_none, run-some, run-told}
use Rattle.boundary.proofs.moonhalyard_tell.Goals as goal

pub returns-then-t-eq0 : goal.returns-then-t-eq0
returns-then-t-eq0 c = let r = run_none c.args.choices.now c.args.budget.now c.args.state.now c.unpack-k.ensures c.run_told-t.ensures.is _ c.run_told-t.ensures.left c.if-t-eq0.true in
    record { is = r.0; bytes = r.1.0; left = r.1.1; told = run-told c.args.choices.now c.args.budget.now c.args.state.now c.args.told.now c.unpack-k.ensures c.run_told-t.ensures.told }

pub returns : goal.returns
returns c = let r = run-some c.args.choices.now c.args.budget.now c.args.state.now c.unpack-k.ensures c.run_told-t.ensures.is _ c.run_told-t.ensures.left c.if-t-eq0.false c.pack.ensures.is in
    record { is = r.0; bytes = r.1.0; left = r.1.1; told = run-told c.args.choices.now c.args.budget.now c.args.state.now c.args.told.now c.unpack-k.ensures c.run_told-t.ensures.told }

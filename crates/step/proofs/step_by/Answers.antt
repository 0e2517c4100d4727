-- `step::step_by` meets its contract. Assumes nothing.
use Rattle.machine.proofs.Whole.{state-whole}
use Rattle.step.proofs.Sets.{step_by}
use Rattle.step.proofs.step_by.Goals as goal

pub returns : goal.returns
returns c =
    let l = (state-whole c.args.state _ c.well_formed.1.1.1.0).orders-long in
    search step_by

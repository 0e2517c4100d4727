-- `step::stepping::sent_values` meets its contract. Assumes nothing.
use Rattle.step.proofs.Sets.{sent_values}
use Rattle.step.proofs.stepping.sent_values.Goals as goal

pub returns : goal.returns
returns c = search sent_values

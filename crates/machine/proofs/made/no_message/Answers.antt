-- `machine::made::no_message` meets its contract. Assumes nothing.
use Rattle.machine.proofs.Copied.{no-message-is}
use Rattle.machine.proofs.made.no_message.Goals as goal

ruleset cases = (no-message-is)

pub returns : goal.returns
returns c = search cases

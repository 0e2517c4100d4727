-- `machine::limits::messages_ruled` meets its contract. Assumes nothing.
use Rattle.std.proofs.Common.{◌∙◌, take, rules, tests}
use Rattle.std.proofs.lemmas.Iterator.{YieldsList-from_slice}
use Rattle.std.proofs.lemmas.Iterator.Search.{all_from_yields_List}
use Rattle.machine.specs.Limits.{message_in_limits}
use Rattle.machine.proofs.Tests.{every_all}
use Rattle.machine.proofs.limits.messages_ruled.Goals as goal

pub returns : goal.returns
returns c =
    let waits = take c.args.waiting c.args.messages in
    all_from_yields_List message_in_limits _ _ _ c.all.ensures.ran (YieldsList-from_slice waits cc) (λ x b q k. search (rules, tests))
    ∙ every_all message_in_limits waits

-- `machine::limits::orders_ruled` meets its contract. Assumes nothing.
use Rattle.std.proofs.Common.{◌∙◌, rules, tests}
use Rattle.std.proofs.lemmas.Iterator.{YieldsList-from_slice}
use Rattle.std.proofs.lemmas.Iterator.Search.{all_from_yields_List}
use Rattle.machine.specs.Limits.{order_in_limits}
use Rattle.machine.proofs.Tests.{every_all}
use Rattle.machine.proofs.limits.orders_ruled.Goals as goal

pub returns : goal.returns
returns c =
    all_from_yields_List order_in_limits _ _ _ c.all.ensures.ran (YieldsList-from_slice c.args.orders cc) (λ x b q k. search (rules, tests))
    ∙ every_all order_in_limits c.args.orders

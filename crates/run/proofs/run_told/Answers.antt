-- `run::run_told` meets its contract. Assumes nothing.
use Rattle.offer.proofs.Having.{has-from}
use Rattle.machine.proofs.Whole.{state-whole}
use Rattle.run.proofs.RunReturns.{run-unplanned, run-planned, told-unplanned, told-planned, none-spent}
use Rattle.run.proofs.run_told.Goals as goal

ruleset cases = (has-from, none-spent)

ruleset runs = (run-unplanned, run-planned)

ruleset tells = (told-unplanned, told-planned)

pub returns-in_default-clause-is : goal.returns-in_default-clause-is
returns-in_default-clause-is c = search runs

pub returns-in_default-clause-left : goal.returns-in_default-clause-left
returns-in_default-clause-left c = search cases

pub returns-in_default-clause-told : goal.returns-in_default-clause-told
returns-in_default-clause-told c = search tells

pub run_by-requires : goal.run_by-requires
run_by-requires c = let l = (state-whole c.args.state _ c.well_formed.0).messages-long in
    search cases

pub returns-clause-is : goal.returns-clause-is
returns-clause-is c = search runs

pub returns-clause-told : goal.returns-clause-told
returns-clause-told c = search tells

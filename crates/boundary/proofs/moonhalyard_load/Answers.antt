-- `boundary::moonhalyard_load` meets its contract. Assumes nothing.
use Rattle.boundary.proofs.Calling.{load-taken, load-short}
use Rattle.boundary.proofs.moonhalyard_load.Goals as goal

pub returns-then-pack : goal.returns-then-pack
returns-then-pack c = let w = load-taken c.args.plan.now c.args.state.now c.load-r.ensures c.no_tally.ensures c.pack.ensures.fits c.pack.ensures.is c.if-pack.true c.pair_of.ensures in record { is = w.0; bytes = w.1 }

pub returns-else-pack : goal.returns-else-pack
returns-else-pack c = let w = load-short c.args.plan.now c.args.state.now c.load-r.ensures c.no_tally.ensures c.pack.ensures.fits c.pack.ensures.is c.if-pack.false c.pair_of-else-pack.ensures in record { is = w.0; bytes = w.1 }

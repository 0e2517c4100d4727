-- `boundary::moonhalyard_post` meets its contract. Assumes nothing.
use Rattle.boundary.proofs.Calling.{post-taken, post-refused}
use Rattle.boundary.proofs.moonhalyard_post.Goals as goal

pub returns-then-r-eq0 : goal.returns-then-r-eq0
returns-then-r-eq0 c = let w = post-taken _ c.args.state.now c.unpack-k.ensures c.post-r.ensures c.if-r-eq0.true c.pack.ensures.is in record { is = w.0; bytes = w.1 }

pub returns : goal.returns
returns c = let w = post-refused _ c.args.state.now c.unpack-k.ensures c.post-r.ensures c.if-r-eq0.false in record { is = w.0; bytes = w.1 }

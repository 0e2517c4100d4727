-- `fit::search::open_at` meets its contract. Assumes nothing.
use Rattle.std.proofs.Common.{◌≡◌, ◌*◌, get_or, arith}
use Rattle.fit.proofs.SearchReturns.{opens-other}
use Rattle.fit.proofs.search.open_at.Goals as goal

pub returns-in_default : goal.returns-in_default
returns-in_default c =
    let n = get_or c.args.table.now (c.args.k * 13) 0 in
    let z : n ≡ 2 → ⊥ = grind arith in
    let u : n ≡ 18 → ⊥ = grind arith in
    let v : n ≡ 255 → ⊥ = omega arith in
    opens-other _ _ _ _ z u v

-- `fit::fitness::fits_at` meets its contract. Assumes nothing.
use Rattle.std.proofs.Common.{◌≡◌, true, false, arith}
use Rattle.std.proofs.lemmas.Bool.Decides.{nat_tests}
use Rattle.fit.proofs.FitReturns.{head_fits, fits-values, fits-other}
use Rattle.fit.proofs.fitness.fits_at.Goals as goal

pub returns-then-count-le4 : goal.returns-then-count-le4
returns-then-count-le4 c =
    let e : head_fits c.args.table.now c.args.k c.args.letters.now c.args.j ≡ true = grind (arith, nat_tests) in
    fits-values e c.agrees_at.ensures

pub returns-else-count-le4 : goal.returns-else-count-le4
returns-else-count-le4 c =
    let e : head_fits c.args.table.now c.args.k c.args.letters.now c.args.j ≡ false = grind (arith, nat_tests) in
    let f : c.if-count-table.value ≡ false = grind (arith, nat_tests) in
    rw f (fits-other e)

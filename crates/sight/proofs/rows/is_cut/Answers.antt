-- `sight::rows::is_cut` meets its contract. Assumes nothing.
use Rattle.std.proofs.Common.{arith}
use Rattle.std.proofs.lemmas.Bool.Decides.{nat_tests}
use Rattle.sight.proofs.Rowed.{cut_code}
use Rattle.sight.proofs.rows.is_cut.Goals as goal

pub returns-then-kind-eq-NUMBERED_RAISE : goal.returns-then-kind-eq-NUMBERED_RAISE
returns-then-kind-eq-NUMBERED_RAISE c = cut_code (grind (arith, nat_tests))

pub returns-else-kind-eq-NUMBERED_RAISE : goal.returns-else-kind-eq-NUMBERED_RAISE
returns-else-kind-eq-NUMBERED_RAISE c = cut_code (grind (arith, nat_tests))

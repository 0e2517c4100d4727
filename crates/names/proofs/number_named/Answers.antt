-- `names::number_named` meets its contract: where the test does not hold of k, the search from k on goes on from k + 1. Assumes nothing.
use Rattle.std.proofs.Common.{◌≡◌, ℕ, suc, ◌+◌, Bool, false, ◌∙◌, sym, arith}
use Rattle.names.specs.Named.{first_from}
use Rattle.names.proofs.number_named.Goals as goal

later : (n m k : ℕ) (f : ℕ → Bool) → n ≡ suc m → f k ≡ false → first_from n k f ≡ first_from m (k + 1) f
unfolding first_from
later n m k f h e = rw (h, e)

pub loop-k-preserved : goal.loop-k-preserved
loop-k-preserved c = c.loop-k.invariant ∙ later _ _ c.loop-k.k _ (omega arith) (sym c.is_named.ensures ∙ c.if-is_named.false)

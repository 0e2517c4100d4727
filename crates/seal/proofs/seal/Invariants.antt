-- The loop of `seal::seal`: what is left makes of the two sums so far the seal of the whole. Assumes nothing.
use Rattle.std.proofs.Common.{◌≡◌, ◌<◌, drop}
use Rattle.seal.specs.Sealed.{seal_from, seal_of}
use Rattle.seal.proofs.seal.Given as goal

abbrev pub invariant-loop-b : goal.invariant-loop-b
invariant-loop-b l = (l.weight < 4294967296) × (l.moment < 4294967296) × (seal_of l.bytes ≡ seal_from (drop l.b-index l.bytes) l.weight l.moment)

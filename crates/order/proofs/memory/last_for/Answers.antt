-- `order::memory::last_for` meets its contract. Assumes nothing.
use Rattle.std.proofs.Common.{◌≡◌, ℕ, ◌<◌, false, true, get_or, length, MatchOption, rules, ◌∙◌}
use Rattle.order.specs.Answering.{for_part}
use Rattle.order.specs.State.{closing_of}
use Rattle.order.proofs.MemoryReturns.{closings-here, found-last}
use Rattle.order.proofs.memory.last_for.Goals as goal

pub returns : goal.returns
returns c =
    let xs = c.iter.result.rest.now in
    let is_here = λ (k : ℕ). for_part c.args.q (get_or xs k (closing_of 0 0)) in
    let h : MatchOption c.rposition.result ((k : ℕ) → k < length xs → is_here k ≡ false)
    (λ i. (is_here i ≡ true) × ((k : ℕ) → i < k → k < length xs → is_here k ≡ false)) = search rules in
    let e = c.iter.ensures.rest ∙ closings-here c.kept_in.ensures in
    found-last c.args.q c.args.order c.rposition.result (rw e at c.rposition.ensures.bound) (rw e at h)

-- Reading an activity, a list of activities, and a scope with fault parts by number meet their contracts. From an activity to those within it the levels left fall, and along a list the count. Assumes nothing.
use Rattle.plan.specs.Fits.{weigh, weigh_scope, weigh_parts}
use Prim.Native.Nat.{◌+◌}
use Rattle.plan.proofs.tree.+activities_at_activity_at_numbered_at_numbered_scope_at.Given as goal

abbrev pub decreases-activities_at : goal.decreases-activities_at
decreases-activities_at l = weigh l.arms l.depth + (1 + l.left)

abbrev pub decreases-activity_at : goal.decreases-activity_at
decreases-activity_at l = weigh l.arm l.depth

abbrev pub decreases-numbered_at : goal.decreases-numbered_at
decreases-numbered_at l = weigh_parts l.depth l.left

abbrev pub decreases-numbered_scope_at : goal.decreases-numbered_scope_at
decreases-numbered_scope_at l = weigh_scope l.depth

-- Meaning: a run as the code gives it, by what the definitions say. Only `ran_of`, which the contract of `run` names, has to be believed. Assumes nothing: these
-- are definitions.
use Rattle.std.specs.Prelude.{ℕ, ◌+◌}
use Rattle.machine.specs.Calls as calls
use Rattle.run.specs.declared.Ran.{Ran}

-- a run as the code gives it
abbrev pub ran_of : calls.Ran → Ran
ran_of r = record { taken = r.taken; refusal = r.refusal; state = r.state; tally = r.tally }

-- a run after which this many more were taken
abbrev pub after : ℕ → calls.Ran → calls.Ran
after n r = record { taken = n + r.taken; refusal = r.refusal; state = r.state; tally = r.tally }

-- Meaning: a step as one number, and numbers written into a lent buffer. Assumes nothing: these are definitions.
use Rattle.std.specs.Prelude.{ℕ, ◌+◌, ◌*◌, ◌%◌, List, [], ◌∷◌, set}
use Rattle.machine.specs.declared.Step.{Step}
use Rattle.machine.specs.Calls.{end_number}

-- a step as one number, each part within a byte: the fault first, then the refusal, the slot, the activity, the message place and the end
unfoldable pub step_number : Step → ℕ
step_number x =
    x.fault * 1099511627776 + x.refusal % 256 * 4294967296 + x.slot % 256 * 16777216 + x.activity % 256 * 65536 + x.place % 256 * 256 + end_number x.end % 256

-- a buffer with these numbers in it, one after the other from the place i on; those for which there is no place are left out
unfoldable pub filled : (i : ℕ) → List ℕ → (out : List ℕ) → List ℕ
filled i [] out = out
filled i (x ∷ l) out = filled (i + 1) l (set out i x)

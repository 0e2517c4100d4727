-- Meaning: what the exported function answers, as one number. Assumes nothing: these are definitions.
use Rattle.std.specs.Prelude.{ℕ, ◌+◌, ◌*◌, ◌%◌, Result, Ok, Err}
use Rattle.mend.specs.Outcome.{Refusal}
use Rattle.mend.specs.declared.Mended.{Mended}

-- a refusal's number, and its place, which has 32 bits; or the groups cut and the length, which are at most 4,096 and have 16 bits each
unfoldable pub answer_number : Result Mended Refusal → ℕ
answer_number (Err r) = r.number * 4294967296 + r.place % 4294967296
answer_number (Ok m) = m.cut % 65536 * 65536 + m.length % 65536

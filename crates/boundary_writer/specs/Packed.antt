-- Meaning: what the exported functions answer, as one number. Assumes nothing: these are definitions.
use Rattle.std.specs.Prelude.{ℕ, ◌+◌, ◌*◌, ◌%◌, Result, Ok, Err}
use Rattle.plan.specs.declared.Refusal.{Refusal}

-- a refusal's number, and its place, which has 32 bits; or a length, which has 32 bits too
unfoldable pub answer_number : Result ℕ Refusal → ℕ
answer_number (Err why) = why.number * 4294967296 + why.place % 4294967296
answer_number (Ok length) = length % 4294967296

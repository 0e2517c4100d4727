-- Glue: what a function that writes bytes from a place on leaves. Assumes nothing: this is a definition, and nothing here has to be believed.
use Rattle.std.specs.Prelude.{ℕ, List, ◌≡◌, length}
use Rattle.std.proofs.lemmas.List.Edits.{sets}

-- `after` is `before` with these n bytes from the place `at` on
pub record Put (before after : List ℕ) (at n : ℕ) (bytes : List ℕ) : Type 0 where
  pub is : after ≡ sets before at bytes
  pub size : length bytes ≡ n

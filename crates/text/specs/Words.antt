-- Meaning: words of a line: what stands between blanks. Assumes nothing: these are definitions.
use Rattle.std.specs.Prelude.{ℕ, ◌+◌, ◌-◌, min, Bool, not, ◌||◌, List, length, take, drop, eqb, bytes_eq}
use Rattle.std.specs.List.{prefix_len, list_all}
use Rattle.text.specs.declared.Word.{Word}

-- a space or a tab; and what is neither
abbrev pub blank : ℕ → Bool
blank b = eqb b 32 || eqb b 9

abbrev pub solid : ℕ → Bool
solid b = not (blank b)

-- how many at the start of a text keep the rule p, one after the other
abbrev pub run : (p : ℕ → Bool) → List ℕ → ℕ
run p s = prefix_len p s

-- whether all of a text keeps the rule p
abbrev pub all : (p : ℕ → Bool) → List ℕ → Bool
all p s = list_all p s

-- the place of the first that is no blank, and of the first blank
abbrev pub word_start : List ℕ → (at : ℕ) → ℕ
word_start s at = at + run blank (drop at s)

abbrev pub word_stop : List ℕ → (at : ℕ) → ℕ
word_stop s at = at + run solid (drop at s)

-- the first word from the place `at` on, or from the end where `at` lies behind it
unfoldable pub word_at : List ℕ → (at : ℕ) → Word
word_at s at =
    record { from = word_start s (min at (length s)); to = word_stop s (word_start s (min at (length s))) }

-- the text of a word
abbrev pub text_of : List ℕ → (from to : ℕ) → List ℕ
text_of s from to = take (to - from) (drop from s)

-- whether two texts are the same
abbrev pub same_text : List ℕ → List ℕ → Bool
same_text s t = bytes_eq s t

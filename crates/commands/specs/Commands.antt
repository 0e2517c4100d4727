-- Meaning: the commands of the desk, by the words of a line. Assumes nothing: these are definitions.
use Rattle.std.specs.Prelude.{ℕ, ◌≤◌, cond, List, [], ◌∷◌, length, get_or, eqb, ltb, leb, Result, Ok, Err}
use Rattle.text.specs.declared.Word.{Word}
use Rattle.text.specs.declared.DecimalError.{DecimalError}
use Rattle.commands.specs.declared.Alone.{Alone}
use Rattle.commands.specs.declared.Worded.{Worded}
use Rattle.commands.specs.declared.Numbered.{Numbered}
use Rattle.commands.specs.declared.Listed.{Listed}
use Rattle.commands.specs.declared.Verb.{Verb}
use Rattle.commands.specs.declared.Trouble.{Trouble}
use Rattle.commands.specs.declared.Command.{Command}
use Rattle.text.specs.Words.{word_at, text_of, same_text}
use Rattle.text.specs.Decimals.{decimal_of}

-- the command words, in ASCII
abbrev pub draw_word : List ℕ
draw_word = 100 ∷ 114 ∷ 97 ∷ 119 ∷ []

abbrev pub offer_word : List ℕ
offer_word = 111 ∷ 102 ∷ 102 ∷ 101 ∷ 114 ∷ []

abbrev pub collect_word : List ℕ
collect_word = 99 ∷ 111 ∷ 108 ∷ 108 ∷ 101 ∷ 99 ∷ 116 ∷ []

abbrev pub waiting_word : List ℕ
waiting_word = 119 ∷ 97 ∷ 105 ∷ 116 ∷ 105 ∷ 110 ∷ 103 ∷ []

abbrev pub tally_word : List ℕ
tally_word = 116 ∷ 97 ∷ 108 ∷ 108 ∷ 121 ∷ []

abbrev pub orders_word : List ℕ
orders_word = 111 ∷ 114 ∷ 100 ∷ 101 ∷ 114 ∷ 115 ∷ []

abbrev pub offers_word : List ℕ
offers_word = 111 ∷ 102 ∷ 102 ∷ 101 ∷ 114 ∷ 115 ∷ []

abbrev pub names_word : List ℕ
names_word = 110 ∷ 97 ∷ 109 ∷ 101 ∷ 115 ∷ []

abbrev pub check_word : List ℕ
check_word = 99 ∷ 104 ∷ 101 ∷ 99 ∷ 107 ∷ []

abbrev pub write_word : List ℕ
write_word = 119 ∷ 114 ∷ 105 ∷ 116 ∷ 101 ∷ []

abbrev pub plan_word : List ℕ
plan_word = 112 ∷ 108 ∷ 97 ∷ 110 ∷ []

abbrev pub save_word : List ℕ
save_word = 115 ∷ 97 ∷ 118 ∷ 101 ∷ []

abbrev pub open_word : List ℕ
open_word = 111 ∷ 112 ∷ 101 ∷ 110 ∷ []

abbrev pub mend_word : List ℕ
mend_word = 109 ∷ 101 ∷ 110 ∷ 100 ∷ []

abbrev pub show_word : List ℕ
show_word = 115 ∷ 104 ∷ 111 ∷ 119 ∷ []

abbrev pub step_word : List ℕ
step_word = 115 ∷ 116 ∷ 101 ∷ 112 ∷ []

abbrev pub order_word : List ℕ
order_word = 111 ∷ 114 ∷ 100 ∷ 101 ∷ 114 ∷ []

abbrev pub post_word : List ℕ
post_word = 112 ∷ 111 ∷ 115 ∷ 116 ∷ []

abbrev pub run_word : List ℕ
run_word = 114 ∷ 117 ∷ 110 ∷ []

-- a word on plans that stands alone; else what the word asks for otherwise
unfoldable pub on_plan_of : List ℕ → Verb → Verb
on_plan_of w other =
    cond (same_text w names_word) (Verb.Alone Alone.Names)
    (cond (same_text w check_word) (Verb.Alone Alone.Check)
    (cond (same_text w write_word) (Verb.Alone Alone.Write) other))

-- a word that stands alone; else what the word asks for otherwise
unfoldable pub alone_of : List ℕ → Verb → Verb
alone_of w other =
    cond (same_text w draw_word) (Verb.Alone Alone.Draw)
    (cond (same_text w offer_word) (Verb.Alone Alone.Offer)
    (cond (same_text w collect_word) (Verb.Alone Alone.Collect)
    (cond (same_text w waiting_word) (Verb.Alone Alone.Waiting)
    (cond (same_text w tally_word) (Verb.Alone Alone.Tally)
    (cond (same_text w orders_word) (Verb.Alone Alone.Orders)
    (cond (same_text w offers_word) (Verb.Alone Alone.Offers) (on_plan_of w other)))))))

-- one that takes a word; else what the word asks for otherwise
unfoldable pub worded_of : List ℕ → Verb → Verb
worded_of w other =
    cond (same_text w plan_word) (Verb.Worded Worded.Plan)
    (cond (same_text w save_word) (Verb.Worded Worded.Save)
    (cond (same_text w open_word) (Verb.Worded Worded.Open)
    (cond (same_text w mend_word) (Verb.Worded Worded.Mend) other)))

-- one that takes a number; else what the word asks for otherwise
unfoldable pub numbered_of : List ℕ → Verb → Verb
numbered_of w other =
    cond (same_text w show_word) (Verb.Numbered Numbered.Show)
    (cond (same_text w step_word) (Verb.Numbered Numbered.Step)
    (cond (same_text w order_word) (Verb.Numbered Numbered.Order) other))

-- one that takes numbers; else what the word asks for otherwise
unfoldable pub listed_of : List ℕ → Verb → Verb
listed_of w other =
    cond (same_text w post_word) (Verb.Listed Listed.Post)
    (cond (same_text w run_word) (Verb.Listed Listed.Run) other)

-- what a first word asks for: nothing where there is none, or where it begins with '#'
unfoldable pub verb_of : List ℕ → Verb
verb_of w =
    cond (eqb (length w) 0) Verb.Nothing
    (cond (eqb (get_or w 0 0) 35) Verb.Nothing (alone_of w (worded_of w (numbered_of w (listed_of w Verb.Unknown)))))

-- what is wrong with a line where a word is no number
abbrev pub trouble_of : DecimalError → Trouble
trouble_of DecimalError.Large = Trouble.Large
trouble_of DecimalError.Bad = Trouble.Unnumbered

-- a command by its number
abbrev pub number_by : Numbered → Result ℕ DecimalError → Result Command Trouble
number_by what (Ok value) = Ok (Command.Numbered what value)
number_by what (Err e) = Err (trouble_of e)

unfoldable pub number_of : Numbered → List ℕ → Result Command Trouble
number_of what w = number_by what (decimal_of w)

-- of the words v and w after a command that takes one word more than its own, that word
unfoldable pub one_of : (v w : Word) → Result Word Trouble
one_of v w = cond (leb v.to v.from) (Err Trouble.Missing) (cond (ltb w.from w.to) (Err Trouble.Extra) (Ok v))

-- a command that takes one word more than its own, by that word
abbrev pub with_one : Result Word Trouble → (Word → Result Command Trouble) → Result Command Trouble
with_one (Ok v) f = f v
with_one (Err why) f = Err why

-- a command by its verb and the words after it: u is the command word
abbrev pub by_verb : List ℕ → Verb → (u v w : Word) → Result Command Trouble
by_verb s Verb.Nothing u v w = Ok Command.Nothing
by_verb s Verb.Unknown u v w = Err Trouble.Unknown
by_verb s (Verb.Alone what) u v w = cond (ltb v.from v.to) (Err Trouble.Extra) (Ok (Command.Alone what))
by_verb s (Verb.Worded what) u v w = with_one (one_of v w) (λ x. Ok (Command.Worded what x.from x.to))
by_verb s (Verb.Numbered what) u v w = with_one (one_of v w) (λ x. number_of what (text_of s x.from x.to))
by_verb s (Verb.Listed what) u v w = Ok (Command.Listed what u.to)

abbrev pub second : List ℕ → Word
second s = word_at s (word_at s 0).to

unfoldable pub command_of : List ℕ → Result Command Trouble
command_of s =
    by_verb s (verb_of (text_of s (word_at s 0).from (word_at s 0).to)) (word_at s 0) (second s) (word_at s (second s).to)

-- the word that a command takes lies within its line
abbrev pub Inside : List ℕ → Result Command Trouble → Type 0
Inside s (Ok (Command.Worded what from to)) = (from ≤ to) × (to ≤ length s)
Inside s (Ok Command.Nothing) = Unit
Inside s (Err why) = Unit
Inside s (Ok (Command.Alone what)) = Unit
Inside s (Ok (Command.Numbered what k)) = Unit
Inside s (Ok (Command.Listed what from)) = Unit

-- `commands::command_of` meets its contract: a command with a number has no word that could lie outside. Assumes nothing.
use Rattle.std.proofs.Common.{◌≡◌, ℕ, List, Result, Ok, Err}
use Rattle.text.specs.declared.DecimalError.{DecimalError}
use Rattle.text.specs.Decimals.{decimal_of}
use Rattle.commands.specs.declared.Numbered.{Numbered}
use Rattle.commands.specs.declared.Trouble.{Trouble}
use Rattle.commands.specs.declared.Command.{Command}
use Rattle.commands.specs.Commands.{number_by, number_of, Inside}
use Rattle.commands.proofs.command_of.Goals as goal

by_number : (what : Numbered) (s : List ℕ) (d : Result ℕ DecimalError) → Inside s (number_by what d)
by_number what s (Ok value) = tt
by_number what s (Err e) = tt

number-inside : (what : Numbered) (s t : List ℕ) {c : Result Command Trouble} → c ≡ number_of what t → Inside s c
unfolding number_of
number-inside what s t e = rw e (by_number what s (decimal_of t))

pub returns-in_ok-from-in-Numbered-clause-inside : goal.returns-in_ok-from-in-Numbered-clause-inside
returns-in_ok-from-in-Numbered-clause-inside c = number-inside _ _ _ c.number_of.ensures

-- `beginning::begin`, `begin_all` and `begin_in_turn` meet their contracts. Assumes nothing.
use borrow.Author.Rules.{rules}
use Rattle.std.proofs.lemmas.Bool.{not-true, not-false}
use Rattle.beginning.proofs.BeginReturns.{begin-far, begin-empty, begin-sequence, begin-flow, begin-scope, begin-bare, begin-awaiting, turning-far, turning-starts, turning-done, turning-stops, turning-again, joining-starts, joining-done, joining-again}
use Rattle.beginning.proofs.+begin_begin_all_begin_in_turn.Goals as goal
use Rattle.beginning.proofs.+begin_begin_all_begin_in_turn.Goals.{begin_all-then-over, begin_all-else-over}

ruleset cases = (not-true, not-false, begin-far, begin-empty, begin-sequence, begin-flow, begin-scope, begin-bare, begin-awaiting, turning-far, turning-starts, turning-done, turning-stops, turning-again, joining-starts, joining-done, joining-again)

pub begin-returns-then-k-ge256 : goal.begin-returns-then-k-ge256
begin-returns-then-k-ge256 t c = search cases

pub begin_all-loop-i-init : goal.begin_all-loop-i-init
begin_all-loop-i-init t c = (search rules, search cases)

pub begin_all-loop-i-preserved : goal.begin_all-loop-i-preserved
begin_all-loop-i-preserved t c = (
  search rules,
  elim c.if-over.branch [
    | begin_all-then-over w ↦ search (cases, rules)
    | begin_all-else-over w ↦ search (cases, rules)
  ],
)

pub begin_all-returns : goal.begin_all-returns
begin_all-returns t c = search cases

pub begin_in_turn-returns-then-e-gt256 : goal.begin_in_turn-returns-then-e-gt256
begin_in_turn-returns-then-e-gt256 t c = search cases

pub begin_in_turn-loop-j-init : goal.begin_in_turn-loop-j-init
begin_in_turn-loop-j-init t c = (search rules, search cases)

pub begin_in_turn-loop-j-preserved : goal.begin_in_turn-loop-j-preserved
begin_in_turn-loop-j-preserved t c = (search rules, search cases)

pub begin_in_turn-returns-then-not-r : goal.begin_in_turn-returns-then-not-r
begin_in_turn-returns-then-not-r t c = search cases

pub begin_in_turn-returns : goal.begin_in_turn-returns
begin_in_turn-returns t c = search cases

pub begin-returns-in-0 : goal.begin-returns-in-0
begin-returns-in-0 t c = search cases

pub begin-returns-in_default : goal.begin-returns-in_default
begin-returns-in_default t c = search cases

pub begin-returns-in_default-2 : goal.begin-returns-in_default-2
begin-returns-in_default-2 t c = search cases

pub begin-returns-in_default-2-2 : goal.begin-returns-in_default-2-2
begin-returns-in_default-2-2 t c = search cases

pub begin-returns-in-8 : goal.begin-returns-in-8
begin-returns-in-8 t c = search cases

pub begin-returns-in-9 : goal.begin-returns-in-9
begin-returns-in-9 t c = search cases

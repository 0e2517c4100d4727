-- `rows::rows` meets its contract. Assumes nothing.
use Rattle.rows.proofs.RowsReturns.{rows-no, rows-no-table, rows-acts, rows-first, rows_few, rows_fit, rows_short, rows-short-table, rows-room, rows-yes, rows-yes-table}
use native.Mathlib.Omega.{arith}
use Rattle.numbers.specs.Shortest.{Bytes}
use Rattle.rows.proofs.rows.Goals as goal

pub returns-in_err-plan-clause-is : goal.returns-in_err-plan-clause-is
returns-in_err-plan-clause-is c = rows-no _ c.in_err-plan.ensures.is _ c.from_residual.ensures.1

pub returns-in_err-plan-clause-table : goal.returns-in_err-plan-clause-table
returns-in_err-plan-clause-table c = rows-no-table _ c.in_err-plan.ensures.is _

pub overflow_add-left : goal.overflow_add-left
overflow_add-left c = rows-first _ c.in_ok-plan.ensures.is

pub between-requires : goal.between-requires
between-requires c = rows-acts _ c.in_ok-plan.ensures.is

pub overflow_add-left-2 : goal.overflow_add-left-2
overflow_add-left-2 c = rows_fit _ c.in_ok-plan.ensures.is c.in_ok-plan.ensures.rows c.between.ensures

pub returns-then-out-left-clause-is : goal.returns-then-out-left-clause-is
returns-then-out-left-clause-is c = rows_short _ c.in_ok-plan.ensures.is c.in_ok-plan.ensures.rows c.between.ensures _ c.if-out-left.true

pub returns-then-out-left-clause-table : goal.returns-then-out-left-clause-table
returns-then-out-left-clause-table c = rows-short-table _ c.in_ok-plan.ensures.is c.in_ok-plan.ensures.rows c.between.ensures _ c.if-out-left.true

pub put_rows-requires : goal.put_rows-requires
put_rows-requires c =
    (rows-room _ c.in_ok-plan.ensures.is c.in_ok-plan.ensures.rows c.between.ensures _ c.if-out-left.false, rows_few _ c.in_ok-plan.ensures.is c.in_ok-plan.ensures.rows c.between.ensures)

pub returns-clause-is : goal.returns-clause-is
returns-clause-is c = rows-yes _ c.in_ok-plan.ensures.is c.in_ok-plan.ensures.rows c.between.ensures _ c.if-out-left.false

pub returns-clause-table : goal.returns-clause-table
returns-clause-table c =
    let y : Bytes c.args.s.now = λ i. omega (arith, c.shared_slice_known-1.given i) in
    rows-yes-table _ c.in_ok-plan.ensures.is c.in_ok-plan.ensures.rows c.between.ensures _ c.if-out-left.false y c.put_rows.ensures

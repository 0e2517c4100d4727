-- `plan::named::fault_number_at` meets its contract. Assumes nothing.
use Rattle.plan.proofs.NumberedReads.{fault-number-handed, fault-number-good, fault-number-bad, fault-number-known}
use Rattle.plan.proofs.OneNumber.{returned, number-none, number_fits}
use native.Mathlib.Omega.{arith}
use mathlib.Core.Path.{◌∙◌}
use Rattle.plan.proofs.Listed.{among-listed}
use Rattle.plan.proofs.named.fault_number_at.Goals.{else-is_namable-via-then-is_namable+else-not-contains, else-is_namable-via-else-is_namable}
use Rattle.plan.proofs.named.fault_number_at.Goals as goal

ruleset cases = (fault-number-handed, fault-number-good, fault-number-bad, number-none, number_fits)

pub returns-in_err-read : goal.returns-in_err-read
returns-in_err-read c = rw (returned c.from_residual.ensures.1) (search (cases, c.in_err-read.was))

pub returns-then-not-contains : goal.returns-then-not-contains
returns-then-not-contains c =
    let j = c.contains.ensures.value ∙ among-listed c.in_ok-read.read.value c.args.numbers c.args.k (omega arith) in
    record {
      is = fault-number-good _ _ _ _ c.number_at.ensures.is c.in_ok-read.was c.is_namable.ensures j c.if-is_namable.true c.if-not-contains.true;
      fits = c.in_ok-read.ensures.fits;
    }

pub returns : goal.returns
returns c =
    let e = c.number_at.ensures.is in
    record {
      is = elim c.else-is_namable.branch [
        | else-is_namable-via-then-is_namable+else-not-contains w ↦
            let j = w.contains.ensures.value ∙ among-listed c.in_ok-read.read.value c.args.numbers c.args.k (omega arith) in
            fault-number-known _ _ _ _ e c.in_ok-read.was c.is_namable.ensures j w.if-is_namable.true w.if-not-contains.false
        | else-is_namable-via-else-is_namable w ↦ fault-number-bad _ _ _ _ e c.in_ok-read.was c.is_namable.ensures w.if-is_namable.false
      ];
      fits = tt;
    }

-- `writer::write` meets its contract. Assumes nothing.
use Rattle.writer.proofs.WriteReturns.{write-no, write-no-bytes, write-long, write-long-bytes, write-short, write-short-bytes, write-room, write-yes, write-yes-bytes, write-yes-long}
use Rattle.writer.proofs.write.Goals as goal

pub returns-in_err-agreed_at-clause-is : goal.returns-in_err-agreed_at-clause-is
returns-in_err-agreed_at-clause-is c = write-no _ _ c.in_err-agreed_at.ensures c.from_residual.ensures.1

pub returns-in_err-agreed_at-clause-bytes : goal.returns-in_err-agreed_at-clause-bytes
returns-in_err-agreed_at-clause-bytes c = write-no-bytes _ _ c.in_err-agreed_at.ensures

pub returns-in_default-clause-is : goal.returns-in_default-clause-is
returns-in_default-clause-is c = write-long _ _ c.in_ok-agreed_at.ensures c.in_default.ensures

pub returns-in_default-clause-bytes : goal.returns-in_default-clause-bytes
returns-in_default-clause-bytes c = write-long-bytes _ _ c.in_ok-agreed_at.ensures c.in_default.ensures

pub returns-then-out-long-clause-is : goal.returns-then-out-long-clause-is
returns-then-out-long-clause-is c = write-short _ _ c.in_ok-agreed_at.ensures c.in-Some.ensures c.if-out-long.true

pub returns-then-out-long-clause-bytes : goal.returns-then-out-long-clause-bytes
returns-then-out-long-clause-bytes c = write-short-bytes _ _ c.in_ok-agreed_at.ensures c.in-Some.ensures c.if-out-long.true

pub write_all-requires : goal.write_all-requires
write_all-requires c = write-room _ _ c.in_ok-agreed_at.ensures c.in-Some.ensures c.if-out-long.false

pub returns-clause-is : goal.returns-clause-is
returns-clause-is c = write-yes _ _ c.in_ok-agreed_at.ensures c.in-Some.ensures c.if-out-long.false

pub returns-clause-bytes : goal.returns-clause-bytes
returns-clause-bytes c = write-yes-bytes _ _ c.in_ok-agreed_at.ensures c.in-Some.ensures c.if-out-long.false c.write_all.ensures

pub shape_of-out : goal.shape_of-out
shape_of-out c = write-yes-long _ _ c.in_ok-agreed_at.ensures c.in-Some.ensures c.if-out-long.false c.write_all.ensures

-- `store::write_message` meets its contract. Assumes nothing.
use Rattle.store.proofs.Parts.{message-fits, message-no}
use borrow.Author.Tests.{le-leb, lt-leb}
use mathlib.Core.Path.{sym}
use Rattle.store.proofs.write_message.Goals as goal

pub returns : goal.returns
returns c = record { fits = sym (le-leb _ _ c.if-out-lt32.false); is = message-fits c.args.m c.args.out.now c.if-out-lt32.false c.put_message.ensures }

pub returns-then-out-lt32 : goal.returns-then-out-lt32
returns-then-out-lt32 c = record { fits = sym (lt-leb _ _ c.if-out-lt32.true); is = message-no c.args.m c.args.out.now c.if-out-lt32.true }

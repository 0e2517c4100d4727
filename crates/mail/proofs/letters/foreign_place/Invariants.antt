-- `mail::letters::foreign_place` meets its contract. The loop's invariant: the messages before i are for partners of the plan. Assumes nothing.
use Prim.Native.Nat.{◌-◌}
use lib.ListN.{take}
use Rattle.machine.proofs.Moved.{Seeking}
use Rattle.mail.proofs.letters.foreign_place.Given as goal

abbrev pub invariant-loop-i : goal.invariant-loop-i
invariant-loop-i l = Seeking l.table (take l.waiting l.fn.messages) l.waiting l.i

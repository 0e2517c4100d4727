-- `store::writing::put_order` meets its contract. Assumes nothing.
use Rattle.store.proofs.Parts.{room-bytes, room-fours, order-put}
use native.Mathlib.Omega.{arith}
use Rattle.order.proofs.Whole.{order-whole}
use Rattle.store.proofs.writing.put_order.Goals as goal

pub put_bytes-requires : goal.put_bytes-requires
put_bytes-requires c = let w = order-whole c.args.o _ c.well_formed.1.1.0 in room-bytes 256 _ c.args.o.marks w.marks-long (omega (arith, c.requires, c.put_byte.auto))

pub put_fours-requires : goal.put_fours-requires
put_fours-requires c = let w = order-whole c.args.o _ c.well_formed.1.1.0 in room-fours 16 _ c.args.o.values w.values-long (omega (arith, c.requires, c.put_byte.auto, c.put_bytes.auto))

pub put_bytes-requires-2 : goal.put_bytes-requires-2
put_bytes-requires-2 c = let w = order-whole c.args.o _ c.well_formed.1.1.0 in room-bytes 16 _ c.args.o.bound w.bound-long (omega (arith, c.requires, c.put_byte.auto, c.put_bytes.auto, c.put_fours.auto))

pub put_closings-requires : goal.put_closings-requires
put_closings-requires c = omega (arith, c.requires, c.put_byte.auto, c.put_bytes.auto, c.put_fours.auto, c.put_bytes-2.auto)

pub put_eight-requires : goal.put_eight-requires
put_eight-requires c = omega (arith, c.requires, c.put_byte.auto, c.put_bytes.auto, c.put_fours.auto, c.put_bytes-2.auto, c.put_closings.auto)

pub put_byte-requires-2 : goal.put_byte-requires-2
put_byte-requires-2 c = omega (arith, c.requires, c.put_byte.auto, c.put_bytes.auto, c.put_fours.auto, c.put_bytes-2.auto, c.put_closings.auto, c.put_eight.auto)

pub shape_of-out : goal.shape_of-out
shape_of-out c = omega (arith, c.put_byte.auto, c.put_bytes.auto, c.put_fours.auto, c.put_bytes-2.auto, c.put_closings.auto, c.put_eight.auto, c.put_byte-2.auto)

pub returns : goal.returns
returns c = order-put c.args.o (order-whole c.args.o _ c.well_formed.1.1.0) c.put_byte.ensures c.put_bytes.ensures c.put_fours.ensures c.put_bytes-2.ensures c.put_closings.ensures c.put_eight.ensures c.put_byte-2.ensures

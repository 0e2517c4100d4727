-- `store::writing::put_bytes` meets its contract. Assumes nothing.
use Rattle.std.proofs.Common.{length, refl, arith}
use Rattle.std.proofs.lemmas.Slice.{put_mid-paste}
use Rattle.store.proofs.Puts.{put_pasted}
use Rattle.store.proofs.writing.put_bytes.Goals as goal

pub returns : goal.returns
returns c =
    put_pasted _ _ _ c.requires
    (put_mid-paste _ _ _ _ c.args.s.now (length c.args.s.now) c.copy_from_slice.ensures.after (omega arith) refl)

-- A state of today comes out as it is; and where the bytes of one of the second version stand in the third, and those of the third now, computed. Assumes nothing.
use mathlib.Core.Path.{◌≡◌, refl}
use mathlib.Core.Bool.{Bool, true, false}
use mathlib.Core.List.{List}
use Prim.Native.Nat.{ℕ}
use borrow.Author.Tests.{eqb-true}
use lib.Dec.{eqb}
use lib.ListN.{length, get_or}
use Rattle.store.specs.Packed.{holds}
use Rattle.boundary_state.specs.Older.{marked, holds_first, holds_second, holds_third, cause_byte, byte_with, reply_byte, byte_now}
use Rattle.boundary_state.specs.Upgrade.{brought_up, upgrade_number, upgrade_bytes}
use Rattle.boundary_state.proofs.Upgrading.{and_first}

-- bytes that hold a state of today hold none of an older version, which has other lengths
today-long : (s : List ℕ) → holds s ≡ true → length s ≡ 12748
unfolding holds
today-long s h = eqb-true (length s) 12748 (and_first (eqb (length s) 12748) _ h)

never_first : (s : List ℕ) → length s ≡ 12748 → holds_first s ≡ false
unfolding marked
never_first s e = rw e

never-second : (s : List ℕ) → length s ≡ 12748 → holds_second s ≡ false
unfolding marked
never-second s e = rw e

never-third : (s : List ℕ) → length s ≡ 12748 → holds_third s ≡ false
unfolding marked
never-third s e = rw e

pub today-stays : (s l : List ℕ) → length l ≡ 12748 → holds s ≡ true → (upgrade_number s l ≡ 0) × (upgrade_bytes s l ≡ s)
unfolding upgrade_number upgrade_bytes brought_up
today-stays s l e h =
    let n = today-long s h in
    let a = never_first s n in
    let b = never-second s n in
    let c = never-third s n in
    (rw (e, a, b, c, h), rw (e, a, b, c, h))

-- the mark's last figure; what stands last before the orders; the first order's root, its last byte as it was, and its cause; the second's root; the last order's
-- last byte as it was, and its cause
module _ (s : List ℕ) where
  places : (byte_with s 7 ≡ 51) × (byte_with s 5931 ≡ get_or s 5931 0) × (byte_with s 5932 ≡ get_or s 5932 0) × (byte_with s 6340 ≡ get_or s 6340 0) × (byte_with s 6341 ≡ 0)
      × (byte_with s 6342 ≡ get_or s 6341 0) × (byte_with s 12490 ≡ get_or s 12475 0) × (byte_with s 12491 ≡ 0)
  unfolding byte_with cause_byte
  places = (refl, refl, refl, refl, refl, refl, refl, refl)

  -- the mark's last figure; what stands last before the messages; the first message's partner, the last byte of its values, and its partner to reply to from its first byte
  -- to its last; the second's partner; the last message's last byte as it was, and the last of its partner to reply to; the first order's root; the last order's last byte
  replies : (byte_now s 7 ≡ 52) × (byte_now s 4139 ≡ get_or s 4139 0) × (byte_now s 4140 ≡ get_or s 4140 0) × (byte_now s 4167 ≡ get_or s 4167 0) × (byte_now s 4168 ≡ 0)
      × (byte_now s 4171 ≡ 0) × (byte_now s 4172 ≡ get_or s 4168 0) × (byte_now s 6183 ≡ get_or s 5931 0) × (byte_now s 6187 ≡ 0) × (byte_now s 6188 ≡ get_or s 5932 0)
      × (byte_now s 12747 ≡ get_or s 12491 0)
  unfolding byte_now reply_byte
  replies = (refl, refl, refl, refl, refl, refl, refl, refl, refl, refl, refl)

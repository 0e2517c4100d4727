-- What bringing a state up to date answers and leaves, at each of its returns; and that a state of today comes out as it is. Assumes nothing.
use mathlib.Core.Path.{◌≡◌, refl, sym, ap, ◌∙◌}
use mathlib.Core.Bool.{Bool, true, false, cond, ◌&&◌}
use mathlib.Core.List.{List}
use Prim.Native.Nat.{ℕ}
use borrow.Author.Tests.{ne_eqb, eqb-true}
use lib.Dec.{eqb}
use lib.ListN.{length}
use Rattle.store.specs.Bytes.{valued, number_in, eight_at}
use Rattle.store.specs.Packed.{mark, holds}
use Rattle.boundary_state.specs.Older.{marked, first_mark, second_mark, third_mark, holds_first, holds_second, holds_third, renewed, with_causes, with_replies}
use Rattle.boundary_state.specs.Upgrade.{brought_up, upgrade_number, upgrade_bytes}

-- bytes of a version are as many as it has
pub and_first : (a b : Bool) → (a && b) ≡ true → a ≡ true
and_first true b e = refl
and_first false b e = e

pub marked-length : (s : List ℕ) (n m : ℕ) {b : Bool} → b ≡ marked n m s → b ≡ true → length s ≡ n
unfolding marked
marked-length s n m e q = eqb-true (length s) n (and_first (eqb (length s) n) _ (sym e ∙ q))

-- the marks as numbers
first-number : (s : List ℕ) → marked 11964 3552285984895749965 s ≡ holds_first s
unfolding valued
first-number s = refl

second-number : (s : List ℕ) → marked 12476 3624343578933677901 s ≡ holds_second s
unfolding valued
second-number s = refl

third-number : (s : List ℕ) → marked 12492 3696401172971605837 s ≡ holds_third s
unfolding valued
third-number s = refl

-- what is marked as today's is what is read as such
today-number : (s : List ℕ) → marked 12748 3768458767009533773 s ≡ holds s
unfolding marked holds valued eight_at
today-number s = by_length (eqb (length s) 12748) refl
  where
    by_length : (b : Bool) → eqb (length s) 12748 ≡ b → (b && eqb (eight_at s 0) 3768458767009533773) ≡ (b && eqb (number_in 8 s) 3768458767009533773)
    by_length true e = let q : length s ≡ 12748 = eqb-true (length s) 12748 e in rw q
    by_length false e = refl

module _ (s l : List ℕ) where
  pub short : (length l ≡ 12748 → ⊥) → (18 ≡ upgrade_number s l) × (l ≡ upgrade_bytes s l)
  unfolding upgrade_number upgrade_bytes
  short h = let z = ne_eqb (length l) 12748 h in (rw z, rw z)

  module _ (h : length l ≡ 12748) {a : Bool} (ea : a ≡ marked 11964 3552285984895749965 s) where
    pub first : {o : List ℕ} → a ≡ true → o ≡ with_replies (with_causes (renewed s)) → (0 ≡ upgrade_number s l) × (o ≡ upgrade_bytes s l)
    unfolding upgrade_number upgrade_bytes brought_up
    first q g = let y : holds_first s ≡ true = sym (ea ∙ first-number s) ∙ q in (rw (h, y), rw (h, y) g)

    module _ {b : Bool} (qa : a ≡ false) (eb : b ≡ marked 12476 3624343578933677901 s) where
      pub second : {o : List ℕ} → b ≡ true → o ≡ with_replies (with_causes s) → (0 ≡ upgrade_number s l) × (o ≡ upgrade_bytes s l)
      unfolding upgrade_number upgrade_bytes brought_up
      second q g =
          let y : holds_first s ≡ false = sym (ea ∙ first-number s) ∙ qa in
          let z : holds_second s ≡ true = sym (eb ∙ second-number s) ∙ q in
          (rw (h, y, z), rw (h, y, z) g)

      module _ {c : Bool} (qb : b ≡ false) (ec : c ≡ marked 12492 3696401172971605837 s) where
        pub third : {o : List ℕ} → c ≡ true → o ≡ with_replies s → (0 ≡ upgrade_number s l) × (o ≡ upgrade_bytes s l)
        unfolding upgrade_number upgrade_bytes brought_up
        third q g =
            let y : holds_first s ≡ false = sym (ea ∙ first-number s) ∙ qa in
            let z : holds_second s ≡ false = sym (eb ∙ second-number s) ∙ qb in
            let w : holds_third s ≡ true = sym (ec ∙ third-number s) ∙ q in
            (rw (h, y, z, w), rw (h, y, z, w) g)

        module _ {d : Bool} (qc : c ≡ false) (ed : d ≡ marked 12748 3768458767009533773 s) where
          pub today : {o : List ℕ} → d ≡ true → o ≡ s → (0 ≡ upgrade_number s l) × (o ≡ upgrade_bytes s l)
          unfolding upgrade_number upgrade_bytes brought_up
          today q g =
              let y : holds_first s ≡ false = sym (ea ∙ first-number s) ∙ qa in
              let z : holds_second s ≡ false = sym (eb ∙ second-number s) ∙ qb in
              let w : holds_third s ≡ false = sym (ec ∙ third-number s) ∙ qc in
              let x : holds s ≡ true = sym (ed ∙ today-number s) ∙ q in
              (rw (h, y, z, w, x), rw (h, y, z, w, x) g)

          pub none : d ≡ false → (17 ≡ upgrade_number s l) × (l ≡ upgrade_bytes s l)
          unfolding upgrade_number upgrade_bytes
          none q =
              let y : holds_first s ≡ false = sym (ea ∙ first-number s) ∙ qa in
              let z : holds_second s ≡ false = sym (eb ∙ second-number s) ∙ qb in
              let w : holds_third s ≡ false = sym (ec ∙ third-number s) ∙ qc in
              let x : holds s ≡ false = sym (ed ∙ today-number s) ∙ q in
              (rw (h, y, z, w, x), rw (h, y, z, w, x))

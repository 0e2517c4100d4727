-- A state of an older version byte by byte as one of the next: what each function answers, at each of its returns. Assumes nothing.
use mathlib.Core.Path.{◌≡◌, refl, sym, ap, ◌∙◌}
use mathlib.Core.Bool.{Bool, true, false, cond, ◌&&◌}
use mathlib.Core.List.{List, [], ◌∷◌}
use Prim.Native.Nat.{ℕ, zero, suc, ◌+◌, ◌*◌, ◌-◌, ◌/◌, ◌%◌, ◌<◌, ◌≤◌}
use native.Mathlib.Numerals.{add-one, sub-one}
use native.Mathlib.Omega.{arith}
use borrow.Author.Tests.{eq-eqb, ne_eqb, lt-ltb, le-ltb, le-leb, lt-leb}
use lib.Dec.{eqb, leb, ltb}
use lib.ListN.{length, get_or, take, drop, set, drop_of_length-le}
use lib.Seq.{drop-cons}
use Rattle.plan.specs.Answers.{table_for}
use Rattle.plan.specs.Read.{read_plan}
use Rattle.store.specs.Bytes.{eight_at}
use Rattle.store.proofs.Fills.{Filling, filling-starts, filling-more, filling-ends}
use Rattle.boundary_state.specs.Older.{marked, placed, plan_end, PlanEnds, old_plan, is_around, part_around, closing_byte, order_byte, byte_of, renewed_by, renewed, cause_byte, byte_with, with_causes, reply_byte, byte_now, with_replies}

-- `is_marked`
module _ (s : List ℕ) (n m : ℕ) where
  pub marked-long : {x : ℕ} → length s ≡ n → x ≡ eight_at s 0 → eqb x m ≡ marked n m s
  unfolding marked
  marked-long e f = rw (eq-eqb _ _ e, f)

  pub marked-not : (length s ≡ n → ⊥) → false ≡ marked n m s
  unfolding marked
  marked-not e = rw (ne_eqb (length s) n e)

-- `plan_end`
pub end-there : (s : List ℕ) {n : ℕ} → n ≡ eight_at s 28 → n ≤ 4096 → PlanEnds s (n + 36)
unfolding plan_end
end-there s {n} e h =
    let q : leb (eight_at s 28) 4096 ≡ true = rw (← e) (le-leb n 4096 h) in
    record { is = rw (q, ← e); low = omega arith; high = omega arith }

pub end_none : (s : List ℕ) {n : ℕ} → n ≡ eight_at s 28 → 4096 < n → PlanEnds s 36
unfolding plan_end
end_none s {n} e h =
    let q : leb (eight_at s 28) 4096 ≡ false = rw (← e) (lt-leb n 4096 h) in
    record { is = rw q; low = omega arith; high = omega arith }

-- `is_around`
pub around-scope : (t : List ℕ) (j k : ℕ) → get_or t (j * 13) 0 ≡ 11 → ltb k (get_or t (j * 13 + 11) 0) ≡ is_around t j k
around-scope t j k e = rw (eq-eqb _ _ e)

pub around-other : (t : List ℕ) (j k : ℕ) → (get_or t (j * 13) 0 ≡ 11 → ⊥) → false ≡ is_around t j k
around-other t j k e = rw (ne_eqb _ _ e)

-- `part_around`: no row passed is a scope around row k
pub record Around (t : List ℕ) (k j : ℕ) : Type 0 where
  pub within : j ≤ k
  pub same : part_around t k k ≡ part_around t k j

pub around-starts : (t : List ℕ) (k : ℕ) → Around t k k
around-starts t k = record { within = omega arith; same = refl }

around-step : (t : List ℕ) (k j : ℕ) → 0 < j → part_around t k j ≡ cond (is_around t (j - 1) k) j (part_around t k (j - 1))
unfolding part_around
around-step t k zero h = absurd (omega arith)
around-step t k (suc j) h = rw (sub-one (suc j), add-one j)

module _ {t : List ℕ} {k j : ℕ} (w : Around t k j) where
  pub around-done : j ≤ 0 → 0 ≡ part_around t k k
  unfolding part_around
  around-done h = let z : j ≡ 0 = omega arith in sym (w.same ∙ rw z)

  module _ (h : 0 < j) {b : Bool} (e : b ≡ is_around t (j - 1) k) where
    pub around-found : b ≡ true → j ≡ part_around t k k
    around-found q = sym (w.same ∙ (around-step t k j h ∙ rw (sym e ∙ q)))

    pub around-again : b ≡ false → Around t k (j - 1)
    around-again q = record { within = omega (arith, w.within); same = w.same ∙ (around-step t k j h ∙ rw (sym e ∙ q)) }

-- `closing_byte`
pub byte-scope : (t : List ℕ) (k half : ℕ) → half ≡ 0 → k ≡ closing_byte t k half
byte-scope t k half e = rw (eq-eqb _ _ e)

pub byte-part : (t : List ℕ) (k half : ℕ) {r : ℕ} → (half ≡ 0 → ⊥) → r ≡ part_around t k k → r ≡ closing_byte t k half
byte-part t k half e f = f ∙ rw (ne_eqb _ _ e)

-- `order_byte`
module _ (s t : List ℕ) (at r : ℕ) where
  pub order-before : r < 337 → get_or s (at + r) 0 ≡ order_byte s t at r
  unfolding order_byte
  order-before h = rw (lt-ltb _ _ h)

  module _ (h : 337 ≤ r) where
    pub order-closing : {b : ℕ} → r < 401 → b ≡ closing_byte t (get_or s (at + 337 + (r - 337) / 2) 0) ((r - 337) % 2) → b ≡ order_byte s t at r
    unfolding order_byte
    order-closing g e = e ∙ rw (le-ltb _ _ h, lt-ltb _ _ g)

    pub order-after : 401 ≤ r → get_or s (at + r - 32) 0 ≡ order_byte s t at r
    unfolding order_byte
    order-after g = rw (le-ltb _ _ h, le-ltb _ _ g)

-- `byte_of`
module _ (s t : List ℕ) (i : ℕ) where
  pub byte-mark : i ≡ 7 → 50 ≡ byte_of s t i
  unfolding byte_of
  byte-mark e = rw (eq-eqb _ _ e)

  module _ (e : i ≡ 7 → ⊥) where
    pub byte-before : i < 5932 → get_or s i 0 ≡ byte_of s t i
    unfolding byte_of
    byte-before h = rw (ne_eqb _ _ e, lt-ltb _ _ h)

    pub byte-order : {b : ℕ} → 5932 ≤ i → b ≡ order_byte s t (5932 + (i - 5932) / 409 * 377) ((i - 5932) % 409) → b ≡ byte_of s t i
    unfolding byte_of
    byte-order h f = f ∙ rw (ne_eqb _ _ e, le-ltb _ _ h)

-- `cause_byte`
module _ (s : List ℕ) (at r : ℕ) where
  pub cause-before : r < 409 → get_or s (at + r) 0 ≡ cause_byte s at r
  unfolding cause_byte
  cause-before h = rw (lt-ltb _ _ h)

  pub cause-none : 409 ≤ r → 0 ≡ cause_byte s at r
  unfolding cause_byte
  cause-none h = rw (le-ltb _ _ h)

-- `byte_with`
module _ (s : List ℕ) (i : ℕ) where
  pub with-mark : i ≡ 7 → 51 ≡ byte_with s i
  unfolding byte_with
  with-mark e = rw (eq-eqb _ _ e)

  module _ (e : i ≡ 7 → ⊥) where
    pub with-before : i < 5932 → get_or s i 0 ≡ byte_with s i
    unfolding byte_with
    with-before h = rw (ne_eqb _ _ e, lt-ltb _ _ h)

    pub with-order : {b : ℕ} → 5932 ≤ i → b ≡ cause_byte s (5932 + (i - 5932) / 410 * 409) ((i - 5932) % 410) → b ≡ byte_with s i
    unfolding byte_with
    with-order h f = f ∙ rw (ne_eqb _ _ e, le-ltb _ _ h)

-- `reply_byte`
module _ (s : List ℕ) (at r : ℕ) where
  pub reply-before : r < 28 → get_or s (at + r) 0 ≡ reply_byte s at r
  unfolding reply_byte
  reply-before h = rw (lt-ltb _ _ h)

  pub reply-none : 28 ≤ r → 0 ≡ reply_byte s at r
  unfolding reply_byte
  reply-none h = rw (le-ltb _ _ h)

-- `byte_now`
module _ (s : List ℕ) (i : ℕ) where
  pub now-mark : i ≡ 7 → 52 ≡ byte_now s i
  unfolding byte_now
  now-mark e = rw (eq-eqb _ _ e)

  module _ (e : i ≡ 7 → ⊥) where
    pub now-before : i < 4140 → get_or s i 0 ≡ byte_now s i
    unfolding byte_now
    now-before h = rw (ne_eqb _ _ e, lt-ltb _ _ h)

    module _ (h : 4140 ≤ i) where
      pub now-message : {b : ℕ} → i < 6188 → b ≡ reply_byte s (4140 + (i - 4140) / 32 * 28) ((i - 4140) % 32) → b ≡ byte_now s i
      unfolding byte_now
      now-message g f = f ∙ rw (ne_eqb _ _ e, le-ltb _ _ h, lt-ltb _ _ g)

      pub now-after : 6188 ≤ i → get_or s (i - 256) 0 ≡ byte_now s i
      unfolding byte_now
      now-after g = rw (ne_eqb _ _ e, le-ltb _ _ h, le-ltb _ _ g)

-- `fill`, `cause`, `reply`: i bytes are written
pub placed-long : (f : ℕ → ℕ) (n i : ℕ) → length (placed f n i) ≡ n
unfolding placed
placed-long f zero i = refl
placed-long f (suc n) i = ap suc (placed-long f n (i + 1))

placed-more : (f : ℕ → ℕ) (n i : ℕ) → i < n → placed f (n - i) i ≡ f i ∷ placed f (n - (i + 1)) (i + 1)
unfolding placed
placed-more f n i h = let e : n - i ≡ suc (n - (i + 1)) = omega arith in rw e

pub record Placing (f : ℕ → ℕ) (n : ℕ) (out : List ℕ) (i : ℕ) : Type 0 where
  pub filling : Filling n out i (placed f (n - i) i) (placed f n 0)

pub placing-starts : (f : ℕ → ℕ) (n : ℕ) (out : List ℕ) → length out ≡ n → Placing f n out 0
placing-starts f n out e =
    let z : n - 0 ≡ n = omega arith in
    record { filling = filling-starts n out (placed f n 0) (placed f (n - 0) 0) e (placed-long f n 0) (rw z) }

module _ {f : ℕ → ℕ} {n : ℕ} {out : List ℕ} {i : ℕ} (w : Placing f n out i) where
  pub placing-again : {b : ℕ} → i < n → b ≡ f i → Placing f n (set out i b) (i + 1)
  placing-again h e = record { filling = rw e (filling-more w.filling (placed-more f n i h)) }

  pub placing-done : n ≤ i → out ≡ placed f n 0
  unfolding placed
  placing-done h = let e : n - i ≡ 0 = omega arith in filling-ends w.filling (rw e)

-- `renew`
pub renew-is : (s t : List ℕ) {o : List ℕ} {e : ℕ} → PlanEnds s e → t ≡ table_for (read_plan (take (e - 36) (drop 36 s))) → o ≡ renewed_by s t → o ≡ renewed s
unfolding renewed
renew-is s t e f g = rw (g, f, e.is)

pub renewed-long : (s : List ℕ) {o : List ℕ} → o ≡ renewed s → length o ≡ 12476
unfolding renewed
renewed-long s e = rw e (placed-long (byte_of s (table_for (read_plan (old_plan s)))) 12476 0)

-- `from_second`, `from_first`
pub second_is : (s : List ℕ) {m o : List ℕ} → m ≡ with_causes s → o ≡ with_replies m → o ≡ with_replies (with_causes s)
second_is s e f = rw (← e) f

pub first-is : (s : List ℕ) {m o : List ℕ} → m ≡ renewed s → o ≡ with_replies (with_causes m) → o ≡ with_replies (with_causes (renewed s))
first-is s e f = rw (← e) f

-- `copy`: i bytes are copied
pub record Same (s out : List ℕ) (i : ℕ) : Type 0 where
  pub filling : Filling 12748 out i (drop i s) s
  pub long : length s ≡ 12748

pub same-starts : (s out : List ℕ) → length s ≡ 12748 → length out ≡ 12748 → Same s out 0
same-starts s out e f = record { filling = filling-starts 12748 out s s f e refl; long = e }

module _ {s out : List ℕ} {i : ℕ} (w : Same s out i) where
  pub same-again : i < 12748 → Same s (set out i (get_or s i 0)) (i + 1)
  same-again h = record { filling = filling-more w.filling (rw (add-one, drop-cons s i 0 (omega (arith, w.long)))); long = w.long }

  pub same-done : 12748 ≤ i → out ≡ s
  same-done h = let k : length s ≤ i = omega (arith, w.long) in filling-ends w.filling (drop_of_length-le s k)

-- One pass finds the first count that differs from an earlier one for its pair. Assumes nothing.
use borrow.Author.Tests.{eqb-true, eqb-false, eq-eqb, ne_eqb}
use native.Mathlib.Omega.{arith}
use mathlib.Core.Path.{◌≡◌, refl, sym, ◌∙◌}
use mathlib.Core.Bool.{Bool, true, false, not, ◌&&◌, ◌||◌}
use mathlib.Core.List.{List, [], ◌∷◌, ◌++◌}
use Prim.Native.Nat.{ℕ, ◌%◌, ◌≤◌, ◌<◌}
use lib.Dec.{eqb}
use lib.ListN.{length, get_or, set, length-replicate, get_or-replicate, length-set}
use lib.Seq.{get_or-set_same, get_or-set_other}
use Rattle.plan.specs.Agree.{Asked, agrees, agrees_with, judged}
use Rattle.plan.specs.Found.{Found, refused}
use Rattle.plan.specs.Heard.{Noted, noted, blank_heard, pair_of, heard, heard_all, differing}
use Rattle.plan.proofs.Agreeing.{Among, here, later}

-- what a receive or an arm of a plan within the limits asks for
pub record Fits (a : Asked) : Type 0 where
  pub partner : a.partner < 64
  pub operation : a.operation < 64
  pub some : 1 ≤ a.many
  pub few : a.many < 256
  pub placed : 1 ≤ a.place

pub data AllFit : List Asked → Type 0 where
  none : AllFit []
  more : {a : Asked} {l : List Asked} → Fits a → AllFit l → AllFit (a ∷ l)

pub fit_append : {a b : List Asked} → AllFit a → AllFit b → AllFit (a ++ b)
fit_append none y = y
fit_append (more f x) y = more f (fit_append x y)

-- the place of its pair
abbrev pair : Asked → ℕ
pair a = pair_of a.partner a.operation

below : (a : Asked) → pair a < 4096
below a = omega arith

-- a count within the limits is a byte
in-byte : (a : Asked) → Fits a → a.many % 256 ≡ a.many
in-byte a f = omega (arith, f.few)

-- of two within the limits, the places are the same only where the pairs are
pairs : (a b : Asked) → Fits a → Fits b → pair a ≡ pair b → (a.partner ≡ b.partner) × (a.operation ≡ b.operation)
pairs a b f g e = (omega (arith, f.partner, f.operation, g.partner, g.operation), omega (arith, f.partner, f.operation, g.partner, g.operation))

-- whether two agree, and one with each of others
imply : (x y z : Bool) → (x ≡ true → y ≡ true → z ≡ true) → (not (x && y) || z) ≡ true
imply true true z f = f refl refl
imply true false z f = refl
imply false y z f = refl

agrees-by : (b a : Asked) → (b.partner ≡ a.partner → b.operation ≡ a.operation → b.many ≡ a.many) → agrees b a ≡ true
agrees-by b a f =
    imply (eqb b.partner a.partner) (eqb b.operation a.operation) (eqb b.many a.many)
    (λ e g. eq-eqb _ _ (f (eqb-true _ _ e) (eqb-true _ _ g)))

differs-by : (b a : Asked) → b.partner ≡ a.partner → b.operation ≡ a.operation → (b.many ≡ a.many → ⊥) → agrees b a ≡ false
differs-by b a p o n = rw (eq-eqb b.partner a.partner p, eq-eqb b.operation a.operation o, ne_eqb b.many a.many n)

with_all : (l : List Asked) (a : Asked) → ((b : Asked) → Among b l → agrees b a ≡ true) → agrees_with l a ≡ true
unfolding agrees_with
with_all [] a f = refl
with_all (b ∷ l) a f = rw (f b here) (with_all l a (λ d m. f d (later m)))

false_right : (x : Bool) → (x && false) ≡ false
false_right true = refl
false_right false = refl

with_none : (b a : Asked) {l : List Asked} → Among b l → agrees b a ≡ false → agrees_with l a ≡ false
unfolding agrees_with
with_none b a here e = rw e
with_none b a (later {b = d} m) e = rw (with_none b a m e) (false_right (agrees d a))

-- the first of a pair
record First (earlier : List Asked) (i c : ℕ) : Type 0 where
  which : Asked
  among : Among which earlier
  at_pair : pair which ≡ i
  many_is : which.many ≡ c

-- what was heard of those earlier, which agree
record Kept (earlier : List Asked) (t : Noted) : Type 0 where
  long : length t.counts ≡ 4096
  quiet : t.first ≡ 0
  fits : (b : Asked) → Among b earlier → Fits b
  each : (b : Asked) → Among b earlier → get_or t.counts (pair b) 0 ≡ b.many
  first : (i : ℕ) → i < 4096 → (get_or t.counts i 0 ≡ 0 → ⊥) → First earlier i (get_or t.counts i 0)

-- one more
more-fits : (a : Asked) {earlier : List Asked} → Fits a → ((b : Asked) → Among b earlier → Fits b) → (b : Asked) → Among b (a ∷ earlier) → Fits b
more-fits a f k b here = f
more-fits a f k b (later m) = k b m

more-each : (a : Asked) {earlier : List Asked} (t : Noted) → get_or t.counts (pair a) 0 ≡ a.many → ((b : Asked) → Among b earlier → get_or t.counts (pair b) 0 ≡ b.many)
    → (b : Asked) → Among b (a ∷ earlier) → get_or t.counts (pair b) 0 ≡ b.many
more-each a t e k b here = e
more-each a t e k b (later m) = k b m

more-first : (a : Asked) {earlier : List Asked} {i c : ℕ} → First earlier i c → First (a ∷ earlier) i c
more-first a f = record { which = f.which; among = later f.among; at_pair = f.at_pair; many_is = f.many_is }

module _ (a : Asked) (f : Fits a) (earlier : List Asked) (t : Noted) (k : Kept earlier t) where
  -- the first of its pair
  module _ (e : get_or t.counts (pair a) 0 ≡ 0) where
    other : (b : Asked) → Among b earlier → pair b ≡ pair a → ⊥
    other b m q = let z : get_or t.counts (pair b) 0 ≡ 0 = rw q e in omega (arith, z, k.each b m, (k.fits b m).some)

    new-agrees : agrees_with earlier a ≡ true
    new-agrees = with_all earlier a (λ b m. agrees-by b a (λ p o. absurd (other b m (rw (p, o)))))

    abbrev new : Noted
    new = noted (set t.counts (pair a) a.many) t.first

    new-kept : Kept (a ∷ earlier) new
    new-kept = record {
      long = length-set t.counts (pair a) a.many ∙ k.long;
      quiet = k.quiet;
      fits = more-fits a f k.fits;
      each = more-each a new (get_or-set_same t.counts (pair a) a.many 0 (omega (arith, below a, k.long)))
          (λ b m. get_or-set_other t.counts (pair a) (pair b) a.many 0 (λ q. other b m q) ∙ k.each b m);
      first = λ i h n. by_place i h n (eqb i (pair a)) refl;
    }
      where
        by_place : (i : ℕ) → i < 4096 → (get_or new.counts i 0 ≡ 0 → ⊥) → (b : Bool) → eqb i (pair a) ≡ b
            → First (a ∷ earlier) i (get_or new.counts i 0)
        by_place i h n true q =
            let j = eqb-true i (pair a) q in
            record { which = a; among = here; at_pair = sym j; many_is = rw j (sym (get_or-set_same t.counts (pair a) a.many 0 (omega (arith, below a, k.long)))) }
        by_place i h n false q =
            let s = get_or-set_other t.counts (pair a) i a.many 0 (eqb-false i (pair a) q) in
            rw s (more-first a (k.first i h (λ z. n (s ∙ z))))

  -- the same count as the first of its pair
  module _ (e : get_or t.counts (pair a) 0 ≡ a.many) where
    same-agrees : agrees_with earlier a ≡ true
    same-agrees = with_all earlier a (λ b m. agrees-by b a (λ p o. sym (k.each b m) ∙ rw (p, o) e))

    same_kept : Kept (a ∷ earlier) t
    same_kept = record {
      long = k.long;
      quiet = k.quiet;
      fits = more-fits a f k.fits;
      each = more-each a t e k.each;
      first = λ i h n. more-first a (k.first i h n);
    }

  -- another count
  module _ (n : get_or t.counts (pair a) 0 ≡ 0 → ⊥) (d : get_or t.counts (pair a) 0 ≡ a.many → ⊥) where
    differs : agrees_with earlier a ≡ false
    differs =
        let w = k.first (pair a) (below a) n in
        let s = pairs w.which a (k.fits w.which w.among) f w.at_pair in
        with_none w.which a w.among (differs-by w.which a s.0 s.1 (λ z. d (sym w.many_is ∙ z)))

-- a place that was found stays
abbrev Stay : List Asked → Type 0
Stay l = (t : Noted) → (t.first ≡ 0 → ⊥) → (heard_all l t).first ≡ t.first

module _ (a : Asked) (l : List Asked) (rest : Stay l) (t : Noted) (n : t.first ≡ 0 → ⊥) where
  stays-count : eqb (get_or t.counts (pair a) 0) 0 ≡ false → (b : Bool) → eqb (get_or t.counts (pair a) 0) a.many ≡ b → (heard_all l (heard a t)).first ≡ t.first
  unfolding heard
  stays-count g true e = rw (g, e) (rest t n)
  stays-count g false e = rw (g, e, ne_eqb t.first 0 n) (rest t n)

  stays-first : (b : Bool) → eqb (get_or t.counts (pair a) 0) 0 ≡ b → (heard_all l (heard a t)).first ≡ t.first
  unfolding heard
  stays-first true e = rw e (rest (noted (set t.counts (pair a) (a.many % 256)) t.first) n)
  stays-first false e = stays-count e (eqb (get_or t.counts (pair a) 0) a.many) refl

stays : (l : List Asked) → Stay l
unfolding heard_all
stays [] t n = refl
stays (a ∷ l) t n = stays-first a l (stays l) t n (eqb (get_or t.counts (pair a) 0) 0) refl

-- what is judged by the place that was found
pub record Told {A : Type 0} (place : ℕ) (y x : Found A) : Type 0 where
  pub agreed : place ≡ 0 → y ≡ x
  pub differed : (place ≡ 0 → ⊥) → y ≡ refused 21 place

abbrev Hear : {A : Type 0} → Found A → List Asked → Type 0
Hear x l = (earlier : List Asked) (t : Noted) → Kept earlier t → Told (heard_all l t).first (judged earlier l x) x

module _ {A : Type 0} (x : Found A) (a : Asked) (l : List Asked) (f : Fits a) (rest : Hear x l) (earlier : List Asked) (t : Noted) (k : Kept earlier t) where
  hears-count : eqb (get_or t.counts (pair a) 0) 0 ≡ false → (b : Bool) → eqb (get_or t.counts (pair a) 0) a.many ≡ b
      → Told (heard_all l (heard a t)).first (judged earlier (a ∷ l) x) x
  unfolding heard judged
  hears-count g true e =
      let i = eqb-true (get_or t.counts (pair a) 0) a.many e in
      rw (g, e, same-agrees a f earlier t k i) (rest (a ∷ earlier) t (same_kept a f earlier t k i))
  hears-count g false e =
      let s : (heard_all l (noted t.counts a.place)).first ≡ a.place = stays l (noted t.counts a.place) (λ z. omega (arith, z, f.placed)) in
      rw (g, e, eq-eqb t.first 0 k.quiet, differs a f earlier t k (eqb-false _ _ g) (eqb-false _ _ e), s)
      (record { agreed = λ z. absurd (omega (arith, z, f.placed)); differed = λ z. refl })

  hears-first : (b : Bool) → eqb (get_or t.counts (pair a) 0) 0 ≡ b → Told (heard_all l (heard a t)).first (judged earlier (a ∷ l) x) x
  unfolding heard judged
  hears-first true e =
      let i = eqb-true (get_or t.counts (pair a) 0) 0 e in
      rw (e, in-byte a f, new-agrees a f earlier t k i) (rest (a ∷ earlier) (new a f earlier t k i) (new-kept a f earlier t k i))
  hears-first false e = hears-count e (eqb (get_or t.counts (pair a) 0) a.many) refl

hears : {A : Type 0} (x : Found A) (l : List Asked) → AllFit l → Hear x l
unfolding heard_all judged
hears x [] w earlier t k = record { agreed = λ e. refl; differed = λ n. absurd (n k.quiet) }
hears x (a ∷ l) (more f w) earlier t k = hears-first x a l f (hears x l w) earlier t k (eqb (get_or t.counts (pair a) 0) 0) refl

-- nothing was heard yet
blank-kept : Kept [] blank_heard
blank-kept = record {
  long = length-replicate {A = ℕ} 4096 0;
  quiet = refl;
  fits = λ b m. no-fits b m;
  each = λ b m. no-each b m;
  first = λ i h n. absurd (n (get_or-replicate {A = ℕ} 4096 i 0 0 (omega arith)));
}
  where
    no-fits : (b : Asked) → Among b [] → Fits b
    no-fits b m = elim m [ ]

    no-each : (b : Asked) → Among b [] → get_or blank_heard.counts (pair b) 0 ≡ b.many
    no-each b m = elim m [ ]

-- What is asked for within the limits is judged by the place of the first that differs.
pub judged-by : {A : Type 0} (l : List Asked) (x : Found A) → AllFit l → Told (differing l) (judged [] l x) x
unfolding differing
judged-by l x w = hears x l w [] blank_heard blank-kept

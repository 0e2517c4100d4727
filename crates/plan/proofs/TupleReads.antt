-- The returns of the functions that read a tuple of variables, and what a tuple's answer says of what was found. Assumes nothing.
use mathlib.Core.Path.{◌≡◌, refl, sym, ap, ◌∙◌}
use borrow.Author.Tests.{eq-eqb, ne_eqb}
use mathlib.Core.Logic.{◌⊎◌, inl, inr}
use mathlib.Core.Bool.{Bool, true, false, cond, ◌&&◌}
use mathlib.Core.List.{List, [], ◌∷◌, ◌++◌}
use Prim.Native.Nat.{ℕ, suc, ◌+◌, ◌-◌, ◌<◌, ◌≤◌}
use native.Mathlib.Omega.{arith}
use lib.Dec.{eqb}
use lib.ListN.{length, get_or, set, replicate}
use Rattle.plan.specs.declared.Tuple.{Tuple}
use Rattle.std.specs.Prelude.{Result, Ok, Err}
use Rattle.numbers.specs.declared.Number.{Number}
use Rattle.plan.specs.declared.Refusal.{Refusal}
use Rattle.plan.specs.Answers.{refusal, field_of, tuple_of}
use Rattle.plan.specs.Fits.{FieldFits}
use Rattle.plan.specs.Found.{Found, refused, found, and_then, field_in, among}
use Rattle.plan.specs.Read.{variables_in, tuple_in}
use Rattle.plan.specs.Store.{store, padded, flagged}
use Rattle.plan.proofs.OneNumber.{field-got, field-no, field_fits}
use Rattle.plan.proofs.Stores.{padded-snoc, length-snoc, flagged-snoc, flagged-among}

-- what was found of a tuple that was read
pub record TupleGot (g : Found (List ℕ)) (x : Tuple) : Type 0 where
  pub l : List ℕ
  pub is : g ≡ found l x.next
  pub many : x.count ≡ length l
  pub stored : x.variables ≡ padded l

abbrev tuple_read : (count : ℕ) → (variables : List ℕ) → (next : ℕ) → Result Tuple Refusal
tuple_read count variables next = Ok (record { count = count; variables = variables; next = next })

pub tuple-got : (g : Found (List ℕ)) {r : Result Tuple Refusal} {x : Tuple} → r ≡ tuple_of g → r ≡ Ok x → TupleGot g x
unfolding tuple_of
tuple-got (refused n p) e o = let z : ◌≡◌ {A = ℕ} 0 1 = cc in absurd (omega arith)
tuple-got (found l n) {x = x} e o =
    let w : record { count = length l; variables = padded l; next = n } ≡ x = cc in
    record { l = l; is = rw (← w); many = rw (← w); stored = rw (← w) }

pub tuple-no : (g : Found (List ℕ)) {r : Result Tuple Refusal} {y : Refusal} → r ≡ tuple_of g → r ≡ Err y → g ≡ refused y.number y.place
unfolding tuple_of
tuple-no (refused n p) e o = cc
tuple-no (found l n) e o = let z : ◌≡◌ {A = ℕ} 0 1 = cc in absurd (omega arith)

and-no : (b : Bool) → (b && false) ≡ false
and-no true = refl
and-no false = refl

-- the loop of `variables_at`: what is to be read is what the variables left make of those that were read
pub record Reading (s : List ℕ) (at count vars : ℕ) (once : Bool) (variables seen : List ℕ) (i p : ℕ) : Type 0 where
  pub read : List ℕ
  pub long : length read ≡ i
  pub stored : variables ≡ padded read
  pub flags : seen ≡ flagged read (replicate 16 0)
  pub same : variables_in vars once s count [] at ≡ variables_in vars once s (count - i) read p
  pub within : i ≤ count

pub reading-starts : (s : List ℕ) (at count vars : ℕ) (once : Bool) → Reading s at count vars once (replicate 4 0) (replicate 16 0) 0 at
unfolding padded store flagged
reading-starts s at count vars once =
    let z : count - 0 ≡ count = omega arith in
    record { read = []; long = refl; stored = refl; flags = refl; same = rw z; within = omega arith }

module _ {s : List ℕ} {at count vars : ℕ} {once : Bool} {variables seen : List ℕ} {i p : ℕ} (a : Reading s at count vars once variables seen i p) where
  pub reading-done : count ≤ i → tuple_read count variables p ≡ tuple_of (variables_in vars once s count [] at)
  unfolding variables_in tuple_of
  reading-done h =
      let z : count - i ≡ 0 = omega arith in
      let k : count ≡ length a.read = omega (arith, a.long, a.within) in
      rw (a.same, z, a.stored) (ap (λ (n : ℕ). tuple_read n (padded a.read) p) k)

  module _ {f : Result Number Refusal} (e : f ≡ field_of (field_in s 0 vars p)) (h : i < count) where
    -- one more of the variables that are left
    one_more : variables_in vars once s count [] at
        ≡ and_then (field_in s 0 vars p) (λ v next. cond (once && among v a.read) (refused 5 p) (variables_in vars once s (count - (i + 1)) (a.read ++ (v ∷ [])) next))
    unfolding variables_in
    one_more =
        let z : count - i ≡ suc (count - (i + 1)) = omega arith in
        a.same ∙ rw z

    pub reading-refused : {y : Refusal} → f ≡ Err y → Err y ≡ tuple_of (variables_in vars once s count [] at)
    unfolding tuple_of
    reading-refused o = rw (one_more, field-no (field_in s 0 vars p) e o)

    module _ {read : Number} (o : f ≡ Ok read) (k : FieldFits s p 0 vars f) (m : vars ≤ 16) where
      -- a flag tells whether the variable is among those that were read
      known-is : eqb (get_or seen read.value 0) 1 ≡ among read.value a.read
      known-is = rw (a.flags, flagged-among a.read read.value (omega (arith, field_fits s p 0 vars k o)))

      pub reading-barred : once ≡ true → get_or seen read.value 0 ≡ 1 → Err (refusal 5 p) ≡ tuple_of (variables_in vars once s count [] at)
      unfolding tuple_of
      reading-barred q y = rw (one_more, field-got (field_in s 0 vars p) e o, q, sym known-is ∙ eq-eqb _ _ y)

      pub reading-again : (once ≡ false) ⊎ (get_or seen read.value 0 ≡ 1 → ⊥)
          → Reading s at count vars once (set variables i read.value) (set seen read.value 1) (i + 1) read.next
      reading-again q = record {
        read = a.read ++ (read.value ∷ []);
        long = length-snoc a.read read.value ∙ ap (λ (n : ℕ). n + 1) a.long;
        stored = rw (a.stored, ← a.long) (sym (padded-snoc a.read read.value));
        flags = rw a.flags (sym (flagged-snoc a.read read.value (replicate 16 0)));
        same = rw (one_more, field-got (field_in s 0 vars p) e o, free q);
        within = omega arith;
      }
        where
          free : (once ≡ false) ⊎ (get_or seen read.value 0 ≡ 1 → ⊥) → (once && among read.value a.read) ≡ false
          free (inl w) = rw w
          free (inr w) = rw (sym known-is ∙ ne_eqb _ _ w) (and-no once)

-- `tuple_at`
pub tuple-count : (s : List ℕ) (at : ℕ) {f : Result Number Refusal} {read : Number} → FieldFits s at 1 5 f → f ≡ Ok read → read.value ≤ 4
tuple-count s at k o = omega (arith, field_fits s at 1 5 k o)

module _ {f : Result Number Refusal} (vars : ℕ) (once : Bool) (s : List ℕ) (at : ℕ) (e : f ≡ field_of (field_in s 1 5 at)) where
  pub tuple-refused : {y : Refusal} → f ≡ Err y → Err y ≡ tuple_of (tuple_in vars once s at)
  unfolding tuple_in tuple_of
  tuple-refused o = rw (field-no (field_in s 1 5 at) e o)

  pub tuple-read : {r : Result Tuple Refusal} {read : Number} → f ≡ Ok read → r ≡ tuple_of (variables_in vars once s read.value [] read.next)
      → r ≡ tuple_of (tuple_in vars once s at)
  unfolding tuple_in
  tuple-read o t = rw (field-got (field_in s 1 5 at) e o) t

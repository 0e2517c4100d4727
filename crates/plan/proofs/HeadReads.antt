-- The returns of the functions that read a plan's head. Assumes nothing.
use mathlib.Core.Path.{◌≡◌, refl, ap, ◌∙◌}
use mathlib.Core.List.{List, [], ◌∷◌, ◌++◌}
use Prim.Native.Nat.{ℕ, suc, ◌+◌, ◌-◌, ◌<◌, ◌≤◌}
use native.Mathlib.Omega.{arith}
use borrow.Author.Tests.{eq-eqb, ne_eqb}
use lib.ListN.{length, get_or, set}
use lib.Seq.{get_or-set_other}
use mir.Syntax.{w32, w64}
use mir.Val.{Fits}
use Rattle.std.specs.Prelude.{Result, Ok, Err}
use Rattle.numbers.specs.declared.Number.{Number}
use Rattle.plan.specs.declared.Refusal.{Refusal}
use Rattle.plan.specs.Answers.{refusal, field_of, correlation_answer, Flagged, CorrelationRead}
use Rattle.plan.specs.Fits.{FieldFits}
use Rattle.plan.specs.Found.{and_then, number_in, field_in}
use Rattle.plan.specs.Read.{version_in, correlation_in}
use Rattle.plan.specs.Store.{flagged, chosen}
use Rattle.plan.specs.Table.{blank_flags}
use Rattle.plan.proofs.OneNumber.{field-got, field-no, field_fits, handed}
use Rattle.plan.proofs.Stores.{flagged-snoc, length-flagged, chosen-snoc, get_d-blank}

-- `version_at`
module _ {r : Result Number Refusal} (s : List ℕ) (e : r ≡ field_of (number_in s 0)) where
  pub version-handed : {y : Refusal} → r ≡ Err y → Err y ≡ field_of (version_in s)
  unfolding version_in
  version-handed o = handed (number_in s 0) _ e o

  pub version-one : {read : Number} → r ≡ Ok read → read.value ≡ 1 → Ok read ≡ field_of (version_in s)
  unfolding version_in field_of
  version-one o h = rw (field-got (number_in s 0) e o, eq-eqb _ _ h)

  pub version-unknown : {read : Number} → r ≡ Ok read → (read.value ≡ 1 → ⊥) → Err (refusal 4 0) ≡ field_of (version_in s)
  unfolding version_in field_of
  version-unknown o h = rw (field-got (number_in s 0) e o, ne_eqb _ _ h)

-- the loop of `correlation_at`: what is to be read is what the variables left make of those that were read, which are those flagged; all flags
-- from `least` on are blank
pub record Correlating (s : List ℕ) (at count vars : ℕ) (flags : List ℕ) (i least p : ℕ) : Type 0 where
  pub read : List ℕ
  pub is : flags ≡ flagged read blank_flags
  pub picks : chosen 0 flags ≡ read
  pub blank : (j : ℕ) → least ≤ j → get_or flags j 0 ≡ 0
  pub small : least ≤ 16
  pub same : correlation_in vars s count 0 [] at ≡ correlation_in vars s (count - i) least read p

pub correlating-starts : (s : List ℕ) (at count vars : ℕ) {flags : List ℕ} → flags ≡ blank_flags → Correlating s at count vars flags 0 0 at
unfolding flagged chosen
correlating-starts s at count vars e = let z : count - 0 ≡ count = omega arith in rw e (record {
  read = [];
  is = refl;
  picks = refl;
  blank = λ j h. get_d-blank 16 j;
  small = omega arith;
  same = rw z;
})

module _ {s : List ℕ} {at count vars : ℕ} {flags : List ℕ} {i least p : ℕ} (a : Correlating s at count vars flags i least p) where
  pub correlating-done : count ≤ i → CorrelationRead (correlation_in vars s count 0 [] at) (Ok p) flags
  unfolding correlation_in correlation_answer Flagged
  correlating-done h =
      let z : count - i ≡ 0 = omega arith in
      rw (a.same, z) (record { is = refl; put = (a.is, a.picks) })

  module _ {f : Result Number Refusal} (e : f ≡ field_of (field_in s least vars p)) (h : i < count) where
    -- one more of the variables that are left
    one_more : correlation_in vars s count 0 [] at
        ≡ and_then (field_in s least vars p) (λ v next. correlation_in vars s (count - (i + 1)) (v + 1) (a.read ++ (v ∷ [])) next)
    unfolding correlation_in
    one_more =
        let z : count - i ≡ suc (count - (i + 1)) = omega arith in
        a.same ∙ ap (λ (n : ℕ). correlation_in vars s n least a.read p) z

    pub correlating-refused : {y : Refusal} → f ≡ Err y
        → CorrelationRead (correlation_in vars s count 0 [] at) (Err y) flags
    unfolding correlation_answer Flagged
    correlating-refused o = rw (one_more, field-no (field_in s least vars p) e o) (record { is = refl; put = tt })

    module _ {read : Number} (o : f ≡ Ok read) (k : FieldFits s p least vars f) (m : vars ≤ 16) where
      pub correlating-again : Correlating s at count vars (set flags read.value 1) (i + 1) (read.value + 1) read.next
      correlating-again =
          let b = field_fits s p least vars k o in
          let l : length flags ≡ 16 = ap length a.is ∙ length-flagged a.read blank_flags in
          let w : 0 + read.value ≡ read.value = omega arith in
          record {
            read = a.read ++ (read.value ∷ []);
            is = rw (flagged-snoc, ← a.is);
            picks = rw (chosen-snoc flags 0 read.value (omega arith) (λ j g. a.blank j (omega arith)), w, a.picks);
            blank = λ j g. get_or-set_other flags read.value j 1 0 (λ q. omega arith) ∙ a.blank j (omega arith);
            small = omega arith;
            same = rw (one_more, field-got (field_in s least vars p) e o);
          }

-- a correlation variable is below 16
module _ (s : List ℕ) (p least vars : ℕ) {f : Result Number Refusal} {read : Number} (k : FieldFits s p least vars f) (o : f ≡ Ok read) (m : vars ≤ 16) where
  pub correlated-below : read.value < 16
  correlated-below = omega (arith, field_fits s p least vars k o)

  pub correlated-fits : Fits w64 read.value
  correlated-fits = omega (arith, field_fits s p least vars k o)

  pub correlated-next : Fits w32 (read.value + 1)
  correlated-next = omega (arith, field_fits s p least vars k o)

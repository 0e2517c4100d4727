-- Activities within the limits of an accepted plan, and that what they raise has a number that a fault may have. Assumes nothing.
use mathlib.Core.Path.{◌≡◌, refl}
use mathlib.Core.Bool.{Bool, true, false, not, ◌&&◌, ◌||◌, false≢true}
use mathlib.Core.List.{List}
use Prim.Native.Nat.{ℕ}
use borrow.Author.Tests.{eqb-true}
use lib.Dec.{eqb, ltb, leb}
use lib.ListN.{length}
use Rattle.plan.specs.Spell.{spelling}
use Rattle.plan.specs.Tree.{Own, raise, is_pick, Act, act, Acts, more, Plan, count, size}
use Rattle.plan.specs.Read.{later_of}
use Rattle.plan.specs.Within.{from1, ascending, raise_within, own_within, levels_below, act_within, acts_within, plan_within}
use Rattle.plan.proofs.Accepts.{both}
use Rattle.order.specs.Expression.{is_fault_number}

pub record Limited (a : Act) : Type 0 where
  pub variables : ℕ
  pub correlation : List ℕ
  pub handler : Bool
  pub arms : Bool
  pub depth : ℕ
  pub is : act_within variables correlation handler arms a depth ≡ true

pub record LimitedAll (l : Acts) : Type 0 where
  pub variables : ℕ
  pub correlation : List ℕ
  pub handler : Bool
  pub later : Bool
  pub arms : Bool
  pub depth : ℕ
  pub is : acts_within variables correlation handler later arms l depth ≡ true

-- what stands within such an activity, and the first and the rest of such activities
pub limited-within : (own : Own) (l : Acts) → Limited (act own l) → LimitedAll l
unfolding act_within
limited-within own l w =
    both (w.arms || ltb 0 w.depth) _ w.is (λ a b.
    both (own_within w.variables w.correlation w.handler w.arms own (count l)) _ b (λ c d. record {
      variables = w.variables;
      correlation = w.correlation;
      handler = w.handler;
      later = later_of own w.handler;
      arms = is_pick own;
      depth = levels_below w.arms w.depth;
      is = d;
    }))

pub limited-first : (a : Act) (l : Acts) → LimitedAll (more a l) → Limited a
unfolding acts_within
limited-first a l w =
    both (act_within w.variables w.correlation w.handler w.arms a w.depth) _ w.is (λ b c. record {
      variables = w.variables;
      correlation = w.correlation;
      handler = w.handler;
      arms = w.arms;
      depth = w.depth;
      is = b;
    })

pub limited-rest : (a : Act) (l : Acts) → LimitedAll (more a l) → LimitedAll l
unfolding acts_within
limited-rest a l w =
    both (act_within w.variables w.correlation w.handler w.arms a w.depth) _ w.is (λ b c. record {
      variables = w.variables;
      correlation = w.correlation;
      handler = w.later;
      later = w.later;
      arms = w.arms;
      depth = w.depth;
      is = c;
    })

-- the root's body and the root's fault part
pub limited-parts : (p : Plan) {P : Type 0} → plan_within p ≡ true → (Limited p.body → Limited p.fault → P) → P
unfolding plan_within
limited-parts p e f =
    both (leb (length (spelling p)) 4096) _ e (λ a b.
    both (from1 16 p.variables) _ b (λ c d.
    both (ascending p.variables 0 p.correlation) _ d (λ g h.
    both (act_within p.variables p.correlation false false p.body 16) _ h (λ i j.
    both (act_within p.variables p.correlation true false p.fault 16) _ j (λ m n.
    f (record { variables = p.variables; correlation = p.correlation; handler = false; arms = false; depth = 16; is = i })
    (record { variables = p.variables; correlation = p.correlation; handler = true; arms = false; depth = 16; is = m }))))))

-- a raise of such a plan
within-number : (n : ℕ) → raise_within n ≡ true → is_fault_number n ≡ true
unfolding raise_within is_fault_number
within-number n e = go (eqb n 0) refl e
  where
    low : (b c : Bool) → c ≡ true → b || c ≡ true
    low true c x = refl
    low false c x = x

    go : (b : Bool) → eqb n 0 ≡ b → b || (leb 16 n && leb n 255) ≡ true → is_fault_number n ≡ true
    go true q x = rw (eqb-true n 0 q)
    go false q x = low (leb n 5) (leb 16 n && leb n 255) x

pub limited-raise : (n : ℕ) (l : Acts) → Limited (act (raise n) l) → is_fault_number n ≡ true
unfolding act_within own_within
limited-raise n l w =
    both (w.arms || ltb 0 w.depth) _ w.is (λ a b.
    both (not w.arms && (eqb (count l) 0 && raise_within n)) _ b (λ c d.
    both (not w.arms) _ c (λ e f.
    both (eqb (count l) 0) _ f (λ g h. within-number n h))))

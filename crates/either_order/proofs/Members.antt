-- Being in a list, through the definitions that make lists: what is kept, what each gives, the offers of many, a choice. Assumes nothing.
use Prim.Native.Nat.{ℕ, zero, suc}
use native.Mathlib.Omega.{arith}
use mathlib.Core.Path.{◌≡◌, refl, sym, ap, subst, ◌∙◌}
use mathlib.Core.Logic.{⊎_elim}
use mathlib.Core.Bool.{Bool, true, false, cond, ◌||◌}
use mathlib.Core.List.Memᴰ
use mathlib.Core.List.{List, [], ◌∷◌, map, Memᴰ}
use Rattle.order.specs.Lists.{only, some, each}
use Rattle.machine.specs.Offer.{Offer, Offers, all_of}
use Rattle.machine.specs.Calls.{chosen, nth}

module _ {A : Type 0} where
  -- one of many of which something holds
  pub record One (l : List A) (P : A → Type 0) : Type 0 where
    pub one : A
    pub among : Memᴰ one l
    pub holds : P one

  pub later : {a : A} {l : List A} {P : A → Type 0} → One l P → One (a ∷ l) P
  later x = record { one = x.one; among = Memᴰ.tail x.among; holds = x.holds }

  pub only-in : {x : A} (f : A → Bool) (l : List A) → Memᴰ x (only f l) → Memᴰ x l
  unfolding only
  only-in f [] m = m
  only-in {x} f (a ∷ l) m = go (f a) (λ n. only-in f l n) m
    where
      go : (b : Bool) → (Memᴰ x (only f l) → Memᴰ x l) → Memᴰ x (cond b (a ∷ only f l) (only f l)) → Memᴰ x (a ∷ l)
      go true h n = ⊎_elim (λ e. Memᴰ.head e) (λ k. Memᴰ.tail (h k)) (Memᴰ.cases_cons n)
      go false h n = Memᴰ.tail (h n)

  pub in_map : {B : Type 0} {y : B} (f : A → B) (l : List A) → Memᴰ y (map f l) → One l (λ a. y ≡ f a)
  in_map f [] m = absurd (Memᴰ.not-nil m)
  in_map f (a ∷ l) m =
      ⊎_elim (λ e. record { one = a; among = Memᴰ.head refl; holds = e }) (λ n. later (in_map f l n)) (Memᴰ.cases_cons m)

  pub in-each : {B : Type 0} {y : B} (f : A → List B) (l : List A) → Memᴰ y (each f l) → One l (λ a. Memᴰ y (f a))
  unfolding each
  in-each f [] m = absurd (Memᴰ.not-nil m)
  in-each f (a ∷ l) m =
      ⊎_elim (λ n. record { one = a; among = Memᴰ.head refl; holds = n }) (λ n. later (in-each f l n)) (Memᴰ.append_cases (f a) m)

  pub in_all : {x : Offer} (f : A → Offers) (l : List A) → Memᴰ x (all_of f l).offered → One l (λ a. Memᴰ x (f a).offered)
  unfolding all_of
  in_all f [] m = absurd (Memᴰ.not-nil m)
  in_all f (a ∷ l) m =
      ⊎_elim (λ n. record { one = a; among = Memᴰ.head refl; holds = n }) (λ n. later (in_all f l n)) (Memᴰ.append_cases (f a).offered m)

  pub all_in : {x : Offer} {a : A} (f : A → Offers) {l : List A} → Memᴰ a l → Memᴰ x (f a).offered → Memᴰ x (all_of f l).offered
  unfolding all_of
  all_in {x} f (Memᴰ.head {xs = l} e) m = Memᴰ.append_left (all_of f l).offered (subst (λ (b : A). Memᴰ x (f b).offered) e m)
  all_in f (Memᴰ.tail {x = b} n) m = Memᴰ.append_right (f b).offered (all_in f n m)

  pub some_in : (f : A → Bool) (l : List A) → some f l ≡ true → One l (λ a. f a ≡ true)
  unfolding some
  some_in f [] e = absurd (let z : ◌≡◌ {A = ℕ} 0 1 = cc in omega arith)
  some_in f (a ∷ l) e = go (f a) refl (λ d. some_in f l d) e
    where
      go : (b : Bool) → f a ≡ b → (some f l ≡ true → One l (λ a. f a ≡ true)) → (b || some f l) ≡ true → One (a ∷ l) (λ a. f a ≡ true)
      go true d h e = record { one = a; among = Memᴰ.head refl; holds = d }
      go false d h e = later (h e)

  pub in_some : {a : A} (f : A → Bool) {l : List A} → Memᴰ a l → f a ≡ true → some f l ≡ true
  unfolding some
  in_some f (Memᴰ.head {x = b} e) h = let g : f b ≡ true = ap f (sym e) ∙ h in rw g
  in_some f (Memᴰ.tail {x = b} {xs = l} m) h = go (f b) (in_some f m h)
    where
      go : (c : Bool) → some f l ≡ true → (c || some f l) ≡ true
      go true e = refl
      go false e = e

-- an entry that a choice comes to, and a choice that comes to an entry
pub nth_in : (n c : ℕ) (l : List Offer) {x : Offer} → nth n l c ≡ chosen x → Memᴰ x l
unfolding nth
nth_in n c [] e = absurd (let z : ◌≡◌ {A = ℕ} 0 1 = cc in omega arith)
nth_in n zero (a ∷ l) {x} e = Memᴰ.head (let z : x ≡ a = cc in z)
nth_in n (suc c) (a ∷ l) e = Memᴰ.tail (nth_in n c l e)

pub record Comes (n : ℕ) (l : List Offer) (x : Offer) : Type 0 where
  pub choice : ℕ
  pub is : nth n l choice ≡ chosen x

pub in-nth : (n : ℕ) {x : Offer} {l : List Offer} → Memᴰ x l → Comes n l x
unfolding nth
in-nth n (Memᴰ.head e) = record { choice = 0; is = ap chosen (sym e) }
in-nth n (Memᴰ.tail m) = let r = in-nth n m in record { choice = suc r.choice; is = r.is }

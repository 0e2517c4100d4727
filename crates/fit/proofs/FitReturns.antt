-- The returns of the functions that ask whether a message fits. Assumes nothing.
use mathlib.Core.Path.{◌≡◌, refl, sym, ◌∙◌}
use mathlib.Core.Bool.{Bool, true, false, cond, not, ◌&&◌, ◌||◌}
use mathlib.Core.List.{List, [], ◌∷◌}
use Prim.Native.Nat.{ℕ, zero, suc, ◌+◌, ◌*◌, ◌-◌, ◌/◌, ◌%◌, ◌<◌, ◌≤◌}
use native.Mathlib.Decide.{ℕ_discrete, dec_lt}
use native.Mathlib.Nat.{add-zero}
use native.Mathlib.Numerals.{add-one}
use native.Mathlib.Omega.{arith}
use borrow.Author.Tests.{eq-eqb, ne_eqb, lt-ltb, le-ltb}
use lib.Dec.{leb, eqb}
use lib.ListN.{length, get_or, drop, set, drop_of_length-le}
use lib.Seq.{drop-cons, get_or-drop, drop-drop, ext_get_or}
use mir.Syntax.{w64}
use mir.Val.{Fits}
use Rattle.std.proofs.lemmas.Bool.Decides.{nat_tests}
use Rattle.plan.specs.Tree.{Plan}
use Rattle.machine.specs.declared.Message.{Message}
use Rattle.order.specs.declared.Order.{Order}
use Rattle.fit.specs.Answering.{Exchange, asked_of, known_value, sixteenth, Knows, KnowsOrder, AsksRow, Asking, number_of, Numbers, message_at, Letters, Agrees, FitsRow, Costs, UncheckedRow}
use Rattle.machine.specs.Fit.{is_checked, agrees, fits, unchecked}
use Rattle.machine.specs.State.{no_message}
use Rattle.order.specs.State.{value_of}
use Rattle.fit.proofs.Filled.{Filling, filling-again, filling-done}

pub get_d_any : {A : Type 0} (l : List A) (i : ℕ) (d e : A) → i < length l → get_or l i d ≡ get_or l i e
get_d_any [] i d e h = absurd (omega arith)
get_d_any (x ∷ l) zero d e h = refl
get_d_any (x ∷ l) (suc i) d e h = get_d_any l i d e (omega arith)

-- `number_of`
module _ (m : Message) (long : length m.values ≡ 4) where
  pub number-partner : {i : ℕ} → i ≡ 0 → Numbers m i m.partner
  unfolding number_of
  number-partner e = record { long = long; is = λ h. rw e }

  pub number-operation : {i : ℕ} → i ≡ 1 → Numbers m i m.operation
  unfolding number_of
  number-operation e = record { long = long; is = λ h. rw e }

  pub number-count : {i : ℕ} → i ≡ 2 → Numbers m i m.count
  unfolding number_of
  number-count e = record { long = long; is = λ h. rw e }

  pub number-value : {i : ℕ} → (i ≡ 0 → ⊥) → (i ≡ 1 → ⊥) → (i ≡ 2 → ⊥) → i < 7 → Numbers m i (get_or m.values (i - 3) 0)
  unfolding number_of
  number-value {i} x y z g = record { long = long; is = λ h. rw (ne_eqb i 0 x, ne_eqb i 1 y, ne_eqb i 2 z, ne_eqb i 7 (λ q. omega arith)) }

  pub number-reply : {i : ℕ} → i ≡ 7 → Numbers m i m.reply
  unfolding number_of
  number-reply e = record { long = long; is = λ h. rw e }

  pub number-none : {i : ℕ} → 7 ≤ i → (i ≡ 7 → ⊥) → Numbers m i 0
  number-none g x = record { long = long; is = λ h. absurd (omega (arith, x)) }

-- `letters_of`
pub record Numbered (messages : List Message) (i r : ℕ) : Type 0 where
  pub is : Numbers (get_or messages (i / 8) no_message) (i % 8) r

pub writing-again : {messages : List Message} {n : ℕ} {out : List ℕ} {i : ℕ} → Filling (Numbered messages) 512 out i → length messages ≡ 64 → (d : Message) → i < n * 8 → n ≤ 64
    → {r : ℕ} → Numbers (get_or messages (i / 8) d) (i % 8) r → Filling (Numbered messages) 512 (set out i r) (i + 1)
writing-again {messages} {n} {i = i} w e d h few {r} y =
    let g : i / 8 < length messages = omega arith in
    filling-again w (omega arith) (record { is = rw (get_d_any messages (i / 8) no_message d g) y })

module _ (messages : List Message) (out : List ℕ) (n : ℕ) (f : (i : ℕ) → i < n * 8 → Numbered messages i (get_or out i 0)) (j : ℕ) (h : j < n) where
  number-at : (c i : ℕ) → c < 8 → i ≡ j * 8 + c → Numbers (get_or messages j no_message) c (get_or out i 0)
  number-at c i g e =
      let a : i / 8 ≡ j = omega arith in
      let b : i % 8 ≡ c = omega arith in
      rw (a, b) at (f i (omega arith)).is

  number-says : (c i : ℕ) → c < 8 → i ≡ j * 8 + c → number_of (get_or messages j no_message) c ≡ get_or out i 0
  number-says c i g e = sym ((number-at c i g e).is g)

  value-says : (i : ℕ) → i < 4 → get_or (get_or messages j no_message).values i 0 ≡ get_or (message_at out j).values i 0
  unfolding message_at number_of
  value-says zero g = number-says 3 (j * 8 + 3) (omega arith) (omega arith)
  value-says (suc zero) g = number-says 4 (j * 8 + 4) (omega arith) (omega arith)
  value-says (suc (suc zero)) g = number-says 5 (j * 8 + 5) (omega arith) (omega arith)
  value-says (suc (suc (suc zero))) g = number-says 6 (j * 8 + 6) (omega arith) (omega arith)
  value-says (suc (suc (suc (suc i)))) g = absurd (omega arith)

  message-says : get_or messages j no_message ≡ message_at out j
  unfolding message_at number_of
  message-says =
      let long = (number-at 0 (j * 8) (omega arith) (omega arith)).long in
      let v : (get_or messages j no_message).values ≡ (message_at out j).values = ext_get_or 0 _ _ long (λ i g. value-says i (omega (arith, long))) in
      rw (
        ← number-says 0 (j * 8) (omega arith) (omega arith),
        ← number-says 1 (j * 8 + 1) (omega arith) (omega arith),
        ← number-says 2 (j * 8 + 2) (omega arith) (omega arith),
        ← number-says 7 (j * 8 + 7) (omega arith) (omega arith),
        ← v,
      )

pub writing-full : {messages : List Message} (n : ℕ) (out : List ℕ) → length messages ≡ 64 → 64 < n → Letters messages n out
writing-full n out e h = record { held = e; is = λ few j g. absurd (omega arith) }

pub writing-done : {messages : List Message} {n : ℕ} {out : List ℕ} {i : ℕ} → Filling (Numbered messages) 512 out i → length messages ≡ 64 → n * 8 ≤ i → Letters messages n out
writing-done {messages} {n} {out} w e h = record { held = e; is = λ few j g. message-says messages out n (λ i z. w.filled i (omega arith)) j g }

-- `known_value`
module _ (f b x : ℕ) where
  pub known-bound : f ≡ 1 → b ≡ 1 → x + 1 ≡ known_value f b x
  known-bound e g = rw (eq-eqb _ _ e, eq-eqb _ _ g)

  pub known-unbound : f ≡ 1 → (b ≡ 1 → ⊥) → 0 ≡ known_value f b x
  known-unbound e g = rw (eq-eqb _ _ e, ne_eqb _ _ g)

  pub known-other : (f ≡ 1 → ⊥) → 0 ≡ known_value f b x
  known-other e = rw (ne_eqb _ _ e)

-- `known_of`
pub record Known (flags : List ℕ) (o : Order) (v r : ℕ) : Type 0 where
  pub is : r ≡ known_value (get_or flags v 0) (get_or o.bound v 0) (get_or o.values v 0)

module _ {flags : List ℕ} {o : Order} {out : List ℕ} {i : ℕ} (w : Filling (Known flags o) 16 out i) where
  pub knowing-again : {r : ℕ} → i < 16 → r ≡ known_value (get_or flags i 0) (get_or o.bound i 0) (get_or o.values i 0)
      → Filling (Known flags o) 16 (set out i r) (i + 1)
  knowing-again h y = filling-again w h (record { is = y })

  pub knowing-done : 16 ≤ i → length o.bound ≡ 16 → length o.values ≡ 16 → KnowsOrder flags o out
  unfolding asked_of sixteenth
  knowing-done h b n = record {
    bindings = b;
    worths = n;
    is = λ p c. record {
      is = λ v.
          elim (dec_lt v 16) [
            | yes g ↦ rw (lt-ltb v 16 g) ((filling-done w h v g).is ∙ rw (← c.known v g))
            | no g ↦
                let e : 16 ≤ v = omega (arith, g) in
                rw (le-ltb v 16 e, c.beyond v e)
          ];
    };
  }

-- `known_at`, `bound_at`
pub sixteenth-beyond : (l : List ℕ) (v : ℕ) → 16 ≤ v → 0 ≡ sixteenth l v
unfolding sixteenth
sixteenth-beyond l v h = rw (le-ltb _ _ h)

pub sixteenth-here : (l : List ℕ) (v : ℕ) → v < 16 → get_or l v 0 ≡ sixteenth l v
unfolding sixteenth
sixteenth-here l v h = rw (lt-ltb _ _ h)

-- `asked_at`
pub record Asked (t known : List ℕ) (k i r : ℕ) : Type 0 where
  pub is : r ≡ sixteenth known (get_or t (k * 13 + 4 + i) 0)

module _ {t known : List ℕ} {k : ℕ} {out : List ℕ} {i : ℕ} (w : Filling (Asked t known k) 4 out i) where
  pub asking-again : {r : ℕ} → i < 4 → r ≡ sixteenth known (get_or t (k * 13 + 4 + i) 0) → Filling (Asked t known k) 4 (set out i r) (i + 1)
  asking-again h y = filling-again w h (record { is = y })

  pub asking-done : 4 ≤ i → AsksRow t known k out
  asking-done h = record { is = λ z j g. (filling-done w h j g).is }

pub asking-beyond : (t known : List ℕ) {k : ℕ} (out : List ℕ) → 256 ≤ k → AsksRow t known k out
asking-beyond t known out h = record { is = λ z j g. absurd (omega arith) }

pub asks-asking : {t known : List ℕ} {k : ℕ} {asked : List ℕ} → AsksRow t known k asked → {p : Plan} {o : Order} → Knows known p o
    → {a b : ℕ} {vs : List ℕ} → Exchange a b vs k t → length vs ≤ 4 → Asking asked p o vs
asks-asking w g e few = record {
  few = few;
  is = λ i h. w.is e.inside i (omega arith) ∙ (g.is _ ∙ rw (e.variables i (omega arith)));
}

-- what is asked of a value, and what it costs
asked-says : (p : Plan) (o : Order) (v x : ℕ) → (eqb (asked_of p o v) 0 || eqb (asked_of p o v) (x + 1)) ≡ (not (is_checked p o v) || eqb (value_of o v) x)
unfolding asked_of
asked-says p o v x = by-test (is_checked p o v) (value_of o v)
  where
    by-test : (b : Bool) (y : ℕ) → (eqb (cond b (y + 1) 0) 0 || eqb (cond b (y + 1) 0) (x + 1)) ≡ (not b || eqb y x)
    by-test true y =
        elim (ℕ_discrete y x) [
          | yes e ↦ rw (ne_eqb (y + 1) 0 (λ q. omega arith), eq-eqb y x e, eq-eqb (y + 1) (x + 1) (rw e))
          | no e ↦ rw (ne_eqb (y + 1) 0 (λ q. omega arith), ne_eqb y x e, ne_eqb (y + 1) (x + 1) (λ q. e (omega arith)))
        ]
    by-test false y = refl

asked-costs : (p : Plan) (o : Order) (v : ℕ) → ◌≡◌ {A = ℕ} (cond (eqb (asked_of p o v) 0) 1 0) (cond (is_checked p o v) 0 1)
unfolding asked_of
asked-costs p o v = by-test (is_checked p o v) (value_of o v)
  where
    by-test : (b : Bool) (y : ℕ) → ◌≡◌ {A = ℕ} (cond (eqb (cond b (y + 1) 0) 0) 1 0) (cond b 0 1)
    by-test true y = rw (ne_eqb (y + 1) 0 (λ q. omega arith))
    by-test false y = refl

-- `allows`, `unchecked_place`
pub allows-any : (a x : ℕ) → a ≡ 0 → true ≡ (eqb a 0 || eqb a (x + 1))
allows-any a x e = rw (eq-eqb _ _ e)

pub allows-value : (a x : ℕ) → (a ≡ 0 → ⊥) → eqb a (x + 1) ≡ (eqb a 0 || eqb a (x + 1))
allows-value a x e = rw (ne_eqb _ _ e)

pub costs-one : (a : ℕ) → a ≡ 0 → Costs a 1
costs-one a e = record { is = rw (eq-eqb _ _ e); most = omega arith }

pub costs-none : (a : ℕ) → (a ≡ 0 → ⊥) → Costs a 0
costs-none a e = record { is = rw (ne_eqb _ _ e); most = omega arith }

values-at : (l : List ℕ) (j i : ℕ) → i < 4 → get_or (message_at l j).values i 0 ≡ get_or l (j * 8 + 3 + i) 0
unfolding message_at
values-at l j zero h = let e : j * 8 + 3 + 0 ≡ j * 8 + 3 = omega arith in rw e
values-at l j (suc zero) h = let e : j * 8 + 3 + suc zero ≡ j * 8 + 4 = omega arith in rw e
values-at l j (suc (suc zero)) h = let e : j * 8 + 3 + suc (suc zero) ≡ j * 8 + 5 = omega arith in rw e
values-at l j (suc (suc (suc zero))) h = let e : j * 8 + 3 + suc (suc (suc zero)) ≡ j * 8 + 6 = omega arith in rw e
values-at l j (suc (suc (suc (suc i)))) h = absurd (omega arith)

-- the loop of `agrees_at`: the places passed agree, so all agree where the rest do
pub record Agreeing (asked letters : List ℕ) (j count i : ℕ) : Type 0 where
  pub within : i ≤ count
  pub same : (p : Plan) (o : Order) (vs : List ℕ) → Asking asked p o vs → length vs ≡ count
      → agrees p o vs (message_at letters j).values ≡ agrees p o (drop i vs) (drop i (message_at letters j).values)

pub agreeing-starts : (asked letters : List ℕ) (j count : ℕ) → Agreeing asked letters j count 0
agreeing-starts asked letters j count = record { within = omega arith; same = λ p o vs c l. refl }

agrees-step : (p : Plan) (o : Order) (vs xs : List ℕ) (i : ℕ) → i < length vs
    → agrees p o (drop i vs) (drop i xs)
    ≡ ((not (is_checked p o (get_or vs i 0)) || eqb (value_of o (get_or vs i 0)) (get_or xs i 0)) && agrees p o (drop (i + 1) vs) (drop (i + 1) xs))
unfolding agrees
agrees-step p o vs xs i h = rw (drop-cons vs i 0 h, get_or-drop, add-zero, drop-drop, add-one)

module _ {asked letters : List ℕ} {j count i : ℕ} (w : Agreeing asked letters j count i) where
  pub agreeing-done : count ≤ i → Agrees asked letters j count true
  unfolding agrees
  agreeing-done h = record {
    is = λ p o vs c l.
        let g : length vs ≤ i = omega arith in
        rw (w.same p o vs c l, drop_of_length-le vs g);
  }

  module _ (h : i < count) (few : count ≤ 4) {b : Bool} (a : b ≡ (eqb (get_or asked i 0) 0 || eqb (get_or asked i 0) (get_or letters (j * 8 + 3 + i) 0 + 1))) where
    agrees-next : (p : Plan) (o : Order) (vs : List ℕ) → Asking asked p o vs → length vs ≡ count
        → agrees p o vs (message_at letters j).values ≡ (b && agrees p o (drop (i + 1) vs) (drop (i + 1) (message_at letters j).values))
    agrees-next p o vs c l =
        let g : i < length vs = omega arith in
        let n : b ≡ (not (is_checked p o (get_or vs i 0)) || eqb (value_of o (get_or vs i 0)) (get_or (message_at letters j).values i 0)) =
        a ∙ rw (c.is i g, ← values-at letters j i (omega arith)) (asked-says p o (get_or vs i 0) (get_or (message_at letters j).values i 0)) in
        w.same p o vs c l ∙ (agrees-step p o vs (message_at letters j).values i g ∙ rw (← n))

    pub agreeing-again : b ≡ true → Agreeing asked letters j count (i + 1)
    agreeing-again y = record {
      within = omega arith;
      same = λ p o vs c l. agrees-next p o vs c l ∙ rw y;
    }

    pub agreeing-stops : b ≡ false → Agrees asked letters j count false
    agreeing-stops y = record { is = λ p o vs c l. sym (agrees-next p o vs c l ∙ rw y) }

-- `fits_at`
module _ (t : List ℕ) (k : ℕ) (asked letters : List ℕ) (j : ℕ) where
  pub fits-beyond : 256 ≤ k → FitsRow t k asked letters j false
  fits-beyond h = record { is = λ few p o a b vs c e. absurd (omega (arith, e.inside)) }

  pub fits-nothing : 64 ≤ j → FitsRow t k asked letters j false
  fits-nothing h = record { is = λ few p o a b vs c e. absurd (omega arith) }

-- what the message at place j says of itself is what row k asks for
abbrev pub head_fits : (t : List ℕ) (k : ℕ) (letters : List ℕ) (j : ℕ) → Bool
head_fits t k l j =
    eqb (get_or l (j * 8) 0) (get_or t (k * 13 + 1) 0)
    && (eqb (get_or l (j * 8 + 1) 0) (get_or t (k * 13 + 2) 0) && (eqb (get_or l (j * 8 + 2) 0) (get_or t (k * 13 + 3) 0) && leb (get_or l (j * 8 + 2) 0) 4))

module _ {t : List ℕ} {k : ℕ} {asked letters : List ℕ} {j : ℕ} where
  pub fits-values : head_fits t k letters j ≡ true → {r : Bool} → Agrees asked letters j (get_or letters (j * 8 + 2) 0) r → FitsRow t k asked letters j r
  unfolding fits message_at
  fits-values h g = record {
    is = λ few p o a b vs c e.
        let same = g.is p o vs c in
        let z = e.partner in
        let y = e.operation in
        let n = e.count in
        grind (arith, nat_tests);
  }

  pub fits-other : head_fits t k letters j ≡ false → FitsRow t k asked letters j false
  unfolding fits message_at
  fits-other h = record {
    is = λ few p o a b vs c e.
        let z = e.partner in
        let y = e.operation in
        let n = e.count in
        let q = c.few in
        grind (arith, nat_tests);
  }

-- the loop of `unchecked_at`: n of the places passed are unchecked
pub record Counting (t : List ℕ) (k : ℕ) (asked : List ℕ) (count n i : ℕ) : Type 0 where
  pub within : i ≤ count
  pub most : n ≤ i
  pub same : (p : Plan) (o : Order) (a b : ℕ) (vs : List ℕ) → Asking asked p o vs → Exchange a b vs k t → unchecked p o vs ≡ n + unchecked p o (drop i vs)

pub unchecked-beyond : (t : List ℕ) (k : ℕ) (asked : List ℕ) → 256 ≤ k → UncheckedRow t k asked 0
unchecked-beyond t k asked h = record { is = λ p o a b vs c e. absurd (omega (arith, e.inside)) }

pub unchecked-many : (t : List ℕ) (k : ℕ) (asked : List ℕ) → 4 < get_or t (k * 13 + 3) 0 → UncheckedRow t k asked 0
unchecked-many t k asked h = record { is = λ p o a b vs c e. absurd (omega (arith, e.count, c.few)) }

pub counting-starts : (t : List ℕ) (k : ℕ) (asked : List ℕ) (count : ℕ) → Counting t k asked count 0 0
counting-starts t k asked count = record { within = omega arith; most = omega arith; same = λ p o a b vs c e. omega arith }

unchecked-step : (p : Plan) (o : Order) (vs : List ℕ) (i : ℕ) → i < length vs
    → unchecked p o (drop i vs) ≡ cond (is_checked p o (get_or vs i 0)) 0 1 + unchecked p o (drop (i + 1) vs)
unfolding unchecked
unchecked-step p o vs i h = rw (drop-cons vs i 0 h, add-one) (by-test (is_checked p o (get_or vs i 0)) (unchecked p o (drop (suc i) vs)))
  where
    by-test : (b : Bool) (n : ℕ) → cond b n (suc n) ≡ cond b 0 1 + n
    by-test true n = omega arith
    by-test false n = omega arith

module _ {t : List ℕ} {k : ℕ} {asked : List ℕ} {n i : ℕ} (w : Counting t k asked (get_or t (k * 13 + 3) 0) n i) where
  pub counting-done : get_or t (k * 13 + 3) 0 ≤ i → UncheckedRow t k asked n
  unfolding unchecked
  counting-done h = record {
    is = λ p o a b vs c e.
        let g : length vs ≤ i = omega (arith, e.count) in
        let d : drop i vs ≡ [] = drop_of_length-le vs g in
        let s : unchecked p o vs ≡ n + unchecked p o [] = rw d at (w.same p o a b vs c e) in
        omega arith;
  }

  module _ (h : i < get_or t (k * 13 + 3) 0) {r : ℕ} (a : Costs (get_or asked i 0) r) where
    pub counting-again : Counting t k asked (get_or t (k * 13 + 3) 0) (n + r) (i + 1)
    counting-again = record {
      within = omega arith;
      most = omega (arith, a.most, w.most);
      same = λ p o x y vs c e.
          let g : i < length vs = omega (arith, e.count) in
          let s = unchecked-step p o vs i g in
          let j : r ≡ cond (is_checked p o (get_or vs i 0)) 0 1 = a.is ∙ rw (c.is i g) (asked-costs p o (get_or vs i 0)) in
          omega (arith, s, j, w.same p o x y vs c e);
    }

    pub counting-fits : get_or t (k * 13 + 3) 0 ≤ 4 → Fits w64 (n + r)
    counting-fits few = omega (arith, a.most, w.most)

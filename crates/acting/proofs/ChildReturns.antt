-- The returns of the functions that find the part of an activity in which another stands, and go on after it. Assumes nothing.
use mathlib.Core.Path.{◌≡◌, refl, sym, ap, ◌∙◌}
use mathlib.Core.Bool.{Bool, true, false, cond, or-false, and-false}
use mathlib.Core.List.{List}
use Prim.Native.Nat.{ℕ, ◌+◌, ◌-◌, ◌<◌, ◌≤◌}
use native.Mathlib.Omega.{arith}
use borrow.Author.Tests.{eq-eqb, ne_eqb, lt-ltb, le-ltb}
use lib.Dec.{eqb, ltb}
use Rattle.plan.specs.Tree.{is_pick, Act, Acts, none, more, size, sizes}
use Rattle.plan.proofs.ByKind.{kind-pick}
use Rattle.order.specs.declared.Closing.{Closing}
use Rattle.order.specs.declared.Entered.{Entered}
use Rattle.order.specs.declared.Order.{Order}
use Rattle.order.specs.declared.Went.{Went}
use Rattle.order.specs.Acting.{finishes, is_part, arms, joins, Actor, step_in, step_among}
use Rattle.order.specs.Answering.{KindOf, Quiets, entered, went, is_over, begun_of, BeginsInTurn, runs_of, finishes_of, Among, ChildWith, Arms, BeginsAfter, Follows, JoinsAt}
use Rattle.order.specs.Begin.{begin_in_turn, begin_after, quiet}
use Rattle.order.specs.Room.{room_in, room_among}
use Rattle.order.specs.Scope.{runs, begun_in}
use Rattle.order.specs.Stands.{End}
use Rattle.order.specs.State.{marked}
use Rattle.order.proofs.Deciding.{yes, no, goes_on, stays}
use Rattle.order.proofs.Standing.{size-pos, stands-end, row-kind, if_none, if-more}

-- what is numbered before all is none of them
part-before : (l : Acts) (c x : ℕ) → x < c → is_part l c x ≡ false
unfolding is_part
part-before none c x h = refl
part-before (more a l) c x h =
    let g : c ≡ x → ⊥ = λ e. omega arith in
    rw (ne_eqb c x g, part-before l (c + size a) x (omega arith))

module _ (a : Act) (l : Acts) (c x : ℕ) where
  module _ (h : x < c + size a) where
    first_step : (y : Actor) (parts : Bool) (q : ℕ) (o : Order) → step_among y (more a l) parts q c x o ≡ step_in y a (cond parts c q) c x o
    unfolding step_in
    first_step y parts q o = yes (ltb x (c + size a)) (step_in y a (cond parts c q) c x o) (step_among y l parts q (c + size a) x o) (lt-ltb x (c + size a) h)

    first-follow : (ms : List ℕ) → begin_after (more a l) c x ms ≡ begin_in_turn l (c + size a) ms
    unfolding begin_after
    first-follow ms = yes (ltb x (c + size a)) (begin_in_turn l (c + size a) ms) (begin_after l (c + size a) x ms) (lt-ltb x (c + size a) h)

    first-direct : is_part (more a l) c x ≡ eqb c x
    unfolding is_part
    first-direct = rw (part-before l (c + size a) x h) (or-false (eqb c x))

    first-room : (xs : List Closing) → room_among (more a l) c x xs ≡ room_in a c x xs
    unfolding room_in
    first-room xs = yes (ltb x (c + size a)) (room_in a c x xs) (room_among l (c + size a) x xs) (lt-ltb x (c + size a) h)

  module _ (h : c + size a ≤ x) where
    later-step : (y : Actor) (parts : Bool) (q : ℕ) (o : Order) → step_among y (more a l) parts q c x o ≡ step_among y l parts q (c + size a) x o
    unfolding step_in
    later-step y parts q o = no (ltb x (c + size a)) (step_in y a (cond parts c q) c x o) (step_among y l parts q (c + size a) x o) (le-ltb x (c + size a) h)

    later-follow : (ms : List ℕ) → begin_after (more a l) c x ms ≡ begin_after l (c + size a) x ms
    unfolding begin_after
    later-follow ms = no (ltb x (c + size a)) (begin_in_turn l (c + size a) ms) (begin_after l (c + size a) x ms) (le-ltb x (c + size a) h)

    later-direct : is_part (more a l) c x ≡ is_part l (c + size a) x
    unfolding is_part
    later-direct = let g : c ≡ x → ⊥ = λ e. omega (arith, size-pos a) in rw (ne_eqb c x g)

    later-room : (xs : List Closing) → room_among (more a l) c x xs ≡ room_among l (c + size a) x xs
    unfolding room_in
    later-room xs = no (ltb x (c + size a)) (room_in a c x xs) (room_among l (c + size a) x xs) (le-ltb x (c + size a) h)

-- the loop of `child_with`: what is found among those that are left is what is found among all
pub record Seeing (t : List ℕ) (c e x j : ℕ) : Type 0 where
  pub later : c ≤ j
  pub on : (r : ℕ) → ChildWith t j e x r → ChildWith t c e x r

pub seeing-starts : (t : List ℕ) (c e x : ℕ) → Seeing t c e x c
seeing-starts t c e x = record { later = omega arith; on = λ r y. y }

module _ {t : List ℕ} {c e x j : ℕ} (w : Seeing t c e x j) where
  pub seeing-done : e ≤ j → ChildWith t c e x e
  unfolding step_in begin_after is_part
  seeing-done h = w.on e (record {
    after = λ g. absurd (omega arith);
    is = if_none (λ l. Among t l j e x e) t j e h (record {
      found = λ g. absurd (omega arith);
      missed = λ g. record { steps = λ y parts q o. refl; follows = λ ms. refl; direct = refl };
    });
  })

  module _ (h : j < e) {n : ℕ} (z : End t j n) where
    pub seeing-found : x < n → ChildWith t c e x j
    seeing-found g = w.on j (record {
      after = λ v. omega arith;
      is = if-more (λ l. Among t l j e x j) t j e h z (λ a l i sa sl q.
          let m : x < j + size a = omega arith in
          record {
            found = λ v. record {
              part = a;
              rest = l;
              stands = sa;
              later = rw (← i) sl;
              end = omega arith;
              steps = first_step a l j x m;
              follows = first-follow a l j x m;
              direct = first-direct a l j x m;
              room = first-room a l j x m;
            };
            missed = λ v. absurd (omega arith);
          });
    })

    pub seeing-again : e ≤ 256 → n ≤ x → Seeing t c e x n
    seeing-again f g = record {
      later = omega (arith, w.later, z.past);
      on = λ r y. w.on r (record {
        after = λ v. omega (arith, y.after v, z.past);
        is = if-more (λ l. Among t l j e x r) t j e h z (λ a l i sa sl q. passed r a l i (y.is l sl q));
      });
    }
      where
        passed : (r : ℕ) (a : Act) (l : Acts) → n ≡ j + size a → Among t l n e x r → Among t (more a l) j e x r
        passed r a l i y =
            let m : j + size a ≤ x = omega arith in
            record {
              found = λ v.
                  let k = y.found v in
                  record {
                    part = k.part;
                    rest = k.rest;
                    stands = k.stands;
                    later = k.later;
                    end = k.end;
                    steps = λ y parts q o. later-step a l j x m y parts q o ∙ (rw i at (k.steps y parts q o));
                    follows = λ ms. later-follow a l j x m ms ∙ (rw i at (k.follows ms));
                    direct = later-direct a l j x m ∙ (rw i at k.direct);
                    room = λ xs. later-room a l j x m xs ∙ (rw i at (k.room xs));
                  };
              missed = λ v.
                  let k = y.missed v in
                  record {
                    steps = λ y parts q o. later-step a l j x m y parts q o ∙ (rw i at (k.steps y parts q o));
                    follows = λ ms. later-follow a l j x m ms ∙ (rw i at (k.follows ms));
                    direct = later-direct a l j x m ∙ (rw i at k.direct);
                  };
            }

-- `arms`
module _ (t : List ℕ) (k e child x : ℕ) (o : Order) {kd : ℕ} (q : KindOf t k kd) where
  pub arms-taken : kd ≡ 10 → child < e → child ≡ x → {p : Order} → p ≡ marked k 2 o → Arms t k e child x o p
  unfolding arms
  arms-taken h g i {p} y = record {
    is = λ own l s w.
        let m : is_pick own ≡ true = sym (kind-pick own) ∙ eq-eqb _ _ (sym (row-kind q own l s) ∙ h) in
        let n : is_part l (k + 1) x ≡ true = (w.found g).direct ∙ eq-eqb _ _ i in
        rw (m, n) y;
  }

  pub arms-other : kd ≡ 10 → child < e → (child ≡ x → ⊥) → Arms t k e child x o o
  unfolding arms
  arms-other h g i = record {
    is = λ own l s w.
        let n : is_part l (k + 1) x ≡ false = (w.found g).direct ∙ ne_eqb _ _ i in
        rw (n, and-false (is_pick own));
  }

  pub arms_none : e ≤ child → Arms t k e child x o o
  unfolding arms
  arms_none g = record {
    is = λ own l s w.
        let n : is_part l (k + 1) x ≡ false = (w.missed g).direct in
        rw (n, and-false (is_pick own));
  }

  pub arms-no-pick : (kd ≡ 10 → ⊥) → Arms t k e child x o o
  unfolding arms
  arms-no-pick h = record {
    is = λ own l s w.
        let m : is_pick own ≡ false = sym (kind-pick own) ∙ ne_eqb _ _ (λ g. h (row-kind q own l s ∙ g)) in
        rw m;
  }

-- `begin_after`
pub after-begins : {t : List ℕ} {e child : ℕ} {ms : List ℕ} {n : ℕ} → child < e → End t child n → {r : Entered} → BeginsInTurn t n e ms r → BeginsAfter t e child ms r
after-begins {t} {e} {child} {ms} {n} h z {r} b = record {
  is = λ l c x w.
      let k = w.found h in
      let m : n ≡ child + size k.part = stands-end k.part child t k.stands z in
      (rw m at (b.is k.rest (rw m k.later) (omega (arith, k.end)))) ∙ ap entered (sym (k.follows ms));
}

pub after_none : (t : List ℕ) (e child : ℕ) (ms : List ℕ) → e ≤ child → BeginsAfter t e child ms (record { marks = ms; over = true })
after_none t e child ms h = record { is = λ l c x w. ap entered (sym ((w.missed h).follows ms)) }

-- `follows`
module _ (t : List ℕ) (k e child : ℕ) (o : Order) {b : Entered} (x : BeginsAfter t e child o.marks b) {r : Went} (y : r ≡ begun_of o b)
    {v : Bool} (q : v ≡ is_over r.way) where
  rest-begun : (l : Acts) (u : ℕ) → Among t l (k + 1) e u child → r ≡ went (begun_in o (begin_after l (k + 1) u o.marks))
  rest-begun l u w = rw (x.is l (k + 1) u w) at y

  pub follows-over : v ≡ true → {p : Went} → p ≡ finishes_of k r.order → Follows t k e child o p
  follows-over h g = record {
    is = λ l u w. goes_on (finishes k) (begun_in o (begin_after l (k + 1) u o.marks)) (rest-begun l u w) q h g;
  }

  pub follows-runs : v ≡ false → Follows t k e child o r
  follows-runs h = record {
    is = λ l u w. stays (finishes k) (begun_in o (begin_after l (k + 1) u o.marks)) (rest-begun l u w) q h;
  }

-- `joins`
module _ (k e : ℕ) (o : Order) {v : Bool} (q : Quiets (k + 1) e o.marks v) (f : e ≤ 256) where
  all_quiet : (l : Acts) → e ≡ k + 1 + sizes l → quiet (k + 1) (sizes l) o.marks ≡ v
  all_quiet l i = let m : e - (k + 1) ≡ sizes l = omega arith in sym (rw m at (q.is f))

  pub joins-over : v ≡ true → {p : Went} → p ≡ finishes_of k o → JoinsAt k e o p
  unfolding joins
  joins-over h g = record {
    is = λ l i. g ∙ sym (ap went (yes (quiet (k + 1) (sizes l) o.marks) (finishes k o) (runs o) (all_quiet l i ∙ h)));
  }

  pub joins-waits : v ≡ false → {p : Went} → p ≡ runs_of o → JoinsAt k e o p
  unfolding joins
  joins-waits h g = record {
    is = λ l i. g ∙ sym (ap went (no (quiet (k + 1) (sizes l) o.marks) (finishes k o) (runs o) (all_quiet l i ∙ h)));
  }

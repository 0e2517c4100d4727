-- What a choice comes to is what counting it down over the offer comes to. Assumes nothing.
use mathlib.Core.Path.{◌≡◌, refl, sym, ap, ◌∙◌, subst}
use mathlib.Core.Bool.{Bool, true, false, false≢true, cond, ◌&&◌}
use mathlib.Core.List.{List, [], ◌∷◌}
use Prim.Native.Nat.{ℕ, zero, suc, ◌+◌, ◌-◌, ◌<◌, ◌≤◌}
use native.Mathlib.Omega.{arith}
use borrow.Author.Tests.{eq-eqb, ne_eqb, le-leb, leb-true, leb-false, ltb-true, ltb-false}
use lib.Dec.{eqb, ltb, leb}
use lib.ListN.{length, get_or, take}
use lib.Seq.{length-take-le, get_or-take}
use Rattle.plan.specs.Tree.{Plan}
use Rattle.machine.specs.declared.Message.{Message}
use Rattle.order.specs.declared.Order.{Order}
use Rattle.machine.specs.declared.State.{State}
use Rattle.machine.specs.declared.Step.{Step}
use Rattle.order.specs.Acting.{started_order}
use Rattle.order.specs.Answering.{Spelled, StartsOrder as Begun}
use Rattle.fit.specs.Answering.{Correlated, message_at, Letters, Picks}
use Rattle.machine.specs.Calls.{Chosen, refused_choice, chosen, nth, choosing, previewed, preview_by}
use Rattle.machine.specs.Fit.{ready_of, live_from, Letter, letters_from, fittings}
use Rattle.order.specs.Lists.{every, empties}
use Rattle.machine.specs.Offer.{Offer, offering, Offers, together, all_of, order_offers, free_from, start_offers, offers_of}
use Rattle.machine.specs.State.{no_message, letters}
use Rattle.offer.specs.declared.Amount.{Amount}
use Rattle.sight.specs.declared.Pointer.{Pointer}
use Rattle.sight.specs.declared.Sight.{Sight}
use Rattle.fit.specs.Folds.{folded, lesser}
use Rattle.fit.specs.Lines.{Tabled}
use Rattle.sight.specs.Sights.{pointed, seen, unseen, Unseen, chosen_by, answered, no_letter, Told}
use Rattle.fit.specs.Receiving.{Across, Leasts}
use Rattle.offer.specs.Acts.{Acts, act_live}
use Rattle.offer.specs.Seeing.{Informed, offer_live, Mailed, StartsOrder, SeesBy, SeesAll, Previews, amounted, amount_of, Amounts}
use Rattle.offer.proofs.Amounted.{offers-short}
use Rattle.offer.proofs.OrderSeen.{seen-acts, acts-all}
use Rattle.sight.proofs.Sighting.{pointed-found}
use Rattle.offer.proofs.Starting.{letters-long, letters-at}

-- a choice that is counted down
unfoldable pointing : (c i k j : ℕ) → Pointer
pointing c i k j = record { left = c; found = false; slot = i; activity = k; place = j }

found-stays : (l : List Offer) (c : Pointer) → c.found ≡ true → folded pointed l c ≡ c
unfolding folded
found-stays [] c e = refl
found-stays (x ∷ l) c e = ap (folded pointed l) (sym (pointed-found x.slot x.activity x.place c e)) ∙ found-stays l c e

unfoldable chosen_as : (number : ℕ) → Pointer → Chosen
chosen_as n c = cond c.found (chosen (offering c.slot c.activity c.place)) (refused_choice n)

unfoldable at : Offer → Pointer
at x = record { left = 0; found = true; slot = x.slot; activity = x.activity; place = x.place }

point-here : (x : Offer) (i k j : ℕ) → pointed x (pointing 0 i k j) ≡ at x
unfolding pointed pointing at
point-here x i k j = refl

point-next : (x : Offer) (c i k j : ℕ) → pointed x (pointing (suc c) i k j) ≡ pointing c i k j
unfolding pointed pointing
point-next x c i k j =
    let e : suc c - 1 ≡ c = omega arith in
    rw (ne_eqb (suc c) 0 (λ q. omega arith), e)

here-stays : (x : Offer) (l : List Offer) (i k j : ℕ) → folded pointed l (pointed x (pointing 0 i k j)) ≡ at x
unfolding at
here-stays x l i k j = ap (folded pointed l) (point-here x i k j) ∙ found-stays l (at x) refl

answer-nth : (n : ℕ) (l : List Offer) (c i k j : ℕ) → chosen_as n (folded pointed l (pointing c i k j)) ≡ nth n l c
unfolding folded nth pointing chosen_as at
answer-nth n [] c i k j = refl
answer-nth n (x ∷ l) zero i k j = ap (chosen_as n) (here-stays x l i k j)
answer-nth n (x ∷ l) (suc c) i k j = ap (λ z. chosen_as n (folded pointed l z)) (point-next x c i k j) ∙ answer-nth n l c i k j

left-says : (l : List Offer) (c i k j : ℕ) → (folded pointed l (pointing c i k j)).found ≡ false → (folded pointed l (pointing c i k j)).left + length l ≡ c
unfolding folded pointing at
left-says [] c i k j e = omega arith
left-says (x ∷ l) zero i k j e = absurd (false≢true (sym e ∙ ap (λ c. c.found) (here-stays x l i k j)))
left-says (x ∷ l) (suc c) i k j e =
    let z : folded pointed l (pointed x (pointing (suc c) i k j)) ≡ folded pointed l (pointing c i k j) = ap (folded pointed l) (point-next x c i k j) in
    let q = left-says l c i k j (sym (ap (λ c. c.found) z) ∙ e) in
    omega (arith, q, ap (λ c. c.left) z)

found-says : (l : List Offer) (c i k j : ℕ) → (folded pointed l (pointing c i k j)).found ≡ true → ((folded pointed l (pointing c i k j)).left ≡ 0) × (c < length l)
unfolding folded pointing at
found-says [] c i k j e = absurd (false≢true e)
found-says (x ∷ l) zero i k j e = (ap (λ c. c.left) (here-stays x l i k j), omega arith)
found-says (x ∷ l) (suc c) i k j e =
    let z : folded pointed l (pointed x (pointing (suc c) i k j)) ≡ folded pointed l (pointing c i k j) = ap (folded pointed l) (point-next x c i k j) in
    let q = found-says l c i k j (sym (ap (λ c. c.found) z) ∙ e) in
    (ap (λ c. c.left) z ∙ q.0, omega (arith, q.1))

-- what was found is the one with that count
found-is : (d : Offer) (l : List Offer) (c i k j : ℕ) → (folded pointed l (pointing c i k j)).found ≡ true → folded pointed l (pointing c i k j) ≡ at (get_or l c d)
unfolding folded pointing
found-is d [] c i k j e = absurd (false≢true e)
found-is d (x ∷ l) zero i k j e = here-stays x l i k j
found-is d (x ∷ l) (suc c) i k j e =
    let z : folded pointed l (pointed x (pointing (suc c) i k j)) ≡ folded pointed l (pointing c i k j) = ap (folded pointed l) (point-next x c i k j) in
    z ∙ found-is d l c i k j (sym (ap (λ c. c.found) z) ∙ e)

-- what asking an offer for one choice tells of it
pub record Tells-of (a : Offers) (c : ℕ) (p : Pointer) : Type 0 where
  pub there : (d : Offer) → p.found ≡ true → (c < length a.offered) × (offering p.slot p.activity p.place ≡ get_or a.offered c d)
  pub beyond : p.found ≡ false → p.left + length a.offered ≡ c

pub tells-of : (a : Offers) (c : ℕ) → Tells-of a c (seen a (unseen c)).pointer
unfolding seen unseen pointing at
tells-of a c = record {
  there = λ d e. ((found-says a.offered c 0 0 0 e).1, ap (λ (q : Pointer). offering q.slot q.activity q.place) (found-is d a.offered c 0 0 0 e));
  beyond = left-says a.offered c 0 0 0;
}

left-empties : (l : List Offer) (x c : ℕ) → x + length l ≡ c → eqb x c ≡ empties l
left-empties [] x c e = eq-eqb x c (omega arith)
left-empties (y ∷ l) x c e = ne_eqb x c (λ q. omega arith)

pub chosen-all : (a : Offers) (c : ℕ) → chosen_by c (seen a (unseen c)) ≡ choosing a c
unfolding chosen_by seen unseen choosing chosen_as pointing
chosen-all a c =
    by-test (folded pointed a.offered (pointing c 0 0 0)) (left-says a.offered c 0 0 0) (folded pointed a.offered (pointing c 0 0 0)).found refl
    ∙ answer-nth (cond (empties a.offered) (cond a.held 11 10) 12) a.offered c 0 0 0
  where
    by-test : (s : Pointer) → (s.found ≡ false → s.left + length a.offered ≡ c) → (b : Bool) → s.found ≡ b
        → chosen_as (cond (eqb s.left c) (cond a.held 11 10) 12) s ≡ chosen_as (cond (empties a.offered) (cond a.held 11 10) 12) s
    by-test s f true e = rw e
    by-test s f false e = rw (left-empties a.offered s.left c (f e))

pub answer-chosen : (a : Offers) (c : ℕ) → answered c (seen a (unseen c)) ≡ previewed (choosing a c)
unfolding answered
answer-chosen a c = ap previewed (chosen-all a c)

-- the letters of the fewest
and-swap : (x y z : Bool) → ((x && y) && z) ≡ (y && (x && z))
and-swap true y z = refl
and-swap false true z = refl
and-swap false false z = refl

lesser-leb : (u x c : ℕ) → leb u (lesser x c) ≡ (leb u x && leb u c)
unfolding lesser
lesser-leb u x c = by-test (ltb x c) refl (leb u x) refl (leb u c) refl
  where
    by-test : (b : Bool) → ltb x c ≡ b → (d : Bool) → leb u x ≡ d → (e : Bool) → leb u c ≡ e → leb u (cond b x c) ≡ (d && e)
    by-test true p true q true r = q
    by-test true p true q false r =
        let f = ltb-true x c p in let g = leb-true u x q in let h = leb-false u c r in absurd (omega (arith, f, g, h))
    by-test true p false q e r = q
    by-test false p true q e r = r
    by-test false p false q true r =
        let f = ltb-false x c p in let g = leb-false u x q in let h = leb-true u c r in absurd (omega (arith, f, g, h))
    by-test false p false q false r = r

least-leb : (u : ℕ) (l : List ℕ) (c : ℕ) → leb u (folded lesser l c) ≡ (leb u c && every (leb u) l)
unfolding folded every
least-leb u [] c = by-test (leb u c)
  where
    by-test : (b : Bool) → b ≡ (b && true)
    by-test true = refl
    by-test false = refl
least-leb u (x ∷ l) c = least-leb u l (lesser x c) ∙ (ap (λ b. b && every (leb u) l) (lesser-leb u x c) ∙ and-swap (leb u x) (leb u c) (every (leb u) l))

-- the messages that wait are those of their numbers
pub mailed : {messages : List Message} {letters : List ℕ} {waiting : ℕ} → Letters messages waiting letters → waiting ≤ 64 → Mailed letters waiting (take waiting messages)
mailed {messages} {waiting = waiting} m few = record {
  long = length-take-le waiting messages (omega (arith, m.held));
  is = λ j h. get_or-take waiting messages j no_message h ∙ m.is few j h;
}

module _ {t flags picks : List ℕ} {orders : List Order} {n : ℕ} {letters : List ℕ} {waiting : ℕ} {least : List ℕ} (w : Leasts t flags picks orders n letters waiting least) where
  told : (p : Plan) (ms : List Message) → Correlated p flags → Picks t picks → Tabled p t n → Mailed letters waiting ms
      → Told (letters_from p (live_from p 0 orders) 0 ms) letters waiting least
  told p ms cor u q m =
      record {
        few = w.few;
        long = letters-long p (live_from p 0 orders) 0 ms ∙ m.long;
        tells = λ j h.
            let z : 0 + j ≡ j = omega arith in
            let v : get_or (letters_from p (live_from p 0 orders) 0 ms) j no_letter
            ≡ record { place = j; message = message_at letters j; fitted = fittings p (live_from p 0 orders) (message_at letters j) } =
            letters-at p (live_from p 0 orders) 0 ms j no_letter no_message (omega (arith, m.long)) ∙ rw (z, m.is j h) in
            record {
              place = ap (λ x. x.place) v;
              message = ap (λ x. x.message) v;
              few = λ x g.
                  ap (λ y. every (leb x) y.fitted) v
                  ∙ sym (ap (leb x) ((w.is j h u).is p cor q) ∙ (least-leb x (fittings p (live_from p 0 orders) (message_at letters j)) 5 ∙ rw (le-leb x 5 (omega arith))));
            };
      }

-- the table that a plan spells is one that the search asks for
pub spelled-tabled : {p : Plan} {n : ℕ} {t : List ℕ} → Spelled p n t → Tabled p t n
spelled-tabled sp = record { spells = sp.spells; many = sp.many; limited = sp.within }

-- what the whole offer of some orders and letters does
pub acts-by : {S : Type 0} {act : Offers → S → S} → Acts act → {t flags picks letters : List ℕ} {orders : List Order} {n waiting : ℕ} {least : List ℕ} {none part r : S}
    → Leasts t flags picks orders n letters waiting least
    → Across t n (Informed t picks flags letters waiting least) (act_live act waiting) orders none part
    → (p : Plan) (ms : List Message) → Correlated p flags → Picks t picks → Spelled p n t → Mailed letters waiting ms
    → StartsOrder act t flags picks orders (started_order p) n letters waiting part r
    → r ≡ act (together (all_of (order_offers p waiting (letters_from p (live_from p 0 orders) 0 ms)) (live_from p 0 orders))
    (all_of (start_offers p (free_from 0 orders) (started_order p) (ready_of p (started_order p))) (letters_from p (live_from p 0 orders) 0 ms))) none
unfolding act_live
acts-by {act = act} g {orders = orders} {waiting = waiting} {none = none} {part} w slots p ms cor u sp m starts =
    let q = spelled-tabled sp in
    let o = started_order p in
    let live = live_from p 0 orders in
    let l = letters_from p live 0 ms in
    let a = all_of (order_offers p waiting l) live in
    let b = all_of (start_offers p (free_from 0 orders) o (ready_of p o)) l in
    let e : part ≡ act a none =
    slots.is p l (record { correlated = cor; picked = u; told = told w p ms cor u q m }) q ∙ sym (acts-all g (order_offers p waiting l) live none) in
    starts.is p ms cor u q m
    ∙ (sym (acts-all g (start_offers p (free_from 0 orders) o (ready_of p o)) l part) ∙ (ap (act b) e ∙ sym (g.both a b none)))

-- `sight_in`
sees-by : {t flags picks letters : List ℕ} {orders : List Order} {n waiting c : ℕ} {least : List ℕ} {none part r : Sight}
    → Leasts t flags picks orders n letters waiting least
    → Unseen c none
    → Across t n (Informed t picks flags letters waiting least) (offer_live waiting) orders none part
    → ((p : Plan) → Spelled p n t → StartsOrder seen t flags picks orders (started_order p) n letters waiting part r)
    → SeesBy t flags picks orders n letters waiting c r
unfolding offer_live act_live
sees-by w none_is slots starts = record {
  sixteen = slots.long;
  is = λ p ms cor u sp m.
      acts-by seen-acts w (record { long = slots.long; is = λ p l g y. slots.is p l g y }) p ms cor u sp m (starts p sp) ∙ rw none_is.is;
}

module _ {t flags picks letters : List ℕ} {orders : List Order} {n waiting c : ℕ} {least : List ℕ} {none part : Sight}
    (w : Leasts t flags picks orders n letters waiting least) (v : Unseen c none)
    (x : Across t n (Informed t picks flags letters waiting least) (offer_live waiting) orders none part) where
  -- where nothing waits, nothing starts
  pub sees-none : waiting ≡ 0 → SeesBy t flags picks orders n letters waiting c part
  unfolding letters_from folded
  sees-none e = sees-by w v x (λ p sp. record { is = λ p ms cor u q m. go _ p ms (m.long ∙ e) })
    where
      go : (f : Letter → Sight → Sight) (p : Plan) (ms : List Message) → length ms ≡ 0 → part ≡ folded f (letters_from p (live_from p 0 orders) 0 ms) part
      go f p [] h = refl
      go f p (m ∷ ms) h = absurd (omega arith)

  pub sees-started : {o : Order} {r : Sight} → Begun t o → StartsOrder seen t flags picks orders o n letters waiting part r → SeesBy t flags picks orders n letters waiting c r
  sees-started {r = r} a y = sees-by w v x (λ p sp. subst (λ (o : Order). StartsOrder seen t flags picks orders o n letters waiting part r) (a.is p n sp) y)

-- `sight_of`
pub sees-all : {t flags picks letters : List ℕ} {st : State} {n c : ℕ} {r : Sight} → st.waiting ≤ 64 → Letters st.messages st.waiting letters → Picks t picks
    → SeesBy t flags picks st.orders n letters st.waiting c r → SeesAll t flags st n c r
unfolding offers_of
sees-all {st = st} few m u w = record {
  orders = w.sixteen;
  messages = m.held;
  few = few;
  is = λ p cor sp. w.is p (letters st) cor u sp (mailed m few);
}

-- `preview_by`, `amount_of`, `offered_by`
pub previews-all : {t flags : List ℕ} {st : State} {n : ℕ} (c : ℕ) {s : Sight} {r : Step} → SeesAll t flags st n c s → r ≡ answered c s
    → Previews t flags st n c r
unfolding preview_by
previews-all {st = st} c w e = record {
  is = λ p cor sp. e ∙ (ap (answered c) (w.is p cor sp) ∙ answer-chosen (offers_of p st) c);
}

pub amount-none : (s : Sight) → 4294967295 < s.pointer.left → ◌≡◌ {A = Amount} (record { many = 0; held = s.held }) (amounted s)
unfolding amounted
amount-none s h = let e : 4294967295 - s.pointer.left ≡ 0 = omega arith in rw e

pub amount-some : (s : Sight) → ◌≡◌ {A = Amount} (record { many = 4294967295 - s.pointer.left; held = s.held }) (amounted s)
unfolding amounted
amount-some s = refl

many-seen : (a : Offers) → length a.offered ≤ 4294967295 → amounted (seen a (unseen 4294967295)) ≡ amount_of a
unfolding amounted seen unseen pointing
many-seen a h = by-test (folded pointed a.offered (pointing 4294967295 0 0 0)).found refl
  where
    by-test : (b : Bool) → (folded pointed a.offered (pointing 4294967295 0 0 0)).found ≡ b
        → ◌≡◌ {A = Amount} (record { many = 4294967295 - (folded pointed a.offered (pointing 4294967295 0 0 0)).left; held = a.held }) (amount_of a)
    by-test true e = let q = found-says a.offered 4294967295 0 0 0 e in absurd (omega (arith, q.1))
    by-test false e =
        let q = left-says a.offered 4294967295 0 0 0 e in
        let z : 4294967295 - (folded pointed a.offered (pointing 4294967295 0 0 0)).left ≡ length a.offered = omega (arith, q) in
        rw z

pub amounts-all : {t flags : List ℕ} {st : State} {n : ℕ} {s : Sight} {r : Amount} → SeesAll t flags st n 4294967295 s → r ≡ amounted s
    → Amounts t flags st n r
amounts-all {st = st} w e = record {
  is = λ p cor sp.
      e ∙ (ap amounted (w.is p cor sp) ∙ many-seen (offers_of p st) (offers-short p sp.within st w.orders w.messages w.few));
}

-- The returns of the functions that write a window. Assumes nothing.
use mathlib.Core.Path.{◌≡◌, refl, sym, ap, ◌∙◌, subst}
use mathlib.Core.Bool.{Bool, true, false}
use mathlib.Core.List.{List}
use Prim.Native.Nat.{ℕ, suc, ◌+◌, ◌-◌, ◌<◌, ◌≤◌}
use native.Mathlib.Decide.{dec_lt}
use native.Mathlib.Omega.{arith}
use borrow.Author.Tests.{lt-ltb, le-ltb}
use lib.ListN.{length, get_or, take, drop, set, length-drop, length-set}
use lib.Seq.{drop-drop, get_or-drop}
use Rattle.std.specs.Prelude.{Result, Err}
use Rattle.plan.specs.declared.Accepted.{Accepted}
use Rattle.plan.specs.declared.Refusal.{Refusal}
use Rattle.plan.specs.Answers.{answer_of}
use Rattle.order.specs.declared.Order.{Order}
use Rattle.order.specs.Answering.{StartsOrder as Begun}
use Rattle.machine.specs.declared.State.{State}
use Rattle.machine.specs.Limits.{plan_in}
use Rattle.machine.specs.Offer.{Offer, offering, Offers, offers_of}
use Rattle.machine.specs.State.{letters}
use Rattle.machine.proofs.Called.{answer-no}
use Rattle.fit.specs.Answering.{KnowsOrder, Letters, Picks}
use Rattle.fit.specs.Folds.{folded, lesser}
use Rattle.fit.specs.Lines.{Rows, Wholes}
use Rattle.fit.specs.Receiving.{Slots, Across, Leasts}
use Rattle.sight.specs.declared.Sight.{Sight}
use Rattle.sight.specs.Sights.{seen, unseen, Unseen, Marked, Remembers, Opening, cut_line, offer_line}
use Rattle.offer.specs.Acts.{act_line, act_live}
use Rattle.offer.specs.Having.{Has}
use Rattle.offer.specs.Seeing.{Informed, StartsAt, StartsLetter, StartsOrder}
use Rattle.offer.proofs.Answered.{Tells-of, tells-of, acts-by, mailed}
use Rattle.offer.proofs.OrderSeen.{acts-live, line-seen}
use Rattle.listing.specs.declared.Listed.{Listed}
use Rattle.listing.specs.Listing.{offer_number, listed_out, listed_in, Listing, holding, written, listing, Asks, Lists, RowOf, LetterOf, ListsBy, ListsAll}
use Rattle.listing.proofs.Windows.{listing-acts, list_full, list-passed, list-found, list-out, list-many}

-- `lesser_of`
pub lesser-left : (x c : ℕ) → x < c → x ≡ lesser x c
unfolding lesser
lesser-left x c h = rw (lt-ltb x c h)

pub lesser-skip : (x c : ℕ) → c ≤ x → c ≡ lesser x c
unfolding lesser
lesser-skip x c h = rw (le-ltb x c h)

lesser-is : (x c : ℕ) → x ≤ c → lesser x c ≡ x
lesser-is x c h =
    elim (dec_lt x c) [
      | yes g ↦ sym (lesser-left x c g)
      | no g ↦ let e : x ≡ c = omega (arith, g) in sym (e ∙ lesser-skip x c (omega (arith, g)))
    ]

-- a row that is asked, and a message
pub row-asks : {t picks marks known bound values parts : List ℕ} {kept slot k : ℕ} {cutting : Bool} {letters : List ℕ} {waiting : ℕ} {least : List ℕ} {c : ℕ} {s r : Sight}
    → Unseen c s → Rows t k (Opening t picks marks known bound values parts kept letters waiting least) (offer_line cutting waiting slot) s r
    → Asks (RowOf t picks marks known bound values parts kept slot k cutting letters waiting least) c r
unfolding act_line
row-asks {slot = slot} {cutting = cutting} {waiting = waiting} {c = c} u w = record {
  is = λ a x.
      w.is x.order x.plan x.told x.line x.given x.stands
      ∙ (ap (offer_line cutting waiting slot x.order x.plan x.told x.line) u.is
      ∙ (line-seen cutting waiting slot x.order x.plan x.told x.line (unseen c) ∙ ap (λ (z : Offers). seen z (unseen c)) (sym x.is)));
}

pub letter-asks : {t flags picks : List ℕ} {orders : List Order} {marks known : List ℕ} {free n : ℕ} {letters : List ℕ} {j c : ℕ} {s r : Sight} → j < 64
    → Unseen c s → StartsAt t flags picks orders marks known free n letters j s r → Asks (LetterOf t flags picks orders marks known free n letters j) c r
letter-asks {c = c} few u w = record {
  is = λ a x.
      (w.is few).is x.order x.plan x.letter x.correlated x.lent x.tabled x.place x.message x.fitted
      ∙ (ap (seen _) u.is ∙ ap (λ (z : Offers). seen z (unseen c)) (sym x.is));
}

-- what a row and a message add
pub row-lists : {t picks marks known bound values parts : List ℕ} {kept slot k : ℕ} {cutting : Bool} {letters : List ℕ} {waiting : ℕ} {least : List ℕ} {w r : Listing}
    → Lists (RowOf t picks marks known bound values parts kept slot k cutting letters waiting least) w r
    → Rows t k (Opening t picks marks known bound values parts kept letters waiting least) (act_line listing cutting waiting slot) w r
unfolding act_line
row-lists x = record {
  is = λ o p l y g z. x.is _ (record { order = o; plan = p; told = l; line = y; given = g; stands = z; is = refl });
}

pub letter-lists : {t flags picks : List ℕ} {orders : List Order} {marks known : List ℕ} {free n : ℕ} {letters : List ℕ} {j : ℕ} {w r : Listing}
    → Lists (LetterOf t flags picks orders marks known free n letters j) w r → StartsLetter listing t flags picks orders marks known free n letters j w r
letter-lists x = record {
  is = λ o p y cor lent q place message fitted.
      x.is _ (record {
        order = o;
        plan = p;
        letter = y;
        correlated = cor;
        lent = lent;
        tabled = q;
        place = place;
        message = message;
        fitted = fitted;
        is = refl;
      });
}

-- `list_row`, `list_letter`: c is the next choice that is asked for, and c - skip offers were dealt with
pub record Listens (P : Offers → Type 0) (start : Listing) (c skip at : ℕ) (out : List ℕ) : Type 0 where
  pub below : skip ≤ c
  pub near : c ≤ 4294967295 + at
  pub long : length out ≡ length start.out
  pub some : (a : Offers) → P a → c - skip ≤ length a.offered
  pub same : (a : Offers) → P a → listing a start ≡ folded written (drop (c - skip) a.offered) (holding skip at out)

pub listens-starts : (P : Offers → Type 0) (skip at : ℕ) (out : List ℕ) → skip ≤ 4294967295 → Listens P (holding skip at out) skip skip at out
unfolding listing
listens-starts P skip at out h =
    let z : skip - skip ≡ 0 = omega arith in
    record { below = omega arith; near = omega arith; long = refl; some = λ a x. omega arith; same = λ a x. rw z refl }

module _ {P : Offers → Type 0} {start : Listing} {c skip at : ℕ} {out : List ℕ} (w : Listens P start c skip at out) where
  -- where there is no more room
  pub listens-full : length out ≤ at → Lists P start (holding skip at out)
  listens-full h = record { is = λ a x. sym (w.same a x ∙ list_full (drop (c - skip) a.offered) skip at out h) }

  module _ (room : at < length out) {s : Sight} (y : Asks P c s) where
    told : (a : Offers) → P a → Tells-of a c s.pointer
    told a x = subst (λ (v : Sight). Tells-of a c v.pointer) (sym (y.is a x)) (tells-of a c)

    -- where the choice is not there
    pub listens-ends : {r : ℕ} → s.pointer.found ≡ false → r ≡ lesser s.pointer.left skip → Lists P start (holding r at out)
    listens-ends {r} e q = record {
      is = λ a x.
          let l = a.offered in
          let left = (told a x).beyond e in
          let near = w.some a x in
          let many = length-drop (c - skip) l in
          let z : lesser s.pointer.left skip ≡ s.pointer.left = lesser-is s.pointer.left skip (omega (arith, left, near, w.below)) in
          let n : skip - length (drop (c - skip) l) ≡ r = omega (arith, left, near, many, q, z, w.below) in
          sym (w.same a x ∙ (list-passed at out room (drop (c - skip) l) skip (omega (arith, left, near, many, w.below)) ∙ ap (λ (n : ℕ). holding n at out) n));
    }

    -- where it is
    pub listens-again : {n : ℕ} {v : List ℕ} → s.pointer.found ≡ true
        → n ≡ offer_number (offering s.pointer.slot s.pointer.activity s.pointer.place) → v ≡ set out at n → Listens P start (c + 1) 0 (at + 1) v
    listens-again {n} {v} e q u = record {
      below = omega arith;
      near = omega (arith, w.near);
      long = ap length u ∙ (length-set out at n ∙ w.long);
      some = λ a x. let t = (told a x).there (offering 0 0 0) e in omega (arith, t.0);
      same = λ a x.
          let l = a.offered in
          let t = (told a x).there (offering 0 0 0) e in
          let many = length-drop (c - skip) l in
          let z : c - skip + suc skip ≡ c + 1 - 0 = omega (arith, w.below) in
          let k : c - skip + skip ≡ c = omega (arith, w.below) in
          let g : n ≡ offer_number (get_or (drop (c - skip) l) skip (offering 0 0 0)) =
          q ∙ (ap offer_number t.1 ∙ sym (ap offer_number (get_or-drop (c - skip) l skip (offering 0 0 0) ∙ ap (λ (i : ℕ). get_or l i (offering 0 0 0)) k))) in
          w.same a x
          ∙ (list-found at out room (offering 0 0 0) (drop (c - skip) l) skip (omega (arith, many, t.0, w.below))
          ∙ (ap (λ (m : List Offer). folded written m (holding 0 (at + 1) (set out at (offer_number (get_or (drop (c - skip) l) skip (offering 0 0 0))))))
          (drop-drop (suc skip) (c - skip) l ∙ ap (λ (i : ℕ). drop i l) z)
          ∙ ap (λ (m : List ℕ). folded written (drop (c + 1 - 0) l) (holding 0 (at + 1) m)) (sym (u ∙ ap (set out at) g))));
    }

-- `list_slot`
pub list-live : {t picks flags known parts : List ℕ} {n : ℕ} (i : ℕ) {o : Order} {letters : List ℕ} {wait : ℕ} {least : List ℕ} {s r : Listing} {cutting : Bool} → (o.root ≡ 0 → ⊥)
    → KnowsOrder flags o known → Remembers o parts → Wholes t n (Marked o.marks) cut_line false cutting
    → Wholes t n (Opening t picks o.marks known o.bound o.values parts o.kept letters wait least) (act_line listing cutting wait i) s r
    → Slots t n (Informed t picks flags letters wait least) (act_live listing wait) i o s r
list-live i h k m v w = acts-live listing-acts i h k m v w

-- `list_in`
pub lists-by : {t flags picks letters : List ℕ} {orders : List Order} {n waiting : ℕ} {least : List ℕ} {none part r : Listing} {o : Order}
    → Leasts t flags picks orders n letters waiting least
    → Across t n (Informed t picks flags letters waiting least) (act_live listing waiting) orders none part
    → Begun t o → StartsOrder listing t flags picks orders o n letters waiting part r
    → ListsBy t flags picks orders n letters waiting none r
lists-by {t} {flags} {picks} {letters} {orders} {n} {waiting} {part = part} {r} w x b y = record {
  is = λ p ms cor u sp m.
      acts-by listing-acts w x p ms cor u sp m (subst (λ (o : Order). StartsOrder listing t flags picks orders o n letters waiting part r) (b.is p n sp) y);
}

-- `list_of`
pub lists-all : {t flags picks letters : List ℕ} {st : State} {n : ℕ} {w r : Listing} → st.waiting ≤ 64 → Letters st.messages st.waiting letters → Picks t picks
    → ListsBy t flags picks st.orders n letters st.waiting w r → ListsAll t flags st n w r
unfolding offers_of
lists-all {st = st} few m u w = record { is = λ p cor sp. w.is p (letters st) cor u sp (mailed m few) }

-- `list_by`
module _ {t flags : List ℕ} {n : ℕ} {s : State} {first skip at : ℕ} {out v : List ℕ} (h : Has t flags n s) (w : ListsAll t flags s n (holding first 0 out) (holding skip at v)) where
  is_all : holding skip at v ≡ listing (offers_of h.plan s) (holding first 0 out)
  is_all = w.is h.plan h.correlated h.spelled

  pub list_counted : ◌≡◌ {A = Listed} (record { refusal = 0; many = at }) (listed_in first s (length out))
  unfolding listed_in listing
  list_counted =
      let l = (offers_of h.plan s).offered in
      let z : length out - 0 ≡ length out = omega arith in
      let e : at ≡ length (take (length out) (drop first l)) =
      ap (λ (x : Listing). x.at) is_all ∙ (list-many l first 0 out (omega arith) ∙ rw z (omega arith)) in
      rw (h.planned.is, e)

  pub list_written : v ≡ listed_out first s out
  unfolding listed_out listing
  list_written = ap (λ (x : Listing). x.out) is_all ∙ (list-out (offers_of h.plan s).offered first 0 out (omega arith) ∙ rw h.planned.is)

-- `list`: a state that earns 17
module _ (s : State) {a : Result Accepted Refusal} (e : a ≡ answer_of (plan_in s)) {bad : Refusal} (o : a ≡ Err bad) where
  pub list-unplanned : (first room : ℕ) → ◌≡◌ {A = Listed} (record { refusal = 17; many = 0 }) (listed_in first s room)
  unfolding listed_in
  list-unplanned first room = rw (answer-no (plan_in s) e o)

  pub out-unplanned : (first : ℕ) (out : List ℕ) → out ≡ listed_out first s out
  unfolding listed_out
  out-unplanned first out = rw (answer-no (plan_in s) e o)

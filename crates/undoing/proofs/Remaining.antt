-- What is still remembered for a scope, by its history, and the entries of a book for it: over the events of one time that a step goes through its order. Assumes nothing.
use Prim.Native.Nat.{ℕ, ◌+◌, ◌≤◌}
use native.Mathlib.Omega.{arith}
use mathlib.Core.Path.{◌≡◌, refl, sym, ap, subst, ◌∙◌}
use mathlib.Core.Bool.{Bool, true, false, cond, not, ◌&&◌, ◌||◌, false≢true, or-true}
use mathlib.Core.List.{List, [], ◌∷◌, ◌++◌, append-nil, append_assoc, reverse, map}
use lib.ListN.{length, drop}
use lib.Dec.{eqb}
use borrow.Author.Tests.{eqb-true, eq-eqb, not-true}
use Rattle.plan.specs.Tree.{Plan}
use Rattle.order.specs.Lists.{every, some, only, each}
use Rattle.order.specs.State.{Name, root, inner, same}
use Rattle.order.specs.Event.{Event, started, began, closed, faulted, stopped, ended, raised, left}
use Rattle.undoing.specs.Demand3.{Inner, scopes_of, inside_of, is_begin, since, is_turn, is_finish, closed_by, undone_by, is_left, closings_of, undone_of, has_turned, none_now, may_turn, may_begin, may_undo, is_undo_part, runner_of, allowed}
use Rattle.undoing.specs.Ties.{Place, body_of, is_name, place_of, place_after, seen}
use Rattle.undoing.specs.Orderly.{is_began_of, may_act, orderly}
use Rattle.undoing.specs.Begun.{has_began}
use Rattle.undoing.specs.Buyer.{how_many, is_closed_of}
use Rattle.undoing.specs.Answered.{back_of, is_close, putting}
use Rattle.undoing.proofs.Parts.{both, decide, some-none, same-itself, same-equal}
use Rattle.undoing.proofs.Accounts.{Account, account_of, next, account-next, Phase, rest, live, waits, undoes, heals, odd, Tied, Known}
use Rattle.undoing.proofs.Moves.{fair, not-begun, undone-inside}
use Rattle.undoing.proofs.Orders.{onto, fair_after}
use Rattle.undoing.proofs.Offered.{Each, each_none, each_more}
use Rattle.undoing.proofs.Bought.{may-undo}
use Rattle.undoing.proofs.OfOrder.{one_if}
use Rattle.undoing.proofs.Stacks.{Kept, kept-without, kept-first}

-- what is due for these closings, of those directly inside n that something takes back
unfoldable pub dues_at : Plan → Name → List ℕ → List (List ℕ)
dues_at p n [] = []
dues_at p n (e ∷ l) = cond (is_close p n e) (putting (back_of p e) (dues_at p n l)) (dues_at p n l)

put-append : (x : List ℕ) (d e : List (List ℕ)) → putting x (d ++ e) ≡ putting x d ++ e
put-append [] d e = refl
put-append (t ∷ x) d e = refl

pub dues-append : (p : Plan) (n : Name) (l m : List ℕ) → dues_at p n (l ++ m) ≡ dues_at p n l ++ dues_at p n m
unfolding dues_at
dues-append p n [] m = refl
dues-append p n (e ∷ l) m =
    decide (is_close p n e) (λ t. rw (t, dues-append p n l m) (put-append (back_of p e) (dues_at p n l) (dues_at p n m))) (λ t. rw (t, dues-append p n l m))

cancel : (xs : List ℕ) {l m : List ℕ} → xs ++ l ≡ xs ++ m → l ≡ m
cancel [] e = e
cancel (x ∷ xs) e = cancel xs (ap (drop 1) e)

-- What an account leaves of the closings of a scope that is left running; of another nothing.
pub record Whole (a : Account) (r : List ℕ) : Type 0 where
  pub split : a.left ≡ true → a.closings ≡ a.undone ++ r
  pub gone : a.left ≡ false → r ≡ []
  pub calm : a.left ≡ true → a.turned ≡ false → a.undone ≡ []
  pub kept : a.left ≡ false → (a.turned && not a.finished) ≡ false

-- it is what an order remembers
pub tied-whole : (q : Phase) (l : List ℕ) (a : Account) → Tied q l a → Whole a l
tied-whole rest l a t = record { split = λ e. absurd (false≢true (sym t.0 ∙ e)); gone = λ e. t.1; calm = λ e. absurd (false≢true (sym t.0 ∙ e)); kept = λ e. t.2 }
tied-whole live l a t =
    record { split = λ e. t.3 ∙ ap (λ (u : List ℕ). u ++ l) (sym t.2); gone = λ e. absurd (false≢true (sym e ∙ t.0)); calm = λ e d. t.2; kept = λ e. absurd (false≢true (sym e ∙ t.0)) }
tied-whole (waits w) l a t =
    record { split = λ e. t.3 ∙ ap (λ (u : List ℕ). u ++ l) (sym t.2); gone = λ e. absurd (false≢true (sym e ∙ t.0)); calm = λ e d. t.2; kept = λ e. absurd (false≢true (sym e ∙ t.0)) }
tied-whole (undoes w) l a t =
    record { split = λ e. t.2; gone = λ e. absurd (false≢true (sym e ∙ t.0)); calm = λ e d. absurd (false≢true (sym d ∙ t.1)); kept = λ e. absurd (false≢true (sym e ∙ t.0)) }
tied-whole heals l a t =
    record {
      split = λ e. t.2 ∙ (sym (append-nil a.undone) ∙ ap (λ (z : List ℕ). a.undone ++ z) (sym t.3));
      gone = λ e. absurd (false≢true (sym e ∙ t.0));
      calm = λ e d. absurd (false≢true (sym d ∙ t.1));
      kept = λ e. absurd (false≢true (sym e ∙ t.0));
    }
tied-whole odd l a t = absurd t

pub whole-tied : (q : Phase) (l r : List ℕ) (a : Account) → Tied q l a → Whole a r → r ≡ l
whole-tied q l r a t w =
    decide a.left
    (λ e. cancel a.undone (sym (w.split e) ∙ (tied-whole q l a t).split e))
    (λ e. w.gone e ∙ sym ((tied-whole q l a t).gone e))

-- One event more.
module _ (p : Plan) (n : Name) (past : List Event) where
  on-begin : (e : Event) → is_begin n e ≡ true → account_of p n (e ∷ past) ≡ record { left = true; turned = false; finished = false; undone = []; closings = []; faulted = false; handled = false; number = 0 }
  on-begin e b = account-next p n e past ∙ rw (b, next)

  on-start : (e : Event) → is_begin n e ≡ false → is_begin root e ≡ true
      → account_of p n (e ∷ past) ≡ record { left = false; turned = false; finished = false; undone = []; closings = []; faulted = false; handled = false; number = 0 }
  on-start e b r = account-next p n e past ∙ rw (b, next, r)

  record More (e : Event) : Type 0 where
    left_so : (account_of p n (e ∷ past)).left ≡ (not (is_finish n e) && is_left n past)
    turned_so : (account_of p n (e ∷ past)).turned ≡ (is_turn n e || some (is_turn n) (since n past))
    finished-so : (account_of p n (e ∷ past)).finished ≡ (is_finish n e || some (is_finish n) (since n past))
    undone-so : (account_of p n (e ∷ past)).undone ≡ undone_of p n past ++ reverse (undone_by p n past e)
    closings-so : (account_of p n (e ∷ past)).closings ≡ closed_by (inside_of p n) (λ k. closings_of p (inner k) past) e ++ closings_of p n past

  on-more : (e : Event) → is_begin n e ≡ false → is_begin root e ≡ false → More e
  on-more e b r =
      record {
        left_so = ap (λ (a : Account). a.left) (account-next p n e past) ∙ rw (b, next, r);
        turned_so = ap (λ (a : Account). a.turned) (account-next p n e past) ∙ rw (b, next, r);
        finished-so = ap (λ (a : Account). a.finished) (account-next p n e past) ∙ rw (b, next, r);
        undone-so = ap (λ (a : Account). a.undone) (account-next p n e past) ∙ rw (b, next, r);
        closings-so = ap (λ (a : Account). a.closings) (account-next p n e past) ∙ rw (b, next, r);
      }

  pub whole-begin : (e : Event) → is_begin n e ≡ true → Whole (account_of p n (e ∷ past)) []
  whole-begin e b =
      subst (λ (a : Account). Whole a []) (sym (on-begin e b))
      (record { split = λ x. refl; gone = λ x. refl; calm = λ x y. refl; kept = λ x. refl })

  pub whole-start : (e : Event) → is_begin n e ≡ false → is_begin root e ≡ true → Whole (account_of p n (e ∷ past)) []
  whole-start e b r =
      subst (λ (a : Account). Whole a []) (sym (on-start e b r))
      (record { split = λ x. refl; gone = λ x. refl; calm = λ x y. refl; kept = λ x. refl })

  -- it is over
  whole-over : (e : Event) → is_begin n e ≡ false → is_begin root e ≡ false → is_finish n e ≡ true → Whole (account_of p n (e ∷ past)) []
  whole-over e b r f =
      let m = on-more e b r in
      let l : (account_of p n (e ∷ past)).left ≡ false = m.left_so ∙ rw f in
      let d : (account_of p n (e ∷ past)).finished ≡ true = m.finished-so ∙ rw f in
      record {
        split = λ x. absurd (false≢true (sym l ∙ x));
        gone = λ x. refl;
        calm = λ x. absurd (false≢true (sym l ∙ x));
        kept = λ x. rw d (decide (account_of p n (e ∷ past)).turned (λ t. rw t) (λ t. rw t));
      }

  -- nothing is undone and nothing closes
  whole_same : (e : Event) (r : List ℕ) → is_begin n e ≡ false → is_begin root e ≡ false → is_finish n e ≡ false → (is_turn n e ≡ true → is_left n past ≡ true)
      → undone_by p n past e ≡ [] → closed_by (inside_of p n) (λ k. closings_of p (inner k) past) e ≡ [] → Whole (account_of p n past) r → Whole (account_of p n (e ∷ past)) r
  whole_same e r b s f t u c w =
      let m = on-more e b s in
      let l : (account_of p n (e ∷ past)).left ≡ is_left n past = m.left_so ∙ rw f in
      let u₁ : (account_of p n (e ∷ past)).undone ≡ undone_of p n past = m.undone-so ∙ rw (u, append-nil) in
      let c₁ : (account_of p n (e ∷ past)).closings ≡ closings_of p n past = m.closings-so ∙ rw c in
      let d : (account_of p n (e ∷ past)).finished ≡ some (is_finish n) (since n past) = m.finished-so ∙ rw f in
      record {
        split = λ x. c₁ ∙ (w.split (sym l ∙ x) ∙ ap (λ (z : List ℕ). z ++ r) (sym u₁));
        gone = λ x. w.gone (sym l ∙ x);
        calm = λ x y. u₁ ∙ w.calm (sym l ∙ x) (unturned (sym m.turned_so ∙ y));
        kept = λ x. ap (λ (z : Bool). z && not (account_of p n (e ∷ past)).finished) m.turned_so
            ∙ (ap (λ (z : Bool). (is_turn n e || some (is_turn n) (since n past)) && not z) d
            ∙ decide (is_turn n e) (λ y. absurd (false≢true (sym (sym l ∙ x) ∙ t y))) (λ y. rw y (w.kept (sym l ∙ x))));
      }
    where
      unturned : (is_turn n e || some (is_turn n) (since n past)) ≡ false → some (is_turn n) (since n past) ≡ false
      unturned h = decide (is_turn n e) (λ y. absurd (false≢true (sym (rw y at h)))) (λ y. rw y at h)

-- which scope an activity is the undo part of, if any
data WhichUndo (p : Plan) (j : ℕ) (l : List Inner) : Type 0 where
  undo-of : (y : Inner) → Known p y → y.undoes ≡ true → y.undo ≡ j → WhichUndo p j l
  undo-none : only (is_undo_part j) l ≡ [] → WhichUndo p j l

which-undo : (p : Plan) (j : ℕ) {l : List Inner} → Each (Known p) l → WhichUndo p j l
unfolding only
which-undo p j each_none = undo-none refl
which-undo p j (each_more {a = y} {l = l} kn r) =
    decide (is_undo_part j y)
    (λ t. both y.undoes (eqb y.undo j) t (λ u e. undo-of y kn u (eqb-true y.undo j e)))
    (λ t. further t (which-undo p j r))
  where
    further : is_undo_part j y ≡ false → WhichUndo p j l → WhichUndo p j (y ∷ l)
    further t (undo-of z k u e) = undo-of z k u e
    further t (undo-none e) = undo-none (rw t e)

nothing : (t : ℕ) → some (eqb t) [] ≡ true → ⊥
unfolding some
nothing t h = false≢true h

head-same : {x y : Inner} → ◌≡◌ {A = List Inner} (x ∷ []) (y ∷ []) → x ≡ y
head-same {x} {y} e = cc

module _ (p : Plan) (all : Each (Known p) (scopes_of p)) (n : Name) (named : is_name p n ≡ true) (last : Name)
    (there : (j : ℕ) → is_close p n j ≡ true → place_of p j ≡ body_of n [] last)
    (closing : (j : ℕ) → is_close p n j ≡ true → (past : List Event) (r : List ℕ)
    → dues_at p n (closed_by (inside_of p n) (λ k. closings_of p (inner k) past) (closed j) ++ r) ≡ putting (back_of p j) (dues_at p n r)) where
  -- the undo part of a scope directly inside begins with this
  pub record Its (y : Inner) : Type 0 where
    pub known : Known p y
    pub around : y.around ≡ n
    pub beyond : y.beyond ≡ []
    pub undoing : y.undoes ≡ true
    pub closes : is_close p n y.number ≡ true
    pub step : ℕ
    pub takes : some (eqb step) (back_of p y.number) ≡ true

  -- of it something is due
  put-its : (y : Inner) → Its y → dues_at p n (y.number ∷ []) ≡ back_of p y.number ∷ []
  unfolding dues_at
  put-its y i = rw i.closes (go (back_of p y.number) i.takes)
    where
      go : (l : List ℕ) → some (eqb i.step) l ≡ true → putting l [] ≡ l ∷ []
      go [] h = absurd (nothing i.step h)
      go (x ∷ l) h = refl

  -- After one event: what runs in addition, and what is still remembered.
  pub record Then (past : List Event) (e : Event) (Q S : List (List ℕ)) : Type 0 where
    pub more : List (List ℕ)
    pub left : List ℕ
    pub whole : Whole (account_of p n (e ∷ past)) left
    pub kept : Kept ((Q ++ more) ++ dues_at p n left) S
    pub begun : (y : Inner) → Its y → is_began_of (eqb y.undo) e ≡ true → more ≡ back_of p y.number ∷ []

  module _ (past : List Event) (Q S : List (List ℕ)) (r : List ℕ) where
    then-calm : (e : Event) (d : List ℕ) → Whole (account_of p n (e ∷ past)) d → Kept (Q ++ dues_at p n d) S → ((y : Inner) → Its y → is_began_of (eqb y.undo) e ≡ true → ⊥) → Then past e Q S
    then-calm e d w k h =
        record { more = []; left = d; whole = w; kept = subst (λ (l : List (List ℕ)). Kept (l ++ dues_at p n d) S) (sym (append-nil Q)) k; begun = λ y i b. absurd (h y i b) }

    then-over : (e : Event) → Whole (account_of p n (e ∷ past)) [] → Kept (Q ++ dues_at p n r) S → ((y : Inner) → Its y → is_began_of (eqb y.undo) e ≡ true → ⊥) → Then past e Q S
    unfolding dues_at
    then-over e w k h = then-calm e [] w (subst (λ (l : List (List ℕ)). Kept l S) (sym (append-nil Q)) (kept-first Q (dues_at p n r) k)) h

    module _ (w : Whole (account_of p n past) r) (k : Kept (Q ++ dues_at p n r) S) where
      -- the scope that is to run it starts an undo part
      undo-then : (j : ℕ) (y : Inner) → Known p y → y.undo ≡ j → only (is_undo_part j) (scopes_of p) ≡ y ∷ [] → is_begin n (began j) ≡ false → runner_of past y ≡ n → may_undo p past y ≡ true → Then past (began j) Q S
      unfolding has_turned is_begin is_finish is_turn closed_by dues_at is_began_of only
      undo-then j y kn e o b q m =
          record {
            more = dues_at p n (y.number ∷ []);
            left = d;
            whole =
                record {
                  split = λ x. a.closings-so ∙ (parts ∙ ap (λ (l : List ℕ). l ++ d) (sym u₁));
                  gone = λ x. absurd (false≢true (sym x ∙ l₁));
                  calm = λ x z. absurd (false≢true (sym z ∙ (a.turned_so ∙ t₁)));
                  kept = λ x. absurd (false≢true (sym x ∙ l₁));
                };
            kept = subst (λ (l : List (List ℕ)). Kept l S) (ap (λ (l : List ℕ). Q ++ dues_at p n l) was ∙ (ap (λ (l : List (List ℕ)). Q ++ l) (dues-append p n (y.number ∷ []) d) ∙ sym (append_assoc Q (dues_at p n (y.number ∷ [])) (dues_at p n d)))) k;
            begun = λ z i g.
                let f : y ≡ z = head-same (sym o ∙ (ap (λ (v : ℕ). only (is_undo_part v) (scopes_of p)) (sym (eqb-true z.undo j g)) ∙ i.known.by_undo i.undoing)) in
                ap (λ (v : Inner). dues_at p n (v.number ∷ [])) f ∙ put-its z i;
          }
        where
          a : More p n past (began j)
          a = on-more p n past (began j) b refl

          d : List ℕ
          d = drop (length (undone_of p n past ++ (y.number ∷ []))) (closings_of p n past)

          x₀ : (has_turned n past ≡ true) × (closings_of p n past ≡ (undone_of p n past ++ (y.number ∷ [])) ++ drop (length (undone_of p n past ++ (y.number ∷ []))) (closings_of p n past))
          x₀ = subst (λ (s : Name). (has_turned s past ≡ true) × (closings_of p s past ≡ (undone_of p s past ++ (y.number ∷ [])) ++ drop (length (undone_of p s past ++ (y.number ∷ []))) (closings_of p s past))) q (may-undo p past y m)

          parts : closings_of p n past ≡ (undone_of p n past ++ (y.number ∷ [])) ++ d
          parts = x₀.1

          t₁ : some (is_turn n) (since n past) ≡ true
          t₁ = both (some (is_turn n) (since n past)) _ x₀.0 (λ x z. x)

          is-left : is_left n past ≡ true
          is-left = decide (is_left n past) (λ x. x) (λ x. absurd (false≢true (sym (w.kept x) ∙ x₀.0)))

          l₁ : (account_of p n (began j ∷ past)).left ≡ true
          l₁ = a.left_so ∙ is-left

          u₁ : (account_of p n (began j ∷ past)).undone ≡ undone_of p n past ++ (y.number ∷ [])
          u₁ = a.undone-so ∙ ap (λ (l : List ℕ). undone_of p n past ++ reverse l) (undone-inside p n past j ∙ (ap (λ (l : List Inner). map (λ x. x.number) (only (λ x. same (runner_of past x) n) l)) o ∙ ones))
            where
              ones : map (λ x. x.number) (only (λ x. same (runner_of past x) n) (y ∷ [])) ≡ y.number ∷ []
              ones = rw (ap (λ (s : Name). same s n) q ∙ same-itself n)

          was : r ≡ y.number ∷ d
          was = cancel (undone_of p n past) (sym (w.split is-left) ∙ (parts ∙ append_assoc (undone_of p n past) (y.number ∷ []) d))

      -- nothing is undone by its beginning
      plain_then : (j : ℕ) → is_begin n (began j) ≡ false → undone_by p n past (began j) ≡ [] → ((y : Inner) → Its y → y.undo ≡ j → ⊥) → Then past (began j) Q S
      unfolding is_begin is_finish is_turn closed_by is_began_of
      plain_then j b u h =
          then-calm (began j) r (whole_same p n past (began j) r b refl refl (λ z. absurd (false≢true z)) u refl w) k (λ y i g. h y i (eqb-true y.undo j g))

      -- an activity begins
      began_then : (j : ℕ) → allowed p past (began j) ≡ true → Then past (began j) Q S
      unfolding allowed may_begin is_begin is_began_of every only
      began_then j f =
          decide (is_begin n (began j))
          (λ b. then-over (began j) (whole-begin p n past (began j) b) k (λ y i g. false≢true (sym (not-begun p n y.undo named (i.known.no_scope i.undoing)) ∙ subst (λ (v : ℕ). is_begin n (began v) ≡ true) (sym (eqb-true y.undo j g)) b)))
          (λ b. go b (which-undo p j all))
        where
          its-runner : (z : Inner) → Its z → same (runner_of past z) n ≡ true
          its-runner z i = rw (i.beyond, i.around, same-itself n)

          go : is_begin n (began j) ≡ false → WhichUndo p j (scopes_of p) → Then past (began j) Q S
          go b (undo-none o) =
              plain_then j b (undone-inside p n past j ∙ ap (λ (l : List Inner). map (λ x. x.number) (only (λ x. same (runner_of past x) n) l)) o)
              (λ y i g. absurd (let z : ◌≡◌ {A = List Inner} [] (y ∷ []) = sym o ∙ (ap (λ (v : ℕ). only (is_undo_part v) (scopes_of p)) (sym g) ∙ i.known.by_undo i.undoing) in let x : ◌≡◌ {A = ℕ} 0 1 = ap length z in omega arith))
          go b (undo-of y kn un e) =
              let o : only (is_undo_part j) (scopes_of p) ≡ y ∷ [] = ap (λ (v : ℕ). only (is_undo_part v) (scopes_of p)) (sym e) ∙ kn.by_undo un in
              decide (same (runner_of past y) n)
              (λ q. undo-then j y kn e o b (same-equal (runner_of past y) n q)
              (both (not (none_now past)) _ f (λ x z. both (may_undo p past y) true (subst (λ (l : List Inner). every (may_undo p past) l ≡ true) o z) (λ v v₁. v))))
              (λ q. plain_then j b (undone-inside p n past j ∙ (ap (λ (l : List Inner). map (λ x. x.number) (only (λ x. same (runner_of past x) n) l)) o ∙ rw q))
              (λ z i g. let v : y ≡ z = head-same (sym o ∙ (ap (λ (v : ℕ). only (is_undo_part v) (scopes_of p)) (sym g) ∙ i.known.by_undo i.undoing)) in
              absurd (false≢true (sym q ∙ (ap (λ (a : Inner). same (runner_of past a) n) v ∙ its-runner z i)))))

      -- a scope closes that is none of those directly inside, or that is this one
      shut-then : (j : ℕ) → is_close p n j ≡ false → Then past (closed j) Q S
      unfolding is_begin is_finish is_turn closed_by undone_by is_began_of each
      shut-then j c =
          decide (same n (inner j))
          (λ e. then-over (closed j) (whole-over p n past (closed j) refl refl e) k (λ y i. false≢true))
          (λ e. then-calm (closed j) r
          (whole_same p n past (closed j) r refl refl e (λ z. absurd (false≢true z)) refl
          (ap (λ (l : List Inner). each (λ x. cond x.undoes (x.number ∷ []) (closings_of p (inner x.number) past)) l) (some-none (λ x. eqb x.number j) (inside_of p n) c)) w)
          k (λ y i. false≢true))

      -- what turns a scope
      turn-then : (e : Event) → is_begin n e ≡ false → is_begin root e ≡ false → is_finish n e ≡ false → (is_turn n e ≡ true → is_left n past ≡ true)
          → undone_by p n past e ≡ [] → closed_by (inside_of p n) (λ k. closings_of p (inner k) past) e ≡ [] → ((y : Inner) → is_began_of (eqb y.undo) e ≡ false) → Then past e Q S
      turn-then e b s f t u c g = then-calm e r (whole_same p n past e r b s f t u c w) k (λ y i h. false≢true (sym (g y) ∙ h))

      -- a scope directly inside closes: the book has what takes it back before the rest
      pub closing_then : (j : ℕ) → is_close p n j ≡ true → fair p past (closed j) ≡ true → Kept (Q ++ putting (back_of p j) (dues_at p n r)) S → Then past (closed j) Q S
      unfolding orderly may_act may_turn is_begin is_finish is_turn undone_by is_began_of
      closing_then j c f g =
          decide (same n (inner j))
          (λ e. then-over (closed j) (whole-over p n past (closed j) refl refl e) k (λ y i. false≢true))
          (λ e. then-calm (closed j) (cs ++ r)
          (record {
            split = λ x. a.closings-so ∙ (ap (λ (z : List ℕ). cs ++ z) (w.split may.0 ∙ ap (λ (z : List ℕ). z ++ r) none_yet) ∙ ap (λ (z : List ℕ). z ++ (cs ++ r)) (sym u₁));
            gone = λ x. absurd (false≢true (sym x ∙ l₁ e));
            calm = λ x z. u₁;
            kept = λ x. absurd (false≢true (sym x ∙ l₁ e));
          })
          (subst (λ (z : List (List ℕ)). Kept (Q ++ z) S) (sym (closing j c past r)) g) (λ y i. false≢true))
        where
          cs : List ℕ
          cs = closed_by (inside_of p n) (λ k. closings_of p (inner k) past) (closed j)

          a : More p n past (closed j)
          a = on-more p n past (closed j) refl refl

          may : (is_left n past ≡ true) × (some (is_turn n) (since n past) ≡ false)
          may =
              both (allowed p past (closed j)) _ f (λ x y.
              both (is_left n past) (not (some (is_turn n) (since n past))) (subst (λ (z : Place). may_act p past (seen (λ m. is_left m past) z) ≡ true) (there j c) y) (λ v v₁. (v, not-true (some (is_turn n) (since n past)) v₁)))

          none_yet : undone_of p n past ≡ []
          none_yet = w.calm may.0 may.1

          u₁ : (account_of p n (closed j ∷ past)).undone ≡ []
          u₁ = a.undone-so ∙ (append-nil (undone_of p n past) ∙ none_yet)

          l₁ : same n (inner j) ≡ false → (account_of p n (closed j ∷ past)).left ≡ true
          l₁ e = a.left_so ∙ rw (e, may.0)

      -- any event but a closing of one directly inside
      other-then : (e : Event) → fair p past e ≡ true → ((j : ℕ) → is_close p n j ≡ true → is_closed_of j e ≡ false) → Then past e Q S
      unfolding allowed may_turn is_begin is_finish is_turn closed_by undone_by is_began_of is_closed_of
      other-then started f h = decide (is_begin n started) (λ b. then-over started (whole-begin p n past started b) k (λ y i. false≢true)) (λ b. then-over started (whole-start p n past started b refl) k (λ y i. false≢true))
      other-then (began j) f h = began_then j (both (allowed p past (began j)) _ f (λ x y. x))
      other-then (closed j) f h = shut-then j (decide (is_close p n j) (λ c. absurd (false≢true (sym (h j c) ∙ eq-eqb j j refl))) (λ c. c))
      other-then (faulted m x) f h = turn-then (faulted m x) (no-begin n) refl refl turned refl refl (λ y. refl)
        where
          no-begin : (s : Name) → is_begin s (faulted m x) ≡ false
          no-begin s = refl

          turned : same n m ≡ true → is_left n past ≡ true
          turned e =
              both (allowed p past (faulted m x)) _ f (λ a b. both (not (none_now past)) _ a (λ c d. both (is_left m past) _ d (λ v v₁. ap (λ (s : Name). is_left s past) (same-equal n m e) ∙ v)))
      other-then (stopped j) f h = turn-then (stopped j) refl refl refl turned refl refl (λ y. refl)
        where
          turned : same n (inner j) ≡ true → is_left n past ≡ true
          turned e =
              both (allowed p past (stopped j)) _ f (λ a b. both (not (none_now past)) _ a (λ c d. both (is_left (inner j) past) _ d (λ v v₁. ap (λ (s : Name). is_left s past) (same-equal n (inner j) e) ∙ v)))
      other-then (ended m) f h =
          decide (same n m)
          (λ e. then-over (ended m) (whole-over p n past (ended m) refl refl e) k (λ y i. false≢true))
          (λ e. then-calm (ended m) r (whole_same p n past (ended m) r refl refl e (λ z. absurd (false≢true z)) refl refl w) k (λ y i. false≢true))
      other-then (raised j x) f h = turn-then (raised j x) refl refl refl (λ z. absurd (false≢true z)) refl refl (λ y. refl)
      other-then left f h = turn-then left refl refl refl (λ z. absurd (false≢true z)) refl refl (λ y. refl)

  -- After some events.
  pub record Has (l : List (List ℕ)) (x : List ℕ) : Type 0 where
    pub before : List (List ℕ)
    pub after : List (List ℕ)
    pub is : l ≡ before ++ (x ∷ after)

  pub record Done (past l : List Event) (Q S : List (List ℕ)) : Type 0 where
    pub more : List (List ℕ)
    pub left : List ℕ
    pub whole : Whole (account_of p n (onto l past)) left
    pub kept : Kept ((Q ++ more) ++ dues_at p n left) S
    pub begun : (y : Inner) → Its y → has_began y.undo l ≡ true → Has more (back_of p y.number)

  -- one event, which closes one directly inside only where nothing is due for it
  one_then : (past : List Event) (e : Event) (Q S : List (List ℕ)) (r : List ℕ) → fair p past e ≡ true → ((j : ℕ) → is_close p n j ≡ true → is_closed_of j e ≡ true → back_of p j ≡ []) → Whole (account_of p n past) r
      → Kept (Q ++ dues_at p n r) S → Then past e Q S
  unfolding is_closed_of
  one_then past started Q S r f h w k = other-then past Q S r w k started f (λ j c. refl)
  one_then past (began j) Q S r f h w k = other-then past Q S r w k (began j) f (λ i c. refl)
  one_then past (closed j) Q S r f h w k =
      decide (is_close p n j)
      (λ c. closing_then past Q S r w k j c f (subst (λ (z : List ℕ). Kept (Q ++ putting z (dues_at p n r)) S) (sym (h j c (eq-eqb j j refl))) k))
      (λ c. shut-then past Q S r w k j c)
  one_then past (faulted m x) Q S r f h w k = other-then past Q S r w k (faulted m x) f (λ j c. refl)
  one_then past (stopped j) Q S r f h w k = other-then past Q S r w k (stopped j) f (λ i c. refl)
  one_then past (ended m) Q S r f h w k = other-then past Q S r w k (ended m) f (λ j c. refl)
  one_then past (raised j x) Q S r f h w k = other-then past Q S r w k (raised j x) f (λ i c. refl)
  one_then past left Q S r f h w k = other-then past Q S r w k left f (λ j c. refl)

  pub joined : (past : List Event) (e : Event) (l : List Event) (Q S : List (List ℕ)) (a : Then past e Q S) → Done (e ∷ past) l (Q ++ a.more) S → Done past (e ∷ l) Q S
  unfolding some
  joined past e l Q S a b =
      record {
        more = a.more ++ b.more;
        left = b.left;
        whole = b.whole;
        kept = subst (λ (z : List (List ℕ)). Kept (z ++ dues_at p n b.left) S) (append_assoc Q a.more b.more) b.kept;
        begun = λ y i h. decide (is_began_of (eqb y.undo) e)
            (λ t. record { before = []; after = b.more; is = ap (λ (z : List (List ℕ)). z ++ b.more) (a.begun y i t) })
            (λ t. let x = b.begun y i (rw t at h) in
            record { before = a.more ++ x.before; after = x.after; is = ap (λ (z : List (List ℕ)). a.more ++ z) x.is ∙ sym (append_assoc a.more x.before (back_of p y.number ∷ x.after)) });
      }

  pub all_then : (past l : List Event) (Q S : List (List ℕ)) (r : List ℕ) → fair_after p past l ≡ true → ((j : ℕ) → is_close p n j ≡ true → some (is_closed_of j) l ≡ true → back_of p j ≡ []) → Whole (account_of p n past) r
      → Kept (Q ++ dues_at p n r) S → Done past l Q S
  unfolding fair_after some
  all_then past [] Q S r f h w k =
      record { more = []; left = r; whole = w; kept = subst (λ (l : List (List ℕ)). Kept (l ++ dues_at p n r) S) (sym (append-nil Q)) k; begun = λ y i b. absurd (false≢true b) }
  all_then past (e ∷ l) Q S r f h w k =
      both (fair p past e) (fair_after p (e ∷ past) l) f (λ x y.
      let a = one_then past e Q S r x (λ j c t. h j c (rw t)) w k in
      joined past e l Q S a (all_then (e ∷ past) l (Q ++ a.more) S a.left y (λ j c t. h j c (rw (t, or-true))) a.whole a.kept))

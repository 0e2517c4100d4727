-- The machine's promises, proved. Assumes nothing.
use Prim.Native.Nat.{ℕ, zero, suc, ◌+◌, ◌-◌, ◌<◌, ◌≤◌}
use native.Mathlib.Numerals.{add-one}
use native.Mathlib.Omega.{arith}
use mathlib.Core.Path.{◌≡◌, refl, sym, ap, subst, ◌∙◌}
use mathlib.Core.Bool.{Bool, true, false, cond, not, ◌&&◌, ◌||◌}
use mathlib.Core.List.{List, [], ◌∷◌, ◌++◌, append_assoc}
use borrow.Author.Tests.{eqb-true, eqb-false}
use lib.Dec.{eqb, leb, ltb}
use lib.ListN.{length, get_or, take, drop, set}
use lib.Seq.{take-append-le}
use Rattle.plan.specs.Found.{Found, refused, found, among}
use Rattle.plan.specs.Tree.{From, partner_from, Plan}
use Rattle.plan.proofs.Accepts.{both}
use Rattle.order.specs.declared.Order.{Order}
use Rattle.order.specs.Acting.{started_order, begun_order, may_send}
use Rattle.order.specs.Event.{Event, started}
use Rattle.order.specs.Lists.{every, empties, stored}
use Rattle.order.specs.State.{is_live, is_bound, value_of, no_order}
use Rattle.machine.specs.declared.Message.{Message}
use Rattle.machine.specs.declared.Posted.{Posted}
use Rattle.machine.specs.declared.Collected.{Collected}
use Rattle.machine.specs.declared.State.{State}
use Rattle.machine.specs.declared.Step.{Step}
use Rattle.machine.specs.declared.Tally.{Tally}
use Rattle.machine.specs.Calls.{post_by, post, handing, collect_by, collect, drop_at, foreign, partners_of, trimmed, Chosen, refused_choice, chosen, nth, choosing, refusing, answering, doing_at, sent_by, messages_after, count_start, Stepped, stepped, taken, step_chosen, step_by, step, Ran, one_more, ran_on, run_by, run}
use Rattle.machine.specs.Fit.{Doing, no_step, sends, takes, moves, cuts, closes, live_from, is_checked, agrees, fits, unchecked, fittings}
use Rattle.machine.specs.Limits.{exchanged, plan_in, by}
use Rattle.machine.specs.Offer.{Offer, Offers, offering, offers_of}
use Rattle.machine.specs.Planned.{Planned}
use Rattle.machine.specs.State.{no_message, letters, adding, removing, with_order}
use Rattle.laws.specs.Good.{Allowed, Heeds, actor}
use Rattle.laws.specs.Promises.{OfferedIsTaken, TakenIsOffered, TakenInFull, TakenByFewest, StartsWhereNoneFits, RefusedPost, RefusedCollect, RefusedDrop, RefusedStep, walked, RunAsLastStep, Reached, loading, posting, collecting, dropping, stepping, running, Never17, letters_after, LettersMove}
use Rattle.machine.proofs.Called.{plan-found}
use Rattle.laws.proofs.Doing.{send-room}
use Rattle.laws.proofs.Keeping.{passes, step_keeps, post-keeps, collect-keeps, drop_keeps, load-plans}
use Rattle.laws.proofs.Offering.{pick_true, pick-false, chosen-fine}

-- the entry with a count, or none
nth-there : (n : ℕ) (l : List Offer) (c : ℕ) → c < length l → nth n l c ≡ chosen (get_or l c (offering 0 0 0))
unfolding nth
nth-there n [] c h = absurd (omega arith)
nth-there n (x ∷ l) zero h = refl
nth-there n (x ∷ l) (suc c) h = nth-there n l c (omega arith)

nth_inside : (n : ℕ) (l : List Offer) (c : ℕ) (x : Offer) → nth n l c ≡ chosen x → c < length l
unfolding nth
nth_inside n [] c x e = absurd (let z : ◌≡◌ {A = ℕ} 0 1 = cc in omega arith)
nth_inside n (y ∷ l) zero x e = omega arith
nth_inside n (y ∷ l) (suc c) x e = let h = nth_inside n l c x e in omega arith

nth_beyond : (n : ℕ) (l : List Offer) (c m : ℕ) → nth n l c ≡ refused_choice m → m ≡ n
unfolding nth
nth_beyond n [] c m e = cc
nth_beyond n (y ∷ l) zero m e = absurd (let z : ◌≡◌ {A = ℕ} 0 1 = cc in omega arith)
nth_beyond n (y ∷ l) (suc c) m e = nth_beyond n l c m e

chosen-inside : (a : Offers) (c : ℕ) (x : Offer) → choosing a c ≡ chosen x → c < length a.offered
unfolding choosing
chosen-inside a c x q = nth_inside _ a.offered c x q

pub refusal-some : (a : Offers) (c m : ℕ) → choosing a c ≡ refused_choice m → m ≡ 0 → ⊥
unfolding choosing
refusal-some a c m e z = go (empties a.offered) a.held (nth_beyond _ a.offered c m e)
  where
    go : (x y : Bool) → m ≡ cond x (cond y 11 10) 12 → ⊥
    go true true q = omega arith
    go true false q = omega arith
    go false y q = omega arith

-- a step that is taken answers its entry
pub step-at : {p : Plan} {next : ℕ} (s : State) → plan_in s ≡ found p next → (c : ℕ) (t : Tally) → step c s t ≡ step_chosen p s t (choosing (offers_of p s) c)
unfolding step step_by
step-at s e c t = rw e

-- a step in its slot: the order that has it, with some tally and log before it
pub record TakenAs (p : Plan) (x : Offer) (s : State) (r : Stepped) : Type 0 where
  pub tally : Tally
  pub log : List Event
  pub is : r ≡ stepped p x s tally (actor p s.orders x.slot) log

pub taken_as : (p : Plan) (x : Offer) (s : State) (t : Tally) → TakenAs p x s (taken p x s t)
unfolding taken
taken_as p x s t = go (is_live o) refl
  where
    o : Order
    o = get_or s.orders x.slot no_order

    go : (b : Bool) → is_live o ≡ b → TakenAs p x s (taken p x s t)
    go true e = record {
      tally = t;
      log = [];
      is = pick_true (is_live o) _ _ e ∙ ap (λ (q : Order). stepped p x s t q []) (sym (pick_true (is_live o) o (started_order p) e));
    }
    go false e = record {
      tally = count_start t;
      log = started ∷ (begun_order p).log;
      is = pick-false (is_live o) _ _ e ∙ ap (λ (q : Order). stepped p x s (count_start t) q (started ∷ (begun_order p).log)) (sym (pick-false (is_live o) o (started_order p) e));
    }

stepped-answer : (p : Plan) (x : Offer) (s : State) (t : Tally) (o : Order) (l : List Event) → (stepped p x s t o l).answer ≡ answering x (stepped p x s t o l).answer.end (stepped p x s t o l).answer.fault
unfolding stepped
stepped-answer p x s t o l = refl

pub taken-answer : (p : Plan) (x : Offer) (s : State) (t : Tally) → (taken p x s t).answer ≡ answering x (taken p x s t).answer.end (taken p x s t).answer.fault
taken-answer p x s t = let w = taken_as p x s t in rw w.is (stepped-answer p x s w.tally (actor p s.orders x.slot) w.log)

pub offered-is-taken : OfferedIsTaken
unfolding OfferedIsTaken choosing step_chosen
offered-is-taken p next s t c e h =
    rw (step-at s e c t, nth-there (cond (empties (offers_of p s).offered) (cond (offers_of p s).held 11 10) 12) (offers_of p s).offered c h)
    (taken-answer p (get_or (offers_of p s).offered c (offering 0 0 0)) s t)

pub taken-is-offered : TakenIsOffered
unfolding TakenIsOffered step_chosen
taken-is-offered p next s t c e z = go (choosing (offers_of p s) c) refl
  where
    go : (w : Chosen) → choosing (offers_of p s) c ≡ w → c < length (offers_of p s).offered
    go (refused_choice m) q =
        absurd (refusal-some (offers_of p s) c m q (ap (λ (v : Stepped). v.answer.refusal) (sym (step-at s e c t ∙ ap (step_chosen p s t) q)) ∙ z))
    go (chosen x) q = chosen-inside (offers_of p s) c x q

-- the places of a receive that a message fits agree, one by one
agrees_at : (p : Plan) (o : Order) (vs xs : List ℕ) → agrees p o vs xs ≡ true → (i : ℕ) → i < length vs → is_checked p o (get_or vs i 0) ≡ true → get_or xs i 0 ≡ value_of o (get_or vs i 0)
unfolding agrees
agrees_at p o [] xs e i h q = absurd (omega arith)
agrees_at p o (v ∷ vs) xs e zero h q = both (not (is_checked p o v) || eqb (value_of o v) (get_or xs 0 0)) _ e (λ a b. first (is_checked p o v) q a)
  where
    first : (z : Bool) → z ≡ true → (not z || eqb (value_of o v) (get_or xs 0 0)) ≡ true → get_or xs 0 0 ≡ value_of o v
    first true q a = sym (eqb-true _ _ a)
    first false q a = absurd (let w : ◌≡◌ {A = ℕ} 0 1 = cc in omega arith)
agrees_at p o (v ∷ vs) [] e (suc i) h q = both (not (is_checked p o v) || eqb (value_of o v) 0) _ e (λ a b. agrees_at p o vs [] b i (omega arith) q)
agrees_at p o (v ∷ vs) (x ∷ xs) e (suc i) h q = both (not (is_checked p o v) || eqb (value_of o v) x) _ e (λ a b. agrees_at p o vs xs b i (omega arith) q)

fits-agrees : (p : Plan) (o : Order) (a b : ℕ) (vs : List ℕ) (m : Message) → fits p o a b vs m ≡ true → agrees p o vs m.values ≡ true
unfolding fits
fits-agrees p o a b vs m e =
    both (eqb m.partner a) _ e (λ f g. both (eqb m.operation b) _ g (λ h k. both (eqb m.count (length vs)) _ k (λ u v. v)))

-- what is known of the message of a step that takes one
module _ (p : Plan) (s : State) (c : ℕ) (x : Offer) (e : choosing (offers_of p s) c ≡ chosen x) (a : From) (b : ℕ) (vs : List ℕ) (d : doing_at p x.activity ≡ takes a b vs) where
  abbrev here : Order
  here = get_or s.orders x.slot no_order

  abbrev message : Message
  message = get_or s.messages x.place no_message

  taking : Heeds (takes a b vs) p (live_from p 0 s.orders) (not (is_live here)) (actor p s.orders x.slot) message
  taking = rw d at (chosen-fine p s c x e).heeds

  live-taking : is_live here ≡ true → Heeds (takes a b vs) p (live_from p 0 s.orders) false here message
  live-taking h =
      let z : actor p s.orders x.slot ≡ here = pick_true (is_live here) here (started_order p) h in
      subst (λ (w : Bool). Heeds (takes a b vs) p (live_from p 0 s.orders) w here message) (ap not h)
      (subst (λ (q : Order). Heeds (takes a b vs) p (live_from p 0 s.orders) (not (is_live here)) q message) z taking)

  start-taking : is_live here ≡ false → Heeds (takes a b vs) p (live_from p 0 s.orders) true (actor p s.orders x.slot) message
  start-taking h = subst (λ (w : Bool). Heeds (takes a b vs) p (live_from p 0 s.orders) w (actor p s.orders x.slot) message) (ap not h) taking

pub taken-in-full : TakenInFull
unfolding TakenInFull Heeds
taken-in-full p s c x e l a b vs d i h k q =
    agrees_at p (here p s c x e a b vs d) vs _ (fits-agrees p _ (partner_from a) b vs _ (live-taking p s c x e a b vs d l).0) i h (rw (k, q))

every-at : (f : ℕ → Bool) (l : List ℕ) (i : ℕ) → every f l ≡ true → i < length l → f (get_or l i 0) ≡ true
unfolding every
every-at f [] i e h = absurd (omega arith)
every-at f (y ∷ l) zero e h = both (f y) _ e (λ u v. u)
every-at f (y ∷ l) (suc i) e h = both (f y) _ e (λ u v. every-at f l i v (omega arith))

pub taken-by-fewest : TakenByFewest
unfolding TakenByFewest Heeds
taken-by-fewest p s c x e l a b vs d i h = every-at (leb (unchecked p (here p s c x e a b vs d) vs)) _ i (live-taking p s c x e a b vs d l).1 h

empty-is : (l : List ℕ) → empties l ≡ true → l ≡ []
empty-is [] e = refl
empty-is (y ∷ l) e = absurd (let w : ◌≡◌ {A = ℕ} 0 1 = cc in omega arith)

pub starts-where-none-fits : StartsWhereNoneFits
unfolding StartsWhereNoneFits Heeds
starts-where-none-fits p s c x e l a b vs d = empty-is _ (start-taking p s c x e a b vs d l).1

-- what is refused changes nothing
pub refused_post : RefusedPost
unfolding RefusedPost post post_by
refused_post m s = go (plan_in s)
  where
    ruled : (a b : Bool) → let r : Posted = cond (not a) (record { refusal = 13; state = s }) (cond b (record { refusal = 14; state = s }) (record { refusal = 0; state = adding (trimmed m) s })) in
        (r.refusal ≡ 0 → ⊥) → r.state ≡ s
    ruled false b f = refl
    ruled true true f = refl
    ruled true false f = absurd (f refl)

    go : (g : Found Plan) → ((by {A = Posted} (record { refusal = 17; state = s }) (λ p. post_by p m s) g).refusal ≡ 0 → ⊥)
        → (by {A = Posted} (record { refusal = 17; state = s }) (λ p. post_by p m s) g).state ≡ s
    go (refused n k) f = refl
    go (found p n) f = ruled (exchanged m.partner m.operation m.count m.reply) (leb 64 s.waiting) f

refused-handing : (i : ℕ) (s : State) → ((handing i s).refusal ≡ 0 → ⊥) → (handing i s).state ≡ s
unfolding handing
refused-handing i s = test (ltb i s.waiting)
  where
    test : (b : Bool) → let r : Collected = cond b (record { refusal = 0; message = get_or s.messages i no_message; state = removing i s }) (record { refusal = 15; message = no_message; state = s }) in
        (r.refusal ≡ 0 → ⊥) → r.state ≡ s
    test true f = absurd (f refl)
    test false f = refl

-- a message handed out by its place, where the place hangs on the plan or not
refused-handed : (place : Plan → ℕ) (s : State) (g : Found Plan)
    → ((by {A = Collected} (record { refusal = 17; message = no_message; state = s }) (λ p. handing (place p) s) g).refusal ≡ 0 → ⊥)
    → (by {A = Collected} (record { refusal = 17; message = no_message; state = s }) (λ p. handing (place p) s) g).state ≡ s
refused-handed place s (refused n k) f = refl
refused-handed place s (found p n) f = refused-handing (place p) s f

pub refused-collect : RefusedCollect
unfolding RefusedCollect collect collect_by
refused-collect s = refused-handed (λ p. foreign (partners_of p) 0 (letters s)) s (plan_in s)

pub refused-drop : RefusedDrop
unfolding RefusedDrop drop_at
refused-drop i s = refused-handed (λ p. i) s (plan_in s)

pub refused-step : RefusedStep
unfolding RefusedStep step step_by step_chosen
refused-step c s t = go (plan_in s)
  where
    chose : (p : Plan) (w : Chosen) → ((step_chosen p s t w).answer.refusal ≡ 0 → ⊥) → ((step_chosen p s t w).state ≡ s) × ((step_chosen p s t w).tally ≡ t)
    chose p (refused_choice n) f = (refl, refl)
    chose p (chosen x) f = absurd (f (ap (λ (v : Step). v.refusal) (taken-answer p x s t)))

    go : (g : Found Plan) → let r : Stepped = by (record { answer = refusing 17; state = s; tally = t; log = [] }) (λ p. step_chosen p s t (choosing (offers_of p s) c)) g in
        (r.answer.refusal ≡ 0 → ⊥) → (r.state ≡ s) × (r.tally ≡ t)
    go (refused n k) f = (refl, refl)
    go (found p n) f = chose p (choosing (offers_of p s) c) f

-- a run is its taken steps
record Walks (cs : List ℕ) (s : State) (t : Tally) (r : Ran) : Type 0 where
  state : r.state ≡ (walked (take r.taken cs) s t).0
  tally : r.tally ≡ (walked (take r.taken cs) s t).1

run-walks : (cs : List ℕ) (b : ℕ) (s : State) (t : Tally) → Walks cs s t (run_by step cs b s t)
unfolding run_by walked RefusedStep
run-walks [] b s t = record { state = refl; tally = refl }
run-walks (c ∷ cs) zero s t = record { state = refl; tally = refl }
run-walks (c ∷ cs) (suc b) s t = on (eqb (step c s t).answer.refusal 0) refl (run-walks cs b (step c s t).state (step c s t).tally)
  where
    on : (x : Bool) → eqb (step c s t).answer.refusal 0 ≡ x → Walks cs (step c s t).state (step c s t).tally (run_by step cs b (step c s t).state (step c s t).tally)
        → Walks (c ∷ cs) s t (elim x [
          | true ↦ one_more (run_by step cs b (step c s t).state (step c s t).tally)
          | false ↦ record { taken = 0; refusal = (step c s t).answer.refusal; state = (step c s t).state; tally = (step c s t).tally }
        ])
    on true e w = record { state = w.state ∙ rw add-one; tally = w.tally ∙ rw add-one }
    on false e w = let g = refused-step c s t (λ z. eqb-false _ _ e z) in record { state = g.0; tally = g.1 }

pub run-as-last-step : RunAsLastStep
unfolding RunAsLastStep run walked
run-as-last-step cs b s t = go (plan_in s)
  where
    go : (g : Found Plan) → let r : Ran = by (record { taken = 0; refusal = 17; state = s; tally = t }) (λ p. run_by step cs b s t) g in
        (r.state ≡ (walked (take r.taken cs) s t).0) × (r.tally ≡ (walked (take r.taken cs) s t).1)
    go (refused n k) = (refl, refl)
    go (found p n) = let w = run-walks cs b s t in (w.state, w.tally)

-- steps one after the other keep the plan
walked_keeps : {p : Plan} {next : ℕ} (cs : List ℕ) (s : State) (t : Tally) → Planned p next s → Planned p next (walked cs s t).0
unfolding walked
walked_keeps [] s t f = f
walked_keeps (c ∷ cs) s t f = walked_keeps cs (step c s t).state (step c s t).tally (step_keeps f c t)

pub reached-plan : {p : Plan} {next : ℕ} {s : State} → Reached p next s → Planned p next s
unfolding RunAsLastStep
reached-plan (loading l e) = load-plans l e
reached-plan (posting m l r) = post-keeps (reached-plan r) m l
reached-plan (collecting r) = collect-keeps (reached-plan r)
reached-plan (dropping i r) = drop_keeps (reached-plan r) i
reached-plan (stepping c t r) = step_keeps (reached-plan r) c t
reached-plan (running {s} cs b t r) = rw (run-as-last-step cs b s t).0 (walked_keeps (take (run cs b s t).taken cs) s t (reached-plan r))

pub never-17 : Never17
unfolding Never17
never-17 p next s r = (reached-plan r).is

-- the messages that wait, after one more and after one less
take_more : (l : List Message) (w : ℕ) (m : Message) → w < length l → take (suc w) (set l w m) ≡ take w l ++ (m ∷ [])
take_more [] w m h = absurd (omega arith)
take_more (x ∷ l) zero m h = refl
take_more (x ∷ l) (suc w) m h = ap (λ (z : List Message). x ∷ z) (take_more l w m (omega arith))

take_less : (l e : List Message) (j w : ℕ) → j ≤ w → w < length l → take w (take j l ++ (drop (suc j) l ++ e)) ≡ take j (take (suc w) l) ++ drop (suc j) (take (suc w) l)
take_less [] e j w h g = absurd (omega arith)
take_less (x ∷ l) e zero w h g = take-append-le w l e (omega arith)
take_less (x ∷ l) e (suc j) zero h g = absurd (omega arith)
take_less (x ∷ l) e (suc j) (suc w) h g = ap (λ (z : List Message). x ∷ z) (take_less l e j w (omega arith) (omega arith))

letters-moved : (d : Doing) (j : ℕ) (o : Order) (s : State) → length s.messages ≡ 64 → s.waiting ≤ 64 → Allowed d s.waiting o j
    → letters (messages_after d j o s) ≡ letters_after d j o (letters s)
unfolding messages_after letters_after Allowed
letters-moved no_step j o s l w a = refl
letters-moved (sends to q vs) j o s l w a = go (may_send o to vs) refl
  where
    m : Message
    m = sent_by o to q vs

    go : (b : Bool) → may_send o to vs ≡ b → letters (cond b (adding m s) s) ≡ cond b (letters s ++ (m ∷ [])) (letters s)
    go true e = rw (add-one s.waiting) (take_more s.messages s.waiting m (omega (arith, l, send-room s.waiting o to vs a e)))
    go false e = refl
letters-moved (takes p q vs) j o s l w a =
    let k = s.waiting - 1 in
    let e : s.waiting ≡ suc k = omega arith in
    rw (add-one j) (subst (λ (n : ℕ). take (s.waiting - 1) (take j s.messages ++ (drop (suc j) s.messages ++ (no_message ∷ [])))
    ≡ take j (take n s.messages) ++ drop (suc j) (take n s.messages)) (sym e) (take_less s.messages (no_message ∷ []) j k (omega arith) (omega (arith, l))))
letters-moved moves j o s l w a = refl
letters-moved cuts j o s l w a = refl
letters-moved (closes u x) j o s l w a = refl

stepped-letters : (p : Plan) (x : Offer) (s : State) (t : Tally) (o : Order) (l : List Event) → letters (stepped p x s t o l).state ≡ letters (messages_after (doing_at p x.activity) x.place o s)
unfolding stepped
stepped-letters p x s t o l = refl

pub letters-move : LettersMove
unfolding LettersMove step_chosen
letters-move p next s t c x f e =
    let w = taken_as p x s t in
    let g = chosen-fine p s c x e in
    rw (step-at s f.is c t, e, w.is)
    (stepped-letters p x s w.tally (actor p s.orders x.slot) w.log
    ∙ letters-moved (doing_at p x.activity) x.place (actor p s.orders x.slot) s f.long (passes s f.long (plan-found s f.is).0).waiting g.good.allowed)

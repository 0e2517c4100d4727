-- The returns of the functions that take a step on offer. Assumes nothing.
use mathlib.Core.Path.{◌≡◌, refl, sym, ap, ◌∙◌, subst}
use mathlib.Core.Bool.{Bool, true, false, cond, not, ◌&&◌}
use mathlib.Core.List.{List, [], ◌∷◌, ◌++◌}
use Prim.Native.Nat.{ℕ, zero, suc, ◌+◌, ◌*◌, ◌<◌, ◌≤◌}
use native.Mathlib.Omega.{arith}
use borrow.Author.Tests.{lt-ltb, le-ltb, le-leb, eq-eqb, ne_eqb}
use lib.Dec.{eqb, ltb, leb}
use lib.ListN.{length, get_or, set, take, replicate, get_or-eq_default}
use lib.Seq.{set_out, take_all}
use Rattle.plan.specs.Spells.{Row}
use Rattle.plan.specs.Table.{row_of}
use Rattle.plan.specs.Tree.{Exp, To, to_partner, to_held, reply_of, from_partner, from_asking, Own, empty, send, receive, set as setting, raise, leave, choose, repeat, sequence, flow, pick, scope, arm, kind, Act, act, Acts, none, more, Plan, size}
use Rattle.order.specs.declared.Order.{Order}
use Rattle.order.specs.declared.Next.{Next}
use Rattle.order.specs.declared.End.{End}
use Rattle.order.specs.declared.End.TheVariants.{None, Well, Handled, Failed, Left}
use Rattle.order.specs.Acting.{started_order, begun_order, partner_to, may_send}
use Rattle.order.specs.Judging.{step_order}
use Rattle.order.specs.Answering.{Names, to_at, Values, PartnerTo, MaySend, Spelled, StepsOrder, StartsOrder, TakesOrder, next_of}
use Rattle.order.specs.Event.{Event, started}
use Rattle.order.specs.Lists.{stored}
use Rattle.order.specs.Room.{room_plan}
use Rattle.order.specs.Stands.{Stands}
use Rattle.order.specs.State.{is_live, no_order, closings, value_of}
use Rattle.order.specs.Taking.{act_in, act_among, act_at, taking}
use Rattle.order.proofs.Owns.{of-kind}
use Rattle.order.proofs.PlanStands.{plan-stands, plan-at}
use Rattle.order.proofs.Standing.{size-pos, stands-inside}
use Rattle.activity.proofs.StepReturns.{send-names, send-to, names-tuple}
use Rattle.machine.specs.declared.Mail.{Mail}
use Rattle.machine.specs.declared.Message.{Message}
use Rattle.machine.specs.declared.State.{State}
use Rattle.machine.specs.declared.Step.{Step}
use Rattle.step.specs.declared.Change.{Change}
use Rattle.step.specs.declared.Stepped.{Stepped}
use Rattle.machine.specs.declared.Tally.{Tally}
use Rattle.machine.specs.Calls as calls
use Rattle.machine.specs.Calls.{doing_in, doing_among, doing_at, values_of, gives, messages_after, order_taking, counted, count_start, count_end, choosing, chosen, answering}
use Rattle.machine.specs.Fit.{Doing, no_step, sends, takes, moves, cuts, closes, doing_of}
use Rattle.machine.specs.Limits.{in_limits}
use Rattle.machine.specs.Offer.{Offer, offering, send_held, close_held, offers_of}
use Rattle.machine.specs.Planned.{added_to, taken_from, Adds, Removes}
use Rattle.machine.specs.State.{no_message, with_order}
use Rattle.laws.specs.Good.{Allowed, Good, actor}
use Rattle.step.specs.Stepping.{bare, Worths, SentValues, SentReply, SendRow, Sends, SendsMail, MovesMessages, MovesMail, StepsSlot, Nexts, moved_in, changed, MovesFrom, Moves, TakesOffer}
use Rattle.machine.proofs.Copied.{stored_more}
use Rattle.machine.proofs.Moved.{kept-mail, letter-there, limits-letters}
use Rattle.laws.proofs.Offering.{pick_true, pick-false, chosen-fine}
use Rattle.laws.proofs.Roomy.{takes_same, take-closings}
use Rattle.laws.proofs.Doing.{act_doing, plan-doing, good-room, send-room}

-- `sent_values`
values_length : (o : Order) (vs : List ℕ) → length (values_of o vs) ≡ length vs
unfolding values_of
values_length o [] = refl
values_length o (v ∷ vs) = ap suc (values_length o vs)

values-at : (o : Order) (vs : List ℕ) (i : ℕ) → i < length vs → get_or (values_of o vs) i 0 ≡ value_of o (get_or vs i 0)
unfolding values_of
values-at o [] i h = absurd (omega arith)
values-at o (v ∷ vs) zero h = refl
values-at o (v ∷ vs) (suc i) h = values-at o vs i (omega arith)

pub record Sending (t : List ℕ) (k : ℕ) (o : Order) (out : List ℕ) (i : ℕ) : Type 0 where
  pub is : (vs : List ℕ) → Names t k vs → out ≡ stored 4 (take i (values_of o vs))

module _ (t : List ℕ) (k : ℕ) (o : Order) where
  pub sending-starts : Sending t k o (replicate 4 0) 0
  sending-starts = record { is = λ vs n. refl }

  pub sending-many : 4 < get_or t (k * 13 + 3) 0 → SentValues t k o (replicate 4 0)
  sending-many h = record { is = λ vs n. absurd (omega (arith, n.count, n.few)) }

module _ {t : List ℕ} {k : ℕ} {o : Order} {out : List ℕ} {i : ℕ} (a : Sending t k o out i) where
  pub sending-more : {x : ℕ} → i < get_or t (k * 13 + 3) 0 → Worths o (get_or t (k * 13 + 4 + i) 0) x → Sending t k o (set out i x) (i + 1)
  sending-more {x} h w = record {
    is = λ vs n.
        let g : i < length vs = omega (arith, n.count) in
        let f : i < 4 = omega (arith, n.few) in
        let v : get_or t (k * 13 + 4 + i) 0 ≡ get_or vs i 0 = n.variables i f in
        let y : x ≡ value_of o (get_or vs i 0) = rw v at (w.is (rw v (n.small i g))) in
        let z : x ≡ get_or (values_of o vs) i 0 = y ∙ sym (values-at o vs i g) in
        rw (a.is vs n, z) (stored_more 4 (values_of o vs) i (omega (arith, values_length o vs)) f);
  }

  pub sending-done : get_or t (k * 13 + 3) 0 ≤ i → SentValues t k o out
  sending-done h = record {
    is = λ vs n. a.is vs n ∙ ap (stored 4) (take_all i (values_of o vs) (omega (arith, values_length o vs, n.count)));
  }

-- `sent_reply`
module _ (t : List ℕ) (k : ℕ) where
  pub reply-held : get_or t (k * 13) 0 ≡ 17 → SentReply t k (get_or t (k * 13 + 1) 0)
  reply-held e = record { is = rw (eq-eqb (get_or t (k * 13) 0) 17 e) }

  pub reply-none : (get_or t (k * 13) 0 ≡ 17 → ⊥) → SentReply t k 0
  reply-none e = record { is = rw (ne_eqb (get_or t (k * 13) 0) 17 e) }

-- `sent`
module _ {t : List ℕ} {k : ℕ} (o : Order) {b : Bool} (a : MaySend t k o.bound o.values b) (g : length o.bound ≡ 16) (d : length o.values ≡ 16) (s : State) where
  holds : Values o o.values
  holds = record { same = refl; sixteen = d }

  may-says : (to : To) (q : ℕ) (vs : List ℕ) → SendRow to q vs k t → may_send o to vs ≡ b
  may-says to q vs r = ap (λ (z : To). may_send o z vs) (sym r.to) ∙ sym (a.is o vs (record { same = refl; sixteen = g }) holds (names-tuple r.names))

  send-adds : b ≡ true → {xs : List ℕ} {x y : ℕ} {u : State} → SentValues t k o xs → PartnerTo t k o.values x → SentReply t k y
      → u ≡ added_to (record { partner = x; operation = get_or t (k * 13 + 2) 0; count = get_or t (k * 13 + 3) 0; values = xs; reply = y }) s → Sends t k o s u
  unfolding messages_after added_to
  send-adds e v w z q = record {
    is = λ to op vs j r h.
        let f : may_send o to vs ≡ true = may-says to op vs r ∙ e in
        q ∙ rw (
          lt-ltb _ _ (send-room s.waiting o to vs h f),
          f,
          v.is vs r.names,
          w.is o holds ∙ ap (partner_to o) r.to,
          z.is ∙ ap reply_of r.to,
          r.operation,
          r.names.count,
        );
  }

  send-raises : b ≡ false → Sends t k o s s
  unfolding messages_after
  send-raises e = record {
    is = λ to op vs j r h.
        let f : may_send o to vs ≡ false = may-says to op vs r ∙ e in
        rw f;
  }

module _ {t : List ℕ} {k : ℕ} {o : Order} {b : Bool} (a : MaySend t k o.bound o.values b) (g : length o.bound ≡ 16) (d : length o.values ≡ 16) (l : List Message) (w : ℕ) where
  pub mail-adds : b ≡ true → {xs : List ℕ} {x y : ℕ} {r : Mail} → SentValues t k o xs → PartnerTo t k o.values x → SentReply t k y
      → Adds (record { partner = x; operation = get_or t (k * 13 + 2) 0; count = get_or t (k * 13 + 3) 0; values = xs; reply = y }) l w r → SendsMail t k o l w r
  mail-adds e v u z q = record { is = λ s f h. send-adds o a g d s e v u z (q.is s f h) }

  pub mail-raises : b ≡ false → SendsMail t k o l w (record { messages = l; waiting = w })
  mail-raises e = record { is = λ s f h. subst (Sends t k o s) (sym (kept-mail s f h)) (send-raises o a g d s e) }

-- `messages_after`
module _ (t : List ℕ) (n : ℕ) (s : State) (o : Order) (x j : ℕ) where
  row-there : {p : Plan} → Spelled p n t → x < size p.body + size p.fault → Stands (act_at p x) x t
  row-there {p} sp h = plan-at p n t (plan-stands sp) x (omega (arith, sp.many))

  by_row : {r : State}
      → ((own : Own) (l : Acts) → kind own ≡ get_or t (x * 13) 0 → Stands (act own l) x t → s.waiting ≤ 64 → Allowed (doing_of own l x) s.waiting o j
      → r ≡ messages_after (doing_of own l x) j o s)
      → MovesMessages t n s o x j r
  unfolding act_doing Stands
  by_row {r} f = record {
    is = λ p sp w g.
        let e = plan-doing p x g.inside in
        rw e (go w (act_at p x) (row-there sp g.inside) (subst (λ (d : Doing). Allowed d s.waiting o j) e g.allowed));
  }
    where
      go : s.waiting ≤ 64 → (a : Act) → Stands a x t → Allowed (act_doing a x) s.waiting o j → r ≡ messages_after (act_doing a x) j o s
      go w (act own l) st al = f own l (sym st.first.row.kind) st w al

  after-far : 256 ≤ x → MovesMessages t n s o x j s
  after-far h = record {
    is = λ p sp w g. let a = row-there sp g.inside in absurd (omega (arith, stands-inside (act_at p x) x t a, size-pos (act_at p x)));
  }

  send-row : (to : To) (b : ℕ) (vs : List ℕ) (l : Acts) → Stands (act (send to b vs) l) x t → SendRow to b vs x t
  unfolding Stands row_of
  send-row (to_partner p) b vs l st = record { to = send-to t x b vs l (to_partner p) st; operation = st.first.row.operation; names = send-names t x b vs l (to_partner p) st }
  send-row (to_held v r) b vs l st = record { to = send-to t x b vs l (to_held v r) st; operation = st.first.row.operation; names = send-names t x b vs l (to_held v r) st }

  after-send : {r : State} → get_or t (x * 13) 0 ≡ 1 → Sends t x o s r → MovesMessages t n s o x j r
  unfolding doing_of Allowed
  after-send {r} h y = by_row (λ own l e st w al.
      of-kind 1 (λ (v : Own). Stands (act v l) x t → Allowed (doing_of v l x) s.waiting o j → r ≡ messages_after (doing_of v l x) j o s)
      (λ a b vs st al. y.is (to_partner a) b vs j (send-row (to_partner a) b vs l st) al)
      own (e ∙ h) st al)

  after-held : {r : State} → get_or t (x * 13) 0 ≡ 17 → Sends t x o s r → MovesMessages t n s o x j r
  unfolding doing_of Allowed
  after-held {r} h y = by_row (λ own l e st w al.
      of-kind 17 (λ (v : Own). Stands (act v l) x t → Allowed (doing_of v l x) s.waiting o j → r ≡ messages_after (doing_of v l x) j o s)
      (λ u a b vs st al. y.is (to_held u a) b vs j (send-row (to_held u a) b vs l st) al)
      own (e ∙ h) st al)

  after-receive : {r : State} → get_or t (x * 13) 0 ≡ 2 → r ≡ taken_from j s → MovesMessages t n s o x j r
  unfolding doing_of Allowed messages_after taken_from
  after-receive {r} h y = by_row (λ own l e st w al.
      of-kind 2 (λ (v : Own). Allowed (doing_of v l x) s.waiting o j → r ≡ messages_after (doing_of v l x) j o s)
      (λ a b vs al. y ∙ rw (le-leb _ _ w, lt-ltb _ _ al)) own (e ∙ h) al)

  after-asking : {r : State} → get_or t (x * 13) 0 ≡ 18 → r ≡ taken_from j s → MovesMessages t n s o x j r
  unfolding doing_of Allowed messages_after taken_from
  after-asking {r} h y = by_row (λ own l e st w al.
      of-kind 18 (λ (v : Own). Allowed (doing_of v l x) s.waiting o j → r ≡ messages_after (doing_of v l x) j o s)
      (λ a u b vs al. y ∙ rw (le-leb _ _ w, lt-ltb _ _ al)) own (e ∙ h) al)

  after-arm : {r : State} → get_or t (x * 13) 0 ≡ 255 → r ≡ taken_from j s → MovesMessages t n s o x j r
  unfolding doing_of Allowed messages_after taken_from
  after-arm {r} h y = by_row (λ own l e st w al.
      of-kind 255 (λ (v : Own). Allowed (doing_of v l x) s.waiting o j → r ≡ messages_after (doing_of v l x) j o s)
      (λ a b vs al. y ∙ rw (le-leb _ _ w, lt-ltb _ _ al)) own (e ∙ h) al)

  after_none : (get_or t (x * 13) 0 ≡ 1 → ⊥) → (get_or t (x * 13) 0 ≡ 17 → ⊥) → (get_or t (x * 13) 0 ≡ 2 → ⊥) → (get_or t (x * 13) 0 ≡ 18 → ⊥) → (get_or t (x * 13) 0 ≡ 255 → ⊥) → MovesMessages t n s o x j s
  unfolding doing_of messages_after kind
  after_none f f' g g' h = by_row (λ own l e st w al. go own l e)
    where
      go : (own : Own) (l : Acts) → kind own ≡ get_or t (x * 13) 0 → s ≡ messages_after (doing_of own l x) j o s
      go empty l e = refl
      go (send (to_partner a) b vs) l e = absurd (f (sym e))
      go (send (to_held v a) b vs) l e = absurd (f' (sym e))
      go (receive (from_partner a) b vs) l e = absurd (g (sym e))
      go (receive (from_asking a v) b vs) l e = absurd (g' (sym e))
      go (setting v d) l e = refl
      go (raise zero) l e = refl
      go (raise (suc number)) l e = refl
      go leave l e = refl
      go (choose d) l e = refl
      go (repeat d) l e = refl
      go sequence l e = refl
      go flow l e = refl
      go pick l e = refl
      go (scope ns u) l e = refl
      go (arm a b vs) l e = absurd (h (sym e))

module _ (t : List ℕ) (n : ℕ) (l : List Message) (w : ℕ) (o : Order) (x j : ℕ) where
  mail-kept : ((s : State) → MovesMessages t n s o x j s) → MovesMail t n l w o x j (record { messages = l; waiting = w })
  mail-kept h = record { is = λ s f g. subst (MovesMessages t n s o x j) (sym (kept-mail s f g)) (h s) }

  pub mail-far : 256 ≤ x → MovesMail t n l w o x j (record { messages = l; waiting = w })
  mail-far h = mail-kept (λ s. after-far t n s o x j h)

  pub mail-send : {r : Mail} → get_or t (x * 13) 0 ≡ 1 → SendsMail t x o l w r → MovesMail t n l w o x j r
  mail-send h y = record { is = λ s f g. after-send t n s o x j h (y.is s f g) }

  pub mail-held : {r : Mail} → get_or t (x * 13) 0 ≡ 17 → SendsMail t x o l w r → MovesMail t n l w o x j r
  mail-held h y = record { is = λ s f g. after-held t n s o x j h (y.is s f g) }

  pub mail-receive : {r : Mail} → get_or t (x * 13) 0 ≡ 2 → Removes j l w r → MovesMail t n l w o x j r
  mail-receive h y = record { is = λ s f g. after-receive t n s o x j h (y.is s f g) }

  pub mail-asking : {r : Mail} → get_or t (x * 13) 0 ≡ 18 → Removes j l w r → MovesMail t n l w o x j r
  mail-asking h y = record { is = λ s f g. after-asking t n s o x j h (y.is s f g) }

  pub mail-arm : {r : Mail} → get_or t (x * 13) 0 ≡ 255 → Removes j l w r → MovesMail t n l w o x j r
  mail-arm h y = record { is = λ s f g. after-arm t n s o x j h (y.is s f g) }

  pub mail-none : (get_or t (x * 13) 0 ≡ 1 → ⊥) → (get_or t (x * 13) 0 ≡ 17 → ⊥) → (get_or t (x * 13) 0 ≡ 2 → ⊥) → (get_or t (x * 13) 0 ≡ 18 → ⊥) → (get_or t (x * 13) 0 ≡ 255 → ⊥)
      → MovesMail t n l w o x j (record { messages = l; waiting = w })
  mail-none e e' f f' g = mail-kept (λ s. after_none t n s o x j e e' f f' g)

-- `given_by`
given-four : (l : List ℕ) (r : ℕ) → length l ≡ 4 → (get_or l 0 0 ∷ (get_or l 1 0 ∷ (get_or l 2 0 ∷ (get_or l 3 0 ∷ (r ∷ []))))) ≡ l ++ (r ∷ [])
given-four [] r e = absurd (omega arith)
given-four (a ∷ []) r e = absurd (omega arith)
given-four (a ∷ (b ∷ [])) r e = absurd (omega arith)
given-four (a ∷ (b ∷ (c ∷ []))) r e = absurd (omega arith)
given-four (a ∷ (b ∷ (c ∷ (d ∷ [])))) r e = refl
given-four (a ∷ (b ∷ (c ∷ (d ∷ (f ∷ l))))) r e = absurd (omega arith)

pub given_is : (m : Message) → length m.values ≡ 4
    → (get_or m.values 0 0 ∷ (get_or m.values 1 0 ∷ (get_or m.values 2 0 ∷ (get_or m.values 3 0 ∷ (m.reply ∷ []))))) ≡ gives m
given_is m e = given-four m.values m.reply e

-- `letter_values`
pub values-there : (l : List Message) (i : ℕ) → i < 64 → length l ≡ 64 → {r : List ℕ}
    → r ≡ gives (get_or l i (record { partner = 0; operation = 0; count = 0; values = []; reply = 0 })) → r ≡ gives (get_or l i no_message)
values-there l i h e q = q ∙ ap gives (letter-there l i h e)

pub values-none : (l : List Message) (i : ℕ) → 64 ≤ i → length l ≡ 64 → {m : Message} → m ≡ no_message → {r : List ℕ} → r ≡ gives m → r ≡ gives (get_or l i no_message)
values-none l i h e q z = z ∙ ap gives (q ∙ sym (get_or-eq_default l no_message (omega arith)))

-- `counted`, `count_start`, `count_end`
pub counted-more : (n : ℕ) → n < 4294967295 → n + 1 ≡ counted n
counted-more n h = rw (lt-ltb _ _ h)

pub counted-full : (n : ℕ) → 4294967295 ≤ n → n ≡ counted n
counted-full n h = rw (le-ltb _ _ h)

module _ (y : Tally) where
  pub start_is : {n : ℕ} → n ≡ counted y.started
      → ◌≡◌ {A = Tally} (record { started = n; well = y.well; handled = y.handled; failed = y.failed; left = y.left }) (count_start y)
  start_is e = rw e

  pub none_is : {e : End} → e ≡ None → y ≡ count_end e y
  unfolding count_end
  none_is q = rw q

  pub well-is : {e : End} → e ≡ Well → {n : ℕ} → n ≡ counted y.well
      → ◌≡◌ {A = Tally} (record { started = y.started; well = n; handled = y.handled; failed = y.failed; left = y.left }) (count_end e y)
  unfolding count_end
  well-is q e = rw (q, e)

  pub handled-is : {e : End} → e ≡ Handled → {n : ℕ} → n ≡ counted y.handled
      → ◌≡◌ {A = Tally} (record { started = y.started; well = y.well; handled = n; failed = y.failed; left = y.left }) (count_end e y)
  unfolding count_end
  handled-is q e = rw (q, e)

  pub failed-is : {e : End} → e ≡ Failed → {n : ℕ} → n ≡ counted y.failed
      → ◌≡◌ {A = Tally} (record { started = y.started; well = y.well; handled = y.handled; failed = n; left = y.left }) (count_end e y)
  unfolding count_end
  failed-is q e = rw (q, e)

  pub left_is : {e : End} → e ≡ Left → {n : ℕ} → n ≡ counted y.left
      → ◌≡◌ {A = Tally} (record { started = y.started; well = y.well; handled = y.handled; failed = y.failed; left = n }) (count_end e y)
  unfolding count_end
  left_is q e = rw (q, e)

-- `next_of`
pub next-is : {t : List ℕ} {n : ℕ} {l : List Message} {o : Order} {k j : ℕ} {xs : List ℕ} {q : Order} {m : Next}
    → xs ≡ gives (get_or l j no_message) → TakesOrder t n k xs o q → StepsOrder t n k q m → Nexts t n l o k j m
next-is {xs = xs} {q} e a b = record { values = xs; between = q; read = e; takes = a; moves = b }

-- `moved_from`
pub moves_from : {t : List ℕ} {n : ℕ} {l : List Message} {w : ℕ} {o : Order} {m : Next} (i : ℕ) {k j : ℕ} {y : Tally} {v : Mail} {c : Tally}
    → Nexts t n l o k j m → MovesMail t n l w o k j v → c ≡ count_end m.end y
    → MovesFrom t n o l w i k j y (record { answer = answering (offering i k j) m.end m.fault; order = m.order; messages = v.messages; waiting = v.waiting; tally = c })
unfolding calls.stepped
moves_from {o = o} {m} i {k} {j} {y} {v} next c e = record {
  is = λ s b d. record {
    is = λ p sp w g.
        let q = next.between in
        let a : Message = get_or s.messages j no_message in
        let h : q ≡ order_taking (doing_at p k) a o =
        next.takes.is p sp ∙ ap (λ (z : List ℕ). taking p k z o) (next.read ∙ ap (λ (z : List Message). gives (get_or z j no_message)) (sym b)) ∙ takes_same p k g.inside a o in
        let x : closings q ≡ closings o = ap closings h ∙ take-closings (doing_at p k) a o in
        let f : m ≡ next_of (step_order p k q) = next.moves.is p sp (ap (room_plan p k) x ∙ good-room g) in
        let z : m ≡ next_of (step_order p k (order_taking (doing_at p k) a o)) = f ∙ ap (λ (d : Order). next_of (step_order p k d)) h in
        ap (λ (r : Tally). changed s (record { answer = answering (offering i k j) m.end m.fault; order = m.order; messages = v.messages; waiting = v.waiting; tally = r })) e
        ∙ ap (λ (u : State). moved_in u i k j m y) ((c.is s b d).is p sp w g)
        ∙ ap (λ (r : Next). moved_in (messages_after (doing_at p k) j o s) i k j r y) z;
  };
  taken = refl;
  slot = refl;
}

-- `moved`
same-bare : (p : Plan) (x : Offer) (s : State) (y : Tally) (o : Order) (l k : List Event) → bare (calls.stepped p x s y o l) ≡ bare (calls.stepped p x s y o k)
unfolding calls.stepped
same-bare p x s y o l k = refl

module _ (t : List ℕ) (n : ℕ) (s : State) (i k j : ℕ) (y : Tally) {o : Order} (e : o ≡ get_or s.orders i no_order) where
  fine : (p : Plan) (c : ℕ) → choosing (offers_of p s) c ≡ chosen (offering i k j) → Good p s.waiting (actor p s.orders i) k j
  fine p c h = (chosen-fine p s c (offering i k j) h).good

  take-starts : o.root ≡ 0 → {new : Order} {z : Tally} {r : Stepped} → StartsOrder t new → z ≡ count_start y → StepsSlot t n s new i k j z r
      → TakesOffer t n s i k j y r
  unfolding calls.taken
  take-starts h {new} {z} {r} a b c = record {
    is = λ p d sp lim f.
        let v : is_live (get_or s.orders i no_order) ≡ false = ap is_live (sym e) ∙ ap not (eq-eqb o.root 0 h) in
        let w : actor p s.orders i ≡ new = pick-false (is_live (get_or s.orders i no_order)) _ _ v ∙ sym (a.is p n sp) in
        let g : Good p s.waiting new k j = subst (λ (q : Order). Good p s.waiting q k j) w (fine p d f) in
        let u : r ≡ bare (calls.stepped p (offering i k j) s (count_start y) (started_order p) []) =
        c.is p sp (limits-letters s lim).0 g
        ∙ ap (λ (q : Tally). bare (calls.stepped p (offering i k j) s q new [])) b
        ∙ ap (λ (q : Order). bare (calls.stepped p (offering i k j) s (count_start y) q [])) (a.is p n sp) in
        u ∙ same-bare p (offering i k j) s (count_start y) (started_order p) [] (started ∷ (begun_order p).log)
        ∙ sym (ap bare (pick-false (is_live (get_or s.orders i no_order)) _ _ v));
  }

  take_steps : (o.root ≡ 0 → ⊥) → {r : Stepped} → StepsSlot t n s o i k j y r → TakesOffer t n s i k j y r
  unfolding calls.taken
  take_steps h {r} c = record {
    is = λ p d sp lim f.
        let v : is_live (get_or s.orders i no_order) ≡ true = ap is_live (sym e) ∙ ap not (ne_eqb o.root 0 h) in
        let w : actor p s.orders i ≡ o = pick_true (is_live (get_or s.orders i no_order)) _ _ v ∙ sym e in
        let g : Good p s.waiting o k j = subst (λ (q : Order). Good p s.waiting q k j) w (fine p d f) in
        c.is p sp (limits-letters s lim).0 g
        ∙ ap (λ (q : Order). bare (calls.stepped p (offering i k j) s y q [])) e
        ∙ sym (ap bare (pick_true (is_live (get_or s.orders i no_order)) _ _ v));
  }

module _ {t : List ℕ} {n : ℕ} {l : List Message} {w : ℕ} {o : Order} {i k j : ℕ} {y : Tally} {r : Change} where
  pub moves-starts : o.root ≡ 0 → {new : Order} {z : Tally} → StartsOrder t new → z ≡ count_start y → MovesFrom t n new l w i k j z r → Moves t n o l w i k j y r
  moves-starts h a b c = record { is = λ s f g e. take-starts t n s i k j y e h a b (c.is s f g); taken = c.taken; slot = c.slot }

  pub moves-steps : (o.root ≡ 0 → ⊥) → MovesFrom t n o l w i k j y r → Moves t n o l w i k j y r
  moves-steps h c = record { is = λ s f g e. take_steps t n s i k j y e h (c.is s f g); taken = c.taken; slot = c.slot }

-- A reply address arrives, proved: a receive that stores it keeps what its message carried, a send to a held partner sends to it, and no fit looks at it. Assumes nothing.
use Prim.Native.Nat.{ℕ, zero, suc, ◌+◌, ◌<◌}
use native.Mathlib.Omega.{arith}
use mathlib.Core.Path.{◌≡◌, refl, sym, ap, subst, ◌∙◌}
use mathlib.Core.Bool.{Bool, true, false, cond}
use mathlib.Core.List.{List, [], ◌∷◌, ◌++◌}
use borrow.Author.Tests.{eq-eqb, ltb-true}
use lib.Dec.{ltb}
use lib.ListN.{length, get_or, drop, set, length-set}
use lib.Seq.{get_or-append_seam, get_or-set_same}
use Rattle.plan.specs.Tree.{to_held, from_partner, from_asking, Own, empty, send, receive, set as setting, raise, leave, choose, repeat, sequence, flow, pick, scope, arm, Act, act, Acts, Plan}
use Rattle.plan.proofs.Accepts.{both}
use Rattle.order.specs.declared.Order.{Order}
use Rattle.order.specs.declared.End.{End}
use Rattle.order.specs.declared.End.TheVariants.{None}
use Rattle.order.specs.Acting.{may_send}
use Rattle.order.specs.Lists.{every}
use Rattle.order.specs.State.{binding, is_bound, value_of, no_order}
use Rattle.order.specs.Taking.{act_at, bind_all, storing}
use Rattle.machine.specs.declared.Message.{Message}
use Rattle.machine.specs.Calls.{doing_at, sent_by, gives, step}
use Rattle.machine.specs.Fit.{Doing, sends, takes, doing_of, fits}
use Rattle.machine.specs.State.{no_message, letters}
use Rattle.laws.specs.Good.{actor}
use Rattle.laws.specs.Known.{own_of, variables_after, Leaves, VariablesMove}
use Rattle.laws.specs.Promises.{letters_after, LettersMove}
use Rattle.laws.specs.Replies.{RepliesStored, RepliesSent, RepliesIgnored, RepliesArrive}
use Rattle.laws.proofs.Doing.{act_doing, plan-doing}
use Rattle.laws.proofs.Keeping.{plan-within}
use Rattle.laws.proofs.Knowing.{Lower, lower-at, every_rest, variables-move}
use Rattle.laws.proofs.Offering.{chosen-fine}
use Rattle.laws.proofs.Promised.{letters-move}

-- the reply partner stands behind the four values
gives-reply : (m : Message) → length m.values ≡ 4 → get_or (gives m) 4 0 ≡ m.reply
gives-reply m e = subst (λ (n : ℕ). get_or (gives m) n 0 ≡ m.reply) e (get_or-append_seam m.values m.reply [] 0)

-- what a take binds leaves as many variables as there were
bind-many : (vs xs : List ℕ) (o : Order) → (length (bind_all vs xs o).values ≡ length o.values) × (length (bind_all vs xs o).bound ≡ length o.bound)
unfolding bind_all
bind-many [] xs o = (refl, refl)
bind-many (v ∷ vs) xs o =
    let r = bind-many vs (drop 1 xs) (binding v (get_or xs 0 0) o) in
    (r.0 ∙ length-set o.values v (get_or xs 0 0), r.1 ∙ length-set o.bound v 1)

-- a variable of an order that has it, once it is bound
bound-now : (v x : ℕ) (o : Order) → v < length o.values → v < length o.bound → (is_bound (binding v x o) v ≡ true) × (value_of (binding v x o) v ≡ x)
bound-now v x o h g = (eq-eqb _ 1 (get_or-set_same o.bound v 1 0 g), get_or-set_same o.values v x 0 h)

-- after the take of a receive that stores the reply partner its variable has it; no other activity has such a step
module _ (partner v operation : ℕ) (vs xs : List ℕ) (o : Order) (h : length o.values ≡ 16) (g : length o.bound ≡ 16) where
  abbrev Stores : Own → Type 0
  Stores own = (is_bound (variables_after own xs o) v ≡ true) × (value_of (variables_after own xs o) v ≡ get_or xs 4 0)

  own-stores : (own : Own) (l : Acts) (k : ℕ) → doing_of own l k ≡ takes (from_asking partner v) operation vs → Lower own → Stores own
  unfolding doing_of variables_after Lower every
  own-stores empty l k e w = let z : ◌≡◌ {A = ℕ} 0 1 = cc in absurd (omega arith)
  own-stores (send a b ws) l k e w = let z : ◌≡◌ {A = ℕ} 0 1 = cc in absurd (omega arith)
  own-stores (receive (from_partner a) b ws) l k e w = let z : ◌≡◌ {A = ℕ} 0 1 = cc in absurd (omega arith)
  own-stores (receive (from_asking a u) b ws) l k e w =
      let z : u ≡ v = cc in
      let q = bind_all ws xs o in
      let m = bind-many ws xs o in
      let n : u < 16 = both (ltb u 16) _ (every_rest ws (u ∷ []) w) (λ c d. ltb-true u 16 c) in
      rw (sym z) (bound-now u (get_or xs 4 0) q (omega (arith, m.0, h)) (omega (arith, m.1, g)))
  own-stores (setting u x) l k e w = let z : ◌≡◌ {A = ℕ} 0 1 = cc in absurd (omega arith)
  own-stores (raise n) l k e w = let z : ◌≡◌ {A = ℕ} 0 1 = cc in absurd (omega arith)
  own-stores leave l k e w = let z : ◌≡◌ {A = ℕ} 0 1 = cc in absurd (omega arith)
  own-stores (choose x) l k e w = let z : ◌≡◌ {A = ℕ} 0 1 = cc in absurd (omega arith)
  own-stores (repeat x) l k e w = let z : ◌≡◌ {A = ℕ} 0 1 = cc in absurd (omega arith)
  own-stores sequence l k e w = let z : ◌≡◌ {A = ℕ} 0 1 = cc in absurd (omega arith)
  own-stores flow l k e w = let z : ◌≡◌ {A = ℕ} 0 1 = cc in absurd (omega arith)
  own-stores pick l k e w = let z : ◌≡◌ {A = ℕ} 0 1 = cc in absurd (omega arith)
  own-stores (scope ns u) l k e w = let z : ◌≡◌ {A = ℕ} 0 1 = cc in absurd (omega arith)
  own-stores (arm a b ws) l k e w = let z : ◌≡◌ {A = ℕ} 0 1 = cc in absurd (omega arith)

  act-stores : (a : Act) (k : ℕ) → act_doing a k ≡ takes (from_asking partner v) operation vs → Lower (own_of a) → Stores (own_of a)
  unfolding act_doing
  act-stores (act own l) k e w = own-stores own l k e w

pub replies-stored : RepliesStored
unfolding RepliesStored VariablesMove Leaves
replies-stored p next s t c x f n e partner v operation vs d z h i j =
    let g = (chosen-fine p s c x e).good.inside in
    let w = act-stores partner v operation vs (gives (get_or s.messages x.place no_message)) (actor p s.orders x.slot) i j
    (act_at p x.activity) x.activity (sym (plan-doing p x.activity g) ∙ d) (lower-at p x.activity (plan-within f) g) in
    let q = variables_after (own_of (act_at p x.activity)) (gives (get_or s.messages x.place no_message)) (actor p s.orders x.slot) in
    let y = subst (λ (u : End). Leaves u q (get_or (step c s t).state.orders x.slot no_order)) z (variables-move p next s t c x f n e) in
    (rw y.1 w.0, rw y.0 (w.1 ∙ gives-reply (get_or s.messages x.place no_message) h))

pub replies-sent : RepliesSent
unfolding RepliesSent LettersMove letters_after
replies-sent p next s t c x f n e v reply operation vs d h =
    let o = actor p s.orders x.slot in
    let z : letters (step c s t).state ≡ letters_after (sends (to_held v reply) operation vs) x.place o (letters s) = rw d at (letters-move p next s t c x f e) in
    (sent_by o (to_held v reply) operation vs, z ∙ rw h, refl, refl)

pub replies-ignored : RepliesIgnored
unfolding RepliesIgnored fits
replies-ignored p o partner operation vs m r = refl

pub replies-arrive : RepliesArrive
unfolding RepliesArrive
replies-arrive = (replies-stored, (replies-sent, replies-ignored))

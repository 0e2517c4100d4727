-- What each exported function answers and leaves, at each of its returns. Assumes nothing.
use mathlib.Core.Path.{◌≡◌, refl, sym, ap, ◌∙◌}
use mathlib.Core.Bool.{Bool, true, false}
use mathlib.Core.List.{List, map}
use Prim.Native.Nat.{ℕ, ◌+◌, ◌*◌, ◌%◌, ◌<◌, ◌≤◌}
use native.Mathlib.Nat.{add-zero}
use borrow.Author.Tests.{ne_eqb, lt-ltb, le-ltb}
use lib.Dec.{eqb}
use lib.ListN.{length}
use Rattle.machine.specs.declared.Collected.{Collected}
use Rattle.machine.specs.declared.Loaded.{Loaded}
use Rattle.machine.specs.declared.Message.{Message}
use Rattle.machine.specs.declared.Posted.{Posted}
use Rattle.machine.specs.declared.State.{State}
use Rattle.machine.specs.declared.Step.{Step}
use Rattle.machine.specs.declared.Tally.{Tally}
use Rattle.machine.specs.Calls as calls
use Rattle.machine.specs.Calls.{preview}
use Rattle.machine.specs.State.{no_tally}
use Rattle.offer.specs.declared.Offered.{Offered}
use Rattle.offer.specs.Having.{offered_in}
use Rattle.step.specs.declared.Stepped.{Stepped}
use Rattle.step.specs.Stepping.{bare}
use Rattle.run.specs.declared.Ran.{Ran}
use Rattle.run.specs.Running.{ran_of}
use Rattle.answers.specs.Numbering.{step_number, filled}
use Rattle.listing.specs.declared.Listed.{Listed}
use Rattle.listing.specs.Listing.{listed_in, listed_out}
use Rattle.run.specs.Telling.{told_in}
use Rattle.store.specs.declared.Kept.{Kept}
use Rattle.store.specs.Packed.{packed_into, message_into, unpacked}
use Rattle.boundary.specs.Packed.{pair_of}
use Rattle.boundary.specs.Engine.{updated, load_number, load_bytes, post_number, post_bytes, handed_number, handed_bytes, handed_message, offers_number, offer_number, offers_of, list_number, list_out, step_of, step_bytes, ran_in, run_bytes, run_told}

-- the bytes after a call that was taken, and after one that was refused
done : {n : ℕ} {s u : State} {t v : Tally} (l : List ℕ) {o : List ℕ} → n ≡ 0 → o ≡ packed_into s t l → s ≡ u → t ≡ v → o ≡ updated n u v l
unfolding updated
done l z h e f = rw z (h ∙ rw (e, f))

undone : {n : ℕ} (s : State) (t : Tally) (l : List ℕ) → (n ≡ 0 → ⊥) → l ≡ updated n s t l
unfolding updated
undone {n} s t l z = rw (ne_eqb n 0 z)

-- `moonhalyard_load`
module _ (s l : List ℕ) {r : Loaded} {t : Tally} {b : Bool} {o : List ℕ} (e : r ≡ calls.load s) (f : t ≡ no_tally) (g : b ≡ eqb (length l) 12748)
    (h : o ≡ packed_into r.state t l) where
  loaded : o ≡ load_bytes s l
  unfolding load_bytes
  loaded = h ∙ rw (e, f)

  pub load-taken : {n : ℕ} → b ≡ true → n ≡ pair_of r.refusal r.place → (n ≡ load_number s l) × (o ≡ load_bytes s l)
  unfolding load_number
  load-taken q k =
      let z : eqb (length l) 12748 ≡ true = sym g ∙ q in
      (rw z (k ∙ rw e), loaded)

  pub load-short : {n : ℕ} → b ≡ false → n ≡ pair_of 18 0 → (n ≡ load_number s l) × (o ≡ load_bytes s l)
  unfolding load_number
  load-short q k =
      let z : eqb (length l) 12748 ≡ false = sym g ∙ q in
      (rw z k, loaded)

-- `moonhalyard_post`
module _ (m : Message) (l : List ℕ) {k : Kept} {r : Posted} (e : k ≡ unpacked l) (f : r ≡ calls.post m k.state) where
  posted : r ≡ calls.post m (unpacked l).state
  posted = f ∙ ap (λ (x : Kept). calls.post m x.state) e

  pub post-taken : {o : List ℕ} → r.refusal ≡ 0 → o ≡ packed_into r.state k.tally l → (0 ≡ post_number m l) × (o ≡ post_bytes m l)
  unfolding post_number post_bytes
  post-taken z h =
      let n : (calls.post m (unpacked l).state).refusal ≡ 0 = sym (ap (λ (x : Posted). x.refusal) posted) ∙ z in
      (sym n, done l n h (ap (λ (x : Posted). x.state) posted) (ap (λ (x : Kept). x.tally) e))

  pub post-refused : (r.refusal ≡ 0 → ⊥) → (r.refusal ≡ post_number m l) × (l ≡ post_bytes m l)
  unfolding post_number post_bytes
  post-refused z =
      let n = ap (λ (x : Posted). x.refusal) posted in
      (n, undone _ _ l (λ q. z (n ∙ q)))

-- `moonhalyard_collect`, `moonhalyard_drop`: a call that hands out a message
module _ (call : State → Collected) where
  pub handed-short : (l m : List ℕ) → length m < 32 → (18 ≡ handed_number call l m) × ((l ≡ handed_bytes call l m) × (m ≡ handed_message call l m))
  unfolding handed_number handed_bytes handed_message
  handed-short l m h = let z = lt-ltb (length m) 32 h in (rw z, (rw z, rw z))

  module _ (l m : List ℕ) {k : Kept} {r : Collected} {w : List ℕ} (c : 32 ≤ length m) (e : k ≡ unpacked l) (f : r ≡ call k.state)
      (g : w ≡ message_into r.message m) where
    called : r ≡ call (unpacked l).state
    called = f ∙ ap (λ (x : Kept). call x.state) e

    handed : w ≡ handed_message call l m
    unfolding handed_message
    handed = rw (le-ltb (length m) 32 c) (g ∙ ap (λ (x : Collected). message_into x.message m) called)

    pub handed-taken : {o : List ℕ} → r.refusal ≡ 0 → o ≡ packed_into r.state k.tally l
        → (0 ≡ handed_number call l m) × ((o ≡ handed_bytes call l m) × (w ≡ handed_message call l m))
    unfolding handed_number handed_bytes
    handed-taken z h =
        let y = le-ltb (length m) 32 c in
        let n : (call (unpacked l).state).refusal ≡ 0 = sym (ap (λ (x : Collected). x.refusal) called) ∙ z in
        (rw y (sym n), (rw y (done l n h (ap (λ (x : Collected). x.state) called) (ap (λ (x : Kept). x.tally) e)), handed))

    pub handed-refused : (r.refusal ≡ 0 → ⊥) → (r.refusal ≡ handed_number call l m) × ((l ≡ handed_bytes call l m) × (w ≡ handed_message call l m))
    unfolding handed_number handed_bytes
    handed-refused z =
        let y = le-ltb (length m) 32 c in
        let n = ap (λ (x : Collected). x.refusal) called in
        (rw y n, (rw y (undone _ _ l (λ q. z (n ∙ q))), handed))

-- `moonhalyard_offer`, `moonhalyard_offers`
pub offer-is : (c : ℕ) (l : List ℕ) {k : Kept} {x : Step} {n : ℕ} → k ≡ unpacked l → x ≡ preview c k.state → n ≡ step_number x → n ≡ offer_number c l
unfolding offer_number
offer-is c l e f g = g ∙ ap step_number (f ∙ ap (λ (x : Kept). preview c x.state) e)

pub offers-is : (l : List ℕ) {k : Kept} {x : Offered} {n : ℕ} → k ≡ unpacked l → x ≡ offered_in k.state → n ≡ offers_number x → n ≡ offers_of l
unfolding offers_of
offers-is l e f g = g ∙ ap offers_number (f ∙ ap (λ (x : Kept). offered_in x.state) e)

-- `moonhalyard_list`
module _ (first : ℕ) (l w : List ℕ) {k : Kept} (e : k ≡ unpacked l) where
  pub list-number : {r : Listed} {n : ℕ} → r ≡ listed_in first k.state (length w) → n ≡ pair_of r.refusal r.many → n ≡ list_number first l w
  unfolding list_number
  list-number f g = g ∙ ap (λ (x : Listed). pair_of x.refusal x.many) (f ∙ ap (λ (x : Kept). listed_in first x.state (length w)) e)

  pub list_put : {v : List ℕ} → v ≡ listed_out first k.state w → v ≡ list_out first l w
  unfolding list_out
  list_put f = f ∙ ap (λ (x : Kept). listed_out first x.state w) e

-- `moonhalyard_step`
module _ (c : ℕ) (l : List ℕ) {k : Kept} {r : Stepped} {n : ℕ} (e : k ≡ unpacked l) (f : r ≡ bare (calls.step c k.state k.tally))
    (g : n ≡ step_number r.answer) where
  stepped : r ≡ bare (calls.step c (unpacked l).state (unpacked l).tally)
  stepped = f ∙ ap (λ (x : Kept). bare (calls.step c x.state x.tally)) e

  answered : n ≡ step_of c l
  unfolding step_of
  answered = g ∙ ap (λ (x : Stepped). step_number x.answer) stepped

  pub step-taken : {o : List ℕ} → r.answer.refusal ≡ 0 → o ≡ packed_into r.state r.tally l → (n ≡ step_of c l) × (o ≡ step_bytes c l)
  unfolding step_bytes
  step-taken z h =
      let y = sym (ap (λ (x : Stepped). x.answer.refusal) stepped) ∙ z in
      (answered, done l y h (ap (λ (x : Stepped). x.state) stepped) (ap (λ (x : Stepped). x.tally) stepped))

  pub step-refused : (r.answer.refusal ≡ 0 → ⊥) → (n ≡ step_of c l) × (l ≡ step_bytes c l)
  unfolding step_bytes
  step-refused z = (answered, undone _ _ l (λ q. z (ap (λ (x : Stepped). x.answer.refusal) stepped ∙ q)))

-- `moonhalyard_run`
module _ (cs : List ℕ) (b : ℕ) (l : List ℕ) {k : Kept} {r : Ran} (e : k ≡ unpacked l) (f : r ≡ ran_of (calls.run cs b k.state k.tally)) where
  ran : r ≡ ran_of (ran_in cs b l)
  unfolding ran_in
  ran = f ∙ ap (λ (x : Kept). ran_of (calls.run cs b x.state x.tally)) e

  taken : r.taken ≡ (ran_in cs b l).taken
  taken = ap (λ (x : Ran). x.taken) ran

  pub run_none : (left : ℕ) → left + r.taken ≡ b → r.taken ≡ 0 → (r.refusal ≡ (ran_in cs b l).refusal) × ((l ≡ run_bytes cs b l) × (left + (ran_in cs b l).taken ≡ b))
  unfolding run_bytes
  run_none left g z =
      let y : (ran_in cs b l).taken ≡ 0 = sym taken ∙ z in
      (ap (λ (x : Ran). x.refusal) ran, (rw y, rw (sym taken) g))

  pub run-some : {o : List ℕ} (left : ℕ) → left + r.taken ≡ b → (r.taken ≡ 0 → ⊥) → o ≡ packed_into r.state r.tally l
      → (r.refusal ≡ (ran_in cs b l).refusal) × ((o ≡ run_bytes cs b l) × (left + (ran_in cs b l).taken ≡ b))
  unfolding run_bytes
  run-some left g z h =
      let y = ne_eqb (ran_in cs b l).taken 0 (λ q. z (taken ∙ q)) in
      let s = ap (λ (x : Ran). packed_into x.state x.tally l) ran in
      (ap (λ (x : Ran). x.refusal) ran, (rw y (h ∙ s), rw (sym taken) g))

-- `moonhalyard_tell`: what is told besides
pub run-told : (cs : List ℕ) (b : ℕ) (l w : List ℕ) {k : Kept} {v : List ℕ} → k ≡ unpacked l → v ≡ filled 0 (map step_number (told_in cs b k.state k.tally)) w
    → v ≡ run_told cs b l w
unfolding run_told
run-told cs b l w e f = f ∙ ap (λ (x : Kept). filled 0 (map step_number (told_in cs b x.state x.tally)) w) e

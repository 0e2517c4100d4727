-- Which message collect hands out, and what waits after it. Assumes nothing.
use Prim.Native.Nat.{ℕ, suc, ◌+◌, ◌-◌, ◌≤◌, ◌<◌}
use native.Mathlib.Omega.{arith}
use mathlib.Core.Path.{◌≡◌, refl, sym, ap, subst, ◌∙◌}
use mathlib.Core.Bool.{Bool, true, false, cond, false≢true}
use mathlib.Core.List.{List, [], ◌∷◌, ◌++◌, append_assoc}
use lib.ListN.{length, get_or, take, drop, length-append, take-append-drop}
use lib.Seq.{take_at, drop_at, length-take-le, get_or-take, get_or-append_seam}
use lib.Dec.{ltb}
use borrow.Author.Tests.{ltb-true}
use Rattle.plan.specs.Found.{Found, found, among}
use Rattle.plan.specs.Tree.{Plan}
use Rattle.order.specs.Lists.{every}
use Rattle.machine.specs.declared.Message.{Message}
use Rattle.machine.specs.declared.State.{State}
use Rattle.machine.specs.declared.Collected.{Collected}
use Rattle.machine.specs.State.{no_message, letters, removing}
use Rattle.machine.specs.Limits.{plan_in, by}
use Rattle.machine.specs.Calls.{partners_of, foreign, handing, collect_by, collect}
use Rattle.undoing.specs.Entirely.{Oldest, CollectOldest}
use Rattle.undoing.proofs.Parts.{decide}

-- where the first for another partner stands
record Split (ps : List ℕ) (i : ℕ) (l : List Message) : Type 0 where
  older : List Message
  it : Message
  newer : List Message
  is : l ≡ older ++ (it ∷ newer)
  passed : every (λ x. among x.partner ps) older ≡ true
  strange : among it.partner ps ≡ false
  at : foreign ps i l ≡ i + length older

split-more : (ps : List ℕ) (i : ℕ) (m : Message) (l : List Message) → among m.partner ps ≡ true → Split ps (i + 1) l → Split ps i (m ∷ l)
unfolding foreign every
split-more ps i m l e z =
    record { older = m ∷ z.older; it = z.it; newer = z.newer; is = ap (λ (y : List Message). m ∷ y) z.is; passed = rw (e, z.passed); strange = z.strange; at = rw e (let y = z.at in omega arith) }

split-here : (ps : List ℕ) (i : ℕ) (m : Message) (l : List Message) → among m.partner ps ≡ false → Split ps i (m ∷ l)
unfolding foreign every
split-here ps i m l e = record { older = []; it = m; newer = l; is = refl; passed = refl; strange = e; at = rw e (omega arith) }

split-less : (ps : List ℕ) (i : ℕ) (m : Message) (l : List Message) → among m.partner ps ≡ true → foreign ps i (m ∷ l) < i + suc (length l) → foreign ps (i + 1) l < i + 1 + length l
unfolding foreign
split-less ps i m l e h = let g : foreign ps (i + 1) l < i + suc (length l) = rw e at h in omega arith

split : (ps : List ℕ) (i : ℕ) (l : List Message) → foreign ps i l < i + length l → Split ps i l
unfolding foreign
split ps i [] h = absurd (omega arith)
split ps i (m ∷ l) h = decide (among m.partner ps) (λ e. split-more ps i m l e (split ps (i + 1) l (split-less ps i m l e h))) (λ e. split-here ps i m l e)

-- what waits without it
removed : (ms : List Message) (w i : ℕ) (x it : Message) (older newer : List Message) → take w ms ≡ older ++ (it ∷ newer) → w ≤ length ms → i ≡ length older
    → take (w - 1) (take i ms ++ (drop (i + 1) ms ++ (x ∷ []))) ≡ older ++ newer
removed ms w i x it older newer h n e =
    ap (λ (l : List Message). take (w - 1) (l ++ (drop (i + 1) ms ++ (x ∷ [])))) front
    ∙ (ap (λ (l : List Message). take (w - 1) (older ++ (l ++ (x ∷ [])))) back
    ∙ (ap (take (w - 1)) joined ∙ take_at (older ++ newer) (d ++ (x ∷ [])) (w - 1) (let a = long in let b = length-append older newer in omega arith)))
  where
    d : List Message
    d = drop w ms

    whole : ms ≡ older ++ (it ∷ (newer ++ d))
    whole = sym (take-append-drop w ms) ∙ (ap (λ (l : List Message). l ++ drop w ms) h ∙ append_assoc older (it ∷ newer) (drop w ms))

    long : w ≡ length older + suc (length newer)
    long = sym (length-take-le w ms n) ∙ (ap length h ∙ length-append older (it ∷ newer))

    front : take i ms ≡ older
    front = ap (take i) whole ∙ take_at older (it ∷ (newer ++ d)) i (sym e)

    back : drop (i + 1) ms ≡ newer ++ d
    back =
        ap (drop (i + 1)) (whole ∙ sym (append_assoc older (it ∷ []) (newer ++ d)))
        ∙ drop_at (older ++ (it ∷ [])) (newer ++ d) (i + 1) (let a = length-append older (it ∷ []) in omega arith)

    joined : older ++ ((newer ++ d) ++ (x ∷ [])) ≡ (older ++ newer) ++ (d ++ (x ∷ []))
    joined = ap (λ (l : List Message). older ++ l) (append_assoc newer d (x ∷ [])) ∙ sym (append_assoc older newer (d ++ (x ∷ [])))

-- Of a plan.
by-plan : (p : Plan) (s : State) → length s.messages ≡ 64 → s.waiting ≤ 64 → (b : Bool) → ltb (foreign (partners_of p) 0 (letters s)) s.waiting ≡ b
    → let r : Collected = cond b (record { refusal = 0; message = get_or s.messages (foreign (partners_of p) 0 (letters s)) no_message; state = removing (foreign (partners_of p) 0 (letters s)) s }) (record { refusal = 15; message = no_message; state = s }) in
    r.refusal ≡ 0 → Oldest (partners_of p) (letters s) r.message (letters r.state)
by-plan p s n w false e h = absurd (omega arith)
by-plan p s n w true e h =
    let i = foreign (partners_of p) 0 (letters s) in
    let lt = ltb-true i s.waiting e in
    let lw = length-take-le s.waiting s.messages (omega arith) in
    let z = split (partners_of p) 0 (letters s) (omega arith) in
    let at : i ≡ length z.older = let y = z.at in omega arith in
    let it : get_or s.messages i no_message ≡ z.it
    = sym (get_or-take s.waiting s.messages i no_message lt) ∙ (ap (λ (l : List Message). get_or l i no_message) z.is ∙ (ap (λ (j : ℕ). get_or (z.older ++ (z.it ∷ z.newer)) j no_message) at ∙ get_or-append_seam z.older z.it z.newer no_message)) in
    subst (λ (m : Message). Oldest (partners_of p) (letters s) m (letters (removing i s))) (sym it)
    (record { older = z.older; newer = z.newer; waited = z.is; passed = z.passed; strange = z.strange; stays = removed s.messages s.waiting i no_message z.it z.older z.newer z.is (omega arith) at })

pub collect-oldest : CollectOldest
unfolding CollectOldest collect collect_by handing
collect-oldest s p k e n w =
    subst (λ (f : Found Plan). (by (record { refusal = 17; message = no_message; state = s }) (λ p. collect_by p s) f).refusal ≡ 0 → Oldest (partners_of p) (letters s) (by (record { refusal = 17; message = no_message; state = s }) (λ p. collect_by p s) f).message (letters (by (record { refusal = 17; message = no_message; state = s }) (λ p. collect_by p s) f).state)) (sym e)
    (by-plan p s n w (ltb (foreign (partners_of p) 0 (letters s)) s.waiting) refl)

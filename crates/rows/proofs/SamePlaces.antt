-- Whether receives agree does not depend on how places are counted. Assumes nothing.
use mathlib.Core.Path.{◌≡◌, refl}
use mathlib.Core.List.{List, [], ◌∷◌, ◌++◌}
use Prim.Native.Nat.{ℕ}
use Rattle.plan.specs.Agree.{Asked, Places, in_bytes, asked_own, beyond, asked_in, asked_all, asked_from, asked, agrees, agrees_with, agree_after, agree}
use Rattle.plan.specs.Spell.{gaps_of, later}
use Rattle.plan.specs.Table.{body_place}
use Rattle.plan.specs.Tree.{Own, empty, send, receive, set, raise, leave, choose, repeat, sequence, flow, pick, scope, arm, numbers_of, Act, act, Acts, none, more, Plan}
use Rattle.writer.specs.Reading.{in_rows}

-- two ask for the same, whatever their places
record Like (a b : Asked) : Type 0 where
  partner : a.partner ≡ b.partner
  operation : a.operation ≡ b.operation
  many : a.many ≡ b.many

data Alike : List Asked → List Asked → Type 0 where
  nil : Alike [] []
  cons : {a b : Asked} {l m : List Asked} → Like a b → Alike l m → Alike (a ∷ l) (b ∷ m)

alike-append : {a b c d : List Asked} → Alike a b → Alike c d → Alike (a ++ c) (b ++ d)
alike-append nil y = y
alike-append (cons e x) y = cons e (alike-append x y)

like-agrees : (a b c d : Asked) → Like a b → Like c d → agrees a c ≡ agrees b d
like-agrees a b c d e f = rw (e.partner, e.operation, e.many, f.partner, f.operation, f.many)

like-with : {l m : List Asked} (a b : Asked) → Alike l m → Like a b → agrees_with l a ≡ agrees_with m b
unfolding agrees_with
like-with a b nil e = refl
like-with a b (cons {a = c} {b = d} f x) e = rw (like-agrees c d a b f e, like-with a b x e)

like-agree : {e f l m : List Asked} → Alike e f → Alike l m → agree_after e l ≡ agree_after f m
unfolding agree_after
like-agree x nil = refl
like-agree x (cons {a = a} {b = b} e y) = rw (like-with a b x e, like-agree (cons e x) y)

module _ (c d : Places) where
  own-alike : (own : Own) (at bt : ℕ) → Alike (asked_own c own at) (asked_own d own bt)
  unfolding asked_own
  own-alike empty at bt = nil
  own-alike (send p o vs) at bt = nil
  own-alike (receive p o vs) at bt = cons (record { partner = refl; operation = refl; many = refl }) nil
  own-alike (set v e) at bt = nil
  own-alike (raise n) at bt = nil
  own-alike leave at bt = nil
  own-alike (choose e) at bt = nil
  own-alike (repeat e) at bt = nil
  own-alike sequence at bt = nil
  own-alike flow at bt = nil
  own-alike pick at bt = nil
  own-alike (scope ns undo) at bt = nil
  own-alike (arm p o vs) at bt = cons (record { partner = refl; operation = refl; many = refl }) nil

  mutual
    unfolding asked_in

    act-alike : (a : Act) (at bt : ℕ) → Alike (asked_in c a at) (asked_in d a bt)
    act-alike (act own l) at bt = alike-append (own-alike own at bt) (acts-alike (gaps_of (numbers_of own)) l _ _)

    acts-alike : (gs : List (List ℕ)) (l : Acts) (at bt : ℕ) → Alike (asked_all c gs l at) (asked_all d gs l bt)
    acts-alike gs none at bt = nil
    acts-alike gs (more a l) at bt = alike-append (act-alike a (beyond c gs at) (beyond d gs bt)) (acts-alike (later gs) l _ _)

-- The receives of a plan agree in its table's rows exactly where they agree in its bytes.
pub rows_agree : (p : Plan) → agree_after [] (asked_from in_rows p 1) ≡ agree p
unfolding asked
rows_agree p = like-agree nil (acts-alike in_rows in_bytes [] (more p.body (more p.fault none)) 1 (body_place p))

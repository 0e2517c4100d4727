-- A table that is read as a plan is the table of that plan, row by row. Assumes nothing.
use borrow.Author.Tests.{eqb-true}
use native.Mathlib.Omega.{arith}
use native.Mathlib.Nat.{add-zero}
use mathlib.Core.Path.{◌≡◌, refl, sym, ap, ◌∙◌}
use mathlib.Core.Bool.{true}
use mathlib.Core.List.{List, ◌∷◌, ◌++◌, append_assoc, append-nil}
use Prim.Native.Nat.{ℕ, zero, suc, ◌+◌, ◌*◌, ◌-◌, ◌≤◌}
use lib.Dec.{eqb}
use lib.ListN.{length, get_or, drop, replicate, take-append-drop, drop_of_length-le}
use lib.Seq.{drop-cons, drop-drop}
use Rattle.plan.specs.Found.{found}
use Rattle.plan.specs.Tree.{Plan}
use Rattle.plan.proofs.Accepts.{both}
use Rattle.writer.specs.Rows.{line, lines, plan_rows, rows_of}
use Rattle.writer.specs.Reading.{cell, zeros, shaped, plan_at}
use Rattle.writer.proofs.Lines.{Row, Stands, nil, cons}
use Rattle.writer.proofs.RowStands.{plan-stands}

zeros-are : (m : ℕ) (t : List ℕ) (at : ℕ) → at + m ≤ length t → zeros m t at ≡ true → drop at t ≡ replicate m 0 ++ drop (at + m) t
unfolding zeros
zeros-are zero t at h e = rw (add-zero at)
zeros-are (suc m) t at h e =
    both (eqb (get_or t at 0) 0) _ e (λ a b.
    let z : at + suc m ≡ at + 1 + m = omega arith in
    let o : suc at ≡ at + 1 = omega arith in
    drop-cons t at 0 (omega arith) ∙ rw (eqb-true (get_or t at 0) 0 a, o, z) (ap (λ (x : List ℕ). 0 ∷ x) (zeros-are m t (at + 1) (omega arith) b)))

row_line : {t : List ℕ} {r : ℕ} {ns : List ℕ} → Row t r ns → drop (r * 20) t ≡ line ns ++ drop ((r + 1) * 20) t
unfolding line shaped
row_line {t} {r} {ns} w =
    both (eqb (cell t r 0) (length ns)) _ w.shape (λ a b.
    let h = w.there in
    let f = w.few in
    let c : get_or t (r * 20) 0 ≡ length ns = rw (add-zero (r * 20)) at (eqb-true (cell t r 0) (length ns) a) in
    let o : suc (r * 20) ≡ r * 20 + 1 = omega arith in
    let n : r * 20 + 1 + length ns + (19 - length ns) ≡ (r + 1) * 20 = omega arith in
    let z = zeros-are (19 - length ns) t (r * 20 + 1 + length ns) (omega arith) b in
    let d : drop (r * 20 + 1) t ≡ ns ++ drop (r * 20 + 1 + length ns) t =
    sym (take-append-drop (length ns) (drop (r * 20 + 1) t)) ∙ rw (w.is, drop-drop (length ns) (r * 20 + 1) t) in
    drop-cons t (r * 20) 0 (omega arith)
    ∙ rw (c, o) (ap (λ (x : List ℕ). length ns ∷ x) (d ∙ rw (z, n) (sym (append_assoc ns (replicate (19 - length ns) 0) (drop ((r + 1) * 20) t))))))

stands-lines : {t : List ℕ} {r next : ℕ} {l : List (List ℕ)} → Stands t r l next → drop (r * 20) t ≡ lines l ++ drop (next * 20) t
unfolding lines
stands-lines nil = refl
stands-lines (cons {ns = ns} {l = l} w x) = row_line w ∙ rw (stands-lines x) (sym (append_assoc (line ns) (lines l) _))

-- A table that is read as a plan is that plan's table.
pub read-is-rows : (t : List ℕ) {p : Plan} {next : ℕ} → plan_at t ≡ found p next → t ≡ rows_of p
unfolding rows_of
read-is-rows t {p} {next} e =
    let w = (plan-stands t).holds e in
    stands-lines w.rows ∙ rw (drop_of_length-le t w.last) (append-nil (lines (plan_rows p)))

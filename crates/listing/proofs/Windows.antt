-- Writing a window offer by offer: it composes, what one that was found and one that was not do to it, and what stands in the buffer at the end.
-- Assumes nothing.
use mathlib.Core.Path.{◌≡◌, refl, ap, ◌∙◌}
use mathlib.Core.List.{List, [], ◌∷◌, map}
use Prim.Native.Nat.{ℕ, zero, suc, ◌+◌, ◌-◌, ◌<◌, ◌≤◌}
use native.Mathlib.Decide.{dec_lt}
use native.Mathlib.Omega.{arith}
use borrow.Author.Tests.{lt-ltb, le-ltb, ne_eqb}
use lib.ListN.{length, get_or, take, drop, set, length-set}
use Rattle.machine.specs.Offer.{Offer}
use Rattle.answers.specs.Numbering.{filled}
use Rattle.answers.proofs.Filling.{set_beyond}
use Rattle.fit.specs.Folds.{folded}
use Rattle.fit.proofs.Lines.{fold-append}
use Rattle.offer.specs.Acts.{Acts}
use Rattle.listing.specs.Listing.{offer_number, Listing, holding, written, listing}

-- one offer more
module _ (x : Offer) (at : ℕ) (out : List ℕ) where
  write-here : at < length out → written x (holding 0 at out) ≡ holding 0 (at + 1) (set out at (offer_number x))
  unfolding written
  write-here h = rw (lt-ltb at (length out) h)

  write-pass : (skip : ℕ) → at < length out → written x (holding (suc skip) at out) ≡ holding skip at out
  unfolding written
  write-pass skip h =
      let z : suc skip - 1 ≡ skip = omega arith in
      rw (lt-ltb at (length out) h, ne_eqb (suc skip) 0 (λ q. omega arith), z)

  write-full : (skip : ℕ) → length out ≤ at → written x (holding skip at out) ≡ holding skip at out
  unfolding written
  write-full skip h = rw (le-ltb at (length out) h)

-- `listing` goes on from one offer to the next
pub listing-acts : Acts listing
unfolding listing folded
listing-acts = record { none = λ w. refl; both = λ a b w. fold-append written a.offered b.offered w }

-- where there is no room
pub list_full : (l : List Offer) (skip at : ℕ) (out : List ℕ) → length out ≤ at → folded written l (holding skip at out) ≡ holding skip at out
unfolding folded
list_full [] skip at out h = refl
list_full (x ∷ l) skip at out h = ap (folded written l) (write-full x at out skip h) ∙ list_full l skip at out h

module _ (at : ℕ) (out : List ℕ) (room : at < length out) where
  -- where all are passed by
  pub list-passed : (l : List Offer) (skip : ℕ) → length l ≤ skip → folded written l (holding skip at out) ≡ holding (skip - length l) at out
  unfolding folded
  list-passed [] skip h = let z : skip ≡ skip - 0 = omega arith in ap (λ (n : ℕ). holding n at out) z
  list-passed (x ∷ l) zero h = absurd (omega arith)
  list-passed (x ∷ l) (suc skip) h =
      let z : skip - length l ≡ suc skip - suc (length l) = omega arith in
      ap (folded written l) (write-pass x at out skip room) ∙ (list-passed l skip (omega arith) ∙ ap (λ (n : ℕ). holding n at out) z)

  -- where one is not
  pub list-found : (d : Offer) (l : List Offer) (skip : ℕ) → skip < length l
      → folded written l (holding skip at out) ≡ folded written (drop (suc skip) l) (holding 0 (at + 1) (set out at (offer_number (get_or l skip d))))
  unfolding folded
  list-found d [] skip h = absurd (omega arith)
  list-found d (x ∷ l) zero h = ap (folded written l) (write-here x at out room)
  list-found d (x ∷ l) (suc skip) h = ap (folded written l) (write-pass x at out skip room) ∙ list-found d l skip (omega arith)

-- numbers for which there is no place
filled-beyond : (l : List ℕ) (i : ℕ) (out : List ℕ) → length out ≤ i → out ≡ filled i l out
unfolding filled
filled-beyond [] i out h = refl
filled-beyond (x ∷ l) i out h =
    let z = set_beyond out i x h in
    filled-beyond l (i + 1) out (omega arith) ∙ ap (filled (i + 1) l) z

drop-none : {A : Type 0} (n : ℕ) → drop {A = A} n [] ≡ []
drop-none zero = refl
drop-none (suc n) = refl

take_none : {A : Type 0} (n : ℕ) → take {A = A} n [] ≡ []
take_none zero = refl
take_none (suc n) = refl

-- WHAT STANDS IN THE BUFFER, and how many were written
pub list-out : (l : List Offer) (skip at : ℕ) (out : List ℕ) → at ≤ length out
    → (folded written l (holding skip at out)).out ≡ filled at (map offer_number (drop skip l)) out
unfolding folded filled
list-out [] skip at out h = rw (drop-none {A = Offer} skip)
list-out (x ∷ l) skip at out h =
    elim (dec_lt at (length out)) [
      | yes g ↦
          some skip g (list-out l 0 (at + 1) (set out at (offer_number x)) (omega (arith, length-set out at (offer_number x), g))) (λ k. list-out l k at out h)
      | no g ↦ none (omega (arith, g))
    ]
  where
    none : length out ≤ at → (folded written (x ∷ l) (holding skip at out)).out ≡ filled at (map offer_number (drop skip (x ∷ l))) out
    none g = ap (λ (w : Listing). w.out) (list_full (x ∷ l) skip at out g) ∙ filled-beyond (map offer_number (drop skip (x ∷ l))) at out g

    some : (skip : ℕ) → at < length out
        → (folded written l (holding 0 (at + 1) (set out at (offer_number x)))).out ≡ filled (at + 1) (map offer_number l) (set out at (offer_number x))
        → ((k : ℕ) → (folded written l (holding k at out)).out ≡ filled at (map offer_number (drop k l)) out)
        → (folded written (x ∷ l) (holding skip at out)).out ≡ filled at (map offer_number (drop skip (x ∷ l))) out
    some zero g e f = ap (λ (w : Listing). (folded written l w).out) (write-here x at out g) ∙ e
    some (suc skip) g e f = ap (λ (w : Listing). (folded written l w).out) (write-pass x at out skip g) ∙ f skip

pub list-many : (l : List Offer) (skip at : ℕ) (out : List ℕ) → at ≤ length out
    → (folded written l (holding skip at out)).at ≡ at + length (take (length out - at) (drop skip l))
unfolding folded
list-many [] skip at out h = rw (drop-none {A = Offer} skip, take_none {A = Offer} (length out - at)) (omega arith)
list-many (x ∷ l) skip at out h =
    elim (dec_lt at (length out)) [
      | yes g ↦
          some skip g (list-many l 0 (at + 1) (set out at (offer_number x)) (omega (arith, length-set out at (offer_number x), g))) (λ k. list-many l k at out h)
      | no g ↦ none (omega (arith, g))
    ]
  where
    none : length out ≤ at → (folded written (x ∷ l) (holding skip at out)).at ≡ at + length (take (length out - at) (drop skip (x ∷ l)))
    none g =
        let z : length out - at ≡ 0 = omega arith in
        ap (λ (w : Listing). w.at) (list_full (x ∷ l) skip at out g) ∙ rw z (omega arith)

    some : (skip : ℕ) → at < length out
        → (folded written l (holding 0 (at + 1) (set out at (offer_number x)))).at ≡ at + 1 + length (take (length (set out at (offer_number x)) - (at + 1)) l)
        → ((k : ℕ) → (folded written l (holding k at out)).at ≡ at + length (take (length out - at) (drop k l)))
        → (folded written (x ∷ l) (holding skip at out)).at ≡ at + length (take (length out - at) (drop skip (x ∷ l)))
    some zero g e f =
        let z : length out - at ≡ suc (length out - (at + 1)) = omega (arith, g) in
        let q : (folded written l (holding 0 (at + 1) (set out at (offer_number x)))).at ≡ at + 1 + length (take (length out - (at + 1)) l) =
        e ∙ rw (length-set out at (offer_number x)) in
        ap (λ (w : Listing). (folded written l w).at) (write-here x at out g) ∙ (q ∙ rw z (omega arith))
    some (suc skip) g e f = ap (λ (w : Listing). (folded written l w).at) (write-pass x at out skip g) ∙ f skip

-- The returns of the functions that count a choice down. Assumes nothing.
use mathlib.Core.Path.{◌≡◌, refl, ◌∙◌}
use mathlib.Core.Bool.{true, false}
use Prim.Native.Nat.{ℕ, ◌-◌}
use borrow.Author.Tests.{eq-eqb, ne_eqb}
use Rattle.order.specs.declared.End.{End}
use Rattle.machine.specs.declared.Step.{Step}
use Rattle.machine.specs.Calls.{refusing}
use Rattle.machine.specs.Offer.{offering}
use Rattle.sight.specs.declared.Pointer.{Pointer}
use Rattle.sight.specs.declared.Sight.{Sight}
use Rattle.sight.specs.Sights.{pointed, showing, withholding, unseen, Unseen, chosen_by, answered}

-- `pointed_at`
module _ (i k j : ℕ) (c : Pointer) where
  pub pointed-found : c.found ≡ true → c ≡ pointed (offering i k j) c
  unfolding pointed
  pointed-found e = rw e

  pub pointed-here : c.found ≡ false → c.left ≡ 0
      → ◌≡◌ {A = Pointer} (record { left = 0; found = true; slot = i; activity = k; place = j }) (pointed (offering i k j) c)
  unfolding pointed
  pointed-here e z = rw (e, eq-eqb _ _ z)

  pub pointed-on : c.found ≡ false → (c.left ≡ 0 → ⊥)
      → ◌≡◌ {A = Pointer} (record { left = c.left - 1; found = false; slot = c.slot; activity = c.activity; place = c.place }) (pointed (offering i k j) c)
  unfolding pointed
  pointed-on e z = rw (e, ne_eqb _ _ z)

-- `shown`, `withheld`, `nothing_seen`
pub shown-is : (i k j : ℕ) (s : Sight) {c : Pointer} → c ≡ pointed (offering i k j) s.pointer
    → ◌≡◌ {A = Sight} (record { pointer = c; held = s.held }) (showing i k j s)
unfolding showing
shown-is i k j s e = rw e

pub withheld-is : (s : Sight) → ◌≡◌ {A = Sight} (record { pointer = s.pointer; held = true }) (withholding s)
unfolding withholding
withheld-is s = refl

pub unseen-is : (c : ℕ) → Unseen c (record { pointer = record { left = c; found = false; slot = 0; activity = 0; place = 0 }; held = false })
unfolding unseen
unseen-is c = record { is = refl }

-- `answer`
module _ (n : ℕ) (s : Sight) where
  pub answer-found : s.pointer.found ≡ true
      → ◌≡◌ {A = Step} (record { refusal = 0; slot = s.pointer.slot; activity = s.pointer.activity; place = s.pointer.place; end = End.None; fault = 0 }) (answered n s)
  unfolding answered chosen_by
  answer-found e = rw e

  module _ (e : s.pointer.found ≡ false) where
    pub answer-held : {r : Step} → s.pointer.left ≡ n → s.held ≡ true → r ≡ refusing 11 → r ≡ answered n s
    unfolding answered chosen_by
    answer-held z h y = y ∙ rw (e, eq-eqb _ _ z, h)

    pub answer-nothing : {r : Step} → s.pointer.left ≡ n → s.held ≡ false → r ≡ refusing 10 → r ≡ answered n s
    unfolding answered chosen_by
    answer-nothing z h y = y ∙ rw (e, eq-eqb _ _ z, h)

    pub answer-beyond : {r : Step} → (s.pointer.left ≡ n → ⊥) → r ≡ refusing 12 → r ≡ answered n s
    unfolding answered chosen_by
    answer-beyond z y = y ∙ rw (e, ne_eqb _ _ z)

-- Glue: what offers do to something that is carried along from one to the next: a choice that is counted down, a list that is written. Assumes nothing: these
-- are definitions, and nothing here has to be believed.
use Rattle.std.specs.Prelude.{ℕ, Bool, cond, not, ◌&&◌, ◌||◌, List, ◌≡◌}
use Rattle.plan.specs.Tree.{Plan}
use Rattle.order.specs.declared.Order.{Order}
use Rattle.machine.specs.Fit.{doing_of, Live, Letter}
use Rattle.machine.specs.Offer.{Offers, no_offers, together, is_cut, step_offers, order_offers}
use Rattle.fit.specs.Lines.{Line, is_ready, ready_at}

-- no offer does nothing, and two do what one does after the other
pub record Acts {S : Type 0} (act : Offers → S → S) : Type 0 where
  pub none : (s : S) → act no_offers s ≡ s
  pub both : (a b : Offers) (s : S) → act (together a b) s ≡ act b (act a s)

-- what a line has on offer, where the order has an active raise or leave and where it has none
unfoldable pub line_offers : (cutting : Bool) → (wait slot : ℕ) → Order → Plan → List Letter → Line → Offers
line_offers cutting wait i o p l x =
    cond (is_ready o.marks x && (not cutting || is_cut (ready_at x))) (step_offers p wait l i o x.activity (doing_of x.own x.within x.activity)) no_offers

-- what it does, and what a live order's offers do
unfoldable pub act_line : {S : Type 0} → (Offers → S → S) → (cutting : Bool) → (wait slot : ℕ) → Order → Plan → List Letter → Line → S → S
act_line act cutting wait i o p l x s = act (line_offers cutting wait i o p l x) s

unfoldable pub act_live : {S : Type 0} → (Offers → S → S) → (wait : ℕ) → Plan → List Letter → Live → S → S
act_live act wait p l x s = act (order_offers p wait l x) s

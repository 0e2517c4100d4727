-- What a first word asks for, by what it is found to be: the commands that are a word alone, one after the other. Assumes nothing.
use mathlib.Core.Path.{◌≡◌}
use mathlib.Core.Bool.{cond}
use mathlib.Core.List.{List}
use Prim.Native.Nat.{ℕ}
use Rattle.commands.specs.declared.Alone.{Alone}
use Rattle.commands.specs.declared.Verb.{Verb}
use Rattle.text.specs.Words.{same_text}
use Rattle.commands.specs.Commands.{draw_word, offer_word, collect_word, waiting_word, tally_word, orders_word, offers_word, on_plan_of, alone_of}

module _ (w : List ℕ) (o : Verb) where
  pub alone-words : {q r1 r2 r3 r4 r5 r6 r7 : Verb}
      → q ≡ on_plan_of w o
      → r1 ≡ cond (same_text w offers_word) (Verb.Alone Alone.Offers) q
      → r2 ≡ cond (same_text w orders_word) (Verb.Alone Alone.Orders) r1
      → r3 ≡ cond (same_text w tally_word) (Verb.Alone Alone.Tally) r2
      → r4 ≡ cond (same_text w waiting_word) (Verb.Alone Alone.Waiting) r3
      → r5 ≡ cond (same_text w collect_word) (Verb.Alone Alone.Collect) r4
      → r6 ≡ cond (same_text w offer_word) (Verb.Alone Alone.Offer) r5
      → r7 ≡ cond (same_text w draw_word) (Verb.Alone Alone.Draw) r6
      → r7 ≡ alone_of w o
  unfolding alone_of
  alone-words d e1 e2 e3 e4 e5 e6 e7 = rw (e7, e6, e5, e4, e3, e2, e1, d)

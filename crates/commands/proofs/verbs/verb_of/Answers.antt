-- `commands::verbs::verb_of` meets its contract: in the arm of a word, what is read is that word. Assumes nothing.
use Rattle.std.proofs.Common.{◌≡◌, ℕ, ◌∙◌, List, length, refl, sym, ap, rules, arith}
use Rattle.std.proofs.lemmas.Slice.Eq.{HasBytesAt, text_from_reads}
use Rattle.commands.specs.declared.Verb.{Verb}
use Rattle.commands.specs.Commands.{offer_word, collect_word, waiting_word, tally_word, orders_word, order_word, offers_word, names_word, check_word, write_word, on_plan_of, alone_of, worded_of, numbered_of, listed_of, verb_of}
use Rattle.commands.proofs.verbs.verb_of.Goals as goal

read : (w p : List ℕ) (v : Verb) → verb_of p ≡ v → length w ≡ length p → HasBytesAt w 0 p → v ≡ verb_of w
read w p v e l h = sym (ap verb_of (text_from_reads w p l h) ∙ e)

pub returns-in-offer : goal.returns-in-offer
unfolding verb_of alone_of on_plan_of worded_of numbered_of listed_of
returns-in-offer c = read c.args.w.now offer_word _ refl (omega arith) (search rules)

pub returns-in-order : goal.returns-in-order
unfolding verb_of alone_of on_plan_of worded_of numbered_of listed_of
returns-in-order c = read c.args.w.now order_word _ refl (omega arith) (search rules)

pub returns-in-tally : goal.returns-in-tally
unfolding verb_of alone_of on_plan_of worded_of numbered_of listed_of
returns-in-tally c = read c.args.w.now tally_word _ refl (omega arith) (search rules)

pub returns-in-names : goal.returns-in-names
unfolding verb_of alone_of on_plan_of worded_of numbered_of listed_of
returns-in-names c = read c.args.w.now names_word _ refl (omega arith) (search rules)

pub returns-in-check : goal.returns-in-check
unfolding verb_of alone_of on_plan_of worded_of numbered_of listed_of
returns-in-check c = read c.args.w.now check_word _ refl (omega arith) (search rules)

pub returns-in-write : goal.returns-in-write
unfolding verb_of alone_of on_plan_of worded_of numbered_of listed_of
returns-in-write c = read c.args.w.now write_word _ refl (omega arith) (search rules)

pub returns-in-orders : goal.returns-in-orders
unfolding verb_of alone_of on_plan_of worded_of numbered_of listed_of
returns-in-orders c = read c.args.w.now orders_word _ refl (omega arith) (search rules)

pub returns-in-offers : goal.returns-in-offers
unfolding verb_of alone_of on_plan_of worded_of numbered_of listed_of
returns-in-offers c = read c.args.w.now offers_word _ refl (omega arith) (search rules)

pub returns-in-collect : goal.returns-in-collect
unfolding verb_of alone_of on_plan_of worded_of numbered_of listed_of
returns-in-collect c = read c.args.w.now collect_word _ refl (omega arith) (search rules)

pub returns-in-waiting : goal.returns-in-waiting
unfolding verb_of alone_of on_plan_of worded_of numbered_of listed_of
returns-in-waiting c = read c.args.w.now waiting_word _ refl (omega arith) (search rules)

use native.Mathlib.Omega.{arith}
use borrow.Author.Rules.{rules}
use mathlib.Core.Path.{refl}
use Rattle.cards.proofs.EndLaws.{counting_none, ready_at, counting_more, full_is, full_cards, end_is, end_cards}
use Rattle.cards.proofs.confirm.Goals as goal

pub loop-k-init : goal.loop-k-init
loop-k-init c = (refl, refl, search rules, counting_none _ _ _ _ _ c.requires _ _ refl refl refl)

pub confirm_one-t-requires : goal.confirm_one-t-requires
confirm_one-t-requires c = ready_at _ _ _ _ _ c.requires _ _ _ _ _ c.loop-k.invariant.3 c.loop-k-test.true

pub returns-then-cards-t : goal.returns-then-cards-t
returns-then-cards-t c =
    let G = counting_more _ _ _ _ _ c.requires _ _ _ _ _ c.loop-k.invariant.3 c.loop-k-test.true _ _ _ c.confirm_one-t.ensures.value c.confirm_one-t.ensures.cards_after c.confirm_one-t.ensures.rows_after c.confirm_one-t.ensures.grown (search rules) in
    let l = c.if-cards-t.true in
    record {
      value = λ es S A. full_is _ _ _ _ _ _ _ _ _ _ G (omega arith) l es S A;
      cards_after = λ es S A r. full_cards _ _ _ _ _ _ _ _ _ _ G (omega arith) l es S A r;
      kept = G.chained.kept;
      cards_len_unchanged = G.wide;
    }

pub loop-k-preserved : goal.loop-k-preserved
loop-k-preserved c = (search rules, search rules, search rules, counting_more _ _ _ _ _ c.requires _ _ _ _ _ c.loop-k.invariant.3 c.loop-k-test.true _ _ _ c.confirm_one-t.ensures.value c.confirm_one-t.ensures.cards_after c.confirm_one-t.ensures.rows_after c.confirm_one-t.ensures.grown (search rules))

pub returns : goal.returns
returns c =
    let I = c.loop-k.invariant in
    record {
      value = λ es S A. end_is _ _ _ _ _ _ _ _ _ _ I.3 c.loop-k.auto.k-end c.loop-k-test.false es S A I.2;
      cards_after = λ es S A r. end_cards _ _ _ _ _ _ _ _ _ _ I.3 c.loop-k.auto.k-end c.loop-k-test.false es S A;
      kept = I.3.chained.kept;
      cards_len_unchanged = I.3.wide;
    }

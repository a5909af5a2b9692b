use mathlib.Core.Path.{◌∙◌}
use borrow.Author.Rules.{rules}
use Rattle.std.proofs.lemmas.Result.{err_from_is_err_and}
use Rattle.reader.proofs.GoingLaws.{going_start, going_on, going_held, going_fits, going_less, over_answer, over_shown, refused_answer, refused_shown}
use Rattle.reader.proofs.read_tags.Goals as goal

pub loop-reading-init : goal.loop-reading-init
loop-reading-init c = search (rules, going_start)

pub returns-in_err-reading-clause-value : goal.returns-in_err-reading-clause-value
returns-in_err-reading-clause-value c =
    let l = c.loop-reading in
    let p = err_from_is_err_and c.from_residual.result c.from_residual.ensures.1 in
    rw (p.1, p.2) (refused_answer _ _ _ _ _ l.invariant.3 l.auto.table _ _ _ c.next_turn.ensures _ c.in_err-reading.was)

pub returns-in_err-reading-clause-shown : goal.returns-in_err-reading-clause-shown
returns-in_err-reading-clause-shown c =
    let l = c.loop-reading in
    refused_shown _ _ _ _ _ l.invariant.3 l.auto.table _ _ _ c.next_turn.ensures _ c.in_err-reading.was

pub returns-in-Over-clause-value : goal.returns-in-Over-clause-value
returns-in-Over-clause-value c = let l = c.loop-reading in
    over_answer _ _ _ _ _ l.invariant.3 l.auto.table _ _ _ c.next_turn.ensures _ c.in_ok-reading.was _ c.in-Over.is

pub returns-in-Over-clause-shown : goal.returns-in-Over-clause-shown
returns-in-Over-clause-shown c = let l = c.loop-reading in
    over_shown _ _ _ _ _ l.invariant.3 l.auto.table _ _ _ c.next_turn.ensures _ c.in_ok-reading.was _ c.in-Over.is

pub loop-reading-smaller : goal.loop-reading-smaller
loop-reading-smaller c = let l = c.loop-reading in
    going_less _ _ _ _ _ l.invariant.3 l.auto.table _ _ _ c.next_turn.ensures _ c.in_ok-reading.was _ c.in-On.is

pub loop-reading-preserved : goal.loop-reading-preserved
loop-reading-preserved c = let l = c.loop-reading in (
  c.next_turn.auto.hand ∙ l.invariant.0,
  going_held _ _ _ _ _ l.invariant.3 l.auto.table _ _ _ c.next_turn.ensures _ c.in_ok-reading.was _ c.in-On.is,
  going_fits _ _ _ _ _ l.invariant.3 l.auto.table _ _ _ c.next_turn.ensures _ c.in_ok-reading.was _ c.in-On.is,
  going_on _ _ _ _ _ l.invariant.3 l.auto.table _ _ _ c.next_turn.ensures _ c.in_ok-reading.was _ c.in-On.is,
)

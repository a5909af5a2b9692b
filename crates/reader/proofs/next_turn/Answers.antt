use Rattle.std.specs.Prelude.{◌≡◌, Some, None}
use Rattle.refusals.specs.declared.Refusal.TheVariants.{ManyNames}
use native.Mathlib.Omega.{arith}
use Rattle.std.proofs.lemmas.Result.{err_from_is_err_and}
use Rattle.reader.proofs.TurnLaws.{name_fits, name_length_fits, value_fits, value_length_fits, end_fits, turn_read, turn_unread, turn_eoh, turn_eor, turn_eor_refused, turn_field, turn_many, turn_refused}
use Rattle.reader.proofs.next_turn.Goals as goal

pub returns-in_err-tag : goal.returns-in_err-tag
returns-in_err-tag c =
    let p = err_from_is_err_and c.from_residual.result c.from_residual.ensures.1 in
    rw (p.1, p.2) (turn_refused _ _ _ _ _ _ _ c.in_err-tag.ensures)

pub returns-in_err-reading-in-End : goal.returns-in_err-reading-in-End
returns-in_err-reading-in-End c =
    let p = err_from_is_err_and c.from_residual-in_err-reading-in-End.result c.from_residual-in_err-reading-in-End.ensures.1 in
    rw (p.1, p.2) (turn_unread _ _ _ _ _ _ _ c.in_ok-tag.ensures c.in-End.is _ _ c.in_err-reading-in-End.ensures)

pub returns-in_err-closed-in-Eor : goal.returns-in_err-closed-in-Eor
returns-in_err-closed-in-Eor c =
    let p = err_from_is_err_and c.from_residual-in_err-closed-in-Eor.result c.from_residual-in_err-closed-in-Eor.ensures.1 in
    rw (p.1, p.2) (turn_eor_refused _ _ _ _ _ _ _ c.in_ok-tag.ensures _ _ c.in-Eor.is _ _ c.in_err-closed-in-Eor.ensures)

pub overflow_cast-row : goal.overflow_cast-row
overflow_cast-row c = name_fits _ _ _ c.in_ok-tag.ensures c.requires.0 _ _ _ _ _ c.in-Field.is

pub overflow_cast-row-in-Field : goal.overflow_cast-row-in-Field
overflow_cast-row-in-Field c = name_length_fits _ _ _ c.in_ok-tag.ensures c.requires.0 _ _ _ _ _ c.in-Field.is

pub overflow_cast-row-in-Field-2 : goal.overflow_cast-row-in-Field-2
overflow_cast-row-in-Field-2 c = value_fits _ _ _ c.in_ok-tag.ensures c.requires.0 _ _ _ _ _ c.in-Field.is

pub overflow_cast-row-in-Field-3 : goal.overflow_cast-row-in-Field-3
overflow_cast-row-in-Field-3 c = value_length_fits _ _ _ c.in_ok-tag.ensures c.requires.0 _ _ _ _ _ c.in-Field.is

pub returns-in_err-held-in-Field : goal.returns-in_err-held-in-Field
returns-in_err-held-in-Field c =
    let p = err_from_is_err_and c.from_residual-in_err-held-in-Field.result c.from_residual-in_err-held-in-Field.ensures.1 in
    let q : c.with_field.result ≡ None = grind arith in
    let w : c.in_err-held-in-Field.field-0.0 ≡ ManyNames c.in-Field.lt = grind arith in
    rw (p.1, p.2, w) (turn_many _ _ _ _ _ _ _ c.in_ok-tag.ensures _ _ _ _ _ c.in-Field.is _ c.with_field.ensures _ c.with_field.auto.rows c.requires.1 q)

pub overflow_add-result : goal.overflow_add-result
overflow_add-result c = end_fits _ _ _ c.in_ok-tag.ensures c.requires.0 _ _ _ _ _ c.in-Field.is

pub returns-in_ok-reading-in-End : goal.returns-in_ok-reading-in-End
returns-in_ok-reading-in-End c = turn_read _ _ _ _ _ _ _ c.in_ok-tag.ensures c.in-End.is _ _ c.in_ok-reading-in-End.ensures

pub returns-in-Eoh : goal.returns-in-Eoh
returns-in-Eoh c = turn_eoh _ _ _ _ _ _ _ c.in_ok-tag.ensures _ c.in-Eoh.is

pub returns-in_ok-closed-in-Eor : goal.returns-in_ok-closed-in-Eor
returns-in_ok-closed-in-Eor c = turn_eor _ _ _ _ _ _ _ c.in_ok-tag.ensures _ _ c.in-Eor.is _ _ c.in_ok-closed-in-Eor.ensures

pub returns-in_ok-held-in-Field : goal.returns-in_ok-held-in-Field
returns-in_ok-held-in-Field c =
    let p : c.with_field.result ≡ Some c.in_ok-held-in-Field.held = grind arith in
    turn_field _ _ _ _ _ _ _ c.in_ok-tag.ensures _ _ _ _ _ c.in-Field.is _ c.with_field.ensures _ c.with_field.auto.rows c.requires.1 _ p

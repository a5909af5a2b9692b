use Rattle.std.proofs.lemmas.Result.{err_from_is_err_and}
use Rattle.reader.proofs.ReadLaws.{refused_answer, refused_shown, short, read_answer_lem, read_shown}
use Rattle.reader.proofs.read_text.Goals as goal

pub returns-in_err-check_text-clause-value : goal.returns-in_err-check_text-clause-value
returns-in_err-check_text-clause-value c =
    let p = err_from_is_err_and c.from_residual.result c.from_residual.ensures.1 in
    rw (p.1, p.2) (refused_answer _ _ _ c.in_err-check_text.ensures)

pub returns-in_err-check_text-clause-shown : goal.returns-in_err-check_text-clause-shown
returns-in_err-check_text-clause-shown c = refused_shown _ _ _ c.in_err-check_text.ensures

pub read_tags-requires : goal.read_tags-requires
read_tags-requires c = short c.args.text.now c.args.table.now c.in_ok-check_text.ensures

pub returns-clause-value : goal.returns-clause-value
returns-clause-value c = read_answer_lem _ _ c.in_ok-check_text.ensures _ c.read_tags.ensures.value

pub returns-clause-shown : goal.returns-clause-shown
returns-clause-shown c = read_shown _ _ c.in_ok-check_text.ensures _ c.read_tags.ensures.shown

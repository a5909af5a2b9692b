use Rattle.qsowriter.proofs.AnswerLaws.{long_text, too_high, no_qso, many_rows, rows_decide}
use Rattle.qsowriter.proofs.verdict_of.Goals as goal

pub returns-then-text-gt-LONGEST : goal.returns-then-text-gt-LONGEST
returns-then-text-gt-LONGEST c = search long_text

pub returns-then-any : goal.returns-then-any
returns-then-any c = search too_high

pub returns-then-not-is_qso : goal.returns-then-not-is_qso
returns-then-not-is_qso c = search no_qso

pub returns-then-table-count : goal.returns-then-table-count
returns-then-table-count c = search many_rows

pub returns : goal.returns
returns c = search rows_decide

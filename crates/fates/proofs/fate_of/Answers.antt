use Rattle.fates.proofs.StepLaws.{is_unusable, is_confirmed, is_unmatched, is_ignored, is_in_log, is_in_file, is_importable}
use Rattle.fates.proofs.fate_of.Goals as goal

pub returns-then-reason-gt0 : goal.returns-then-reason-gt0
returns-then-reason-gt0 c = search is_unusable

pub returns-then-matched : goal.returns-then-matched
returns-then-matched c = search is_confirmed

pub returns-then-bears : goal.returns-then-bears
returns-then-bears c = search is_unmatched

pub returns-then-download : goal.returns-then-download
returns-then-download c = search is_ignored

pub returns-then-matched-2 : goal.returns-then-matched-2
returns-then-matched-2 c = search is_in_log

pub returns-then-repeated : goal.returns-then-repeated
returns-then-repeated c = search is_in_file

pub returns : goal.returns
returns c = search is_importable

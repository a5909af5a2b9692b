use Rattle.text.proofs.SpaceLaws.{plain_ahead, one_ahead, ahead_back, ahead_front, ahead_fits}
use Rattle.text.proofs.space.space_from.Goals as goal

pub returns-then-is_plain-clause-value : goal.returns-then-is_plain-clause-value
returns-then-is_plain-clause-value c = search plain_ahead

pub returns-then-one-clause-value : goal.returns-then-one-clause-value
returns-then-one-clause-value c = search one_ahead

pub returns-then-one-clause-result_in_bounds : goal.returns-then-one-clause-result_in_bounds
returns-then-one-clause-result_in_bounds c = ahead_fits c.args.back _ _ _ c.requires (search one_ahead)

pub returns-then-back-clause-value : goal.returns-then-back-clause-value
returns-then-back-clause-value c = search ahead_back

pub returns-then-back-clause-result_in_bounds : goal.returns-then-back-clause-result_in_bounds
returns-then-back-clause-result_in_bounds c = ahead_fits c.args.back _ _ _ c.requires (search ahead_back)

pub returns-else-back-clause-value : goal.returns-else-back-clause-value
returns-else-back-clause-value c = search ahead_front

pub returns-else-back-clause-result_in_bounds : goal.returns-else-back-clause-result_in_bounds
returns-else-back-clause-result_in_bounds c = ahead_fits c.args.back _ _ _ c.requires (search ahead_front)

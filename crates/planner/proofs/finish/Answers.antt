use mir.Syntax.{w64}
use mir.ValLaws.{to_z-of_z}
use Rattle.std.proofs.lemmas.Result.{err_from_is_err_and}
use Rattle.planner.proofs.FinishLaws.{finish_unread, ready_searched, ready_blank, finish_full, finish_made}
use Rattle.planner.proofs.finish.Goals as goal

pub close-requires : goal.close-requires
close-requires c = (rw (to_z-of_z w64 _ c.ranges.window) (ready_searched _ _ _ c.args.download c.args.listed _ _ _ _ _ c.in_ok-records.was c.requires), ready_blank _ _ _ c.args.download c.args.listed _ _ _ _ _ c.in_ok-records.was c.requires)

pub returns-in_err-records : goal.returns-in_err-records
returns-in_err-records c = let p = err_from_is_err_and c.from_residual.result c.from_residual.ensures.1 in rw (p.1, p.2) (finish_unread _ _ _ _ _ _ _ _ _ _ c.in_err-records.was)

pub returns-in_default : goal.returns-in_default
returns-in_default c = finish_full _ _ _ _ _ _ _ _ _ _ c.in_ok-records.was _ _ _ _ (rw (to_z-of_z w64 _ c.ranges.window) at c.close.ensures) c.in_default.is

pub returns : goal.returns
returns c = finish_made _ _ _ _ _ _ _ _ _ _ c.in_ok-records.was _ _ _ _ (rw (to_z-of_z w64 _ c.ranges.window) at c.close.ensures) _ c.in-Some.is _ _ c.count_in.ensures c.largest_in.ensures

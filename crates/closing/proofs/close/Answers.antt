use mir.Syntax.{w64}
use mir.ValLaws.{to_z-of_z}
use Rattle.closing.proofs.CloseLaws.{close_full, close_counted}
use Rattle.closing.proofs.close.Goals as goal

pub returns-in-Some : goal.returns-in-Some
returns-in-Some c = let Q = c.requires in close_counted _ _ _ _ _ Q.0.said.room Q.0.behind Q.1 _ _ _ (rw (to_z-of_z w64 _ c.ranges.window) at c.settle_all-carded.ensures) _ c.in-Some.is _ c.keep_fates.ensures

pub returns-in-None : goal.returns-in-None
returns-in-None c = let Q = c.requires in close_full _ _ _ _ _ Q.0.said.room Q.0.behind Q.1 _ _ _ (rw (to_z-of_z w64 _ c.ranges.window) at c.settle_all-carded.ensures) c.in-None.is _ _ _ c.clear.ensures c.clear_fates.ensures c.clear_cards.ensures

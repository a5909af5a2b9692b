use mir.Syntax.{w64}
use mir.ValLaws.{to_z-of_z}
use Rattle.closing.proofs.PhaseLaws.{few_enough, now_settled, recorded_all}
use Rattle.closing.proofs.settle_all.Goals as goal

pub settle-requires : goal.settle-requires
settle-requires c = let Q = c.requires in (Q.bare, few_enough _ _ _ _ c.args.download _ _ Q, (_, Q.said))

pub confirm-requires : goal.confirm-requires
confirm-requires c = now_settled _ _ _ _ c.args.download _ _ c.requires _ (λ es hits s f. rw (to_z-of_z w64 _ c.ranges.window) at (c.settle.ensures.fated es hits s f)) c.settle.ensures.kept

pub returns : goal.returns
returns c = recorded_all _ _ _ _ _ _ _ c.requires _ (λ es hits s f. rw (to_z-of_z w64 _ c.ranges.window) at (c.settle.ensures.fated es hits s f)) c.settle.ensures.kept _ _ _ _ c.confirm.ensures.value c.confirm.ensures.cards_after c.confirm.ensures.kept c.confirm.ensures.cards_len_unchanged

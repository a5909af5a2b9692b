use mathlib.Core.Path.{refl}
use Rattle.search.proofs.FindLaws.{match_other, match_far, match_key}
use Rattle.search.proofs.is_match.Goals as goal

pub returns-then-c-code : goal.returns-then-c-code
returns-then-c-code c = match_other _ _ _ _ _ _ _ refl c.if-c-code.true

pub returns-then-not-is_near : goal.returns-then-not-is_near
returns-then-not-is_near c = search match_far

pub returns : goal.returns
returns c = search match_key

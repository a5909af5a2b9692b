use Rattle.fates.proofs.StepLaws.{bucket_in, step_linked, step_passed}
use borrow.Author.Rules.{rules}
use Rattle.fates.proofs.settle_one.Goals as goal

pub push-requires : goal.push-requires
push-requires c = (search bucket_in, search rules, search rules)

pub returns-then-fate-eq-IMPORTABLE : goal.returns-then-fate-eq-IMPORTABLE
returns-then-fate-eq-IMPORTABLE c = search step_linked

pub returns-else-fate-eq-IMPORTABLE : goal.returns-else-fate-eq-IMPORTABLE
returns-else-fate-eq-IMPORTABLE c = search step_passed

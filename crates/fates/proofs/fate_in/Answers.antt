use Rattle.fates.proofs.StepLaws.{fate_already, fate_repeated, fate_new}
use Rattle.fates.proofs.fate_in.Goals as goal

pub returns-then-fate-ne-IMPORTABLE : goal.returns-then-fate-ne-IMPORTABLE
returns-then-fate-ne-IMPORTABLE c = search fate_already

pub returns-then-is_repeated : goal.returns-then-is_repeated
returns-then-is_repeated c = search fate_repeated

pub returns : goal.returns
returns c = search fate_new

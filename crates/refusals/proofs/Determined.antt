-- Each public call's promise is met by one answer. Assumes nothing.
use mathlib.Core.Path.{sym, ◌∙◌}
use Rattle.text.proofs.Once.{Once}
use Rattle.refusals.proofs.number.Reads as number
use Rattle.refusals.proofs.number.Kinds as number-kinds
use Rattle.refusals.proofs.place.Reads as place
use Rattle.refusals.proofs.place.Kinds as place-kinds
use Rattle.refusals.proofs.name.Reads as name
use Rattle.refusals.proofs.name.Kinds as name-kinds
use Rattle.refusals.proofs.name_length.Reads as name-length
use Rattle.refusals.proofs.name_length.Kinds as name-length-kinds
use Rattle.refusals.proofs.wanted.Reads as wanted
use Rattle.refusals.proofs.wanted.Kinds as wanted-kinds
use Rattle.refusals.proofs.left.Reads as left
use Rattle.refusals.proofs.left.Kinds as left-kinds
use Rattle.refusals.proofs.check_text.Reads as check-text
use Rattle.refusals.proofs.check_text.Kinds as check-text-kinds
use Rattle.refusals.proofs.check_texts.Reads as check-texts
use Rattle.refusals.proofs.check_texts.Kinds as check-texts-kinds
use Rattle.refusals.proofs.fit.Reads as fit
use Rattle.refusals.proofs.fit.Kinds as fit-kinds

number_once : Once 0 number-kinds.ps number-kinds.r number.Post
number_once κs a x y d e p q = p ∙ sym q

place_once : Once 0 place-kinds.ps place-kinds.r place.Post
place_once κs a x y d e p q = p ∙ sym q

name_once : Once 0 name-kinds.ps name-kinds.r name.Post
name_once κs a x y d e p q = p ∙ sym q

name_length_once : Once 0 name-length-kinds.ps name-length-kinds.r name-length.Post
name_length_once κs a x y d e p q = p ∙ sym q

wanted_once : Once 0 wanted-kinds.ps wanted-kinds.r wanted.Post
wanted_once κs a x y d e p q = p ∙ sym q

left_once : Once 0 left-kinds.ps left-kinds.r left.Post
left_once κs a x y d e p q = p ∙ sym q

check_text_once : Once 1 check-text-kinds.ps check-text-kinds.r check-text.Post
check_text_once κs a x y d e p q = p ∙ sym q

check_texts_once : Once 2 check-texts-kinds.ps check-texts-kinds.r check-texts.Post
check_texts_once κs a x y d e p q = p ∙ sym q

fit_once : Once 0 fit-kinds.ps fit-kinds.r fit.Post
fit_once κs a x y d e p q = p ∙ sym q

-- Each public call's promise is met by one state of its table. Assumes nothing.
use mathlib.Core.Path.{refl, sym, ◌∙◌}
use Rattle.text.proofs.Once.{OnceWith}
use Rattle.wiped.proofs.clear_fates.Reads as clear-fates
use Rattle.wiped.proofs.clear_fates.Kinds as clear-fates-kinds
use Rattle.wiped.proofs.clear_cards.Reads as clear-cards
use Rattle.wiped.proofs.clear_cards.Kinds as clear-cards-kinds
use Rattle.wiped.proofs.keep_fates.Reads as keep-fates
use Rattle.wiped.proofs.keep_fates.Kinds as keep-fates-kinds

clear_fates_once : OnceWith 1 clear-fates-kinds.ps clear-fates-kinds.r (λ κs d. d.0.now) clear-fates.Post
clear_fates_once κs a x y d e p q = (refl, p ∙ sym q)

clear_cards_once : OnceWith 1 clear-cards-kinds.ps clear-cards-kinds.r (λ κs d. d.0.now) clear-cards.Post
clear_cards_once κs a x y d e p q = (refl, p ∙ sym q)

keep_fates_once : OnceWith 1 keep-fates-kinds.ps keep-fates-kinds.r (λ κs d. d.0.now) keep-fates.Post
keep_fates_once κs a x y d e p q = (refl, p ∙ sym q)

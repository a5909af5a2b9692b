-- Each public call's promise is met by one answer. Assumes nothing.
use mathlib.Core.Path.{sym, ◌∙◌}
use Rattle.text.proofs.Once.{Once}
use Rattle.letters.proofs.raise.Reads as raise
use Rattle.letters.proofs.raise.Kinds as raise-kinds
use Rattle.letters.proofs.same.Reads as same
use Rattle.letters.proofs.same.Kinds as same-kinds
use Rattle.letters.proofs.same_raised.Reads as same-raised
use Rattle.letters.proofs.same_raised.Kinds as same-raised-kinds
use Rattle.letters.proofs.order_raised.Reads as order-raised
use Rattle.letters.proofs.order_raised.Kinds as order-raised-kinds

raise_once : Once 0 raise-kinds.ps raise-kinds.r raise.Post
raise_once κs a x y d e p q = p ∙ sym q

same_once : Once 2 same-kinds.ps same-kinds.r same.Post
same_once κs a x y d e p q = p ∙ sym q

same_raised_once : Once 2 same-raised-kinds.ps same-raised-kinds.r same-raised.Post
same_raised_once κs a x y d e p q = p ∙ sym q

order_raised_once : Once 2 order-raised-kinds.ps order-raised-kinds.r order-raised.Post
order_raised_once κs a x y d e p q = p ∙ sym q

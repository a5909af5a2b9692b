-- Each public call's promise is met by one answer and one table. Assumes nothing.
use mathlib.Core.Path.{sym, refl, ◌∙◌}
use Rattle.text.proofs.Once.{OnceWith}
use Rattle.reader.proofs.clear.Reads as clear
use Rattle.reader.proofs.clear.Kinds as clear-kinds
use Rattle.reader.proofs.read.Reads as read
use Rattle.reader.proofs.read.Kinds as read-kinds

read_once : OnceWith 2 read-kinds.ps read-kinds.r (λ κs d. d.1.0.now) read.Post
read_once κs a x y d e p q = (p.0 ∙ sym q.0, p.1 ∙ sym q.1)

clear_once : OnceWith 1 clear-kinds.ps clear-kinds.r (λ κs d. d.0.now) clear.Post
clear_once κs a x y d e p q = (refl, p ∙ sym q)

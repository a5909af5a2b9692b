-- Each public call's promise is met by one answer. Assumes nothing.
use mathlib.Core.Path.{◌≡◌, sym, ◌∙◌}
use contract.Lifetimes.{Lfts}
use denote.Triple.Clauses.{AtExit}
use borrow.Fn.Kinds.{Dens, res_t, ended_of}
use Rattle.text.proofs.Once.{Once}
use Rattle.infile.proofs.moment_in.Reads as moment_in_lem
use Rattle.infile.proofs.moment_in.Kinds as moment-in-kinds
use Rattle.infile.proofs.is_repeated.Reads as is-repeated
use Rattle.infile.proofs.is_repeated.Kinds as is-repeated-kinds
use Rattle.infile.proofs.push.Reads as push
use Rattle.infile.proofs.push.Kinds as push-kinds

moment_in_once : Once 0 moment-in-kinds.ps moment-in-kinds.r moment_in_lem.Post
moment_in_once κs a x y d e p q = p ∙ sym q

is_repeated_once : Once 2 is-repeated-kinds.ps is-repeated-kinds.r is-repeated.Post
is_repeated_once κs a x y d e p q = p ∙ sym q

-- the rows
push_once : (κs : Lfts 1) (a : Dens κs push-kinds.ps) (x y : (res_t push-kinds.r κs).Denot) (d e : AtExit (ended_of 1 push-kinds.ps push-kinds.r) κs)
    → push.Post κs a x d → push.Post κs a y e → d.0.now ≡ e.0.now
push_once κs a x y d e p q = p ∙ sym q

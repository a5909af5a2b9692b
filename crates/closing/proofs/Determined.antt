-- The public call's promise is met by one answer, and one state of each lent table. Assumes nothing.
use Rattle.std.specs.Prelude.{Option}
use Rattle.cards.specs.declared.Counted.{Counted}
use mathlib.Core.Path.{◌≡◌, sym, ap, ◌∙◌}
use mathlib.Core.List.{List}
use Prim.Native.Nat.{ℕ}
use Rattle.text.proofs.Once.{OnceWith}
use Rattle.plan.specs.Plan.{Plan}
use Rattle.closing.specs.Closed.{closed_table, closed_fates, closed_cards, Closed}
use Rattle.closing.proofs.close.Reads as close
use Rattle.closing.proofs.close.Kinds as close-kinds

module _ (p : Plan) (was : List ℕ) (lent room : ℕ) (x y : Option Counted) (t u : List ℕ) (f g c d : List (List ℕ)) (a : Closed p was lent room x t f c) (b : Closed p was lent room y u g d) where
  one_answer : x ≡ y
  one_answer = a.answer ∙ sym b.answer

  one_table : t ≡ u
  one_table = a.tabled ∙ ap (closed_table was) one_answer ∙ sym b.tabled

  one_fates : f ≡ g
  one_fates = a.fated ∙ ap (closed_fates p lent) one_answer ∙ sym b.fated

  one_cards : c ≡ d
  one_cards = a.carded ∙ ap (closed_cards p room) one_answer ∙ sym b.carded

close_table_once : OnceWith 5 close-kinds.ps close-kinds.r (λ κs d. d.1.1.1.1.0.now) close.Post
close_table_once κs a x y d e p q = (one_answer _ _ _ _ _ _ _ _ _ _ _ _ p q, one_table _ _ _ _ _ _ _ _ _ _ _ _ p q)

close_fates_once : OnceWith 5 close-kinds.ps close-kinds.r (λ κs d. d.1.1.1.1.1.0.now) close.Post
close_fates_once κs a x y d e p q = (one_answer _ _ _ _ _ _ _ _ _ _ _ _ p q, one_fates _ _ _ _ _ _ _ _ _ _ _ _ p q)

close_cards_once : OnceWith 5 close-kinds.ps close-kinds.r (λ κs d. d.1.1.1.1.1.1.1.0.now) close.Post
close_cards_once κs a x y d e p q = (one_answer _ _ _ _ _ _ _ _ _ _ _ _ p q, one_cards _ _ _ _ _ _ _ _ _ _ _ _ p q)

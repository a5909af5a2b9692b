-- Each public call's promise is met by one answer, and one state of each lent table. Assumes nothing.
use Rattle.std.specs.Prelude.{Result}
use Rattle.refusals.specs.declared.Refusal.{Refusal}
use Rattle.reader.specs.declared.Reading.{Reading}
use Rattle.contacts.specs.declared.Mark.{Mark}
use mathlib.Core.Path.{◌≡◌, sym, ap, ◌∙◌}
use mathlib.Core.List.{List}
use Prim.Native.Nat.{ℕ}
use Rattle.text.proofs.Once.{Once, OnceWith}
use Rattle.opening.specs.Opened.{opened_table, opened_fates, Opened}
use Rattle.opening.proofs.count_in.Reads as count-in
use Rattle.opening.proofs.count_in.Kinds as count-in-kinds
use Rattle.opening.proofs.begin.Reads as begin
use Rattle.opening.proofs.begin.Kinds as begin-kinds

count_in_once : Once 0 count-in-kinds.ps count-in-kinds.r count-in.Post
count_in_once κs a x y d e p q = p ∙ sym q

module _ (text : List ℕ) (listed : Result Mark Refusal) (numbers lent room : ℕ) (x y : Result Reading Refusal) (t u : List ℕ) (f g c d : List (List ℕ)) (p : Opened text listed numbers lent room x t f c) (q : Opened text listed numbers lent room y u g d) where
  one_answer : x ≡ y
  one_answer = p.answer ∙ sym q.answer

  one_table : t ≡ u
  one_table = p.tabled ∙ ap (λ (r : Result Reading Refusal). opened_table text numbers r) one_answer ∙ sym q.tabled

  one_fates : f ≡ g
  one_fates = p.fated ∙ ap (λ (r : Result Reading Refusal). opened_fates text numbers lent r) one_answer ∙ sym q.fated

begin_table_once : OnceWith 4 begin-kinds.ps begin-kinds.r (λ κs d. d.1.1.0.now) begin.Post
begin_table_once κs a x y d e p q = (one_answer _ _ _ _ _ _ _ _ _ _ _ _ _ p q, one_table _ _ _ _ _ _ _ _ _ _ _ _ _ p q)

begin_fates_once : OnceWith 4 begin-kinds.ps begin-kinds.r (λ κs d. d.1.1.1.0.now) begin.Post
begin_fates_once κs a x y d e p q = (one_answer _ _ _ _ _ _ _ _ _ _ _ _ _ p q, one_fates _ _ _ _ _ _ _ _ _ _ _ _ _ p q)

begin_cards_once : OnceWith 4 begin-kinds.ps begin-kinds.r (λ κs d. d.1.1.1.1.0.now) begin.Post
begin_cards_once κs a x y d e p q = (one_answer _ _ _ _ _ _ _ _ _ _ _ _ _ p q, p.carded ∙ sym q.carded)

-- The public call's promise is met by one answer, one table of confirmations where they are counted, and rows that agree in all that they
-- keep. Assumes nothing.
use Rattle.std.specs.Prelude.{Some, None}
use mathlib.Core.Path.{◌≡◌, sym, ◌∙◌}
use mathlib.Core.List.{List, []}
use Prim.Native.Nat.{ℕ, ◌≤◌}
use native.Mathlib.Omega.{arith}
use lib.Dec.{leb}
use lib.ListN.{length, get_or}
use borrow.Author.Tests.{leb-true}
use contract.Lifetimes.{Lfts}
use denote.Triple.Clauses.{AtExit}
use borrow.Fn.Kinds.{Dens, res_t, ended_of}
use Rattle.text.proofs.BoolLaws.{cases}
use Rattle.contacts.specs.Contacts.{Contact}
use Rattle.plan.specs.Entry.{Entry}
use Rattle.entries.specs.Row.{Row}
use Rattle.cards.specs.Carded.{kept_of, new_in, carded_as}
use Rattle.cards.proofs.confirm.Reads as confirm
use Rattle.cards.proofs.confirm.Kinds as confirm-kinds

-- where they are counted, they fit
counted_fit : (cs : List Contact) (es : List Entry) (n : ℕ) (rows : List Row) (m u b c : ℕ) → carded_as cs es n rows m ≡ Some (record { confirmations = u; already = b; unmatched = c }) → length (new_in cs es n rows) ≤ m
unfolding carded_as
counted_fit cs es n rows m u b c e =
    cases (leb (length (new_in cs es n rows)) m)
    (λ t. leb-true (length (new_in cs es n rows)) m t)
    (λ t. let f : None ≡ Some (record { confirmations = u; already = b; unmatched = c }) = rw t at e in absurd (let z : ◌≡◌ {A = ℕ} 0 1 = cc in omega arith))

module _ (κs : Lfts 5) (a : Dens κs confirm-kinds.ps) (x y : (res_t confirm-kinds.r κs).Denot) (d e : AtExit (ended_of 5 confirm-kinds.ps confirm-kinds.r) κs) (z : confirm.Pre κs a) (p : confirm.Post κs a x d) (q : confirm.Post κs a y e) where
  confirm_once : x ≡ y
  confirm_once = p.0 z.entries z.said z.answered ∙ sym (q.0 z.entries z.said z.answered)

  confirm_once_cards : (u b c : ℕ) → x ≡ Some (record { confirmations = u; already = b; unmatched = c }) → d.1.1.1.1.1.0.now ≡ e.1.1.1.1.1.0.now
  confirm_once_cards u b c h =
      let f = counted_fit _ z.entries _ _ _ u b c (sym (p.0 z.entries z.said z.answered) ∙ h) in
      p.1.0 z.entries z.said z.answered f ∙ sym (q.1.0 z.entries z.said z.answered f)

  confirm_once_rows : (j : ℕ) → kept_of (get_or d.1.1.1.0.now j []) ≡ kept_of (get_or e.1.1.1.0.now j [])
  confirm_once_rows j = p.1.1.0.kept j ∙ sym (q.1.1.0.kept j)

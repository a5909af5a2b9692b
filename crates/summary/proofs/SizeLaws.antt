-- How long the parts of the line are. Assumes nothing.
use mathlib.Core.Path.{◌≡◌, refl}
use mathlib.Core.List.{List, ◌++◌}
use Prim.Native.Nat.{ℕ, ◌+◌, ◌≤◌}
use lib.Dec.{eqb}
use Rattle.text.specs.Pick.{pick}
use Rattle.text.proofs.BoolLaws.{cases}
use native.Mathlib.Omega.{arith}
use lib.ListN.{length, length-append}
use Rattle.text.specs.Ascii.{ascii}
use Rattle.decimal.specs.Digits.{decimal}
use Rattle.summary.specs.declared.Counts.{Counts}
use Rattle.summary.specs.Summary.{counted, dot, further, part, found, confirmed, left_out, summary_text}
use Rattle.summary.proofs.LineLaws.{part_none, part_some}

module _ (n : ℕ) (one many : List ℕ) where
  module _ (d : ℕ) (p : d ≡ length (decimal n)) (name : List ℕ) (e : name ≡ pick (eqb n 1) one many) where
    pub counted_is : d + length name ≡ length (counted n one many)
    unfolding counted
    counted_is = rw (← e) (omega (arith, length-append (decimal n) name))

    pub named_short : length one ≤ 32 → length many ≤ 32 → length name ≤ 32
    named_short h k = rw e (cases (eqb n 1) (λ u. rw u h) (λ u. rw u k))

  further_size : length (further n one many) ≡ length (counted n one many) + 4
  unfolding further
  further_size = omega (arith, length-append dot (counted n one many))

  pub none_size : n ≡ 0 → 0 ≡ length (part n one many)
  none_size e = rw (part_none n one many e) refl

  pub some_size : (r : ℕ) → (n ≡ 0 → ⊥) → r ≡ length (counted n one many) → r + 4 ≡ length (part n one many)
  some_size r e q = rw (part_some n one many e) (omega (arith, further_size))

pub found_is : (total importable a b : ℕ) → a ≡ length (counted total (ascii " record") (ascii " records")) → b ≡ length (counted importable (ascii " to import") (ascii " to import")) → a + b + 4 ≡ length (found total importable)
unfolding found
found_is total importable a b p q =
    omega (arith, length-append (counted total (ascii " record") (ascii " records")) (further importable (ascii " to import") (ascii " to import")), further_size importable (ascii " to import") (ascii " to import"))

pub confirmed_is : (confirmations already a b : ℕ) → a ≡ length (part confirmations (ascii " confirmation") (ascii " confirmations")) → b ≡ length (part already (ascii " already confirmed") (ascii " already confirmed")) → a + b ≡ length (confirmed confirmations already)
unfolding confirmed
confirmed_is confirmations already a b p q =
    omega (arith, length-append (part confirmations (ascii " confirmation") (ascii " confirmations")) (part already (ascii " already confirmed") (ascii " already confirmed")))

module _ (duplicates unmatched unusable a b d : ℕ) where
  pub left_is : a ≡ length (part duplicates (ascii " duplicate (skipped)") (ascii " duplicates (skipped)"))
      → b ≡ length (part unmatched (ascii " confirmation unmatched") (ascii " confirmations unmatched"))
      → d ≡ length (part unusable (ascii " unusable") (ascii " unusable"))
      → a + b + d ≡ length (left_out duplicates unmatched unusable)
  unfolding left_out
  left_is p q r =
      omega (arith, length-append (part duplicates (ascii " duplicate (skipped)") (ascii " duplicates (skipped)")) (part unmatched (ascii " confirmation unmatched") (ascii " confirmations unmatched") ++ part unusable (ascii " unusable") (ascii " unusable")), length-append (part unmatched (ascii " confirmation unmatched") (ascii " confirmations unmatched")) (part unusable (ascii " unusable") (ascii " unusable")))

pub line_is : (c : Counts) (a b d : ℕ) → a ≡ length (found c.total c.importable) → b ≡ length (confirmed c.confirmations c.already_confirmed) → d ≡ length (left_out c.duplicates c.unmatched c.unusable) → a + b + d ≡ length (summary_text c)
unfolding summary_text
line_is c a b d p q r =
    omega (arith, length-append (found c.total c.importable) (confirmed c.confirmations c.already_confirmed ++ left_out c.duplicates c.unmatched c.unusable), length-append (confirmed c.confirmations c.already_confirmed) (left_out c.duplicates c.unmatched c.unusable))

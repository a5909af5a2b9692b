-- Names in a fixed width. Assumes nothing.
use mathlib.Core.Path.{◌≡◌, refl, ap, ◌∙◌}
use mathlib.Core.Bool.{Bool, true}
use mathlib.Core.List.{List, [], ◌∷◌}
use Prim.Native.Nat.{ℕ, zero, suc, ◌+◌, ◌≤◌, ◌<◌}
use native.Mathlib.Numerals.{add-one}
use lib.Dec.{leb}
use lib.ListN.{length, get_or, take, drop}
use lib.Seq.{drop-cons}
use borrow.Author.Tests.{leb-true}
use Rattle.text.specs.Pick.{both}
use Rattle.text.proofs.BoolLaws.{both_left, both_right}
use Rattle.letters.specs.Capitals.{raised, capitals}
use Rattle.letters.specs.Same.{same}
use Rattle.letters.proofs.SameLaws.{same_true}
use Rattle.tables.specs.Table.{entry}
use Rattle.tables.specs.Bands.{bands, band_names}
use Rattle.tables.specs.Modes.{modes, mode_names}
use Rattle.tables.specs.Place.{or_empty, spelled}
use Rattle.tables.specs.declared.Name.{Name}
use Rattle.tables.proofs.EntryLaws.{spelled_out}
use Rattle.cells.specs.Cells.{column_order}
use Rattle.cellfields.specs.Fields.{name_at, column_name}

-- ---- what holds of every name of a list holds of each, and of no name
module _ (test : List ℕ → Bool) (none_passes : test [] ≡ true) where
  abbrev all_pass : List (List ℕ) → Bool
  all_pass [] = true
  all_pass (n ∷ ns) = both (test n) (all_pass ns)

  at_each : (ns : List (List ℕ)) (k : ℕ) → all_pass ns ≡ true → test (get_or ns k []) ≡ true
  at_each [] k e = none_passes
  at_each (n ∷ ns) zero e = both_left (test n) (all_pass ns) e
  at_each (n ∷ ns) (suc k) e = at_each ns k (both_right (test n) (all_pass ns) e)

entry_is : (ns : List (List ℕ)) (k : ℕ) → or_empty (entry ns k) ≡ get_or ns k []
entry_is [] k = refl
entry_is (n ∷ ns) zero = refl
entry_is (n ∷ ns) (suc k) = entry_is ns k

-- ---- no name is longer than the width
abbrev is_short : List ℕ → Bool
is_short n = leb (length n) 12

short_in : (ns : List (List ℕ)) (k : ℕ) → all_pass is_short refl ns ≡ true → length (get_or ns k []) ≤ 12
short_in ns k e = leb-true (length (get_or ns k [])) 12 (at_each is_short refl ns k e)

pub band_short : (k : ℕ) → length (or_empty (entry band_names k)) ≤ 12
unfolding band_names bands
band_short k = rw (entry_is band_names k) (short_in band_names k refl)

pub mode_short : (k : ℕ) → length (or_empty (entry mode_names k)) ≤ 12
unfolding mode_names modes
mode_short k = rw (entry_is mode_names k) (short_in mode_names k refl)

pub column_short : (k : ℕ) → length (name_at k) ≤ 12
unfolding name_at column_order
column_short k = short_in column_order k refl

-- the names from column k on
pub names_from : (k : ℕ) → k < 13 → drop k column_order ≡ name_at k ∷ drop (k + 1) column_order
unfolding name_at column_order
names_from k h = rw add-one (drop-cons column_order k [] h)

-- ---- the columns' names are in capitals
abbrev is_capital : List ℕ → Bool
is_capital n = same (capitals n) n

pub column_capital : (k : ℕ) → capitals (name_at k) ≡ name_at k
unfolding name_at column_order raised
column_capital k = same_true (capitals (name_at k)) (name_at k) (at_each is_capital refl column_order k refl)

-- ---- a name is the front of its twelve bytes
pub column_front : (k : ℕ) (n : Name) → n ≡ column_name k → (n.len ≤ 12) × (take n.len n.bytes ≡ name_at k)
unfolding column_name
column_front k n e = rw e (column_short k, spelled_out (name_at k) (column_short k))

pub short_name : (k : ℕ) (n : Name) → n ≡ column_name k → n.len ≤ 12
short_name k n e = (column_front k n e).0

pub named_at : (k : ℕ) (n : Name) → n ≡ spelled (or_empty (entry column_order k)) → n ≡ column_name k
unfolding column_name name_at
named_at k n e = e ∙ ap spelled (entry_is column_order k)

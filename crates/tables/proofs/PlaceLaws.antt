-- Laws of places: what the functions that make and read them ask. Assumes nothing.
use mathlib.Core.Path.{◌≡◌, refl, ◌∙◌}
use mathlib.Core.Bool.{Bool, true, false}
use mathlib.Core.List.{List, []}
use Prim.Native.Nat.{ℕ, ◌+◌, ◌-◌, ◌≤◌}
use native.Mathlib.Omega.{arith}
use lib.Dec.{T, leb}
use lib.ListN.{length, take, drop, length-take, length-drop}
use lib.Seq.{length-take-le}
use borrow.Author.Tests.{leb-true}
use Rattle.text.specs.Pick.{pick}
use Rattle.text.specs.Space.{trim_start, trim_end, trimmed}
use Rattle.text.proofs.SpaceLaws.{rest, end_le}
use Rattle.tables.specs.Table.{Columns}
use Rattle.tables.specs.Place.{in_text, in_capitals, part}
use Rattle.tables.specs.Place.{tidy}
use Rattle.tables.specs.declared.Place.{Place}
use Rattle.tables.proofs.TableLaws.{all_le, all_le_lem}

-- two columns of a constant table
pub columns : (ns : List (List ℕ)) (ls : List ℕ) → length ns ≡ length ls → T (leb (length ns) 255) → T (all_le 12 ls) → Columns ns ls
columns ns ls e f s = record { alike = e; few = few (leb (length ns) 255) refl f; short = all_le_lem 12 ls s }
  where
    few : (b : Bool) → leb (length ns) 255 ≡ b → T b → length ns ≤ 255
    few true q t = leb-true (length ns) 255 q
    few false q t = absurd t

module _ (text : List ℕ) (p : Place) where
  -- a part that has bytes ends within the text
  pub part_length : length (part text p) ≤ length text - p.start
  unfolding part
  part_length = by (in_text p)
    where
      by : (b : Bool) → length (pick b (take p.len (drop p.start text)) []) ≤ length text - p.start
      by true = omega (arith, length-take p.len (drop p.start text), length-drop p.start text)
      by false = omega arith

module _ (text : List ℕ) (p : Place) (b : Bool) (e : b ≡ in_text p) where
  pub tidy_other : b ≡ false → p ≡ tidy text p
  unfolding tidy
  tidy_other h = rw (← e, h) refl

  module _ (s : List ℕ) (a n : ℕ) (r : Place) (h : b ≡ true) (es : s ≡ part text p) (ea : a ≡ trim_start s) where
    pub tidy_part : n ≡ trim_end (take (length s - a) (drop a s)) → r ≡ in_capitals (p.start + a) n → r ≡ tidy text p
    unfolding tidy trimmed
    tidy_part en er =
        er
        ∙ rw
        (← e, h, ← es, ← ea, length-take-le (trim_end (drop a s)) (drop a s) (end_le (drop a s)), en, rest s a)
        refl

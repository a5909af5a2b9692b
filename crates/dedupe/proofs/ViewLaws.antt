-- What a test looks at is what a place stands for. Assumes nothing.
use mathlib.Core.Path.{◌≡◌, refl, sym}
use mathlib.Core.Bool.{Bool, true, false}
use mathlib.Core.List.{List, []}
use Prim.Native.Nat.{ℕ, zero, suc, ◌≤◌}
use native.Mathlib.Omega.{arith}
use lib.ListN.{length, take, drop}
use lib.Dec.{eqb, leb}
use borrow.Author.Tests.{leb-true, ne_eqb}
use Rattle.text.specs.Pick.{pick, either}
use Rattle.text.specs.Space.{trimmed}
use Rattle.text.proofs.BoolLaws.{either_none}
use Rattle.letters.specs.Capitals.{capitals}
use Rattle.letters.specs.Same.{same}
use Rattle.letters.proofs.CapitalLaws.{capitals_twice}
use Rattle.letters.proofs.SpaceLaws.{trim_capitals}
use Rattle.tables.specs.Table.{entry}
use Rattle.tables.specs.Bands.{bands, band_names}
use Rattle.tables.specs.Modes.{modes, mode_names}
use Rattle.tables.specs.Place.{place, in_text, part, value, or_empty, bytes, name_of}
use Rattle.tables.specs.declared.Place.{Place}
use Rattle.tables.specs.declared.Name.{Name}
use Rattle.tables.proofs.Tested.{all}
use Rattle.tables.proofs.EntryLaws.{spelled_out}
use Rattle.dedupe.specs.Views.{cased, view, viewed}
use Rattle.dedupe.proofs.PartLaws.{entry_all}

-- ---- the names of entries have at most twelve bytes, so they are spelled out whole
entry_short : (l : List (List ℕ)) → all (λ (x : List ℕ). leb (length x) 12) l ≡ true → (k : ℕ) → length (or_empty (entry l k)) ≤ 12
entry_short l e k = leb-true (length (or_empty (entry l k))) 12 (entry_all (λ (x : List ℕ). leb (length x) 12) refl l e k)

short_bands : all (λ (x : List ℕ). leb (length x) 12) band_names ≡ true
unfolding band_names bands
short_bands = refl

short_modes : all (λ (x : List ℕ). leb (length x) 12) mode_names ≡ true
unfolding mode_names modes
short_modes = refl

-- ---- by the kind of a place
short_at : (k a n : ℕ) → (name_of (place k a n)).len ≤ 12
unfolding name_of
short_at zero a n = omega arith
short_at (suc zero) a n = omega arith
short_at (suc (suc zero)) a n = omega arith
short_at (suc (suc (suc zero))) a n = entry_short band_names short_bands a
short_at (suc (suc (suc (suc zero)))) a n = entry_short mode_names short_modes a
short_at (suc (suc (suc (suc (suc k))))) a n =
    rw (ne_eqb (suc (suc (suc (suc (suc k))))) 3 (λ e. omega arith), ne_eqb (suc (suc (suc (suc (suc k))))) 4 (λ e. omega arith)) (omega arith)

pub name_short : (p : Place) (n : Name) → n ≡ name_of p → n.len ≤ 12
name_short p n e = rw e (short_at p.kind p.start p.len)

module _ (t r : Bool) where
  -- capitals looked at are the bytes looked at in capitals
  view_capitals : (xs : List ℕ) → view t r (capitals xs) ≡ cased true (pick t (trimmed xs) xs)
  unfolding cased
  view_capitals xs = by t r
    where
      by : (t r : Bool) → cased r (pick t (trimmed (capitals xs)) (capitals xs)) ≡ capitals (pick t (trimmed xs) xs)
      by true true = rw (trim_capitals xs) (capitals_twice (trimmed xs))
      by true false = trim_capitals xs
      by false true = capitals_twice xs
      by false false = refl

  either_true : either r true ≡ true
  either_true = by r
    where
      by : (r : Bool) → either r true ≡ true
      by true = refl
      by false = refl

  pub view_at : (text : List ℕ) (k a n : ℕ) → viewed t r text (place k a n) (take (name_of (place k a n)).len (name_of (place k a n)).bytes) ≡ view t r (bytes text (place k a n))
  unfolding name_of value part
  view_at text zero a n = rw (either_none r) refl
  view_at text (suc zero) a n = rw (either_none r) refl
  view_at text (suc (suc zero)) a n = rw either_true (sym (view_capitals (take n (drop a text))))
  view_at text (suc (suc (suc zero))) a n =
      rw (either_none r, spelled_out (or_empty (entry band_names a)) (entry_short band_names short_bands a)) refl
  view_at text (suc (suc (suc (suc zero)))) a n =
      rw (either_none r, spelled_out (or_empty (entry mode_names a)) (entry_short mode_names short_modes a)) refl
  view_at text (suc (suc (suc (suc (suc k))))) a n =
      rw (
        ne_eqb (suc (suc (suc (suc (suc k))))) 1 (λ e. omega arith),
        ne_eqb (suc (suc (suc (suc (suc k))))) 2 (λ e. omega arith),
        ne_eqb (suc (suc (suc (suc (suc k))))) 3 (λ e. omega arith),
        ne_eqb (suc (suc (suc (suc (suc k))))) 4 (λ e. omega arith),
      )
      (by r)
    where
      by : (r : Bool) → cased (either r false) (pick t (trimmed []) []) ≡ cased r (pick t (trimmed []) [])
      by true = refl
      by false = refl

module _ (ft st rs : Bool) (a b : List ℕ) (p q : Place) where
  -- two parts or names, looked at
  pub viewed_alike : (name other w s v t : List ℕ) (u o r : Bool) → w ≡ pick (in_text p) (part a p) name → s ≡ pick ft (trimmed w) w
      → v ≡ pick (in_text q) (part b q) other → t ≡ pick st (trimmed v) v
      → u ≡ either rs (eqb p.kind 2) → o ≡ either rs (eqb q.kind 2) → r ≡ same (cased u s) (cased o t)
      → r ≡ same (viewed ft rs a p name) (viewed st rs b q other)
  viewed_alike name other w s v t u o r ew es ev et eu eo er =
      let hs : s ≡ pick ft (trimmed (pick (in_text p) (part a p) name)) (pick (in_text p) (part a p) name) = rw ew at es in
      let ht : t ≡ pick st (trimmed (pick (in_text q) (part b q) other)) (pick (in_text q) (part b q) other) = rw ev at et in
      rw (hs, ht, eu, eo) at er

  -- and with the names of the entries
  pub bytes_alike : (n m : Name) (r : Bool) → n ≡ name_of p → m ≡ name_of q
      → r ≡ same (viewed ft rs a p (take n.len n.bytes)) (viewed st rs b q (take m.len m.bytes))
      → r ≡ same (view ft rs (bytes a p)) (view st rs (bytes b q))
  bytes_alike n m r en em er =
      let h : r ≡ same (viewed ft rs a p (take (name_of p).len (name_of p).bytes)) (viewed st rs b q (take (name_of q).len (name_of q).bytes)) = rw (en, em) at er in
      rw (view_at ft rs a p.kind p.start p.len, view_at st rs b q.kind q.start q.len) at h

-- The moment that two places name is the one that their parts of the text name: digits have no case, and no entry is a date or a time.
-- Assumes nothing.
use Rattle.std.specs.Prelude.{Option, Some, None}
use mathlib.Core.Path.{◌≡◌, refl, sym, ap, ◌∙◌}
use mathlib.Core.Bool.{Bool, true, false}
use mathlib.Core.List.{List, [], ◌∷◌}
use Prim.Native.Nat.{ℕ, ◌-◌, ◌≤◌}
use native.Mathlib.Omega.{arith}
use lib.ListN.{length-map}
use lib.Dec.{leb}
use borrow.Author.Tests.{leb-true, le-leb, lt-leb}
use Rattle.text.specs.Pick.{both, within}
use Rattle.text.specs.Space.{space1, space2, space3, space80, space_len, space_back, width, trim_start, trim_end, trimmed}
use Rattle.text.specs.Walk.{lead}
use Rattle.text.proofs.BoolLaws.{both_left, both_right, both_no}
use Rattle.letters.specs.Capitals.{raised, capitals}
use Rattle.letters.proofs.SpaceLaws.{trim_capitals}
use Rattle.decimal.specs.Decimal.{all_digits, digits_after, digits_of}
use Rattle.tables.specs.Table.{entry}
use Rattle.tables.specs.Bands.{bands, band_names}
use Rattle.tables.specs.Modes.{modes, mode_names}
use Rattle.tables.specs.Place.{place, part, or_empty, bytes}
use Rattle.tables.specs.declared.Place.{Place}
use Rattle.tables.proofs.Tested.{all}
use Rattle.times.specs.Moments.{date_of, clock_of, moment_of}
use Rattle.dedupe.proofs.PartLaws.{entry_all, by_part}

-- ---- digits have no case
raised_small : (d : ℕ) → leb 0x61 d ≡ false → raised d ≡ d
unfolding raised
raised_small d e = rw e refl

-- a letter is no digit, small or capital
letter : (d : ℕ) → 0x61 ≤ d → leb d 0x7A ≡ true → within (raised d) 0x30 0x39 ≡ false
unfolding raised
letter d h e =
    rw (le-leb 0x61 d h, e) (rw (lt-leb (d - 0x20) 0x39 (omega arith)) (both_no (leb 0x30 (d - 0x20))))

raised_past : (d : ℕ) → leb d 0x7A ≡ false → raised d ≡ d
unfolding raised
raised_past d e = rw (e, both_no (leb 0x61 d)) refl

within_raised : (d : ℕ) → within (raised d) 0x30 0x39 ≡ within d 0x30 0x39
within_raised d = by (leb 0x61 d) refl (leb d 0x7A) refl
  where
    by : (a : Bool) → leb 0x61 d ≡ a → (b : Bool) → leb d 0x7A ≡ b → within (raised d) 0x30 0x39 ≡ within d 0x30 0x39
    by false p b q = rw (raised_small d p) refl
    by true p false q = rw (raised_past d q) refl
    by true p true q =
        let h : 0x61 ≤ d = leb-true 0x61 d p in
        letter d h q ∙ sym (rw (lt-leb d 0x39 (omega arith)) (both_no (leb 0x30 d)))

digit_raised : (d : ℕ) → within d 0x30 0x39 ≡ true → raised d ≡ d
digit_raised d e =
    let h : d ≤ 0x39 = leb-true d 0x39 (both_right (leb 0x30 d) (leb d 0x39) e) in
    raised_small d (lt-leb 0x61 d (omega arith))

pub all_raised : (ds : List ℕ) → all_digits (capitals ds) ≡ all_digits ds
all_raised [] = refl
all_raised (d ∷ ds) = rw (within_raised d, all_raised ds) refl

digits_kept : (ds : List ℕ) → all_digits ds ≡ true → capitals ds ≡ ds
digits_kept [] e = refl
digits_kept (d ∷ ds) e =
    let h : raised d ≡ d = digit_raised d (both_left (within d 0x30 0x39) (all_digits ds) e) in
    let t : capitals ds ≡ ds = digits_kept ds (both_right (within d 0x30 0x39) (all_digits ds) e) in
    cc

after_capitals : (ds : List ℕ) → digits_after 0 (capitals ds) ≡ digits_after 0 ds
unfolding digits_after
after_capitals ds = by (all_digits ds) refl
  where
    by : (t : Bool) → all_digits ds ≡ t → digits_after 0 (capitals ds) ≡ digits_after 0 ds
    by true e = ap (digits_after 0) (digits_kept ds e)
    by false e = rw (all_raised ds, e) refl

digits_capitals : (ds : List ℕ) → digits_of (capitals ds) ≡ digits_of ds
unfolding digits_of
digits_capitals ds = rw (length-map ds raised, after_capitals ds) refl

date_capitals : (xs : List ℕ) → date_of (trimmed (capitals xs)) ≡ date_of (trimmed xs)
unfolding date_of
date_capitals xs = rw (trim_capitals xs, length-map (trimmed xs) raised, digits_capitals (trimmed xs)) refl

clock_capitals : (xs : List ℕ) → clock_of (trimmed (capitals xs)) ≡ clock_of (trimmed xs)
unfolding clock_of
clock_capitals xs = rw (trim_capitals xs, length-map (trimmed xs) raised, digits_capitals (trimmed xs)) refl

-- ---- no entry is a date or a time
abbrev is_not : Option ℕ → Bool
is_not (Some n) = false
is_not None = true

is_not_lem : (u : Option ℕ) → is_not u ≡ true → u ≡ None
is_not_lem (Some n) e = absurd (let z : ◌≡◌ {A = ℕ} 0 1 = cc in omega arith)
is_not_lem None e = refl

abbrev timeless : List ℕ → Bool
timeless x = both (is_not (date_of (trimmed x))) (is_not (clock_of (trimmed x)))

timeless_bands : all timeless band_names ≡ true
unfolding band_names bands date_of clock_of digits_of digits_after trimmed trim_start trim_end lead space_len space_back width space1 space2 space3 space80
timeless_bands = refl

timeless_modes : all timeless mode_names ≡ true
unfolding mode_names modes date_of clock_of digits_of digits_after trimmed trim_start trim_end lead space_len space_back width space1 space2 space3 space80
timeless_modes = refl

timeless_empty : timeless [] ≡ true
unfolding date_of clock_of digits_of digits_after trimmed trim_start trim_end lead
timeless_empty = refl

no_date : (x : List ℕ) → timeless x ≡ true → date_of (trimmed x) ≡ date_of (trimmed [])
no_date x e =
    is_not_lem _ (both_left (is_not (date_of (trimmed x))) (is_not (clock_of (trimmed x))) e)
    ∙ sym (is_not_lem _ (both_left (is_not (date_of (trimmed []))) (is_not (clock_of (trimmed []))) timeless_empty))

no_clock : (x : List ℕ) → timeless x ≡ true → clock_of (trimmed x) ≡ clock_of (trimmed [])
no_clock x e =
    is_not_lem _ (both_right (is_not (date_of (trimmed x))) (is_not (clock_of (trimmed x))) e)
    ∙ sym (is_not_lem _ (both_right (is_not (date_of (trimmed []))) (is_not (clock_of (trimmed []))) timeless_empty))

-- ---- by the kind of a place
module _ (text : List ℕ) where
  date_at_lem : (k a n : ℕ) → date_of (trimmed (bytes text (place k a n))) ≡ date_of (trimmed (part text (place k a n)))
  date_at_lem =
      by_part (λ (x : List ℕ). date_of (trimmed x)) date_capitals
      (λ a. no_date (or_empty (entry band_names a)) (entry_all timeless timeless_empty band_names timeless_bands a))
      (λ a. no_date (or_empty (entry mode_names a)) (entry_all timeless timeless_empty mode_names timeless_modes a))
      text

  clock_at : (k a n : ℕ) → clock_of (trimmed (bytes text (place k a n))) ≡ clock_of (trimmed (part text (place k a n)))
  clock_at =
      by_part (λ (x : List ℕ). clock_of (trimmed x)) clock_capitals
      (λ a. no_clock (or_empty (entry band_names a)) (entry_all timeless timeless_empty band_names timeless_bands a))
      (λ a. no_clock (or_empty (entry mode_names a)) (entry_all timeless timeless_empty mode_names timeless_modes a))
      text

  pub moment_of_parts : (p q : Place) (x y : List ℕ) (r : Option ℕ) → x ≡ part text p → y ≡ part text q → r ≡ moment_of x y
      → r ≡ moment_of (bytes text p) (bytes text q)
  unfolding moment_of
  moment_of_parts p q x y r ex ey er =
      er
      ∙ rw (ex, ey) (rw (date_at_lem p.kind p.start p.len, clock_at q.kind q.start q.len) refl)

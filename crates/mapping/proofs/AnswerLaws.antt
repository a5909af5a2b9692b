-- The numbers of a QSO, and the answer of a mapping. Assumes nothing.
use Rattle.std.specs.Prelude.{Option, Some, None}
use Rattle.decimal.specs.declared.Signed.{Signed}
use mathlib.Core.Path.{◌≡◌, refl, sym, ap, ◌∙◌}
use mathlib.Core.Bool.{Bool, true, false}
use mathlib.Core.List.{List, []}
use Prim.Native.Nat.{ℕ, ◌+◌, ◌-◌, ◌/◌, ◌≤◌, ◌<◌}
use native.Mathlib.Omega.{arith}
use lib.ListN.{length, get_or}
use borrow.Author.Tests.{le-leb, lt-leb, eqb-true}
use Rattle.text.specs.Pick.{pick, either}
use Rattle.text.specs.Space.{space1, space2, space3, space80, space_len, space_back, width, trim_start, trim_end, trimmed}
use Rattle.text.specs.Walk.{lead}
use Rattle.letters.specs.Capitals.{raised}
use Rattle.letters.specs.Same.{same_raised}
use Rattle.decimal.specs.Decimal.{digits_after, digits_of, leads, unsigned_of, above_zero, below_zero, signed_of}
use Rattle.mhz.specs.Digits.{number_of}
use Rattle.mhz.specs.Number.{negative, unsigned, pointed, whole_part, fraction_part, after_decimal, all_digits, decimal_of, is_infinity, is_nan, unsigned_number, number_in}
use Rattle.mhz.specs.Reading.{read_hertz}
use Rattle.mhz.specs.declared.Hz.{Hz}
use Rattle.mhz.specs.declared.Hz.TheVariants.{Absent, Is}
use Rattle.refusals.specs.declared.Refusal.TheVariants.{TooLong, BadRow, InexactFrequency}
use Rattle.rowcheck.specs.Check.{Row}
use Rattle.writer.specs.Rows.{rows_from}
use Rattle.tables.specs.Place.{absent, part, is_absent}
use Rattle.tables.specs.declared.Place.{Place}
use Rattle.columns.specs.Columns.{freq, freq_rx, dxcc}
use Rattle.model.specs.Flags.{one_if}
use Rattle.model.specs.Normal.{normal_qso}
use Rattle.model.specs.Answer.{no_frequency, no_dxcc, empty_qso, accepted, refused}
use Rattle.model.specs.declared.Frequency.{Frequency}
use Rattle.model.specs.declared.Dxcc.{Dxcc}
use Rattle.model.specs.declared.Qso.{Qso}
use Rattle.model.specs.declared.Answer.{Answer}
use Rattle.mapping.specs.Mapping.{columns_of, is_outside, frequency_of, dxcc_of, dxcc_at, qso_with, answer_with, answer_over, mapped, is_record, mapped_to, with_normal, normal_to}

pub number_is : (s : Option Signed) (n : Bool) (size m : ℕ) → s ≡ Some (record { negative = n; size = size }) → m ≡ one_if n → ◌≡◌ {A = Dxcc} (record { given = 1; negative = m; size = size }) (dxcc_of s)
number_is s n size m e em = rw (e, em) refl

pub hertz_is : (h : Hz) (n : ℕ) → h ≡ Is n → ◌≡◌ {A = Frequency} (record { given = 1; hz = n }) (frequency_of h)
hertz_is h n e = rw e refl

-- ---- nothing is read of a column that is absent
pub no_hertz : read_hertz [] ≡ Absent
unfolding read_hertz number_in unsigned_number is_infinity is_nan decimal_of whole_part fraction_part after_decimal pointed unsigned negative all_digits number_of same_raised raised trimmed trim_start trim_end lead space_len space_back width space1 space2 space3 space80
no_hertz = refl

pub no_number : signed_of (trimmed []) ≡ None
unfolding signed_of leads unsigned_of digits_of digits_after above_zero below_zero trimmed trim_start trim_end lead space_len space_back width space1 space2 space3 space80
no_number = refl

module _ (text : List ℕ) (p : Place) where
  absent_part : is_absent p ≡ true → part text p ≡ []
  unfolding part
  absent_part e = rw (eqb-true p.kind 0 e) refl

  module _ (t : Bool) (et : t ≡ is_absent p) (h : t ≡ true) where
    pub hertz_absent : Absent ≡ read_hertz (part text p)
    hertz_absent = sym (ap read_hertz (absent_part (sym et ∙ h)) ∙ no_hertz)

    pub number_absent : (d : Dxcc) → d ≡ no_dxcc → d ≡ dxcc_of (signed_of (trimmed (part text p)))
    number_absent d e = e ∙ sym (ap (λ (x : List ℕ). dxcc_of (signed_of (trimmed x))) (absent_part (sym et ∙ h)) ∙ ap dxcc_of no_number)

  pub hertz_said : (x : List ℕ) (h : Hz) → x ≡ part text p → h ≡ read_hertz x → h ≡ read_hertz (part text p)
  hertz_said x h ex eh = eh ∙ ap read_hertz ex

  pub number_said : (x d : List ℕ) (s : Option Signed) (r : Dxcc) → x ≡ part text p → d ≡ trimmed x → s ≡ signed_of d → r ≡ dxcc_of s
      → r ≡ dxcc_of (signed_of (trimmed (part text p)))
  number_said x d s r ex ed es er = rw (er, es, ed, ex) refl

pub dxcc_is : (text : List ℕ) (cs : List Place) (r : Dxcc) → r ≡ dxcc_of (signed_of (trimmed (part text (get_or cs dxcc absent)))) → r ≡ dxcc_at text cs
unfolding dxcc_at
dxcc_is text cs r e = e

pub qso_is : (text : List ℕ) (cs : List Place) (f g : Frequency) (d : Dxcc) → d ≡ dxcc_at text cs
    → ◌≡◌ {A = Qso} (record { columns = cs; freq = f; freq_rx = g; dxcc = d }) (qso_with text cs f g)
unfolding qso_with
qso_is text cs f g d e = rw e refl

module _ (text : List ℕ) (cs : List Place) (f g : Hz) (a b t : Bool) (ea : a ≡ is_outside f) (eb : b ≡ is_outside g) (et : t ≡ either a b) (r : Answer) (q : Qso) where
  tested : t ≡ either (is_outside f) (is_outside g)
  tested = rw (et, ea, eb) refl

  pub inexact : (x y : Frequency) → t ≡ true → x ≡ no_frequency → y ≡ no_frequency → q ≡ qso_with text cs x y → r ≡ refused InexactFrequency q → r ≡ answer_with text cs f g
  unfolding answer_with
  inexact x y h ex ey eq er = rw (← tested, h) (er ∙ rw (eq, ex, ey) refl)

  pub exact : (x y : Frequency) → t ≡ false → x ≡ frequency_of f → y ≡ frequency_of g → q ≡ qso_with text cs x y → r ≡ accepted q → r ≡ answer_with text cs f g
  unfolding answer_with
  exact x y h ex ey eq er = rw (← tested, h) (er ∙ rw (eq, ex, ey) refl)

pub over_columns : (text : List ℕ) (cs : List Place) (f g : Hz) (r : Answer) → f ≡ read_hertz (part text (get_or cs freq absent)) → g ≡ read_hertz (part text (get_or cs freq_rx absent))
    → r ≡ answer_with text cs f g → r ≡ answer_over text cs
unfolding answer_over
over_columns text cs f g r ef eg er = rw (er, ef, eg) refl

pub maps : (text : List ℕ) (rows : List Row) (cs : List Place) (r : Answer) → cs ≡ columns_of text rows → r ≡ answer_over text cs → r ≡ mapped text rows
unfolding mapped
maps text rows cs r ec er = rw (er, ec) refl

-- ---- the refusals
module _ (text table : List ℕ) (first count : ℕ) (r : Answer) (q : Qso) (eq : q ≡ empty_qso) where
  pub too_long : 16777216 < length text → r ≡ refused TooLong q → r ≡ mapped_to text table first count
  unfolding mapped_to
  too_long h er = rw (lt-leb _ _ h) (er ∙ ap (refused TooLong) eq)

  module _ (h : length text ≤ 16777216) (er : r ≡ refused BadRow q) where
    pub past : length table / 5 < first + count → r ≡ mapped_to text table first count
    unfolding mapped_to
    past l = rw (le-leb _ _ h, lt-leb (first + count) (length table / 5) l) (er ∙ ap (refused BadRow) eq)

    pub no_record : first ≤ length table / 5 → count ≤ length table / 5 - first → (b : Bool) → b ≡ is_record text (rows_from table first count) → b ≡ false
        → r ≡ mapped_to text table first count
    unfolding mapped_to
    no_record l m b eb n = rw (le-leb _ _ h, le-leb (first + count) (length table / 5) (omega arith), ← eb) (by b n)
      where
        by : (b : Bool) → b ≡ false → r ≡ pick b (mapped text (rows_from table first count)) (refused BadRow empty_qso)
        by true z = absurd (let z : ◌≡◌ {A = ℕ} 0 1 = cc in omega arith)
        by false z = er ∙ ap (refused BadRow) eq

module _ (text table : List ℕ) (first count : ℕ) where
  pub a_record : (r : Answer) (b : Bool) → length text ≤ 16777216 → first ≤ length table / 5 → count ≤ length table / 5 - first → b ≡ is_record text (rows_from table first count)
      → b ≡ true → r ≡ mapped text (rows_from table first count) → r ≡ mapped_to text table first count
  unfolding mapped_to
  a_record r b h l m eb n er = rw (le-leb _ _ h, le-leb (first + count) (length table / 5) (omega arith), ← eb) (by b n)
    where
      by : (b : Bool) → b ≡ true → r ≡ pick b (mapped text (rows_from table first count)) (refused BadRow empty_qso)
      by true z = er
      by false z = absurd (let z : ◌≡◌ {A = ℕ} 0 1 = cc in omega arith)

-- ---- normalised at once
pub normal_answer : (text : List ℕ) (a : Answer) (q : Qso) → q ≡ normal_qso text a.qso → ◌≡◌ {A = Answer} (record { qso = q; verdict = a.verdict }) (with_normal text a)
normal_answer text a q e = rw e refl

module _ (text table : List ℕ) (first count : ℕ) (a : Answer) (ea : a ≡ mapped_to text table first count) where
  pub normal_long : 16777216 < length text → a ≡ normal_to text table first count
  unfolding normal_to
  normal_long h = rw (lt-leb _ _ h) ea

  pub normal_taken : (r : Answer) → length text ≤ 16777216 → r ≡ with_normal text a → r ≡ normal_to text table first count
  unfolding normal_to
  normal_taken r h e = rw (le-leb _ _ h) (e ∙ ap (with_normal text) ea)

-- The flags of a QSO that mapping gives, taken or refused, are flags, so that no call refuses it for one of them. Assumes nothing.
use Rattle.std.specs.Prelude.{Option, Some, None}
use Rattle.decimal.specs.declared.Signed.{Signed}
use mathlib.Core.Path.{◌≡◌, refl}
use mathlib.Core.Bool.{Bool, true, false}
use mathlib.Core.List.{List}
use Prim.Native.Nat.{ℕ, ◌+◌, ◌/◌}
use lib.Dec.{leb}
use lib.ListN.{length, get_or}
use Rattle.text.specs.Pick.{pick, both, either}
use Rattle.text.specs.Space.{trimmed}
use Rattle.text.proofs.BoolLaws.{both_true}
use Rattle.decimal.specs.Decimal.{signed_of}
use Rattle.mhz.specs.declared.Hz.{Hz}
use Rattle.mhz.specs.declared.Hz.TheVariants.{Absent, Is, Outside}
use Rattle.refusals.specs.declared.Refusal.TheVariants.{TooLong, BadRow, InexactFrequency}
use Rattle.writer.specs.Rows.{rows_from}
use Rattle.tables.specs.Place.{absent, part}
use Rattle.tables.specs.declared.Place.{Place}
use Rattle.columns.specs.Columns.{freq, freq_rx, dxcc}
use Rattle.model.specs.Flags.{is_flag, one_if}
use Rattle.model.specs.Answer.{is_flagged, no_frequency, empty_qso, accepted, refused}
use Rattle.model.specs.declared.Answer.{Answer}
use Rattle.model.specs.declared.Frequency.{Frequency}
use Rattle.mapping.specs.Mapping.{hertz_at, is_outside, frequency_of, dxcc_of, dxcc_at, qso_with, answer_with, answer_over, columns_of, mapped, is_record, mapped_to}

hertz_flag : (h : Hz) → is_flag (frequency_of h).given ≡ true
hertz_flag Absent = refl
hertz_flag (Is n) = refl
hertz_flag Outside = refl

given_flag : (s : Option Signed) → is_flag (dxcc_of s).given ≡ true
given_flag (Some n') = refl
given_flag None = refl

negative_flag : (s : Option Signed) → is_flag (dxcc_of s).negative ≡ true
negative_flag (Some n) = by n.negative
  where
    by : (b : Bool) → is_flag (one_if b) ≡ true
    by true = refl
    by false = refl
negative_flag None = refl

module _ (text : List ℕ) (columns : List Place) where
  number : Option Signed
  number = signed_of (trimmed (part text (get_or columns dxcc absent)))

  with_flags : (f g : Frequency) → is_flag f.given ≡ true → is_flag g.given ≡ true → is_flagged (qso_with text columns f g) ≡ true
  unfolding is_flagged qso_with dxcc_at number
  with_flags f g a b =
      both_true (both (is_flag f.given) (is_flag g.given)) (both (is_flag (dxcc_of number).given) (is_flag (dxcc_of number).negative))
      (both_true (is_flag f.given) (is_flag g.given) a b)
      (both_true (is_flag (dxcc_of number).given) (is_flag (dxcc_of number).negative) (given_flag number) (negative_flag number))

  answer_flags : (f g : Hz) → is_flagged (answer_with text columns f g).qso ≡ true
  unfolding answer_with
  answer_flags f g = by (either (is_outside f) (is_outside g))
    where
      by : (t : Bool)
          → is_flagged (pick t (refused InexactFrequency (qso_with text columns no_frequency no_frequency)) (accepted (qso_with text columns (frequency_of f) (frequency_of g)))).qso ≡ true
      by true = with_flags no_frequency no_frequency refl refl
      by false = with_flags (frequency_of f) (frequency_of g) (hertz_flag f) (hertz_flag g)

mapped_flags : (text : List ℕ) (columns : List Place) → is_flagged (answer_over text columns).qso ≡ true
unfolding answer_over
mapped_flags text columns = answer_flags text columns (hertz_at text columns freq) (hertz_at text columns freq_rx)

module _ (text table : List ℕ) (first count : ℕ) where
  -- of the call, for every text, table and rows
  pub mapped_flagged : is_flagged (mapped_to text table first count).qso ≡ true
  unfolding mapped_to mapped is_flagged
  mapped_flagged =
      by (leb (length text) 16777216) (leb (first + count) (length table / 5)) (is_record text (rows_from table first count)) (answer_over text (columns_of text (rows_from table first count)))
      (mapped_flags text (columns_of text (rows_from table first count)))
    where
      by : (s f r : Bool) (a : Answer) → is_flagged a.qso ≡ true
          → is_flagged (pick s (pick f (pick r a (refused BadRow empty_qso)) (refused BadRow empty_qso)) (refused TooLong empty_qso)).qso ≡ true
      by true true true a h = h
      by true true false a h = refl
      by true false r a h = refl
      by false f r a h = refl

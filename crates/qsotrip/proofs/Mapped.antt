-- The record of a contact, name by name; so what a record becomes that is mapped and written back, and a contact that is written, read and
-- mapped. Assumes nothing.
use Rattle.std.specs.Prelude.{Option, None, Some}
use mathlib.Core.Path.{◌≡◌, refl, sym, ap, ◌∙◌}
use mathlib.Core.Bool.{Bool, true, false}
use mathlib.Core.List.{List, [], ◌∷◌, ◌++◌}
use Prim.Native.Nat.{ℕ}
use native.Mathlib.Omega.{arith}
use Rattle.text.specs.Ascii.{ascii}
use Rattle.text.specs.Pick.{pick}
use Rattle.text.proofs.BoolLaws.{both_left, both_right}
use Rattle.letters.specs.Capitals.{raised, capitals}
use Rattle.letters.specs.Same.{same, same_raised}
use Rattle.letters.proofs.SameLaws.{same_true}
use Rattle.adif.specs.Grammar.{Field}
use Rattle.adif.specs.Limits.{Ascending}
use Rattle.trip.proofs.Fronts.{Above}
use Rattle.tables.specs.Table.{named as named_in}
use Rattle.tables.specs.Place.{or_empty}
use Rattle.tables.proofs.Tested.{all}
use Rattle.normalize.specs.Normal.{unless_empty}
use Rattle.trip.proofs.Means.{named}
use Rattle.columns.specs.Columns
use Rattle.columns.specs.Columns.{column_names, column_named, is_column}
use Rattle.model.specs.Contact.{Contact}
use Rattle.mapping.specs.Contact.{value_named, column_value, extra_fields, contact_of}
use Rattle.qsowriter.specs.Record.{given, megahertz, split_only, entity_text, column_fields, record_of}
use Rattle.qsotrip.specs.Rewritten.{Each, InCapitals, NoColumn, Rewritten, read_back}
use Rattle.qsotrip.proofs.Merged.{rising_above, above_rising, merged_rises, or_value, no_other, merged_value}
use Rattle.qsotrip.proofs.Counted.{IsColumn, each_merged, merged_extra}
use Rattle.qsotrip.proofs.Slots.{Slot, laid, slots, found, columns_laid, laid_value, columns_rise, columns_are}

-- ---- a name that is a column's, and one that is not
never : true ≡ false → ⊥
never e = let z : ◌≡◌ {A = ℕ} 0 1 = cc in omega arith

module _ (n : List ℕ) where
  -- no field of columns has another name; no extra field has a column's
  no_column_there : is_column n ≡ false → (fs : List Field) → Each IsColumn fs → value_named n fs ≡ None
  no_column_there c [] a = refl
  no_column_there c (f ∷ fs) a = by (same f.name n) refl (no_column_there c fs a.1)
    where
      by : (t : Bool) → same f.name n ≡ t → value_named n fs ≡ None → pick t (Some f.value) (value_named n fs) ≡ None
      by true e i = absurd (never (sym a.0 ∙ ap (λ (x : List ℕ). is_column x) (same_true f.name n e) ∙ c))
      by false e i = i

  column_not_there : is_column n ≡ true → (es : List Field) → Each NoColumn es → value_named n es ≡ None
  column_not_there c [] a = refl
  column_not_there c (e ∷ es) a = by (same e.name n) refl (column_not_there c es a.1)
    where
      by : (t : Bool) → same e.name n ≡ t → value_named n es ≡ None → pick t (Some e.value) (value_named n es) ≡ None
      by true q i = absurd (never (sym c ∙ ap (λ (x : List ℕ). is_column x) (sym (same_true e.name n q)) ∙ a.0))
      by false q i = i

  extra_value : is_column n ≡ false → (fs : List Field) → value_named n (extra_fields fs) ≡ value_named n fs
  extra_value c [] = refl
  extra_value c (f ∷ fs) = by (is_column f.name) refl (same f.name n) refl (extra_value c fs)
    where
      by : (k : Bool) → is_column f.name ≡ k → (t : Bool) → same f.name n ≡ t → value_named n (extra_fields fs) ≡ value_named n fs
          → value_named n (pick k (extra_fields fs) (f ∷ extra_fields fs)) ≡ pick t (Some f.value) (value_named n fs)
      by true p true e i = absurd (never (sym p ∙ ap (λ (x : List ℕ). is_column x) (same_true f.name n e) ∙ c))
      by true p false e i = i
      by false p true e i = rw e refl
      by false p false e i = rw e i

-- ---- the extra fields of a record
extra_none : (fs : List Field) → Each NoColumn (extra_fields fs)
extra_none [] = tt
extra_none (f ∷ fs) = by (is_column f.name) refl (extra_none fs)
  where
    by : (k : Bool) → is_column f.name ≡ k → Each NoColumn (extra_fields fs) → Each NoColumn (pick k (extra_fields fs) (f ∷ extra_fields fs))
    by true p i = i
    by false p i = (p, i)

extra_each : (P : Field → Type 0) (fs : List Field) → Each P fs → Each P (extra_fields fs)
extra_each P [] a = tt
extra_each P (f ∷ fs) a = by (is_column f.name) (extra_each P fs a.1)
  where
    by : (k : Bool) → Each P (extra_fields fs) → Each P (pick k (extra_fields fs) (f ∷ extra_fields fs))
    by true i = i
    by false i = (a.0, i)

extra_above : (m : List ℕ) (fs : List Field) → Above m fs → Above m (extra_fields fs)
extra_above m [] a = tt
extra_above m (f ∷ fs) a = by (is_column f.name) (extra_above m fs a.1)
  where
    by : (k : Bool) → Above m (extra_fields fs) → Above m (pick k (extra_fields fs) (f ∷ extra_fields fs))
    by true i = i
    by false i = (a.0, i)

extra_rises : (fs : List Field) → Ascending named fs → Ascending named (extra_fields fs)
extra_rises [] r = tt
extra_rises (f ∷ fs) r = by (is_column f.name) (extra_rises fs r.1)
  where
    by : (k : Bool) → Ascending named (extra_fields fs) → Ascending named (pick k (extra_fields fs) (f ∷ extra_fields fs))
    by true i = i
    by false i = above_rising f (extra_fields fs) (extra_above f.name fs (rising_above f fs r)) i

-- ---- the record of a contact whose extra fields rise and are no columns
-- the names of columns are in capitals
laid_capital : (ss : List Slot) → all (λ (s : Slot). same (capitals (ascii s.name)) (ascii s.name)) ss ≡ true → Each InCapitals (laid ss)
laid_capital [] e = tt
laid_capital (s ∷ ss) e =
    by s.value (laid_capital ss (both_right (same (capitals (ascii s.name)) (ascii s.name)) (all (λ (s : Slot). same (capitals (ascii s.name)) (ascii s.name)) ss) e))
  where
    by : (o : Option (List ℕ)) → Each InCapitals (laid ss) → Each InCapitals (given s.name o ++ laid ss)
    by None i = i
    by (Some v) i =
        (same_true (capitals (ascii s.name)) (ascii s.name) (both_left (same (capitals (ascii s.name)) (ascii s.name)) (all (λ (s : Slot). same (capitals (ascii s.name)) (ascii s.name)) ss) e), i)

columns_capital : (c : Contact) → Each InCapitals (column_fields c)
unfolding raised
columns_capital c = rw (columns_laid c) (laid_capital (slots c) refl)

module _ (c : Contact) (r : Ascending named c.extra) where
  record_rises : Ascending named (record_of c)
  unfolding record_of
  record_rises = merged_rises (column_fields c) c.extra (columns_rise c) r

  record_value : (n : List ℕ) → value_named n (record_of c) ≡ or_value (value_named n (column_fields c)) (value_named n c.extra)
  unfolding record_of
  record_value n = merged_value n (column_fields c) c.extra (columns_rise c) r

  -- a name that is no column's is an extra field's
  other_value : (n : List ℕ) → is_column n ≡ false → value_named n (record_of c) ≡ value_named n c.extra
  other_value n e = record_value n ∙ rw (no_column_there n e (column_fields c) (columns_are c)) refl

  module _ (x : Each NoColumn c.extra) where
    at : (n : List ℕ) → is_column n ≡ true → value_named n (record_of c) ≡ found n (slots c)
    at n e =
        record_value n ∙ ap (or_value (value_named n (column_fields c))) (column_not_there n e c.extra x)
        ∙ no_other (value_named n (column_fields c))
        ∙ ap (value_named n) (columns_laid c)
        ∙ laid_value n (slots c)

    its_call : column_value Columns.call (record_of c) ≡ Some c.call
    unfolding column_named column_names named_in same_raised raised
    its_call = at (ascii "CALL") refl

    its_date : column_value Columns.qso_date (record_of c) ≡ Some c.qso_date
    unfolding column_named column_names named_in same_raised raised
    its_date = at (ascii "QSO_DATE") refl

    its_time : column_value Columns.time_on (record_of c) ≡ Some c.time_on
    unfolding column_named column_names named_in same_raised raised
    its_time = at (ascii "TIME_ON") refl

    its_mode : column_value Columns.mode (record_of c) ≡ Some c.mode
    unfolding column_named column_names named_in same_raised raised
    its_mode = at (ascii "MODE") refl

    its_band : column_value Columns.band (record_of c) ≡ unless_empty c.band
    unfolding column_named column_names named_in same_raised raised
    its_band = at (ascii "BAND") refl ∙ no_other (unless_empty c.band)

    its_band_rx : column_value Columns.band_rx (record_of c) ≡ split_only c.freq_rx c.band_rx
    unfolding column_named column_names named_in same_raised raised
    its_band_rx = at (ascii "BAND_RX") refl ∙ no_other (split_only c.freq_rx c.band_rx)

    pub its_freq : column_value Columns.freq (record_of c) ≡ megahertz c.freq
    unfolding column_named column_names named_in same_raised raised
    its_freq = at (ascii "FREQ") refl ∙ no_other (megahertz c.freq)

    pub its_freq_rx : column_value Columns.freq_rx (record_of c) ≡ megahertz c.freq_rx
    unfolding column_named column_names named_in same_raised raised
    its_freq_rx = at (ascii "FREQ_RX") refl ∙ no_other (megahertz c.freq_rx)

    its_dxcc : column_value Columns.dxcc (record_of c) ≡ entity_text c.dxcc
    unfolding column_named column_names named_in same_raised raised
    its_dxcc = at (ascii "DXCC") refl ∙ no_other (entity_text c.dxcc)

    its_submode : column_value Columns.submode (record_of c) ≡ c.submode
    unfolding column_named column_names named_in same_raised raised
    its_submode = at (ascii "SUBMODE") refl ∙ no_other c.submode

    its_sent : column_value Columns.rst_sent (record_of c) ≡ c.rst_sent
    unfolding column_named column_names named_in same_raised raised
    its_sent = at (ascii "RST_SENT") refl ∙ no_other c.rst_sent

    its_received : column_value Columns.rst_rcvd (record_of c) ≡ c.rst_rcvd
    unfolding column_named column_names named_in same_raised raised
    its_received = at (ascii "RST_RCVD") refl ∙ no_other c.rst_rcvd

    its_grid : column_value Columns.gridsquare (record_of c) ≡ c.gridsquare
    unfolding column_named column_names named_in same_raised raised
    its_grid = at (ascii "GRIDSQUARE") refl ∙ no_other c.gridsquare

    its_extra : extra_fields (record_of c) ≡ c.extra
    unfolding record_of
    its_extra = merged_extra (column_fields c) c.extra (columns_are c) x

    some_or_empty : (b : List ℕ) → or_empty (unless_empty b) ≡ b
    some_or_empty [] = refl
    some_or_empty (b ∷ bs) = refl

    -- written and mapped again
    pub contact_back : contact_of (record_of c) ≡ read_back c
    unfolding contact_of read_back
    contact_back =
        rw (its_call, its_date, its_time, its_mode, its_band, some_or_empty c.band, its_band_rx, its_freq, its_freq_rx, its_dxcc, its_submode, its_sent, its_received, its_grid, its_extra) refl

-- a record mapped and written back
module _ (before : List Field) (r : Ascending named before) (u : Each InCapitals before) where
  abbrev said : Contact
  said = contact_of before

  says_extra : said.extra ≡ extra_fields before
  unfolding contact_of
  says_extra = refl

  rises : Ascending named said.extra
  rises = rw says_extra (extra_rises before r)

  none_column : Each NoColumn said.extra
  none_column = rw says_extra (extra_none before)

  record_capital : Each InCapitals (record_of said)
  unfolding record_of
  record_capital = each_merged InCapitals (column_fields said) said.extra (columns_capital said) (rw says_extra (extra_each InCapitals before u))

  pub rewritten : Rewritten before (record_of said)
  unfolding contact_of
  rewritten =
      record {
        call = its_call said rises none_column;
        qso_date = its_date said rises none_column;
        time_on = its_time said rises none_column;
        mode = its_mode said rises none_column;
        band = its_band said rises none_column;
        band_rx = its_band_rx said rises none_column;
        freq = its_freq said rises none_column;
        freq_rx = its_freq_rx said rises none_column;
        dxcc = its_dxcc said rises none_column;
        submode = its_submode said rises none_column;
        rst_sent = its_sent said rises none_column;
        rst_rcvd = its_received said rises none_column;
        gridsquare = its_grid said rises none_column;
        others = λ name e. other_value said rises name e ∙ rw says_extra (extra_value name e before);
        rising = record_rises said rises;
        capital = record_capital;
      }

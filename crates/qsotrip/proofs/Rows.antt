-- Rows that are mapped: what they say is a record whose names rise, in capitals; and rows that say the record of a contact are mapped to a
-- QSO that says what is read back of it. Assumes nothing.
use Rattle.std.specs.Prelude.{Ok, Err, Option, None, Some}
use Rattle.std.specs.declared.cmp.Ordering.TheVariants.{Less}
use mathlib.Core.Path.{◌≡◌, refl, sym, ap, ◌∙◌}
use mathlib.Core.Bool.{Bool, true, false}
use mathlib.Core.List.{List, [], ◌∷◌, map}
use Prim.Native.Nat.{ℕ, ◌+◌, ◌/◌}
use native.Mathlib.Omega.{arith}
use lib.Dec.{eqb, leb, ltb}
use lib.ListN.{length}
use Rattle.text.specs.Ascii.{ascii}
use Rattle.text.specs.Pick.{pick, both, either}
use Rattle.text.proofs.BoolLaws.{both_left, both_right}
use Rattle.letters.specs.Capitals.{raised, capitals}
use Rattle.letters.specs.Same.{same, same_raised}
use Rattle.letters.specs.Order.{order, order_raised}
use Rattle.letters.proofs.CapitalLaws.{capitals_twice}
use Rattle.mhz.specs.Reading.{read_hertz}
use Rattle.refusals.specs.declared.Refusal.{Refusal}
use Rattle.refusals.specs.declared.Refusal.TheVariants.{TooLong, BadRow, InexactFrequency}
use Rattle.adif.specs.Grammar.{Field}
use Rattle.adif.specs.Limits.{Ascending}
use Rattle.rowcheck.specs.Check.{Row, record_in, name_in, is_less}
use Rattle.rowcheck.proofs.FineLaws.{less}
use Rattle.tables.specs.Place.{part, or_empty, value_place}
use Rattle.writer.specs.Rows.{rows_from, row_field}
use Rattle.trip.proofs.Means.{named}
use Rattle.columns.specs.Columns
use Rattle.columns.specs.Columns.{column_names}
use Rattle.model.specs.Contact.{contact}
use Rattle.model.specs.Answer.{no_frequency, empty_qso, accepted, refused}
use Rattle.model.specs.declared.Answer.{Answer}
use Rattle.model.specs.declared.Qso.{Qso}
use Rattle.mapping.specs.Contact.{value_named, column_value, contact_of}
use Rattle.mapping.specs.Mapping.{place_named, columns_of, extra_rows, hertz_at, is_outside, frequency_of, qso_with, answer_with, answer_over, mapped, is_row, rises, goes_on, is_record, mapped_to}
use Rattle.mapping.proofs.AnswerLaws.{no_hertz}
use Rattle.meaning.proofs.MappingMeaning.{mapped_means}
use Rattle.qsowriter.specs.Record.{megahertz}
use Rattle.qsotrip.specs.Rewritten.{Each, InCapitals, Survives}

module _ (text : List ℕ) where
  abbrev pub said_by : List Row → List Field
  said_by rows = map (row_field text) rows

  pub rows_capital : (rows : List Row) → Each InCapitals (said_by rows)
  rows_capital [] = tt
  rows_capital (r ∷ rs) = (capitals_twice (name_in text r), rows_capital rs)

  -- ---- the rows of a record rise
  row_rises : (p r : Row) → rises text p r ≡ true → order (capitals (name_in text p)) (capitals (name_in text r)) ≡ Less
  unfolding rises order_raised
  row_rises p r e = less (order (capitals (name_in text p)) (capitals (name_in text r))) (both_right (eqb (record_in r) (record_in p)) (is_less (order (capitals (name_in text p)) (capitals (name_in text r)))) e)

  goes_on_lem : (p : Row) (rs : List Row) → goes_on text p rs ≡ true → Ascending named (said_by (p ∷ rs))
  goes_on_lem p [] e = (tt, tt)
  goes_on_lem p (r ∷ rs) e = (
    row_rises p r (both_right (is_row text r) (rises text p r) (both_left (both (is_row text r) (rises text p r)) (goes_on text r rs) e)),
    goes_on_lem r rs (both_right (both (is_row text r) (rises text p r)) (goes_on text r rs) e),
  )

  pub record_rows_rise : (rows : List Row) → is_record text rows ≡ true → Ascending named (said_by rows)
  unfolding is_record
  record_rows_rise [] e = tt
  record_rows_rise (r ∷ rs) e = goes_on_lem r rs (both_right (both (is_row text r) (ltb 0 (record_in r))) (goes_on text r rs) e)

  -- ---- the QSO to which rows are mapped
  abbrev pub qso_of : List Row → Qso
  qso_of rows = qso_with text (columns_of text rows) (frequency_of (hertz_at text (columns_of text rows) Columns.freq)) (frequency_of (hertz_at text (columns_of text rows) Columns.freq_rx))

  pub qso_means : (rows : List Row) → contact text (qso_of rows) (said_by (extra_rows text rows)) ≡ contact_of (said_by rows)
  qso_means rows = mapped_means text rows

  mapped_by : (rows : List Row) (t : Bool) → either (is_outside (hertz_at text (columns_of text rows) Columns.freq)) (is_outside (hertz_at text (columns_of text rows) Columns.freq_rx)) ≡ t
      → mapped text rows
      ≡ pick t (refused InexactFrequency (qso_with text (columns_of text rows) no_frequency no_frequency)) (accepted (qso_of rows))
  unfolding mapped answer_over answer_with
  mapped_by rows t e = rw e refl

  refused_not : (why : Refusal) (x y : Qso) → refused why x ≡ accepted y → ⊥
  refused_not why x y e =
      let v : Err why ≡ Ok tt = ap (λ (a : Answer). a.verdict) e in
      let z : ◌≡◌ {A = ℕ} 0 1 = cc in omega arith

  taken : (t : Bool) (a : Answer) (why : Refusal) (x y : Qso) → pick t a (refused why x) ≡ accepted y → (t ≡ true) × (a ≡ accepted y)
  taken true a why x y e = (refl, e)
  taken false a why x y e = absurd (refused_not why x y e)

  pub mapped_is : (rows : List Row) (q : Qso) → mapped text rows ≡ accepted q → qso_of rows ≡ q
  mapped_is rows q e = by (either (is_outside (hertz_at text (columns_of text rows) Columns.freq)) (is_outside (hertz_at text (columns_of text rows) Columns.freq_rx))) refl
    where
      by : (t : Bool) → either (is_outside (hertz_at text (columns_of text rows) Columns.freq)) (is_outside (hertz_at text (columns_of text rows) Columns.freq_rx)) ≡ t → qso_of rows ≡ q
      by true h = absurd (refused_not InexactFrequency (qso_with text (columns_of text rows) no_frequency no_frequency) q (sym (mapped_by rows true h) ∙ e))
      by false h = ap (λ (a : Answer). a.qso) (sym (mapped_by rows false h) ∙ e)

  -- the call's answer
  module _ (table : List ℕ) (first count : ℕ) (q : Qso) (e : mapped_to text table first count ≡ accepted q) where
    abbrev rows : List Row
    rows = rows_from table first count

    abbrev inside : Answer
    inside = pick (is_record text rows) (mapped text rows) (refused BadRow empty_qso)

    steps : pick (leb (length text) 16777216) (pick (leb (first + count) (length table / 5)) inside (refused BadRow empty_qso)) (refused TooLong empty_qso) ≡ accepted q
    unfolding mapped_to
    steps = e

    last : (is_record text rows ≡ true) × (mapped text rows ≡ accepted q)
    last =
        taken (is_record text rows) (mapped text rows) BadRow empty_qso q
        (taken (leb (first + count) (length table / 5)) inside BadRow empty_qso q
        (taken (leb (length text) 16777216) (pick (leb (first + count) (length table / 5)) inside (refused BadRow empty_qso)) TooLong empty_qso q steps).1).1

    pub call_rises : Ascending named (said_by rows)
    call_rises = record_rows_rise rows last.0

    pub call_means : contact text q (said_by (extra_rows text rows)) ≡ contact_of (said_by rows)
    call_means = ap (λ (x : Qso). contact text x (said_by (extra_rows text rows))) (sym (mapped_is rows q last.1)) ∙ qso_means rows

  -- ---- rows whose frequencies are six decimals that survive, or none, are mapped
  part_named : (n : List ℕ) → capitals n ≡ n → (rows : List Row) → part text (place_named text rows n) ≡ or_empty (value_named n (said_by rows))
  unfolding part same_raised
  part_named n c [] = refl
  part_named n c (r ∷ rs) = rw c (by (same (capitals (name_in text r)) n) (part_named n c rs))
    where
      by : (t : Bool) → part text (place_named text rs n) ≡ or_empty (value_named n (said_by rs))
          → part text (pick t (value_place r) (place_named text rs n)) ≡ or_empty (pick t (Some (row_field text r).value) (value_named n (said_by rs)))
      by true i = refl
      by false i = i

  not_outside : (f : Option ℕ) → Survives f → (x : List ℕ) → x ≡ or_empty (megahertz f) → is_outside (read_hertz x) ≡ false
  not_outside None s x e = rw (e, no_hertz) refl
  not_outside (Some hz) s x e = rw (e, s) refl

  freq_inside : (rows : List Row) (f : Option ℕ) → Survives f → column_value Columns.freq (said_by rows) ≡ megahertz f → is_outside (hertz_at text (columns_of text rows) Columns.freq) ≡ false
  unfolding columns_of column_names raised
  freq_inside rows f s e = not_outside f s (part text (place_named text rows (ascii "FREQ"))) (part_named (ascii "FREQ") refl rows ∙ ap or_empty e)

  freq_rx_inside : (rows : List Row) (f : Option ℕ) → Survives f → column_value Columns.freq_rx (said_by rows) ≡ megahertz f → is_outside (hertz_at text (columns_of text rows) Columns.freq_rx) ≡ false
  unfolding columns_of column_names raised
  freq_rx_inside rows f s e = not_outside f s (part text (place_named text rows (ascii "FREQ_RX"))) (part_named (ascii "FREQ_RX") refl rows ∙ ap or_empty e)

  pub mapped_accepted : (rows : List Row) (f g : Option ℕ) → Survives f → Survives g → column_value Columns.freq (said_by rows) ≡ megahertz f
      → column_value Columns.freq_rx (said_by rows) ≡ megahertz g → mapped text rows ≡ accepted (qso_of rows)
  mapped_accepted rows f g s u d e = mapped_by rows false (rw (freq_inside rows f s d, freq_rx_inside rows g u e) refl)

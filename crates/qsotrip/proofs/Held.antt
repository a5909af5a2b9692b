-- The values of a QSO's columns are UTF-8 and short: parts of its text, entries of the tables, frequencies and numbers in decimal.
-- Assumes nothing.
use Rattle.std.specs.Prelude.{Option, None, Some}
use mathlib.Core.Path.{◌≡◌, refl, sym, ◌∙◌}
use mathlib.Core.Bool.{Bool, true, false}
use mathlib.Core.List.{List, [], ◌∷◌}
use Prim.Native.Nat.{ℕ, zero, suc, ◌+◌, ◌/◌, ◌≤◌, ◌<◌}
use native.Mathlib.Omega.{arith}
use lib.IntN.{ℤ, pos, negsuc}
use lib.Dec.{eqb, leb, ltb}
use lib.ListN.{length, take, drop, length-map, length-take, length-drop}
use borrow.Author.Tests.{ltb-true}
use Rattle.text.specs.Pick.{pick, both, either}
use Rattle.text.specs.Utf8.{char_len, long_char, second3, second4, valid_up_to, utf8, Utf8}
use Rattle.text.specs.Walk.{lead}
use Rattle.text.proofs.AppendLaws.{utf8_ascii}
use Rattle.text.proofs.BoolLaws.{both_left, both_right}
use Rattle.letters.specs.Capitals.{raised, capitals}
use Rattle.decimal.specs.Digits.{decimal}
use Rattle.output.proofs.DigitLaws.{decimal_few}
use Rattle.mhz.specs.Writing.{mhz_text}
use Rattle.mhz.proofs.WriteLaws.{size_is, mhz_utf8}
use Rattle.tables.specs.Table.{entry}
use Rattle.tables.specs.Bands.{bands, band_names}
use Rattle.tables.specs.Modes.{modes, mode_names}
use Rattle.tables.specs.Place.{in_text, part, value, or_empty}
use Rattle.tables.specs.declared.Place.{Place}
use Rattle.tables.proofs.Tested.{all}
use Rattle.normalize.specs.Normal.{unless_empty}
use Rattle.trip.proofs.Raised.{good_raised}
use Rattle.trip.proofs.Lengths.{decimal_ascii}
use Rattle.trip.proofs.Accepted.{utf8_is}
use Rattle.model.specs.Contact.{contact, place_of, hertz, entity}
use Rattle.model.specs.Answer.{is_part, is_fit, are_fit, is_placed, is_flagged, is_qso}
use Rattle.model.specs.declared.Qso.{Qso}
use Rattle.adif.specs.Grammar.{Field}
use Rattle.columns.specs.Columns
use Rattle.qsowriter.specs.Record.{megahertz, split_only, signed_text, entity_text}
use Rattle.meaning.proofs.NormalKept.{fit_at}
use Rattle.qsotrip.proofs.Slots.{Held, AllHeld, slots}

-- ---- nothing, a text, and what is made of them
no_bytes : Utf8 []
unfolding valid_up_to lead
no_bytes = refl

held_bytes : (o : Option (List ℕ)) → Held o → Held (Some (or_empty o))
held_bytes None h = (no_bytes, omega arith)
held_bytes (Some x) h = h

held_unless : (x : List ℕ) → Held (Some x) → Held (unless_empty x)
held_unless [] h = tt
held_unless (x ∷ xs) h = h

held_split : (f : Option ℕ) (b : Option (List ℕ)) → Held b → Held (split_only f b)
held_split None b h = tt
held_split (Some hz) b h = h

-- ---- entries of a table
unfoldable fine : List ℕ → Bool
fine x = both (utf8 x) (ltb (length x) 100)

fine_held : (x : List ℕ) → fine x ≡ true → Held (Some x)
unfolding fine
fine_held x e =
    let l : length x < 100 = ltb-true (length x) 100 (both_right (utf8 x) (ltb (length x) 100) e) in
    (utf8_is x (both_left (utf8 x) (ltb (length x) 100) e), omega arith)

entry_held : (names : List (List ℕ)) → all fine names ≡ true → (k : ℕ) → Held (entry names k)
entry_held [] e k = tt
entry_held (x ∷ xs) e zero = fine_held x (both_left (fine x) (all fine xs) e)
entry_held (x ∷ xs) e (suc k) = entry_held xs (both_right (fine x) (all fine xs) e) k

bands_fine : all fine band_names ≡ true
unfolding fine band_names bands utf8 valid_up_to char_len long_char second3 second4 lead
bands_fine = refl

modes_fine : all fine mode_names ≡ true
unfolding fine mode_names modes utf8 valid_up_to char_len long_char second3 second4 lead
modes_fine = refl

-- ---- a place that fits
capitals_held : (x : List ℕ) → Held (Some x) → Held (Some (capitals x))
capitals_held x h = (good_raised x ∙ h.0 ∙ sym (length-map x raised), rw (length-map x raised) h.1)

module _ (text : List ℕ) (small : length text ≤ 16777216) where
  part_short : (p : Place) → length (part text p) ≤ length text
  unfolding part
  part_short p = by (in_text p)
    where
      by : (t : Bool) → length (pick t (take p.len (drop p.start text)) []) ≤ length text
      by true = omega (arith, length-take p.len (drop p.start text), length-drop p.start text)
      by false = omega arith

  part_held : (p : Place) → is_fit text p ≡ true → in_text p ≡ true → Held (Some (part text p))
  unfolding is_fit is_part
  part_held p e i =
      let f : both (leb (p.start + p.len) (length text)) (utf8 (part text p)) ≡ true = rw i at e in
      (utf8_is (part text p) (both_right (leb (p.start + p.len) (length text)) (utf8 (part text p)) f), omega (arith, part_short p))

  pub place_held : (p : Place) → is_fit text p ≡ true → Held (value text p)
  unfolding value
  place_held p e = by (eqb p.kind 1) (eqb p.kind 2) (eqb p.kind 3) (eqb p.kind 4) (part_held p e)
    where
      by : (b1 b2 b3 b4 : Bool) → (either b1 b2 ≡ true → Held (Some (part text p)))
          → Held (pick b1 (Some (part text p)) (pick b2 (Some (capitals (part text p))) (pick b3 (entry band_names p.start) (pick b4 (entry mode_names p.start) None))))
      by true b2 b3 b4 h = h refl
      by false true b3 b4 h = capitals_held (part text p) (h refl)
      by false false true b4 h = entry_held band_names bands_fine p.start
      by false false false true h = entry_held mode_names modes_fine p.start
      by false false false false h = tt

-- ---- numbers
mhz_held : (hz : ℕ) → Held (Some (mhz_text hz))
mhz_held hz = (mhz_utf8 hz, omega (arith, size_is hz _ refl, decimal_few (hz / 1000000)))

megahertz_held : (f : Option ℕ) → Held (megahertz f)
megahertz_held None = tt
megahertz_held (Some hz) = mhz_held hz

signed_held : (n : ℤ) → Held (Some (signed_text n))
signed_held (pos n) = (utf8_ascii (decimal n) (decimal_ascii n), omega (arith, decimal_few n))
signed_held (negsuc n) = (utf8_ascii (0x2D ∷ decimal (suc n)) (omega arith, decimal_ascii (suc n)), omega (arith, decimal_few (suc n)))

entity_held : (n : Option ℤ) → Held (entity_text n)
entity_held None = tt
entity_held (Some n) = signed_held n

-- ---- the columns of a QSO of the text
module _ (text : List ℕ) (small : length text ≤ 16777216) (q : Qso) (e : is_qso text q ≡ true) where
  all_fit : are_fit text q.columns ≡ true
  unfolding is_qso is_placed
  all_fit = both_left (are_fit text q.columns) _ (both_right (is_flagged q) (is_placed text q) e)

  column_held : (k : ℕ) → Held (value text (place_of q k))
  column_held k = place_held text small (place_of q k) (fit_at text q.columns all_fit k)

  text_held : (k : ℕ) → Held (Some (or_empty (value text (place_of q k))))
  text_held k = held_bytes (value text (place_of q k)) (column_held k)

  pub qso_held : (extra : List Field) → AllHeld (slots (contact text q extra))
  unfolding contact
  qso_held extra = (held_unless _ (text_held Columns.band), (held_split (hertz q.freq_rx) _ (column_held Columns.band_rx), (text_held Columns.call, (entity_held (entity q.dxcc), (megahertz_held (hertz q.freq), (megahertz_held (hertz q.freq_rx), (column_held Columns.gridsquare, (text_held Columns.mode, (text_held Columns.qso_date, (column_held Columns.rst_rcvd, (column_held Columns.rst_sent, (column_held Columns.submode, (text_held Columns.time_on, tt)))))))))))))

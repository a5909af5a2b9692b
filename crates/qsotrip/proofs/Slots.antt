-- The fields of the columns, one by one: a name, and a value or none. Assumes nothing.
use Rattle.std.specs.Prelude.{Option, None, Some}
use mathlib.Core.Path.{◌≡◌, refl}
use mathlib.Core.Bool.{Bool, true, false}
use mathlib.Core.List.{List, [], ◌∷◌, ◌++◌}
use Prim.Native.Nat.{ℕ, suc, ◌^◌, ◌≤◌, ◌<◌}
use Prim.Native.String.{String}
use native.Mathlib.Omega.{arith}
use lib.ListN.{length}
use Rattle.text.specs.Ascii.{ascii}
use Rattle.text.specs.Pick.{pick, both}
use Rattle.text.specs.Find.{other}
use Rattle.text.specs.Space.{space1, space2, space3, space80, space_len, space_back, width, trim_start, trim_end}
use Rattle.text.specs.Utf8.{char_len, long_char, second3, second4, valid_up_to, utf8, Utf8}
use Rattle.text.specs.Walk.{ends, lead}
use Rattle.text.proofs.BoolLaws.{both_left, both_right}
use Rattle.letters.specs.Capitals.{raised, capitals}
use Rattle.letters.specs.Same.{same, same_raised}
use Rattle.letters.specs.Order.{order}
use Rattle.letters.proofs.SameLaws.{same_true}
use Rattle.tags.specs.Tags.{kind_of}
use Rattle.adif.specs.Grammar.{Field}
use Rattle.adif.specs.Limits.{Ascending}
use Rattle.rowcheck.specs.Check.{is_less, lacks, writable}
use Rattle.rowcheck.proofs.FineLaws.{less}
use Rattle.trip.proofs.Fronts.{Above}
use Rattle.tables.specs.Table.{named as named_in}
use Rattle.tables.proofs.Tested.{all, pairs}
use Rattle.normalize.specs.Normal.{unless_empty}
use Rattle.trip.specs.File.{Good, AllGood}
use Rattle.trip.proofs.Means.{named}
use Rattle.trip.proofs.Accepted.{name_trim, name_colon, name_gt, name_kind, utf8_is}
use Rattle.columns.specs.Columns.{column_names, column_named, is_column}
use Rattle.model.specs.Contact.{Contact}
use Rattle.mapping.specs.Contact.{value_named}
use Rattle.qsowriter.specs.Record.{given, megahertz, split_only, entity_text, column_fields}
use Rattle.qsotrip.proofs.Merged.{above_rising, or_value}
use Rattle.qsotrip.specs.Rewritten.{Each}
use Rattle.qsotrip.proofs.Counted.{IsColumn}

pub record Slot : Type 0 where
  pub name : String
  pub value : Option (List ℕ)

abbrev pub slot : String → Option (List ℕ) → Slot
slot n o = record { name = n; value = o }

abbrev pub laid : List Slot → List Field
laid [] = []
laid (s ∷ ss) = given s.name s.value ++ laid ss

abbrev pub slots : Contact → List Slot
slots c =
    slot "BAND" (unless_empty c.band)
    ∷ slot "BAND_RX" (split_only c.freq_rx c.band_rx)
    ∷ slot "CALL" (Some c.call)
    ∷ slot "DXCC" (entity_text c.dxcc)
    ∷ slot "FREQ" (megahertz c.freq)
    ∷ slot "FREQ_RX" (megahertz c.freq_rx)
    ∷ slot "GRIDSQUARE" c.gridsquare
    ∷ slot "MODE" (Some c.mode)
    ∷ slot "QSO_DATE" (Some c.qso_date)
    ∷ slot "RST_RCVD" c.rst_rcvd
    ∷ slot "RST_SENT" c.rst_sent
    ∷ slot "SUBMODE" c.submode
    ∷ slot "TIME_ON" (Some c.time_on)
    ∷ []

pub columns_laid : (c : Contact) → column_fields c ≡ laid (slots c)
unfolding column_fields
columns_laid c = refl

-- ---- the value of a name
abbrev pub found : List ℕ → List Slot → Option (List ℕ)
found n [] = None
found n (s ∷ ss) = pick (same (ascii s.name) n) (or_value s.value (found n ss)) (found n ss)

pub laid_value : (n : List ℕ) (ss : List Slot) → value_named n (laid ss) ≡ found n ss
laid_value n [] = refl
laid_value n (s ∷ ss) = by s.value (laid_value n ss)
  where
    here : (t : Bool) (v : List ℕ) → value_named n (laid ss) ≡ found n ss
        → pick t (Some v) (value_named n (laid ss)) ≡ pick t (Some v) (found n ss)
    here true v i = refl
    here false v i = i

    neither : (t : Bool) → value_named n (laid ss) ≡ found n ss → value_named n (laid ss) ≡ pick t (found n ss) (found n ss)
    neither true i = i
    neither false i = i

    by : (o : Option (List ℕ)) → value_named n (laid ss) ≡ found n ss
        → value_named n (given s.name o ++ laid ss) ≡ pick (same (ascii s.name) n) (or_value o (found n ss)) (found n ss)
    by None i = neither (same (ascii s.name) n) i
    by (Some v) i = here (same (ascii s.name) n) v i

-- ---- names that rise
abbrev lower : List ℕ → Slot → Bool
lower m s = is_less (order m (ascii s.name))

laid_above : (m : List ℕ) (ss : List Slot) → all (lower m) ss ≡ true → Above m (laid ss)
laid_above m [] e = tt
laid_above m (s ∷ ss) e = by s.value (laid_above m ss (both_right (lower m s) (all (lower m) ss) e))
  where
    by : (o : Option (List ℕ)) → Above m (laid ss) → Above m (given s.name o ++ laid ss)
    by None i = i
    by (Some v) i = (less (order m (ascii s.name)) (both_left (lower m s) (all (lower m) ss) e), i)

abbrev before : Slot → Slot → Bool
before s t = lower (ascii s.name) t

pub laid_rises : (ss : List Slot) → pairs before ss ≡ true → Ascending named (laid ss)
laid_rises [] e = tt
laid_rises (s ∷ ss) e = by s.value (laid_rises ss (both_right (all (before s) ss) (pairs before ss) e))
  where
    by : (o : Option (List ℕ)) → Ascending named (laid ss) → Ascending named (given s.name o ++ laid ss)
    by None i = i
    by (Some v) i = above_rising (record { name = ascii s.name; value = v }) (laid ss) (laid_above (ascii s.name) ss (both_left (all (before s) ss) (pairs before ss) e)) i

pub columns_rise : (c : Contact) → Ascending named (column_fields c)
columns_rise c = rw (columns_laid c) (laid_rises (slots c) refl)

-- ---- how many
laid_few : (ss : List Slot) → length (laid ss) ≤ length ss
laid_few [] = omega arith
laid_few (s ∷ ss) = by s.value (laid_few ss)
  where
    by : (o : Option (List ℕ)) → length (laid ss) ≤ length ss → length (given s.name o ++ laid ss) ≤ suc (length ss)
    by None i = omega arith
    by (Some v) i = omega arith

pub columns_few : (c : Contact) → length (column_fields c) ≤ 13
columns_few c = rw (columns_laid c) (laid_few (slots c))

-- ---- columns
laid_columns : (ss : List Slot) → all (λ (s : Slot). is_column (ascii s.name)) ss ≡ true → Each IsColumn (laid ss)
laid_columns [] e = tt
laid_columns (s ∷ ss) e = by s.value (laid_columns ss (both_right (is_column (ascii s.name)) (all (λ (s : Slot). is_column (ascii s.name)) ss) e))
  where
    by : (o : Option (List ℕ)) → Each IsColumn (laid ss) → Each IsColumn (given s.name o ++ laid ss)
    by None i = i
    by (Some v) i = (both_left (is_column (ascii s.name)) (all (λ (s : Slot). is_column (ascii s.name)) ss) e, i)

pub columns_are : (c : Contact) → Each IsColumn (column_fields c)
unfolding column_named column_names named_in same_raised raised
columns_are c = rw (columns_laid c) (laid_columns (slots c) refl)

-- ---- fields that can be written
abbrev pub Held : Option (List ℕ) → Type 0
Held None = Unit {0}
Held (Some v) = Utf8 v × (length v < 2 ^ 64)

abbrev pub AllHeld : List Slot → Type 0
AllHeld [] = Unit {0}
AllHeld (s ∷ ss) = Held s.value × AllHeld ss

unfoldable pub good_name : List ℕ → Bool
good_name n = both (writable n) (both (same (capitals n) n) (utf8 n))

named_good : (n v : List ℕ) → good_name n ≡ true → Utf8 v → length v < 2 ^ 64 → Good (record { name = n; value = v })
unfolding good_name
named_good n v e u l =
    let w : writable n ≡ true = both_left (writable n) (both (same (capitals n) n) (utf8 n)) e in
    let r : both (same (capitals n) n) (utf8 n) ≡ true = both_right (writable n) (both (same (capitals n) n) (utf8 n)) e in
    record {
      trim = name_trim n w;
      capital = same_true (capitals n) n (both_left (same (capitals n) n) (utf8 n) r);
      no_colon = name_colon n w;
      no_gt = name_gt n w;
      plain = name_kind n w;
      name_utf8 = utf8_is n (both_right (same (capitals n) n) (utf8 n) r);
      value_utf8 = u;
      short = l;
    }

abbrev good_slot : Slot → Bool
good_slot s = good_name (ascii s.name)

laid_good : (ss : List Slot) → all good_slot ss ≡ true → AllHeld ss → AllGood (laid ss)
laid_good [] e h = tt
laid_good (s ∷ ss) e h = by s.value h.0 (laid_good ss (both_right (good_slot s) (all good_slot ss) e) h.1)
  where
    by : (o : Option (List ℕ)) → Held o → AllGood (laid ss) → AllGood (given s.name o ++ laid ss)
    by None k i = i
    by (Some v) k i = (named_good (ascii s.name) v (both_left (good_slot s) (all good_slot ss) e) k.0 k.1, i)

slots_good : (c : Contact) → all good_slot (slots c) ≡ true
unfolding good_name writable lacks ends other lead trim_start trim_end space_len space_back width space1 space2 space3 space80 kind_of same_raised raised utf8 valid_up_to char_len long_char second3 second4
slots_good c = refl

pub columns_good : (c : Contact) → AllHeld (slots c) → AllGood (column_fields c)
columns_good c h = rw (columns_laid c) (laid_good (slots c) (slots_good c) h)

-- What may stand in front of records: the journal's header, an export's header, and a station's fields, which join the first record.
-- Assumes nothing.
use Rattle.std.specs.declared.cmp.Ordering.TheVariants.{Less}
use mathlib.Core.Path.{◌≡◌, refl, sym, ap, ◌∙◌}
use mathlib.Core.Bool.{Bool, true, false}
use mathlib.Core.List.{List, [], ◌∷◌, ◌++◌, append_assoc}
use Prim.Native.Nat.{ℕ, suc, ◌^◌, ◌≤◌, ◌<◌}
use native.Mathlib.Omega.{arith}
use lib.ListN.{length, length-map}
use Rattle.text.specs.Pick.{pick, both}
use Rattle.text.specs.Walk.{lead, ends}
use Rattle.text.specs.Find.{other}
use Rattle.text.specs.Space.{space1, space2, space3, space80, space_len, space_back, width, trim_start, trim_end, trimmed, blank}
use Rattle.text.specs.Utf8.{char_len, valid_up_to, utf8, Utf8}
use Rattle.text.proofs.BoolLaws.{both_left, both_right}
use Rattle.letters.specs.Capitals.{raised, capitals}
use Rattle.letters.specs.Same.{same_raised}
use Rattle.letters.specs.Order.{order}
use Rattle.letters.proofs.OrderLaws.{order_trans}
use Rattle.letters.proofs.CapitalLaws.{capitals_twice}
use Rattle.letters.proofs.SpaceLaws.{trim_capitals}
use Rattle.decimal.specs.Digits.{digits, decimal}
use Rattle.tags.specs.Tags.{colon, gt, kind_of}
use Rattle.adif.specs.Grammar.{Field}
use Rattle.adif.specs.Limits.{Before, Ascending}
use Rattle.fields.specs.Written.{field_text, fields_text, record_text}
use Rattle.fields.specs.Parts.{field_as}
use Rattle.rowcheck.specs.Check.{lacks, writable}
use Rattle.headers.specs.Headers.{adif_version, program_id, program_version, created_timestamp, rigflow, journal_header, journal_fields, export_fields, export_header}
use Rattle.headers.specs.Answer.{all_utf8}
use Rattle.station.specs.Station.{my_county, my_cq_zone, my_gridsquare, my_itu_zone, my_name, my_state, operator, station_callsign, given, station_fields, all7}
use Rattle.trip.specs.File.{Good, AllGood, header, front_text, Fit}
use Rattle.trip.proofs.Raised.{good_raised, kind_raised, without_raised}
use Rattle.trip.proofs.Accepted.{name_trim, name_colon, name_gt, name_kind, utf8_is}
use Rattle.trip.proofs.Means.{named}
use Rattle.trip.proofs.Trimmed.{trimmed_utf8, trimmed_short}

-- a name that can be written, with a value that is UTF-8
good_as : (name value : List ℕ) → writable name ≡ true → Utf8 name → Utf8 value → length value < 2 ^ 64 → Good (field_as name value)
good_as name value w u v s =
    record {
      trim = trim_capitals name ∙ ap capitals (name_trim name w);
      capital = capitals_twice name;
      no_colon = without_raised colon name (omega arith) (name_colon name w);
      no_gt = without_raised gt name (omega arith) (name_gt name w);
      plain = kind_raised name ∙ name_kind name w;
      name_utf8 = good_raised name ∙ u ∙ sym (length-map name raised);
      value_utf8 = v;
      short = s;
    }

-- the names of the headers can be written
adif_version_lem : (writable adif_version ≡ true) × Utf8 adif_version
unfolding lead ends other space1 space2 space3 space80 space_len space_back width trim_start trim_end char_len valid_up_to raised same_raised kind_of lacks writable
adif_version_lem = (refl, refl)

program_id_lem : (writable program_id ≡ true) × Utf8 program_id
unfolding lead ends other space1 space2 space3 space80 space_len space_back width trim_start trim_end char_len valid_up_to raised same_raised kind_of lacks writable
program_id_lem = (refl, refl)

program_version_lem : (writable program_version ≡ true) × Utf8 program_version
unfolding lead ends other space1 space2 space3 space80 space_len space_back width trim_start trim_end char_len valid_up_to raised same_raised kind_of lacks writable
program_version_lem = (refl, refl)

created_timestamp_lem : (writable created_timestamp ≡ true) × Utf8 created_timestamp
unfolding lead ends other space1 space2 space3 space80 space_len space_back width trim_start trim_end char_len valid_up_to raised same_raised kind_of lacks writable
created_timestamp_lem = (refl, refl)

program_is : Utf8 rigflow
unfolding lead char_len valid_up_to
program_is = refl

version_is : Utf8 (51 ∷ 46 ∷ 49 ∷ 46 ∷ 54 ∷ [])
unfolding lead char_len valid_up_to
version_is = refl

-- the journal's header is a front
pub journal_is : front_text (header journal_fields) ≡ journal_header
unfolding field_text raised digits decimal
journal_is = refl

pub journal_fits : Fit (header journal_fields)
journal_fits = (
  omega arith,
  (
    good_as adif_version (51 ∷ 46 ∷ 49 ∷ 46 ∷ 54 ∷ []) adif_version_lem.0 adif_version_lem.1 version_is (omega arith),
    (good_as program_id rigflow program_id_lem.0 program_id_lem.1 program_is (omega arith), tt),
  ),
)

-- and so is an export's
module _ (version program created : List ℕ) where
  pub export_is : front_text (header (export_fields version program created)) ≡ export_header version program created
  unfolding export_header
  export_is = refl

  pub export_fits : Utf8 version → Utf8 program → Utf8 created → length version < 2 ^ 64 → length program < 2 ^ 64 → length created < 2 ^ 64
      → Fit (header (export_fields version program created))
  export_fits u v w a b c = (
    omega arith,
    (
      good_as adif_version version adif_version_lem.0 adif_version_lem.1 u a,
      (
        good_as program_id rigflow program_id_lem.0 program_id_lem.1 program_is (omega arith),
        (
          good_as program_version program program_version_lem.0 program_version_lem.1 v b,
          (good_as created_timestamp created created_timestamp_lem.0 created_timestamp_lem.1 w c, tt),
        ),
      ),
    ),
  )

-- ---- a station's fields
-- its names can be written
my_county_lem : (writable my_county ≡ true) × Utf8 my_county
unfolding lead ends other space1 space2 space3 space80 space_len space_back width trim_start trim_end char_len valid_up_to raised same_raised kind_of lacks writable
my_county_lem = (refl, refl)

my_cq_zone_lem : (writable my_cq_zone ≡ true) × Utf8 my_cq_zone
unfolding lead ends other space1 space2 space3 space80 space_len space_back width trim_start trim_end char_len valid_up_to raised same_raised kind_of lacks writable
my_cq_zone_lem = (refl, refl)

my_gridsquare_lem : (writable my_gridsquare ≡ true) × Utf8 my_gridsquare
unfolding lead ends other space1 space2 space3 space80 space_len space_back width trim_start trim_end char_len valid_up_to raised same_raised kind_of lacks writable
my_gridsquare_lem = (refl, refl)

my_itu_zone_lem : (writable my_itu_zone ≡ true) × Utf8 my_itu_zone
unfolding lead ends other space1 space2 space3 space80 space_len space_back width trim_start trim_end char_len valid_up_to raised same_raised kind_of lacks writable
my_itu_zone_lem = (refl, refl)

my_name_lem : (writable my_name ≡ true) × Utf8 my_name
unfolding lead ends other space1 space2 space3 space80 space_len space_back width trim_start trim_end char_len valid_up_to raised same_raised kind_of lacks writable
my_name_lem = (refl, refl)

my_state_lem : (writable my_state ≡ true) × Utf8 my_state
unfolding lead ends other space1 space2 space3 space80 space_len space_back width trim_start trim_end char_len valid_up_to raised same_raised kind_of lacks writable
my_state_lem = (refl, refl)

its_operator : (writable operator ≡ true) × Utf8 operator
unfolding lead ends other space1 space2 space3 space80 space_len space_back width trim_start trim_end char_len valid_up_to raised same_raised kind_of lacks writable
its_operator = (refl, refl)

its_callsign : (writable station_callsign ≡ true) × Utf8 station_callsign
unfolding lead ends other space1 space2 space3 space80 space_len space_back width trim_start trim_end char_len valid_up_to raised same_raised kind_of lacks writable
its_callsign = (refl, refl)

given_good : (name v : List ℕ) (rest : List Field) → (writable name ≡ true) × Utf8 name → Utf8 v → length v < 2 ^ 64 → AllGood rest → AllGood (given name v rest)
given_good name v rest w u s g = by (blank v)
  where
    by : (t : Bool) → AllGood (pick t rest (field_as name (trimmed v) ∷ rest))
    by true = g
    by false = (good_as name (trimmed v) w.0 w.1 (trimmed_utf8 v u) (omega (arith, trimmed_short v)), g)

-- names above a name, and names that rise
abbrev pub Above : List ℕ → List Field → Type 0
Above name [] = Unit {0}
Above name (f ∷ fs) = (order name f.name ≡ Less) × Above name fs

pub above_trans : (m n : List ℕ) → order m n ≡ Less → (fs : List Field) → Above n fs → Above m fs
above_trans m n h [] a = tt
above_trans m n h (f ∷ fs) a = (order_trans m n f.name h a.0, above_trans m n h fs a.1)

first_above : (f : Field) (fs : List Field) → Above f.name fs → Before named f fs
first_above f [] a = tt
first_above f (g ∷ gs) a = a.0

-- fields that rise, all above m
abbrev Rising : List ℕ → List Field → Type 0
Rising m fs = Ascending named fs × Above m fs

given_rises : (m name v : List ℕ) (rest : List Field) → order m (capitals name) ≡ Less → Rising (capitals name) rest → Rising m (given name v rest)
given_rises m name v rest e r = by (blank v)
  where
    by : (t : Bool) → Rising m (pick t rest (field_as name (trimmed v) ∷ rest))
    by true = (r.0, above_trans m (capitals name) e rest r.1)
    by false = ((first_above (field_as name (trimmed v)) rest r.1, r.0), (e, above_trans m (capitals name) e rest r.1))

given_few : (name v : List ℕ) (rest : List Field) → length (given name v rest) ≤ suc (length rest)
given_few name v rest = by (blank v)
  where
    by : (t : Bool) → length (pick t rest (field_as name (trimmed v) ∷ rest)) ≤ suc (length rest)
    by true = omega arith
    by false = omega arith

module _ (call grid name state county cq itu : List ℕ) where
  abbrev station : List Field
  station = station_fields call grid name state county cq itu

  -- at most 8 fields, in strict byte order of their names
  pub station_few : length station ≤ 8
  station_few =
      let r₁ : List Field = given station_callsign call [] in
      let r₂ : List Field = given operator call r₁ in
      let r₃ : List Field = given my_state state r₂ in
      let r₄ : List Field = given my_name name r₃ in
      let r₅ : List Field = given my_itu_zone itu r₄ in
      let r₆ : List Field = given my_gridsquare grid r₅ in
      let r₇ : List Field = given my_cq_zone cq r₆ in
      omega
      (arith, given_few station_callsign call [], given_few operator call r₁, given_few my_state state r₂, given_few my_name name r₃, given_few my_itu_zone itu r₄, given_few my_gridsquare grid r₅, given_few my_cq_zone cq r₆, given_few my_county county r₇)

  pub station_rises : Ascending named station
  unfolding raised
  station_rises =
      (given_rises [] my_county county _ refl
      (given_rises (capitals my_county) my_cq_zone cq _ refl
      (given_rises (capitals my_cq_zone) my_gridsquare grid _ refl
      (given_rises (capitals my_gridsquare) my_itu_zone itu _ refl
      (given_rises (capitals my_itu_zone) my_name name _ refl
      (given_rises (capitals my_name) my_state state _ refl
      (given_rises (capitals my_state) operator call _ refl
      (given_rises (capitals operator) station_callsign call [] refl (tt, tt))))))))).0

  -- of UTF-8 texts they can be written and read
  pub station_good : (length call < 2 ^ 64) × (length grid < 2 ^ 64) × (length name < 2 ^ 64) × (length state < 2 ^ 64) × (length county < 2 ^ 64) × (length cq < 2 ^ 64) × (length itu < 2 ^ 64)
      → all7 call grid name state county cq itu ≡ true → AllGood station
  unfolding all7 all_utf8
  station_good s e =
      let A : Bool = both (utf8 call) (both (utf8 grid) (utf8 name)) in
      let B : Bool = both (utf8 state) (both (utf8 county) (utf8 cq)) in
      let a : A ≡ true = both_left A (both B (utf8 itu)) e in
      let d : both B (utf8 itu) ≡ true = both_right A (both B (utf8 itu)) e in
      let b : B ≡ true = both_left B (utf8 itu) d in
      let a' : both (utf8 grid) (utf8 name) ≡ true = both_right (utf8 call) (both (utf8 grid) (utf8 name)) a in
      let b' : both (utf8 county) (utf8 cq) ≡ true = both_right (utf8 state) (both (utf8 county) (utf8 cq)) b in
      let u : Utf8 call = utf8_is call (both_left (utf8 call) (both (utf8 grid) (utf8 name)) a) in
      given_good my_county county _ my_county_lem (utf8_is county (both_left (utf8 county) (utf8 cq) b')) s.4
      (given_good my_cq_zone cq _ my_cq_zone_lem (utf8_is cq (both_right (utf8 county) (utf8 cq) b')) s.5
      (given_good my_gridsquare grid _ my_gridsquare_lem (utf8_is grid (both_left (utf8 grid) (utf8 name) a')) s.1
      (given_good my_itu_zone itu _ my_itu_zone_lem (utf8_is itu (both_right B (utf8 itu) d)) s.6
      (given_good my_name name _ my_name_lem (utf8_is name (both_right (utf8 grid) (utf8 name) a')) s.2
      (given_good my_state state _ my_state_lem (utf8_is state (both_left (utf8 state) (both (utf8 county) (utf8 cq)) b)) s.3
      (given_good operator call _ its_operator u s.0 (given_good station_callsign call [] its_callsign u s.0 tt)))))))

-- fields in front of a record are fields of that record
pub fields_join : (fs r : List Field) → fields_text fs ++ record_text r ≡ record_text (fs ++ r)
fields_join [] r = refl
fields_join (f ∷ fs) r = append_assoc (field_text f) (fields_text fs) (record_text r) ∙ ap (λ (l : List ℕ). field_text f ++ l) (fields_join fs r)

pub good_join : (fs r : List Field) → AllGood fs → AllGood r → AllGood (fs ++ r)
good_join [] r a b = b
good_join (f ∷ fs) r a b = (a.0, good_join fs r a.1 b)

-- What is written reads back as what was written, and no two lists of records give the same text. Assumes nothing.
use mathlib.Core.Path.{◌≡◌, sym, ap, ◌∙◌}
use mathlib.Core.List.{List, [], ◌∷◌}
use Prim.Native.Nat.{ℕ, ◌+◌, ◌≤◌}
use native.Mathlib.Omega.{arith}
use lib.ListN.{length}
use Rattle.text.specs.Utf8.{Utf8}
use Rattle.text.proofs.AppendLaws.{utf8_append, utf8_ascii}
use Rattle.decimal.specs.Digits.{decimal}
use Rattle.tags.specs.Tags.{lt, gt, colon}
use Rattle.adif.specs.Records.{Outcome, records, total}
use Rattle.adif.specs.Grammar.{Field, Why}
use Rattle.adif.specs.Reading.{RowsRead, read_tags, read_text}
use Rattle.adif.specs.Told.{field_of, told_by}
use Rattle.adif.proofs.Mapped.{map_outcome}
use Rattle.adif.proofs.Agree.{reading_is}
use Rattle.adif.proofs.Exactly.{fit}
use Rattle.fields.specs.Written.{field_text, end_of_record, end_of_header, record_text, header_text}
use Rattle.trip.specs.File.{Good, AllGood, Comment, Front, bare, header, Fit, Records, records_text, file_text, AllWritable, read_as}
use Rattle.trip.proofs.Lengths.{decimal_ascii}
use Rattle.trip.proofs.Says.{file_says}
use Rattle.trip.proofs.Means.{file_means}

-- ---- the text is UTF-8
byte_utf8 : (x : ℕ) (xs : List ℕ) → x ≤ 0x7F → Utf8 xs → Utf8 (x ∷ xs)
byte_utf8 x xs h g = utf8_append (x ∷ []) xs (utf8_ascii (x ∷ []) (h, tt)) g

pub field_utf8 : (f : Field) → Good f → Utf8 (field_text f)
unfolding field_text
field_utf8 f g =
    byte_utf8 lt _ (omega arith)
    (utf8_append f.name _ g.name_utf8
    (byte_utf8 colon _ (omega arith)
    (utf8_append (decimal (length f.value)) _ (utf8_ascii _ (decimal_ascii (length f.value)))
    (byte_utf8 gt _ (omega arith) (utf8_append f.value (0x20 ∷ []) g.value_utf8 (utf8_ascii (0x20 ∷ []) (omega arith, tt)))))))

record_utf8 : (r : List Field) → AllGood r → Utf8 (record_text r)
record_utf8 [] g = utf8_ascii end_of_record (omega arith)
record_utf8 (f ∷ fs) g = utf8_append (field_text f) (record_text fs) (field_utf8 f g.0) (record_utf8 fs g.1)

header_utf8 : (hs : List Field) → AllGood hs → Utf8 (header_text hs)
header_utf8 [] g = utf8_ascii end_of_header (omega arith)
header_utf8 (f ∷ fs) g = utf8_append (field_text f) (header_text fs) (field_utf8 f g.0) (header_utf8 fs g.1)

records_utf8 : (rs : Records) → AllWritable rs → (last : List ℕ) → Comment last → Utf8 (records_text rs last)
records_utf8 [] g last l = l.good
records_utf8 (r ∷ rs) g last l =
    utf8_append r.0 _ g.0.good (utf8_append (record_text r.1) (records_text rs last) (record_utf8 r.1 g.1.fields) (records_utf8 rs g.2 last l))

pub file_utf8 : (front : Front) → Fit front → (rs : Records) → AllWritable rs → (last : List ℕ) → Comment last → Utf8 (file_text front rs last)
unfolding file_text
file_utf8 bare b rs g last l = records_utf8 rs g last l
file_utf8 (header hs) b rs g last l = utf8_append (header_text hs) (records_text rs last) (header_utf8 hs b.1) (records_utf8 rs g last l)

-- what a reading of s gives, as fields and told refusals
abbrev pub told : List ℕ → RowsRead → Outcome Field Why
told s r = map_outcome (field_of s) (told_by s) r

module _ (front : Front) (b : Fit front) (rs : Records) (g : AllWritable rs) (last : List ℕ) (l : Comment last) (few : length rs ≤ 65535) where
  abbrev text : List ℕ
  text = file_text front rs last

  tags_back : (room : ℕ) → total (read_as rs) ≤ room → told text (read_tags text room) ≡ records (read_as rs)
  tags_back room h = reading_is text room (file_utf8 front b rs g last l) (file_says front b rs g last l) ∙ file_means front b room rs g few h

  -- the round trip: at most 16,777,216 bytes, and a row for each field
  pub read_back_lem : (room : ℕ) → total (read_as rs) ≤ room → length text ≤ 16777216 → told text (read_text text room) ≡ records (read_as rs)
  unfolding read_text
  read_back_lem room h n = rw (fit text n (file_utf8 front b rs g last l)) (tags_back room h)

-- two lists of records that read differently never come out as the same text
pub one_list : (front front' : Front) → Fit front → Fit front' → (rs rs' : Records) (last last' : List ℕ) → AllWritable rs → AllWritable rs' → Comment last → Comment last'
    → length rs ≤ 65535 → length rs' ≤ 65535 → file_text front rs last ≡ file_text front' rs' last' → read_as rs ≡ read_as rs'
one_list front front' b b' rs rs' last last' g g' l l' few few' e =
    let room : ℕ = total (read_as rs) + total (read_as rs') in
    let s : List ℕ = file_text front rs last in
    let s' : List ℕ = file_text front' rs' last' in
    let p : told s (read_tags s room) ≡ records (read_as rs) = tags_back front b rs g last l few room (omega arith) in
    let q : told s' (read_tags s' room) ≡ records (read_as rs') = tags_back front' b' rs' g' last' l' few' room (omega arith) in
    same (read_as rs) (read_as rs') (sym p ∙ ap (λ (t : List ℕ). told t (read_tags t room)) e ∙ q)
  where
    same : (a c : List (List Field)) → ◌≡◌ {A = Outcome Field Why} (records a) (records c) → a ≡ c
    same a c h = cc

-- Records put into a text: what may stand there, and what such a text gives when it is read.
use Rattle.std.specs.Prelude.{◌≡◌, List, [], ◌∷◌, ◌++◌, ℕ, ◌^◌, ◌≤◌, ◌<◌, length}
use Rattle.text.specs.Utf8.{Utf8}
use Rattle.text.specs.Space.{trimmed}
use Rattle.letters.specs.Capitals.{capitals}
use Rattle.tags.specs.Tags.{lt, gt, colon, kind_of}
use Rattle.tags.specs.declared.Kind.TheVariants.{FieldName}
use Rattle.adif.specs.Records.{put}
use Rattle.adif.specs.Grammar.{Field, Without}
use Rattle.fields.specs.Written.{record_text, header_text}

-- a field that can be written and read: its name trimmed, in capitals, with no ":" or ">", no control name; both parts UTF-8
pub record Good (f : Field) : Type 0 where
  pub trim : trimmed f.name ≡ f.name
  pub capital : capitals f.name ≡ f.name
  pub no_colon : Without colon f.name
  pub no_gt : Without gt f.name
  pub plain : kind_of f.name ≡ FieldName
  pub name_utf8 : Utf8 f.name
  pub value_utf8 : Utf8 f.value
  pub short : length f.value < 2 ^ 64

abbrev pub AllGood : List Field → Type 0
AllGood [] = Unit {0}
AllGood (f ∷ fs) = Good f × AllGood fs

-- a record by its fields, 1 to 256
pub record Writable (r : List Field) : Type 0 where
  pub some : 0 < length r
  pub few : length r ≤ 256
  pub fields : AllGood r

-- a comment: UTF-8 with no "<"
pub record Comment (c : List ℕ) : Type 0 where
  pub no_lt : Without lt c
  pub good : Utf8 c

-- what may stand before the records: nothing, or a header of at most 256 fields
pub data Front : Type 0 where
  bare : Front
  header : List Field → Front

abbrev pub front_text : Front → List ℕ
front_text bare = []
front_text (header hs) = header_text hs

abbrev pub Fit : Front → Type 0
Fit bare = Unit {0}
Fit (header hs) = (length hs ≤ 256) × AllGood hs

-- records, each after a comment, and a comment at the end
abbrev pub Records : Type 0
Records = List (List ℕ × List Field)

abbrev pub records_text : Records → List ℕ → List ℕ
records_text [] last = last
records_text (r ∷ rs) last = r.0 ++ (record_text r.1 ++ records_text rs last)

unfoldable pub file_text : Front → Records → List ℕ → List ℕ
file_text front rs last = front_text front ++ records_text rs last

abbrev pub AllWritable : Records → Type 0
AllWritable [] = Unit {0}
AllWritable (r ∷ rs) = Comment r.0 × Writable r.1 × AllWritable rs

-- the fields one after the other, each put by its name
abbrev pub gathered : List Field → List Field → List Field
gathered hand [] = hand
gathered hand (f ∷ fs) = gathered (put (λ (g : Field). g.name) f hand) fs

-- the records as they are read
abbrev pub read_as : Records → List (List Field)
read_as [] = []
read_as (r ∷ rs) = gathered [] r.1 ∷ read_as rs

-- and as they were written
abbrev pub in_file : Records → List (List Field)
in_file [] = []
in_file (r ∷ rs) = r.1 ∷ in_file rs

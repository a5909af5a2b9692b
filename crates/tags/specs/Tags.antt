-- The tags of an ADIF text, by their places in it.
use Rattle.tags.specs.declared.Tag.TheVariants.{End, Eof, Eoh, Eor, Field}
use Rattle.tags.specs.declared.Tag.{Tag}
use Rattle.refusals.specs.declared.Refusal.{Refusal}
use Rattle.std.specs.Prelude.{ℕ, ◌+◌, ◌-◌, List, [], ◌∷◌, length, get_or, take, drop, ltb, leb, eqb, Option, Some, None, Result, Ok, Err}
use Rattle.text.specs.Pick.{pick}
use Rattle.text.specs.Walk.{ends}
use Rattle.text.specs.Find.{other}
use Rattle.text.specs.Utf8.{cont}
use Rattle.text.specs.Space.{trim_start, trim_end, trimmed}
use Rattle.letters.specs.Same.{same_raised}
use Rattle.decimal.specs.Decimal.{unsigned_of}
use Rattle.refusals.specs.declared.Refusal.TheVariants.{UnterminatedTag, MissingLength, BadLength, TruncatedValue, NonUtf8}
use Rattle.tags.specs.declared.Kind.{Kind}
use Rattle.tags.specs.declared.Kind.TheVariants.{EndOfHeader, EndOfRecord, EndOfFile, FieldName}

-- "<", ">", ":"
abbrev pub lt : ℕ
lt = 0x3C

abbrev pub gt : ℕ
gt = 0x3E

abbrev pub colon : ℕ
colon = 0x3A

-- the control names: "EOH", "EOR", "APP_LOTW_EOF"
abbrev pub eoh : List ℕ
eoh = 69 ∷ 79 ∷ 72 ∷ []

abbrev pub eor : List ℕ
eor = 69 ∷ 79 ∷ 82 ∷ []

abbrev pub eof : List ℕ
eof = 65 ∷ 80 ∷ 80 ∷ 95 ∷ 76 ∷ 79 ∷ 84 ∷ 87 ∷ 95 ∷ 69 ∷ 79 ∷ 70 ∷ []

unfoldable pub kind_of : List ℕ → Kind
kind_of name =
    pick (same_raised name eoh) EndOfHeader (pick (same_raised name eor) EndOfRecord (pick (same_raised name eof) EndOfFile FieldName))

-- the place of the first colon, or the length
unfoldable pub colon_at : List ℕ → ℕ
colon_at t = ends (other colon) t 0

-- of the inside t of a tag: where its name starts, and the name's length
unfoldable pub name_at : List ℕ → ℕ
name_at t = trim_start (take (colon_at t) t)

unfoldable pub name_length : List ℕ → ℕ
name_length t = trim_end (drop (name_at t) (take (colon_at t) t))

-- where the name stands in the text, in which the inside starts at a; an empty name is at place 0
unfoldable pub name_place : ℕ → List ℕ → ℕ
name_place a t = pick (eqb (name_length t) 0) 0 (a + name_at t)

unfoldable pub name_of : List ℕ → List ℕ
name_of t = trimmed (take (colon_at t) t)

-- the length that stands between the first colon, at c, and the second
unfoldable pub length_after : List ℕ → ℕ → Option ℕ
length_after t c = unsigned_of (trimmed (take (colon_at (drop (c + 1) t)) (drop (c + 1) t)))

-- the field of the tag that is opened at i, of the name of k bytes at a, whose value is the n bytes from `next` on: 5, 6, and 7 where it
-- ends inside a character
unfoldable pub value_of : List ℕ → ℕ → ℕ → ℕ → ℕ → Option ℕ → Result Tag Refusal
value_of s i a k next None = Err (BadLength i a k)
value_of s i a k next (Some n) =
    pick (leb n (length s - next)) (pick (cont (get_or s (next + n) 0)) (Err (NonUtf8 i a k)) (Ok (Field i a k next n)))
    (Err (TruncatedValue i a k n (length s - next)))

-- a tag that is opened at i, whose inside is t, and that ends at `next`
unfoldable pub by_kind : List ℕ → ℕ → List ℕ → ℕ → Kind → Result Tag Refusal
by_kind s i t next EndOfHeader = Ok (Eoh next)
by_kind s i t next EndOfRecord = Ok (Eor i next)
by_kind s i t next EndOfFile = Ok Eof
by_kind s i t next FieldName =
    pick (ltb (colon_at t) (length t)) (value_of s i (name_place (i + 1) t) (name_length t) next (length_after t (colon_at t)))
    (Err (MissingLength i (name_place (i + 1) t) (name_length t)))

unfoldable pub tag_of : List ℕ → ℕ → List ℕ → ℕ → Result Tag Refusal
tag_of s i t next = by_kind s i t next (kind_of (name_of t))

-- the tag that is opened at i, and closed at e if at all
unfoldable pub closed_at : List ℕ → ℕ → ℕ → Result Tag Refusal
closed_at s i e = pick (ltb e (length s)) (tag_of s i (take (e - (i + 1)) (drop (i + 1) s)) (e + 1)) (Err (UnterminatedTag i))

-- the tag that is opened at i, if one is
unfoldable pub open_at : List ℕ → ℕ → Result Tag Refusal
open_at s i = pick (ltb i (length s)) (closed_at s i (ends (other gt) s (i + 1))) (Ok End)

-- the first tag from `at` on
unfoldable pub tag_at : List ℕ → ℕ → Result Tag Refusal
tag_at s at = open_at s (ends (other lt) s at)

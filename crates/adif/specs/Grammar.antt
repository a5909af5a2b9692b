-- The grammar of ADIF text: what a text says, by what it is put together from.
use Rattle.std.specs.Prelude.{◌≡◌, true, false, List, [], ◌∷◌, ◌++◌, ℕ, ◌<◌, length, Some, None}
use Rattle.text.specs.Utf8.{utf8}
use Rattle.text.specs.Space.{trimmed}
use Rattle.letters.specs.Capitals.{capitals}
use Rattle.decimal.specs.Decimal.{unsigned_of}
use Rattle.tags.specs.Tags.{lt, gt, colon, kind_of}
use Rattle.tags.specs.declared.Kind.TheVariants.{EndOfHeader, EndOfRecord, EndOfFile, FieldName}
use Rattle.adif.specs.Records.{Fields, Item, eoh, eor, field, Ending, whole, fault}

-- a field by its name in capitals and its value
pub record Field : Type 0 where
  pub name : List ℕ
  pub value : List ℕ

-- why a text is refused: its number in docs/SCOPE.md, and with 4 to 7 the name, with 6 the length that the tag gives and the bytes left
pub record Why : Type 0 where
  pub number : ℕ
  pub name : List ℕ
  pub wanted : ℕ
  pub left : ℕ

abbrev pub why : ℕ → Why
why n = record { number = n; name = []; wanted = 0; left = 0 }

abbrev pub why_of : ℕ → List ℕ → Why
why_of n name = record { number = n; name = name; wanted = 0; left = 0 }

abbrev pub plain : Fields Field Why
plain = record { name = λ f. f.name; many_names = why 8; many_records = why 9; few_rows = why 10 }

-- xs has no byte b
abbrev pub Without : ℕ → List ℕ → Type 0
Without b [] = Unit {0}
Without b (x ∷ xs) = (x ≡ b → ⊥) × Without b xs

-- what stands before the first b of xs, or all of xs
pub data Cut (b : ℕ) : List ℕ → List ℕ → Type 0 where
  all : {xs : List ℕ} → Without b xs → Cut b xs xs
  upto : {xs pre : List ℕ} (post : List ℕ) → Without b pre → xs ≡ pre ++ b ∷ post → Cut b xs pre

-- text: a comment, "<", the inside t of a tag, ">", the rest
pub record Tagged (text t rest : List ℕ) : Type 0 where
  pub gap : List ℕ
  pub comment : Without lt gap
  pub closed : Without gt t
  pub is : text ≡ gap ++ lt ∷ (t ++ gt ∷ rest)

-- t: a name, ":", a length, and perhaps ":" and a type
pub record Sized (t name len : List ℕ) : Type 0 where
  pub more : List ℕ
  pub named : Without colon name
  pub cut : Cut colon more len
  pub is : t ≡ name ++ colon ∷ more

abbrev pub Items : Type 0
Items = List (Item Field)

-- what a text says: its items, and how it ends
pub data Says : List ℕ → Items → Ending Why → Type 0 where
  -- a comment to the end; or a tag that ends the reading
  over : {text : List ℕ} → Without lt text → Says text [] whole
  eof_tag : {text t rest n : List ℕ} → Tagged text t rest → Cut colon t n → kind_of (trimmed n) ≡ EndOfFile → Says text [] whole
  -- the header's end, a record's end
  eoh_tag : {text t rest n : List ℕ} {is : Items} {e : Ending Why} → Tagged text t rest → Cut colon t n → kind_of (trimmed n) ≡ EndOfHeader
      → Says rest is e → Says text (eoh ∷ is) e
  eor_tag : {text t rest n : List ℕ} {is : Items} {e : Ending Why} → Tagged text t rest → Cut colon t n → kind_of (trimmed n) ≡ EndOfRecord
      → Says rest is e → Says text (eor ∷ is) e
  -- a field: the length is that of its value, which is UTF-8
  field_tag : {text t n l rest : List ℕ} (v more : List ℕ) {is : Items} {e : Ending Why} → Tagged text t rest → Sized t n l → kind_of (trimmed n) ≡ FieldName
      → unsigned_of (trimmed l) ≡ Some (length v) → rest ≡ v ++ more → utf8 v ≡ true
      → Says more is e → Says text (field (record { name = capitals (trimmed n); value = v }) ∷ is) e
  -- what is refused: 3 a tag with no ">", 4 a field with no length, 5 a length that is no number, 6 a value longer than what is left, 7 one
  -- that is not UTF-8
  unterminated : {text : List ℕ} (gap t : List ℕ) → Without lt gap → Without gt t → text ≡ gap ++ lt ∷ t → Says text [] (fault (why 3))
  missing : {text t rest : List ℕ} → Tagged text t rest → Without colon t → kind_of (trimmed t) ≡ FieldName
      → Says text [] (fault (why_of 4 (capitals (trimmed t))))
  bad : {text t rest n l : List ℕ} → Tagged text t rest → Sized t n l → kind_of (trimmed n) ≡ FieldName
      → unsigned_of (trimmed l) ≡ None → Says text [] (fault (why_of 5 (capitals (trimmed n))))
  truncated : {text t rest n l : List ℕ} {k : ℕ} → Tagged text t rest → Sized t n l → kind_of (trimmed n) ≡ FieldName
      → unsigned_of (trimmed l) ≡ Some k → length rest < k
      → Says text [] (fault (record { number = 6; name = capitals (trimmed n); wanted = k; left = length rest }))
  torn : {text t rest n l : List ℕ} (v more : List ℕ) → Tagged text t rest → Sized t n l → kind_of (trimmed n) ≡ FieldName
      → unsigned_of (trimmed l) ≡ Some (length v) → rest ≡ v ++ more → utf8 v ≡ false → Says text [] (fault (why_of 7 (capitals (trimmed n))))

-- What is proved of the places that refusals tell. The grammar has no places: it says what stands before one, and what stands there.
use Rattle.std.specs.Prelude.{◌≡◌, List, [], ◌∷◌, ◌++◌, ℕ, ◌≤◌, length}
use Rattle.refusals.specs.Refusals.{number_of, place_of}
use Rattle.refusals.specs.declared.Refusal.{Refusal}
use Rattle.tags.specs.Tags.{lt}
use Rattle.adif.specs.Records.{Item, eor, field, Ending, whole, fault, refused, on, no, act, finish}
use Rattle.adif.specs.Grammar.{Field, Why, plain, Items, Says}
use Rattle.adif.specs.Reading.{read_text}
use Rattle.adif.specs.Told.{told_by}

-- a text in two: what stands before a tag, which says its items whole, and from the tag on a text that is refused at once
pub record Split (text : List ℕ) (is : Items) (w : Why) : Type 0 where
  pub before : List ℕ
  pub from : List ℕ
  pub cut : text ≡ before ++ (lt ∷ from)
  pub says : Says before is whole
  pub refuses : Says (lt ∷ from) [] (fault w)

-- so of every text that the grammar refuses
abbrev pub RefusedAtATag : Type 0
RefusedAtATag = (text : List ℕ) (is : Items) (w : Why) → Says text is (fault w) → Split text is w

-- and where the reading refuses with 3 to 7, the tag is at the place that it tells
abbrev pub PlacedAtTheTag : Type 0
PlacedAtTheTag =
    (s : List ℕ) (room : ℕ) (why : Refusal) → read_text s room ≡ refused why → 3 ≤ number_of why → number_of why ≤ 7
    → (is : Items) × (S : Split s is (told_by s why)) × (length S.before ≡ place_of why)

-- items that pass no limit, and the record in hand and the closed records that they leave of others
pub data Leaves (room : ℕ) : List Field → List (List Field) → Items → List Field → List (List Field) → Type 0 where
  stay : {hand : List Field} {done : List (List Field)} → Leaves room hand done [] hand done
  pass : {hand mid to : List Field} {done amid unto : List (List Field)} {i : Item Field} {is : Items}
      → act plain room hand done i ≡ on mid amid → Leaves room mid amid is to unto → Leaves room hand done (i ∷ is) to unto

-- what is refused, with these in hand and closed, and what the text goes on with there: a tag, refused at once; a field, of one name too
-- many; an EOR that closes a record too many, or one that has no room; or nothing, where the end does that
pub data Here (room : ℕ) (hand : List Field) (done : List (List Field)) (w : Why) : List ℕ → Type 0 where
  a_tag : (from : List ℕ) → Says (lt ∷ from) [] (fault w) → Here room hand done w (lt ∷ from)
  a_field : (from : List ℕ) (f : Field) (is : Items) (e : Ending Why) → Says (lt ∷ from) (field f ∷ is) e → act plain room hand done (field f) ≡ no w
      → Here room hand done w (lt ∷ from)
  an_eor : (from : List ℕ) (is : Items) (e : Ending Why) → Says (lt ∷ from) (eor ∷ is) e → act plain room hand done eor ≡ no w
      → Here room hand done w (lt ∷ from)
  the_end : finish plain room hand done ≡ refused w → Here room hand done w []

-- a place of the text: what stands before it says its items whole, they pass no limit, and there the refusal is met
pub record Met (s : List ℕ) (room : ℕ) (w : Why) (place : ℕ) : Type 0 where
  pub before : List ℕ
  pub from : List ℕ
  pub cut : s ≡ before ++ from
  pub there : length before ≡ place
  pub is : Items
  pub says : Says before is whole
  pub hand : List Field
  pub done : List (List Field)
  pub leaves : Leaves room [] [] is hand done
  pub here : Here room hand done w from

-- that place is told by every refusal of the reading from 3 on
abbrev pub PlacedWhereMet : Type 0
PlacedWhereMet = (s : List ℕ) (room : ℕ) (why : Refusal) → read_text s room ≡ refused why → 3 ≤ number_of why → Met s room (told_by s why) (place_of why)

-- The reading accepts exactly the texts that the grammar lets through within the limits, with the same records. Assumes nothing.
use Rattle.std.specs.Prelude.{⊤, Result, Ok, Err}
use mathlib.Core.Path.{◌≡◌, refl, sym, ◌∙◌}
use mathlib.Core.Bool.{Bool, true, false}
use mathlib.Core.List.{List, [], ◌∷◌, map}
use Prim.Native.Nat.{ℕ, ◌≤◌}
use native.Mathlib.Omega.{arith}
use lib.ListN.{length}
use lib.Dec.{ltb}
use borrow.Author.Tests.{le-ltb, ltb-false}
use Rattle.text.specs.Pick.{pick}
use Rattle.text.specs.Utf8.{valid_up_to, char_len, Utf8}
use Rattle.text.proofs.Walks.{lead_le}
use Rattle.text.proofs.Utf8Laws.{char_within}
use Rattle.refusals.specs.Refusals.{of_text}
use Rattle.refusals.specs.declared.Refusal.{Refusal}
use Rattle.refusals.specs.declared.Refusal.TheVariants.{TooLong, NotUtf8}
use Rattle.adif.specs.Records.{Outcome, records, refused, Turn, on, no, then, total, act, Ending, whole, fault, meaning, plainly}
use Rattle.adif.specs.Grammar.{Field, Why, plain, Items, Says}
use Rattle.adif.specs.Limits.{Names256, AllAscending}
use Rattle.adif.specs.Reading.{Row, RowsRead, accepted, read_tags, read_text}
use Rattle.adif.specs.Told.{field_of, told_by}
use Rattle.adif.proofs.Mapped.{map_outcome}
use Rattle.adif.proofs.Agree.{reading_is}
use Rattle.adif.proofs.Total.{says_something}
use Rattle.adif.proofs.Plainly.{plain_reading, within_limits}
use Rattle.adif.proofs.Ordered.{plainly_ascending}

-- the records that a text makes by the grammar, with no limits
abbrev pub made : Items → List (List Field)
made is = plainly (λ f. f.name) [] false is

never : {F W : Type 0} (w : W) (rs : List (List F)) (r : Outcome F W) → r ≡ refused w → r ≡ records rs → ⊥
never w rs r p q = let z : ◌≡◌ {A = ℕ} 0 1 = cc in omega arith

-- a faulty end is never accepted
stuck : (room : ℕ) (w : Why) (rs : List (List Field)) (hand : List Field) (done : List (List Field)) (is : Items) → meaning plain room hand done is (fault w) ≡ records rs → ⊥
stuck room w rs hand done [] p = never w rs _ refl p
stuck room w rs hand done (i ∷ is) p = by (act plain room hand done i) p (λ h d. stuck room w rs h d is)
  where
    by : (o : Turn Field Why) → then o (λ h d. meaning plain room h d is (fault w)) ≡ records rs
        → ((h : List Field) (d : List (List Field)) → meaning plain room h d is (fault w) ≡ records rs → ⊥) → ⊥
    by (on h d) p k = k h d p
    by (no v) p k = never v rs _ refl p

-- what is no longer than 16,777,216 bytes and UTF-8 is refused neither with 1 nor with 2
pub fit : (s : List ℕ) → length s ≤ 16777216 → Utf8 s → of_text s ≡ Ok tt
unfolding of_text
fit s l u = simp (le-ltb 16777216 (length s) l, u, le-ltb (length s) (length s) (omega arith))

module _ (s : List ℕ) where
  short : valid_up_to s ≤ length s
  unfolding valid_up_to
  short = lead_le char_len char_within s

  pub is_utf8 : of_text s ≡ Ok tt → Utf8 s
  unfolding of_text
  is_utf8 e = by (ltb 16777216 (length s)) (ltb (valid_up_to s) (length s)) refl e
    where
      no_text : (w : Refusal) → ◌≡◌ {A = Result ⊤ Refusal} (Err w) (Ok tt) → ⊥
      no_text w p = let z : ◌≡◌ {A = ℕ} 0 1 = cc in omega arith

      by : (a b : Bool) → ltb (valid_up_to s) (length s) ≡ b
          → ◌≡◌ {A = Result ⊤ Refusal} (pick a (Err TooLong) (pick b (Err (NotUtf8 (valid_up_to s))) (Ok tt))) (Ok tt) → Utf8 s
      by true b q p = absurd (no_text TooLong p)
      by false true q p = absurd (no_text (NotUtf8 (valid_up_to s)) p)
      by false false q p = omega (arith, ltb-false (valid_up_to s) (length s) q, short)

  pub fit_length : of_text s ≡ Ok tt → length s ≤ 16777216
  unfolding of_text
  fit_length e = by (ltb 16777216 (length s)) refl e
    where
      by : (a : Bool) → ltb 16777216 (length s) ≡ a
          → ◌≡◌ {A = Result ⊤ Refusal} (pick a (Err TooLong) (pick (ltb (valid_up_to s) (length s)) (Err (NotUtf8 (valid_up_to s))) (Ok tt))) (Ok tt)
          → length s ≤ 16777216
      by true q p = absurd (let z : ◌≡◌ {A = ℕ} 0 1 = cc in omega arith)
      by false q p = ltb-false 16777216 (length s) q

  module _ (room : ℕ) where
    -- what is accepted was neither too long nor anything but UTF-8
    read_text_lem : (rows : List (List Row)) → read_text s room ≡ records rows → (of_text s ≡ Ok tt) × (read_tags s room ≡ records rows)
    unfolding read_text
    read_text_lem rows e = by (of_text s) refl e
      where
        by : (v : Result ⊤ Refusal) → of_text s ≡ v → accepted v (read_tags s room) ≡ records rows → (of_text s ≡ Ok tt) × (read_tags s room ≡ records rows)
        by (Ok tt) p q = (p, q)
        by (Err w) p q = absurd (never w rows _ refl q)

    abbrev Read-as : List (List Row) → Type 0
    Read-as rows = (is : Items) × Says s is whole × (map (map (field_of s)) rows ≡ made is)

    -- what is read is what the grammar says
    pub sound : (rows : List (List Row)) → read_text s room ≡ records rows → Read-as rows
    sound rows e =
        let (a, p) = read_text_lem rows e in
        let (is, end, w) = says_something s in
        by_end (is_utf8 a) p is end w
      where
        by_end : Utf8 s → read_tags s room ≡ records rows → (is : Items) (e : Ending Why) → Says s is e → Read-as rows
        by_end u p is whole w = (is, w, plain_reading plain room (map (map (field_of s)) rows) is [] [] (sym (reading_is s room u w) ∙ rw p))
        by_end u p is (fault v) w = absurd (stuck room v (map (map (field_of s)) rows) [] [] is (sym (reading_is s room u w) ∙ rw p))

    back : (r : RowsRead) (rs : List (List Field)) → map_outcome (field_of s) (told_by s) r ≡ records rs
        → (rows : List (List Row)) × (r ≡ records rows) × (map (map (field_of s)) rows ≡ rs)
    back (records rows) rs p = (rows, refl, cc)
    back (refused w) rs p = absurd (never (told_by s w) rs _ refl p)

    -- what the grammar says is read, within the limits: 16,777,216 bytes, 256 names a record, 65,535 records, rows enough
    pub complete : (is : Items) → length s ≤ 16777216 → Utf8 s → Says s is whole → Names256 (λ (f : Field). f.name) [] is → length (made is) ≤ 65535
        → total (made is) ≤ room → (rows : List (List Row)) × (read_text s room ≡ records rows) × (map (map (field_of s)) rows ≡ made is)
    unfolding read_text
    complete is l u w names few short =
        let (rows, p, q) = back (read_tags s room) (made is) (reading_is s room u w ∙ within_limits plain room is [] [] names (record { few = omega arith; short = omega arith })) in
        (rows, rw (fit s l u) p, q)

    -- the fields of every record that is read stand in strict byte order of their names
    pub read_ascending : (rows : List (List Row)) → read_text s room ≡ records rows → AllAscending (λ (f : Field). f.name) (map (map (field_of s)) rows)
    read_ascending rows e = let (is, w, q) = sound rows e in rw q (plainly_ascending (λ (f : Field). f.name) is [] false tt)

    -- what is refused in the tags is what the grammar refuses, or what passes a limit
    pub refused_as : (w : Refusal) → Utf8 s → read_tags s room ≡ refused w → (is : Items) × (e : Ending Why) × Says s is e × (meaning plain room [] [] is e ≡ refused (told_by s w))
    refused_as w u p = let (is, e, says) = says_something s in (is, e, says, sym (reading_is s room u says) ∙ rw p)

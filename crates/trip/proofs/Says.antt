-- A text of records says, by the grammar, their fields one after the other. Assumes nothing.
use mathlib.Core.Path.{◌≡◌, refl, ap}
use mathlib.Core.Bool.{true}
use mathlib.Core.List.{List, [], ◌∷◌, ◌++◌, append_assoc}
use Prim.Native.Nat.{ℕ}
use native.Mathlib.Omega.{arith}
use lib.ListN.{length}
use borrow.Author.Tests.{eq-eqb}
use Rattle.text.specs.Walk.{lead}
use Rattle.text.specs.Space.{space1, space2, space3, space80, space_len, space_back, width, trim_start, trim_end, trimmed}
use Rattle.text.specs.Utf8.{valid_up_to, utf8, Utf8}
use Rattle.letters.specs.Capitals.{raised, capitals}
use Rattle.letters.specs.Same.{same_raised}
use Rattle.decimal.specs.Digits.{decimal}
use Rattle.tags.specs.Tags.{lt, gt, colon, kind_of}
use Rattle.tags.specs.declared.Kind.TheVariants.{EndOfHeader, EndOfRecord}
use Rattle.adif.specs.Records.{eoh, eor, field, Ending, whole}
use Rattle.adif.specs.Grammar.{Field, Why, Items, Without, all, Tagged, Sized, Says, over, eoh_tag, eor_tag, field_tag}
use Rattle.fields.specs.Written.{field_text, record_text, header_text}
use Rattle.trip.specs.File.{Good, AllGood, Comment, Front, bare, header, Fit, Records, records_text, file_text, AllWritable}
use Rattle.trip.proofs.Lengths.{decimal_read, decimal_colon, decimal_gt}

pub without_append : (b : ℕ) (xs ys : List ℕ) → Without b xs → Without b ys → Without b (xs ++ ys)
without_append b [] ys p q = q
without_append b (x ∷ xs) ys p q = (p.0, without_append b xs ys p.1 q)

is_utf8 : (xs : List ℕ) → Utf8 xs → utf8 xs ≡ true
unfolding utf8
is_utf8 xs u = eq-eqb (valid_up_to xs) (length xs) u

-- a field, after a comment
module _ (f : Field) (g : Good f) (c : List ℕ) (w : Without lt c) (rest : List ℕ) where
  abbrev inside : List ℕ
  inside = f.name ++ colon ∷ decimal (length f.value)

  tagged : Tagged (c ++ (field_text f ++ rest)) inside (f.value ++ 0x20 ∷ rest)
  unfolding field_text
  tagged =
      record {
        gap = c;
        comment = w;
        closed = without_append gt f.name (colon ∷ decimal (length f.value)) g.no_gt ((λ e. omega arith), decimal_gt (length f.value));
        is = ap (λ (l : List ℕ). c ++ lt ∷ l) (simp append_assoc);
      }

  sized : Sized inside f.name (decimal (length f.value))
  sized = record { more = decimal (length f.value); named = g.no_colon; cut = all (decimal_colon (length f.value)); is = refl }

  pub field_says : {is : Items} {e : Ending Why} → Says (0x20 ∷ rest) is e → Says (c ++ (field_text f ++ rest)) (field f ∷ is) e
  field_says {is} {e} r =
      let z : Says (c ++ (field_text f ++ rest)) (field (record { name = capitals (trimmed f.name); value = f.value }) ∷ is) e
      = field_tag f.value (0x20 ∷ rest) tagged sized (rw g.trim g.plain) (decimal_read (length f.value) g.short) refl (is_utf8 f.value g.value_utf8) r in
      rw (g.trim, g.capital) at z

-- the items of fields, and of records
abbrev pub items : List Field → Items → Items
items [] is = is
items (f ∷ fs) is = field f ∷ items fs is

abbrev pub all_items : Records → Items
all_items [] = []
all_items (r ∷ rs) = items r.1 (eor ∷ all_items rs)

abbrev pub front_items : Front → Items → Items
front_items bare is = is
front_items (header hs) is = items hs (eoh ∷ is)

-- the tags of no length
end_tag : (c t rest : List ℕ) → Without lt c → Without gt t → Tagged (c ++ lt ∷ (t ++ gt ∷ rest)) t rest
end_tag c t rest w v = record { gap = c; comment = w; closed = v; is = refl }

eor_word : kind_of (trimmed (69 ∷ 79 ∷ 82 ∷ [])) ≡ EndOfRecord
unfolding kind_of trimmed trim_start trim_end raised same_raised lead space_len space_back width space1 space2 space3 space80
eor_word = refl

eoh_word : kind_of (trimmed (69 ∷ 79 ∷ 72 ∷ [])) ≡ EndOfHeader
unfolding kind_of trimmed trim_start trim_end raised same_raised lead space_len space_back width space1 space2 space3 space80
eoh_word = refl

three_without : (b x y z : ℕ) → (x ≡ b → ⊥) → (y ≡ b → ⊥) → (z ≡ b → ⊥) → Without b (x ∷ y ∷ z ∷ [])
three_without b x y z p q r = (p, (q, (r, tt)))

one_byte : (b x : ℕ) → (x ≡ b → ⊥) → Without b (x ∷ [])
one_byte b x p = (p, tt)

module _ (rest : List ℕ) {is : Items} {e : Ending Why} (k : Says (10 ∷ rest) is e) where
  pub record_says : (r : List Field) → AllGood r → (c : List ℕ) → Without lt c → Says (c ++ (record_text r ++ rest)) (items r (eor ∷ is)) e
  record_says [] g c w =
      eor_tag (end_tag c (69 ∷ 79 ∷ 82 ∷ []) (10 ∷ rest) w (three_without gt 69 79 82 (λ e. omega arith) (λ e. omega arith) (λ e. omega arith)))
      (all (three_without colon 69 79 82 (λ e. omega arith) (λ e. omega arith) (λ e. omega arith))) eor_word k
  record_says (f ∷ fs) g c w =
      rw (append_assoc (field_text f) (record_text fs) rest)
      (field_says f g.0 c w (record_text fs ++ rest) (record_says fs g.1 (0x20 ∷ []) (one_byte lt 0x20 (λ e. omega arith))))

  pub header_says : (hs : List Field) → AllGood hs → (c : List ℕ) → Without lt c → Says (c ++ (header_text hs ++ rest)) (items hs (eoh ∷ is)) e
  header_says [] g c w =
      eoh_tag (end_tag c (69 ∷ 79 ∷ 72 ∷ []) (10 ∷ rest) w (three_without gt 69 79 72 (λ e. omega arith) (λ e. omega arith) (λ e. omega arith)))
      (all (three_without colon 69 79 72 (λ e. omega arith) (λ e. omega arith) (λ e. omega arith))) eoh_word k
  header_says (f ∷ fs) g c w =
      rw (append_assoc (field_text f) (header_text fs) rest)
      (field_says f g.0 c w (header_text fs ++ rest) (header_says fs g.1 (0x20 ∷ []) (one_byte lt 0x20 (λ e. omega arith))))

records_say : (rs : Records) → AllWritable rs → (last : List ℕ) → Comment last → (c : List ℕ) → Without lt c
    → Says (c ++ records_text rs last) (all_items rs) whole
records_say [] g last l c w = over (without_append lt c last w l.no_lt)
records_say (r ∷ rs) g last l c w =
    rw (← append_assoc c r.0 (record_text r.1 ++ records_text rs last))
    (record_says (records_text rs last) (records_say rs g.2 last l (10 ∷ []) (one_byte lt 10 (λ e. omega arith)))
    r.1 g.1.fields (c ++ r.0) (without_append lt c r.0 w g.0.no_lt))

-- what is written is ADIF text
pub file_says : (front : Front) → Fit front → (rs : Records) → AllWritable rs → (last : List ℕ) → Comment last
    → Says (file_text front rs last) (front_items front (all_items rs)) whole
unfolding file_text
file_says bare b rs g last l = records_say rs g last l [] tt
file_says (header hs) b rs g last l =
    header_says (records_text rs last) (records_say rs g last l (10 ∷ []) (one_byte lt 10 (λ e. omega arith))) hs b.1 [] tt

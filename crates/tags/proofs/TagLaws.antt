-- Laws of `specs/Tags.antt`, by the tests that the code makes. Assumes nothing.
use Rattle.std.specs.Prelude.{Option, Some, None, Result, Ok, Err}
use Rattle.tags.specs.declared.Tag.TheVariants.{End, Eof, Eoh, Eor, Field}
use Rattle.tags.specs.declared.Tag.{Tag}
use Rattle.refusals.specs.declared.Refusal.{Refusal}
use mathlib.Core.Path.{◌≡◌, refl, sym, ap, ◌∙◌}
use mathlib.Core.Bool.{Bool, true, false}
use Prim.Native.Nat.{ℕ, ◌+◌, ◌-◌, ◌^◌, ◌≤◌, ◌<◌}
use native.Mathlib.Omega.{arith}
use mathlib.Core.List.{List}
use lib.ListN.{length, get_or, take, drop, length-take}
use mir.Syntax.{w64}
use mir.Val.{Fits}
use lib.Dec.{eqb}
use borrow.Author.Tests.{eq-eqb, ne_eqb, le-leb, lt-leb, lt-ltb, le-ltb}
use Rattle.text.specs.Pick.{pick, within}
use Rattle.text.specs.Walk.{lead, ends}
use Rattle.text.specs.Find.{other}
use Rattle.text.specs.Space.{trim_start, trim_end, trimmed}
use Rattle.text.proofs.SpaceLaws.{rest, trim_part}
use Rattle.letters.specs.Same.{same_raised}
use Rattle.decimal.specs.Decimal.{unsigned_of}
use Rattle.refusals.specs.declared.Refusal.TheVariants.{UnterminatedTag, MissingLength, BadLength, TruncatedValue, NonUtf8}
use Rattle.tags.specs.Tags.{lt, gt, colon, eoh, eor, eof, kind_of, colon_at, name_at, name_length, name_place, name_of, length_after, value_of, by_kind, tag_of, closed_at, open_at, tag_at}
use Rattle.tags.specs.declared.Kind.{Kind}
use Rattle.tags.specs.declared.Kind.TheVariants.{EndOfHeader, EndOfRecord, EndOfFile, FieldName}

-- the kind of a name
module _ (n : List ℕ) (p : Bool) (e : p ≡ same_raised n eoh) where
  pub kind_eoh : p ≡ true → EndOfHeader ≡ kind_of n
  unfolding kind_of
  kind_eoh h = simp (← e, h)

  module _ (pn : p ≡ false) (q : Bool) (f : q ≡ same_raised n eor) where
    pub kind_eor : q ≡ true → EndOfRecord ≡ kind_of n
    unfolding kind_of
    kind_eor h = simp (← e, pn, ← f, h)

    module _ (qn : q ≡ false) (r : Bool) (g : r ≡ same_raised n eof) where
      pub kind_eof : r ≡ true → EndOfFile ≡ kind_of n
      unfolding kind_of
      kind_eof h = simp (← e, pn, ← f, qn, ← g, h)

      pub kind_field : r ≡ false → FieldName ≡ kind_of n
      unfolding kind_of
      kind_field h = simp (← e, pn, ← f, qn, ← g, h)

-- a length and a value
pub length_part : (t : List ℕ) (c e : ℕ) (u : List ℕ) (r : Option ℕ)
    → e ≡ ends (other colon) t (c + 1) → u ≡ trimmed (take (e - (c + 1)) (drop (c + 1) t)) → r ≡ unsigned_of u → r ≡ length_after t c
unfolding length_after colon_at ends
length_part t c e u r p q w =
    let z : e - (c + 1) ≡ 0 + lead (other colon) (drop (c + 1) t) = omega (arith, p) in
    w ∙ ap unsigned_of q ∙ rw z refl

module _ (s : List ℕ) (i a k next : ℕ) (num : Option ℕ) where
  pub value_bad : num ≡ None → Err (BadLength i a k) ≡ value_of s i a k next num
  unfolding value_of
  value_bad e = rw e

  module _ (n : ℕ) (e : num ≡ Some n) where
    pub value_cut : length s - next < n → Err (TruncatedValue i a k n (length s - next)) ≡ value_of s i a k next num
    unfolding value_of
    value_cut h = simp (e, lt-leb n (length s - next) h)

    module _ (h : n ≤ length s - next) (b : ℕ) (f : b ≡ get_or s (next + n) 0) (t : Bool) (g : t ≡ within b 0x80 0xBF) where
      pub value_torn : t ≡ true → Err (NonUtf8 i a k) ≡ value_of s i a k next num
      unfolding value_of
      value_torn y = simp (e, le-leb n (length s - next) h, ← f, ← g, y)

      pub value_whole : t ≡ false → Ok (Field i a k next n) ≡ value_of s i a k next num
      unfolding value_of
      value_whole y = simp (e, le-leb n (length s - next) h, ← f, ← g, y)

-- an empty name is at place 0
pub place_empty : (at n : ℕ) → n ≡ 0 → 0 ≡ pick (eqb n 0) 0 at
place_empty at n e = rw (eq-eqb n 0 e) refl

pub place_kept : (at n : ℕ) → (n ≡ 0 → ⊥) → at ≡ pick (eqb n 0) 0 at
place_kept at n e = rw (ne_eqb n 0 e) refl

-- a tag, by its inside t
module _ (s : List ℕ) (at : ℕ) (t : List ℕ) (next c i n : ℕ) (k : Kind) (ec : c ≡ ends (other colon) t 0) (ei : i ≡ trim_start (take c t))
    (en : n ≡ trim_end (take (length (take c t) - i) (drop i (take c t))))
    (ek : k ≡ kind_of (take n (take (length (take c t) - i) (drop i (take c t))))) where
  kind_is : kind_of (name_of t) ≡ k
  unfolding name_of colon_at
  kind_is = rw (← ec, ← trim_part (take c t) i n ei en) (sym ek)

  pub tag_eoh : k ≡ EndOfHeader → Ok (Eoh next) ≡ tag_of s at t next
  unfolding tag_of by_kind
  tag_eoh e = rw (kind_is, e)

  pub tag_eor : k ≡ EndOfRecord → Ok (Eor at next) ≡ tag_of s at t next
  unfolding tag_of by_kind
  tag_eor e = rw (kind_is, e)

  pub tag_eof : k ≡ EndOfFile → Ok Eof ≡ tag_of s at t next
  unfolding tag_of by_kind
  tag_eof e = rw (kind_is, e)

  length_is : n ≡ name_length t
  unfolding name_length name_at colon_at
  length_is = simp (← ec, ← ei) (rw (en, rest))

  place_is : (m : ℕ) → m ≡ pick (eqb n 0) 0 (at + 1 + i) → m ≡ name_place (at + 1) t
  unfolding name_place name_at colon_at
  place_is m em = em ∙ rw (← length_is) (simp (← ec, ← ei))

  pub tag_missing : (m : ℕ) → m ≡ pick (eqb n 0) 0 (at + 1 + i) → k ≡ FieldName → length t ≤ c → Err (MissingLength at m n) ≡ tag_of s at t next
  unfolding tag_of by_kind colon_at
  tag_missing m em e h = rw (kind_is, e) (simp (← ec, le-ltb c (length t) h) (rw (place_is m em, length_is) refl))

  pub tag_field : (m : ℕ) (num : Option ℕ) (r : Result Tag Refusal) → m ≡ pick (eqb n 0) 0 (at + 1 + i) → k ≡ FieldName → c < length t → num ≡ length_after t c
      → r ≡ value_of s at m n next num → r ≡ tag_of s at t next
  unfolding tag_of by_kind colon_at
  tag_field m num r em e h f g = rw (kind_is, e) (simp (← ec, lt-ltb c (length t) h, ← f) (g ∙ rw (place_is m em, length_is) refl))

pub name_fits : (s : List ℕ) (a e c i : ℕ) → a ≤ e → e < length s → length s < 2 ^ 64 → i ≤ length (take c (take (e - a) (drop a s))) → Fits w64 (a + i)
name_fits s a e c i p q l h =
    omega (arith, length-take c (take (e - a) (drop a s)), length-take (e - a) (drop a s))

-- the first tag
pub tag_past : (s : List ℕ) (at : ℕ) → length s ≤ at → Ok End ≡ tag_at s at
unfolding tag_at open_at ends
tag_past s at h = simp (le-ltb (at + lead (other lt) (drop at s)) (length s) (omega arith))

module _ (s : List ℕ) (at i : ℕ) (e : i ≡ ends (other lt) s at) where
  pub tag_none : length s ≤ i → Ok End ≡ tag_at s at
  unfolding tag_at open_at
  tag_none h = simp (← e, le-ltb i (length s) h)

  module _ (h : i < length s) (n : ℕ) (f : n ≡ ends (other gt) s (i + 1)) where
    pub tag_open : length s ≤ n → Err (UnterminatedTag i) ≡ tag_at s at
    unfolding tag_at open_at closed_at
    tag_open g = simp (← e, lt-ltb i (length s) h, ← f, le-ltb n (length s) g)

    pub tag_is : (r : Result Tag Refusal) → n < length s → r ≡ tag_of s i (take (n - (i + 1)) (drop (i + 1) s)) (n + 1) → r ≡ tag_at s at
    unfolding tag_at open_at closed_at
    tag_is r g q = simp (← e, lt-ltb i (length s) h, ← f, lt-ltb n (length s) g) q

-- The tag at a place of a text (`tag_at`), by the grammar. Assumes nothing.
use Rattle.std.specs.Prelude.{Some, None, Ok, Err}
use Rattle.tags.specs.declared.Tag.TheVariants.{End, Field}
use mathlib.Core.Path.{◌≡◌, refl, sym, ap, ◌∙◌}
use mathlib.Core.Bool.{Bool, true, false}
use mathlib.Core.List.{List, [], ◌∷◌, ◌++◌, append_assoc}
use Prim.Native.Nat.{ℕ, ◌+◌, ◌-◌, ◌≤◌, ◌<◌}
use native.Mathlib.Omega.{arith}
use lib.ListN.{length, get_or, take, drop, length-append, length-drop}
use lib.Seq.{take_at, drop-drop, drop-append-le, take-append-le, get_or-drop, drop-append-add, get_or_at}
use lib.Dec.{eqb}
use borrow.Author.Tests.{eqb-true, lt-ltb, le-ltb, le-leb, lt-leb}
use Rattle.text.specs.Pick.{pick}
use Rattle.text.specs.Walk.{ends}
use Rattle.text.specs.Find.{other}
use Rattle.text.specs.Utf8.{cont, utf8, Utf8}
use Rattle.text.specs.Space.{trim_start, trim_end, trimmed}
use Rattle.text.proofs.SpaceLaws.{start_le, end_le}
use Rattle.decimal.specs.Decimal.{unsigned_of}
use Rattle.refusals.specs.declared.Refusal.TheVariants.{UnterminatedTag, MissingLength, BadLength, TruncatedValue, NonUtf8}
use Rattle.tags.specs.Tags.{lt, gt, colon, kind_of, colon_at, name_at, name_place, name_length, name_of, length_after, value_of, by_kind, tag_of, closed_at, open_at, tag_at}
use Rattle.tags.specs.declared.Kind.{Kind}
use Rattle.tags.specs.declared.Kind.TheVariants.{FieldName}
use Rattle.tags.proofs.ValueLaws.{value_test}
use Rattle.adif.specs.Grammar.{Without, Cut, all, upto, Tagged, Sized}
use Rattle.adif.proofs.Cuts.{ends_found, ends_none, drop_on, drop_past, front_found, front_none, cut_is}

pub tag_none : (s : List ℕ) (at : ℕ) → Without lt (drop at s) → tag_at s at ≡ Ok End
unfolding tag_at open_at
tag_none s at w = simp (ends_none s at lt w, le-ltb (at + length (drop at s)) (length s) (omega (arith, length-drop at s)))

-- past the "<"
module _ (s : List ℕ) (at : ℕ) (gap more : List ℕ) (w : Without lt gap) (e : drop at s ≡ gap ++ lt ∷ more) where
  starts : at + length gap < length s
  starts = omega (arith, length-drop at s, ap length e, length-append gap (lt ∷ more))

  opened : tag_at s at ≡ closed_at s (at + length gap) (ends (other gt) s (at + length gap + 1))
  unfolding tag_at open_at
  opened = simp (ends_found s at lt gap more w e, lt-ltb (at + length gap) (length s) starts)

  pub tag_unterminated : Without gt more → tag_at s at ≡ Err (UnterminatedTag (at + length gap))
  unfolding closed_at
  tag_unterminated v =
      opened
      ∙ simp (ends_none s (at + length gap + 1) gt (rw (drop_past s at gap more lt e) v), le-ltb (at + length gap + 1 + length (drop (at + length gap + 1) s)) (length s) (omega (arith, length-drop (at + length gap + 1) s)))

module _ (s : List ℕ) (at : ℕ) (t rest : List ℕ) (T : Tagged (drop at s) t rest) where
  -- where the tag and its inside start, where the ">" stands, and where the text goes on
  abbrev pub start : ℕ
  start = at + length T.gap

  abbrev pub inner : ℕ
  inner = start + 1

  abbrev pub next : ℕ
  next = inner + length t + 1

  pub drop_inner : drop inner s ≡ t ++ gt ∷ rest
  drop_inner = drop_past s at T.gap (t ++ gt ∷ rest) lt T.is

  pub drop_next : drop next s ≡ rest
  drop_next = drop_past s inner t rest gt drop_inner

  pub next_in : next ≤ length s
  next_in = omega (arith, length-drop inner s, ap length drop_inner, length-append t (gt ∷ rest))

  pub left : length s - next ≡ length rest
  left = sym (length-drop next s) ∙ ap length drop_next

  closing : get_or s (inner + length t) 0 ≡ gt
  closing = sym (get_or-drop inner s (length t) 0) ∙ rw drop_inner (get_or_at t gt rest 0 (length t) refl)

  tag_is : tag_at s at ≡ tag_of s start t next
  unfolding closed_at
  tag_is =
      let z : inner + length t - inner ≡ length t = omega arith in
      opened s at T.gap (t ++ gt ∷ rest) T.comment T.is
      ∙ simp (ends_found s inner gt t rest T.closed drop_inner, lt-ltb (inner + length t) (length s) (omega (arith, next_in)), z, drop_inner, take_at t (gt ∷ rest) (length t) refl)

  pub by_name : (n : List ℕ) (k : Kind) → Cut colon t n → kind_of (trimmed n) ≡ k → tag_at s at ≡ by_kind s start t next k
  unfolding tag_of name_of colon_at
  by_name n k c e = tag_is ∙ rw (cut_is colon c, e)

  -- the name that the places stand for
  stands : (n tail : List ℕ) → Cut colon t n → t ≡ n ++ tail → take (name_length t) (drop (inner + name_at t) s) ≡ trimmed n
  unfolding name_at name_length trimmed colon_at
  stands n tail c f =
      let d : drop inner s ≡ n ++ (tail ++ gt ∷ rest) = drop_inner ∙ rw f (append_assoc n tail (gt ∷ rest)) in
      rw (cut_is colon c, ← drop-drop (trim_start n) inner s, d, drop-append-le (trim_start n) n (tail ++ gt ∷ rest) (start_le n), take-append-le (trim_end (drop (trim_start n) n)) (drop (trim_start n) n) (tail ++ gt ∷ rest) (end_le (drop (trim_start n) n)))

  pub name_is : (n tail : List ℕ) → Cut colon t n → t ≡ n ++ tail → take (name_length t) (drop (name_place inner t) s) ≡ trimmed n
  unfolding name_place
  name_is n tail c f = by (eqb (name_length t) 0) refl
    where
      by : (z : Bool) → eqb (name_length t) 0 ≡ z → take (name_length t) (drop (pick z 0 (inner + name_at t)) s) ≡ trimmed n
      by false e = stands n tail c f
      by true e =
          let none : name_length t ≡ 0 = eqb-true (name_length t) 0 e in
          let empty : [] ≡ trimmed n = rw none at (stands n tail c f) in
          rw none empty

  pub tag_missing : Without colon t → kind_of (trimmed t) ≡ FieldName → tag_at s at ≡ Err (MissingLength start (name_place inner t) (name_length t))
  unfolding by_kind colon_at
  tag_missing w e = by_name t FieldName (all w) e ∙ simp (front_none colon t w, le-ltb (length t) (length t) (omega arith))

  module _ (n l : List ℕ) (z : Sized t n l) (e : kind_of (trimmed n) ≡ FieldName) where
    pub first : Cut colon t n
    first = upto z.more z.named z.is

    colon_is : colon_at t ≡ length n
    unfolding colon_at
    colon_is = rw z.is (front_found colon n z.more z.named)

    within : length n < length t
    within = omega (arith, ap length z.is, length-append n (colon ∷ z.more))

    after : drop (length n + 1) t ≡ z.more
    after = rw z.is (drop-append-add n (colon ∷ z.more) 1)

    length_is : length_after t (length n) ≡ unsigned_of (trimmed l)
    unfolding length_after colon_at
    length_is = rw (after, cut_is colon z.cut)

    pub by_length : tag_at s at ≡ value_of s start (name_place inner t) (name_length t) next (unsigned_of (trimmed l))
    unfolding by_kind
    by_length = by_name n FieldName first e ∙ simp (colon_is, lt-ltb (length n) (length t) within, length_is)

    pub tag_bad : unsigned_of (trimmed l) ≡ None → tag_at s at ≡ Err (BadLength start (name_place inner t) (name_length t))
    unfolding value_of
    tag_bad q = by_length ∙ rw q

    pub tag_truncated : (k : ℕ) → unsigned_of (trimmed l) ≡ Some k → length rest < k → tag_at s at ≡ Err (TruncatedValue start (name_place inner t) (name_length t) k (length rest))
    unfolding value_of
    tag_truncated k q h = by_length ∙ simp (q, left, lt-leb k (length rest) h)

    module _ (v more : List ℕ) (q : unsigned_of (trimmed l) ≡ Some (length v)) (f : rest ≡ v ++ more) where
      pub drop_more : drop (next + length v) s ≡ more
      drop_more = drop_on s next v more (length v) (drop_next ∙ f) refl

      pub more_in : next + length v ≤ length s
      more_in = omega (arith, left, ap length f, length-append v more, next_in)

      pub value_is : take (length v) (drop next s) ≡ v
      value_is = rw (drop_next, f) (take_at v more (length v) refl)

      by_byte : tag_at s at ≡ pick (cont (get_or s (next + length v) 0)) (Err (NonUtf8 start (name_place inner t) (name_length t))) (Ok (Field start (name_place inner t) (name_length t) next (length v)))
      unfolding value_of
      by_byte = by_length ∙ simp (q, left, le-leb (length v) (length rest) (omega (arith, ap length f, length-append v more)))

      module _ (u : Utf8 s) where
        test : utf8 v ≡ pick (cont (get_or s (next + length v) 0)) false true
        test = sym (ap utf8 value_is) ∙ value_test s u (inner + length t) (omega (arith, next_in)) closing (length v) more_in

        pub tag_torn : utf8 v ≡ false → tag_at s at ≡ Err (NonUtf8 start (name_place inner t) (name_length t))
        tag_torn c = by_byte ∙ by (cont (get_or s (next + length v) 0)) (sym test ∙ c)
          where
            by : (b : Bool) → pick b false true ≡ false → pick b (Err (NonUtf8 start (name_place inner t) (name_length t))) (Ok (Field start (name_place inner t) (name_length t) next (length v))) ≡ Err (NonUtf8 start (name_place inner t) (name_length t))
            by true p = refl
            by false p = absurd (let y : ◌≡◌ {A = ℕ} 0 1 = cc in omega arith)

        pub tag_field : utf8 v ≡ true → tag_at s at ≡ Ok (Field start (name_place inner t) (name_length t) next (length v))
        tag_field c = by_byte ∙ by (cont (get_or s (next + length v) 0)) (sym test ∙ c)
          where
            by : (b : Bool) → pick b false true ≡ true → pick b (Err (NonUtf8 start (name_place inner t) (name_length t))) (Ok (Field start (name_place inner t) (name_length t) next (length v))) ≡ Ok (Field start (name_place inner t) (name_length t) next (length v))
            by true p = absurd (let y : ◌≡◌ {A = ℕ} 0 1 = cc in omega arith)
            by false p = refl

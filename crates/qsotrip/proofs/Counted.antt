-- What is in two lists of fields that were put together: every field can be written if each could; there are as many as the count of the
-- QSO writer says; and where the first has columns only and the second none, the second is what is left beside the columns. Assumes nothing.
use Rattle.std.specs.declared.cmp.Ordering.{Ordering}
use Rattle.std.specs.declared.cmp.Ordering.TheVariants.{Less, Equal, Greater}
use mathlib.Core.Path.{◌≡◌, refl, sym, ap, ◌∙◌}
use mathlib.Core.Bool.{Bool, true, false}
use mathlib.Core.List.{List, [], ◌∷◌, ◌++◌}
use Prim.Native.Nat.{ℕ, suc, ◌+◌, ◌≤◌}
use native.Mathlib.Omega.{arith}
use lib.ListN.{length, length-append}
use Rattle.text.specs.Pick.{pick, either}
use Rattle.letters.specs.Same.{same}
use Rattle.letters.specs.Order.{order}
use Rattle.letters.proofs.SameLaws.{same_refl}
use Rattle.letters.proofs.OrderLaws.{order_equal, order_turn, order_flip}
use Rattle.adif.specs.Grammar.{Field}
use Rattle.adif.specs.Limits.{Ascending}
use Rattle.trip.specs.File.{Good, AllGood}
use Rattle.trip.proofs.Means.{named}
use Rattle.trip.proofs.Fronts.{Above, above_trans}
use Rattle.columns.specs.Columns.{is_column}
use Rattle.mapping.specs.Contact.{extra_fields}
use Rattle.qsowriter.specs.Record.{below, above, merged}
use Rattle.qsotrip.specs.Rewritten.{Each, NoColumn}
use Rattle.qsotrip.proofs.Merged.{differ, differ_greater, rising_above, below_less, below_equal, below_greater, above_less, above_equal, above_greater, rest_rises}

-- ---- a law of each field
module _ (P : Field → Type 0) where
  each_below : (m : List ℕ) (es : List Field) → Each P es → Each P (below m es)
  each_below m [] a = tt
  each_below m (e ∷ es) a = by (order e.name m) refl (each_below m es a.1)
    where
      by : (o : Ordering) → order e.name m ≡ o → Each P (below m es) → Each P (below m (e ∷ es))
      by Less h i = rw (below_less m e es h) (a.0, i)
      by Equal h i = rw (below_equal m e es h) tt
      by Greater h i = rw (below_greater m e es h) tt

  each_above : (m : List ℕ) (es : List Field) → Each P es → Each P (above m es)
  each_above m [] a = tt
  each_above m (e ∷ es) a = by (order e.name m) refl (each_above m es a.1)
    where
      by : (o : Ordering) → order e.name m ≡ o → Each P (above m es) → Each P (above m (e ∷ es))
      by Less h i = rw (above_less m e es h) i
      by Equal h i = rw (above_equal m e es h) a.1
      by Greater h i = rw (above_greater m e es h) a

  each_join : (xs ys : List Field) → Each P xs → Each P ys → Each P (xs ++ ys)
  each_join [] ys a b = b
  each_join (x ∷ xs) ys a b = (a.0, each_join xs ys a.1 b)

  pub each_merged : (fs es : List Field) → Each P fs → Each P es → Each P (merged fs es)
  each_merged [] es a b = b
  each_merged (f ∷ fs) es a b =
      each_join (below f.name es) (f ∷ merged fs (above f.name es)) (each_below f.name es b)
      (a.0, each_merged fs (above f.name es) a.1 (each_above f.name es b))

-- ---- how many
-- a field of the first list has that name
abbrev pub takes : List Field → List ℕ → Bool
takes [] n = false
takes (f ∷ fs) n = either (same f.name n) (takes fs n)

-- how many of the second have a name that no field of the first has
abbrev pub news : List Field → List Field → ℕ
news fs [] = 0
news fs (e ∷ es) = pick (takes fs e.name) (news fs es) (suc (news fs es))

news_all : (es : List Field) → length es ≤ news [] es
news_all [] = omega arith
news_all (e ∷ es) = omega (arith, news_all es)

above_takes : (n : List ℕ) (fs : List Field) → Above n fs → takes fs n ≡ false
above_takes n [] a = refl
above_takes n (f ∷ fs) a = rw (differ_greater f.name n (order_flip n f.name a.0)) (above_takes n fs a.1)

module _ (f : Field) (fs : List Field) where
  news_above : (es : List Field) → Above f.name es → news (f ∷ fs) es ≡ news fs es
  news_above [] a = refl
  news_above (e ∷ es) a = rw (differ f.name e.name a.0, news_above es a.1) refl

  module _ (high : Above f.name fs) where
    news_split : (es : List Field) → Ascending named es → length (below f.name es) + news fs (above f.name es) ≤ news (f ∷ fs) es
    news_split [] r = omega arith
    news_split (e ∷ es) r = by (order e.name f.name) refl (news_split es r.1)
      where
        by : (o : Ordering) → order e.name f.name ≡ o → length (below f.name es) + news fs (above f.name es) ≤ news (f ∷ fs) es
            → length (below f.name (e ∷ es)) + news fs (above f.name (e ∷ es)) ≤ news (f ∷ fs) (e ∷ es)
        by Less h i =
            rw (below_less f.name e es h, above_less f.name e es h, differ_greater f.name e.name (order_flip e.name f.name h), above_takes e.name fs (above_trans e.name f.name h fs high))
            (omega arith)
        by Equal h i =
            let z : e.name ≡ f.name = order_equal e.name f.name h in
            let s : same f.name e.name ≡ true = ap (same f.name) z ∙ same_refl f.name in
            let a : Above f.name es = rw z at (rising_above e es r) in
            rw (below_equal f.name e es h, above_equal f.name e es h, s, news_above es a) (omega arith)
        by Greater h i =
            let l : order f.name e.name ≡ Less = order_turn e.name f.name h in
            let a : Above f.name (e ∷ es) = (l, above_trans f.name e.name l es (rising_above e es r)) in
            rw (below_greater f.name e es h, above_greater f.name e es h, news_above (e ∷ es) a) (omega arith)

pub merged_few : (fs es : List Field) → Ascending named fs → Ascending named es → length (merged fs es) ≤ length fs + news fs es
merged_few [] es r s = omega (arith, news_all es)
merged_few (f ∷ fs) es r s =
    let B : List Field = below f.name es in
    let M : List Field = merged fs (above f.name es) in
    omega
    (arith, length-append B (f ∷ M), merged_few fs (above f.name es) r.1 (rest_rises f.name es s), news_split f fs (rising_above f fs r) es s)

-- ---- what is left beside the columns
abbrev pub IsColumn : Field → Type 0
IsColumn f = is_column f.name ≡ true

extra_join : (xs ys : List Field) → extra_fields (xs ++ ys) ≡ extra_fields xs ++ extra_fields ys
extra_join [] ys = refl
extra_join (x ∷ xs) ys = by (is_column x.name) (extra_join xs ys)
  where
    by : (t : Bool) → extra_fields (xs ++ ys) ≡ extra_fields xs ++ extra_fields ys
        → pick t (extra_fields (xs ++ ys)) (x ∷ extra_fields (xs ++ ys)) ≡ pick t (extra_fields xs) (x ∷ extra_fields xs) ++ extra_fields ys
    by true i = i
    by false i = ap (λ (l : List Field). x ∷ l) i

pub extra_all : (es : List Field) → Each NoColumn es → extra_fields es ≡ es
extra_all [] a = refl
extra_all (e ∷ es) a = rw a.0 (ap (λ (l : List Field). e ∷ l) (extra_all es a.1))

halves : (m : List ℕ) → is_column m ≡ true → (es : List Field) → Each NoColumn es → below m es ++ above m es ≡ es
halves m c [] a = refl
halves m c (e ∷ es) a = by (order e.name m) refl (halves m c es a.1)
  where
    by : (o : Ordering) → order e.name m ≡ o → below m es ++ above m es ≡ es → below m (e ∷ es) ++ above m (e ∷ es) ≡ e ∷ es
    by Less h i = rw (below_less m e es h, above_less m e es h) (ap (λ (l : List Field). e ∷ l) i)
    by Equal h i =
        let z : true ≡ false = sym c ∙ ap (λ (n : List ℕ). is_column n) (sym (order_equal e.name m h)) ∙ a.0 in
        absurd (let w : ◌≡◌ {A = ℕ} 0 1 = cc in omega arith)
    by Greater h i = rw (below_greater m e es h, above_greater m e es h) refl

pub merged_extra : (fs es : List Field) → Each IsColumn fs → Each NoColumn es → extra_fields (merged fs es) ≡ es
merged_extra [] es a b = extra_all es b
merged_extra (f ∷ fs) es a b =
    extra_join (below f.name es) (f ∷ merged fs (above f.name es))
    ∙ rw (a.0, extra_all (below f.name es) (each_below NoColumn f.name es b), merged_extra fs (above f.name es) a.1 (each_above NoColumn f.name es b))
    (halves f.name a.0 es b)

-- fields that can be written
good_each : (fs : List Field) → AllGood fs → Each Good fs
good_each [] g = tt
good_each (f ∷ fs) g = (g.0, good_each fs g.1)

each_good : (fs : List Field) → Each Good fs → AllGood fs
each_good [] g = tt
each_good (f ∷ fs) g = (g.0, each_good fs g.1)

pub merged_good : (fs es : List Field) → AllGood fs → AllGood es → AllGood (merged fs es)
merged_good fs es a b = each_good (merged fs es) (each_merged Good fs es (good_each fs a) (good_each es b))

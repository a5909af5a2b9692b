-- Two lists of fields whose names rise, in one: its names rise; a name has the value of the first list where that has one, and else that
-- of the second; and nothing else is in it. Assumes nothing.
use Rattle.std.specs.Prelude.{Option, None, Some}
use Rattle.std.specs.declared.cmp.Ordering.{Ordering}
use Rattle.std.specs.declared.cmp.Ordering.TheVariants.{Less, Equal, Greater}
use mathlib.Core.Path.{◌≡◌, refl, sym, ap, ◌∙◌}
use mathlib.Core.Bool.{Bool, true, false}
use mathlib.Core.List.{List, [], ◌∷◌, ◌++◌}
use Prim.Native.Nat.{ℕ}
use native.Mathlib.Omega.{arith}
use Rattle.text.specs.Pick.{pick}
use Rattle.letters.specs.Same.{same}
use Rattle.letters.specs.Order.{order}
use Rattle.letters.proofs.SameLaws.{same_refl, same_true}
use Rattle.letters.proofs.OrderLaws.{order_refl, order_equal, order_turn, order_flip}
use Rattle.adif.specs.Grammar.{Field}
use Rattle.adif.specs.Limits.{Ascending}
use Rattle.trip.proofs.Means.{named}
use Rattle.trip.proofs.Fronts.{Above, above_trans}
use Rattle.mapping.specs.Contact.{value_named}
use Rattle.qsowriter.specs.Record.{below, above, merged}

-- ---- two names, by their order
pub differ : (x y : List ℕ) → order x y ≡ Less → same x y ≡ false
differ x y h = by (same x y) refl
  where
    by : (t : Bool) → same x y ≡ t → t ≡ false
    by false e = refl
    by true e =
        let z : Equal ≡ Less = sym (order_refl y) ∙ ap (λ (n : List ℕ). order n y) (sym (same_true x y e)) ∙ h in
        absurd (let w : ◌≡◌ {A = ℕ} 0 1 = cc in omega arith)

pub differ_greater : (x y : List ℕ) → order x y ≡ Greater → same x y ≡ false
differ_greater x y h = by (same x y) refl
  where
    by : (t : Bool) → same x y ≡ t → t ≡ false
    by false e = refl
    by true e =
        let z : Equal ≡ Greater = sym (order_refl y) ∙ ap (λ (n : List ℕ). order n y) (sym (same_true x y e)) ∙ h in
        absurd (let w : ◌≡◌ {A = ℕ} 0 1 = cc in omega arith)

alike : (x y : List ℕ) → order x y ≡ Equal → same x y ≡ true
alike x y h = rw (order_equal x y h) (same_refl y)

-- ---- every name is above one
pub rising_above : (f : Field) (fs : List Field) → Ascending named (f ∷ fs) → Above f.name fs
rising_above f [] a = tt
rising_above f (g ∷ fs) a = (a.0, above_trans f.name g.name a.0 fs (rising_above g fs a.1))

pub above_rising : (f : Field) (fs : List Field) → Above f.name fs → Ascending named fs → Ascending named (f ∷ fs)
above_rising f [] a r = (tt, tt)
above_rising f (g ∷ fs) a r = (a.0, r)

pub above_none : (n : List ℕ) (fs : List Field) → Above n fs → value_named n fs ≡ None
above_none n [] a = refl
above_none n (f ∷ fs) a = rw (differ_greater f.name n (order_flip n f.name a.0)) (above_none n fs a.1)

-- ---- below a name, and above it: one field by how its name compares
module _ (m : List ℕ) (e : Field) (es : List Field) where
  pub below_less : order e.name m ≡ Less → below m (e ∷ es) ≡ e ∷ below m es
  below_less h = rw h refl

  pub below_equal : order e.name m ≡ Equal → below m (e ∷ es) ≡ []
  below_equal h = rw h refl

  pub below_greater : order e.name m ≡ Greater → below m (e ∷ es) ≡ []
  below_greater h = rw h refl

  pub above_less : order e.name m ≡ Less → above m (e ∷ es) ≡ above m es
  above_less h = rw h refl

  pub above_equal : order e.name m ≡ Equal → above m (e ∷ es) ≡ es
  above_equal h = rw (h, alike e.name m h) refl

  pub above_greater : order e.name m ≡ Greater → above m (e ∷ es) ≡ e ∷ es
  above_greater h = rw (h, differ_greater e.name m h) refl

module _ (m : List ℕ) where
  rest_above : (es : List Field) → Ascending named es → Above m (above m es)
  rest_above [] r = tt
  rest_above (e ∷ es) r = by (order e.name m) refl (rest_above es r.1)
    where
      by : (o : Ordering) → order e.name m ≡ o → Above m (above m es) → Above m (above m (e ∷ es))
      by Less h i = rw (above_less m e es h) i
      by Equal h i =
          rw (above_equal m e es h)
          (rw (order_equal e.name m h) at (rising_above e es r))
      by Greater h i =
          let l : order m e.name ≡ Less = order_turn e.name m h in
          rw (above_greater m e es h) (l, above_trans m e.name l es (rising_above e es r))

  pub rest_rises : (es : List Field) → Ascending named es → Ascending named (above m es)
  rest_rises [] r = tt
  rest_rises (e ∷ es) r = by (order e.name m) refl (rest_rises es r.1)
    where
      by : (o : Ordering) → order e.name m ≡ o → Ascending named (above m es) → Ascending named (above m (e ∷ es))
      by Less h i = rw (above_less m e es h) i
      by Equal h i = rw (above_equal m e es h) r.1
      by Greater h i = rw (above_greater m e es h) r

  module _ (f : Field) (ys : List Field) (is : f.name ≡ m) (high : Above m ys) where
    laid_above : (k : List ℕ) → order k m ≡ Less → (es : List Field) → Above k es → Above k (below m es ++ (f ∷ ys))
    laid_above k l [] a = (rw is l, above_trans k m l ys high)
    laid_above k l (e ∷ es) a = by (order e.name m) refl (laid_above k l es a.1)
      where
        by : (o : Ordering) → order e.name m ≡ o → Above k (below m es ++ (f ∷ ys)) → Above k (below m (e ∷ es) ++ (f ∷ ys))
        by Less h i = rw (below_less m e es h) (a.0, i)
        by Equal h i = rw (below_equal m e es h) (rw is l, above_trans k m l ys high)
        by Greater h i = rw (below_greater m e es h) (rw is l, above_trans k m l ys high)

    laid_rises : (es : List Field) → Ascending named es → Ascending named ys → Ascending named (below m es ++ (f ∷ ys))
    laid_rises [] r s = above_rising f ys (rw is high) s
    laid_rises (e ∷ es) r s = by (order e.name m) refl (laid_rises es r.1 s)
      where
        by : (o : Ordering) → order e.name m ≡ o → Ascending named (below m es ++ (f ∷ ys)) → Ascending named (below m (e ∷ es) ++ (f ∷ ys))
        by Less h i = rw (below_less m e es h) (above_rising e (below m es ++ (f ∷ ys)) (laid_above e.name h es (rising_above e es r)) i)
        by Equal h i = rw (below_equal m e es h) (above_rising f ys (rw is high) s)
        by Greater h i = rw (below_greater m e es h) (above_rising f ys (rw is high) s)

pub merged_above : (k : List ℕ) (fs es : List Field) → Above k fs → Ascending named fs → Above k es → Ascending named es → Above k (merged fs es)
merged_above k [] es a r b s = b
merged_above k (f ∷ fs) es a r b s =
    laid_above f.name f (merged fs (above f.name es)) refl
    (merged_above f.name fs (above f.name es) (rising_above f fs r) r.1 (rest_above f.name es s) (rest_rises f.name es s)) k a.0 es b

-- the names rise
pub merged_rises : (fs es : List Field) → Ascending named fs → Ascending named es → Ascending named (merged fs es)
merged_rises [] es r s = s
merged_rises (f ∷ fs) es r s =
    laid_rises f.name f (merged fs (above f.name es)) refl
    (merged_above f.name fs (above f.name es) (rising_above f fs r) r.1 (rest_above f.name es s) (rest_rises f.name es s)) es s
    (merged_rises fs (above f.name es) r.1 (rest_rises f.name es s))

-- ---- the value of a name: that of the first list, or else that of the second
abbrev pub or_value : Option (List ℕ) → Option (List ℕ) → Option (List ℕ)
or_value None b = b
or_value (Some x) b = Some x

pub no_other : (a : Option (List ℕ)) → or_value a None ≡ a
no_other None = refl
no_other (Some x) = refl

pub value_join : (n : List ℕ) (xs ys : List Field) → value_named n (xs ++ ys) ≡ or_value (value_named n xs) (value_named n ys)
value_join n [] ys = refl
value_join n (x ∷ xs) ys = by (same x.name n) (value_join n xs ys)
  where
    by : (t : Bool) → value_named n (xs ++ ys) ≡ or_value (value_named n xs) (value_named n ys)
        → pick t (Some x.value) (value_named n (xs ++ ys)) ≡ or_value (pick t (Some x.value) (value_named n xs)) (value_named n ys)
    by true i = refl
    by false i = i

module _ (n m : List ℕ) where
  -- no field below m has m's name, or a greater one
  below_none : (order n m ≡ Less → ⊥) → (es : List Field) → value_named n (below m es) ≡ None
  below_none g [] = refl
  below_none g (e ∷ es) = by (order e.name m) refl (below_none g es)
    where
      by : (o : Ordering) → order e.name m ≡ o → value_named n (below m es) ≡ None → value_named n (below m (e ∷ es)) ≡ None
      by Less h i = rw (below_less m e es h) (other (same e.name n) refl)
        where
          other : (t : Bool) → same e.name n ≡ t → pick t (Some e.value) (value_named n (below m es)) ≡ None
          other true q = absurd (g (rw (same_true e.name n q) at h))
          other false q = i
      by Equal h i = rw (below_equal m e es h) refl
      by Greater h i = rw (below_greater m e es h) refl

  -- another name than m is among those below or among those above
  value_split : same m n ≡ false → (es : List Field) → value_named n es ≡ or_value (value_named n (below m es)) (value_named n (above m es))
  value_split d [] = refl
  value_split d (e ∷ es) = by (order e.name m) refl (value_split d es)
    where
      first : (t : Bool) → value_named n es ≡ or_value (value_named n (below m es)) (value_named n (above m es))
          → pick t (Some e.value) (value_named n es) ≡ or_value (pick t (Some e.value) (value_named n (below m es))) (value_named n (above m es))
      first true i = refl
      first false i = i

      by : (o : Ordering) → order e.name m ≡ o → value_named n es ≡ or_value (value_named n (below m es)) (value_named n (above m es))
          → value_named n (e ∷ es) ≡ or_value (value_named n (below m (e ∷ es))) (value_named n (above m (e ∷ es)))
      by Less h i = rw (below_less m e es h, above_less m e es h) (first (same e.name n) i)
      by Equal h i =
          let s : same e.name n ≡ false = ap (λ (x : List ℕ). same x n) (order_equal e.name m h) ∙ d in
          rw (below_equal m e es h, above_equal m e es h, s) refl
      by Greater h i = rw (below_greater m e es h, above_greater m e es h) refl

pub merged_value : (n : List ℕ) (fs es : List Field) → Ascending named fs → Ascending named es
    → value_named n (merged fs es) ≡ or_value (value_named n fs) (value_named n es)
merged_value n [] es r s = refl
merged_value n (f ∷ fs) es r s =
    value_join n (below m es) (f ∷ merged fs (above m es)) ∙ by (same m n) refl (merged_value n fs (above m es) r.1 (rest_rises m es s))
  where
    m : List ℕ
    m = f.name

    -- the laws of the two values, where the name is not m
    joins : (a b c d : Option (List ℕ)) → (o : Ordering) → order n m ≡ o → (o ≡ Equal → ⊥) → (o ≡ Less → b ≡ None) → ((o ≡ Less → ⊥) → a ≡ None) → d ≡ or_value a c
        → or_value a (or_value b c) ≡ or_value b d
    joins a b c d Less h x y z w = rw (y refl) (sym w)
    joins a b c d Equal h x y z w = absurd (x refl)
    joins a b c d Greater h x y z w =
        let p : a ≡ None = z (λ q. absurd (let u : ◌≡◌ {A = ℕ} 0 1 = cc in omega arith)) in
        rw (w, p) refl

    by : (t : Bool) → same m n ≡ t → value_named n (merged fs (above m es)) ≡ or_value (value_named n fs) (value_named n (above m es))
        → or_value (value_named n (below m es)) (pick (same m n) (Some f.value) (value_named n (merged fs (above m es))))
        ≡ or_value (pick (same m n) (Some f.value) (value_named n fs)) (value_named n es)
    by true e i =
        let z : m ≡ n = same_true m n e in
        rw (e, below_none n m (λ h. absurd (let u : Equal ≡ Less = sym (order_refl m) ∙ ap (λ (x : List ℕ). order x m) z ∙ h in let w : ◌≡◌ {A = ℕ} 0 1 = cc in omega arith)) es) refl
    by false e i =
        rw (e, i)
        (joins (value_named n (below m es)) (value_named n fs) (value_named n (above m es)) (value_named n es) (order n m) refl
        (λ q. absurd (let u : true ≡ false = sym (same_refl n) ∙ ap (λ (x : List ℕ). same x n) (order_equal n m q) ∙ e in let w : ◌≡◌ {A = ℕ} 0 1 = cc in omega arith))
        (λ l. above_none n fs (above_trans n m l fs (rising_above f fs r)))
        (λ g. below_none n m g es)
        (value_split n m e es))

-- The first tag from `at` on is ahead of `at`. Assumes nothing.
use Rattle.std.specs.Prelude.{Option, Some, None}
use mathlib.Core.Path.{◌≡◌, refl}
use mathlib.Core.Bool.{Bool, true, false}
use Prim.Native.Nat.{ℕ, ◌+◌, ◌-◌, ◌≤◌, ◌<◌}
use native.Mathlib.Omega.{arith}
use mathlib.Core.List.{List}
use lib.ListN.{length, get_or, take, drop, length-take, length-drop}
use lib.Dec.{eqb, leb, ltb}
use borrow.Author.Tests.{eqb-true, ltb-true, leb-true}
use Rattle.text.specs.Pick.{pick}
use Rattle.text.specs.Walk.{ends}
use Rattle.text.specs.Find.{other}
use Rattle.text.specs.Space.{trim_start}
use Rattle.text.specs.Utf8.{cont}
use Rattle.text.proofs.SpaceLaws.{start_le, end_le}
use Rattle.tags.specs.Tags.{lt, gt, colon_at, name_at, name_length, name_place, name_of, kind_of, length_after, value_of, by_kind, tag_of, closed_at, open_at, tag_at}
use Rattle.tags.specs.Ahead.{Ahead}
use Rattle.tags.specs.declared.Kind.{Kind}
use Rattle.tags.specs.declared.Kind.TheVariants.{EndOfHeader, EndOfRecord, EndOfFile, FieldName}

pick_elim : {A : Type 0} (P : A → Type 0) (t : Bool) (x y : A) → (t ≡ true → P x) → (t ≡ false → P y) → P (pick t x y)
pick_elim P true x y f g = f refl
pick_elim P false x y f g = g refl

past : (h : List ℕ → ℕ) (s : List ℕ) (i : ℕ) → i ≤ ends h s i
unfolding ends
past h s i = omega arith

name_in_lem : (t : List ℕ) → name_at t + name_length t ≤ length t
unfolding name_length name_at
name_in_lem t =
    let w : List ℕ = take (colon_at t) t in
    omega (arith, length-take (colon_at t) t, length-drop (trim_start w) w, start_le w, end_le (drop (trim_start w) w))

place_in : (a : ℕ) (t : List ℕ) → name_place a t + name_length t ≤ a + length t
unfolding name_place
place_in a t = by (eqb (name_length t) 0) refl
  where
    by : (z : Bool) → eqb (name_length t) 0 ≡ z → pick z 0 (a + name_at t) + name_length t ≤ a + length t
    by true e = omega (arith, eqb-true (name_length t) 0 e)
    by false e = omega (arith, name_in_lem t)

module _ (s : List ℕ) (at next : ℕ) (p : at < next) (q : next ≤ length s) where
  value_ahead : (i a k : ℕ) → a + k ≤ length s → (num : Option ℕ) → Ahead s at (value_of s i a k next num)
  unfolding value_of
  value_ahead i a k m None = tt
  value_ahead i a k m (Some n) =
      pick_elim (Ahead s at) (leb n (length s - next)) _ _
      (λ e. pick_elim (Ahead s at) (cont (get_or s (next + n) 0)) _ _ (λ _. tt) (λ _. omega (arith, leb-true n (length s - next) e)))
      (λ _. tt)

  kind_ahead : (i : ℕ) (t : List ℕ) → i + 1 + length t ≤ length s → (k : Kind) → Ahead s at (by_kind s i t next k)
  unfolding by_kind
  kind_ahead i t m EndOfHeader = (p, q)
  kind_ahead i t m EndOfRecord = (p, q)
  kind_ahead i t m EndOfFile = tt
  kind_ahead i t m FieldName =
      pick_elim (Ahead s at) (ltb (colon_at t) (length t)) _ _
      (λ _. value_ahead i (name_place (i + 1) t) (name_length t) (omega (arith, place_in (i + 1) t)) (length_after t (colon_at t)))
      (λ _. tt)

closed_ahead : (s : List ℕ) (at i e : ℕ) → at ≤ i → i + 1 ≤ e → Ahead s at (closed_at s i e)
unfolding closed_at tag_of
closed_ahead s at i e p q =
    pick_elim (Ahead s at) (ltb e (length s)) _ _
    (λ t.
    let h : e < length s = ltb-true e (length s) t in
    kind_ahead s at (e + 1) (omega arith) (omega arith) i (take (e - (i + 1)) (drop (i + 1) s)) (simp (length-take, length-drop) (omega arith)) (kind_of (name_of (take (e - (i + 1)) (drop (i + 1) s)))))
    (λ _. tt)

open_ahead : (s : List ℕ) (at i : ℕ) → at ≤ i → Ahead s at (open_at s i)
unfolding open_at
open_ahead s at i p =
    pick_elim (Ahead s at) (ltb i (length s)) _ _
    (λ e. closed_ahead s at i (ends (other gt) s (i + 1)) p (past (other gt) s (i + 1)))
    (λ _. tt)

pub ahead : (s : List ℕ) (at : ℕ) → Ahead s at (tag_at s at)
unfolding tag_at
ahead s at = open_ahead s at (ends (other lt) s at) (past (other lt) s at)

-- The heading of a list that is to grow. Assumes nothing.
use Rattle.std.specs.Prelude.{⊤, Result, Ok, Err}
use mathlib.Core.Path.{◌≡◌, refl, sym, ap, ◌∙◌}
use mathlib.Core.Bool.{Bool, true, false}
use mathlib.Core.List.{List, [], ◌∷◌}
use Prim.Native.Nat.{ℕ, zero, suc, ◌≤◌}
use native.Mathlib.Omega.{arith}
use lib.ListN.{length, get_or, take}
use lib.Seq.{take_all}
use lib.Dec.{eqb, leb, ltb}
use borrow.Author.Tests.{leb-true, ltb-true, eqb-true, eq-eqb, ne_eqb}
use Rattle.text.specs.Pick.{both}
use Rattle.text.proofs.BoolLaws.{cases, both_left, both_right}
use Rattle.refusals.specs.declared.Refusal.{Refusal}
use Rattle.refusals.specs.declared.Refusal.TheVariants.{OtherVersion, MalformedList}
use Rattle.contacts.specs.Lists.{count_of}
use Rattle.listwriter.specs.Append.{heading_of}
use Rattle.listwriter.specs.Headings.{Headed}

-- ---- the first bytes
pub front_all : (s : List ℕ) (n : ℕ) → length s ≤ n → s ≡ take n s
front_all s n h = sym (take_all n s h)

pub front_length : (s : List ℕ) (n : ℕ) → n ≤ length s → n ≡ length (take n s)
front_length s zero h = refl
front_length [] (suc n) h = absurd (omega arith)
front_length (x ∷ s) (suc n) h = ap suc (front_length s n (omega arith))

pub front_short : (s : List ℕ) (n : ℕ) → length (take n s) ≤ n
front_short s zero = omega arith
front_short [] (suc n) = omega arith
front_short (x ∷ s) (suc n) = omega (arith, front_short s n)

-- ---- the tests
module _ (s : List ℕ) (count : ℕ) where
  pub heading_none : length s ≡ 0 → Err MalformedList ≡ heading_of s count
  unfolding heading_of
  heading_none e = rw (eq-eqb (length s) 0 e) refl

  module _ (b : length s ≡ 0 → ⊥) where
    pub heading_other : (get_or s 0 0 ≡ 1 → ⊥) → Err OtherVersion ≡ heading_of s count
    unfolding heading_of
    heading_other d = rw (ne_eqb (length s) 0 b, ne_eqb (get_or s 0 0) 1 d) refl

    module _ (v : get_or s 0 0 ≡ 1) (n : ℕ) (en : n ≡ count_of s) (t g : Bool) (et : t ≡ both (leb 5 (length s)) (eqb n count)) (eg : g ≡ both t (ltb count 4294967295)) where
      tests : g ≡ both (both (leb 5 (length s)) (eqb (count_of s) count)) (ltb count 4294967295)
      tests = eg ∙ rw (et, en) refl

      pub heading_bad : g ≡ false → Err MalformedList ≡ heading_of s count
      unfolding heading_of
      heading_bad h = rw (ne_eqb (length s) 0 b, eq-eqb (get_or s 0 0) 1 v, sym tests ∙ h) refl

      pub heading_good : g ≡ true → Ok tt ≡ heading_of s count
      unfolding heading_of
      heading_good h = rw (ne_eqb (length s) 0 b, eq-eqb (get_or s 0 0) 1 v, sym tests ∙ h) refl

pub heading_front : (was s : List ℕ) (used count : ℕ) (v : Result ⊤ Refusal) → s ≡ take used was → v ≡ heading_of s count → v ≡ heading_of (take used was) count
heading_front was s used count v es ev = rw es at ev

-- ---- what an accepted one tells
pub unaccepted : {P : Type 0} (why : Refusal) → ◌≡◌ {A = Result ⊤ Refusal} (Err why) (Ok tt) → P
unaccepted why e = absurd (let z : ◌≡◌ {A = ℕ} 0 1 = cc in omega arith)

pub headed : (s : List ℕ) (count : ℕ) → heading_of s count ≡ Ok tt → Headed s count
unfolding heading_of
headed s count e =
    cases (eqb (length s) 0)
    (λ u. unaccepted MalformedList (rw u at e))
    (λ u. cases (eqb (get_or s 0 0) 1)
    (λ v. cases (both (both (leb 5 (length s)) (eqb (count_of s) count)) (ltb count 4294967295))
    (λ w. let t = both_left (both (leb 5 (length s)) (eqb (count_of s) count)) _ w in
    record {
      whole = leb-true 5 (length s) (both_left (leb 5 (length s)) _ t);
      version = eqb-true (get_or s 0 0) 1 v;
      told = eqb-true (count_of s) count (both_right (leb 5 (length s)) _ t);
      grows = ltb-true count 4294967295 (both_right (both (leb 5 (length s)) (eqb (count_of s) count)) _ w);
    })
    (λ w. unaccepted MalformedList (rw (u, v, w) at e)))
    (λ v. unaccepted OtherVersion (rw (u, v) at e)))

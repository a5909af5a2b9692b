-- Sizes that stop at 16,777,217. Assumes nothing.
use mathlib.Core.Path.{◌≡◌, refl, sym, ap, ◌∙◌}
use mathlib.Core.Bool.{Bool, true, false}
use mathlib.Core.List.{List, ◌++◌}
use Prim.Native.Nat.{ℕ, ◌+◌, ◌≤◌, ◌<◌}
use native.Mathlib.Nat.{zero-add}
use native.Mathlib.Omega.{arith}
use lib.ListN.{length, length-append}
use lib.Dec.{leb}
use borrow.Author.Tests.{le-leb, lt-leb, leb-true, leb-false}
use Rattle.fields.specs.Written.{field_text, end_of_header}
use Rattle.fields.specs.Parts.{field_as}
use Rattle.headers.specs.Headers.{adif_version, program_id, program_version, created_timestamp, rigflow, export_header}
use Rattle.headers.specs.Answer.{capped, capped_after}

pub cap_small : (n : ℕ) → n ≤ 16777216 → n ≡ capped n
unfolding capped
cap_small n h = rw (le-leb n 16777216 h) refl

pub cap_large : (n : ℕ) → 16777216 < n → 16777217 ≡ capped n
unfolding capped
cap_large n h = rw (lt-leb n 16777216 h) refl

-- a capped size that is within the limit is the size
capped_twice : (a b : ℕ) → capped (capped a + b) ≡ capped (a + b)
capped_twice a b = by (leb a 16777216) refl
  where
    by : (t : Bool) → leb a 16777216 ≡ t → capped (capped a + b) ≡ capped (a + b)
    by true e = ap (λ (k : ℕ). capped (k + b)) (sym (cap_small a (leb-true a 16777216 e)))
    by false e =
        let h : 16777216 < a = leb-false a 16777216 e in
        ap (λ (k : ℕ). capped (k + b)) (sym (cap_large a h)) ∙ sym (cap_large (16777217 + b) (omega arith)) ∙ cap_large (a + b) (omega arith)

pub after : (a b : ℕ) (w : List ℕ) → a ≡ capped b → capped_after a w ≡ capped (b + length w)
unfolding capped_after
after a b w e = rw e (capped_twice b (length w))

-- ---- one field more
module _ (name value : List ℕ) where
  pub value_in_lem : length value ≤ length (field_text (field_as name value))
  unfolding field_text
  value_in_lem = simp length-append (omega arith)

  pub with_long : (size : ℕ) → 16777216 < length value → 16777217 ≡ capped_after size (field_text (field_as name value))
  unfolding capped_after
  with_long size h = cap_large (size + length (field_text (field_as name value))) (omega (arith, value_in_lem))

  pub with_size : (size k r : ℕ) → k ≡ length (field_text (field_as name value)) → r ≡ capped (size + k) → r ≡ capped_after size (field_text (field_as name value))
  unfolding capped_after
  with_size size k r e p = p ∙ ap (λ (m : ℕ). capped (size + m)) e

-- ---- the whole
pub export_size : (version program created : List ℕ) (a b c r : ℕ) → a ≡ capped_after 6 (field_text (field_as adif_version version)) → b ≡ capped_after a (field_text (field_as program_id rigflow))
    → c ≡ capped_after b (field_text (field_as program_version program)) → r ≡ capped_after c (field_text (field_as created_timestamp created))
    → r ≡ capped (length (export_header version program created))
unfolding export_header
export_size version program created a b c r ea eb ec er =
    let A : List ℕ = field_text (field_as adif_version version) in
    let B : List ℕ = field_text (field_as program_id rigflow) in
    let C : List ℕ = field_text (field_as program_version program) in
    let D : List ℕ = field_text (field_as created_timestamp created) in
    let pa : a ≡ capped (6 + length A) = ea ∙ after 6 6 A (cap_small 6 (omega arith)) in
    let pb : b ≡ capped (6 + length A + length B) = eb ∙ after a (6 + length A) B pa in
    let pc : c ≡ capped (6 + length A + length B + length C) = ec ∙ after b (6 + length A + length B) C pb in
    let pr : r ≡ capped (6 + length A + length B + length C + length D) = er ∙ after c (6 + length A + length B + length C) D pc in
    pr ∙ ap capped (omega (arith, length-append A (B ++ (C ++ (D ++ end_of_header))), length-append B (C ++ (D ++ end_of_header)), length-append C (D ++ end_of_header), length-append D end_of_header))

pub two_sizes : (u v : List ℕ) (size a r : ℕ) → a ≡ capped_after size u → r ≡ capped_after a v → r ≡ capped_after size (u ++ v)
unfolding capped_after
two_sizes u v size a r ea er = er ∙ after a (size + length u) v ea ∙ ap capped (omega (arith, length-append u v))

pub three_sizes : (u v w : List ℕ) (size a b r : ℕ) → a ≡ capped_after size u → b ≡ capped_after a v → r ≡ capped_after b w → r ≡ capped_after size (u ++ (v ++ w))
three_sizes u v w size a b r ea eb er =
    two_sizes u (v ++ w) size a r ea (two_sizes v w a b r eb er)

pub first_sizes : (u v w : List ℕ) (a b r : ℕ) → a ≡ capped_after 0 u → b ≡ capped_after a v → r ≡ capped_after b w → r ≡ capped (length (u ++ (v ++ w)))
first_sizes u v w a b r ea eb er = three_sizes u v w 0 a b r ea eb er ∙ from_zero (u ++ (v ++ w))
  where
    from_zero : (x : List ℕ) → capped_after 0 x ≡ capped (length x)
    from_zero x = after 0 0 x (cap_small 0 (omega arith)) ∙ ap capped (zero-add (length x))

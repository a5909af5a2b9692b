-- Texts that are the same but for case, as the library tests them: in small letters. Assumes nothing.
use Rattle.std.specs.Char.{to_ascii_lowercase}
use Rattle.std.proofs.lemmas.Bool.Decides.{nat_tests}
use mathlib.Core.Path.{◌≡◌, refl, sym, ap, ◌∙◌}
use mathlib.Core.Logic.{◌↔◌}
use mathlib.Core.Bool.{Bool, true, false}
use mathlib.Core.List.{List, [], ◌∷◌, map}
use Prim.Native.Nat.{ℕ}
use native.Mathlib.Omega.{arith}
use Rattle.letters.specs.Same.{same, same_raised}
use Rattle.letters.proofs.SameLaws.{same_refl, same_true}
use Rattle.letters.specs.Capitals.{raised, capitals}

lowered_raised : (x : ℕ) → to_ascii_lowercase (raised x) ≡ to_ascii_lowercase x
unfolding raised
lowered_raised x = grind (arith, nat_tests)

raised_lowered : (x : ℕ) → raised (to_ascii_lowercase x) ≡ raised x
unfolding raised
raised_lowered x = grind (arith, nat_tests)

lowered_capitals : (xs : List ℕ) → map to_ascii_lowercase (capitals xs) ≡ map to_ascii_lowercase xs
lowered_capitals [] = refl
lowered_capitals (x ∷ xs) = rw (lowered_raised x, lowered_capitals xs) refl

capitals_lowered : (xs : List ℕ) → capitals (map to_ascii_lowercase xs) ≡ capitals xs
capitals_lowered [] = refl
capitals_lowered (x ∷ xs) = rw (raised_lowered x, capitals_lowered xs) refl

-- the library's test is this crate's
pub same_is : (a b : List ℕ) (r : Bool) → (r ≡ true) ↔ (map to_ascii_lowercase a ≡ map to_ascii_lowercase b) → r ≡ same_raised a b
unfolding same_raised
same_is a b r t = by r (same (capitals a) (capitals b)) refl refl
  where
    by : (x y : Bool) → r ≡ x → same (capitals a) (capitals b) ≡ y → r ≡ same (capitals a) (capitals b)
    by true true e f = e ∙ sym f
    by false false e f = e ∙ sym f
    by true false e f =
        let g : capitals a ≡ capitals b = sym (capitals_lowered a) ∙ ap capitals (t.0 e) ∙ capitals_lowered b in
        e ∙ sym (same_refl (capitals b)) ∙ sym (rw g)
    by false true e f =
        let g : capitals a ≡ capitals b = same_true (capitals a) (capitals b) f in
        t.1 (sym (lowered_capitals a) ∙ ap (map to_ascii_lowercase) g ∙ lowered_capitals b) ∙ sym f

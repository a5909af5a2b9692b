-- Laws of `specs/Capitals.antt`. Assumes nothing.
use mathlib.Core.Path.{◌≡◌, refl}
use mathlib.Core.Bool.{Bool, true, false}
use mathlib.Core.List.{List, [], ◌∷◌}
use Prim.Native.Nat.{ℕ, ◌-◌, ◌≤◌}
use native.Mathlib.Omega.{arith}
use lib.Dec.{leb}
use borrow.Author.Tests.{leb-true, lt-leb}
use Rattle.text.specs.Pick.{pick, both, within}
use Rattle.letters.specs.Capitals.{raised, capitals}

-- a capital is no small letter
pub raised_twice : (b : ℕ) → raised (raised b) ≡ raised b
unfolding raised
raised_twice b = by (within b 0x61 0x7A) refl
  where
    high : (x : Bool) → leb b 0x7A ≡ x → both (leb 0x61 b) x ≡ true → b ≤ 0x7A
    high true p q = leb-true b 0x7A p
    high false p q = absurd (no (leb 0x61 b) q)
      where
        no : (y : Bool) → both y false ≡ true → ⊥
        no true z = let w : ◌≡◌ {A = ℕ} 0 1 = cc in omega arith
        no false z = let w : ◌≡◌ {A = ℕ} 0 1 = cc in omega arith

    by : (t : Bool) → within b 0x61 0x7A ≡ t
        → pick (within (pick t (b - 0x20) b) 0x61 0x7A) (pick t (b - 0x20) b - 0x20) (pick t (b - 0x20) b) ≡ pick t (b - 0x20) b
    by true e =
        let l : b ≤ 0x7A = high (leb b 0x7A) refl e in
        simp (lt-leb 0x61 (b - 0x20) (omega arith))
    by false e = simp e

pub capitals_twice : (xs : List ℕ) → capitals (capitals xs) ≡ capitals xs
capitals_twice [] = refl
capitals_twice (x ∷ xs) =
    let h : raised (raised x) ≡ raised x = raised_twice x in
    let t : capitals (capitals xs) ≡ capitals xs = capitals_twice xs in
    cc

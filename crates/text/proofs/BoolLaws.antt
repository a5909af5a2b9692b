-- Laws of tests (`specs/Pick.antt`). Assumes nothing.
use mathlib.Core.Path.{◌≡◌, refl, sym, ◌∙◌}
use mathlib.Core.Bool.{Bool, true, false, true≢false}
use Rattle.text.specs.Pick.{both, either}

-- by what a test says
pub cases : {P : Type 0} (t : Bool) → (t ≡ true → P) → (t ≡ false → P) → P
cases true f g = f refl
cases false f g = g refl

-- no test says both
pub never : {P : Type 0} (t : Bool) → t ≡ true → t ≡ false → P
never t a b = absurd (true≢false (sym a ∙ b))

pub both_left : (a b : Bool) → both a b ≡ true → a ≡ true
both_left true b e = refl
both_left false b e = e

pub both_right : (a b : Bool) → both a b ≡ true → b ≡ true
both_right true b e = e
both_right false b e = never false e refl

pub both_true : (a b : Bool) → a ≡ true → b ≡ true → both a b ≡ true
both_true a b p q = rw (p, q) refl

pub both_no : (t : Bool) → both t false ≡ false
both_no true = refl
both_no false = refl

pub both_yes : (t : Bool) → both t true ≡ t
both_yes true = refl
both_yes false = refl

pub either_none : (a : Bool) → either a false ≡ a
either_none true = refl
either_none false = refl

pub either_either : (a b c : Bool) → either (either a b) c ≡ either a (either b c)
either_either true b c = refl
either_either false b c = refl

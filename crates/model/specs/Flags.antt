-- Flags in a struct that C fills are numbers: a `bool` there could hold a byte that is neither true nor false. 1 is yes and 0 is no; a QSO
-- with any other number is none.
use Rattle.std.specs.Prelude.{◌≡◌, refl, Bool, true, false, ℕ, eqb, leb}
use Rattle.text.specs.Pick.{pick}

abbrev pub is_flag : ℕ → Bool
is_flag n = leb n 1

abbrev pub is_yes : ℕ → Bool
is_yes n = eqb n 1

abbrev pub one_if : Bool → ℕ
one_if b = pick b 1 0

-- 2 and 3 are no flags, and 3 is not yes
two_is_none : is_flag 2 ≡ false
two_is_none = refl

three_is_none : is_flag 3 ≡ false
three_is_none = refl

both_are_flags : is_flag (one_if true) ≡ is_flag (one_if false)
both_are_flags = refl

one_is_yes : is_yes (one_if true) ≡ true
one_is_yes = refl

zero_is_no : is_yes (one_if false) ≡ false
zero_is_no = refl

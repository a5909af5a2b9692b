-- The grammar of a decimal by concatenation: an optional sign, digits with an optional point, an optional exponent. `proofs/Says.antt`
-- and `proofs/Said.antt` show that the texts it makes, and no others, say a decimal by `Number.antt`, and which.
use Rattle.std.specs.Prelude.{◌≡◌, Bool, true, false, List, [], ◌∷◌, ◌++◌, ℕ, ◌+◌, ◌<◌, length}
use Rattle.decimal.specs.Decimal.{all_digits}
use Rattle.mhz.specs.Digits.{number_of}
use Rattle.mhz.specs.Number.{Number, decimal}

-- nothing, `+`, or `-`, which alone makes it negative
pub data Sign : List ℕ → Bool → Type 0 where
  no_sign : Sign [] false
  plus : Sign (0x2B ∷ []) false
  minus : Sign (0x2D ∷ []) true

-- a text, its digits before the point and those after it
pub data Mantissa : List ℕ → List ℕ → List ℕ → Type 0 where
  no_point : (w : List ℕ) → all_digits w ≡ true → Mantissa w w []
  point : (w f : List ℕ) → all_digits w ≡ true → all_digits f ≡ true → Mantissa (w ++ (0x2E ∷ f)) w f

-- nothing, or `e` or `E`, an optional sign and digits
pub data Exponent : List ℕ → Bool → ℕ → Type 0 where
  no_exponent : Exponent [] false 0
  small_e : (s ds : List ℕ) {negative : Bool} → Sign s negative → all_digits ds ≡ true → 0 < length ds → Exponent (0x65 ∷ (s ++ ds)) negative (number_of ds)
  capital_e : (s ds : List ℕ) {negative : Bool} → Sign s negative → all_digits ds ≡ true → 0 < length ds → Exponent (0x45 ∷ (s ++ ds)) negative (number_of ds)

-- a text and the decimal that it says
pub data Decimal : List ℕ → Number → Type 0 where
  of : (s m e w f : List ℕ) {negative below : Bool} {n : ℕ} → Sign s negative → Mantissa m w f → 0 < length w + length f → Exponent e below n
      → Decimal (s ++ (m ++ e)) (decimal negative (number_of (w ++ f)) (length f) below n)

-- Sizes that stop at 16,777,217. Assumes nothing.
use mathlib.Core.Path.{◌≡◌, ap, ◌∙◌}
use mathlib.Core.Bool.{Bool, true, false}
use mathlib.Core.List.{List, ◌++◌}
use Prim.Native.Nat.{ℕ, ◌+◌}
use native.Mathlib.Nat.{add-zero}
use native.Mathlib.Omega.{arith}
use lib.ListN.{length, length-append}
use Rattle.text.specs.Space.{blank, trimmed}
use Rattle.fields.specs.Written.{field_text}
use Rattle.fields.specs.Parts.{field_as}
use Rattle.station.specs.Station.{filled, station_text}
use Rattle.headers.specs.Answer.{capped, capped_after}
use Rattle.headers.proofs.SizeLaws.{after}

-- ---- one field more
module _ (name value : List ℕ) where
  pub given_none : (b : Bool) (size r : ℕ) → b ≡ blank value → b ≡ true → r ≡ capped size → r ≡ capped_after size (filled name value)
  unfolding filled capped_after
  given_none b size r e t p = rw (← e, t, add-zero size) p

  pub given_some : (b : Bool) (v : List ℕ) (size r : ℕ) → b ≡ blank value → b ≡ false → v ≡ trimmed value → r ≡ capped_after size (field_text (field_as name v)) → r ≡ capped_after size (filled name value)
  unfolding filled
  given_some b v size r e t q p = rw (← e, t, ← q) p

-- ---- the whole
module _ (call grid name state county cq itu : List ℕ) where
  pub station_size : (u v w : List ℕ) (a b r : ℕ) → station_text call grid name state county cq itu ≡ u ++ (v ++ w) → a ≡ capped (length u) → b ≡ capped_after a v → r ≡ capped_after b w
      → r ≡ capped (length (station_text call grid name state county cq itu))
  station_size u v w a b r e ea eb er =
      let pb : b ≡ capped (length u + length v) = eb ∙ after a (length u) v ea in
      er ∙ after b (length u + length v) w pb ∙ ap capped (omega (arith, ap length e, length-append u (v ++ w), length-append v w))

-- The verdict on plain texts, by the tests that the code makes. Assumes nothing.
use Rattle.std.specs.Prelude.{Ok, Err}
use mathlib.Core.Path.{◌≡◌}
use mathlib.Core.List.{List}
use Prim.Native.Nat.{ℕ, ◌≤◌, ◌<◌}
use lib.ListN.{length}
use borrow.Author.Tests.{lt-ltb, le-ltb}
use Rattle.text.specs.Utf8.{valid_up_to}
use Rattle.refusals.specs.Refusals.{of_text}
use Rattle.refusals.specs.declared.Refusal.TheVariants.{TooLong}

module _ (s : List ℕ) where
  pub too_long : 16777216 < length s → Err TooLong ≡ of_text s
  unfolding of_text
  too_long h = simp (lt-ltb 16777216 (length s) h)

  module _ (n : ℕ) (h : length s ≤ 16777216) (e : n ≡ valid_up_to s) where
    pub accepted : length s ≤ n → Ok tt ≡ of_text s
    unfolding of_text
    accepted g = simp (le-ltb 16777216 (length s) h, ← e, le-ltb n (length s) g)

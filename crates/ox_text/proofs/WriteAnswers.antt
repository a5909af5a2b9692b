-- A writing that had room, and one that had not. Assumes nothing.
use mathlib.Core.Path.{◌≡◌, refl, ◌∙◌}
use mathlib.Core.List.{List}
use Prim.Native.Nat.{ℕ, ◌≤◌, ◌<◌}
use native.Mathlib.Nat.{zero-add}
use native.Mathlib.Omega.{arith}
use lib.ListN.{length}
use borrow.Author.Tests.{lt-ltb, le-ltb}
use Rattle.output.specs.Put.{Put, Room}
use Rattle.refusals.specs.Refusals.{number_of}
use Rattle.refusals.specs.declared.Refusal.TheVariants.{ShortOutput}
use Rattle.ox_text.specs.Writing.{Wrote}

module _ (was w : List ℕ) (k : ℕ) (e : k ≡ length w) where
  pub short : (n : ℕ) → length was < k → n ≡ number_of ShortOutput → Wrote (record { refusal = n; length = 0 }) was was w
  short n h q = record {
    answer = rw (lt-ltb (length was) (length w) (omega arith), q) refl;
    output = rw (lt-ltb (length was) (length w) (omega arith)) refl;
  }

  pub room : k ≤ length was → Room was 0 w
  unfolding Room
  room h = omega arith

  pub wrote : (r : ℕ) (now : List ℕ) → k ≤ length was → Put r was now 0 w → Wrote (record { refusal = 0; length = r }) was now w
  unfolding Put
  wrote r now h p =
      let l : r ≡ length w = p.0 ∙ zero-add (length w) in
      record {
        answer = rw (le-ltb (length was) (length w) (omega arith), l) refl;
        output = rw (le-ltb (length was) (length w) (omega arith)) p.1;
      }

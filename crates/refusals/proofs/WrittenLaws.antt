-- Which texts fit an output. Assumes nothing.
use Rattle.std.specs.Prelude.{Result, Ok, Err}
use mathlib.Core.Path.{◌≡◌, refl, ap}
use mathlib.Core.Bool.{Bool, true, false}
use Prim.Native.Nat.{ℕ, ◌≤◌, ◌<◌}
use native.Mathlib.Omega.{arith}
use lib.Dec.{leb}
use borrow.Author.Tests.{lt-leb, leb-true}
use Rattle.text.specs.Pick.{pick}
use Rattle.refusals.specs.Written.{fitted}
use Rattle.refusals.specs.declared.Refusal.{Refusal}
use Rattle.refusals.specs.declared.Refusal.TheVariants.{TooLong, ShortOutput}

pub fit_long : (measured : Result ℕ Refusal) (room n : ℕ) → measured ≡ Ok n → 16777216 < n → Err TooLong ≡ fitted measured room
unfolding fitted
fit_long measured room n e h = rw (e, lt-leb n 16777216 h) refl

not_bytes : (why : Refusal) (n : ℕ) → Err why ≡ Ok n → ⊥
not_bytes why n e = let z : ◌≡◌ {A = ℕ} 0 1 = cc in omega arith

-- an answer of bytes passed each test
module _ (n : ℕ) where
  pub passed : (t : Bool) (v : Result ℕ Refusal) (why : Refusal) → pick t v (Err why) ≡ Ok n → (t ≡ true) × (v ≡ Ok n)
  passed true v why e = (refl, e)
  passed false v why e = absurd (not_bytes why n e)

  pub fits : (measured : Result ℕ Refusal) (room : ℕ) → fitted measured room ≡ Ok n → (measured ≡ Ok n) × (n ≤ 16777216) × (n ≤ room)
  unfolding fitted
  fits (Err why) room e = absurd (not_bytes why n e)
  fits (Ok m) room e =
      let p : (leb m 16777216 ≡ true) × (pick (leb m room) (Ok m) (Err ShortOutput) ≡ Ok n) = passed (leb m 16777216) (pick (leb m room) (Ok m) (Err ShortOutput)) TooLong e in
      let q : (leb m room ≡ true) × (Ok m ≡ Ok n) = passed (leb m room) (Ok m) ShortOutput p.1 in
      let z : m ≡ n = cc in
      (ap Ok z, omega (arith, leb-true m 16777216 p.0), omega (arith, leb-true m room q.0))

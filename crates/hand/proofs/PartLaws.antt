-- A part of a text, by the tests that the code makes. Assumes nothing.
use Rattle.std.specs.declared.cmp.Ordering.{Ordering}
use Rattle.std.specs.declared.cmp.Ordering.TheVariants.{Greater}
use mathlib.Core.Path.{◌≡◌, refl, sym, ◌∙◌, ap}
use mathlib.Core.List.{List, [], ◌∷◌}
use Prim.Native.Nat.{ℕ, zero, suc, ◌<◌}
use native.Mathlib.Omega.{arith}
use native.Mathlib.Nat.{add-zero}
use lib.ListN.{get_or, take, drop}
use lib.Seq.{take-nil, get_or-drop}
use Rattle.letters.specs.Capitals.{raised, capitals}
use Rattle.letters.specs.Order.{order, order_raised}
use Rattle.letters.proofs.OrderLaws.{first_above}
use Rattle.adif.specs.Reading.{part}

pub order_there : (text name p : List ℕ) (at n : ℕ) (o : Ordering) → p ≡ part text at n → o ≡ order_raised name p → o ≡ order_raised name (part text at n)
order_there text name p at n o e q = q ∙ ap (order_raised name) e

-- a first byte above that of the part decides: an empty name has none above any
first_of_some : (x : ℕ) (xs d : List ℕ) (n : ℕ) → raised (get_or d 0 0) < raised x → Greater ≡ order (capitals (x ∷ xs)) (capitals (take n d))
first_of_some x xs [] n h = rw (take-nil n) refl
first_of_some x xs (y ∷ ys) zero h = refl
first_of_some x xs (y ∷ ys) (suc n) h = sym (first_above (raised x) (raised y) (capitals xs) (capitals (take n ys)) h)

pub first_decides : (text name : List ℕ) (at n : ℕ) → raised (get_or text at 0) < raised (get_or name 0 0) → Greater ≡ order_raised name (part text at n)
unfolding order_raised raised
first_decides text [] at n h = absurd (omega arith)
first_decides text (x ∷ xs) at n h = first_of_some x xs (drop at text) n (rw (get_or-drop at text 0 0, add-zero) h)

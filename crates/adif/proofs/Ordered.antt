-- A field that joins a record keeps the names in strict byte order, so each name stands once; hence every record that is read is in that
-- order. Assumes nothing.
use Rattle.std.specs.declared.cmp.Ordering.{Ordering}
use Rattle.std.specs.declared.cmp.Ordering.TheVariants.{Less, Equal, Greater}
use mathlib.Core.Path.{◌≡◌, refl}
use mathlib.Core.Bool.{Bool, true, false}
use mathlib.Core.List.{List, [], ◌∷◌}
use Prim.Native.Nat.{ℕ}
use Rattle.letters.specs.Order.{order}
use Rattle.letters.proofs.OrderLaws.{order_equal, order_turn}
use Rattle.adif.specs.Records.{Item, eoh, eor, field, placed, put, last, plainly}
use Rattle.adif.specs.Limits.{Before, Ascending, AllAscending}

module _ {F : Type 0} (name : F → List ℕ) where
  -- what stands before the fields, and before the one that joins them, stands before what comes out
  before_placed : (x f y : F) (ys rest : List F) (o : Ordering) → order (name x) (name f) ≡ Less → order (name x) (name y) ≡ Less
      → Before name x (placed o f y ys rest)
  before_placed x f y ys rest Less p q = p
  before_placed x f y ys rest Equal p q = p
  before_placed x f y ys rest Greater p q = q

  before_put : (x f : F) (ys : List F) → order (name x) (name f) ≡ Less → Before name x ys → Before name x (put name f ys)
  before_put x f [] p q = p
  before_put x f (y ∷ ys) p q = before_placed x f y ys (put name f ys) (order (name f) (name y)) p q

  before_same : (x f : F) (ys : List F) → name f ≡ name x → Before name x ys → Before name f ys
  before_same x f [] e b = tt
  before_same x f (y ∷ ys) e b = rw e b

  ascending_placed : (f x : F) (xs : List F) (o : Ordering) → order (name f) (name x) ≡ o → Before name x xs → Ascending name xs → Ascending name (put name f xs)
      → Ascending name (placed o f x xs (put name f xs))
  ascending_placed f x xs Less e b s k = (e, (b, s))
  ascending_placed f x xs Equal e b s k = (before_same x f xs (order_equal (name f) (name x) e) b, s)
  ascending_placed f x xs Greater e b s k = (before_put x f xs (order_turn (name f) (name x) e) b, k)

  pub put_ascending : (f : F) (xs : List F) → Ascending name xs → Ascending name (put name f xs)
  put_ascending f [] s = (tt, tt)
  put_ascending f (x ∷ xs) s = ascending_placed f x xs (order (name f) (name x)) refl s.0 s.1 (put_ascending f xs s.1)

  last_ascending : (some : Bool) (hand : List F) → Ascending name hand → AllAscending name (last some hand)
  last_ascending false hand s = tt
  last_ascending true [] s = tt
  last_ascending true (h ∷ hs) s = (s, tt)

  pub plainly_ascending : (is : List (Item F)) (hand : List F) (some : Bool) → Ascending name hand → AllAscending name (plainly name hand some is)
  plainly_ascending [] hand some s = last_ascending some hand s
  plainly_ascending (eoh ∷ is) hand some s = plainly_ascending is [] some tt
  plainly_ascending (eor ∷ is) [] some s = plainly_ascending is [] some tt
  plainly_ascending (eor ∷ is) (h ∷ hs) some s = (s, plainly_ascending is [] true tt)
  plainly_ascending (field f ∷ is) hand some s = plainly_ascending is (put name f hand) some (put_ascending f hand s)

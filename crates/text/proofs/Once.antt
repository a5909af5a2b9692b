-- What it means that a promise determines its call: of two answers that both meet it for the same arguments, each is the other.
use mathlib.Core.Path.{◌≡◌}
use mathlib.Core.List.{List}
use Prim.Native.Nat.{ℕ}
use contract.Lifetimes.{Lfts}
use denote.Triple.Clauses.{AtExit}
use borrow.Fn.Kinds.{Out, ParamKind, ResultKind, Dens, res_t, ended_of}

module _ (n : ℕ) (ps : List (ParamKind n)) (r : ResultKind n) where
  -- the answer alone, for a call to which nothing is lent to be changed
  abbrev pub Once : Out n ps r → Type 0
  Once P = (κs : Lfts n) (a : Dens κs ps) (x y : (res_t r κs).Denot) (d e : AtExit (ended_of n ps r) κs) → P κs a x d → P κs a y e → x ≡ y

  -- the answer, and what `lent` reads off the parameters as the call leaves them
  abbrev pub OnceWith : {A : Type 0} → ((κs : Lfts n) → AtExit (ended_of n ps r) κs → A) → Out n ps r → Type 0
  OnceWith lent P =
      (κs : Lfts n) (a : Dens κs ps) (x y : (res_t r κs).Denot) (d e : AtExit (ended_of n ps r) κs) → P κs a x d → P κs a y e → (x ≡ y) × (lent κs d ≡ lent κs e)

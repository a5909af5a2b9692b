-- The public call's promise is met by rows that agree in all but the chains of importable records, numbers 2 and 3 of a row: the planner
-- wipes them. Assumes nothing.
use mathlib.Core.Path.{◌≡◌, sym, ◌∙◌}
use mathlib.Core.Bool.{Bool}
use mathlib.Core.List.{List, []}
use Prim.Native.Nat.{ℕ, ◌<◌}
use lib.IntN.{ℤ}
use lib.ListN.{length, get_or, drop}
use contract.Lifetimes.{Lfts}
use denote.Triple.Clauses.{AtExit}
use borrow.Fn.Kinds.{Dens, res_t, ended_of}
use Rattle.chain.specs.Chain.{col}
use Rattle.plan.specs.Entry.{Entry}
use Rattle.entries.specs.Row.{Row}
use Rattle.fates.specs.Fated.{Found, Fated, kept_of, Kept}
use Rattle.fates.proofs.settle.Reads as settle
use Rattle.fates.proofs.settle.Kinds as settle-kinds

-- all numbers of the first n rows but those two, and the rows behind
record Same (n : ℕ) (rows rows' : List Row) : Type 0 where
  pub lengths : length rows ≡ length rows'
  pub fates : (j : ℕ) → j < n → col rows j 0 ≡ col rows' j 0
  pub kept : (j : ℕ) → kept_of (get_or rows j []) ≡ kept_of (get_or rows' j [])
  pub behind : drop n rows ≡ drop n rows'

settled_once : (window : ℤ) (download : Bool) (es : List Entry) (hits : List ℕ) (n : ℕ) (rows r s : List Row) → Fated window download es hits n r → Fated window download es hits n s → Kept n rows r → Kept n rows s → Same n r s
unfolding Fated
settled_once window download es hits n rows r s F G K L =
    record {
      lengths = K.lengths ∙ sym L.lengths;
      fates = λ j h. F j h ∙ sym (G j h);
      kept = λ j. K.kept j ∙ sym (L.kept j);
      behind = K.behind ∙ sym L.behind;
    }

-- of whatever contacts the records found
settle_once : (κs : Lfts 2) (a : Dens κs settle-kinds.ps) (x y : (res_t settle-kinds.r κs).Denot) (d e : AtExit (ended_of 2 settle-kinds.ps settle-kinds.r) κs) (hits : List ℕ)
    → settle.Pre κs a → Found a.1.1.1.1.0 hits a.1.1.1.0.now → settle.Post κs a x d → settle.Post κs a y e → Same a.1.1.1.1.0 d.1.1.1.0.now e.1.1.1.0.now
settle_once κs a x y d e hits s f p q = settled_once _ _ _ hits _ _ _ _ (p.0 s.2.0 hits s.2.1 f) (q.0 s.2.0 hits s.2.1 f) p.1 q.1

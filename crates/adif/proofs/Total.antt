-- Every text says something by the grammar. Assumes nothing.
use Rattle.std.specs.Prelude.{Option, Some, None}
use mathlib.Core.Path.{◌≡◌, refl, sym, ap, ◌∙◌}
use mathlib.Core.Bool.{Bool, true, false}
use mathlib.Core.List.{List, [], ◌∷◌, ◌++◌}
use Prim.Native.Nat.{ℕ, zero, suc, ◌<◌}
use native.Mathlib.Nat.{not-suc-le-zero}
use native.Mathlib.Omega.{arith}
use lib.ListN.{length, take, drop, length-append, take-append-drop}
use lib.Seq.{length-take-le}
use lib.Dec.{leb}
use borrow.Author.Tests.{leb-true, leb-false}
use Rattle.text.specs.Space.{trimmed}
use Rattle.text.specs.Utf8.{utf8}
use Rattle.decimal.specs.Decimal.{unsigned_of}
use Rattle.tags.specs.Tags.{lt, gt, colon, kind_of}
use Rattle.tags.specs.declared.Kind.{Kind}
use Rattle.tags.specs.declared.Kind.TheVariants.{EndOfHeader, EndOfRecord, EndOfFile, FieldName}
use Rattle.adif.specs.Records.{Ending}
use Rattle.adif.specs.Grammar.{Why, Items, Without, Cut, all, upto, Tagged, Sized, Says, over, eof_tag, eoh_tag, eor_tag, field_tag, unterminated, missing, bad, truncated, torn}
use Rattle.adif.proofs.Cuts.{Split, none, found, split, cut_of}

abbrev Said : List ℕ → Type 0
Said text = (is : Items) × (e : Ending Why) × Says text is e

module _ (text t rest : List ℕ) (T : Tagged text t rest) where
  shorter : length rest < length text
  shorter = omega (arith, ap length T.is, length-append T.gap (lt ∷ (t ++ gt ∷ rest)), length-append t (gt ∷ rest))

  module _ (go : (r : List ℕ) → length r < length text → Said r) where
    module _ (n l : List ℕ) (z : Sized t n l) (k : kind_of (trimmed n) ≡ FieldName) where
      value : (v more : List ℕ) → unsigned_of (trimmed l) ≡ Some (length v) → rest ≡ v ++ more → (c : Bool) → utf8 v ≡ c → Said text
      value v more g f false h = ([], _, torn v more T z k g f h)
      value v more g f true h =
          let (is, e, w) = go more (omega (arith, shorter, ap length f, length-append v more)) in
          (_, e, field_tag v more T z k g f h w)

      enough : (m : ℕ) → unsigned_of (trimmed l) ≡ Some m → (c : Bool) → leb m (length rest) ≡ c → Said text
      enough m g true h =
          let q : length (take m rest) ≡ m = length-take-le m rest (leb-true m (length rest) h) in
          value (take m rest) (drop m rest) (rw q g) (sym (take-append-drop m rest)) (utf8 (take m rest)) refl
      enough m g false h = ([], _, truncated T z k g (leb-false m (length rest) h))

      sized : (num : Option ℕ) → unsigned_of (trimmed l) ≡ num → Said text
      sized None g = ([], _, bad T z k g)
      sized (Some m) g = enough m g (leb m (length rest)) refl

    field_of : (n : List ℕ) → Cut colon t n → kind_of (trimmed n) ≡ FieldName → Said text
    field_of n (all w) k = ([], _, missing T w k)
    field_of n (upto post w e) k =
        let (l, c) = cut_of colon (split colon post) in
        sized n l (record { more = post; named = w; cut = c; is = e }) k (unsigned_of (trimmed l)) refl

    by_kind : (n : List ℕ) → Cut colon t n → (k : Kind) → kind_of (trimmed n) ≡ k → Said text
    by_kind n c EndOfHeader k = let (is, e, w) = go rest shorter in (_, e, eoh_tag T c k w)
    by_kind n c EndOfRecord k = let (is, e, w) = go rest shorter in (_, e, eor_tag T c k w)
    by_kind n c EndOfFile k = ([], _, eof_tag T c k)
    by_kind n c FieldName k = field_of n c k

module _ (text : List ℕ) (go : (r : List ℕ) → length r < length text → Said r) where
  closed_by : (gap more : List ℕ) → Without lt gap → text ≡ gap ++ lt ∷ more → Split gt more → Said text
  closed_by gap more w e (none v) = ([], _, unterminated gap more w v e)
  closed_by gap more w e (found t rest v f) =
      let T : Tagged text t rest = record { gap = gap; comment = w; closed = v; is = e ∙ ap (λ (l : List ℕ). gap ++ lt ∷ l) f } in
      let (n, c) = cut_of colon (split colon t) in
      by_kind text t rest T go n c (kind_of (trimmed n)) refl

  opened_by : Split lt text → Said text
  opened_by (none w) = ([], _, over w)
  opened_by (found gap more w e) = closed_by gap more w e (split gt more)

says_below : (f : ℕ) (text : List ℕ) → length text < f → Said text
says_below zero text h = absurd (not-suc-le-zero h)
says_below (suc f) text h = opened_by text (λ r p. says_below f r (omega arith)) (split lt text)

pub says_something : (text : List ℕ) → Said text
says_something text = says_below (suc (length text)) text (omega arith)

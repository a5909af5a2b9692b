-- All records settled, one after the other. Assumes nothing.
use mathlib.Core.Path.{◌≡◌, refl, sym, ap, ◌∙◌}
use mathlib.Core.Bool.{Bool, true, false}
use mathlib.Core.List.{List, [], ◌∷◌}
use Prim.Native.Nat.{ℕ, ◌+◌, ◌≤◌, ◌<◌}
use native.Mathlib.Numerals.{add-one}
use native.Mathlib.Omega.{arith}
use lib.ListN.{length, get_or, drop, get_or-append}
use lib.Seq.{get_or_at}
use lib.Dec.{eqb, ltb}
use lib.IntN.{ℤ}
use mir.Syntax.{w64}
use mir.Val.{SFits, to_z, of_z}
use mir.ValLaws.{to_z-of_z}
use borrow.Author.Tests.{eqb-true, eqb-false}
use Rattle.text.specs.Pick.{both}
use Rattle.text.proofs.BoolLaws.{cases}
use Rattle.times.specs.Window.{limit_of}
use Rattle.dedupe.specs.Keys.{in_file}
use Rattle.dedupe.specs.Views.{keys_in_file}
use Rattle.chain.specs.Chain.{col}
use Rattle.chain.proofs.Chains.{over_same}
use Rattle.search.proofs.FindLaws.{near_within}
use Rattle.plan.specs.Entry.{Entry, no_entry}
use Rattle.plan.specs.Fates.{bears_any, repeats, repeated, fate_at, fates_to}
use Rattle.plan.proofs.FateLaws.{fates_many}
use Rattle.model.specs.Flags.{one_if}
use Rattle.entries.specs.Row.{Row}
use Rattle.entries.specs.Filled.{Said, Bare}
use Rattle.infile.specs.Infile.{alike, repeated_in, code_in, Chained}
use Rattle.infile.proofs.LinkLaws.{chained_none}
use Rattle.fates.specs.Fated.{Found, Fated, kept_of, Kept}
use Rattle.fates.specs.Steps.{fate_in, Step}

-- ---- what reads only numbers that are left alone
abbrev wide : List ℕ → Row
wide xs = 0 ∷ get_or xs 0 0 ∷ 0 ∷ 0 ∷ drop 1 xs

alike_wide : (text : List ℕ) (limit : ℕ) (r s : Row) → alike text limit r s ≡ alike text limit (wide (kept_of r)) (wide (kept_of s))
unfolding alike
alike_wide text limit r s = refl

alike_kept : (text : List ℕ) (limit : ℕ) (r s r' s' : Row) → kept_of r ≡ kept_of r' → kept_of s ≡ kept_of s' → alike text limit r s ≡ alike text limit r' s'
alike_kept text limit r s r' s' e f =
    alike_wide text limit r s
    ∙ ap (λ (x : List ℕ). alike text limit (wide x) (wide (kept_of s))) e
    ∙ ap (λ (x : List ℕ). alike text limit (wide (kept_of r')) (wide x)) f
    ∙ sym (alike_wide text limit r' s')

one_if_lem : (b : Bool) → ltb 0 (one_if b) ≡ b
one_if_lem true = refl
one_if_lem false = refl

-- ---- what rows say, as the plan's definition sees the records
module _ (text : List ℕ) (n : ℕ) (es : List Entry) (rows : List Row) (S : Said text n es rows) where
  said_code : (j : ℕ) → j < n → col rows j 4 ≡ code_in text (get_or rows j [])
  unfolding code_in
  said_code j h = let s = S.says j h in s.code ∙ rw (← s.call, ← s.mode, ← s.band) refl

  module _ (w : ℤ) (limit : ℕ) (el : limit ≡ limit_of w) where
    said_alike : (download : Bool) (hits : List ℕ) (j k : ℕ) → j < n → k < n → alike text limit (get_or rows j []) (get_or rows k []) ≡ repeats w download es hits j k
    unfolding alike keys_in_file repeats
    said_alike download hits j k hj hk =
        let s = S.says j hj in
        let t = S.says k hk in
        rw (s.call, s.mode, s.band, s.moment, t.call, t.mode, t.band, t.moment, el)
        (ap (both (in_file (get_or es j no_entry).call (get_or es j no_entry).mode (get_or es j no_entry).band (get_or es k no_entry).call (get_or es k no_entry).mode (get_or es k no_entry).band)) (near_within (get_or es j no_entry).moment (get_or es k no_entry).moment w))

-- ---- the fates so far
module _ (w : ℤ) (download : Bool) (es : List Entry) (hits : List ℕ) where
  fates_old : (k j : ℕ) → j < k → get_or (fates_to w download es hits (k + 1)) j 0 ≡ get_or (fates_to w download es hits k) j 0
  unfolding fates_to
  fates_old k j h = rw add-one (get_or-append (fates_to w download es hits k) _ 0 j (omega (arith, fates_many w download es hits k)))

  fates_new : (k : ℕ) → get_or (fates_to w download es hits (k + 1)) k 0 ≡ fate_at w download es hits (λ j. get_or (fates_to w download es hits k) j 0) k
  unfolding fates_to
  fates_new k = rw add-one (get_or_at (fates_to w download es hits k) _ [] 0 k (fates_many w download es hits k))

-- ---- after k records
pub record Done (text : List ℕ) (limit : ℕ) (download : Bool) (n k : ℕ) (rows₀ rows : List Row) : Type 0 where
  pub fates : (w : ℤ) (es : List Entry) (hits : List ℕ) → limit ≡ limit_of w → Said text n es rows₀ → Found n hits rows₀ → (j : ℕ) → j < k → col rows j 0 ≡ get_or (fates_to w download es hits k) j 0
  pub kept : (j : ℕ) → kept_of (get_or rows j []) ≡ kept_of (get_or rows₀ j [])
  pub lengths : length rows ≡ length rows₀
  pub behind : drop n rows ≡ drop n rows₀
  pub chained : Chained text n k rows

pub done_none : (text : List ℕ) (limit : ℕ) (download : Bool) (n : ℕ) (rows : List Row) → Bare n rows → (es : List Entry) → Said text n es rows → Done text limit download n 0 rows rows
done_none text limit download n rows B es S =
    record {
      fates = λ w es hits el s f j h. absurd (omega arith);
      kept = λ j. refl;
      lengths = refl;
      behind = refl;
      chained = chained_none text n rows S.room (said_code text n es rows S) B.heads;
    }

module _ (text : List ℕ) (limit : ℕ) (download : Bool) (n k : ℕ) (rows₀ rows : List Row) (D : Done text limit download n k rows₀ rows) where
  module _ (h : k < n) (w : ℤ) (es : List Entry) (hits : List ℕ) (el : limit ≡ limit_of w) (S : Said text n es rows₀) (F : Found n hits rows₀) where
    abbrev known : ℕ → ℕ
    known j = get_or (fates_to w download es hits k) j 0

    again : repeated_in text limit rows k ≡ repeated w download es hits known k
    unfolding repeated_in
    again =
        over_same _ _ (λ j a. true) false k
        (λ j l. rw (D.fates w es hits el S F j l, alike_kept text limit (get_or rows j []) (get_or rows k []) (get_or rows₀ j []) (get_or rows₀ k []) (D.kept j) (D.kept k), said_alike text n es rows₀ S w limit el download hits j k (omega arith) h) refl)

    fate_said : fate_in text limit download rows k ≡ fate_at w download es hits known k
    unfolding fate_in fate_at Found
    fate_said =
        let s = S.says k h in
        let reason : col rows k 1 ≡ (get_or es k no_entry).reason = ap (λ (x : List ℕ). get_or x 0 0) (D.kept k) ∙ s.reason in
        let bears : ltb 0 (col rows k 23) ≡ bears_any (get_or es k no_entry).answers = ap (λ (x : List ℕ). ltb 0 (get_or x 20 0)) (D.kept k) ∙ rw s.bears (one_if_lem (bears_any (get_or es k no_entry).answers)) in
        let found : col rows k 22 ≡ get_or hits k 0 = ap (λ (x : List ℕ). get_or x 19 0) (D.kept k) ∙ F k h in
        rw (reason, bears, found, again) refl

  pub done_more : (rows' : List Row) → k < n → Step text limit download n k rows rows' → Done text limit download n (k + 1) rows₀ rows'
  done_more rows' h T =
      record {
        fates = λ w es hits el S F j l. cases (eqb j k)
            (λ t. let z : j ≡ k = eqb-true j k t in rw z (T.fate ∙ fate_said h w es hits el S F ∙ sym (fates_new w download es hits k)))
            (λ t. let d = eqb-false j k t in
            T.fates j d ∙ D.fates w es hits el S F j (omega arith) ∙ sym (fates_old w download es hits k j (omega arith)));
        kept = λ j. T.kept j ∙ D.kept j;
        lengths = T.lengths ∙ D.lengths;
        behind = T.behind ∙ D.behind;
        chained = T.chained;
      }

  pub done_all : (window : ℤ) → SFits w64 window → limit ≡ limit_of (to_z w64 (of_z w64 window)) → k ≤ n → n ≤ k → (es : List Entry) (hits : List ℕ) → Said text n es rows₀ → Found n hits rows₀ → Fated window download es hits n rows
  unfolding Fated
  done_all window f e a b es hits S F =
      let el : limit ≡ limit_of window = rw (to_z-of_z w64 window f) at e in
      let z : k ≡ length es = omega (arith, S.counted) in
      λ j h. rw z at (D.fates window es hits el S F j (omega arith))

  pub done_kept : Kept n rows₀ rows
  done_kept = record { lengths = D.lengths; kept = D.kept; behind = D.behind }

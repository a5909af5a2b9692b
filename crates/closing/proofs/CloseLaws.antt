-- From what the phases leave to the definition. Assumes nothing.
use Rattle.std.specs.Prelude.{Option, Some, None}
use Rattle.cards.specs.declared.Counted.{Counted}
use mathlib.Core.Path.{◌≡◌, refl, sym, ap, ◌∙◌}
use mathlib.Core.Bool.{true, false}
use mathlib.Core.List.{List, [], ◌∷◌, ◌++◌, map}
use Prim.Native.Nat.{ℕ, zero, suc, ◌-◌, ◌≤◌, ◌<◌}
use native.Mathlib.Nat.{sub-zero, zero-add}
use native.Mathlib.Omega.{arith}
use lib.Dec.{leb}
use lib.ListN.{length, get_or, take, drop, replicate, length-map}
use lib.Seq.{sets, sets-eq, length-take-le}
use borrow.Author.Tests.{leb-true}
use Rattle.text.proofs.BoolLaws.{cases}
use Rattle.chain.specs.Chain.{col}
use Rattle.indexing.proofs.BuildLaws.{drop_replicate}
use Rattle.plan.specs.Plan.{Plan}
use Rattle.entries.specs.Row.{Row, no_row}
use Rattle.plan.specs.Cards.{card_row, no_card}
use Rattle.wiped.specs.Kept.{kept_row, kept_rows}
use Rattle.closing.specs.Phases.{counted_by, Recorded}
use Rattle.closing.specs.Closed.{fate_rows, padded, closed_table, closed_fates, closed_cards, Closed}

-- ---- rows by their fates and reasons
kept_are : (fs rs : List ℕ) (rows : List Row) (n : ℕ) → length fs ≡ n → length rs ≡ n → n ≤ length rows
    → ((k : ℕ) → k < n → col rows k 0 ≡ get_or fs k 0) → ((k : ℕ) → k < n → col rows k 1 ≡ get_or rs k 0) → kept_rows rows n ≡ fate_rows fs rs
kept_are [] rs rows zero ef er l hf hr = refl
kept_are [] rs rows (suc n) ef er l hf hr = absurd (omega (arith, ef))
kept_are (f ∷ fs) rs rows zero ef er l hf hr = absurd (omega (arith, ef))
kept_are (f ∷ fs) [] rows (suc n) ef er l hf hr = absurd (omega (arith, er))
kept_are (f ∷ fs) (r ∷ rs) [] (suc n) ef er l hf hr = absurd (omega arith)
kept_are (f ∷ fs) (r ∷ rs) (x ∷ rows) (suc n) ef er l hf hr =
    let a : get_or x 0 0 ≡ f = hf 0 (omega arith) in
    let b : get_or x 1 0 ≡ r = hr 0 (omega arith) in
    let t : kept_rows rows n ≡ fate_rows fs rs = kept_are fs rs rows n (omega (arith, ef)) (omega (arith, er)) (omega arith) (λ k h. hf (suc k) (omega arith)) (λ k h. hr (suc k) (omega arith)) in
    rw (a, b, t) refl

-- rows in front of zeros
laid_padded : (rows : List (List ℕ)) (n : ℕ) (blank : List ℕ) (m : ℕ) (w : List (List ℕ)) → length w ≡ n → n ≤ length rows → drop n rows ≡ drop n (replicate m blank) → sets rows 0 w ≡ padded w blank m
laid_padded rows n blank m w l h d =
    sets-eq w rows 0 (omega (arith, l))
    ∙ ap (λ (r : List (List ℕ)). w ++ r) (ap (λ (k : ℕ). drop k rows) (zero-add (length w) ∙ l) ∙ d ∙ drop_replicate n m blank ∙ ap (λ (k : ℕ). replicate (m - k) blank) (sym l))

-- what the phases said
full_counted : {P : Type 0} (c already unmatched : ℕ) → ◌≡◌ {A = Option Counted} None (Some (record { confirmations = c; already = already; unmatched = unmatched })) → P
full_counted c already unmatched e = absurd (let z : ◌≡◌ {A = ℕ} 0 1 = cc in omega arith)

pub counted_some : (p : Plan) (m c already unmatched : ℕ) → counted_by p m ≡ Some (record { confirmations = c; already = already; unmatched = unmatched })
    → (leb (length p.confirmations) m ≡ true) × (c ≡ length p.confirmations) × (already ≡ p.already) × (unmatched ≡ p.unmatched)
counted_some p m c already unmatched e =
    cases (leb (length p.confirmations) m)
    (λ u. let z : ◌≡◌ {A = Option Counted} (Some (record { confirmations = length p.confirmations; already = p.already; unmatched = p.unmatched })) (Some (record { confirmations = c; already = already; unmatched = unmatched })) = rw u at e in
    let y : ◌≡◌ {A = Counted} (record { confirmations = length p.confirmations; already = p.already; unmatched = p.unmatched }) (record { confirmations = c; already = already; unmatched = unmatched }) = cc in
    (u, sym (ap (λ (x : Counted). x.confirmations) y), sym (ap (λ (x : Counted). x.already) y), sym (ap (λ (x : Counted). x.unmatched) y)))
    (λ u. full_counted c already unmatched (rw u at e))

pub counted_full : (p : Plan) (m : ℕ) → counted_by p m ≡ None → leb (length p.confirmations) m ≡ false
counted_full p m e =
    cases (leb (length p.confirmations) m)
    (λ u. full_counted (length p.confirmations) p.already p.unmatched (sym (rw u at e)))
    (λ u. u)

-- ---- the two ends
module _ (p : Plan) (n : ℕ) (was : List ℕ) (fates cards : List (List ℕ)) (room : n ≤ length fates) (blank : drop n fates ≡ drop n (replicate (length fates) no_row)) (none : cards ≡ replicate (length cards) no_card)
    (r : Option Counted) (rows' cards' : List (List ℕ)) (P : Recorded p n fates cards r rows' cards') where
  pub close_full : r ≡ None → (table : List ℕ) (fates'' cards'' : List (List ℕ)) → table ≡ take 0 was ++ replicate (length was - 0) 0 → fates'' ≡ replicate (length rows') no_row → cards'' ≡ replicate (length cards') no_card → Closed p was (length fates) (length cards) None table fates'' cards''
  unfolding closed_table closed_fates closed_cards
  close_full e table fates'' cards'' et ef ec = record {
    answer = sym e ∙ P.answer;
    tabled = et ∙ ap (λ (k : ℕ). replicate k 0) (sub-zero (length was));
    fated = ef ∙ ap (λ (k : ℕ). replicate k no_row) P.as_many;
    carded = ec ∙ ap (λ (k : ℕ). replicate k no_card) P.as_many_cards;
  }

  pub kept_room : n ≤ length rows'
  kept_room = omega (arith, P.as_many)

  kept_n : length (kept_rows rows' n) ≡ n
  kept_n = length-map (take n rows') kept_row ∙ length-take-le n rows' kept_room

  module _ (k : Counted) (e : r ≡ Some k) (last : List Row) (kept : last ≡ sets rows' 0 (kept_rows rows' n)) where
    fates_laid : last ≡ padded (fate_rows p.fates p.reasons) no_row (length fates)
    fates_laid =
        kept
        ∙ laid_padded rows' n no_row (length fates) (kept_rows rows' n) kept_n kept_room (P.behind ∙ blank)
        ∙ ap (λ (w : List Row). padded w no_row (length fates)) (kept_are p.fates p.reasons rows' n P.every_fate P.every_reason kept_room P.fates P.reasons)

    fits : length p.confirmations ≤ length cards
    fits = leb-true (length p.confirmations) (length cards) (counted_some p (length cards) k.confirmations k.already k.unmatched (sym P.answer ∙ e)).0

    cards_laid : cards' ≡ padded (map card_row p.confirmations) no_card (length cards)
    cards_laid =
        P.recorded fits
        ∙ laid_padded cards (length p.confirmations) no_card (length cards) (map card_row p.confirmations) (length-map p.confirmations card_row) fits (ap (λ (x : List (List ℕ)). drop (length p.confirmations) x) none)

    pub close_counted : Closed p was (length fates) (length cards) (Some k) was last cards'
    unfolding closed_table closed_fates closed_cards
    close_counted = record { answer = sym e ∙ P.answer; tabled = refl; fated = fates_laid; carded = cards_laid }

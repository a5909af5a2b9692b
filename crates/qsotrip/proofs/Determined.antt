-- One record only is another mapped and written back: what `Rewritten` says leaves no choice. Assumes nothing.
use Rattle.std.specs.Prelude.{Option, Some, None}
use Rattle.std.specs.declared.cmp.Ordering.{Ordering}
use Rattle.std.specs.declared.cmp.Ordering.TheVariants.{Less, Equal, Greater}
use mathlib.Core.Path.{◌≡◌, refl, sym, ap, ◌∙◌}
use mathlib.Core.Bool.{Bool, true, false}
use mathlib.Core.List.{List, [], ◌∷◌}
use Prim.Native.Nat.{ℕ, zero, suc, ◌-◌, ◌<◌}
use native.Mathlib.Omega.{arith}
use lib.ListN.{get_or}
use Rattle.text.specs.Pick.{pick}
use Rattle.letters.specs.Capitals.{raised, capitals}
use Rattle.letters.specs.Same.{same, same_raised}
use Rattle.letters.specs.Order.{order}
use Rattle.letters.proofs.SameLaws.{same_refl, same_true, same_raised_true}
use Rattle.letters.proofs.OrderLaws.{order_equal, order_turn}
use Rattle.adif.specs.Grammar.{Field}
use Rattle.adif.specs.Limits.{Ascending}
use Rattle.trip.proofs.Fronts.{above_trans}
use Rattle.tables.specs.Table.{first_from, named as named_in, is_found}
use Rattle.tables.proofs.Tested.{all, all_at}
use Rattle.trip.proofs.Means.{named}
use Rattle.columns.specs.Columns.{column_names, column_named, is_column}
use Rattle.columns.proofs.LaidLaws.{found_within, column_below}
use Rattle.mapping.specs.Contact.{value_named, column_value}
use Rattle.qsotrip.specs.Rewritten.{Each, InCapitals, Rewritten}
use Rattle.qsotrip.proofs.Merged.{rising_above, above_none}

-- ---- fields whose names rise are told by their values
here : (n : List ℕ) (f : Field) (fs : List Field) → f.name ≡ n → value_named n (f ∷ fs) ≡ Some f.value
here n f fs e = rw (e, same_refl n) refl

none_some : {A : Type 0} (v : A) → None ≡ Some v → ⊥
none_some v e = let z : ◌≡◌ {A = ℕ} 0 1 = cc in omega arith

pub told_by_values : (xs ys : List Field) → Ascending named xs → Ascending named ys → ((n : List ℕ) → value_named n xs ≡ value_named n ys) → xs ≡ ys
told_by_values [] [] r s h = refl
told_by_values [] (y ∷ ys) r s h = absurd (none_some y.value (h y.name ∙ here y.name y ys refl))
told_by_values (x ∷ xs) [] r s h = absurd (none_some x.value (sym (h x.name) ∙ here x.name x xs refl))
told_by_values (x ∷ xs) (y ∷ ys) r s h = by (order x.name y.name) refl (λ k. told_by_values xs ys r.1 s.1 k)
  where
    lower : (a b : Field) (rs bs : List Field) → Ascending named (b ∷ bs) → order a.name b.name ≡ Less → value_named a.name (a ∷ rs) ≡ value_named a.name (b ∷ bs) → ⊥
    lower a b rs bs t l e =
        none_some a.value
        (sym (above_none a.name (b ∷ bs) (l, above_trans a.name b.name l bs (rising_above b bs t))) ∙ sym e ∙ here a.name a rs refl)

    rest : x.name ≡ y.name → (n : List ℕ) → value_named n xs ≡ value_named n ys
    rest e n = split (same x.name n) refl
      where
        split : (t : Bool) → same x.name n ≡ t → value_named n xs ≡ value_named n ys
        split true q =
            let z : x.name ≡ n = same_true x.name n q in
            above_none n xs (rw z at (rising_above x xs r)) ∙ sym (above_none n ys (rw (sym e ∙ z) at (rising_above y ys s)))
        split false q =
            let u : same y.name n ≡ false = ap (λ (m : List ℕ). same m n) (sym e) ∙ q in
            sym (ap (λ (t : Bool). pick t (Some x.value) (value_named n xs)) q) ∙ h n ∙ ap (λ (t : Bool). pick t (Some y.value) (value_named n ys)) u

    by : (o : Ordering) → order x.name y.name ≡ o → (((n : List ℕ) → value_named n xs ≡ value_named n ys) → xs ≡ ys) → x ∷ xs ≡ y ∷ ys
    by Less e go = absurd (lower x y xs ys s e (h x.name))
    by Greater e go = absurd (lower y x ys xs r (order_turn x.name y.name e) (sym (h y.name)))
    by Equal e go =
        let z : x.name ≡ y.name = order_equal x.name y.name e in
        let v : Some x.value ≡ Some y.value = sym (here x.name x xs refl) ∙ h x.name ∙ here x.name y ys (sym z) in
        let w : x.value ≡ y.value = cc in
        let l : xs ≡ ys = go (rest z) in
        joined z w l
      where
        joined : x.name ≡ y.name → x.value ≡ y.value → xs ≡ ys → x ∷ xs ≡ y ∷ ys
        joined a b c = ap (λ (n : List ℕ). record { name = n; value = x.value } ∷ xs) a ∙ ap (λ (v : List ℕ). record { name = y.name; value = v } ∷ xs) b ∙ ap (λ (l : List Field). y ∷ l) c

-- ---- a name in capitals that is a column's is one of the thirteen
found_is : (test : List ℕ → Bool) (j k : ℕ) (ns : List (List ℕ)) → first_from test j ns ≡ Some k → test (get_or ns (k - j) []) ≡ true
found_is test j k [] e = absurd (let z : ◌≡◌ {A = ℕ} 0 1 = cc in omega arith)
found_is test j k (n ∷ ns) e = by (test n) refl e (λ q. found_is test (suc j) k ns q)
  where
    by : (t : Bool) → test n ≡ t → pick t (Some j) (first_from test (suc j) ns) ≡ Some k → (first_from test (suc j) ns ≡ Some k → test (get_or ns (k - suc j) []) ≡ true)
        → test (get_or (n ∷ ns) (k - j) []) ≡ true
    by true p q go =
        let z : j ≡ k = cc in
        let w : k - j ≡ 0 = omega arith in
        rw w p
    by false p q go =
        let w : k - j ≡ suc (k - suc j) = omega (arith, (found_within test (suc j) k ns q).0) in
        rw w (go q)

capital_columns : all (λ (n : List ℕ). same (capitals n) n) column_names ≡ true
unfolding column_names raised
capital_columns = refl

column_name_lem : (n : List ℕ) (k : ℕ) → capitals n ≡ n → column_named n ≡ Some k → n ≡ get_or column_names k []
unfolding column_named named_in column_names
column_name_lem n k c e =
    let s : same_raised n (get_or column_names (k - 0) []) ≡ true = found_is (same_raised n) 0 k column_names e in
    let z : k - 0 ≡ k = omega arith in
    let t : same (capitals (get_or column_names k [])) (get_or column_names k []) ≡ true =
    all_at [] (λ (n : List ℕ). same (capitals n) n) column_names capital_columns k (column_below n k e)
    in
    sym c ∙ same_raised_true n (get_or column_names k []) (rw z at s) ∙ same_true (capitals (get_or column_names k [])) (get_or column_names k []) t

-- a name that is not in capitals is no field's
no_capital : (n : List ℕ) → same (capitals n) n ≡ false → (fs : List Field) → Each InCapitals fs → value_named n fs ≡ None
no_capital n d [] a = refl
no_capital n d (f ∷ fs) a = by (same f.name n) refl (no_capital n d fs a.1)
  where
    by : (t : Bool) → same f.name n ≡ t → value_named n fs ≡ None → pick t (Some f.value) (value_named n fs) ≡ None
    by true q i =
        let z : f.name ≡ n = same_true f.name n q in
        let c : capitals n ≡ n = rw z at a.0 in
        let w : true ≡ false = sym (same_refl n) ∙ ap (λ (m : List ℕ). same m n) (sym c) ∙ d in
        absurd (let u : ◌≡◌ {A = ℕ} 0 1 = cc in omega arith)
    by false q i = i

module _ (before a b : List Field) (p : Rewritten before a) (q : Rewritten before b) where
  columns_alike : (k : ℕ) → k < 13 → column_value k a ≡ column_value k b
  columns_alike zero l = p.call ∙ sym q.call
  columns_alike (suc zero) l = p.qso_date ∙ sym q.qso_date
  columns_alike (suc (suc zero)) l = p.time_on ∙ sym q.time_on
  columns_alike (suc (suc (suc zero))) l = p.band ∙ sym q.band
  columns_alike (suc (suc (suc (suc zero)))) l = p.mode ∙ sym q.mode
  columns_alike (suc (suc (suc (suc (suc zero))))) l = p.submode ∙ sym q.submode
  columns_alike (suc (suc (suc (suc (suc (suc zero)))))) l = p.freq ∙ sym q.freq
  columns_alike (suc (suc (suc (suc (suc (suc (suc zero))))))) l = p.freq_rx ∙ sym q.freq_rx
  columns_alike (suc (suc (suc (suc (suc (suc (suc (suc zero)))))))) l = p.band_rx ∙ sym q.band_rx
  columns_alike (suc (suc (suc (suc (suc (suc (suc (suc (suc zero))))))))) l = p.rst_sent ∙ sym q.rst_sent
  columns_alike (suc (suc (suc (suc (suc (suc (suc (suc (suc (suc zero)))))))))) l = p.rst_rcvd ∙ sym q.rst_rcvd
  columns_alike (suc (suc (suc (suc (suc (suc (suc (suc (suc (suc (suc zero))))))))))) l = p.gridsquare ∙ sym q.gridsquare
  columns_alike (suc (suc (suc (suc (suc (suc (suc (suc (suc (suc (suc (suc zero)))))))))))) l = p.dxcc ∙ sym q.dxcc
  columns_alike (suc (suc (suc (suc (suc (suc (suc (suc (suc (suc (suc (suc (suc k))))))))))))) l = absurd (omega arith)

  in_capitals_lem : (n : List ℕ) → capitals n ≡ n → value_named n a ≡ value_named n b
  in_capitals_lem n c = by (column_named n) refl
    where
      by : (f : Option ℕ) → column_named n ≡ f → value_named n a ≡ value_named n b
      by (Some k) e = rw (column_name_lem n k c e) (columns_alike k (column_below n k e))
      by None e =
          let z : is_column n ≡ false = ap is_found e in
          p.others n z ∙ sym (q.others n z)

  pub one_record : a ≡ b
  one_record = told_by_values a b p.rising q.rising (λ n. by n (same (capitals n) n) refl)
    where
      by : (n : List ℕ) (t : Bool) → same (capitals n) n ≡ t → value_named n a ≡ value_named n b
      by n true e = in_capitals_lem n (same_true (capitals n) n e)
      by n false e = no_capital n e a p.capital ∙ sym (no_capital n e b q.capital)

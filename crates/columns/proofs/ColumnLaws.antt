-- The tests of a name against the columns' names of its length. Assumes nothing.
use Rattle.std.specs.Prelude.{Option, Some, None}
use mathlib.Core.Path.{◌≡◌, refl, sym, ap, ◌∙◌}
use mathlib.Core.Bool.{Bool, true, false}
use mathlib.Core.List.{List, [], ◌∷◌, ◌++◌, map}
use Prim.Native.Nat.{ℕ, zero, suc, ◌+◌, ◌-◌, ◌<◌}
use native.Mathlib.Nat.{not-suc-le-zero, le_of_suc-le-suc}
use native.Mathlib.Numerals.{add-one}
use native.Mathlib.Omega.{arith}
use lib.ListN.{length, get_or, set, take, length-map}
use Rattle.std.specs.Option.{MatchOption}
use Rattle.std.proofs.Math.Seq.{take-suc-set}
use Rattle.text.specs.Pick.{pick}
use Rattle.text.specs.Ascii.{ascii}
use Rattle.letters.specs.Capitals.{raised, capitals}
use Rattle.letters.specs.Same.{same, same_raised}
use Rattle.letters.proofs.SameLaws.{same_refl, same_true, lengths_differ}
use Rattle.letters.proofs.CapitalLaws.{capitals_twice}
use Rattle.tables.specs.Table.{first_from, named}
use Rattle.tables.proofs.EntryLaws.{first_alike}
use Rattle.columns.specs.Columns.{column_names, column_named}
use Rattle.columns.proofs.LaidLaws.{is_column_lem, found_within}

-- a name and the same in capitals name one column
pub named_raised : (x : List ℕ) → column_named (capitals x) ≡ column_named x
unfolding column_named named same_raised
named_raised x = first_alike (same_raised (capitals x)) (same_raised x) (λ n. rw (capitals_twice x) refl) 0 column_names

other_length : (x n : List ℕ) → (length x ≡ length n → ⊥) → same x n ≡ false
other_length x n h = sym (lengths_differ x n h)

-- the column that has the name as it stands
abbrev pub exact : List ℕ → Option ℕ
exact x = first_from (same x) 0 column_names

exact_at : (x n : List ℕ) (k : ℕ) → same x n ≡ true → exact n ≡ Some k → Some k ≡ exact x
exact_at x n k h q = sym q ∙ ap exact (sym (same_true x n h))

-- the name of a column
module _ (x : List ℕ) (t : Bool) where
  pub call : t ≡ same x (ascii "CALL") → t ≡ true → Some 0 ≡ exact x
  unfolding column_names
  call e h = exact_at x _ 0 (sym e ∙ h) refl

  pub qso_date_lem : t ≡ same x (ascii "QSO_DATE") → t ≡ true → Some 1 ≡ exact x
  unfolding column_names
  qso_date_lem e h = exact_at x _ 1 (sym e ∙ h) refl

  pub time_on_lem : t ≡ same x (ascii "TIME_ON") → t ≡ true → Some 2 ≡ exact x
  unfolding column_names
  time_on_lem e h = exact_at x _ 2 (sym e ∙ h) refl

  pub band : t ≡ same x (ascii "BAND") → t ≡ true → Some 3 ≡ exact x
  unfolding column_names
  band e h = exact_at x _ 3 (sym e ∙ h) refl

  pub mode : t ≡ same x (ascii "MODE") → t ≡ true → Some 4 ≡ exact x
  unfolding column_names
  mode e h = exact_at x _ 4 (sym e ∙ h) refl

  pub submode : t ≡ same x (ascii "SUBMODE") → t ≡ true → Some 5 ≡ exact x
  unfolding column_names
  submode e h = exact_at x _ 5 (sym e ∙ h) refl

  pub freq : t ≡ same x (ascii "FREQ") → t ≡ true → Some 6 ≡ exact x
  unfolding column_names
  freq e h = exact_at x _ 6 (sym e ∙ h) refl

  pub freq_rx_lem : t ≡ same x (ascii "FREQ_RX") → t ≡ true → Some 7 ≡ exact x
  unfolding column_names
  freq_rx_lem e h = exact_at x _ 7 (sym e ∙ h) refl

  pub band_rx_lem : t ≡ same x (ascii "BAND_RX") → t ≡ true → Some 8 ≡ exact x
  unfolding column_names
  band_rx_lem e h = exact_at x _ 8 (sym e ∙ h) refl

  pub rst_sent_lem : t ≡ same x (ascii "RST_SENT") → t ≡ true → Some 9 ≡ exact x
  unfolding column_names
  rst_sent_lem e h = exact_at x _ 9 (sym e ∙ h) refl

  pub rst_rcvd_lem : t ≡ same x (ascii "RST_RCVD") → t ≡ true → Some 10 ≡ exact x
  unfolding column_names
  rst_rcvd_lem e h = exact_at x _ 10 (sym e ∙ h) refl

  pub gridsquare : t ≡ same x (ascii "GRIDSQUARE") → t ≡ true → Some 11 ≡ exact x
  unfolding column_names
  gridsquare e h = exact_at x _ 11 (sym e ∙ h) refl

  pub dxcc : t ≡ same x (ascii "DXCC") → t ≡ true → Some 12 ≡ exact x
  unfolding column_names
  dxcc e h = exact_at x _ 12 (sym e ∙ h) refl

-- none of them
module _ (x : List ℕ) where
  none_same : same x (ascii "CALL") ≡ false → same x (ascii "QSO_DATE") ≡ false → same x (ascii "TIME_ON") ≡ false → same x (ascii "BAND") ≡ false → same x (ascii "MODE") ≡ false → same x (ascii "SUBMODE") ≡ false → same x (ascii "FREQ") ≡ false → same x (ascii "FREQ_RX") ≡ false → same x (ascii "BAND_RX") ≡ false → same x (ascii "RST_SENT") ≡ false → same x (ascii "RST_RCVD") ≡ false → same x (ascii "GRIDSQUARE") ≡ false → same x (ascii "DXCC") ≡ false → None ≡ exact x
  unfolding column_names
  none_same e0 e1 e2 e3 e4 e5 e6 e7 e8 e9 e10 e11 e12 = rw (e0, e1, e2, e3, e4, e5, e6, e7, e8, e9, e10, e11, e12) refl

  pub none_of_four : (t0 : Bool) (t3 : Bool) (t4 : Bool) (t6 : Bool) (t12 : Bool) → length x ≡ 4 → t0 ≡ same x (ascii "CALL") → t0 ≡ false → t3 ≡ same x (ascii "BAND") → t3 ≡ false → t4 ≡ same x (ascii "MODE") → t4 ≡ false → t6 ≡ same x (ascii "FREQ") → t6 ≡ false → t12 ≡ same x (ascii "DXCC") → t12 ≡ false → None ≡ exact x
  none_of_four t0 t3 t4 t6 t12 l e0 h0 e3 h3 e4 h4 e6 h6 e12 h12 = none_same (sym e0 ∙ h0) (other_length x (ascii "QSO_DATE") (λ z. omega arith)) (other_length x (ascii "TIME_ON") (λ z. omega arith)) (sym e3 ∙ h3) (sym e4 ∙ h4) (other_length x (ascii "SUBMODE") (λ z. omega arith)) (sym e6 ∙ h6) (other_length x (ascii "FREQ_RX") (λ z. omega arith)) (other_length x (ascii "BAND_RX") (λ z. omega arith)) (other_length x (ascii "RST_SENT") (λ z. omega arith)) (other_length x (ascii "RST_RCVD") (λ z. omega arith)) (other_length x (ascii "GRIDSQUARE") (λ z. omega arith)) (sym e12 ∙ h12)

  pub none_of_seven : (t2 : Bool) (t5 : Bool) (t7 : Bool) (t8 : Bool) → length x ≡ 7 → t2 ≡ same x (ascii "TIME_ON") → t2 ≡ false → t5 ≡ same x (ascii "SUBMODE") → t5 ≡ false → t7 ≡ same x (ascii "FREQ_RX") → t7 ≡ false → t8 ≡ same x (ascii "BAND_RX") → t8 ≡ false → None ≡ exact x
  none_of_seven t2 t5 t7 t8 l e2 h2 e5 h5 e7 h7 e8 h8 = none_same (other_length x (ascii "CALL") (λ z. omega arith)) (other_length x (ascii "QSO_DATE") (λ z. omega arith)) (sym e2 ∙ h2) (other_length x (ascii "BAND") (λ z. omega arith)) (other_length x (ascii "MODE") (λ z. omega arith)) (sym e5 ∙ h5) (other_length x (ascii "FREQ") (λ z. omega arith)) (sym e7 ∙ h7) (sym e8 ∙ h8) (other_length x (ascii "RST_SENT") (λ z. omega arith)) (other_length x (ascii "RST_RCVD") (λ z. omega arith)) (other_length x (ascii "GRIDSQUARE") (λ z. omega arith)) (other_length x (ascii "DXCC") (λ z. omega arith))

  pub none_of_eight : (t1 : Bool) (t9 : Bool) (t10 : Bool) → length x ≡ 8 → t1 ≡ same x (ascii "QSO_DATE") → t1 ≡ false → t9 ≡ same x (ascii "RST_SENT") → t9 ≡ false → t10 ≡ same x (ascii "RST_RCVD") → t10 ≡ false → None ≡ exact x
  none_of_eight t1 t9 t10 l e1 h1 e9 h9 e10 h10 = none_same (other_length x (ascii "CALL") (λ z. omega arith)) (sym e1 ∙ h1) (other_length x (ascii "TIME_ON") (λ z. omega arith)) (other_length x (ascii "BAND") (λ z. omega arith)) (other_length x (ascii "MODE") (λ z. omega arith)) (other_length x (ascii "SUBMODE") (λ z. omega arith)) (other_length x (ascii "FREQ") (λ z. omega arith)) (other_length x (ascii "FREQ_RX") (λ z. omega arith)) (other_length x (ascii "BAND_RX") (λ z. omega arith)) (sym e9 ∙ h9) (sym e10 ∙ h10) (other_length x (ascii "GRIDSQUARE") (λ z. omega arith)) (other_length x (ascii "DXCC") (λ z. omega arith))

  pub none_of_ten : (t11 : Bool) → length x ≡ 10 → t11 ≡ same x (ascii "GRIDSQUARE") → t11 ≡ false → None ≡ exact x
  none_of_ten t11 l e11 h11 = none_same (other_length x (ascii "CALL") (λ z. omega arith)) (other_length x (ascii "QSO_DATE") (λ z. omega arith)) (other_length x (ascii "TIME_ON") (λ z. omega arith)) (other_length x (ascii "BAND") (λ z. omega arith)) (other_length x (ascii "MODE") (λ z. omega arith)) (other_length x (ascii "SUBMODE") (λ z. omega arith)) (other_length x (ascii "FREQ") (λ z. omega arith)) (other_length x (ascii "FREQ_RX") (λ z. omega arith)) (other_length x (ascii "BAND_RX") (λ z. omega arith)) (other_length x (ascii "RST_SENT") (λ z. omega arith)) (other_length x (ascii "RST_RCVD") (λ z. omega arith)) (sym e11 ∙ h11) (other_length x (ascii "DXCC") (λ z. omega arith))

  pub of_no_length : (length x ≡ 4 → ⊥) → (length x ≡ 7 → ⊥) → (length x ≡ 8 → ⊥) → (length x ≡ 10 → ⊥) → None ≡ exact x
  of_no_length a b c d = none_same (other_length x (ascii "CALL") a) (other_length x (ascii "QSO_DATE") c) (other_length x (ascii "TIME_ON") b) (other_length x (ascii "BAND") a) (other_length x (ascii "MODE") a) (other_length x (ascii "SUBMODE") b) (other_length x (ascii "FREQ") a) (other_length x (ascii "FREQ_RX") b) (other_length x (ascii "BAND_RX") b) (other_length x (ascii "RST_SENT") c) (other_length x (ascii "RST_RCVD") c) (other_length x (ascii "GRIDSQUARE") d) (other_length x (ascii "DXCC") a)

-- ---- a name as it stands, and with the case of its letters aside
alike : (x n : List ℕ) → same x n ≡ true → same_raised x n ≡ true
unfolding same_raised
alike x n h = rw (same_true x n h) (same_refl (capitals n))

passes : {A : Type 0} (d : A) (test : A → Bool) (j k : ℕ) (ns : List A) → first_from test j ns ≡ Some k → test (get_or ns (k - j) d) ≡ true
passes d test j k [] e = absurd (let z : ◌≡◌ {A = ℕ} 0 1 = cc in omega arith)
passes d test j k (n ∷ ns) e = by (test n) refl e (λ q. passes d test (suc j) k ns q)
  where
    by : (b : Bool) → test n ≡ b → pick b (Some j) (first_from test (suc j) ns) ≡ Some k
        → (first_from test (suc j) ns ≡ Some k → test (get_or ns (k - suc j) d) ≡ true) → test (get_or (n ∷ ns) (k - j) d) ≡ true
    by true p q r =
        let z : j ≡ k = cc in
        let w : k - j ≡ 0 = omega arith in
        rw w p
    by false p q r =
        let w : k - j ≡ suc (k - suc j) = omega (arith, (found_within test (suc j) k ns q).0) in
        rw w (r q)

pub exact_is : (x : List ℕ) (f : Option ℕ) (k : ℕ) → f ≡ exact x → f ≡ Some k → Some k ≡ column_named x
unfolding column_names
exact_is x f k e h =
    let q : exact x ≡ Some k = sym e ∙ h in
    let w : k - 0 ≡ k = omega arith in
    let there : same x (get_or column_names k []) ≡ true = rw w at (passes [] (same x) 0 k column_names q) in
    sym (is_column_lem x k (found_within (same x) 0 k column_names q).1 (alike x (get_or column_names k []) there))

pub exact_or : {P : Type 0} (x : List ℕ) (f r : Option ℕ) → (P → r ≡ column_named x) → f ≡ exact x → MatchOption f P (λ k. r ≡ Some k) → r ≡ column_named x
exact_or x None r g e m = g m
exact_or x (Some k) r g e m = m ∙ exact_is x (Some k) k e refl

-- the columns' names are in capitals
raised_alike : (x : List ℕ) (j : ℕ) (ns : List (List ℕ)) → first_from (same (capitals x)) j (map capitals ns) ≡ first_from (same_raised x) j ns
unfolding same_raised
raised_alike x j [] = refl
raised_alike x j (n ∷ ns) = rw (raised_alike x (suc j) ns) refl

in_capitals : map capitals column_names ≡ column_names
unfolding column_names raised
in_capitals = refl

raised_is : (x : List ℕ) → exact (capitals x) ≡ column_named x
unfolding column_named named
raised_is x = ap (λ (ns : List (List ℕ)). first_from (same (capitals x)) 0 ns) (sym in_capitals) ∙ raised_alike x 0 column_names

pub raised_is_lem : (x y : List ℕ) (f : Option ℕ) → y ≡ capitals x → f ≡ exact y → f ≡ column_named x
raised_is_lem x y f e g = g ∙ ap exact e ∙ raised_is x

pub no_such_length : (x : List ℕ) → (length x ≡ 4 → ⊥) → (length x ≡ 7 → ⊥) → (length x ≡ 8 → ⊥) → (length x ≡ 10 → ⊥) → None ≡ column_named x
no_such_length x a b c d =
    let e : length (capitals x) ≡ length x = length-map x raised in
    of_no_length (capitals x) (λ q. a (sym e ∙ q)) (λ q. b (sym e ∙ q)) (λ q. c (sym e ∙ q)) (λ q. d (sym e ∙ q)) ∙ raised_is x

pub too_long : (x : List ℕ) → 10 < length x → None ≡ column_named x
too_long x h = no_such_length x (λ e. omega arith) (λ e. omega arith) (λ e. omega arith) (λ e. omega arith)

-- the loop that raises each byte
pub raised_next : (l : List ℕ) (bytes : List ℕ) (i v : ℕ) → i < length l → i < length bytes → take i bytes ≡ capitals (take i l) → v ≡ raised (get_or l i 0)
    → take (i + 1) (set bytes i v) ≡ capitals (take (i + 1) l)
raised_next l bytes i v h k e r = rw (add-one, take-suc-set bytes i v k, e, r) (sym (next l i h))
  where
    next : (l : List ℕ) (i : ℕ) → i < length l → capitals (take (suc i) l) ≡ capitals (take i l) ++ (raised (get_or l i 0) ∷ [])
    next [] i h = absurd (not-suc-le-zero h)
    next (x ∷ xs) zero h = refl
    next (x ∷ xs) (suc i) h = ap (λ (t : List ℕ). raised x ∷ t) (next xs i (le_of_suc-le-suc h))

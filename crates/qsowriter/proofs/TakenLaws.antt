-- Which names the columns take. Assumes nothing.
use mathlib.Core.Path.{◌≡◌, refl, sym, ap, ◌∙◌}
use mathlib.Core.Bool.{Bool, true, false, not}
use mir.Val.{bool_byte}
use mathlib.Core.List.{List, [], ◌∷◌}
use Prim.Native.Nat.{ℕ, ◌+◌, ◌≤◌, ◌<◌}
use native.Mathlib.Numerals.{add-one}
use native.Mathlib.Omega.{arith}
use lib.ListN.{length, get_or, take, drop, drop_of_length-le}
use lib.Seq.{drop-cons}
use Rattle.text.specs.Pick.{pick, both, either}
use Rattle.text.proofs.BoolLaws.{both_left, both_right}
use Rattle.letters.specs.Capitals.{raised, capitals}
use Rattle.letters.specs.Same.{same, same_raised}
use Rattle.letters.proofs.SameLaws.{same_true}
use Rattle.tables.specs.Table.{named, is_found}
use Rattle.tables.specs.declared.Name.{Name}
use Rattle.columns.specs.Columns.{column_names, column_named}
use Rattle.columns.proofs.ColumnLaws.{named_raised}
use Rattle.cells.specs.Cells.{column_order, is_dropped, cell_text, cell_fields}
use Rattle.cells.specs.declared.Cell.{Cell}
use Rattle.cellfields.specs.Fields.{name_at, column_name}
use Rattle.cellfields.proofs.NameLaws.{column_capital, column_front, names_from}
use Rattle.qsowriter.specs.Writing.{is_taken}
use Rattle.qsowriter.specs.Steps.{taken_by, written_count}

-- ---- the fields of the cells
pub taken_is : (text : List ℕ) (ns : List (List ℕ)) (cs : List Cell) (x : List ℕ) → is_taken (cell_fields text ns cs) x ≡ taken_by ns cs x
taken_is text [] cs x = refl
taken_is text (n ∷ ns) [] x = refl
taken_is text (n ∷ ns) (c ∷ cs) x = by (is_dropped c) (taken_is text ns cs x)
  where
    by : (b : Bool) → is_taken (cell_fields text ns cs) x ≡ taken_by ns cs x → is_taken (pick b (cell_fields text ns cs) (record { name = n; value = cell_text text c } ∷ cell_fields text ns cs)) x
        ≡ pick b (taken_by ns cs x) (either (same n (capitals x)) (taken_by ns cs x))
    by true i = i
    by false i = ap (either (same n (capitals x))) i

pub count_is : (text : List ℕ) (ns : List (List ℕ)) (cs : List Cell) → length ns ≡ length cs → length (cell_fields text ns cs) ≡ written_count cs
count_is text [] [] e = refl
count_is text [] (c ∷ cs) e = absurd (omega arith)
count_is text (n ∷ ns) [] e = absurd (omega arith)
count_is text (n ∷ ns) (c ∷ cs) e = by (is_dropped c) (count_is text ns cs (omega arith))
  where
    by : (b : Bool) → length (cell_fields text ns cs) ≡ written_count cs → length (pick b (cell_fields text ns cs) (record { name = n; value = cell_text text c } ∷ cell_fields text ns cs)) ≡ pick b 0 1 + written_count cs
    by true i = omega arith
    by false i = omega arith

-- ---- the name of a column
pub spelled_is : (k : ℕ) (n : Name) → n ≡ column_name k → (x : List ℕ) (r : Bool) → r ≡ same_raised (take n.len n.bytes) x → r ≡ same (name_at k) (capitals x)
unfolding same_raised
spelled_is k n e x r er = er ∙ rw ((column_front k n e).1, column_capital k) refl

-- ---- a name that is no column's is not taken
abbrev all_columns : List (List ℕ) → Bool
all_columns [] = true
all_columns (n ∷ ns) = both (is_found (column_named n)) (all_columns ns)

order_columns : all_columns column_order ≡ true
unfolding column_order column_named named column_names same_raised raised
order_columns = refl

not_taken : (x : List ℕ) → is_found (column_named x) ≡ false → (ns : List (List ℕ)) (cs : List Cell) → all_columns ns ≡ true → taken_by ns cs x ≡ false
not_taken x e [] cs h = refl
not_taken x e (n ∷ ns) [] h = refl
not_taken x e (n ∷ ns) (c ∷ cs) h =
    by (is_dropped c) (same n (capitals x)) refl (not_taken x e ns cs (both_right (is_found (column_named n)) (all_columns ns) h))
  where
    by : (b s : Bool) → same n (capitals x) ≡ s → taken_by ns cs x ≡ false → pick b (taken_by ns cs x) (either s (taken_by ns cs x)) ≡ false
    by true s q i = i
    by false false q i = i
    by false true q i =
        let a : n ≡ capitals x = same_true n (capitals x) q in
        let f : is_found (column_named n) ≡ true = both_left (is_found (column_named n)) (all_columns ns) h in
        let g : is_found (column_named n) ≡ false = ap (λ (m : List ℕ). is_found (column_named m)) a ∙ rw (named_raised x) e in
        absurd (let z : ◌≡◌ {A = ℕ} 0 1 = cc in omega arith)

module _ (cells : List Cell) (x : List ℕ) (t : Bool) (e : t ≡ is_found (column_named x)) where
  pub taken_column : t ≡ true → (r : Bool) → r ≡ taken_by column_order cells x → r ≡ taken_by column_order cells x
  taken_column h r p = p

  pub taken_none : t ≡ false → false ≡ taken_by column_order cells x
  taken_none h = sym (not_taken x (sym e ∙ h) column_order cells order_columns)

-- ---- the search among the columns: from column k on it says the same
unfoldable pub Looking : List Cell → List ℕ → ℕ → Type 0
Looking cells x k = taken_by (drop k column_order) (drop k cells) x ≡ taken_by column_order cells x

pub looking_start : (cells : List Cell) (x : List ℕ) → Looking cells x 0
unfolding Looking
looking_start cells x = refl

pub looking_end : (cells : List Cell) (x : List ℕ) (k : ℕ) → 13 ≤ k → Looking cells x k → false ≡ taken_by column_order cells x
unfolding Looking column_order
looking_end cells x k h p = rw (drop_of_length-le column_order h) at p

module _ (cells : List Cell) (x : List ℕ) (k : ℕ) (l : length cells ≡ 13) (h : k < 13) (p : Looking cells x k) (d : Cell) (b : Bool) (eb : b ≡ is_dropped (get_or cells k d)) where
  values : drop k cells ≡ get_or cells k d ∷ drop (k + 1) cells
  values = rw add-one (drop-cons cells k d (omega arith))

  here : pick b (taken_by (drop (k + 1) column_order) (drop (k + 1) cells) x) (either (same (name_at k) (capitals x)) (taken_by (drop (k + 1) column_order) (drop (k + 1) cells) x))
      ≡ taken_by column_order cells x
  unfolding Looking
  here = rw eb (rw (names_from k h, values) at p)

  pub looking_dropped : b ≡ true → Looking cells x (k + 1)
  unfolding Looking
  looking_dropped g = rw g at here

  module _ (g : b ≡ false) (s : Bool) (es : s ≡ same (name_at k) (capitals x)) where
    pub looking_found : s ≡ true → true ≡ taken_by column_order cells x
    looking_found f =
        let y : same (name_at k) (capitals x) ≡ true = sym es ∙ f in
        rw (g, y) at here

    pub looking_on : s ≡ false → Looking cells x (k + 1)
    unfolding Looking
    looking_on f =
        let y : same (name_at k) (capitals x) ≡ false = sym es ∙ f in
        rw (g, y) at here

-- ---- how many columns are written
unfoldable pub Counting : List Cell → ℕ → ℕ → Type 0
Counting cells n k = n + written_count (drop k cells) ≡ written_count cells

pub counting_start : (cells : List Cell) → Counting cells 0 0
unfolding Counting
counting_start cells = omega arith

byte_of : (b : Bool) → bool_byte (not b) ≡ pick b 0 1
byte_of true = refl
byte_of false = refl

pub one_at_most : (b : Bool) (m : ℕ) → m ≡ bool_byte b → m ≤ 1
one_at_most true m e = omega arith
one_at_most false m e = omega arith

pub counting_on : (cells : List Cell) (n k : ℕ) → length cells ≡ 13 → k < 13 → (d : Cell) (b : Bool) → b ≡ is_dropped (get_or cells k d) → (m : ℕ) → m ≡ bool_byte (not b)
    → Counting cells n k → Counting cells (n + m) (k + 1)
unfolding Counting
counting_on cells n k l h d b eb m em p =
    let v : drop k cells ≡ get_or cells k d ∷ drop (k + 1) cells = rw add-one (drop-cons cells k d (omega arith)) in
    let y : written_count (drop k cells) ≡ pick (is_dropped (get_or cells k d)) 0 1 + written_count (drop (k + 1) cells) = rw v refl in
    let z : m ≡ pick (is_dropped (get_or cells k d)) 0 1 = em ∙ byte_of b ∙ ap (λ (a : Bool). pick a 0 1) eb in
    omega arith

pub counting_end : (cells : List Cell) (n k : ℕ) → length cells ≡ 13 → 13 ≤ k → Counting cells n k → n ≡ written_count cells
unfolding Counting
counting_end cells n k l h p =
    let m : length cells ≤ k = omega arith in
    let z : drop k cells ≡ [] = drop_of_length-le cells m in
    let y : n + 0 ≡ written_count cells = rw z at p in
    omega arith

pub one_more : (b : Bool) (c : ℕ) → b ≡ false → c + 1 ≡ pick b c (c + 1)
one_more b c e = rw e refl

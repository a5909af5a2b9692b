-- The rows that were filled say what the records say that were read. Assumes nothing.
use mathlib.Core.Path.{◌≡◌, refl, sym, ap, ◌∙◌}
use mathlib.Core.List.{List, [], ◌∷◌, ◌++◌, map}
use Prim.Native.Nat.{ℕ, zero, suc, ◌+◌, ◌*◌, ◌-◌, ◌/◌, ◌≤◌, ◌<◌}
use native.Mathlib.Nat.{not-suc-le-zero, le_of_suc-le-suc, zero-add}
use native.Mathlib.Omega.{arith}
use lib.ListN.{length, get_or, drop, get_or-append}
use lib.Seq.{sets, sets-eq, length-sets, drop_at}
use Rattle.adif.specs.Reading.{Row as Field, read_text}
use Rattle.hand.specs.Rows.{numbered}
use Rattle.reader.specs.Table.{laid_from, zeros}
use Rattle.plan.specs.Entry.{no_entry, entries_from, entries_of}
use Rattle.entries.specs.Row.{Row}
use Rattle.entries.specs.Filled.{ReadInto, entries_read, Says, Answers, Said, Answered, Bare}
use Rattle.entries.specs.Walked.{rows_of_records, entry_rows}
use Rattle.entries.proofs.RowLaws.{says_entry, answers_entry, bare_entry}
use Rattle.entries.proofs.WalkLaws.{long, rows_here, next_here, found_in}

-- ---- one record after the other
rows_many : (text : List ℕ) (n first : ℕ) (rs : List (List Field)) → length (rows_of_records text n first rs) ≡ length rs
rows_many text n first [] = refl
rows_many text n first (r ∷ rs) = ap suc (rows_many text (suc n) (first + length r) rs)

pub entries_many : (text : List ℕ) (n : ℕ) (rs : List (List Field)) → length (entries_from text n rs) ≡ length rs
entries_many text n [] = refl
entries_many text n (r ∷ rs) = ap suc (entries_many text (suc n) rs)

says_each : (text : List ℕ) (n first : ℕ) (rs : List (List Field)) (j : ℕ) → j < length rs
    → Says text (get_or (rows_of_records text n first rs) j []) (get_or (entries_from text n rs) j no_entry)
says_each text n first [] j h = absurd (not-suc-le-zero h)
says_each text n first (r ∷ rs) zero h = says_entry text (map (numbered n) r) first (length r)
says_each text n first (r ∷ rs) (suc j) h = says_each text (suc n) (first + length r) rs j (le_of_suc-le-suc h)

answers_each : (text table : List ℕ) (n first : ℕ) (rs : List (List Field)) (z : ℕ) → drop (first * 5) table ≡ laid_from n rs ++ zeros z → first * 5 ≤ length table → (j : ℕ) → j < length rs
    → Answers text table (get_or (rows_of_records text n first rs) j []) (get_or (entries_from text n rs) j no_entry)
answers_each text table n first [] z e i j h = absurd (not-suc-le-zero h)
answers_each text table n first (r ∷ rs) z e i zero h =
    answers_entry text (map (numbered n) r) first (length r) table (long table first n r rs z e i) (rows_here table first n r rs z e)
answers_each text table n first (r ∷ rs) z e i (suc j) h =
    answers_each text table (suc n) (first + length r) rs z (next_here table first n r rs z e) (long table first n r rs z e i) j (le_of_suc-le-suc h)

-- nothing is settled of any
abbrev Unsettled : Row → Type 0
Unsettled r = (get_or r 0 0 ≡ 0) × (get_or r 2 0 ≡ 0) × (get_or r 24 0 ≡ 0) × (get_or r 25 0 ≡ 0)

bare_each : (text : List ℕ) (n first : ℕ) (rs : List (List Field)) (j : ℕ) → j < length rs → Unsettled (get_or (rows_of_records text n first rs) j [])
bare_each text n first [] j h = absurd (not-suc-le-zero h)
bare_each text n first (r ∷ rs) zero h = bare_entry text (map (numbered n) r) first (length r)
bare_each text n first (r ∷ rs) (suc j) h = bare_each text (suc n) (first + length r) rs j (le_of_suc-le-suc h)

-- ---- in the table of rows
module _ (text table : List ℕ) (n : ℕ) (R : ReadInto text table n) (was rows : List Row) (room : n ≤ length was)
    (e : rows ≡ sets was 0 (entry_rows text (read_text text (length table / 5)))) where
  abbrev rs : List (List Field)
  rs = (found_in text table n R).found

  abbrev made : List Row
  made = rows_of_records text 1 0 rs

  made_many : length made ≡ n
  made_many = rows_many text 1 0 rs ∙ (found_in text table n R).counted

  filled : rows ≡ made ++ drop (length made) was
  unfolding entry_rows
  filled =
      let k : 0 + length made ≤ length was = omega (arith, made_many) in
      let z : 0 + length made ≡ length made = zero-add (length made) in
      e ∙ rw (found_in text table n R).is (sets-eq made was 0 k ∙ rw z refl)

  row_at : (j : ℕ) → j < n → get_or rows j [] ≡ get_or made j []
  row_at j h = ap (λ (l : List Row). get_or l j []) filled ∙ get_or-append made (drop (length made) was) [] j (omega (arith, made_many))

  inside : (j : ℕ) → j < n → j < length rs
  inside j h = omega (arith, (found_in text table n R).counted)

  read_are : entries_read text table ≡ entries_from text 1 rs
  unfolding entries_of
  read_are = rw (found_in text table n R).is refl

  pub filled_length : length rows ≡ length was
  filled_length = ap length e ∙ length-sets was 0 (entry_rows text (read_text text (length table / 5)))

  pub filled_behind : drop n rows ≡ drop n was
  filled_behind = ap (drop n) filled ∙ drop_at made (drop (length made) was) n made_many ∙ ap (λ (k : ℕ). drop k was) made_many

  pub filled_said : Said text n (entries_read text table) rows
  filled_said = record {
    counted = sym (ap length read_are ∙ entries_many text 1 rs ∙ (found_in text table n R).counted);
    room = omega (arith, filled_length);
    says = λ j h. rw (row_at j h, read_are) (says_each text 1 0 rs j (inside j h));
  }

  pub filled_answered : Answered text table n (entries_read text table) rows
  unfolding Answered
  filled_answered = λ j h.
      rw (row_at j h, read_are)
      (answers_each text table 1 0 rs (length table - length (laid_from 1 rs)) (found_in text table n R).laid_so (omega arith) j (inside j h))

  pub filled_bare : Bare n rows
  filled_bare = record {
    fates = λ j h. rw (row_at j h) (bare_each text 1 0 rs j (inside j h)).0;
    heads = λ j h. rw (row_at j h) (bare_each text 1 0 rs j (inside j h)).1;
    services = λ j h. rw (row_at j h) (bare_each text 1 0 rs j (inside j h)).2;
    card_heads = λ j h. rw (row_at j h) (bare_each text 1 0 rs j (inside j h)).3;
  }

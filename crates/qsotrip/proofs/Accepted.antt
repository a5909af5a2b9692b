-- A QSO that its writer takes is a record that can be written and whose names rise. Assumes nothing.
use Rattle.std.specs.Prelude.{⊤, Result, Ok, Err, Some}
use Rattle.std.specs.declared.cmp.Ordering.TheVariants.{Less}
use mathlib.Core.Path.{◌≡◌, refl, ap, ◌∙◌}
use mathlib.Core.Bool.{Bool, true, false}
use mathlib.Core.List.{List, [], ◌∷◌, map}
use Prim.Native.Nat.{ℕ, suc, ◌+◌, ◌/◌, ◌≤◌, ◌<◌}
use native.Mathlib.Omega.{arith}
use lib.Dec.{leb}
use lib.ListN.{length}
use borrow.Author.Tests.{leb-true}
use Rattle.text.specs.Ascii.{ascii}
use Rattle.text.specs.Pick.{pick, both, either}
use Rattle.text.proofs.BoolLaws.{both_left, both_right}
use Rattle.letters.specs.Capitals.{capitals}
use Rattle.letters.specs.Same.{same}
use Rattle.letters.specs.Order.{order, order_raised}
use Rattle.refusals.specs.declared.Refusal.{Refusal}
use Rattle.refusals.specs.declared.Refusal.TheVariants.{TooLong, ManyNames, BadRow, BadName, FrequencyTooHigh}
use Rattle.adif.specs.Grammar.{Field}
use Rattle.adif.specs.Limits.{Ascending}
use Rattle.rowcheck.specs.Check.{Row, name_in, placed, sound, writable}
use Rattle.rowcheck.proofs.FineLaws.{refused_not, passed, onward, less}
use Rattle.writer.specs.Rows.{rows_of, row_field}
use Rattle.trip.specs.File.{Good, AllGood, Writable}
use Rattle.trip.proofs.Means.{named}
use Rattle.trip.proofs.Accepted.{field_good}
use Rattle.model.specs.Contact.{contact}
use Rattle.model.specs.Answer.{is_qso}
use Rattle.model.specs.declared.Qso.{Qso}
use Rattle.mapping.specs.Contact.{value_named}
use Rattle.qsowriter.specs.Record.{column_fields, merged, record_of}
use Rattle.qsowriter.specs.Writing.{contact_with, is_too_high, is_taken, count_with, row_verdict, is_above, rows_after, extra_verdict, qso_verdict}
use Rattle.qsotrip.proofs.Merged.{merged_rises, merged_value}
use Rattle.qsotrip.proofs.Counted.{takes, news, merged_few, merged_good}
use Rattle.qsotrip.proofs.Slots.{slots, columns_laid, laid_value, columns_rise, columns_few, columns_good}
use Rattle.qsotrip.proofs.Held.{qso_held}

-- a test that did not stop it
onward_not : (why : Refusal) (t : Bool) (v : Result ⊤ Refusal) → pick t (Err why) v ≡ Ok tt → (t ≡ false) × (v ≡ Ok tt)
onward_not why true v e = absurd (refused_not why e)
onward_not why false v e = (refl, e)

taken_is : (fs : List Field) (x : List ℕ) → is_taken fs x ≡ takes fs (capitals x)
taken_is [] x = refl
taken_is (f ∷ fs) x = ap (either (same f.name (capitals x))) (taken_is fs x)

module _ (text : List ℕ) (small : length text ≤ 16777216) (fs : List Field) where
  module _ (n : ℕ) (risen : Bool) (r : Row) (v : row_verdict text fs n risen r ≡ Ok tt) where
    abbrev counting : Result ⊤ Refusal
    counting = pick (leb (count_with text fs n r) 256) (Ok tt) (Err (ManyNames 0))

    abbrev naming : Result ⊤ Refusal
    naming = pick (writable (name_in text r)) counting (Err BadName)

    stands : both (both (placed text r) (sound text r)) risen ≡ true
    stands = passed BadRow (both (both (placed text r) (sound text r)) risen) naming v

    named_well : naming ≡ Ok tt
    named_well = onward BadRow (both (both (placed text r) (sound text r)) risen) naming v

    taken_good : Good (row_field text r)
    taken_good =
        field_good text (omega arith) r (both_right (placed text r) (sound text r) (both_left (both (placed text r) (sound text r)) risen stands))
        (passed BadName (writable (name_in text r)) counting named_well)

    has_risen : risen ≡ true
    has_risen = both_right (both (placed text r) (sound text r)) risen stands

    few_names : count_with text fs n r ≤ 256
    few_names = leb-true _ _ (passed (ManyNames 0) (leb (count_with text fs n r) 256) (Ok tt) (onward BadName (writable (name_in text r)) counting named_well))

  counts : (n k : ℕ) (r : Row) (es : List Field) → count_with text fs n r + news fs es ≤ k → n + news fs (row_field text r ∷ es) ≤ k
  counts n k r es h = by (takes fs (capitals (name_in text r))) (rw (taken_is fs (name_in text r)) at h)
    where
      by : (t : Bool) → pick t n (n + 1) + news fs es ≤ k → n + pick t (news fs es) (suc (news fs es)) ≤ k
      by true i = i
      by false i = omega arith

  abbrev fields : List Row → List Field
  fields rows = map (row_field text) rows

  abbrev Taken : Row → List Row → ℕ → Type 0
  Taken p rs n = AllGood (fields rs) × Ascending named (row_field text p ∷ fields rs) × (n + news fs (fields rs) ≤ 256)

  above_is : (p r : Row) → is_above text p r ≡ true → order (capitals (name_in text p)) (capitals (name_in text r)) ≡ Less
  unfolding order_raised
  above_is p r h = less (order (capitals (name_in text p)) (capitals (name_in text r))) h

  -- the rows after row p, where there were n fields with it
  after : (rs : List Row) (n : ℕ) (p : Row) → n ≤ 256 → rows_after text fs n p rs ≡ Ok tt → Taken p rs n
  after [] n p l e = (tt, (tt, tt), omega arith)
  after (r ∷ rs) n p l e = by (row_verdict text fs n (is_above text p r) r) refl (λ k h. after rs (count_with text fs n r) r k h)
    where
      by : (v : Result ⊤ Refusal) → row_verdict text fs n (is_above text p r) r ≡ v
          → (count_with text fs n r ≤ 256 → rows_after text fs (count_with text fs n r) r rs ≡ Ok tt → Taken r rs (count_with text fs n r)) → Taken p (r ∷ rs) n
      by (Err why) q go = absurd (refused_not why (rw q at e))
      by (Ok tt) q go =
          let i : Taken r rs (count_with text fs n r) = go (few_names n (is_above text p r) r q) (rw q at e) in
          ((taken_good n (is_above text p r) r q, i.0), (above_is p r (has_risen n (is_above text p r) r q), i.1), counts n 256 r (fields rs) i.2)

  -- all of them
  abbrev AllTaken : List Row → Type 0
  AllTaken rs = AllGood (fields rs) × Ascending named (fields rs) × (length fs + news fs (fields rs) ≤ 256)

  all_taken : length fs ≤ 256 → (rs : List Row) → extra_verdict text fs rs ≡ Ok tt → AllTaken rs
  unfolding extra_verdict
  all_taken l [] e = (tt, tt, omega arith)
  all_taken l (r ∷ rs) e = by (row_verdict text fs (length fs) true r) refl
    where
      by : (v : Result ⊤ Refusal) → row_verdict text fs (length fs) true r ≡ v → AllTaken (r ∷ rs)
      by (Err why) q = absurd (refused_not why (rw q at e))
      by (Ok tt) q =
          let i : Taken r rs (count_with text fs (length fs) r) = after rs (count_with text fs (length fs) r) r (few_names (length fs) true r q) (rw q at e) in
          ((taken_good (length fs) true r q, i.0), i.1, counts (length fs) 256 r (fields rs) i.2)

-- ---- the QSO
same_columns : (text : List ℕ) (q : Qso) (extra : List Row) → column_fields (contact_with text q []) ≡ column_fields (contact_with text q extra)
unfolding column_fields contact_with contact
same_columns text q extra = refl

record_is : (text : List ℕ) (q : Qso) (extra : List Row) → record_of (contact_with text q extra) ≡ merged (column_fields (contact_with text q extra)) (map (row_field text) extra)
unfolding record_of contact_with contact
record_is text q extra = refl

call_there : (text : List ℕ) (q : Qso) (extra : List Row) → value_named (ascii "CALL") (column_fields (contact_with text q extra)) ≡ Some (contact_with text q extra).call
call_there text q extra = rw (columns_laid (contact_with text q extra)) (laid_value (ascii "CALL") (slots (contact_with text q extra)))

there : (n v : List ℕ) (fs : List Field) → value_named n fs ≡ Some v → 0 < length fs
there n v [] h = absurd (let z : ◌≡◌ {A = ℕ} 0 1 = cc in omega arith)
there n v (f ∷ fs) h = omega arith

module _ (text : List ℕ) (q : Qso) (table : List ℕ) (count : ℕ) (ok : qso_verdict text q table count ≡ Ok tt) where
  abbrev rows : List Row
  rows = rows_of table count

  abbrev frequencies : Bool
  frequencies = either (is_too_high q.freq) (is_too_high q.freq_rx)

  abbrev stood : Bool
  stood = both (is_qso text q) (leb count (length table / 5))

  abbrev extra : Result ⊤ Refusal
  extra = extra_verdict text (column_fields (contact_with text q [])) rows

  steps : pick (leb (length text) 16777216) (pick frequencies (Err FrequencyTooHigh) (pick stood extra (Err BadRow))) (Err TooLong) ≡ Ok tt
  unfolding qso_verdict
  steps = ok

  pub text_small : length text ≤ 16777216
  text_small = leb-true _ _ (passed TooLong (leb (length text) 16777216) (pick frequencies (Err FrequencyTooHigh) (pick stood extra (Err BadRow))) steps)

  low : (frequencies ≡ false) × (pick stood extra (Err BadRow) ≡ Ok tt)
  low =
      onward_not FrequencyTooHigh frequencies (pick stood extra (Err BadRow))
      (onward TooLong (leb (length text) 16777216) (pick frequencies (Err FrequencyTooHigh) (pick stood extra (Err BadRow))) steps)

  pub is_qso_lem : is_qso text q ≡ true
  is_qso_lem = both_left (is_qso text q) (leb count (length table / 5)) (passed BadRow stood extra low.1)

  extra_fine : extra_verdict text (column_fields (contact_with text q rows)) rows ≡ Ok tt
  extra_fine = rw (same_columns text q rows) at (onward BadRow stood extra low.1)

  abbrev its_columns : List Field
  its_columns = column_fields (contact_with text q rows)

  its_extra : AllTaken text text_small its_columns rows
  its_extra = all_taken text text_small its_columns (omega (arith, columns_few (contact_with text q rows))) rows extra_fine

  pub extra_rises : Ascending named (map (row_field text) rows)
  extra_rises = its_extra.1

  columns_held : AllGood its_columns
  unfolding contact_with
  columns_held = columns_good (contact_with text q rows) (qso_held text text_small q is_qso_lem (map (row_field text) rows))

  -- the record can be written
  pub qso_writable : Writable (record_of (contact_with text q rows))
  qso_writable =
      rw (record_is text q rows)
      (record {
        some =
            there (ascii "CALL") (contact_with text q rows).call (merged its_columns (map (row_field text) rows))
            (merged_value (ascii "CALL") its_columns (map (row_field text) rows) (columns_rise (contact_with text q rows)) extra_rises
            ∙ rw (call_there text q rows) refl);
        few = omega (arith, merged_few its_columns (map (row_field text) rows) (columns_rise (contact_with text q rows)) extra_rises, its_extra.2);
        fields = merged_good its_columns (map (row_field text) rows) columns_held its_extra.0;
      })

  -- and its names rise
  pub qso_rises : Ascending named (record_of (contact_with text q rows))
  qso_rises = rw (record_is text q rows) (merged_rises its_columns (map (row_field text) rows) (columns_rise (contact_with text q rows)) extra_rises)

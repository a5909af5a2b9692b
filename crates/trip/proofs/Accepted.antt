-- Rows that the writer takes are records that can be written and whose names rise. Assumes nothing.
use Rattle.std.specs.Prelude.{Ok}
use Rattle.std.specs.declared.cmp.Ordering.TheVariants.{Less}
use mathlib.Core.Path.{◌≡◌, refl, sym, ap, ◌∙◌}
use mathlib.Core.Bool.{Bool, true, false, not}
use mathlib.Core.List.{List, [], ◌∷◌, map}
use Prim.Native.Nat.{ℕ, ◌+◌, ◌^◌, ◌≤◌, ◌<◌}
use native.Mathlib.Omega.{arith}
use lib.ListN.{length, get_or, drop, length-map, length-append, length-take, length-drop}
use lib.Seq.{take-length}
use lib.Dec.{eqb}
use borrow.Author.Tests.{eqb-true, eqb-false, ne_eqb}
use Rattle.text.specs.Pick.{both}
use Rattle.text.specs.Walk.{ends}
use Rattle.text.specs.Find.{other}
use Rattle.text.specs.Utf8.{valid_up_to, utf8, Utf8}
use Rattle.text.specs.Space.{trim_start, trim_end, trimmed}
use Rattle.text.proofs.BoolLaws.{both_left, both_right}
use Rattle.letters.specs.Capitals.{raised, capitals}
use Rattle.letters.specs.Order.{order, order_raised}
use Rattle.letters.proofs.CapitalLaws.{capitals_twice}
use Rattle.letters.proofs.SpaceLaws.{trim_capitals}
use Rattle.tags.specs.Tags.{colon, gt, kind_of}
use Rattle.tags.specs.declared.Kind.{Kind}
use Rattle.tags.specs.declared.Kind.TheVariants.{EndOfHeader, EndOfRecord, EndOfFile, FieldName}
use Rattle.adif.specs.Grammar.{Field, Without}
use Rattle.adif.specs.Limits.{Ascending}
use Rattle.adif.proofs.Cuts.{Split, none, found, split, front_found}
use Rattle.rowcheck.specs.Check.{Row, record_in, name_in, value_in, sound, lacks, is_field, writable, counted, verdict, check_from, check_of}
use Rattle.rowcheck.proofs.FineLaws.{first_fine, rest_fine, is_sound, is_writable, few_names, few_records, higher, next_number, from_one, counted_on, counted_new}
use Rattle.writer.specs.Rows.{row_field, ends_before, joined, grouped}
use Rattle.trip.specs.File.{Good, AllGood, Writable}
use Rattle.trip.proofs.Raised.{good_raised, kind_raised, without_raised}
use Rattle.trip.proofs.Grouped.{goes_on_lem}
use Rattle.trip.proofs.Means.{named}

-- ---- a name that can be written
lacks_is : (b : ℕ) (xs : List ℕ) → lacks b xs ≡ true → Without b xs
unfolding lacks
lacks_is b xs e = by (split b xs)
  where
    by : Split b xs → Without b xs
    by (none w) = w
    by (found pre post w q) =
        absurd (omega (arith, eqb-true (ends (other b) xs 0) (length xs) e, (rw (← q) at (front_found b pre post w)), ap length q, length-append pre (b ∷ post)))

field_kind : (k : Kind) → is_field k ≡ true → k ≡ FieldName
field_kind EndOfHeader e = absurd (let z : ◌≡◌ {A = ℕ} 0 1 = cc in omega arith)
field_kind EndOfRecord e = absurd (let z : ◌≡◌ {A = ℕ} 0 1 = cc in omega arith)
field_kind EndOfFile e = absurd (let z : ◌≡◌ {A = ℕ} 0 1 = cc in omega arith)
field_kind FieldName e = refl

trim_is : (xs : List ℕ) → trim_start xs ≡ 0 → trim_end xs ≡ length xs → trimmed xs ≡ xs
unfolding trimmed
trim_is xs p q = rw (p, q) (take-length xs)

module _ (xs : List ℕ) (w : writable xs ≡ true) where
  abbrev at_ends : Bool
  at_ends = both (eqb (trim_start xs) 0) (eqb (trim_end xs) (length xs))

  abbrev free : Bool
  free = both (lacks colon xs) (lacks gt xs)

  tests : both at_ends (both free (is_field (kind_of xs))) ≡ true
  unfolding writable
  tests = w

  ends_are : at_ends ≡ true
  ends_are = both_left at_ends (both free (is_field (kind_of xs))) tests

  pub name_trim : trimmed xs ≡ xs
  name_trim =
      trim_is xs (eqb-true (trim_start xs) 0 (both_left (eqb (trim_start xs) 0) (eqb (trim_end xs) (length xs)) ends_are))
      (eqb-true (trim_end xs) (length xs) (both_right (eqb (trim_start xs) 0) (eqb (trim_end xs) (length xs)) ends_are))

  others : both free (is_field (kind_of xs)) ≡ true
  others = both_right at_ends (both free (is_field (kind_of xs))) tests

  name_free : free ≡ true
  name_free = both_left free (is_field (kind_of xs)) others

  pub name_colon : Without colon xs
  name_colon = lacks_is colon xs (both_left (lacks colon xs) (lacks gt xs) name_free)

  pub name_gt : Without gt xs
  name_gt = lacks_is gt xs (both_right (lacks colon xs) (lacks gt xs) name_free)

  pub name_kind : kind_of xs ≡ FieldName
  name_kind = field_kind (kind_of xs) (both_right free (is_field (kind_of xs)) others)

pub utf8_is : (xs : List ℕ) → utf8 xs ≡ true → Utf8 xs
unfolding utf8
utf8_is xs e = eqb-true (valid_up_to xs) (length xs) e

module _ (text : List ℕ) (small : length text < 2 ^ 64) where
  -- a row that can be written
  pub field_good : (r : Row) → sound text r ≡ true → writable (name_in text r) ≡ true → Good (row_field text r)
  unfolding sound
  field_good r s can =
      record {
        trim = trim_capitals (name_in text r) ∙ ap capitals (name_trim (name_in text r) can);
        capital = capitals_twice (name_in text r);
        no_colon = without_raised colon (name_in text r) (omega arith) (name_colon (name_in text r) can);
        no_gt = without_raised gt (name_in text r) (omega arith) (name_gt (name_in text r) can);
        plain = kind_raised (name_in text r) ∙ name_kind (name_in text r) can;
        name_utf8 = good_raised (name_in text r) ∙ utf8_is (name_in text r) (both_left (utf8 (name_in text r)) (utf8 (value_in text r)) s) ∙ sym (length-map (name_in text r) raised);
        value_utf8 = utf8_is (value_in text r) (both_right (utf8 (name_in text r)) (utf8 (value_in text r)) s);
        short = omega (arith, length-take (get_or r 4 0) (drop (get_or r 3 0) text), length-drop (get_or r 3 0) text);
      }

  module _ (n c : ℕ) (p r : Row) (v : verdict text n c p r ≡ Ok tt) where
    row_good : Good (row_field text r)
    row_good = field_good r (is_sound text n c p r v) (is_writable text n c p r v)

    -- the same record, or another
    same_number : ends_before n (r ∷ []) ≡ false → n ≡ record_in r
    same_number e = eqb-true n (record_in r) (not_no (eqb n (record_in r)) e)
      where
        not_no : (t : Bool) → not t ≡ false → t ≡ true
        not_no true e = refl
        not_no false e = sym e

    other_number : ends_before n (r ∷ []) ≡ true → n ≡ record_in r → ⊥
    other_number e = eqb-false n (record_in r) (not_yes (eqb n (record_in r)) e)
      where
        not_yes : (t : Bool) → not t ≡ true → t ≡ false
        not_yes true e = sym e
        not_yes false e = refl

    rises : n ≡ record_in r → order (named (row_field text p)) (named (row_field text r)) ≡ Less
    unfolding order_raised
    rises e = higher text n c p r v e

  -- ---- records
  abbrev pub fields : List Row → List Field
  fields g = map (row_field text) g

  -- the first record: whole, or going on after p and c fields
  abbrev Run : Bool → ℕ → Row → List Row → Type 0
  Run true c p g = Ascending named (fields g) × (length (fields g) ≤ 256)
  Run false c p g = Ascending named (fields (p ∷ g)) × (c + length (fields g) ≤ 256)

  -- records that can be written, and whose names rise
  abbrev pub AllFit : List (List Row) → Type 0
  AllFit [] = Unit {0}
  AllFit (g ∷ gs) = Writable (fields g) × Ascending named (fields g) × AllFit gs

  abbrev Groups : Bool → ℕ → Row → List (List Row) → Type 0
  Groups b c p [] = Unit {0}
  Groups b c p (g ∷ gs) = AllGood (fields g) × (0 < length (fields g)) × Run b c p g × AllFit gs

  all_fit : (c : ℕ) (p : Row) (gs : List (List Row)) → Groups true c p gs → AllFit gs
  all_fit c p [] q = tt
  all_fit c p (g ∷ gs) q = (record { some = q.1; few = q.2.1; fields = q.0 }, q.2.0, q.3)

  module _ (n c : ℕ) (p r : Row) (v : verdict text n c p r ≡ Ok tt) where
    joins : (b b' : Bool) → ends_before n (r ∷ []) ≡ b → (gs : List (List Row)) → (b' ≡ false → gs ≡ [] → ⊥) → Groups b' (counted n c r) r gs → Groups b c p (joined b' r gs)
    joins true true e gs k q = ((row_good n c p r v, tt), omega arith, ((tt, tt), omega arith), all_fit (counted n c r) r gs q)
    joins false true e gs k q =
        let z : n ≡ record_in r = same_number n c p r v e in
        ((row_good n c p r v, tt), omega arith, ((rises n c p r v z, (tt, tt)), omega (arith, few_names text n c p r v, counted_on text n c p r v z)), all_fit (counted n c r) r gs q)
    joins b false e [] k q = absurd (k refl refl)
    joins true false e (g ∷ gs) k q =
        ((row_good n c p r v, q.0), omega arith, (q.2.0, omega (arith, q.2.1, counted_new text n c p r v (other_number n c p r v e))), q.3)
    joins false false e (g ∷ gs) k q =
        let z : n ≡ record_in r = same_number n c p r v e in
        ((row_good n c p r v, q.0), omega arith, ((rises n c p r v z, q.2.0), omega (arith, q.2.1, counted_on text n c p r v z)), q.3)

  groups : (rs : List Row) (n c : ℕ) (p : Row) → check_from text n c p rs ≡ Ok tt → Groups (ends_before n rs) c p (grouped rs)
  unfolding check_from
  groups [] n c p e = tt
  groups (r ∷ rs) n c p e =
      joins n c p r (first_fine (verdict text n c p r) (check_from text (record_in r) (counted n c r) r rs) e) (ends_before n (r ∷ rs)) (ends_before (record_in r) rs) refl (grouped rs)
      (goes_on_lem (record_in r) rs)
      (groups rs (record_in r) (counted n c r) r (rest_fine (verdict text n c p r) (check_from text (record_in r) (counted n c r) r rs) e))

  -- ---- how many records
  abbrev going : Bool → ℕ
  going true = 0
  going false = 1

  module _ (n c : ℕ) (p r : Row) (v : verdict text n c p r ≡ Ok tt) where
    tally : (b b' : Bool) → ends_before n (r ∷ []) ≡ b → (gs : List (List Row)) → (b' ≡ false → gs ≡ [] → ⊥) → record_in r + length gs ≤ 65535 + going b'
        → n + length (joined b' r gs) ≤ 65535 + going b
    tally true true e gs k q = omega (arith, next_number text n c p r v (other_number n c p r v e))
    tally false true e gs k q = omega (arith, same_number n c p r v e)
    tally b false e [] k q = absurd (k refl refl)
    tally true false e (g ∷ gs) k q = omega (arith, next_number text n c p r v (other_number n c p r v e))
    tally false false e (g ∷ gs) k q = omega (arith, same_number n c p r v e)

  records_few : (rs : List Row) (n c : ℕ) (p : Row) → n ≤ 65535 → check_from text n c p rs ≡ Ok tt → n + length (grouped rs) ≤ 65535 + going (ends_before n rs)
  unfolding check_from
  records_few [] n c p h e = omega arith
  records_few (r ∷ rs) n c p h e =
      let v : verdict text n c p r ≡ Ok tt = first_fine (verdict text n c p r) (check_from text (record_in r) (counted n c r) r rs) e in
      tally n c p r v (ends_before n (r ∷ rs)) (ends_before (record_in r) rs) refl (grouped rs) (goes_on_lem (record_in r) rs)
      (records_few rs (record_in r) (counted n c r) r (few_records text n c p r v) (rest_fine (verdict text n c p r) (check_from text (record_in r) (counted n c r) r rs) e))

  -- a first row never goes on with record 0
  starts : (rs : List Row) (c : ℕ) (p : Row) → check_from text 0 c p rs ≡ Ok tt → ends_before 0 rs ≡ true
  unfolding check_from
  starts [] c p e = refl
  starts (r ∷ rs) c p e =
      let z : 0 < record_in r = from_one text 0 c p r (first_fine (verdict text 0 c p r) (check_from text (record_in r) (counted 0 c r) r rs) e) in
      rw (ne_eqb 0 (record_in r) (λ y. omega arith)) refl

  pub accepted : (rs : List Row) → check_of text rs ≡ Ok tt → AllFit (grouped rs) × (length (grouped rs) ≤ 65535)
  unfolding check_of
  accepted rs e =
      let Z : Row = 0 ∷ 0 ∷ 0 ∷ 0 ∷ 0 ∷ [] in
      let b : ends_before 0 rs ≡ true = starts rs 0 Z e in
      (all_fit 0 Z (grouped rs) (rw b at (groups rs 0 0 Z e)), omega (arith, (rw b at (records_few rs 0 0 Z (omega arith) e))))

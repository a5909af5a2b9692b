-- What holds of a row that the writer takes. Assumes nothing.
use Rattle.std.specs.Prelude.{⊤, Result, Ok, Err}
use Rattle.std.specs.declared.cmp.Ordering.{Ordering}
use Rattle.std.specs.declared.cmp.Ordering.TheVariants.{Less, Equal, Greater}
use mathlib.Core.Path.{◌≡◌, refl, sym, ◌∙◌}
use mathlib.Core.Bool.{Bool, true, false}
use mathlib.Core.List.{List}
use Prim.Native.Nat.{ℕ, zero, suc, ◌+◌, ◌*◌, ◌≤◌, ◌<◌}
use native.Mathlib.Omega.{arith}
use lib.Dec.{leb, ltb, eqb}
use borrow.Author.Tests.{eqb-true, eqb-false, leb-true, ltb-true, eq-eqb, ne_eqb}
use Rattle.text.specs.Pick.{pick, both, either}
use Rattle.text.proofs.BoolLaws.{both_left, both_right}
use Rattle.letters.specs.Order.{order_raised}
use Rattle.refusals.specs.declared.Refusal.{Refusal}
use Rattle.refusals.specs.declared.Refusal.TheVariants.{BadRow, BadName, ManyNames, ManyRecords}
use Rattle.rowcheck.specs.Check.{Row, record_in, name_in, placed, sound, is_less, follows, writable, counted, verdict, and_then, is_fine}

pub refused_not : (why : Refusal) → ◌≡◌ {A = Result ⊤ Refusal} (Err why) (Ok tt) → ⊥
refused_not why e = let z : ◌≡◌ {A = ℕ} 0 1 = cc in omega arith

pub fine : (v : Result ⊤ Refusal) (f : Bool) → f ≡ is_fine v → f ≡ true → v ≡ Ok tt
fine v f e h = by v (sym e ∙ h)
  where
    by : (w : Result ⊤ Refusal) → is_fine w ≡ true → w ≡ Ok tt
    by (Ok tt) e = refl
    by (Err why) e = absurd (let z : ◌≡◌ {A = ℕ} 0 1 = cc in omega arith)

-- a test that passed
pub passed : (why : Refusal) (t : Bool) (v : Result ⊤ Refusal) → pick t v (Err why) ≡ Ok tt → t ≡ true
passed why true v e = refl
passed why false v e = absurd (refused_not why e)

pub onward : (why : Refusal) (t : Bool) (v : Result ⊤ Refusal) → pick t v (Err why) ≡ Ok tt → v ≡ Ok tt
onward why true v e = e
onward why false v e = absurd (refused_not why e)

pub first_fine : (v w : Result ⊤ Refusal) → and_then v w ≡ Ok tt → v ≡ Ok tt
first_fine (Ok tt) w e = refl
first_fine (Err why) w e = e

pub rest_fine : (v w : Result ⊤ Refusal) → and_then v w ≡ Ok tt → w ≡ Ok tt
rest_fine (Ok tt) w e = e
rest_fine (Err why) w e = absurd (refused_not why e)

pub less : (o : Ordering) → is_less o ≡ true → o ≡ Less
less Less e = refl
less Equal e = absurd (let z : ◌≡◌ {A = ℕ} 0 1 = cc in omega arith)
less Greater e = absurd (let z : ◌≡◌ {A = ℕ} 0 1 = cc in omega arith)

module _ (text : List ℕ) (n c : ℕ) (p r : Row) (v : verdict text n c p r ≡ Ok tt) where
  -- the tests that come after places, characters, order and name
  abbrev after_names : Result ⊤ Refusal
  after_names = pick (leb (record_in r) 65535) (Ok tt) (Err (ManyRecords 0))

  abbrev after_name : Result ⊤ Refusal
  after_name = pick (leb (counted n c r) 256) after_names (Err (ManyNames 0))

  abbrev after_order : Result ⊤ Refusal
  after_order = pick (writable (name_in text r)) after_name (Err BadName)

  abbrev after_sound : Result ⊤ Refusal
  after_sound = pick (follows text n p r) after_order (Err BadRow)

  abbrev after_placed : Result ⊤ Refusal
  after_placed = pick (sound text r) after_sound (Err BadRow)

  whole : pick (placed text r) after_placed (Err BadRow) ≡ Ok tt
  unfolding verdict
  whole = v

  pub is_placed_lem : placed text r ≡ true
  is_placed_lem = passed BadRow (placed text r) after_placed whole

  from_sound : after_placed ≡ Ok tt
  from_sound = onward BadRow (placed text r) after_placed whole

  pub is_sound : sound text r ≡ true
  is_sound = passed BadRow (sound text r) after_sound from_sound

  from_order : after_sound ≡ Ok tt
  from_order = onward BadRow (sound text r) after_sound from_sound

  follow : follows text n p r ≡ true
  follow = passed BadRow (follows text n p r) after_order from_order

  from_name : after_order ≡ Ok tt
  from_name = onward BadRow (follows text n p r) after_order from_order

  pub is_writable : writable (name_in text r) ≡ true
  is_writable = passed BadName (writable (name_in text r)) after_name from_name

  from_names : after_name ≡ Ok tt
  from_names = onward BadName (writable (name_in text r)) after_name from_name

  pub few_names : counted n c r ≤ 256
  few_names = leb-true (counted n c r) 256 (passed (ManyNames 0) (leb (counted n c r) 256) after_names from_names)

  pub few_records : record_in r ≤ 65535
  few_records =
      leb-true (record_in r) 65535
      (passed (ManyRecords 0) (leb (record_in r) 65535) (Ok tt) (onward (ManyNames 0) (leb (counted n c r) 256) after_names from_names))

  -- the same record, with a higher name; or the next
  abbrev higher_name : Bool
  higher_name = is_less (order_raised (name_in text p) (name_in text r))

  abbrev same_record : Bool
  same_record = both (ltb 0 n) (eqb (record_in r) n)

  cases : (A : Type 0) → (record_in r ≡ n + 1 → A) → (both same_record higher_name ≡ true → A) → A
  unfolding follows
  cases A next same = by (eqb (record_in r) (n + 1)) refl follow
    where
      by : (t : Bool) → eqb (record_in r) (n + 1) ≡ t → either t (both same_record higher_name) ≡ true → A
      by true z f = next (eqb-true (record_in r) (n + 1) z)
      by false z f = same f

  pub higher : n ≡ record_in r → order_raised (name_in text p) (name_in text r) ≡ Less
  higher e =
      cases (order_raised (name_in text p) (name_in text r) ≡ Less) (λ z. absurd (omega arith)) (λ f. less (order_raised (name_in text p) (name_in text r)) (both_right same_record higher_name f))

  pub next_number : (n ≡ record_in r → ⊥) → record_in r ≡ n + 1
  next_number e =
      cases (record_in r ≡ n + 1) (λ z. z) (λ f. absurd (e (sym (eqb-true (record_in r) n (both_right (ltb 0 n) (eqb (record_in r) n) (both_left same_record higher_name f))))))

  pub from_one : 0 < record_in r
  from_one =
      cases (0 < record_in r) (λ z. omega arith)
      (λ f.
      let g : same_record ≡ true = both_left same_record higher_name f in
      omega (arith, ltb-true 0 n (both_left (ltb 0 n) (eqb (record_in r) n) g), eqb-true (record_in r) n (both_right (ltb 0 n) (eqb (record_in r) n) g)))

  pub counted_on : n ≡ record_in r → counted n c r ≡ c + 1
  unfolding counted
  counted_on e = rw (eq-eqb (record_in r) n (sym e))

  pub counted_new : (n ≡ record_in r → ⊥) → counted n c r ≡ 1
  unfolding counted
  counted_new e = rw (ne_eqb (record_in r) n (λ z. e (sym z)))

-- after i rows, the last the c-th of record n: with 256 names a record they are at most 256 times the records
unfoldable pub Tally : ℕ → ℕ → ℕ → Type 0
Tally n c i = 0 < i → i + 256 ≤ 256 * n + c

pub tally_start : (n c : ℕ) → Tally n c 0
unfolding Tally
tally_start n c h = absurd (omega arith)

pub tally_few : (n c i : ℕ) → n ≤ 65535 → c ≤ 256 → Tally n c i → i ≤ 16776960
unfolding Tally
tally_few n c zero a b t = omega arith
tally_few n c (suc i) a b t = omega (arith, t (omega arith))

pub tally_on : (text : List ℕ) (n c i : ℕ) (p r : Row) → verdict text n c p r ≡ Ok tt → c ≤ 256 → Tally n c i → Tally (record_in r) (counted n c r) (i + 1)
unfolding Tally
tally_on text n c zero p r v b t h = by (eqb n (record_in r)) refl
  where
    by : (e : Bool) → eqb n (record_in r) ≡ e → zero + 1 + 256 ≤ 256 * record_in r + counted n c r
    by true e = omega (arith, counted_on text n c p r v (eqb-true n (record_in r) e), from_one text n c p r v)
    by false e = omega (arith, counted_new text n c p r v (eqb-false n (record_in r) e), from_one text n c p r v)
tally_on text n c (suc i) p r v b t h = by (eqb n (record_in r)) refl (t (omega arith))
  where
    by : (e : Bool) → eqb n (record_in r) ≡ e → suc i + 256 ≤ 256 * n + c → suc i + 1 + 256 ≤ 256 * record_in r + counted n c r
    by true e z = omega (arith, counted_on text n c p r v (eqb-true n (record_in r) e), eqb-true n (record_in r) e)
    by false e z =
        omega (arith, counted_new text n c p r v (eqb-false n (record_in r) e), next_number text n c p r v (eqb-false n (record_in r) e))

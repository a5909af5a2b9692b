-- The items of records mean those records, each gathered by its names; and a record whose names rise is gathered as it is. Assumes
-- nothing.
use Rattle.std.specs.declared.cmp.Ordering.{Ordering}
use Rattle.std.specs.declared.cmp.Ordering.TheVariants.{Less, Equal, Greater}
use mathlib.Core.Path.{◌≡◌, refl, ◌∙◌}
use mathlib.Core.List.{List, [], ◌∷◌, ◌++◌, append-nil}
use Prim.Native.Nat.{ℕ, suc, ◌+◌, ◌≤◌, ◌<◌}
use native.Mathlib.Nat.{not-suc-le-zero}
use native.Mathlib.Omega.{arith}
use lib.ListN.{length, length-append}
use lib.Seq.{append_snoc}
use borrow.Author.Tests.{le-leb, lt-ltb}
use Rattle.letters.specs.Order.{order}
use Rattle.letters.proofs.OrderLaws.{order_trans, order_flip}
use Rattle.adif.specs.Records.{eoh, eor, records, on, total, close, finish, placed, put, Ending, whole, meaning}
use Rattle.adif.specs.Grammar.{Field, Why, plain, Items}
use Rattle.adif.specs.Limits.{Ascending}
use Rattle.adif.proofs.Plainly.{total_append}
use Rattle.trip.specs.File.{Front, bare, header, Fit, Records, AllWritable, gathered, read_as}
use Rattle.trip.proofs.Says.{items, all_items, front_items}

abbrev pub named : Field → List ℕ
named f = f.name

-- ---- a field more makes a record at most one longer
placed_length : (f x : Field) (xs rest : List Field) (o : Ordering) → length rest ≤ suc (length xs) → length (placed o f x xs rest) ≤ suc (length (x ∷ xs))
placed_length f x xs rest Less h = omega arith
placed_length f x xs rest Equal h = omega arith
placed_length f x xs rest Greater h = omega arith

put_length : (f : Field) (xs : List Field) → length (put named f xs) ≤ suc (length xs)
put_length f [] = omega arith
put_length f (x ∷ xs) = placed_length f x xs (put named f xs) (order (named f) (named x)) (put_length f xs)

placed_some : (f x : Field) (xs rest : List Field) (o : Ordering) → 0 < length (placed o f x xs rest)
placed_some f x xs rest Less = omega arith
placed_some f x xs rest Equal = omega arith
placed_some f x xs rest Greater = omega arith

put_some : (f : Field) (xs : List Field) → 0 < length (put named f xs)
put_some f [] = omega arith
put_some f (x ∷ xs) = placed_some f x xs (put named f xs) (order (named f) (named x))

gathered_some : (hand fs : List Field) → 0 < length hand → 0 < length (gathered hand fs)
gathered_some hand [] h = h
gathered_some hand (f ∷ fs) h = gathered_some (put named f hand) fs (put_some f hand)

record_some : (fs : List Field) → 0 < length fs → 0 < length (gathered [] fs)
record_some [] h = absurd (not-suc-le-zero h)
record_some (f ∷ fs) h = gathered_some (put named f []) fs (put_some f [])

-- ---- items
module _ (room : ℕ) (done : List (List Field)) (is : Items) (e : Ending Why) where
  fields_mean : (hand fs : List Field) → length hand + length fs ≤ 256
      → meaning plain room hand done (items fs is) e ≡ meaning plain room (gathered hand fs) done is e
  fields_mean hand [] l = refl
  fields_mean hand (f ∷ fs) l =
      let k : length (put named f hand) ≤ suc (length hand) = put_length f hand in
      let m : length (put named f hand) ≤ 256 = omega arith in
      rw (le-leb (length (put named f hand)) 256 m) (fields_mean (put named f hand) fs (omega arith))

close_is : (room : ℕ) (r : List Field) (done : List (List Field)) → 0 < length r → length done < 65535 → total done + length r ≤ room
    → close plain room r done ≡ on [] (done ++ (r ∷ []))
close_is room [] done s a b = absurd (not-suc-le-zero s)
close_is room (h ∷ hs) done s a b = rw (lt-ltb (length done) 65535 a, le-leb (total done + length (h ∷ hs)) room b) refl

finish_is : (room : ℕ) (done : List (List Field)) → finish plain room [] done ≡ records done
finish_is room [] = refl
finish_is room (d ∷ ds) = refl

records_mean : (room : ℕ) (done : List (List Field)) (rs : Records) → AllWritable rs → length done + length rs ≤ 65535
    → total done + total (read_as rs) ≤ room → meaning plain room [] done (all_items rs) whole ≡ records (done ++ read_as rs)
records_mean room done [] g a b = finish_is room done ∙ rw (append-nil done) refl
records_mean room done (r ∷ rs) g a b =
    let R : List Field = gathered [] r.1 in
    fields_mean room done (eor ∷ all_items rs) whole [] r.1 (omega (arith, g.1.few))
    ∙ rw (close_is room R done (record_some r.1 g.1.some) (omega arith) (omega arith))
    (records_mean room (done ++ (R ∷ [])) rs g.2 (omega (arith, length-append done (R ∷ []))) (omega (arith, total_append plain done (R ∷ [])))
    ∙ rw (append_snoc done R (read_as rs)) refl)

pub file_means : (front : Front) → Fit front → (room : ℕ) (rs : Records) → AllWritable rs → length rs ≤ 65535 → total (read_as rs) ≤ room
    → meaning plain room [] [] (front_items front (all_items rs)) whole ≡ records (read_as rs)
file_means bare b room rs g a c = records_mean room [] rs g (omega arith) (omega arith)
file_means (header hs) b room rs g a c =
    fields_mean room [] (eoh ∷ all_items rs) whole [] hs (omega (arith, b.0)) ∙ records_mean room [] rs g (omega arith) (omega arith)

-- ---- names that rise
-- f is above every field before it
below_end : (x f : Field) (xs fs : List Field) → Ascending named (x ∷ (xs ++ f ∷ fs)) → order (named x) (named f) ≡ Less
below_end x f [] fs s = s.0
below_end x f (y ∷ ys) fs s = order_trans (named x) (named y) (named f) s.0 (below_end y f ys fs s.1)

put_end : (f : Field) (hand fs : List Field) → Ascending named (hand ++ f ∷ fs) → put named f hand ≡ hand ++ (f ∷ [])
put_end f [] fs s = refl
put_end f (x ∷ xs) fs s = rw (order_flip (named x) (named f) (below_end x f xs fs s), put_end f xs fs s.1) refl

gathered_rising : (hand fs : List Field) → Ascending named (hand ++ fs) → gathered hand fs ≡ hand ++ fs
gathered_rising hand [] s = rw (append-nil hand) refl
gathered_rising hand (f ∷ fs) s =
    let q : hand ++ (f ∷ []) ++ fs ≡ hand ++ f ∷ fs = append_snoc hand f fs in
    rw (put_end f hand fs s) (gathered_rising (hand ++ (f ∷ [])) fs (rw q s) ∙ q)

pub gathered_is : (r : List Field) → Ascending named r → gathered [] r ≡ r
gathered_is r s = gathered_rising [] r s

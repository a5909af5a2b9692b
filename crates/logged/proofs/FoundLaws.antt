-- What a record finds in the list is what the plan's definition finds, a contact of the list or none. Assumes nothing.
use Rattle.std.specs.Prelude.{Option, Ok}
use mathlib.Core.Path.{◌≡◌, refl, ap, fun_ext}
use mathlib.Core.Bool.{Bool}
use mathlib.Core.List.{List, [], ◌∷◌, map}
use Prim.Native.Nat.{ℕ, zero, suc, ◌+◌, ◌≤◌, ◌<◌}
use native.Mathlib.Nat.{le_of_suc-le-suc, not-suc-le-zero}
use native.Mathlib.Omega.{arith}
use lib.ListN.{length, get_or}
use lib.IntN.{ℤ}
use Rattle.text.specs.Pick.{both}
use Rattle.text.proofs.BoolLaws.{cases}
use Rattle.times.specs.Moments.{moment_of}
use Rattle.times.specs.Window.{limit_of}
use Rattle.contacts.specs.Contacts.{Contact, call_of, date_of, time_of, band_of, mode_of}
use Rattle.contacts.specs.Lists.{after, call_at, date_at, time_at, band_at, mode_at, end_at, id_at, entries_from, contacts_from, contacts_of, count_of, listed_as}
use Rattle.contacts.proofs.ListLaws.{good_inside, entries_next, accepted}
use Rattle.index.specs.Rows.{Row}
use Rattle.indexing.proofs.BuildLaws.{indexed_listed}
use Rattle.dedupe.specs.Keys.{in_log}
use Rattle.search.specs.Search.{moment_in, matches, first_from, first_match, place_from, place_of, Indexed}
use Rattle.search.proofs.FindLaws.{near_within}
use Rattle.search.proofs.ReadyLaws.{contacts_length, ready}
use Rattle.plan.specs.Entry.{Entry, no_entry}
use Rattle.plan.specs.Fates as fates

-- ---- a match is one of the plan's definition, at the limit of the window
pub found_is : (w : ℤ) (e : Entry) (cs : List Contact) → first_match e.call e.mode e.band e.moment (limit_of w) cs ≡ fates.found w cs e
unfolding first_match matches moment_in fates.found fates.matches
found_is w e cs =
    ap (λ (p : Contact → Bool). first_from p 0 cs)
    (fun_ext (λ c. ap (both (in_log e.call e.mode e.band (call_of c) (mode_of c) (band_of c))) (near_within e.moment (moment_of (date_of c) (time_of c)) w)))

pub hit_at : (f : Entry → ℕ) (es : List Entry) (k : ℕ) → k < length es → get_or (map f es) k 0 ≡ f (get_or es k no_entry)
hit_at f [] k h = absurd (not-suc-le-zero h)
hit_at f (e ∷ es) zero h = refl
hit_at f (e ∷ es) (suc k) h = hit_at f es k (le_of_suc-le-suc h)

-- ---- the number of a contact is at most how many there are, which are few
first_within : (p : Contact → Bool) (k : ℕ) (cs : List Contact) → first_from p k cs ≤ k + length cs
unfolding first_from
first_within p k [] = omega arith
first_within p k (c ∷ cs) = cases (p c) (λ u. rw u (omega arith)) (λ u. rw u (omega (arith, first_within p (suc k) cs)))

pub found_within : (w : ℤ) (cs : List Contact) (e : Entry) → fates.found w cs e ≤ length cs
unfolding fates.found
found_within w cs e = omega (arith, first_within (fates.matches w e) 0 cs)

after_more : (s : List ℕ) (p : ℕ) → p < after s p
unfolding after
after_more s p = omega arith

end_more : (s : List ℕ) (at : ℕ) → at < end_at s at
unfolding end_at mode_at band_at time_at date_at call_at
end_more s at =
    let a = after_more s (at + 11) in
    let b = after_more s (after s (at + 11)) in
    let c = after_more s (after s (after s (at + 11))) in
    let d = after_more s (after s (after s (after s (at + 11)))) in
    let e = after_more s (after s (after s (after s (after s (at + 11))))) in omega arith

entries_few : (s : List ℕ) (n m top k at last : ℕ) → at ≤ length s → entries_from s n k at last ≡ Ok (record { contacts = m; largest = top }) → at + k ≤ length s
entries_few s n m top zero at last h e = omega arith
entries_few s n m top (suc k) at last h e =
    let N = entries_next s n m top k at last e in
    omega (arith, end_more s at, entries_few s n m top k (end_at s at) (id_at s at) (good_inside s at N.good) N.rest)

-- ---- the place of a contact's entry is in the list
place_inside : (s : List ℕ) (n m top k at last i : ℕ) → at ≤ length s → entries_from s n k at last ≡ Ok (record { contacts = m; largest = top }) → i < k → place_from s i at ≤ length s
place_inside s n m top k at last zero h e l = h
place_inside s n m top zero at last (suc i) h e l = absurd (omega arith)
place_inside s n m top (suc k) at last (suc i) h e l =
    let N = entries_next s n m top k at last e in place_inside s n m top k (end_at s at) (id_at s at) i (good_inside s at N.good) N.rest (omega arith)

pub place_few : (s : List ℕ) (n top : ℕ) → listed_as s ≡ Ok (record { contacts = n; largest = top }) → (i : ℕ) → i ≤ n → place_of s i ≤ 16777216
unfolding place_of
place_few s n top e zero h = omega arith
place_few s n top e (suc i) h =
    let A = accepted s n top e in omega (arith, A.short, place_inside s n n top n 5 0 i A.whole A.entries (omega arith))

pub contacts_few : (s : List ℕ) (n : ℕ) (rows : List Row) → Indexed s n rows → n ≤ 16777216
unfolding Indexed
contacts_few s n rows q =
    let A = accepted s n q.0 (indexed_listed s (length rows) n q.0 q.1) in
    omega (arith, A.short, entries_few s n n q.0 n 5 0 A.whole A.entries)

pub match_within : (s : List ℕ) (n : ℕ) (rows : List Row) (call mode band : List ℕ) (moment : Option ℕ) (limit : ℕ) → Indexed s n rows → first_match call mode band moment limit (contacts_of s) ≤ n
unfolding first_match contacts_of
match_within s n rows call mode band moment limit I =
    omega (arith, first_within (matches call mode band moment limit) 0 (contacts_from s (count_of s) 5), contacts_length s (count_of s) 5, (ready s n rows I).count)

pub match_few : (s : List ℕ) (n : ℕ) (rows : List Row) (call mode band : List ℕ) (moment : Option ℕ) (limit : ℕ) → Indexed s n rows → first_match call mode band moment limit (contacts_of s) < 4294967296
match_few s n rows call mode band moment limit I = omega (arith, match_within s n rows call mode band moment limit I, contacts_few s n rows I)

-- A list looked up, contact by contact. Assumes nothing.
use Rattle.std.specs.Prelude.{Result, Ok, Err}
use Rattle.contacts.specs.declared.Mark.{Mark}
use mathlib.Core.Path.{◌≡◌, refl, sym, ap, ◌∙◌}
use mathlib.Core.List.{List, [], ◌∷◌, ◌++◌, append-nil, map}
use Prim.Native.Nat.{ℕ, zero, suc, ◌+◌, ◌-◌, ◌≤◌, ◌<◌}
use native.Mathlib.Nat.{sub-zero, zero-add}
use native.Mathlib.Numerals.{add-one}
use native.Mathlib.Omega.{arith}
use lib.ListN.{length, drop, set, replicate, length-replicate, drop_of_length-le}
use lib.Seq.{sets, sets-eq}
use lib.Dec.{ltb}
use borrow.Author.Tests.{ltb-false}
use Rattle.text.proofs.BoolLaws.{cases}
use Rattle.refusals.specs.declared.Refusal.{Refusal}
use Rattle.refusals.specs.declared.Refusal.TheVariants.{ShortTable}
use Rattle.contacts.specs.Lists.{call_at, band_at, mode_at, end_at, id_at, contact_at, contacts_from, contacts_of, count_of, listed_as}
use Rattle.contacts.proofs.ListLaws.{good_inside, entries_next, accepted, marked_refused}
use Rattle.index.specs.Rows.{Row, rows_from, no_row}
use Rattle.indexing.specs.Index.{indexed_by, indexed_as, index_by, index_after, count_in, Checked, Sound}
use Rattle.indexing.proofs.BuildLaws.{drop_replicate}
use Rattle.wanted.specs.Wanted.{key_at, wanted_at}
use Rattle.wanted.specs.declared.Wanted.{Wanted}
use Rattle.wanted.proofs.WantedLaws.{place_says}
use Rattle.search.specs.Search.{moment_in, first_for, hit_of, Indexed}
use Rattle.search.specs.declared.Hit.{Hit}
use Rattle.lookup.specs.Lookup.{Asks, match_for, matches_from, searched_by, searched_as, gone_of, index_left, found_by, found_after}

-- ---- one contact
pub match_is : (s other : List ℕ) (at limit : ℕ) (w : Wanted) (h : Hit) → w ≡ wanted_at other at → h ≡ hit_of s (first_for other w limit s) → h.number ≡ match_for s limit (contact_at other at)
unfolding wanted_at key_at contact_at moment_in
match_is s other at limit w h ew eh =
    ap (λ (x : Hit). x.number) eh
    ∙ rw (ew, place_says other (call_at at), place_says other (mode_at other at), place_says other (band_at other at)) refl

-- ---- the matches: those of the contacts from `at` on are left, and good
unfoldable pub Matching : List ℕ → ℕ → List ℕ → ℕ → ℕ → ℕ → List ℕ → List ℕ → Type 0
Matching s limit other k i at was now =
    (i < k → (at ≤ length other) × Checked other k (k - i) at) × (sets now i (matches_from s limit other (k - i) at) ≡ sets was 0 (matches_from s limit other k 5))

module _ (s : List ℕ) (limit : ℕ) (other : List ℕ) (n k : ℕ) (rows : List Row) (S : Asks s n rows other k) where
  pub match_start : (was : List ℕ) → Matching s limit other k 0 5 was was
  unfolding Matching Asks
  match_start was = (λ h. ((S h).1.whole, rw (sub-zero k) (S h).1.checked), rw (sub-zero k) refl)

  module _ (i at : ℕ) (was now : List ℕ) (h : i < k) (q : Matching s limit other k i at was now) where
    left : k - i ≡ suc (k - (i + 1))
    left = omega arith

    here : Checked other k (suc (k - (i + 1))) at
    unfolding Matching
    here = rw left at (q.0 h).1

    pub match_indexed : Indexed s n rows
    unfolding Asks
    match_indexed = (S (omega arith)).0

    pub match_short : length other ≤ 16777216
    unfolding Asks
    match_short = (S (omega arith)).1.short

    pub match_place : at ≤ 16777216
    unfolding Matching
    match_place = omega (arith, (q.0 h).0, match_short)

    pub match_on : (w : Wanted) (r : Hit) (v : ℕ) → w ≡ wanted_at other at → r ≡ hit_of s (first_for other w limit s) → v ≡ r.number → (to : ℕ) → to ≡ end_at other at → Matching s limit other k (i + 1) to was (set now i v)
    unfolding Matching Checked matches_from
    match_on w r v ew er ev to et =
        let N = entries_next other k k here.1 (k - (i + 1)) at here.0 here.2 in
        let e : v ≡ match_for s limit (contact_at other at) = ev ∙ match_is s other at limit w r ew er in (
          λ l. rw et (good_inside other at N.good, (id_at other at, here.1, N.rest)),
          rw (e, et, add-one i) (rw (add-one i) at (rw left at q.1)),
        )

pub match_end : (s : List ℕ) (limit : ℕ) (other : List ℕ) (k i at : ℕ) (was now : List ℕ) → k ≤ i → Matching s limit other k i at was now → now ≡ sets was 0 (matches_from s limit other k 5)
unfolding Matching matches_from
match_end s limit other k i at was now h q = let z : k - i ≡ 0 = omega arith in rw z at q.1

-- ---- all of them
matches_map : (s : List ℕ) (limit : ℕ) (other : List ℕ) (k at : ℕ) → matches_from s limit other k at ≡ map (match_for s limit) (contacts_from other k at)
unfolding matches_from contacts_from
matches_map s limit other zero at = refl
matches_map s limit other (suc k) at = ap (λ (r : List ℕ). match_for s limit (contact_at other at) ∷ r) (matches_map s limit other k (end_at other at))

matches_length : (s : List ℕ) (limit : ℕ) (other : List ℕ) (k at : ℕ) → length (matches_from s limit other k at) ≡ k
unfolding matches_from
matches_length s limit other zero at = refl
matches_length s limit other (suc k) at = ap suc (matches_length s limit other k (end_at other at))

-- ---- what is asked
module _ (other : List ℕ) (room : ℕ) (built : Result Mark Refusal) where
  pub asked_refused : (why : Refusal) → built ≡ Err why → Err why ≡ searched_by room built (listed_as other)
  unfolding searched_by
  asked_refused why e = rw e refl

  by_listed : (m : Mark) (l : Result Mark Refusal) → indexed_by room l ≡ searched_by room (Ok m) l
  unfolding indexed_by searched_by
  by_listed m (Err why) = refl
  by_listed m (Ok k) = refl

  pub asked_marked : (m : Mark) → built ≡ Ok m → (r : Result Mark Refusal) → r ≡ indexed_as other room → r ≡ searched_by room built (listed_as other)
  unfolding indexed_as
  asked_marked m e r er = er ∙ by_listed m (listed_as other) ∙ ap (λ (b : Result Mark Refusal). searched_by room b (listed_as other)) (sym e)

-- ---- how many records are cleared
pub gone_all : (l : Result Mark Refusal) (m : ℕ) (why : Refusal) → l ≡ Err why → m ≡ gone_of l m
unfolding gone_of
gone_all l m why e = rw e refl

pub gone_none : (l : Result Mark Refusal) (m : ℕ) (k : Mark) → l ≡ Ok k → 0 ≡ gone_of l m
unfolding gone_of
gone_none l m k e = rw e refl

pub gone_within : (l : Result Mark Refusal) (m n : ℕ) → n ≡ gone_of l m → n ≤ m
unfolding gone_of
gone_within (Ok m') m n e = omega arith
gone_within (Err why) m n e = omega arith

-- as those of no contact
cleared_is : (s : List ℕ) (n : ℕ) (rows rows' : List Row) → rows' ≡ sets rows 0 (rows_from s 0 5 ++ replicate (n - 0) no_row) → rows' ≡ sets rows 0 (replicate n no_row)
unfolding rows_from
cleared_is s n rows rows' e = rw (sub-zero n) at e

all_cleared : (rows : List Row) (m : ℕ) → length rows ≡ m → sets rows 0 (replicate m no_row) ≡ replicate m no_row
all_cleared rows m e =
    let w : List Row = replicate m no_row in
    let j : length w ≡ m = length-replicate {A = Row} m no_row in
    let d : drop (0 + length w) rows ≡ [] = drop_of_length-le rows {i = 0 + length w} (omega arith) in
    sets-eq w rows 0 (omega arith) ∙ ap (λ (q : List Row). w ++ q) d ∙ append-nil w

-- ---- what may be looked up: nothing after a refusal
listed_fits : (other : List ℕ) (room : ℕ) (l : Result Mark Refusal) (m : Mark) (k last : ℕ) → searched_by room (Ok m) l ≡ Ok (record { contacts = k; largest = last }) → (l ≡ Ok (record { contacts = k; largest = last })) × (k ≤ room)
unfolding searched_by
listed_fits other room (Err why) m k last e = marked_refused k last why e
listed_fits other room (Ok j) m k last e =
    cases (ltb room j.contacts)
    (λ u. marked_refused k last ShortTable (rw u at e))
    (λ u. let z : ◌≡◌ {A = Result Mark Refusal} (Ok j) (Ok (record { contacts = k; largest = last })) = rw u at e in
    let y : ◌≡◌ {A = Mark} j (record { contacts = k; largest = last }) = cc in
    (z, omega (arith, ltb-false room j.contacts u, ap (λ (x : Mark). x.contacts) y)))

module _ (s other : List ℕ) (limit m room : ℕ) (rows : List Row) (er : rows ≡ index_after s m) (lr : length rows ≡ m) (was : List ℕ) (z : was ≡ replicate room 0) where
  -- by the two lists
  abbrev Done : Result Mark Refusal → Result Mark Refusal → Type 0
  Done built asked =
      (count_in asked ≤ room) × (0 < count_in asked → Indexed s (count_in built) rows × Sound other (count_in asked)) × (sets was 0 (matches_from s limit other (count_in asked) 5) ≡ found_by asked s limit other room)

  done_marked : (n top k last : ℕ) → indexed_as s m ≡ Ok (record { contacts = n; largest = top }) → searched_by room (Ok (record { contacts = n; largest = top })) (listed_as other) ≡ Ok (record { contacts = k; largest = last }) → Done (Ok (record { contacts = n; largest = top })) (Ok (record { contacts = k; largest = last }))
  unfolding count_in Indexed Checked found_by contacts_of
  done_marked n top k last e f =
      let F = listed_fits other room (listed_as other) (record { contacts = n; largest = top }) k last f in
      let A = accepted other k last F.0 in
      let c : k ≡ count_of other = A.count in
      let w : List ℕ = matches_from s limit other k 5 in
      let j : 0 + length w ≡ k = zero-add (length w) ∙ matches_length s limit other k 5 in
      let r : length was ≡ room = ap length z ∙ length-replicate {A = ℕ} room 0 in
      let h : k ≤ room = F.1 in
      let d : drop (0 + length w) was ≡ replicate (room - k) 0 = rw j (ap (drop k) z ∙ drop_replicate k room 0) in
      let b : sets was 0 w ≡ w ++ replicate (room - k) 0 = sets-eq w was 0 (omega arith) ∙ ap (λ (q : List ℕ). w ++ q) d in (
        F.1,
        λ g. ((top, rw lr e, rw lr er), record { short = A.short; whole = A.whole; checked = (0, last, A.entries) }),
        rw (← c) (b ∙ ap (λ (q : List ℕ). q ++ replicate (room - k) 0) (matches_map s limit other k 5)),
      )

  done_refused : (built : Result Mark Refusal) (why : Refusal) → Done built (Err why)
  unfolding count_in found_by matches_from
  done_refused built why = (omega arith, λ h. absurd (omega arith), z)

  unasked : {P : Type 0} (why : Refusal) (k last : ℕ) → searched_by room (Err why) (listed_as other) ≡ Ok (record { contacts = k; largest = last }) → P
  unfolding searched_by
  unasked why k last f = marked_refused k last why f

  done_by : (built asked : Result Mark Refusal) → indexed_as s m ≡ built → searched_by room built (listed_as other) ≡ asked → Done built asked
  done_by built (Err why) e f = done_refused built why
  done_by (Ok m) (Ok m') e f = done_marked m.contacts m.largest m'.contacts m'.largest e f
  done_by (Err why) (Ok m) e f = unasked why m.contacts m.largest f

  -- the index is kept where the other list is taken, and else cleared
  left_by : (built asked : Result Mark Refusal) → indexed_as s m ≡ built → searched_by room built (listed_as other) ≡ asked → (n : ℕ) (rows' : List Row) → n ≡ gone_of asked m → rows' ≡ sets rows 0 (replicate n no_row) → rows' ≡ index_by asked s m
  unfolding gone_of index_by index_after
  left_by built (Err why) e f n rows' en q = q ∙ rw en (all_cleared rows m lr)
  left_by (Ok m) (Ok m') e f n rows' en q = q ∙ rw en (er ∙ rw e refl)
  left_by (Err why) (Ok m) e f n rows' en q = unasked why m.contacts m.largest f

  module _ (built asked : Result Mark Refusal) (lent : ℕ) (el : lent ≡ room) (eb : built ≡ indexed_as s m) (ea : asked ≡ searched_by lent built (listed_as other)) where
    as_asked : asked ≡ searched_by room built (listed_as other)
    as_asked = rw el at ea

    whole : Done built asked
    whole = done_by built asked (sym eb) (sym as_asked)

    pub up_room : (k : ℕ) → k ≡ count_in asked → k ≤ lent
    up_room k ek = rw (el, ek) whole.0

    pub up_asks : (n k : ℕ) → n ≡ count_in built → k ≡ count_in asked → Asks s n rows other k
    unfolding Asks
    up_asks n k en ek h = rw (en, ek) (whole.1 (rw ek at h))

    pub up_answer : asked ≡ searched_as s other m room
    unfolding searched_as
    up_answer = as_asked ∙ ap (λ (b : Result Mark Refusal). searched_by room b (listed_as other)) eb

    pub up_found : (k : ℕ) (found : List ℕ) → k ≡ count_in asked → found ≡ sets was 0 (matches_from s limit other k 5) → (v : ℕ) → limit ≡ v → found ≡ found_after s v other m room
    unfolding found_after
    up_found k found ek ef v ev = rw (← ev) (ef ∙ rw ek whole.2 ∙ ap (λ (x : Result Mark Refusal). found_by x s limit other room) up_answer)

    pub up_index : (n : ℕ) (rows' : List Row) → n ≡ gone_of asked m → rows' ≡ sets rows 0 (rows_from s 0 5 ++ replicate (n - 0) no_row) → rows' ≡ index_left s other m room
    unfolding index_left
    up_index n rows' en q = left_by built asked (sym eb) (sym as_asked) n rows' en (cleared_is s n rows rows' q) ∙ ap (λ (x : Result Mark Refusal). index_by x s m) up_answer

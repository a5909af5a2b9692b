-- Rows looked up in the log, one after the other: what they say stays said, and each has what the plan's definition finds. Assumes nothing.
use mathlib.Core.Path.{◌≡◌, refl, sym, ap, ◌∙◌}
use mathlib.Core.List.{List, [], ◌∷◌, ◌++◌, map}
use Prim.Native.Nat.{ℕ, zero, suc, ◌+◌, ◌≤◌, ◌<◌}
use native.Mathlib.Nat.{zero-add, le_of_suc-le-suc, not-suc-le-zero}
use native.Mathlib.Omega.{arith}
use lib.ListN.{length, get_or, take, drop, set, length-map, get_or-append}
use lib.Seq.{sets, sets-eq, length-sets, length-take-le, take_all, drop_at}
use lib.IntN.{ℤ}
use Rattle.times.specs.Window.{limit_of}
use Rattle.chain.specs.Chain.{col}
use Rattle.chain.proofs.Fronts.{Each, each_start, each_on, each_end, sets_all}
use Rattle.contacts.specs.Lists.{contacts_of, count_of}
use Rattle.index.specs.Rows as index
use Rattle.indexing.proofs.BuildLaws.{indexed_listed}
use Rattle.wanted.specs.declared.Wanted.{Wanted}
use Rattle.search.specs.Search.{first_for, place_of, hit_of, Indexed}
use Rattle.search.specs.declared.Hit.{Hit}
use Rattle.search.proofs.ReadyLaws.{contacts_length}
use Rattle.plan.specs.Entry.{Entry, no_entry}
use Rattle.plan.specs.Fates.{found}
use Rattle.plan.specs.Plan.{hits_of}
use Rattle.entries.specs.Row.{Row}
use Rattle.entries.specs.Filled.{Says, Answers, Said, Answered, Bare}
use Rattle.logged.specs.Logged.{wanted_in, hit_in, with_hit, logged_row, logged_rows, Searchable}
use Rattle.logged.proofs.FoundLaws.{found_is, hit_at, found_within, match_few, match_within, place_few}

-- ---- one row
pub searchable : (list : List ℕ) (contacts : ℕ) (rows : List index.Row) (n k : ℕ) → Searchable list contacts rows n → k < n → Indexed list contacts rows
unfolding Searchable
searchable list contacts rows n k S h = S (omega arith)

module _ (text list : List ℕ) (contacts : ℕ) (rows : List index.Row) (limit n k : ℕ) (w : Wanted) (h : Hit) (S : Searchable list contacts rows n) (l : k < n) (eh : h ≡ hit_of list (first_for text w limit list)) where
  I : Indexed list contacts rows
  I = searchable list contacts rows n k S l

  pub number_few : h.number < 4294967296
  number_few = rw eh (match_few list contacts rows _ _ _ _ limit I)

  pub place_small : h.place < 4294967296
  unfolding Indexed I searchable Searchable
  place_small =
      let e = indexed_listed list (length rows) contacts I.0 I.1 in
      let l : first_for text w limit list ≤ contacts = match_within list contacts rows _ _ _ _ limit I in
      rw eh (omega (arith, place_few list contacts I.0 e (first_for text w limit list) l))

logged_is : (text list : List ℕ) (limit : ℕ) (r x : Row) (w : Wanted) (h : Hit) → w ≡ wanted_in r → h ≡ hit_of list (first_for text w limit list) → x ≡ with_hit r h.number h.place → x ≡ logged_row text list limit r
unfolding logged_row hit_in
logged_is text list limit r x w h ew eh ex = ex ∙ rw (eh, ew) refl

-- ---- the rows up to k of n
unfoldable pub Looking : List ℕ → List ℕ → ℕ → ℕ → List Row → List Row → ℕ → Type 0
Looking text list limit n was rows k = Each (logged_row text list limit) n was rows k

module _ (text list : List ℕ) (limit n : ℕ) (was : List Row) where
  pub look_start : Looking text list limit n was was 0
  unfolding Looking
  look_start = each_start (logged_row text list limit) n was

  pub look_on : (rows : List Row) (k : ℕ) (x : Row) (w : Wanted) (h : Hit) → k < n → n ≤ length was → length rows ≡ length was → w ≡ wanted_in (get_or rows k []) → h ≡ hit_of list (first_for text w limit list) → x ≡ with_hit (get_or rows k []) h.number h.place
      → Looking text list limit n was rows k → Looking text list limit n was (set rows k x) (k + 1)
  unfolding Looking
  look_on rows k x w h l r e ew eh ex q =
      each_on (logged_row text list limit) n was [] rows k x l (omega arith) (logged_is text list limit (get_or rows k []) x w h ew eh ex) q

  -- the first n rows apart, and those behind them as they were
  pub look_end : n ≤ length was → (items : List Row) (k : ℕ) → length (take n was) ≤ k → Looking text list limit n (take n was) items k → items ++ drop n was ≡ sets was 0 (logged_rows text list limit was n)
  unfolding Looking
  look_end h items k l q =
      let t : length (take n was) ≡ n = length-take-le n was h in
      let m : length (logged_rows text list limit was n) ≡ n = length-map (take n was) (logged_row text list limit) ∙ t in
      let tt : take n (take n was) ≡ take n was = take_all n (take n was) (omega (arith, t)) in
      let e : items ≡ logged_rows text list limit was n =
      each_end (logged_row text list limit) n (take n was) items k (omega arith) q
      ∙ rw tt (sets_all (take n was) (logged_rows text list limit was n) (m ∙ sym t)) in
      let z : 0 + length (logged_rows text list limit was n) ≡ n = omega arith in
      rw e (sym (sets-eq (logged_rows text list limit was n) was 0 (omega arith) ∙ rw z refl))

-- ---- all of them
map_at : (f : Row → Row) (rows : List Row) (n j : ℕ) → j < n → n ≤ length rows → get_or (map f (take n rows)) j [] ≡ f (get_or rows j [])
map_at f rows zero j h l = absurd (not-suc-le-zero h)
map_at f [] (suc n) j h l = absurd (omega arith)
map_at f (r ∷ rows) (suc n) zero h l = refl
map_at f (r ∷ rows) (suc n) (suc j) h l = map_at f rows n j (le_of_suc-le-suc h) (le_of_suc-le-suc l)

module _ (text list : List ℕ) (limit n : ℕ) (rows rows' : List Row) (l : n ≤ length rows) (e : rows' ≡ sets rows 0 (logged_rows text list limit rows n)) where
  many : length (logged_rows text list limit rows n) ≡ n
  many = length-map (take n rows) (logged_row text list limit) ∙ length-take-le n rows l

  laid : rows' ≡ logged_rows text list limit rows n ++ drop n rows
  laid = e ∙ sets-eq (logged_rows text list limit rows n) rows 0 (omega (arith, many)) ∙ ap (λ (k : ℕ). logged_rows text list limit rows n ++ drop k rows) (zero-add (length (logged_rows text list limit rows n)) ∙ many)

  pub logged_length : length rows' ≡ length rows
  logged_length = ap length e ∙ length-sets rows 0 (logged_rows text list limit rows n)

  pub logged_behind : drop n rows' ≡ drop n rows
  logged_behind = ap (drop n) laid ∙ drop_at (logged_rows text list limit rows n) (drop n rows) n many

  logged_there : (j : ℕ) → j < n → get_or rows' j [] ≡ logged_row text list limit (get_or rows j [])
  logged_there j h =
      ap (λ (x : List Row). get_or x j []) laid
      ∙ get_or-append (logged_rows text list limit rows n) (drop n rows) [] j (omega (arith, many))
      ∙ map_at (logged_row text list limit) rows n j h l

  -- what the rows said
  still_says : (f : Entry) (r : Row) → Says text r f → Says text (logged_row text list limit r) f
  unfolding logged_row
  still_says f r S = record { call = S.call; mode = S.mode; band = S.band; moment = S.moment; reason = S.reason; code = S.code; bears = S.bears }

  pub logged_said : (es : List Entry) → Said text n es rows → Said text n es rows'
  logged_said es S = record {
    counted = S.counted;
    room = omega (arith, logged_length);
    says = λ j h. rw (logged_there j h) (still_says (get_or es j no_entry) (get_or rows j []) (S.says j h));
  }

  still_answers : (table : List ℕ) (f : Entry) (r : Row) → Answers text table r f → Answers text table (logged_row text list limit r) f
  unfolding logged_row
  still_answers table f r A = record { inside = A.inside; answers = A.answers }

  pub logged_answered : (table : List ℕ) (es : List Entry) → Answered text table n es rows → Answered text table n es rows'
  unfolding Answered
  logged_answered table es A = λ j h. rw (logged_there j h) (still_answers table (get_or es j no_entry) (get_or rows j []) (A j h))

  still : (c : ℕ) → ((r : Row) → get_or (logged_row text list limit r) c 0 ≡ get_or r c 0) → ((j : ℕ) → j < n → col rows j c ≡ 0) → (j : ℕ) → j < n → col rows' j c ≡ 0
  still c k z j h = ap (λ (r : Row). get_or r c 0) (logged_there j h) ∙ k (get_or rows j []) ∙ z j h

  pub logged_bare : Bare n rows → Bare n rows'
  unfolding logged_row
  logged_bare B = record {
    fates = still 0 (λ r. refl) B.fates;
    heads = still 2 (λ r. refl) B.heads;
    services = still 24 (λ r. refl) B.services;
    card_heads = still 25 (λ r. refl) B.card_heads;
  }

  -- what they find
  hit_there : (j : ℕ) → j < n → col rows' j 22 ≡ hit_in text list limit (get_or rows j [])
  unfolding logged_row
  hit_there j h = ap (λ (r : Row). get_or r 22 0) (logged_there j h)

  pub logged_places : (j : ℕ) → j < n → col rows' j 27 ≡ place_of list (col rows' j 22)
  unfolding logged_row
  logged_places j h = ap (λ (r : Row). get_or r 27 0) (logged_there j h) ∙ ap (place_of list) (sym (hit_there j h))

  module _ (w : ℤ) (el : limit ≡ limit_of w) (es : List Entry) (S : Said text n es rows) where
    found_there : (j : ℕ) → j < n → hit_in text list limit (get_or rows j []) ≡ found w (contacts_of list) (get_or es j no_entry)
    unfolding hit_in
    found_there j h = let s = S.says j h in rw (s.call, s.mode, s.band, s.moment, el) (found_is w (get_or es j no_entry) (contacts_of list))

    pub logged_hits : (j : ℕ) → j < n → col rows' j 22 ≡ get_or (hits_of w (contacts_of list) es) j 0
    logged_hits j h = hit_there j h ∙ found_there j h ∙ sym (hit_at (found w (contacts_of list)) es j (omega (arith, S.counted)))

    pub logged_within : (j : ℕ) → j < n → col rows' j 22 ≤ count_of list
    unfolding contacts_of
    logged_within j h =
        omega (arith, hit_there j h ∙ found_there j h, found_within w (contacts_of list) (get_or es j no_entry), contacts_length list (count_of list) 5)

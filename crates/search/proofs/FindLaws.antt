-- A record of the index matches exactly if its contact does, and the walk down a chain finds the first that does. Assumes nothing.
use Rattle.std.specs.Prelude.{Option, Some, None}
use mathlib.Core.Path.{◌≡◌, refl, sym, ap, ◌∙◌}
use mathlib.Core.Bool.{Bool, true, false}
use mathlib.Core.List.{List, [], ◌∷◌}
use Prim.Native.Nat.{ℕ, zero, suc, ◌+◌, ◌-◌, ◌%◌, ◌≤◌, ◌<◌}
use native.Mathlib.Nat.{mod-lt, div-add-mod', add-zero}
use native.Mathlib.Omega.{arith}
use lib.ListN.{length, get_or}
use lib.Dec.{eqb, leb, ltb}
use lib.IntN.{ℤ, pos, negsuc}
use borrow.Author.Tests.{eq-eqb, ne_eqb, leb-true, leb-false, lt-ltb, le-ltb}
use Rattle.text.specs.Pick.{pick}
use Rattle.text.proofs.BoolLaws.{cases, both_left, both_right, both_no, both_yes}
use Rattle.letters.specs.Same.{same, same_raised}
use Rattle.letters.proofs.SameLaws.{same_true, same_raised_true}
use Rattle.tables.specs.Place.{bytes}
use Rattle.times.specs.Moments.{moment_of}
use Rattle.times.specs.Window.{apart, reaches, is_within, limit_of}
use Rattle.chain.specs.Chain.{over, first, or_else, col}
use Rattle.chain.proofs.Chains.{over_hit, over_miss}
use Rattle.chain.proofs.Walks.{First, or_or, first_start, first_on, first_end, next_less}
use Rattle.contacts.specs.Contacts.{Contact, contact, call_of, band_of, mode_of}
use Rattle.contacts.specs.Lists.{text_at, call_at, date_at, time_at, band_at, mode_at, contact_at, contacts_from, contacts_of, count_of}
use Rattle.index.specs.Rows.{Row, low, high, joined, has_moment, seconds_in, moment_from, code_of, row_of, row_by, row_at}
use Rattle.index.specs.Contacts.{numbers_of, no_contact, plain}
use Rattle.index.specs.declared.Contact as Kept
use Rattle.index.proofs.ContactLaws.{plain_length, plain_at}
use Rattle.indexing.specs.Index.{free_of, bucket_of}
use Rattle.indexing.proofs.ChainLaws.{hd_of, nx_of}
use Rattle.indexing.proofs.BuildLaws.{indexed_listed}
use Rattle.contacts.proofs.ListLaws.{accepted}
use Rattle.dedupe.specs.Keys.{in_log}
use Rattle.dedupe.specs.Views.{keys_in_log}
use Rattle.dedupe.specs.declared.Key.{Key}
use Rattle.wanted.specs.Wanted.{code_for, key_at}
use Rattle.wanted.specs.declared.Wanted.{Wanted}
use Rattle.wanted.proofs.WantedLaws.{place_says}
use Rattle.search.specs.Search.{near, moment_in, matches, first_from, first_match, first_for, place_from, place_of, hit, hit_of, Indexed}
use Rattle.search.specs.declared.Hit.{Hit}
use Rattle.search.specs.Steps.{row_moment, row_matches, row_tested, entry_in}
use Rattle.search.proofs.ReadyLaws.{contact_there, contacts_length, Ready, ready}

-- ---- a record's moment
pub halves : (x : ℕ) → joined (low x) (high x) ≡ x
unfolding low high
halves x = omega (arith, div-add-mod' x 4294967296)

pub moment_back : (m : Option ℕ) → moment_from (has_moment m) (joined (low (seconds_in m)) (high (seconds_in m))) ≡ m
unfolding moment_from has_moment seconds_in
moment_back (Some x) = rw (halves x) refl
moment_back None = refl

-- ---- what a record that is a contact's says
module _ (s : List ℕ) (row : Row) (p : ℕ) (e : free_of row ≡ free_of (row_at s p)) where
  pub row_code : get_or row 2 0 ≡ code_of (text_at s (call_at p)) (text_at s (mode_at s p)) (text_at s (band_at s p))
  unfolding row_at row_by row_of
  row_code = ap (λ (r : Row). get_or r 0 0) e

  pub row_matches_lem : (call mode band : List ℕ) (moment : Option ℕ) (limit : ℕ) → row_matches s row call mode band moment limit ≡ matches call mode band moment limit (contact_at s p)
  unfolding row_matches row_moment matches moment_in contact_at row_at row_by row_of
  row_matches_lem call mode band moment limit =
      let a : get_or row 6 0 ≡ call_at p = ap (λ (r : Row). get_or r 4 0) e in
      let b : get_or row 9 0 ≡ band_at s p = ap (λ (r : Row). get_or r 7 0) e in
      let d : get_or row 10 0 ≡ mode_at s p = ap (λ (r : Row). get_or r 8 0) e in
      let m : Option ℕ = moment_of (text_at s (date_at s p)) (text_at s (time_at s p)) in
      let f : get_or row 11 0 ≡ has_moment m = ap (λ (r : Row). get_or r 9 0) e in
      let g : get_or row 12 0 ≡ low (seconds_in m) = ap (λ (r : Row). get_or r 10 0) e in
      let h : get_or row 13 0 ≡ high (seconds_in m) = ap (λ (r : Row). get_or r 11 0) e in
      rw (a, b, d, f, g, h, moment_back m) refl

-- ---- what matches has the code
pub match_code : (call mode band : List ℕ) (moment : Option ℕ) (limit : ℕ) (c : Contact) → matches call mode band moment limit c ≡ true → code_of (call_of c) (mode_of c) (band_of c) ≡ code_of call mode band
unfolding matches in_log code_of
match_code call mode band moment limit c e =
    let k = both_left (in_log call mode band (call_of c) (mode_of c) (band_of c)) _ e in
    let a = same_raised_true call (call_of c) (both_left (same_raised call (call_of c)) _ k) in
    let r = both_right (same_raised call (call_of c)) _ k in
    let m = same_true mode (mode_of c) (both_left (same mode (mode_of c)) _ r) in
    let b = same_true band (band_of c) (both_right (same mode (mode_of c)) _ r) in
    rw (← a, ← m, ← b) refl

-- ---- the first of the list is the first by number
or_none : (a : ℕ) → or_else a 0 ≡ a
or_none zero = refl
or_none (suc a) = refl

first_across : (P : ℕ → Bool) (p : Contact → Bool) (d : Contact) (cs : List Contact) (k : ℕ) → ((i : ℕ) → i < length cs → P (k + i) ≡ p (get_or cs i d)) → or_else (first P k) (first_from p k cs) ≡ first P (k + length cs)
unfolding first_from
first_across P p d [] k h = rw (add-zero k) (or_none (first P k))
first_across P p d (c ∷ cs) k h =
    let z : k + suc (length cs) ≡ suc k + length cs = omega arith in
    let e : P k ≡ p c = rw (add-zero k) at (h 0 (omega arith)) in
    let t = first_across P p d cs (suc k) (λ i l. let y : suc k + i ≡ k + suc i = omega arith in rw y (h (suc i) (omega arith))) in
    rw z
    (cases (p c)
    (λ u. rw u (sym (or_or (first P k) k (first_from p (suc k) cs)) ∙ ap (λ (x : ℕ). or_else x (first_from p (suc k) cs)) (sym (over_hit P (λ j a. or_else a (suc j)) 0 k (e ∙ u))) ∙ t))
    (λ u. rw u (ap (λ (x : ℕ). or_else x (first_from p (suc k) cs)) (sym (over_miss P (λ j a. or_else a (suc j)) 0 k (e ∙ u))) ∙ t)))

pub first_is : (P : ℕ → Bool) (p : Contact → Bool) (d : Contact) (cs : List Contact) → ((i : ℕ) → i < length cs → P i ≡ p (get_or cs i d)) → first_from p 0 cs ≡ first P (length cs)
unfolding over
first_is P p d cs h =
    let z : 0 + length cs ≡ length cs = omega arith in
    rw z at (first_across P p d cs 0 (λ i l. let y : 0 + i ≡ i = omega arith in rw y (h i l)))

-- ---- the walk: what was found so far, and where
module _ (s : List ℕ) (rows : List Row) (text : List ℕ) (w : Wanted) (limit : ℕ) where
  abbrev call : List ℕ
  call = bytes text w.key.call

  abbrev mode : List ℕ
  mode = bytes text w.key.mode

  abbrev band : List ℕ
  band = bytes text w.key.band

  abbrev pub Match : ℕ → Bool
  Match i = row_matches s (get_or rows i []) call mode band w.moment limit

  unfoldable pub Walking : ℕ → ℕ → ℕ → Hit → Type 0
  Walking n code at best = First Match (bucket_of rows n) (code % n) n at best.number × (best.place ≡ place_of s best.number)

  module _ (n code : ℕ) (I : Indexed s n rows) (ec : code ≡ code_for text w.key) (hn : n ≡ 0 → ⊥) where
    R : Ready s n rows
    R = ready s n rows I

    hb : code % n < n
    hb = mod-lt code (omega (arith, hn))

    hit_code : (j : ℕ) → j < n → Match j ≡ true → col rows j 2 ≡ code
    unfolding contact_at code_for
    hit_code j h e =
        row_code s (get_or rows j []) (place_from s j 5) (R.free j h)
        ∙ match_code call mode band w.moment limit (contact_at s (place_from s j 5)) (sym (row_matches_lem s (get_or rows j []) (place_from s j 5) (R.free j h) call mode band w.moment limit) ∙ e)
        ∙ sym ec

    sub : (j : ℕ) → j < n → Match j ≡ true → bucket_of rows n j ≡ code % n
    sub j h e = ap (λ (x : ℕ). x % n) (hit_code j h e)

    tested : (i : ℕ) → i < n → row_tested s (get_or rows i []) text w code limit ≡ Match i
    unfolding row_tested
    tested i h =
        cases (Match i)
        (λ u. rw (u, eq-eqb (col rows i 2) code (hit_code i h u)) refl)
        (λ u. cases (eqb (col rows i 2) code) (λ v. rw (u, v) refl) (λ v. rw (u, v) refl))

    pub find_start : (at : ℕ) → at ≡ col rows (code % n) 0 → Walking n code at (hit 0 0)
    unfolding Walking place_of
    find_start at e = (first_start (bucket_of rows n) n n (hd_of rows) (nx_of rows) R.links (code % n) hb Match sub at e, refl)

    -- the record of a contact tells where its entry stands
    entry_there : (at : ℕ) → (at ≡ 0 → ⊥) → at ≤ n → entry_in (get_or rows (at - 1) []) ≡ place_of s at
    unfolding place_of entry_in row_at row_by row_of call_at
    entry_there zero na h = absurd (na refl)
    entry_there (suc i) na h =
        let z : suc i - 1 ≡ i = omega arith in
        let c : get_or (get_or rows i []) 6 0 ≡ place_from s i 5 + 11 = ap (λ (r : Row). get_or r 4 0) (R.free i (omega arith)) in
        rw (z, c) (omega arith)

    module _ (at : ℕ) (best : Hit) (W : Walking n code at best) (na : at ≡ 0 → ⊥) where
      place_on : (t : Bool) → (pick t (hit at (entry_in (get_or rows (at - 1) []))) best).place ≡ place_of s (pick t (hit at (entry_in (get_or rows (at - 1) []))) best).number
      unfolding Walking
      place_on true = entry_there at na W.0.within
      place_on false = W.1

      number_on : (t : Bool) → (pick t (hit at (entry_in (get_or rows (at - 1) []))) best).number ≡ pick t at best.number
      number_on true = refl
      number_on false = refl

      pub find_on : (x : ℕ) (y : Hit) → y ≡ pick (row_tested s (get_or rows (at - 1) []) text w code limit) (hit at (entry_in (get_or rows (at - 1) []))) best → x ≡ get_or (get_or rows (at - 1) []) 1 0 → Walking n code x y
      unfolding Walking
      find_on x y ey ex =
          let t : Bool = row_tested s (get_or rows (at - 1) []) text w code limit in (
            first_on (bucket_of rows n) n n (hd_of rows) (nx_of rows) R.links (code % n) hb Match sub at best.number x y.number t W.0 na (tested (at - 1) (omega (arith, W.0.within, na))) (ap (λ (h : Hit). h.number) ey ∙ number_on t) ex,
            rw ey (place_on t),
          )

      pub find_less : (x : ℕ) → x ≡ get_or (get_or rows (at - 1) []) 1 0 → x < at
      unfolding Walking
      find_less x ex = next_less (bucket_of rows n) n n (hd_of rows) (nx_of rows) R.links (code % n) hb Match sub at x W.0.within W.0.chain na ex

      pub row_in : at - 1 < length rows
      unfolding Walking
      row_in = omega (arith, W.0.within, R.room, na)

    first_last : (at : ℕ) (best : Hit) → Walking n code at best → at ≡ 0 → best.number ≡ first_for text w limit s
    unfolding Walking first_match contacts_of
    first_last at best W e =
        let d : Contact = contact 0 0 [] [] [] [] [] in
        let l : length (contacts_from s (count_of s) 5) ≡ n = contacts_length s (count_of s) 5 ∙ sym R.count in
        first_end (bucket_of rows n) n n (hd_of rows) (nx_of rows) R.links (code % n) hb Match sub at best.number W.0 e
        ∙ sym
        (first_is Match (matches call mode band w.moment limit) d (contacts_from s (count_of s) 5)
        (λ i h. let k : i < n = omega (arith, l) in
        let g : i < count_of s = omega (arith, R.count) in
        row_matches_lem s (get_or rows i []) (place_from s i 5) (R.free i k) call mode band w.moment limit ∙ ap (matches call mode band w.moment limit) (sym (contact_there s (count_of s) 5 i d g)))
        ∙ ap (first Match) l)

    pub find_end : (at : ℕ) (best : Hit) → Walking n code at best → at ≡ 0 → best ≡ hit_of s (first_for text w limit s)
    unfolding Walking
    find_end at best W e =
        let f : best.number ≡ first_for text w limit s = first_last at best W e in
        ap (λ (p : ℕ). hit best.number p) W.1 ∙ ap (λ (k : ℕ). hit_of s k) f

  pub bucket_in : (n code : ℕ) → Indexed s n rows → (n ≡ 0 → ⊥) → code % n < length rows
  bucket_in n code I hn =
      let r : n ≤ length rows = (ready s n rows I).room in
      let m : code % n < n = mod-lt code (omega (arith, hn)) in omega arith

  pub find_none : (n : ℕ) → Indexed s n rows → n ≡ 0 → hit 0 0 ≡ hit_of s (first_for text w limit s)
  unfolding first_match contacts_of contacts_from first_from place_of
  find_none n I e = let z : count_of s ≡ 0 = sym (ready s n rows I).count ∙ e in rw z refl

-- ---- the same of the structs of the index
module _ (s : List ℕ) (cs : List Kept.Contact) (text : List ℕ) (w : Wanted) (limit n code : ℕ) (I : Indexed s n (plain cs)) (ec : code ≡ code_for text w.key) (hn : n ≡ 0 → ⊥) where
  pub chain_in : code % n < length cs
  chain_in = rw (plain_length cs) at (bucket_in s (plain cs) text w limit n code I hn)

  pub find_first : Walking s (plain cs) text w limit n code (get_or cs (code % n) no_contact).head (hit 0 0)
  find_first = find_start s (plain cs) text w limit n code I ec hn (get_or cs (code % n) no_contact).head (rw (plain_at cs (code % n) chain_in) refl)

  module _ (at : ℕ) (best : Hit) (W : Walking s (plain cs) text w limit n code at best) (na : at ≡ 0 → ⊥) where
    pub contact_in : at - 1 < length cs
    contact_in = rw (plain_length cs) at (row_in s (plain cs) text w limit n code I ec hn at best W na)

    abbrev c : Kept.Contact
    c = get_or cs (at - 1) no_contact

    there : numbers_of c ≡ get_or (plain cs) (at - 1) []
    there = sym (plain_at cs (at - 1) contact_in)

    next : c.next ≡ get_or (get_or (plain cs) (at - 1) []) 1 0
    next = ap (λ (r : Row). get_or r 1 0) there

    pub find_next : (y : Hit) → y ≡ pick (row_tested s (numbers_of c) text w code limit) (hit at (entry_in (numbers_of c))) best → Walking s (plain cs) text w limit n code c.next y
    find_next y ey = find_on s (plain cs) text w limit n code I ec hn at best W na c.next y (ey ∙ rw there refl) next

    pub find_down : c.next < at
    find_down = find_less s (plain cs) text w limit n code I ec hn at best W na c.next next

pub short_list : (s : List ℕ) (n : ℕ) (rows : List Row) → Indexed s n rows → length s ≤ 16777216
unfolding Indexed
short_list s n rows q = (accepted s n q.0 (indexed_listed s (length rows) n q.0 q.1)).short

-- ---- the tests of one record
module _ (s : List ℕ) (row : Row) (text : List ℕ) (w : Wanted) (limit code : ℕ) where
  abbrev Test : Bool
  Test = row_tested s row text w code limit

  abbrev Own : Bool
  Own = in_log (bytes text w.key.call) (bytes text w.key.mode) (bytes text w.key.band) (text_at s (get_or row 6 0)) (text_at s (get_or row 10 0)) (text_at s (get_or row 9 0))

  pub match_other : (p : ℕ) → p ≡ get_or row 2 0 → (p ≡ code → ⊥) → false ≡ Test
  unfolding row_tested
  match_other p e n = rw (ne_eqb (get_or row 2 0) code (λ z. n (e ∙ z))) refl

  module _ (p : ℕ) (x : Option ℕ) (t : Bool) (e : p ≡ get_or row 2 0) (f : p ≡ code) (ex : x ≡ row_moment row) (et : t ≡ near w.moment x limit) where
    pub match_far : t ≡ false → false ≡ Test
    unfolding row_tested row_matches
    match_far n =
        let u : near w.moment (row_moment row) limit ≡ false = rw (← ex, ← et) n in
        rw (eq-eqb (get_or row 2 0) code (sym e ∙ f), u) (sym (both_no Own))

    pub match_key : t ≡ true → (a b d : ℕ) (k : Key) (r : Bool) → a ≡ get_or row 6 0 → b ≡ get_or row 10 0 → d ≡ get_or row 9 0 → k ≡ key_at s a b d → r ≡ keys_in_log text w.key s k → r ≡ Test
    unfolding row_tested row_matches keys_in_log key_at
    match_key n a b d k r ea eb ed ek er =
        let u : near w.moment (row_moment row) limit ≡ true = rw (← ex, ← et) n in
        let q : r ≡ Own = er ∙ rw (ek, ea, eb, ed, place_says s (get_or row 6 0), place_says s (get_or row 10 0), place_says s (get_or row 9 0)) refl in
        rw (eq-eqb (get_or row 2 0) code (sym e ∙ f), u) (q ∙ sym (both_yes Own))

pub found_it : (t u : Bool) (number e p : ℕ) (best : Hit) → t ≡ u → t ≡ true → p ≡ e → hit number p ≡ pick u (hit number e) best
found_it t u number e p best et h ep = rw (← et, h, ep) refl

pub found_before : {A : Type 0} (t u : Bool) (x y : A) → t ≡ u → t ≡ false → y ≡ pick u x y
found_before t u x y e h = rw (← e, h) refl

pub no_moment : (there x : ℕ) → there ≡ 0 → None ≡ moment_from there x
unfolding moment_from
no_moment there x e = rw e refl

pub a_moment : (there x : ℕ) → (there ≡ 0 → ⊥) → Some x ≡ moment_from there x
unfolding moment_from
a_moment zero x n = absurd (n refl)
a_moment (suc k) x n = refl

-- ---- nearness: with the window's limit it is what `times` calls within the window
pub near_never : (a b : Option ℕ) (limit : ℕ) → a ≡ None → false ≡ near a b limit
unfolding near
near_never a b limit e = rw e refl

pub never_near : (a b : Option ℕ) (limit x : ℕ) → a ≡ Some x → b ≡ None → false ≡ near a b limit
unfolding near
never_near a b limit x e f = rw (e, f) refl

pub both_near : (a b : Option ℕ) (limit x y d : ℕ) → a ≡ Some x → b ≡ Some y → d ≡ apart x y → ltb d limit ≡ near a b limit
unfolding near
both_near a b limit x y d e f g = rw (e, f, g) refl

reached : (d : ℕ) (w : ℤ) → ltb d (limit_of w) ≡ reaches w d
unfolding limit_of reaches
reached d (pos n) =
    cases (leb d n)
    (λ u. rw u (lt-ltb d (n + 1) (omega (arith, leb-true d n u))))
    (λ u. rw u (le-ltb d (n + 1) (omega (arith, leb-false d n u))))
reached d (negsuc n) = le-ltb d 0 (omega arith)

pub near_within : (a b : Option ℕ) (w : ℤ) → near a b (limit_of w) ≡ is_within a b w
unfolding near is_within
near_within None b w = refl
near_within (Some x) None w = refl
near_within (Some x) (Some y) w = reached (apart x y) w

-- What the rows say is what the records say: who is alike, whether a service counts, what a record confirms. Assumes nothing.
use mathlib.Core.Path.{◌≡◌, refl, sym, ap, ◌∙◌}
use mathlib.Core.Bool.{Bool, true, false, not}
use mathlib.Core.List.{List, [], ◌∷◌}
use Prim.Native.Nat.{ℕ, zero, suc, ◌≤◌, ◌<◌}
use native.Mathlib.Omega.{arith}
use lib.Dec.{eqb}
use lib.ListN.{length, get_or, length-append, get_or-append}
use lib.Seq.{get_or_at}
use borrow.Author.Tests.{eqb-true, eqb-false, ne_eqb}
use Rattle.text.specs.Pick.{pick, both}
use Rattle.text.proofs.BoolLaws.{cases}
use Rattle.chain.specs.Chain.{any, col}
use Rattle.chain.proofs.Chains.{over_same}
use Rattle.contacts.specs.Contacts.{Contact, id_of, services_of}
use Rattle.contacts.specs.Lists.{contact_at, contacts_from, contacts_of, count_of}
use Rattle.index.specs.Rows.{low, high}
use Rattle.search.specs.Search.{place_from, place_of}
use Rattle.search.proofs.ReadyLaws.{contact_there}
use Rattle.dedupe.specs.Keys.{unmatched}
use Rattle.dedupe.specs.Views.{keys_unmatched}
use Rattle.plan.specs.Entry.{Entry, no_entry}
use Rattle.plan.specs.Fates.{fates_in}
use Rattle.plan.specs.Confirmed.{has_bit, bears, given, same_unmatched, alike, counts, counted_at, no_contact, contact_numbered}
use Rattle.entries.specs.Row.{Row}
use Rattle.entries.specs.Filled.{Said, Answered}
use Rattle.counted.specs.Counted.{rows_alike, seen}
use Rattle.tallies.specs.Tallies.{target, target_in, target_of}
use Rattle.cards.specs.Carded.{hits_in, kept_of}
use Rattle.cards.specs.Steps.{unseen, confirms, answers_in}
use Rattle.cards.proofs.ServiceLaws.{is_service, answers_served, given_same}
use Rattle.cards.proofs.CountLaws.{alike_fates, first_of}

-- ---- the fates and the contacts found, as lists
fates_length : (rows : List Row) (k : ℕ) → length (fates_in rows k) ≡ k
unfolding fates_in
fates_length rows zero = refl
fates_length rows (suc k) = length-append (fates_in rows k) (col rows k 0 ∷ []) ∙ omega (arith, fates_length rows k)

pub fates_at : (rows : List Row) (k j : ℕ) → j < k → get_or (fates_in rows k) j 0 ≡ col rows j 0
unfolding fates_in
fates_at rows zero j h = absurd (omega arith)
fates_at rows (suc k) j h =
    cases (eqb j k)
    (λ t. let z : j ≡ k = eqb-true j k t in rw z (get_or_at (fates_in rows k) (col rows k 0) [] 0 k (fates_length rows k)))
    (λ t. let l : j < k = omega (arith, eqb-false j k t) in
    get_or-append (fates_in rows k) (col rows k 0 ∷ []) 0 j (omega (arith, fates_length rows k)) ∙ fates_at rows k j l)

hits_length : (rows : List Row) (k : ℕ) → length (hits_in rows k) ≡ k
unfolding hits_in
hits_length rows zero = refl
hits_length rows (suc k) = length-append (hits_in rows k) (col rows k 22 ∷ []) ∙ omega (arith, hits_length rows k)

pub hits_at : (rows : List Row) (k j : ℕ) → j < k → get_or (hits_in rows k) j 0 ≡ col rows j 22
unfolding hits_in
hits_at rows zero j h = absurd (omega arith)
hits_at rows (suc k) j h =
    cases (eqb j k)
    (λ t. let z : j ≡ k = eqb-true j k t in rw z (get_or_at (hits_in rows k) (col rows k 22) [] 0 k (hits_length rows k)))
    (λ t. let l : j < k = omega (arith, eqb-false j k t) in
    get_or-append (hits_in rows k) (col rows k 22 ∷ []) 0 j (omega (arith, hits_length rows k)) ∙ hits_at rows k j l)

-- ---- who is alike
unmatched_as : (c m b c' m' b' : List ℕ) (e f : Entry) → c ≡ e.call → m ≡ e.mode → b ≡ e.band → c' ≡ f.call → m' ≡ f.mode → b' ≡ f.band → unmatched c m b c' m' b' ≡ same_unmatched e f
unfolding unmatched same_unmatched
unmatched_as c m b c' m' b' e f p q r p' q' r' = rw (p, q, r, p', q', r') refl

alike_as : (f g x y f' g' x' y' : ℕ) (u u' : Bool) → f ≡ f' → g ≡ g' → x ≡ x' → y ≡ y' → u ≡ u' → both (eqb f g) (pick (eqb g 5) (eqb x y) u) ≡ both (eqb f' g') (pick (eqb g' 5) (eqb x' y') u')
alike_as f g x y f' g' x' y' u u' p q r s t = rw (p, q, r, s, t) refl

alike_kept : (text : List ℕ) (r s : Row) → rows_alike text r s ≡ rows_alike text (kept_of r) (kept_of s)
unfolding rows_alike
alike_kept text r s = refl

answers_kept : (text table : List ℕ) (r : Row) → answers_in text table r ≡ answers_in text table (kept_of r)
unfolding answers_in
answers_kept text table r = refl

answers_came : (text table : List ℕ) (n : ℕ) (es : List Entry) (was : List Row) → Answered text table n es was → (j : ℕ) → j < n → answers_in text table (get_or was j []) ≡ (get_or es j no_entry).answers
unfolding answers_in Answered
answers_came text table n es was A j l = (A j l).answers

-- the rows as they came, and as they are now, of one and the same records
module _ (text table : List ℕ) (cs : List Contact) (es : List Entry) (n : ℕ) (was rows : List Row) (S : Said text n es was) (A : Answered text table n es was) (K : (j : ℕ) → kept_of (get_or rows j []) ≡ kept_of (get_or was j [])) where
  abbrev Hits : List ℕ
  Hits = hits_in was n

  abbrev Fates : List ℕ
  Fates = fates_in was n

  came_alike : (j k : ℕ) → j < n → k < n → rows_alike text (get_or was j []) (get_or was k []) ≡ alike cs es Hits Fates j k
  unfolding rows_alike alike keys_unmatched
  came_alike j k hj hk =
      alike_as (col was j 0) (col was k 0) (col was j 22) (col was k 22) (get_or Fates j 0) (get_or Fates k 0) (get_or Hits j 0) (get_or Hits k 0) _ _
      (sym (fates_at was n j hj))
      (sym (fates_at was n k hk))
      (sym (hits_at was n j hj))
      (sym (hits_at was n k hk))
      (unmatched_as _ _ _ _ _ _ (get_or es j no_entry) (get_or es k no_entry) (S.says j hj).call (S.says j hj).mode (S.says j hj).band (S.says k hk).call (S.says k hk).mode (S.says k hk).band)

  now_alike : (j k : ℕ) → j < n → k < n → rows_alike text (get_or rows j []) (get_or rows k []) ≡ alike cs es Hits Fates j k
  now_alike j k hj hk =
      alike_kept text (get_or rows j []) (get_or rows k [])
      ∙ ap (λ (x : Row). rows_alike text x (kept_of (get_or rows k []))) (K j)
      ∙ ap (λ (x : Row). rows_alike text (kept_of (get_or was j [])) x) (K k)
      ∙ sym (alike_kept text (get_or was j []) (get_or was k []))
      ∙ came_alike j k hj hk

  pub now_answers : (k : ℕ) → k < n → answers_in text table (get_or rows k []) ≡ (get_or es k no_entry).answers
  now_answers k h =
      answers_kept text table (get_or rows k [])
      ∙ ap (λ (x : Row). answers_in text table x) (K k)
      ∙ sym (answers_kept text table (get_or was k []))
      ∙ answers_came text table n es was A k h

  pub now_fate : (k : ℕ) → k < n → col rows k 0 ≡ get_or Fates k 0
  now_fate k h = ap (λ (r : Row). get_or r 0 0) (K k) ∙ sym (fates_at was n k h)

  pub now_hit : (k : ℕ) → k < n → col rows k 22 ≡ get_or Hits k 0
  now_hit k h = ap (λ (r : Row). get_or r 22 0) (K k) ∙ sym (hits_at was n k h)

  -- ---- a service counts at record k, by the bits of those before it
  absorbed : (a b c : Bool) → (a ≡ true → b ≡ true) → both a (both b c) ≡ both a c
  absorbed true b c h = rw (h refl) refl
  absorbed false b c h = refl

  module _ (k : ℕ) (h : k < n) (f : confirms (get_or Fates k 0) ≡ true) (bits : (j : ℕ) → j < k → (s : ℕ) → is_service s ≡ true → has_bit (col rows j 24) s ≡ both (confirms (get_or Fates j 0)) (both (bears (get_or es j no_entry).answers s) (counts cs es Hits Fates j s))) where
    seen_is : (s : ℕ) → is_service s ≡ true → seen text rows k s ≡ any (λ j. both (alike cs es Hits Fates j k) (bears (get_or es j no_entry).answers s)) k
    unfolding seen
    seen_is s hs =
        over_same _ (λ j. both (alike cs es Hits Fates j k) (both (bears (get_or es j no_entry).answers s) (counts cs es Hits Fates j s))) (λ j x. true) false k
        (λ j l. ap (λ (x : Bool). both x (has_bit (col rows j 24) s)) (now_alike j k (omega arith) h)
        ∙ ap (both (alike cs es Hits Fates j k)) (bits j l s hs)
        ∙ absorbed (alike cs es Hits Fates j k) (confirms (get_or Fates j 0)) _ (λ e. ap confirms (alike_fates cs es Hits Fates j k e) ∙ f))
        ∙ sym (first_of cs es Hits Fates k s k)

    pub unseen_counts : (s : ℕ) → is_service s ≡ true → unseen text rows k s ≡ counts cs es Hits Fates k s
    unfolding unseen counts
    unseen_counts s hs = ap not (seen_is s hs)

    -- the answers that count
    pub given_counted : given (unseen text rows k) (answers_in text table (get_or rows k [])) ≡ counted_at cs es Hits Fates k
    unfolding counted_at
    given_counted =
        given_same (unseen text rows k) (counts cs es Hits Fates k) (answers_in text table (get_or rows k [])) (answers_served text table (get_or rows k [])) unseen_counts
        ∙ ap (given (counts cs es Hits Fates k)) (now_answers k h)

  pub now_place : (k : ℕ) → col rows k 27 ≡ col was k 27
  now_place k = ap (λ (r : Row). get_or r 24 0) (K k)

-- ---- what a record confirms
target_there : (list : List ℕ) (i : ℕ) → suc i ≤ count_of list
    → target_in list (place_from list i 5) ≡ target true (services_of (get_or (contacts_of list) i no_contact)) (low (id_of (get_or (contacts_of list) i no_contact))) (high (id_of (get_or (contacts_of list) i no_contact)))
unfolding target_in contacts_of contact_at
target_there list i l =
    let c : get_or (contacts_from list (count_of list) 5) i no_contact ≡ contact_at list (place_from list i 5) = contact_there list (count_of list) 5 i no_contact l in
    rw c refl

target_numbered : (list : List ℕ) (h : ℕ) → h ≤ count_of list → target_of list 5 h (place_of list h) ≡ target true (services_of (contact_numbered (contacts_of list) h)) (low (id_of (contact_numbered (contacts_of list) h))) (high (id_of (contact_numbered (contacts_of list) h)))
unfolding target_of place_of low high
target_numbered list zero l = refl
target_numbered list (suc i) l =
    ap (λ (b : Bool). pick b (target true 0 0 0) (target_in list (place_from list i 5))) (ne_eqb (suc i) 0 (λ y. omega arith)) ∙ target_there list i l

pub target_five : (list : List ℕ) (f h p : ℕ) → f ≡ 5 → p ≡ place_of list h → h ≤ count_of list
    → target_of list f h p ≡ target true (services_of (contact_numbered (contacts_of list) h)) (low (id_of (contact_numbered (contacts_of list) h))) (high (id_of (contact_numbered (contacts_of list) h)))
target_five list f h p e ep l = rw (e, ep) (target_numbered list h l)

pub target_six : (list : List ℕ) (f h p : ℕ) → f ≡ 6 → target_of list f h p ≡ target false 0 0 0
unfolding target_of
target_six list f h p e = rw e refl

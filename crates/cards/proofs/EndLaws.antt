-- The whole count. Assumes nothing.
use Rattle.std.specs.Prelude.{Some, None}
use mathlib.Core.Path.{◌≡◌, refl, sym, ap, ◌∙◌, subst}
use mathlib.Core.Bool.{Bool, true, false}
use mathlib.Core.List.{List, []}
use Prim.Native.Nat.{ℕ, zero, suc, ◌+◌, ◌-◌, ◌*◌, ◌≤◌, ◌<◌}
use native.Mathlib.Omega.{arith}
use lib.ListN.{length, get_or, length-append}
use borrow.Author.Tests.{le-leb, lt-leb}
use Rattle.text.specs.Pick.{pick}
use Rattle.text.proofs.BoolLaws.{cases}
use Rattle.chain.specs.Chain.{col}
use Rattle.contacts.specs.Contacts.{Contact}
use Rattle.contacts.specs.Lists.{contacts_of}
use Rattle.plan.specs.Entry.{Entry}
use Rattle.plan.specs.Fates.{fates_in}
use Rattle.plan.specs.Confirmed.{new_to, already_to, unmatched_to}
use Rattle.tables.specs.Place.{bytes}
use Rattle.entries.specs.Row.{Row, call_in, mode_in, band_in, file_code}
use Rattle.entries.specs.Filled.{Said, Answered}
use Rattle.counted.specs.Counted.{Marked}
use Rattle.tallies.specs.Tallies.{services_in, Grown}
use Rattle.tallies.specs.declared.Tally.{Tally}
use Rattle.cards.specs.Carded.{hits_in, kept_of, new_in, carded_as, cards_after}
use Rattle.cards.specs.Steps.{Settled, confirms, tally_at, cards_at, rows_at, Ready as ReadyAt}
use Rattle.cards.proofs.RowLaws.{now_fate}
use Rattle.cards.proofs.ChainLaws.{Chained, chained_none, chained_more}
use Rattle.cards.proofs.DoneLaws.{Done, done_none, done_passed, done_confirmed}

picked : {B : Type 0} (b : Bool) (r x y : B) → r ≡ pick b x y → b ≡ true → r ≡ x
picked b r x y e v = e ∙ ap (λ (z : Bool). pick z x y) v

dropped : {B : Type 0} (b : Bool) (r x y : B) → r ≡ pick b x y → b ≡ false → r ≡ y
dropped b r x y e v = e ∙ ap (λ (z : Bool). pick z x y) v

-- ---- what a turn of the loop knows: k records are counted, of whatever entries the rows tell
pub record Counting (text table list : List ℕ) (n k : ℕ) (was rows : List Row) (blank cards : List (List ℕ)) (t : Tally) : Type 0 where
  pub chained : Chained n k was rows
  pub used : t.used ≤ k * 4
  pub already : t.already ≤ k * 4
  pub unmatched : t.unmatched ≤ k * 4
  pub wide : length cards ≡ length blank
  pub done : (es : List Entry) → Said text n es was → Answered text table n es was → Done (contacts_of list) es n k was rows blank cards t

module _ (text table list : List ℕ) (n : ℕ) (was : List Row) (Z : Settled text table list n was) where
  pub counting_none : (blank : List (List ℕ)) (t : Tally) → t.used ≡ 0 → t.already ≡ 0 → t.unmatched ≡ 0 → Counting text table list n 0 was was blank blank t
  counting_none blank t u a m =
      record {
        chained = chained_none n was Z.services Z.heads;
        used = omega arith;
        already = omega arith;
        unmatched = omega arith;
        wide = refl;
        done = λ es S A. done_none (contacts_of list) es n was blank t u a m;
      }

  module _ (k : ℕ) (now : List Row) (blank cards : List (List ℕ)) (t : Tally) (G : Counting text table list n k was now blank cards t) (h : k < n) where
    room : n ≤ length now
    room = omega (arith, Z.said.room, G.chained.kept.lengths)

    abbrev Coded : Row → Type 0
    Coded r = get_or r 4 0 ≡ file_code (bytes text (call_in r)) (bytes text (mode_in r)) (bytes text (band_in r))

    came_coded : (j : ℕ) → j < n → Coded (get_or was j [])
    came_coded j l =
        let s = Z.said.says j l in
        s.code ∙ coded_as (bytes text (call_in (get_or was j []))) (bytes text (mode_in (get_or was j []))) (bytes text (band_in (get_or was j []))) _ _ _ s.call s.mode s.band
      where
        coded_as : (c m b c' m' b' : List ℕ) → c ≡ c' → m ≡ m' → b ≡ b' → file_code c' m' b' ≡ file_code c m b
        coded_as c m b c' m' b' p q r = rw (p, q, r) refl

    now_coded : (j : ℕ) → j < n → Coded (get_or now j [])
    now_coded j l = subst (λ (r : Row). Coded r) (sym (G.chained.kept.kept j)) (came_coded j l)

    marked_now : Marked text n k now
    marked_now = record { room = room; inside = h; links = G.chained.links; coded = now_coded }

    pub ready_at : ReadyAt text table list n k now t
    unfolding Answered
    ready_at =
        let K : kept_of (get_or now k []) ≡ kept_of (get_or was k []) = G.chained.kept.kept k in
        record {
          small = Z.small;
          few = Z.few;
          marked = marked_now;
          inside = omega (arith, (Z.answered k h).inside, ap (λ (r : Row). get_or r 20 0) K, ap (λ (r : Row). get_or r 21 0) K);
          place = omega (arith, Z.within k h, ap (λ (r : Row). get_or r 24 0) K);
          used = G.used;
          already = G.already;
          unmatched = G.unmatched;
        }

    module _ (t' : Tally) (cards' : List (List ℕ)) (now' : List Row) (et : t' ≡ pick (confirms (col now k 0)) (tally_at text table list now k t) t) (ec : cards' ≡ pick (confirms (col now k 0)) (cards_at text table list now k t cards) cards) (er : now' ≡ pick (confirms (col now k 0)) (rows_at now n k (services_in t')) now) where
      pub done_on : (es : List Entry) → Said text n es was → Answered text table n es was → Done (contacts_of list) es n (k + 1) was now' blank cards' t'
      done_on es S A =
          let f : col now k 0 ≡ get_or (fates_in was n) k 0 = now_fate text table (contacts_of list) es n was now S A G.chained.kept.kept k h in
          let D = G.done es S A in
          cases (confirms (get_or (fates_in was n) k 0))
          (λ u. let v : confirms (col now k 0) ≡ true = ap confirms f ∙ u in
          on_as t' cards' now' (picked _ _ _ _ et v) (picked _ _ _ _ ec v) (picked _ _ _ _ er v ∙ ap (λ (x : Tally). rows_at now n k (services_in x)) (picked _ _ _ _ et v))
          (done_confirmed text table list n k was now blank cards t es (Z.hits k h) (Z.places k h) S A G.chained h room D u))
          (λ u. let v : confirms (col now k 0) ≡ false = ap confirms f ∙ u in
          off_as t' cards' now' (dropped _ _ _ _ et v) (dropped _ _ _ _ ec v) (dropped _ _ _ _ er v) (done_passed text table list n k was now blank cards t es (Z.hits k h) (Z.places k h) S A G.chained h room D u))
        where
          on_as : (a : Tally) (b : List (List ℕ)) (c : List Row) → a ≡ tally_at text table list now k t → b ≡ cards_at text table list now k t cards → c ≡ rows_at now n k (services_in (tally_at text table list now k t))
              → Done (contacts_of list) es n (suc k) was (rows_at now n k (services_in (tally_at text table list now k t))) blank (cards_at text table list now k t cards) (tally_at text table list now k t)
              → Done (contacts_of list) es n (k + 1) was c blank b a
          on_as a b c p q r d = let z : k + 1 ≡ suc k = omega arith in rw (p, q, r, z) d

          off_as : (a : Tally) (b : List (List ℕ)) (c : List Row) → a ≡ t → b ≡ cards → c ≡ now → Done (contacts_of list) es n (k + 1) was now blank cards t → Done (contacts_of list) es n (k + 1) was c blank b a
          off_as a b c p q r d = rw (p, q, r) d

      pub counting_more : Grown 4 t t' → length cards' ≡ length cards → Counting text table list n (k + 1) was now' blank cards' t'
      counting_more g l =
          record {
            chained = chained_more n k was now G.chained h room (confirms (col now k 0)) (services_in t') now' er;
            used = omega (arith, g.used, G.used);
            already = omega (arith, g.already, G.already);
            unmatched = omega (arith, g.unmatched, G.unmatched);
            wide = l ∙ G.wide;
            done = done_on;
          }

-- ---- the list of new ones only grows
new_grows : (cs : List Contact) (es : List Entry) (hits fates : List ℕ) (k : ℕ) → length (new_to cs es hits fates k) ≤ length (new_to cs es hits fates (suc k))
unfolding new_to
new_grows cs es hits fates k = rw length-append (omega arith)

new_up : (cs : List Contact) (es : List Entry) (hits fates : List ℕ) (k d : ℕ) → length (new_to cs es hits fates k) ≤ length (new_to cs es hits fates (d + k))
new_up cs es hits fates k zero = let z : 0 + k ≡ k = omega arith in rw z (omega arith)
new_up cs es hits fates k (suc d) =
    let z : suc d + k ≡ suc (d + k) = omega arith in rw z (omega (arith, new_up cs es hits fates k d, new_grows cs es hits fates (d + k)))

new_most : (cs : List Contact) (es : List Entry) (hits fates : List ℕ) (k n : ℕ) → k ≤ n → length (new_to cs es hits fates k) ≤ length (new_to cs es hits fates n)
new_most cs es hits fates k n h = let z : (n - k) + k ≡ n = omega arith in rw z at (new_up cs es hits fates k (n - k))

-- ---- the answers: there was no room, or all are counted
module _ (text table list : List ℕ) (n k : ℕ) (was now : List Row) (blank cards : List (List ℕ)) (t : Tally) (G : Counting text table list n k was now blank cards t) (h : k ≤ n) where
  module _ (l : length cards < t.used) (es : List Entry) (S : Said text n es was) (A : Answered text table n es was) where
    too_many : length blank < length (new_in (contacts_of list) es n was)
    too_many = omega (arith, G.wide, (G.done es S A).used, new_most (contacts_of list) es (hits_in was n) (fates_in was n) k n h)

    pub full_is : None ≡ carded_as (contacts_of list) es n was (length blank)
    unfolding carded_as
    full_is = ap (λ (b : Bool). pick b (Some (record { confirmations = length (new_in (contacts_of list) es n was); already = already_to (contacts_of list) es (hits_in was n) (fates_in was n) n; unmatched = unmatched_to (contacts_of list) es (hits_in was n) (fates_in was n) n })) None) (sym (lt-leb (length (new_in (contacts_of list) es n was)) (length blank) too_many))

    pub full_cards : {B : Type 0} → length (new_in (contacts_of list) es n was) ≤ length blank → B
    full_cards r = absurd (omega (arith, too_many))

  module _ (g : n ≤ k) (es : List Entry) (S : Said text n es was) (A : Answered text table n es was) where
    D : Done (contacts_of list) es n n was now blank cards t
    D = let z : k ≡ n = omega arith in rw z at (G.done es S A)

    pub end_is : t.used ≤ length blank → Some (record { confirmations = t.used; already = t.already; unmatched = t.unmatched }) ≡ carded_as (contacts_of list) es n was (length blank)
    unfolding carded_as
    end_is l =
        ap (λ (x : ℕ). Some (record { confirmations = x; already = t.already; unmatched = t.unmatched })) D.used
        ∙ ap (λ (x : ℕ). Some (record { confirmations = length (new_in (contacts_of list) es n was); already = x; unmatched = t.unmatched })) D.already
        ∙ ap (λ (x : ℕ). Some (record { confirmations = length (new_in (contacts_of list) es n was); already = already_to (contacts_of list) es (hits_in was n) (fates_in was n) n; unmatched = x })) D.unmatched
        ∙ ap (λ (b : Bool). pick b (Some (record { confirmations = length (new_in (contacts_of list) es n was); already = already_to (contacts_of list) es (hits_in was n) (fates_in was n) n; unmatched = unmatched_to (contacts_of list) es (hits_in was n) (fates_in was n) n })) None) (sym (le-leb (length (new_in (contacts_of list) es n was)) (length blank) (omega (arith, D.used))))

    pub end_cards : cards ≡ cards_after (contacts_of list) es n was blank
    unfolding cards_after
    end_cards = D.written

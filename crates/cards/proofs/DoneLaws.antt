-- After each record: the counts and the rows of the confirmations are those of the definition. Assumes nothing.
use mathlib.Core.Path.{◌≡◌, refl, sym, ap, ◌∙◌}
use mathlib.Core.Bool.{Bool, true, false}
use mathlib.Core.List.{List, [], ◌∷◌, ◌++◌, map}
use Prim.Native.Nat.{ℕ, suc, ◌+◌, ◌≤◌, ◌<◌}
use native.Mathlib.Numerals.{add-one}
use native.Mathlib.Omega.{arith}
use lib.Dec.{eqb}
use lib.ListN.{length, get_or, length-append}
use lib.Seq.{sets}
use borrow.Author.Tests.{eqb-true, eqb-false, eq-eqb, ne_eqb}
use Rattle.text.specs.Pick.{both}
use Rattle.text.proofs.BoolLaws.{cases, never}
use Rattle.chain.specs.Chain.{col}
use Rattle.contacts.specs.Contacts.{Contact, id_of, services_of}
use Rattle.contacts.specs.Lists.{contacts_of, count_of}
use Rattle.index.specs.Rows.{low, high}
use Rattle.search.specs.Search.{place_of}
use Rattle.confirmations.specs.declared.Answer.{Answer}
use Rattle.plan.specs.Entry.{Entry, no_entry}
use Rattle.plan.specs.Fates.{fates_in}
use Rattle.plan.specs.Confirmed.{Confirmation, has_bit, bears, given, recorded, contact_numbered, counts, counted_at, new_at, old_at, new_to, already_to, unmatched_to}
use Rattle.entries.specs.Row.{Row}
use Rattle.entries.specs.Filled.{Said, Answered}
use Rattle.counted.proofs.AlikeLaws.{no_bit}
use Rattle.tallies.specs.Tallies.{target, target_of, card_for, unmarked, services_in}
use Rattle.tallies.specs.declared.Tally.{Tally}
use Rattle.tallies.specs.declared.Target.{Target}
use Rattle.plan.specs.Cards.{card_row}
use Rattle.cards.specs.Carded.{hits_in}
use Rattle.cards.specs.Steps.{unseen, confirms, answers_in, target_at, tally_at, cards_at, rows_at}
use Rattle.cards.proofs.FoldLaws.{new_of, old_of, lost_of, used_over, already_over, unmatched_over, cards_over_lem}
use Rattle.cards.proofs.ServiceLaws.{is_service, bears_given, services_over}
use Rattle.cards.proofs.RowLaws.{now_fate, now_hit, now_place, given_counted, target_five, target_six}
use Rattle.cards.proofs.ChainLaws.{Chained, at_there, at_else}

-- ---- the definition, record by record
module _ (cs : List Contact) (es : List Entry) (hits fates : List ℕ) (k : ℕ) where
  new_five : get_or fates k 0 ≡ 5 → new_to cs es hits fates (suc k) ≡ new_to cs es hits fates k ++ recorded (id_of (contact_numbered cs (get_or hits k 0))) (new_at cs es hits fates k)
  unfolding new_to
  new_five e = rw (eq-eqb (get_or fates k 0) 5 e) refl

  new_not : (get_or fates k 0 ≡ 5 → ⊥) → new_to cs es hits fates (suc k) ≡ new_to cs es hits fates k ++ []
  unfolding new_to
  new_not e = rw (ne_eqb (get_or fates k 0) 5 e) refl

  old_five : get_or fates k 0 ≡ 5 → already_to cs es hits fates (suc k) ≡ already_to cs es hits fates k + length (old_at cs es hits fates k)
  unfolding already_to
  old_five e = rw (eq-eqb (get_or fates k 0) 5 e) refl

  old_not : (get_or fates k 0 ≡ 5 → ⊥) → already_to cs es hits fates (suc k) ≡ already_to cs es hits fates k + 0
  unfolding already_to
  old_not e = rw (ne_eqb (get_or fates k 0) 5 e) refl

  lost_six : get_or fates k 0 ≡ 6 → unmatched_to cs es hits fates (suc k) ≡ unmatched_to cs es hits fates k + length (counted_at cs es hits fates k)
  unfolding unmatched_to
  lost_six e = rw (eq-eqb (get_or fates k 0) 6 e) refl

  lost_not : (get_or fates k 0 ≡ 6 → ⊥) → unmatched_to cs es hits fates (suc k) ≡ unmatched_to cs es hits fates k + 0
  unfolding unmatched_to
  lost_not e = rw (ne_eqb (get_or fates k 0) 6 e) refl

-- ---- one record, counted
module _ (text table list : List ℕ) (fates : List Row) (k : ℕ) (t : Tally) where
  abbrev To : Target
  To = target_at text table list fates k

  abbrev Given : List Answer
  Given = given (unseen text fates k) (answers_in text table (get_or fates k []))

  used_at : (tally_at text table list fates k t).used ≡ t.used + length (new_of To Given)
  unfolding tally_at unmarked
  used_at = used_over To (unseen text fates k) (answers_in text table (get_or fates k [])) (unmarked t)

  already_at : (tally_at text table list fates k t).already ≡ t.already + length (old_of To Given)
  unfolding tally_at unmarked
  already_at = already_over To (unseen text fates k) (answers_in text table (get_or fates k [])) (unmarked t)

  unmatched_at : (tally_at text table list fates k t).unmatched ≡ t.unmatched + length (lost_of To Given)
  unfolding tally_at unmarked
  unmatched_at = unmatched_over To (unseen text fates k) (answers_in text table (get_or fates k [])) (unmarked t)

  services_at_lem : (s : ℕ) → is_service s ≡ true → has_bit (services_in (tally_at text table list fates k t)) s ≡ bears Given s
  unfolding tally_at
  services_at_lem s h = services_over To (unseen text fates k) (answers_in text table (get_or fates k [])) t s h

  cards_at_lem : (was cards done : List (List ℕ)) → cards ≡ sets was 0 done → t.used ≡ length done → cards_at text table list fates k t cards ≡ sets was 0 (done ++ map (card_for To) (new_of To Given))
  unfolding cards_at unmarked
  cards_at_lem was cards done e h = cards_over_lem was To (unseen text fates k) (answers_in text table (get_or fates k [])) (unmarked t) cards done e h

-- ---- rows of confirmations
map_more : {A B : Type 0} (f : A → B) (xs ys : List A) → map f (xs ++ ys) ≡ map f xs ++ map f ys
map_more f [] ys = refl
map_more f (x ∷ xs) ys = ap (λ (r : List _). f x ∷ r) (map_more f xs ys)

map_length : {A B : Type 0} (f : A → B) (xs : List A) → length (map f xs) ≡ length xs
map_length f [] = refl
map_length f (x ∷ xs) = ap suc (map_length f xs)

recorded_length : (id : ℕ) (l : List Answer) → length (recorded id l) ≡ length l
recorded_length id [] = refl
recorded_length id (a ∷ l) = ap suc (recorded_length id l)

recorded_rows : (sv id : ℕ) (l : List Answer) → map card_row (recorded id l) ≡ map (card_for (target true sv (low id) (high id))) l
unfolding card_for
recorded_rows sv id [] = refl
recorded_rows sv id (a ∷ l) = ap (λ (r : List (List ℕ)). (low id ∷ high id ∷ a.service ∷ a.date.start ∷ a.date.len ∷ []) ∷ r) (recorded_rows sv id l)

-- ---- the first k of n records are counted
pub record Done (cs : List Contact) (es : List Entry) (n k : ℕ) (was rows : List Row) (blank cards : List (List ℕ)) (t : Tally) : Type 0 where
  pub used : t.used ≡ length (new_to cs es (hits_in was n) (fates_in was n) k)
  pub already : t.already ≡ already_to cs es (hits_in was n) (fates_in was n) k
  pub unmatched : t.unmatched ≡ unmatched_to cs es (hits_in was n) (fates_in was n) k
  pub written : cards ≡ sets blank 0 (map card_row (new_to cs es (hits_in was n) (fates_in was n) k))
  pub services : (j : ℕ) → j < k → (s : ℕ) → is_service s ≡ true
      → has_bit (col rows j 24) s ≡ both (confirms (get_or (fates_in was n) j 0)) (both (bears (get_or es j no_entry).answers s) (counts cs es (hits_in was n) (fates_in was n) j s))

pub done_none : (cs : List Contact) (es : List Entry) (n : ℕ) (was : List Row) (blank : List (List ℕ)) (t : Tally) → t.used ≡ 0 → t.already ≡ 0 → t.unmatched ≡ 0 → Done cs es n 0 was was blank blank t
unfolding new_to already_to unmatched_to
done_none cs es n was blank t u a m = record { used = u; already = a; unmatched = m; written = refl; services = λ j l. absurd (omega arith) }

module _ (text table list : List ℕ) (n k : ℕ) (was rows : List Row) (blank cards : List (List ℕ)) (t : Tally) (es : List Entry) (hit : col was k 22 ≤ count_of list) (place : col was k 27 ≡ place_of list (col was k 22)) (S : Said text n es was) (A : Answered text table n es was) (C : Chained n k was rows) (h : k < n) (room : n ≤ length rows) (D : Done (contacts_of list) es n k was rows blank cards t) where
  abbrev cs : List Contact
  cs = contacts_of list

  abbrev hits : List ℕ
  hits = hits_in was n

  abbrev fates : List ℕ
  fates = fates_in was n

  abbrev Counted : List Answer
  Counted = counted_at cs es hits fates k

  fate_is : col rows k 0 ≡ get_or fates k 0
  fate_is = now_fate text table cs es n was rows S A C.kept.kept k h

  hit_is : col rows k 22 ≡ get_or hits k 0
  hit_is = now_hit text table cs es n was rows S A C.kept.kept k h

  place_is : col rows k 27 ≡ place_of list (get_or hits k 0)
  place_is =
      now_place text table cs es n was rows S A C.kept.kept k ∙ place ∙ ap (place_of list) (sym (ap (λ (r : Row). get_or r 22 0) (C.kept.kept k)) ∙ hit_is)

  hit_small : get_or hits k 0 ≤ count_of list
  hit_small = omega (arith, hit_is, hit, ap (λ (r : Row). get_or r 22 0) (C.kept.kept k))

  old_services : (now : List Row) → ((j : ℕ) → (j ≡ k → ⊥) → col now j 24 ≡ col rows j 24) → ((s : ℕ) → is_service s ≡ true → has_bit (col now k 24) s ≡ both (confirms (get_or fates k 0)) (both (bears (get_or es k no_entry).answers s) (counts cs es hits fates k s)))
      → (j : ℕ) → j < k + 1 → (s : ℕ) → is_service s ≡ true → has_bit (col now j 24) s ≡ both (confirms (get_or fates j 0)) (both (bears (get_or es j no_entry).answers s) (counts cs es hits fates j s))
  old_services now e f j l s hs =
      cases (eqb j k)
      (λ u. let z : j ≡ k = eqb-true j k u in rw z (f s hs))
      (λ u. ap (λ (x : ℕ). has_bit x s) (e j (eqb-false j k u)) ∙ D.services j (omega (arith, eqb-false j k u)) s hs)

  -- a record that confirms nothing
  module _ (f : confirms (get_or fates k 0) ≡ false) where
    not_five : get_or fates k 0 ≡ 5 → ⊥
    not_five e = never (confirms (get_or fates k 0)) (ap confirms e) f

    not_six : get_or fates k 0 ≡ 6 → ⊥
    not_six e = never (confirms (get_or fates k 0)) (ap confirms e) f

    pub done_passed : Done cs es n (k + 1) was rows blank cards t
    done_passed =
        rw add-one
        record {
          used = omega (arith, D.used, ap length (new_not cs es hits fates k not_five), length-append (new_to cs es hits fates k) []);
          already = omega (arith, D.already, old_not cs es hits fates k not_five);
          unmatched = omega (arith, D.unmatched, lost_not cs es hits fates k not_six);
          written = D.written ∙ ap (λ (x : List (List ℕ)). sets blank 0 x) (nothing_more (map card_row (new_to cs es hits fates k)) ∙ sym (map_more card_row (new_to cs es hits fates k) []) ∙ ap (map card_row) (sym (new_not cs es hits fates k not_five)));
          services = rw add-one at (old_services rows (λ j d. refl)
              (λ s hs. ap (λ (x : ℕ). has_bit x s) (C.left k (omega arith) h) ∙ no_bit s ∙ ap (λ (x : Bool). both x (both (bears (get_or es k no_entry).answers s) (counts cs es hits fates k s))) (sym f)));
        }
      where
        nothing_more : {B : Type 0} (l : List B) → l ≡ l ++ []
        nothing_more [] = refl
        nothing_more (x ∷ l) = ap (λ (r : List _). x ∷ r) (nothing_more l)

  module _ (f : confirms (get_or fates k 0) ≡ true) where
    given_is : Given text table list rows k t ≡ Counted
    given_is = given_counted text table cs es n was rows S A C.kept.kept k h f D.services

    now_services : (s : ℕ) → is_service s ≡ true → has_bit (col (rows_at rows n k (services_in (tally_at text table list rows k t))) k 24) s ≡ both (confirms (get_or fates k 0)) (both (bears (get_or es k no_entry).answers s) (counts cs es hits fates k s))
    unfolding counted_at
    now_services s hs =
        ap (λ (x : ℕ). has_bit x s) (at_there n k was rows C h room (services_in (tally_at text table list rows k t)))
        ∙ services_at_lem text table list rows k t s hs
        ∙ ap (λ (x : List Answer). bears x s) given_is
        ∙ bears_given (counts cs es hits fates k) s (get_or es k no_entry).answers
        ∙ ap (λ (x : Bool). both x (both (bears (get_or es k no_entry).answers s) (counts cs es hits fates k s))) (sym f)

    -- whatever it confirms: what is new, known and unmatched by its target
    module _ (to : Target) (et : To text table list rows k t ≡ to) where
      new_is : new_of (To text table list rows k t) (Given text table list rows k t) ≡ new_of to Counted
      new_is = ap (λ (x : Target). new_of x (Given text table list rows k t)) et ∙ ap (new_of to) given_is

      old_is : old_of (To text table list rows k t) (Given text table list rows k t) ≡ old_of to Counted
      old_is = ap (λ (x : Target). old_of x (Given text table list rows k t)) et ∙ ap (old_of to) given_is

      lost_is : lost_of (To text table list rows k t) (Given text table list rows k t) ≡ lost_of to Counted
      lost_is = ap (λ (x : Target). lost_of x (Given text table list rows k t)) et ∙ ap (lost_of to) given_is

      done_by : (news : List Confirmation) → map card_row news ≡ map (card_for to) (new_of to Counted) → new_to cs es hits fates (suc k) ≡ new_to cs es hits fates k ++ news
          → already_to cs es hits fates (suc k) ≡ already_to cs es hits fates k + length (old_of to Counted) → unmatched_to cs es hits fates (suc k) ≡ unmatched_to cs es hits fates k + length (lost_of to Counted)
          → Done cs es n (suc k) was (rows_at rows n k (services_in (tally_at text table list rows k t))) blank (cards_at text table list rows k t cards) (tally_at text table list rows k t)
      done_by news en e1 e2 e3 =
          let same : length news ≡ length (new_of to Counted) = sym (map_length card_row news) ∙ ap length en ∙ map_length (card_for to) (new_of to Counted) in
          record {
            used = used_at text table list rows k t ∙ ap (λ (x : List Answer). t.used + length x) new_is ∙ omega (arith, D.used, same, length-append (new_to cs es hits fates k) news, ap length e1);
            already = already_at text table list rows k t ∙ ap (λ (x : List Answer). t.already + length x) old_is ∙ omega (arith, D.already, e2);
            unmatched = unmatched_at text table list rows k t ∙ ap (λ (x : List Answer). t.unmatched + length x) lost_is ∙ omega (arith, D.unmatched, e3);
            written = cards_at_lem text table list rows k t blank cards (map card_row (new_to cs es hits fates k)) D.written (D.used ∙ sym (map_length card_row (new_to cs es hits fates k)))
                ∙ ap (λ (x : List (List ℕ)). sets blank 0 x)
                (ap (λ (x : Target). map card_row (new_to cs es hits fates k) ++ map (card_for x) (new_of (To text table list rows k t) (Given text table list rows k t))) et
                ∙ ap (λ (x : List Answer). map card_row (new_to cs es hits fates k) ++ map (card_for to) x) new_is
                ∙ ap (λ (x : List (List ℕ)). map card_row (new_to cs es hits fates k) ++ x) (sym en)
                ∙ sym (map_more card_row (new_to cs es hits fates k) news)
                ∙ ap (map card_row) (sym e1));
            services = rw add-one at (old_services (rows_at rows n k (services_in (tally_at text table list rows k t))) (at_else n k was rows C h room (services_in (tally_at text table list rows k t))) now_services);
          }

    abbrev On : Type 0
    On = Done cs es n (suc k) was (rows_at rows n k (services_in (tally_at text table list rows k t))) blank (cards_at text table list rows k t cards) (tally_at text table list rows k t)

    done_five : get_or fates k 0 ≡ 5 → On
    unfolding new_at old_at
    done_five e =
        let c = contact_numbered cs (get_or hits k 0) in
        let to = target true (services_of c) (low (id_of c)) (high (id_of c)) in
        let et : To text table list rows k t ≡ to = ap (λ (h : ℕ). target_of list (col rows k 0) h (col rows k 27)) hit_is ∙ target_five list (col rows k 0) (get_or hits k 0) (col rows k 27) (fate_is ∙ e) place_is hit_small in
        let o : length (lost_of to Counted) ≡ 0 = refl in
        done_by to et (recorded (id_of c) (new_at cs es hits fates k)) (recorded_rows (services_of c) (id_of c) (new_at cs es hits fates k)) (new_five cs es hits fates k e) (old_five cs es hits fates k e)
        (lost_not cs es hits fates k (λ z. omega (arith, e, z)))

    done_six : get_or fates k 0 ≡ 6 → On
    done_six e =
        let to = target false 0 0 0 in
        let et : To text table list rows k t ≡ to = target_six list (col rows k 0) (col rows k 22) (col rows k 27) (fate_is ∙ e) in
        done_by to et [] refl (new_not cs es hits fates k (λ z. omega (arith, e, z))) (old_not cs es hits fates k (λ z. omega (arith, e, z))) (lost_six cs es hits fates k e)

    pub done_confirmed : On
    done_confirmed =
        cases (eqb (get_or fates k 0) 5)
        (λ u. done_five (eqb-true (get_or fates k 0) 5 u))
        (λ u. done_six (eqb-true (get_or fates k 0) 6 (rw u at f)))

-- The phases one after the other: what the rows say stays said, and in the end they have the plan's fates. Assumes nothing.
use Rattle.std.specs.Prelude.{Option, Result, Ok, Err}
use Rattle.reader.specs.declared.Reading.{Reading}
use Rattle.cards.specs.declared.Counted.{Counted}
use mathlib.Core.Path.{◌≡◌, refl, sym, ap, ◌∙◌}
use mathlib.Core.Bool.{Bool}
use mathlib.Core.List.{List, []}
use Prim.Native.Nat.{ℕ, zero, suc, ◌/◌, ◌≤◌, ◌<◌}
use native.Mathlib.Omega.{arith}
use lib.IntN.{ℤ}
use lib.ListN.{length, get_or, take, length-map}
use lib.Seq.{take-suc, take_all}
use Rattle.chain.specs.Chain.{col}
use Rattle.refusals.specs.declared.Refusal.{Refusal}
use Rattle.adif.specs.Records.{records, refused}
use Rattle.adif.specs.Reading.{RowsRead, read_text}
use Rattle.reader.specs.Table.{answer_of}
use Rattle.contacts.specs.Lists.{contacts_of}
use Rattle.search.specs.Search.{place_of}
use Rattle.plan.specs.Entry.{Entry, no_entry}
use Rattle.plan.specs.Fates.{found, fates_in}
use Rattle.plan.specs.Plan.{Plan, plan_from, planned, hits_of, fates_of}
use Rattle.plan.proofs.FateLaws.{fates_many}
use Rattle.entries.specs.Row.{Row}
use Rattle.entries.specs.Filled.{ReadInto, entries_read, Says, Answers, Said, Answered}
use Rattle.entries.proofs.ReadFit.{FitRead, text_fit}
use Rattle.entries.proofs.WalkLaws.{reading_is}
use Rattle.logged.proofs.FoundLaws.{hit_at}
use Rattle.fates.specs.Fated as fates
use Rattle.fates.specs.Fated.{Found, Fated}
use Rattle.cards.specs.Carded as carded
use Rattle.cards.specs.Steps.{Settled}
use Rattle.cards.specs.Carded.{hits_in, carded_as, cards_after, new_in}
use Rattle.closing.specs.Phases.{Searched, plan_read, counted_by, Recorded}

-- ---- few records
unread_read : {P : Type 0} (why : Refusal) (n used : ℕ) → ◌≡◌ {A = Result Reading Refusal} (Err why) (Ok (record { records = n; rows = used })) → P
unread_read why n used e = absurd (let z : ◌≡◌ {A = ℕ} 0 1 = cc in omega arith)

few_read : (r : RowsRead) (n used : ℕ) → FitRead r → answer_of r ≡ Ok (record { records = n; rows = used }) → n ≤ 65535
few_read (records rs) n used f e = let l : length rs ≡ n = (reading_is _ _ _ _ e).0 in omega (arith, f.1, l)
few_read (refused w) n used f e = unread_read w n used e

pub few_records : (text table : List ℕ) (n : ℕ) → ReadInto text table n → n ≤ 65535
few_records text table n R = few_read (read_text text (length table / 5)) n R.used (text_fit text (length table / 5)) R.answer

-- ---- a column of the rows as a list
module _ (rows : List Row) (n : ℕ) (xs : List ℕ) (l : n ≡ length xs) where
  fates_take : ((k : ℕ) → k < n → col rows k 0 ≡ get_or xs k 0) → (k : ℕ) → k ≤ n → fates_in rows k ≡ take k xs
  unfolding fates_in
  fates_take e zero h = refl
  fates_take e (suc k) h = rw (fates_take e k (omega arith), e k (omega arith)) (sym (take-suc xs k 0 (omega (arith, l))))

  pub fates_are : ((k : ℕ) → k < n → col rows k 0 ≡ get_or xs k 0) → fates_in rows n ≡ xs
  fates_are e = fates_take e n (omega arith) ∙ take_all n xs (omega (arith, l))

  hits_take : ((k : ℕ) → k < n → col rows k 22 ≡ get_or xs k 0) → (k : ℕ) → k ≤ n → hits_in rows k ≡ take k xs
  unfolding hits_in
  hits_take e zero h = refl
  hits_take e (suc k) h = rw (hits_take e k (omega arith), e k (omega arith)) (sym (take-suc xs k 0 (omega (arith, l))))

  pub hits_are : ((k : ℕ) → k < n → col rows k 22 ≡ get_or xs k 0) → hits_in rows n ≡ xs
  hits_are e = hits_take e n (omega arith) ∙ take_all n xs (omega (arith, l))

-- ---- what stays said where the fates are settled
module _ (r s : Row) (e : fates.kept_of s ≡ fates.kept_of r) where
  same : (k : ℕ) → get_or (fates.kept_of s) k 0 ≡ get_or (fates.kept_of r) k 0
  same k = ap (λ (x : List ℕ). get_or x k 0) e

  still_says : (text : List ℕ) (f : Entry) → Says text r f → Says text s f
  still_says text f S = record {
    call = rw (same 2, same 3, same 4) S.call;
    mode = rw (same 5, same 6, same 7) S.mode;
    band = rw (same 8, same 9, same 10) S.band;
    moment = rw (same 14, same 15, same 16) S.moment;
    reason = same 0 ∙ S.reason;
    code = same 1 ∙ S.code;
    bears = same 20 ∙ S.bears;
  }

  still_answers : (text table : List ℕ) (f : Entry) → Answers text table r f → Answers text table s f
  still_answers text table f A = record {
    inside = rw (same 17, same 18) A.inside;
    answers = rw (same 11, same 12, same 13, same 17, same 18) A.answers;
  }

module _ (text list table : List ℕ) (window : ℤ) (download : Bool) (n : ℕ) (rows : List Row) (Q : Searched text list table window n rows) where
  abbrev es : List Entry
  es = entries_read text table

  abbrev hits : List ℕ
  hits = hits_of window (contacts_of list) es

  abbrev plan : Plan
  plan = plan_read text list window download table

  pub few_enough : n < 4294967296
  few_enough = omega (arith, few_records text table n Q.read)

  module _ (settled : List Row)
      (G : (es : List Entry) (hits : List ℕ) → Said text n es rows → Found n hits rows → Fated window download es hits n settled)
      (K : fates.Kept n rows settled) where
    F : (k : ℕ) → k < n → col settled k 0 ≡ get_or (fates_of window download (contacts_of list) es) k 0
    unfolding Fated
    F = G es hits Q.said Q.hits

    still_said : Said text n es settled
    still_said = record {
      counted = Q.said.counted;
      room = rw K.lengths Q.said.room;
      says = λ j h. still_says (get_or rows j []) (get_or settled j []) (K.kept j) text (get_or es j no_entry) (Q.said.says j h);
    }

    still_answered : Answered text table n es settled
    unfolding Answered
    still_answered = λ j h. still_answers (get_or rows j []) (get_or settled j []) (K.kept j) text table (get_or es j no_entry) (Q.answered j h)

    number : (j : ℕ) → col settled j 22 ≡ col rows j 22
    number j = ap (λ (x : List ℕ). get_or x 19 0) (K.kept j)

    place : (j : ℕ) → col settled j 27 ≡ col rows j 27
    place j = ap (λ (x : List ℕ). get_or x 24 0) (K.kept j)

    pub now_settled : Settled text table list n settled
    now_settled = record {
      small = Q.read.small;
      few = few_enough;
      hits = λ j h. omega (arith, number j, Q.numbers j h);
      places = λ j h. place j ∙ Q.places j h ∙ ap (place_of list) (sym (number j));
      within = λ j h. omega (arith, place j, Q.within j h);
      services = λ j h. ap (λ (x : List ℕ). get_or x 21 0) (K.kept j) ∙ Q.bare.services j h;
      heads = λ j h. ap (λ (x : List ℕ). get_or x 22 0) (K.kept j) ∙ Q.bare.card_heads j h;
      entries = es;
      said = still_said;
      answered = still_answered;
    }

    settled_fates : fates_in settled n ≡ fates_of window download (contacts_of list) es
    settled_fates =
        fates_are settled n (fates_of window download (contacts_of list) es) (Q.said.counted ∙ sym (fates_many window download es hits (length es))) F

    settled_hits : hits_in settled n ≡ hits
    unfolding Found
    settled_hits = hits_are settled n hits (Q.said.counted ∙ sym (length-map es (found window (contacts_of list)))) (λ k h. number k ∙ Q.hits k h)

    new_are : new_in (contacts_of list) es n settled ≡ plan.confirmations
    unfolding planned plan_from
    new_are = rw (settled_hits, settled_fates, Q.said.counted) refl

    module _ (last : List Row) (cards cards' : List (List ℕ)) (r : Option Counted)
        (C : (es : List Entry) → Said text n es settled → Answered text table n es settled → r ≡ carded_as (contacts_of list) es n settled (length cards))
        (D : (es : List Entry) → Said text n es settled → Answered text table n es settled → length (new_in (contacts_of list) es n settled) ≤ length cards → cards' ≡ cards_after (contacts_of list) es n settled cards)
        (L : carded.Kept n settled last) (m : length cards' ≡ length cards) where
      answer_is : r ≡ counted_by plan (length cards)
      unfolding carded_as planned plan_from
      answer_is = C es still_said still_answered ∙ rw (settled_hits, settled_fates, Q.said.counted) refl

      reason_at : (k : ℕ) → k < n → col last k 1 ≡ get_or plan.reasons k 0
      unfolding planned plan_from
      reason_at k h =
          ap (λ (x : List ℕ). get_or x 1 0) (L.kept k) ∙ (still_said.says k h).reason ∙ sym (hit_at (λ e. e.reason) es k (omega (arith, Q.said.counted)))

      fate_at_lem : (k : ℕ) → k < n → col last k 0 ≡ get_or plan.fates k 0
      unfolding planned plan_from
      fate_at_lem k h = ap (λ (x : List ℕ). get_or x 0 0) (L.kept k) ∙ F k h

      every_fate : length plan.fates ≡ n
      unfolding planned plan_from
      every_fate = fates_many window download es hits (length es) ∙ sym Q.said.counted

      every_reason : length plan.reasons ≡ n
      unfolding planned plan_from
      every_reason = length-map es (λ e. e.reason) ∙ sym Q.said.counted

      pub recorded_all : Recorded plan n rows cards r last cards'
      unfolding cards_after
      recorded_all = record {
        answer = answer_is;
        every_fate = every_fate;
        every_reason = every_reason;
        fates = fate_at_lem;
        reasons = reason_at;
        behind = L.behind ∙ K.behind;
        as_many = L.lengths ∙ K.lengths;
        as_many_cards = m;
        recorded = λ h. rw (← new_are) (D es still_said still_answered (rw new_are h));
      }

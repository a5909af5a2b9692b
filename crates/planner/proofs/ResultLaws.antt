-- From what each phase leaves to the definition. Assumes nothing.
use Rattle.std.specs.Prelude.{Result, Ok, Err}
use Rattle.reader.specs.declared.Reading.{Reading}
use Rattle.contacts.specs.declared.Mark.{Mark}
use Rattle.planner.specs.declared.Planned.{Planned}
use mathlib.Core.Path.{◌≡◌, refl, sym, ap, ◌∙◌}
use mathlib.Core.Bool.{Bool, true, false}
use mathlib.Core.List.{List, ◌++◌}
use Prim.Native.Nat.{ℕ, ◌-◌, ◌/◌, ◌≤◌, ◌<◌}
use native.Mathlib.Nat.{sub-zero}
use native.Mathlib.Omega.{arith}
use lib.IntN.{ℤ}
use lib.Dec.{leb}
use lib.ListN.{length, drop, replicate, length-replicate}
use lib.Seq.{sets, length-sets}
use Rattle.text.specs.Pick.{pick}
use Rattle.times.specs.Window.{limit_of}
use Rattle.refusals.specs.declared.Refusal.{Refusal}
use Rattle.refusals.specs.declared.Refusal.TheVariants.{ShortTable}
use Rattle.chain.specs.Chain.{col}
use Rattle.chain.proofs.Fronts.{clear_all}
use Rattle.adif.specs.Records.{records, refused, total}
use Rattle.adif.specs.Reading.{RowsRead, read_text}
use Rattle.reader.specs.Table.{zeros}
use Rattle.contacts.specs.Lists.{count_of, listed_as}
use Rattle.contacts.proofs.ListLaws.{accepted}
use Rattle.index.specs.Rows as Index
use Rattle.indexing.specs.Index.{indexed_as, index_after, count_in}
use Rattle.indexing.proofs.BuildLaws.{indexed_listed}
use Rattle.search.specs.Search.{Indexed}
use Rattle.entries.specs.Row.{Row, no_row}
use Rattle.entries.specs.Filled.{ReadInto, entries_read}
use Rattle.entries.specs.Walked.{entry_rows}
use Rattle.entries.proofs.FilledLaws.{filled_behind, filled_said, filled_answered, filled_bare}
use Rattle.plan.specs.Cards.{no_card}
use Rattle.logged.specs.Logged.{logged_rows, Searchable}
use Rattle.logged.proofs.FoundLaws.{place_few}
use Rattle.logged.proofs.LoggedLaws.{logged_length, logged_behind, logged_said, logged_answered, logged_bare, logged_places, logged_hits, logged_within}
use Rattle.fates.specs.Fated.{Found}
use Rattle.opening.specs.Opened.{read_by, opened_as, opened_table, opened_fates, Opened, records_in}
use Rattle.opening.proofs.OpenLaws.{Known, opened_known, known_into}
use Rattle.closing.specs.Phases.{Searched, plan_read}
use Rattle.planner.specs.Planning.{Asked, asked, read_of, plan_for, made, planned_read, planned_by, planned_as, table_by, index_by, fates_by, cards_by, PlannedTo}
use Rattle.planner.specs.Finished.{largest_in, gone_of, Ready, finished_as, finished_table, finished_fates, finished_cards, Finished}

-- ---- the answer is that of the reading and of what comes of it
read_is : (a : Asked) (n top : ℕ) (r : RowsRead) → read_of a ≡ r → planned_read a n top r ≡ finished_as (plan_for a (read_of a)) (Ok (record { contacts = n; largest = top })) a.confirmations (read_by a.records r)
unfolding planned_read finished_as read_by count_in largest_in
read_is a n top (refused why) e = refl
read_is a n top (records rs) e = rw e (by (leb (length rs) a.records))
  where
    by : (u : Bool) → pick u (pick (leb (length (plan_for a (records rs)).confirmations) a.confirmations) (made (plan_for a (records rs)) (length rs) (total rs) n top) (Err ShortTable)) (Err ShortTable)
        ≡ finished_as (plan_for a (records rs)) (Ok (record { contacts = n; largest = top })) a.confirmations (pick u (Ok (record { records = length rs; rows = total rs })) (Err ShortTable))
    by true = refl
    by false = refl

listed_is : (a : Asked) (l : Result Mark Refusal) → planned_by a l ≡ finished_as (plan_for a (read_of a)) l a.confirmations (opened_as a.text l a.numbers a.records)
unfolding planned_by opened_as finished_as
listed_is a (Err why) = refl
listed_is a (Ok m) = read_is a m.contacts m.largest (read_of a) refl

planned_is : (a : Asked) → planned_as a ≡ finished_as (plan_for a (read_of a)) (indexed_as a.list a.contacts) a.confirmations (opened_as a.text (indexed_as a.list a.contacts) a.numbers a.records)
unfolding planned_as
planned_is a = listed_is a (indexed_as a.list a.contacts)

unmade : {P : Type 0} (why : Refusal) (n used c already unmatched contacts top : ℕ) → ◌≡◌ {A = Result Planned Refusal} (Ok (record { records = n; rows = used; confirmations = c; already = already; unmatched = unmatched; contacts = contacts; largest = top })) (Err why) → P
unmade why n used c already unmatched contacts top e = absurd (let z : ◌≡◌ {A = ℕ} 0 1 = cc in omega arith)

opened_length : (text : List ℕ) (numbers lent : ℕ) (r : Result Reading Refusal) → length (opened_fates text numbers lent r) ≡ lent
unfolding opened_fates
opened_length text numbers lent (Ok r) = length-sets (replicate lent no_row) 0 (entry_rows text (read_text text (numbers / 5))) ∙ length-replicate lent no_row
opened_length text numbers lent (Err why) = length-replicate lent no_row

-- ---- after the index is built and the text is read
module _ (text list : List ℕ) (window : ℤ) (download : Bool) (table₀ : List ℕ) (index₀ fates₀ cards₀ : List (List ℕ))
    (listed : Result Mark Refusal) (el : listed ≡ indexed_as list (length index₀)) (index₁ : List (List ℕ)) (ei : index₁ ≡ index_after list (length index₀)) (li : length index₁ ≡ length index₀)
    (reading : Result Reading Refusal) (table₁ : List ℕ) (fates₁ cards₁ : List (List ℕ)) (O : Opened text listed (length table₀) (length fates₀) (length cards₀) reading table₁ fates₁ cards₁) (lt : length table₁ ≡ length table₀) where
  abbrev a : Asked
  a = asked text list window download table₀ index₀ fates₀ cards₀

  fates_lent : length fates₁ ≡ length fates₀
  fates_lent = ap length O.fated ∙ opened_length text (length table₀) (length fates₀) reading

  cards_lent : length cards₁ ≡ length cards₀
  cards_lent = ap length O.carded ∙ length-replicate (length cards₀) no_card

  known : (n used : ℕ) → reading ≡ Ok (record { records = n; rows = used }) → Known text listed (length table₀) (length fates₀) n used table₁ fates₁
  known n used e = opened_known text listed (length table₀) (length fates₀) (length cards₀) reading table₁ fates₁ cards₁ n used O e

  -- what is asked for looking up
  look_room : (r : Result Reading Refusal) → reading ≡ r → records_in r ≤ length fates₁
  unfolding records_in
  look_room (Err why) e = omega arith
  look_room (Ok r) e = omega (arith, (known r.records r.rows e).room, fates_lent)

  look_for : (r : Result Reading Refusal) → reading ≡ r → 0 < records_in r → Indexed list (count_in listed) index₁
  unfolding records_in Indexed count_in
  look_for (Err why) e h = absurd (omega arith)
  look_for (Ok r) e h =
      let K = known r.records r.rows e in
      let m : indexed_as list (length index₁) ≡ Ok (record { contacts = K.contacts; largest = K.largest }) = rw li (sym el ∙ K.marked) in
      rw K.marked (K.largest, m, rw li ei)

  pub asked_room : (n : ℕ) → n ≡ records_in reading → n ≤ length fates₁
  asked_room n e = rw e (look_room reading refl)

  pub asked_searchable : (contacts n : ℕ) → contacts ≡ count_in listed → n ≡ records_in reading → Searchable list contacts index₁ n
  unfolding Searchable
  asked_searchable contacts n ec en h = rw ec (look_for reading refl (rw en at h))

  -- looked up
  module _ (limit : ℕ) (eli : limit ≡ limit_of window) (k : ℕ) (ek : k ≡ records_in reading) (fates₂ : List (List ℕ)) (eg : fates₂ ≡ sets fates₁ 0 (logged_rows text list limit fates₁ k)) where
    looked : (n used : ℕ) → reading ≡ Ok (record { records = n; rows = used }) → fates₂ ≡ sets fates₁ 0 (logged_rows text list limit fates₁ n)
    unfolding records_in
    looked n used e = let z : k ≡ n = ek ∙ ap records_in e in rw z at eg

    searched : (n used : ℕ) → reading ≡ Ok (record { records = n; rows = used }) → Searched text list table₁ window n fates₂
    unfolding Found
    searched n used e =
        let K = known n used e in
        let R : ReadInto text table₁ n = known_into text listed (length fates₀) n used table₁ (length table₀) fates₁ K lt in
        let blank : List Row = replicate (length fates₀) no_row in
        let lb : length blank ≡ length fates₀ = length-replicate (length fates₀) no_row in
        let room : n ≤ length blank = omega (arith, K.room) in
        let ef = rw (← lt) at K.fated in
        let S = filled_said text table₁ n R blank fates₁ room ef in
        let A = filled_answered text table₁ n R blank fates₁ room ef in
        let B = filled_bare text table₁ n R blank fates₁ room ef in
        let D = filled_behind text table₁ n R blank fates₁ room ef in
        let l : n ≤ length fates₁ = omega (arith, K.room, fates_lent) in
        let g = looked n used e in
        let w = logged_within text list limit n fates₁ fates₂ l g window eli (entries_read text table₁) S in
        let q : listed_as list ≡ Ok (record { contacts = K.contacts; largest = K.largest }) = indexed_listed list (length index₀) K.contacts K.largest (sym el ∙ K.marked) in
        let c : K.contacts ≡ count_of list = (accepted list K.contacts K.largest q).count in
        record {
          read = R;
          said = logged_said text list limit n fates₁ fates₂ l g (entries_read text table₁) S;
          answered = logged_answered text list limit n fates₁ fates₂ l g table₁ (entries_read text table₁) A;
          bare = logged_bare text list limit n fates₁ fates₂ l g B;
          hits = logged_hits text list limit n fates₁ fates₂ l g window eli (entries_read text table₁) S;
          numbers = w;
          places = logged_places text list limit n fates₁ fates₂ l g;
          within = λ j h. rw (logged_places text list limit n fates₁ fates₂ l g j h) (place_few list K.contacts K.largest q (col fates₂ j 22) (omega (arith, w j h, c)));
          behind = logged_behind text list limit n fates₁ fates₂ l g ∙ D ∙ ap (λ (m : ℕ). drop n (replicate m no_row)) (sym (logged_length text list limit n fates₁ fates₂ l g ∙ fates_lent));
        }

    ready_by : (r : Result Reading Refusal) → reading ≡ r → Ready text list window r table₁ fates₂ cards₁
    unfolding Ready
    ready_by (Err why) e = tt
    ready_by (Ok r) e = (searched r.records r.rows e, O.carded ∙ ap (λ (m : ℕ). replicate m no_card) (sym cards_lent))

    pub ready_now : Ready text list window reading table₁ fates₂ cards₁
    ready_now = ready_by reading refl

    fates_as : length fates₂ ≡ length fates₀
    fates_as = ap length eg ∙ length-sets fates₁ 0 (logged_rows text list limit fates₁ k) ∙ fates_lent

    -- nothing is looked up of a reading that was refused
    unread_fates : (why : Refusal) → reading ≡ Err why → fates₂ ≡ replicate (length fates₀) no_row
    unfolding opened_fates records_in
    unread_fates why e = let z : k ≡ 0 = ek ∙ ap records_in e in (rw z at eg) ∙ O.fated ∙ rw e refl

    -- and finished
    module _ (r : Result Planned Refusal) (table₂ : List ℕ) (fates₃ cards₂ : List (List ℕ)) (F : Finished text list window download listed reading table₁ fates₂ cards₁ r table₂ fates₃ cards₂) where
      same_plan : plan_read text list window download table₁ ≡ plan_for a (read_of a)
      same_plan = rw lt refl

      answer_is : r ≡ planned_as a
      answer_is =
          F.answer
          ∙ rw (same_plan, cards_lent, O.answer, el) refl
          ∙ sym (planned_is a)

      table_by_lem : (x : Result Reading Refusal) (y : Result Planned Refusal) → reading ≡ x → r ≡ y → table₁ ≡ opened_table text (length table₀) x → finished_table table₁ x y ≡ table_by a y
      unfolding opened_table finished_table table_by finished_as
      table_by_lem (Err why) (Err w) ex ey e = e
      table_by_lem (Ok r) (Err w) ex ey e = ap zeros lt
      table_by_lem (Ok r) (Ok p) ex ey e = e
      table_by_lem (Err why) (Ok p) ex ey e = unmade why p.records p.rows p.confirmations p.already p.unmatched p.contacts p.largest (sym ey ∙ F.answer ∙ rw ex refl)

      fates_by_lem : (x : Result Reading Refusal) (y : Result Planned Refusal) → reading ≡ x → r ≡ y → finished_fates (plan_for a (read_of a)) fates₂ x y ≡ fates_by a y
      unfolding finished_fates fates_by finished_as
      fates_by_lem (Err why) (Err w) ex ey = unread_fates why ex
      fates_by_lem (Ok r) (Err w) ex ey = ap (λ (m : ℕ). replicate m no_row) fates_as
      fates_by_lem (Ok r) (Ok p) ex ey = rw fates_as refl
      fates_by_lem (Err why) (Ok p) ex ey = unmade why p.records p.rows p.confirmations p.already p.unmatched p.contacts p.largest (sym ey ∙ F.answer ∙ rw ex refl)

      cards_by_lem : (x : Result Reading Refusal) (y : Result Planned Refusal) → reading ≡ x → r ≡ y → finished_cards (plan_for a (read_of a)) cards₁ x y ≡ cards_by a y
      unfolding finished_cards cards_by finished_as
      cards_by_lem (Err why) (Err w) ex ey = O.carded
      cards_by_lem (Ok r) (Err w) ex ey = ap (λ (m : ℕ). replicate m no_card) cards_lent
      cards_by_lem (Ok r) (Ok p) ex ey = rw cards_lent refl
      cards_by_lem (Err why) (Ok p) ex ey = unmade why p.records p.rows p.confirmations p.already p.unmatched p.contacts p.largest (sym ey ∙ F.answer ∙ rw ex refl)

      -- the index is kept, or cleared
      index_by_lem : (y : Result Planned Refusal) (m : ℕ) (index₂ : List (List ℕ)) → m ≡ gone_of y (length index₁) → index₂ ≡ sets index₁ 0 (replicate m Index.no_row) → index₂ ≡ index_by a y
      unfolding gone_of index_by
      index_by_lem (Ok p) m index₂ em e = (rw em at e) ∙ ei
      index_by_lem (Err w) m index₂ em e = clear_all Index.no_row m index₁ index₂ em e ∙ ap (λ (n : ℕ). replicate n Index.no_row) li

      pub planned_to : (m : ℕ) (index₂ : List (List ℕ)) → m ≡ gone_of r (length index₁) → index₂ ≡ sets index₁ 0 (replicate m Index.no_row) → PlannedTo a r table₂ index₂ fates₃ cards₂
      planned_to m index₂ em e = record {
        answer = answer_is;
        tabled = F.tabled ∙ table_by_lem reading r refl refl O.tabled ∙ ap (table_by a) answer_is;
        indexed = index_by_lem r m index₂ em e ∙ ap (index_by a) answer_is;
        fated = F.fated ∙ rw same_plan (fates_by_lem reading r refl refl) ∙ ap (fates_by a) answer_is;
        carded = F.carded ∙ rw same_plan (cards_by_lem reading r refl refl) ∙ ap (cards_by a) answer_is;
      }

pub gone_within : (p : Result Planned Refusal) (m n : ℕ) → n ≡ gone_of p m → n ≤ m
unfolding gone_of
gone_within p m n e = rw e (by p)
  where
    by : (q : Result Planned Refusal) → gone_of q m ≤ m
    by (Ok p) = omega arith
    by (Err w) = omega arith

-- the records that are cleared, as those of no contact
pub cleared_is : (s : List ℕ) (m : ℕ) (rows rows' : List (List ℕ)) → rows' ≡ sets rows 0 (Index.rows_from s 0 5 ++ replicate (m - 0) Index.no_row) → rows' ≡ sets rows 0 (replicate m Index.no_row)
unfolding Index.rows_from
cleared_is s m rows rows' e = rw (sub-zero m) at e

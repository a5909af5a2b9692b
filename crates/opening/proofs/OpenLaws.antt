-- From what each step leaves to the definition, and what a caller knows of rows that were opened. Assumes nothing.
use Rattle.std.specs.Prelude.{Result, Ok, Err}
use Rattle.reader.specs.declared.Reading.{Reading}
use Rattle.contacts.specs.declared.Mark.{Mark}
use mathlib.Core.Path.{◌≡◌, refl, sym, ap, ◌∙◌}
use mathlib.Core.List.{List, ◌++◌}
use Prim.Native.Nat.{ℕ, ◌-◌, ◌/◌, ◌≤◌, ◌<◌}
use native.Mathlib.Nat.{sub-zero}
use native.Mathlib.Omega.{arith}
use lib.Dec.{leb, ltb}
use lib.ListN.{length, take, replicate, length-replicate}
use lib.Seq.{sets}
use borrow.Author.Tests.{le-leb, lt-leb, leb-true, ltb-false}
use Rattle.text.proofs.BoolLaws.{cases}
use Rattle.refusals.specs.declared.Refusal.{Refusal}
use Rattle.refusals.specs.Refusals.{of_text}
use Rattle.refusals.specs.declared.Refusal.TheVariants.{TooLong, ShortTable}
use Rattle.adif.specs.Records.{records, refused, total}
use Rattle.adif.specs.Reading.{Row as Field, RowsRead, read_text}
use Rattle.reader.specs.Table.{answer_of, table_of, answer_to, table_after, zeros}
use Rattle.entries.specs.Row.{Row, no_row}
use Rattle.entries.specs.Filled.{ReadInto}
use Rattle.entries.specs.Walked.{entry_rows}
use Rattle.entries.proofs.WalkLaws.{reading_is}
use Rattle.plan.specs.Cards.{no_card}
use Rattle.opening.specs.Opened.{read_by, opened_as, opened_table, opened_fates, OpenedRead, Opened, records_in}

pub unread_read : {P : Type 0} (why : Refusal) (n used : ℕ) → ◌≡◌ {A = Result Reading Refusal} (Err why) (Ok (record { records = n; rows = used })) → P
unread_read why n used e = absurd (let z : ◌≡◌ {A = ℕ} 0 1 = cc in omega arith)

-- ---- a text that was read has records
pub record Records (r : RowsRead) (n used : ℕ) : Type 0 where
  pub found : List (List Field)
  pub is : r ≡ records found
  pub many : length found ≡ n
  pub rows : total found ≡ used

pub read_some : (r : RowsRead) (n used : ℕ) → answer_of r ≡ Ok (record { records = n; rows = used }) → Records r n used
read_some (records rs) n used e = record { found = rs; is = refl; many = (reading_is _ _ _ _ e).0; rows = (reading_is _ _ _ _ e).1 }
read_some (refused w) n used e = unread_read w n used e

small_read : (s : List ℕ) (room n used : ℕ) → answer_of (read_text s room) ≡ Ok (record { records = n; rows = used }) → length s ≤ 16777216
unfolding read_text of_text
small_read s room n used e =
    cases (ltb 16777216 (length s))
    (λ u. unread_read TooLong n used (rw u at e))
    (λ u. ltb-false 16777216 (length s) u)

-- ---- the steps
by_unread : (lent : ℕ) (why : Refusal) (r : RowsRead) → answer_of r ≡ Err why → Err why ≡ read_by lent r
unfolding read_by
by_unread lent why (records rs) e = unread_read why (length rs) (total rs) (sym e)
by_unread lent why (refused w) e = let z : w ≡ why = cc in ap (λ (x : Refusal). Err x) (sym z)

unread_table : (r : RowsRead) (n : ℕ) (why : Refusal) → answer_of r ≡ Err why → table_of r n ≡ zeros n
unread_table (records rs) n why e = unread_read why (length rs) (total rs) (sym e)
unread_table (refused w) n why e = refl

by_short : (lent n used : ℕ) (r : RowsRead) → answer_of r ≡ Ok (record { records = n; rows = used }) → lent < n → Err ShortTable ≡ read_by lent r
unfolding read_by
by_short lent n used (refused w) e h = unread_read w n used e
by_short lent n used (records rs) e h = let z : length rs ≡ n = (reading_is _ _ _ _ e).0 in rw (z, lt-leb n lent h) refl

by_whole : (lent n used : ℕ) (r : RowsRead) → answer_of r ≡ Ok (record { records = n; rows = used }) → n ≤ lent → Ok (record { records = n; rows = used }) ≡ read_by lent r
unfolding read_by
by_whole lent n used (refused w) e h = unread_read w n used e
by_whole lent n used (records rs) e h =
    let z : length rs ≡ n = (reading_is _ _ _ _ e).0 in
    let y : total rs ≡ used = (reading_is _ _ _ _ e).1 in rw (z, y, le-leb n lent h) refl

cleared : (was now : List ℕ) → now ≡ take 0 was ++ replicate (length was - 0) 0 → now ≡ zeros (length was)
cleared was now e = e ∙ ap (λ (k : ℕ). replicate k 0) (sub-zero (length was))

module _ (text was : List ℕ) (fates : List Row) (z : fates ≡ replicate (length fates) no_row) (r : Result Reading Refusal) (ea : r ≡ answer_to text was) (table : List ℕ) (et : table ≡ table_after text was) where
  pub read_refused : (why : Refusal) → r ≡ Err why → OpenedRead text (length was) (length fates) (Err why) table fates
  unfolding answer_to table_after opened_table opened_fates
  read_refused why e =
      let u : answer_of (read_text text (length was / 5)) ≡ Err why = sym ea ∙ e in
      record {
        answer = by_unread (length fates) why (read_text text (length was / 5)) u;
        tabled = et ∙ unread_table (read_text text (length was / 5)) (length was) why u;
        fated = z;
      }

  module _ (x : Reading) (e : r ≡ Ok x) where
    pub read_short : length fates < x.records → (table' : List ℕ) → table' ≡ take 0 table ++ replicate (length table - 0) 0 → length table ≡ length was → OpenedRead text (length was) (length fates) (Err ShortTable) table' fates
    unfolding answer_to opened_table opened_fates
    read_short h table' ec l = record {
      answer = by_short (length fates) x.records x.rows (read_text text (length was / 5)) (sym ea ∙ e) h;
      tabled = cleared table table' ec ∙ ap zeros l;
      fated = z;
    }

    pub read_into : length table ≡ length was → ReadInto text table x.records
    unfolding answer_to table_after
    read_into l =
        let a : answer_of (read_text text (length table / 5)) ≡ Ok x = rw l (sym ea ∙ e) in
        record { used = x.rows; small = small_read text (length table / 5) x.records x.rows a; answer = a; shown = rw l et }

    pub read_whole : x.records ≤ length fates → length table ≡ length was → (fates' : List Row) → fates' ≡ sets fates 0 (entry_rows text (read_text text (length table / 5))) → OpenedRead text (length was) (length fates) (Ok x) table fates'
    unfolding answer_to table_after opened_table opened_fates
    read_whole h l fates' ef = record {
      answer = by_whole (length fates) x.records x.rows (read_text text (length was / 5)) (sym ea ∙ e) h;
      tabled = et;
      fated = ef ∙ rw l (ap (λ (l : List Row). sets l 0 (entry_rows text (read_text text (length was / 5)))) z);
    }

pub count_read : (r : Result Reading Refusal) (x : Reading) → r ≡ Ok x → x.records ≡ records_in r
unfolding records_in
count_read r x e = rw e refl

pub count_unread : (r : Result Reading Refusal) (why : Refusal) → r ≡ Err why → 0 ≡ records_in r
unfolding records_in
count_unread r why e = rw e refl

-- ---- into tables that were cleared
still_blank : (x : List ℕ) (was now : List (List ℕ)) → now ≡ replicate (length was) x → now ≡ replicate (length now) x
still_blank x was now e = let l : length now ≡ length was = ap length e ∙ length-replicate (length was) x in rw l e

module _ (text : List ℕ) (listed : Result Mark Refusal) (table₀ : List ℕ) (fates₀ fates : List Row) (cards₀ cards : List (List ℕ)) (ef : fates ≡ replicate (length fates₀) no_row) (ec : cards ≡ replicate (length cards₀) no_card) where
  lent : length fates ≡ length fates₀
  lent = ap length ef ∙ length-replicate (length fates₀) no_row

  pub blank_fates : fates ≡ replicate (length fates) no_row
  blank_fates = still_blank no_row fates₀ fates ef

  pub begun_refused : (why : Refusal) (table : List ℕ) → listed ≡ Err why → table ≡ take 0 table₀ ++ replicate (length table₀ - 0) 0 → Opened text listed (length table₀) (length fates₀) (length cards₀) (Err why) table fates cards
  unfolding opened_as opened_table opened_fates
  begun_refused why table e et = record { answer = rw e refl; tabled = cleared table₀ table et; fated = ef; carded = ec }

  pub begun_read : (m : Mark) (r : Result Reading Refusal) (table : List ℕ) (fates' : List Row) → listed ≡ Ok m → OpenedRead text (length table₀) (length fates) r table fates' → Opened text listed (length table₀) (length fates₀) (length cards₀) r table fates' cards
  unfolding opened_as
  begun_read m r table fates' e K =
      let k : OpenedRead text (length table₀) (length fates₀) r table fates' = rw lent at K in
      record { answer = k.answer ∙ rw e refl; tabled = k.tabled; fated = k.fated; carded = ec }

-- ---- what a caller knows
by_some : (lent n used : ℕ) (r : RowsRead) → read_by lent r ≡ Ok (record { records = n; rows = used }) → (answer_of r ≡ Ok (record { records = n; rows = used })) × (n ≤ lent)
unfolding read_by
by_some lent n used (refused w) e = unread_read w n used e
by_some lent n used (records rs) e =
    cases (leb (length rs) lent)
    (λ u. let z : Ok (record { records = length rs; rows = total rs }) ≡ Ok (record { records = n; rows = used }) = rw u at e in
    let y : length rs ≡ n = (reading_is _ _ _ _ z).0 in (z, omega (arith, leb-true (length rs) lent u)))
    (λ u. unread_read ShortTable n used (rw u at e))

marked_some : (text : List ℕ) (listed : Result Mark Refusal) (numbers lent n used : ℕ) → opened_as text listed numbers lent ≡ Ok (record { records = n; rows = used }) → (contacts : ℕ) × (top : ℕ) × (listed ≡ Ok (record { contacts = contacts; largest = top })) × (read_by lent (read_text text (numbers / 5)) ≡ Ok (record { records = n; rows = used }))
unfolding opened_as
marked_some text (Err why) numbers lent n used e = unread_read why n used e
marked_some text (Ok m) numbers lent n used e = (m.contacts, m.largest, refl, e)

pub record Known (text : List ℕ) (listed : Result Mark Refusal) (numbers lent : ℕ) (n used : ℕ) (table : List ℕ) (fates : List Row) : Type 0 where
  pub contacts : ℕ
  pub largest : ℕ
  pub marked : listed ≡ Ok (record { contacts = contacts; largest = largest })
  pub read : answer_of (read_text text (numbers / 5)) ≡ Ok (record { records = n; rows = used })
  pub room : n ≤ lent
  pub tabled : table ≡ table_of (read_text text (numbers / 5)) numbers
  pub fated : fates ≡ sets (replicate lent no_row) 0 (entry_rows text (read_text text (numbers / 5)))

pub opened_known : (text : List ℕ) (listed : Result Mark Refusal) (numbers lent room : ℕ) (r : Result Reading Refusal) (table : List ℕ) (fates : List Row) (cards : List (List ℕ)) (n used : ℕ) → Opened text listed numbers lent room r table fates cards → r ≡ Ok (record { records = n; rows = used }) → Known text listed numbers lent n used table fates
unfolding opened_table opened_fates
opened_known text listed numbers lent room r table fates cards n used O e =
    let m = marked_some text listed numbers lent n used (sym O.answer ∙ e) in
    let s = by_some lent n used (read_text text (numbers / 5)) m.3 in
    record { contacts = m.0; largest = m.1; marked = m.2; read = s.0; room = s.1; tabled = O.tabled ∙ rw e refl; fated = O.fated ∙ rw e refl }

pub known_into : (text : List ℕ) (listed : Result Mark Refusal) (lent n used : ℕ) (table : List ℕ) (numbers : ℕ) (fates : List Row) → Known text listed numbers lent n used table fates → length table ≡ numbers → ReadInto text table n
known_into text listed lent n used table numbers fates K l =
    let a : answer_of (read_text text (length table / 5)) ≡ Ok (record { records = n; rows = used }) = rw l K.read in
    record { used = used; small = small_read text (length table / 5) n used a; answer = a; shown = rw l K.tabled }

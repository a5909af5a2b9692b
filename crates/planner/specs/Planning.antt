-- What planning answers, and what it leaves in the lent tables. The refusals come in this order: the list's, 19 for the index, the
-- reader's, 19 for the fates, 19 for the confirmations. After a refusal every table is zero throughout; else all past what is used.
use Rattle.refusals.specs.declared.Refusal.{Refusal}
use Rattle.contacts.specs.declared.Mark.{Mark}
use Rattle.planner.specs.declared.Planned.{Planned}
use Rattle.std.specs.Prelude.{ℕ, ◌/◌, ◌≡◌, Bool, List, map, ℤ, leb, length, replicate, Result, Ok, Err}
use Rattle.text.specs.Pick.{pick}
use Rattle.refusals.specs.declared.Refusal.TheVariants.{ShortTable}
use Rattle.adif.specs.Records.{records, refused, total}
use Rattle.adif.specs.Reading.{RowsRead, read_text}
use Rattle.reader.specs.Table.{table_of, zeros}
use Rattle.contacts.specs.Lists.{contacts_of}
use Rattle.index.specs.Rows as Index
use Rattle.indexing.specs.Index.{indexed_as, index_after}
use Rattle.plan.specs.Entry.{entries_of}
use Rattle.plan.specs.Plan.{Plan, planned}
use Rattle.entries.specs.Row.{Row, no_row}
use Rattle.plan.specs.Cards.{card_row, no_card}
use Rattle.closing.specs.Closed.{fate_rows, padded}

-- ---- what is asked: the texts, the window, the kind of plan, and how many rows, records and confirmations were lent
pub record Asked : Type 0 where
  pub text : List ℕ
  pub list : List ℕ
  pub window : ℤ
  pub download : Bool
  pub numbers : ℕ
  pub contacts : ℕ
  pub records : ℕ
  pub confirmations : ℕ

-- the table of rows has a row for every five numbers
abbrev pub read_of : Asked → RowsRead
read_of a = read_text a.text (a.numbers / 5)

abbrev pub plan_for : Asked → RowsRead → Plan
plan_for a r = planned a.window a.download (contacts_of a.list) (entries_of a.text r)

-- ---- the answer
unfoldable pub made : Plan → ℕ → ℕ → ℕ → ℕ → Result Planned Refusal
made p n used contacts top = Ok (record { records = n; rows = used; confirmations = length p.confirmations; already = p.already; unmatched = p.unmatched; contacts = contacts; largest = top })

unfoldable pub planned_read : Asked → ℕ → ℕ → RowsRead → Result Planned Refusal
planned_read a n top (refused why) = Err why
planned_read a n top (records rs) =
    pick (leb (length rs) a.records)
    (pick (leb (length (plan_for a (records rs)).confirmations) a.confirmations)
    (made (plan_for a (records rs)) (length rs) (total rs) n top)
    (Err ShortTable))
    (Err ShortTable)

unfoldable pub planned_by : Asked → Result Mark Refusal → Result Planned Refusal
planned_by a (Err why) = Err why
planned_by a (Ok m) = planned_read a m.contacts m.largest (read_of a)

unfoldable pub planned_as : Asked → Result Planned Refusal
planned_as a = planned_by a (indexed_as a.list a.contacts)

-- ---- the tables after it
unfoldable pub table_by : Asked → Result Planned Refusal → List ℕ
table_by a (Ok p) = table_of (read_of a) a.numbers
table_by a (Err why) = zeros a.numbers

unfoldable pub index_by : Asked → Result Planned Refusal → List (List ℕ)
index_by a (Ok p) = index_after a.list a.contacts
index_by a (Err why) = replicate a.contacts Index.no_row

unfoldable pub fates_by : Asked → Result Planned Refusal → List Row
fates_by a (Ok p) =
    padded (fate_rows (plan_for a (read_of a)).fates (plan_for a (read_of a)).reasons) no_row a.records
fates_by a (Err why) = replicate a.records no_row

unfoldable pub cards_by : Asked → Result Planned Refusal → List (List ℕ)
cards_by a (Ok p) =
    padded (map card_row (plan_for a (read_of a)).confirmations) no_card a.confirmations
cards_by a (Err why) = replicate a.confirmations no_card

-- ---- the five together
pub record PlannedTo (a : Asked) (r : Result Planned Refusal) (table : List ℕ) (index fates cards : List (List ℕ)) : Type 0 where
  pub answer : r ≡ planned_as a
  pub tabled : table ≡ table_by a (planned_as a)
  pub indexed : index ≡ index_by a (planned_as a)
  pub fated : fates ≡ fates_by a (planned_as a)
  pub carded : cards ≡ cards_by a (planned_as a)

-- what is asked where tables of these lengths are lent
abbrev pub asked_of : List ℕ → List ℕ → ℤ → Bool → ℕ → ℕ → ℕ → ℕ → Asked
asked_of text list window download numbers contacts many cards = record {
  text = text;
  list = list;
  window = window;
  download = download;
  numbers = numbers;
  contacts = contacts;
  records = many;
  confirmations = cards;
}

abbrev pub asked : List ℕ → List ℕ → ℤ → Bool → List ℕ → List (List ℕ) → List (List ℕ) → List (List ℕ) → Asked
asked text list window download table index fates cards = asked_of text list window download (length table) (length index) (length fates) (length cards)

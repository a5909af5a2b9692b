-- What the numbers and the table that the code keeps stand for, and what each step makes of them.
use Rattle.reader.specs.declared.Reading.{Reading}
use Rattle.std.specs.Prelude.{◌≡◌, List, [], ℕ, ◌*◌, ◌/◌, ◌≤◌, length, take, Result, Ok, Err}
use Rattle.std.proofs.lemmas.List.Edits.{sets}
use Rattle.text.specs.Run.{Next, go, stop}
use Rattle.refusals.specs.declared.Refusal.{Refusal}
use Rattle.tags.specs.Tags.{tag_at}
use Rattle.adif.specs.Records
use Rattle.adif.specs.Records.{on, no, total, close, finish}
use Rattle.adif.specs.Reading.{Row, RowsRead, State, rows, read_by}
use Rattle.reader.specs.Table.{laid_from, answer_of, Shown}
use Rattle.reader.specs.declared.Turn.{Turn}
use Rattle.reader.specs.declared.Turn.TheVariants.{On, Over}

-- the closed records are counted, and their rows stand at the front of the table, which was otherwise `was`
pub record Stands (was table : List ℕ) (count used : ℕ) (done : List (List Row)) : Type 0 where
  pub counted : count ≡ length done
  pub taken : used ≡ total done
  pub shown : table ≡ sets was 0 (laid_from 1 done)
  pub fits : 5 * used ≤ length table

-- a record is closed
abbrev pub Closing : List ℕ → List ℕ → Result Reading Refusal → Records.Turn Row Refusal → Type 0
Closing was table (Ok r) t = (done : List (List Row)) × (t ≡ on [] done) × Stands was table r.records r.rows done
Closing was table (Err w) t = t ≡ no w

unfoldable pub Closes : List Row → ℕ → ℕ → ℕ → List ℕ → List ℕ → Result Reading Refusal → Type 0
Closes hand count used at before after r =
    (was : List ℕ) (done : List (List Row)) → Stands was before count used done → Closing was after r (close (rows [] at) (length before / 5) hand done)

-- the reading is over
abbrev pub Finished : List ℕ → Result Reading Refusal → RowsRead → Type 0
Finished table r o = (r ≡ answer_of o) × Shown table o

unfoldable pub Finishes : List Row → ℕ → ℕ → ℕ → List ℕ → List ℕ → Result Reading Refusal → Type 0
Finishes hand count used at before after r =
    (was : List ℕ) (done : List (List Row)) → Stands was before count used done → Finished after r (finish (rows [] at) (length before / 5) hand done)

-- a tag is read
abbrev pub Turned : List ℕ → List ℕ → List Row → Result Turn Refusal → Next State RowsRead → Type 0
Turned was table hand (Ok (On p)) x =
    (done : List (List Row)) × (x ≡ go p.at (take p.held hand, done)) × (p.held ≤ 256) × Stands was table p.closed.records p.closed.rows done
Turned was table hand (Ok (Over r)) x = (o : RowsRead) × (x ≡ stop o) × Finished table (Ok r) o
Turned was table hand (Err w) x = (o : RowsRead) × (x ≡ stop o) × Finished table (Err w) o

unfoldable pub Turns : List ℕ → ℕ → List Row → ℕ → ℕ → List Row → List ℕ → List ℕ → Result Turn Refusal → Type 0
Turns text at hand count used hands before after r =
    (was : List ℕ) (done : List (List Row)) → Stands was before count used done
    → Turned was after hands r (read_by text (length before / 5) hand done (tag_at text at))

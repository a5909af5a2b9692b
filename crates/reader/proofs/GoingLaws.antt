-- The loop over the tags: what has been read so far, and what is to come. Assumes nothing.
use Rattle.std.specs.Prelude.{Result, Ok, Err}
use Rattle.refusals.specs.declared.Refusal.{Refusal}
use Rattle.reader.specs.declared.Reading.{Reading}
use mathlib.Core.Path.{◌≡◌, refl, sym, ap, ◌∙◌, subst}
use mathlib.Core.List.{List, []}
use Prim.Native.Nat.{ℕ, ◌*◌, ◌-◌, ◌/◌, ◌≤◌, ◌<◌}
use native.Mathlib.Omega.{arith}
use lib.ListN.{length, take}
use Rattle.text.specs.Run.{Next, go, stop, follow}
use Rattle.text.proofs.RunLaws.{Onward}
use Rattle.tags.specs.Tags.{tag_at}
use Rattle.adif.specs.Reading.{Row, RowsRead, State, read_by, read_run, read_tags}
use Rattle.adif.proofs.Agree.{forward, turn}
use Rattle.reader.specs.Table.{answer_of, Shown}
use Rattle.reader.specs.Stands.{Stands, Finished, Turned, Turns}
use Rattle.reader.specs.declared.Progress.{Progress}
use Rattle.reader.specs.declared.Turn.{Turn}
use Rattle.reader.specs.declared.Turn.TheVariants.{On, Over}

-- the closed records stand in the table, and with them and the record in hand the text from `at` on reads as the whole
unfoldable pub Going : List ℕ → List ℕ → List ℕ → List Row → Progress → Type 0
Going text was table hands p =
    (done : List (List Row)) × Stands was table p.closed.records p.closed.rows done
    × (read_run text (length was / 5) p.at (take p.held hands, done) ≡ read_tags text (length was / 5))

pub going_start : (text was : List ℕ) (hands : List Row) → Going text was was hands (record { at = 0; held = 0; closed = record { records = 0; rows = 0 } })
unfolding Going read_tags
going_start text was hands = ([], record { counted = refl; taken = refl; shown = refl; fits = omega arith }, refl)

module _ (text was table : List ℕ) (hands : List Row) (p : Progress) (G : Going text was table hands p) (el : length table ≡ length was)
    (hands' : List Row) (table' : List ℕ) (r : Result Turn Refusal) (T : Turns text p.at (take p.held hands) p.closed.records p.closed.rows hands' table table' r) where
  abbrev room : ℕ
  room = length was / 5

  done : List (List Row)
  unfolding Going
  done = G.0

  abbrev step : Next State RowsRead
  step = read_by text room (take p.held hands) done (tag_at text p.at)

  -- the rest of the text, after this step
  after : follow (read_run text room) step ≡ read_tags text room
  unfolding Going done
  after = sym (turn text room p.at (take p.held hands, G.0) (tag_at text p.at) refl) ∙ G.2

  onward : Onward (length text) p.at step
  onward = forward text room p.at (take p.held hands, done)

  turned : Turned was table' hands' r step
  unfolding Going Turns done
  turned = rw el at (T was G.0 G.1)

  module _ (t : Turn) (e : r ≡ Ok t) (q : Progress) (h : t ≡ On q) where
    goes : (ds : List (List Row)) × (step ≡ go q.at (take q.held hands', ds)) × (q.held ≤ 256) × Stands was table' q.closed.records q.closed.rows ds
    goes = subst (λ (x : Result Turn Refusal). Turned was table' hands' x step) (e ∙ ap (λ (x : Turn). Ok x) h) turned

    pub going_on : Going text was table' hands' q
    unfolding Going
    going_on = (goes.0, goes.3, subst (λ (x : Next State RowsRead). follow (read_run text room) x ≡ read_tags text room) goes.1 after)

    pub going_held : q.held ≤ 256
    going_held = goes.2

    pub going_fits : 5 * q.closed.rows ≤ length table'
    going_fits = goes.3.fits

    pub going_less : length text - q.at < length text - p.at
    going_less =
        let o : Onward {S = State} {R = RowsRead} (length text) p.at (go q.at (take q.held hands', goes.0))
        = subst (λ (x : Next State RowsRead). Onward (length text) p.at x) goes.1 onward in
        omega (arith, o.0, o.1)

  module _ (reading : Result Reading Refusal) (stops : (o : RowsRead) × (step ≡ stop o) × Finished table' reading o) where
    result : stops.0 ≡ read_tags text room
    result = subst (λ (x : Next State RowsRead). follow (read_run text room) x ≡ read_tags text room) stops.1 after

    over_answer_by : reading ≡ answer_of (read_tags text room)
    over_answer_by = stops.2.0 ∙ ap answer_of result

    over_shown_by : Shown table' (read_tags text room)
    over_shown_by = rw (← result) stops.2.1

  module _ (t : Turn) (e : r ≡ Ok t) (reading : Reading) (h : t ≡ Over reading) where
    over : (o : RowsRead) × (step ≡ stop o) × Finished table' (Ok reading) o
    over = subst (λ (x : Result Turn Refusal). Turned was table' hands' x step) (e ∙ ap (λ (x : Turn). Ok x) h) turned

    pub over_answer : Ok reading ≡ answer_of (read_tags text room)
    over_answer = over_answer_by (Ok reading) over

    pub over_shown : Shown table' (read_tags text room)
    over_shown = over_shown_by (Ok reading) over

  module _ (w : Refusal) (h : r ≡ Err w) where
    refuses : (o : RowsRead) × (step ≡ stop o) × Finished table' (Err w) o
    refuses = subst (λ (x : Result Turn Refusal). Turned was table' hands' x step) h turned

    pub refused_answer : Err w ≡ answer_of (read_tags text room)
    refused_answer = over_answer_by (Err w) refuses

    pub refused_shown : Shown table' (read_tags text room)
    refused_shown = over_shown_by (Err w) refuses

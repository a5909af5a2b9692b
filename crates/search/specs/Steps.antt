-- What a record of the index says of its contact.
use Rattle.std.specs.Prelude.{ℕ, ◌-◌, Bool, List, eqb, get_or, Option}
use Rattle.text.specs.Pick.{both}
use Rattle.tables.specs.Place.{bytes}
use Rattle.contacts.specs.Lists.{text_at}
use Rattle.index.specs.Rows.{Row, joined, moment_from}
use Rattle.dedupe.specs.Keys.{in_log}
use Rattle.wanted.specs.declared.Wanted.{Wanted}
use Rattle.search.specs.Search.{near}

unfoldable pub row_moment : Row → Option ℕ
row_moment row = moment_from (get_or row 11 0) (joined (get_or row 12 0) (get_or row 13 0))

unfoldable pub row_matches : List ℕ → Row → List ℕ → List ℕ → List ℕ → Option ℕ → ℕ → Bool
row_matches s row call mode band moment limit =
    both (in_log call mode band (text_at s (get_or row 6 0)) (text_at s (get_or row 10 0)) (text_at s (get_or row 9 0))) (near moment (row_moment row) limit)

-- it matches what is wanted over a text, told from the code where that differs
unfoldable pub row_tested : List ℕ → Row → List ℕ → Wanted → ℕ → ℕ → Bool
row_tested s row text w code limit =
    both (eqb (get_or row 2 0) code) (row_matches s row (bytes text w.key.call) (bytes text w.key.mode) (bytes text w.key.band) w.moment limit)

-- where its contact's entry stands
unfoldable pub entry_in : Row → ℕ
entry_in row = get_or row 6 0 - 11

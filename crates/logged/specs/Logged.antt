-- What a record finds in the log, and its row with that: number 22 the contact, by number and one, number 27 the place of its entry.
use Rattle.std.specs.Prelude.{ℕ, ◌<◌, List, map, take}
use Rattle.tables.specs.Place.{bytes}
use Rattle.contacts.specs.Lists.{contacts_of}
use Rattle.index.specs.Rows as index
use Rattle.wanted.specs.declared.Wanted.{Wanted}
use Rattle.search.specs.Search.{first_match, place_of, Indexed}
use Rattle.entries.specs.Row.{Row, call_in, mode_in, band_in, key_in, moment_in, with_number}

-- what a row wants of the log
abbrev pub wanted_in : Row → Wanted
wanted_in r = record { key = key_in r; moment = moment_in r }

-- the contact that a row finds in the list
unfoldable pub hit_in : List ℕ → List ℕ → ℕ → Row → ℕ
hit_in text list limit r = first_match (bytes text (call_in r)) (bytes text (mode_in r)) (bytes text (band_in r)) (moment_in r) limit (contacts_of list)

abbrev pub with_hit : Row → ℕ → ℕ → Row
with_hit r number place = with_number (with_number r 22 number) 27 place

unfoldable pub logged_row : List ℕ → List ℕ → ℕ → Row → Row
logged_row text list limit r = with_hit r (hit_in text list limit r) (place_of list (hit_in text list limit r))

-- the first n rows
abbrev pub logged_rows : List ℕ → List ℕ → ℕ → List Row → ℕ → List Row
logged_rows text list limit rows n = map (logged_row text list limit) (take n rows)

-- what looking up n records asks for, if there is one: the index was built of the list
unfoldable pub Searchable : List ℕ → ℕ → List index.Row → ℕ → Type 0
Searchable list contacts rows n = 0 < n → Indexed list contacts rows

-- A contact of the index as a struct and as fourteen plain numbers. Everything above is said of the numbers: `plain` of the lent structs.
use Rattle.std.specs.Prelude.{List, [], ◌∷◌, map, get_or}
use Rattle.index.specs.Rows.{Row, low, high, joined, no_row}
use Rattle.index.specs.declared.Contact.{Contact}

abbrev pub contact_of : Row → Contact
contact_of r =
    record {
      id = joined (get_or r 3 0) (get_or r 4 0);
      seconds = joined (get_or r 12 0) (get_or r 13 0);
      head = get_or r 0 0;
      next = get_or r 1 0;
      code = get_or r 2 0;
      services = get_or r 5 0;
      call = get_or r 6 0;
      date = get_or r 7 0;
      time = get_or r 8 0;
      band = get_or r 9 0;
      mode = get_or r 10 0;
      timed = get_or r 11 0;
    }

abbrev pub numbers_of : Contact → Row
numbers_of c =
    c.head ∷ c.next ∷ c.code ∷ low c.id ∷ high c.id ∷ c.services ∷ c.call ∷ c.date ∷ c.time ∷ c.band ∷ c.mode ∷ c.timed ∷ low c.seconds ∷ high c.seconds ∷ []

abbrev pub no_contact : Contact
no_contact = contact_of no_row

-- the index as plain numbers
unfoldable pub plain : List Contact → List Row
plain cs = map numbers_of cs

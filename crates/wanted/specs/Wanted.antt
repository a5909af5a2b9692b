-- What is wanted of a log: the code of its key, and the contacts of a list as they are wanted in another.
use Rattle.std.specs.Prelude.{ℕ, ◌+◌, ◌≡◌, refl, List, [], ◌∷◌, leb, length, get_or}
use Rattle.text.specs.Pick.{pick}
use Rattle.tables.specs.Place.{stands, bytes}
use Rattle.tables.specs.declared.Place.{Place}
use Rattle.times.specs.Moments.{moment_of}
use Rattle.dedupe.specs.declared.Key.{Key}
use Rattle.contacts.specs.Lists.{text_at, call_at, date_at, time_at, band_at, mode_at}
use Rattle.index.specs.Rows.{code_of}
use Rattle.wanted.specs.declared.Wanted.{Wanted}

unfoldable pub code_for : List ℕ → Key → ℕ
code_for text k = code_of (bytes text k.call) (bytes text k.mode) (bytes text k.band)

-- the text of a list whose length byte is at p, as a place; an empty one where the list ends before
unfoldable pub place_at : List ℕ → ℕ → Place
place_at s p = pick (leb (length s) p) (stands 0 0) (stands (p + 1) (get_or s p 0))

unfoldable pub key_at : List ℕ → ℕ → ℕ → ℕ → Key
key_at s call mode band = record { call = place_at s call; mode = place_at s mode; band = place_at s band }

-- the contact whose entry is at `at`
unfoldable pub wanted_at : List ℕ → ℕ → Wanted
wanted_at s at =
    record { key = key_at s (call_at at) (mode_at s at) (band_at s at); moment = moment_of (text_at s (date_at s at)) (text_at s (time_at s at)) }

-- the text "AB" behind its length byte
a_text : place_at (2 ∷ 65 ∷ 66 ∷ []) 0 ≡ stands 1 2
unfolding place_at
a_text = refl

-- Normalising a mode with its submode: what comes out, as bytes and then as places.
use Rattle.std.specs.Prelude.{ℕ, Bool, List, [], ◌∷◌, map, eqb, leb, ltb, length, get_or, Some, None, Option}
use Rattle.text.specs.Pick.{pick, both, either}
use Rattle.text.specs.Space.{trimmed}
use Rattle.letters.specs.Capitals.{capitals}
use Rattle.letters.specs.Same.{same}
use Rattle.tables.specs.Table.{first_from, named, key_of}
use Rattle.tables.specs.Modes.{mode_names}
use Rattle.normalize.specs.Modes.{Known, submodes, aliases}
use Rattle.tables.specs.Place.{absent, mode_entry, part, tidy, is_absent, is_empty, or_else}
use Rattle.tables.specs.declared.Place.{Place}
use Rattle.normalize.specs.declared.ModePair.{ModePair}

-- ---- as bytes

-- trimmed, and in capitals
unfoldable pub tidied : List ℕ → List ℕ
tidied x = capitals (trimmed x)

-- the mode of the first row whose name is the text
abbrev pub lookup : List ℕ → List Known → Option (List ℕ)
lookup x [] = None
lookup x (r ∷ rs) = pick (same x r.name) (Some r.mode) (lookup x rs)

unfoldable pub parent_of : List ℕ → Option (List ℕ)
parent_of x = lookup x submodes

abbrev pub otherwise : Option (List ℕ) → List ℕ → List ℕ
otherwise None y = y
otherwise (Some x) y = x

unfoldable pub aliased : List ℕ → List ℕ
aliased x = otherwise (lookup x aliases) x

-- a submode that is blank counts as absent
abbrev pub unless_empty : List ℕ → Option (List ℕ)
unless_empty [] = None
unless_empty (x ∷ xs) = Some (x ∷ xs)

abbrev pub given : Option (List ℕ) → Option (List ℕ)
given None = None
given (Some x) = unless_empty (tidied x)

pub record Normal : Type 0 where
  pub mode : List ℕ
  pub submode : Option (List ℕ)

-- a mode that is a known submode splits
abbrev pub split : List ℕ → Option (List ℕ) → Normal
split m None = record { mode = aliased m; submode = None }
split m (Some p) = record { mode = p; submode = Some m }

-- an explicit submode wins, and sets its parent if that is known
abbrev pub joined : List ℕ → Option (List ℕ) → Normal
joined m None = split m (parent_of m)
joined m (Some s) = record { mode = otherwise (parent_of s) (aliased m); submode = Some s }

unfoldable pub normal : List ℕ → Option (List ℕ) → Normal
normal m s = joined (tidied m) (given s)

-- ---- as places

-- the number of a mode in the table of modes
abbrev pub number : Option ℕ → ℕ
number (Some k) = k
number None = 0

abbrev pub mode_numbers : List Known → List ℕ
mode_numbers rows = map (λ (r : Known). number (first_from (same r.mode) 0 mode_names)) rows

abbrev pub entry_at : List ℕ → Option ℕ → Place
entry_at ns (Some k) = mode_entry (get_or ns k 0)
entry_at ns None = absent

abbrev pub names : List Known → List (List ℕ)
names rows = map (λ (r : Known). r.name) rows

-- the entry of the mode that goes with a key, or absent
abbrev pub entry_of_key : List Known → ℕ → Place
entry_of_key rows k = entry_at (mode_numbers rows) (first_from (eqb k) 0 (map key_of (names rows)))

unfoldable pub parent_of_key : ℕ → Place
parent_of_key k = entry_of_key submodes k

unfoldable pub alias_of_key : ℕ → Place
alias_of_key k = entry_of_key aliases k

-- the entry of the mode that goes with a text, or absent
unfoldable pub parent_entry : List ℕ → Place
parent_entry x = entry_at (mode_numbers submodes) (named x (names submodes))

unfoldable pub alias_entry : List ℕ → Place
alias_entry x = entry_at (mode_numbers aliases) (named x (names aliases))

unfoldable pub aliased_place : List ℕ → Place → Place
aliased_place text m = or_else (alias_entry (part text m)) m

unfoldable pub split_place : List ℕ → Place → ModePair
split_place text m =
    pick (is_absent (parent_entry (part text m)))
    (record { mode = aliased_place text m; submode = absent })
    (record { mode = parent_entry (part text m); submode = m })

-- of a mode in one text and a submode in another, which may be the same: the mode that comes out is in the first text, and
-- the submode in the text from which it comes
unfoldable pub normal_places : List ℕ → Place → List ℕ → Place → ModePair
normal_places mt m st s =
    pick (is_empty (tidy st s)) (split_place mt (tidy mt m))
    (record { mode = or_else (parent_entry (part st (tidy st s))) (aliased_place mt (tidy mt m)); submode = tidy st s })

-- a place that may stand for a mode or a submode: absent, in the text, or an entry of the table of modes
unfoldable pub modal : Place → Bool
modal p = either (leb p.kind 2) (both (eqb p.kind 4) (ltb p.start (length mode_names)))

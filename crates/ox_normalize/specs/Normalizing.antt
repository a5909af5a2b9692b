-- The answers of the calls on bands, modes and classes, as numbers.
use Rattle.tables.specs.declared.ModeClass.{ModeClass}
use Rattle.std.specs.Prelude.{ℕ, Bool, true, false, List, length, ltb, Option, Some, None, Result, Ok, Err}
use Rattle.text.specs.Pick.{pick}
use Rattle.refusals.specs.Refusals.{number_of, place_of, of_text, of_texts}
use Rattle.refusals.specs.declared.Refusal.{Refusal}
use Rattle.tables.specs.Table.{is_found}
use Rattle.tables.specs.Bands.{band_named}
use Rattle.tables.specs.Place.{absent, stands, band_place, spelled, no_name}
use Rattle.tables.specs.Place.{tidy, is_empty}
use Rattle.normalize.specs.Normal.{normal_places}
use Rattle.normalize.specs.Classes.{class_number, class_numbered, class_name, class_named, class_of, span_of}
use Rattle.tables.specs.declared.Place.{Place}
use Rattle.tables.specs.declared.Name.{Name}
use Rattle.tables.specs.declared.Span.{Span}
use Rattle.ox_text.specs.Texts.{answer, untold_of, told_of}
use Rattle.ox_text.specs.declared.Told.{Told}
use Rattle.ox_normalize.specs.declared.Placed.{Placed}
use Rattle.ox_normalize.specs.declared.Normalized.{Normalized}
use Rattle.ox_normalize.specs.declared.Classified.{Classified}

unfoldable pub band_of : List ℕ → Placed
band_of s =
    answer (λ why. record { refusal = number_of why; place = place_of why; entry = absent })
    (record { refusal = 0; place = 0; entry = band_place (band_named s) })
    (of_text s)

unfoldable pub band_known_of : List ℕ → Told
band_known_of s = answer untold_of (told_of (is_found (band_named s))) (of_text s)

-- the whole text as it stands, or absent
unfoldable pub given_place : List ℕ → Bool → Place
given_place s given = pick given (stands 0 (length s)) absent

unfoldable pub unnormalized_of : Refusal → Normalized
unnormalized_of why = record { refusal = number_of why; place = place_of why; mode = absent; submode = absent; split = false }

unfoldable pub normalized_of : List ℕ → List ℕ → Bool → Normalized
normalized_of m s given =
    record {
      refusal = 0;
      place = 0;
      mode = (normal_places m (given_place m true) s (given_place s given)).mode;
      submode = (normal_places m (given_place m true) s (given_place s given)).submode;
      split = is_empty (tidy s (given_place s given));
    }

unfoldable pub normalize_of : List ℕ → List ℕ → Bool → Normalized
normalize_of m s given = answer unnormalized_of (normalized_of m s given) (of_texts m s)

unfoldable pub unclassified_of : Refusal → Classified
unclassified_of why = record { refusal = number_of why; place = place_of why; present = false; class = 0 }

unfoldable pub classified_of : Option ModeClass → Classified
classified_of (Some c) = record { refusal = 0; place = 0; present = true; class = class_number c }
classified_of None = record { refusal = 0; place = 0; present = false; class = 0 }

-- the class that was looked for, or why it was not
unfoldable pub classified_by : Result (Option ModeClass) Refusal → Classified
classified_by (Err why) = unclassified_of why
classified_by (Ok c) = classified_of c

unfoldable pub mode_class_of : List ℕ → Classified
mode_class_of s = answer unclassified_of (classified_of (class_of s)) (of_text s)

unfoldable pub class_named_of : List ℕ → Classified
class_named_of s = answer unclassified_of (classified_of (class_named s)) (of_text s)

-- of a class by its number, nothing where there is no such class
unfoldable pub modes_of : ℕ → Span
modes_of n = pick (ltb n 4) (span_of (class_numbered n)) (record { first = 0; count = 0 })

unfoldable pub class_name_of : ℕ → Name
class_name_of n = pick (ltb n 4) (spelled (class_name (class_numbered n))) no_name

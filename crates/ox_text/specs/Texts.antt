-- The answers of the calls on plain texts, as numbers.
use Rattle.std.specs.declared.cmp.Ordering.{Ordering}
use Rattle.std.specs.declared.cmp.Ordering.TheVariants.{Less, Equal, Greater}
use Rattle.decimal.specs.declared.Signed.{Signed}
use Rattle.std.specs.Prelude.{ℕ, ◌+◌, Bool, true, false, List, length, drop, leb, ⊤, Option, Some, None, Result, Ok, Err}
use Rattle.text.specs.Pick.{pick}
use Rattle.text.specs.Walk.{ends}
use Rattle.text.specs.Find.{other}
use Rattle.text.specs.Space.{trim_start, trim_end, blank}
use Rattle.letters.specs.Same.{same, same_raised}
use Rattle.letters.specs.Order.{order_raised}
use Rattle.decimal.specs.Decimal.{unsigned_of, signed_of}
use Rattle.refusals.specs.Refusals.{number_of, place_of, of_text, of_texts}
use Rattle.refusals.specs.declared.Refusal.{Refusal}
use Rattle.ox_text.specs.declared.Checked.{Checked}
use Rattle.ox_text.specs.declared.Trimmed.{Trimmed}
use Rattle.ox_text.specs.declared.Told.{Told}
use Rattle.ox_text.specs.declared.Ordered.{Ordered}
use Rattle.ox_text.specs.declared.Found.{Found}
use Rattle.ox_text.specs.declared.Numbered.{Numbered}

-- an answer by the verdict on its texts: what a refusal gives, or what an accepted text gives
abbrev pub answer : {A : Type 0} → (Refusal → A) → A → Result ⊤ Refusal → A
answer refused accepted (Err why) = refused why
answer refused accepted (Ok tt) = accepted

unfoldable pub check_of : List ℕ → Checked
check_of s = answer (λ why. record { refusal = number_of why; place = place_of why }) (record { refusal = 0; place = length s }) (of_text s)

-- where the text starts after white space, and where it ends before
unfoldable pub trim_of : List ℕ → Trimmed
trim_of s =
    answer (λ why. record { refusal = number_of why; place = place_of why; start = 0; end = 0 })
    (record { refusal = 0; place = 0; start = trim_start s; end = trim_start s + trim_end (drop (trim_start s) s) })
    (of_text s)

unfoldable pub untold_of : Refusal → Told
untold_of why = record { refusal = number_of why; place = place_of why; yes = false }

abbrev pub told_of : Bool → Told
told_of said = record { refusal = 0; place = 0; yes = said }

unfoldable pub blank_of : List ℕ → Told
blank_of s = answer untold_of (told_of (blank s)) (of_text s)

unfoldable pub same_of : List ℕ → List ℕ → Told
same_of a b = answer untold_of (told_of (same a b)) (of_texts a b)

unfoldable pub same_raised_of : List ℕ → List ℕ → Told
same_raised_of a b = answer untold_of (told_of (same_raised a b)) (of_texts a b)

abbrev pub order_number : Ordering → ℕ
order_number Less = 0
order_number Equal = 1
order_number Greater = 2

unfoldable pub order_of : List ℕ → List ℕ → Ordered
order_of a b =
    answer (λ why. record { refusal = number_of why; place = place_of why; order = 0 })
    (record { refusal = 0; place = 0; order = order_number (order_raised a b) })
    (of_texts a b)

-- the first place from `from` on where b stands, or the length
unfoldable pub find_from : List ℕ → ℕ → ℕ → ℕ
find_from s from b = pick (leb from (length s)) (ends (other b) s from) (length s)

unfoldable pub find_of : List ℕ → ℕ → ℕ → Found
find_of s from b =
    answer (λ why. record { refusal = number_of why; place = place_of why; at = 0 })
    (record { refusal = 0; place = 0; at = find_from s from b })
    (of_text s)

unfoldable pub unnumbered_of : Refusal → Numbered
unnumbered_of why = record { refusal = number_of why; place = place_of why; present = false; negative = false; size = 0 }

abbrev pub numbered_of : Bool → Bool → ℕ → Numbered
numbered_of present negative size = record { refusal = 0; place = 0; present = present; negative = negative; size = size }

unfoldable pub of_unsigned : Option ℕ → Numbered
of_unsigned (Some n) = numbered_of true false n
of_unsigned None = numbered_of false false 0

unfoldable pub of_signed : Option Signed → Numbered
of_signed (Some n') = numbered_of true n'.negative n'.size
of_signed None = numbered_of false false 0

unfoldable pub unsigned_answer : List ℕ → Numbered
unsigned_answer s = answer unnumbered_of (of_unsigned (unsigned_of s)) (of_text s)

unfoldable pub signed_answer : List ℕ → Numbered
signed_answer s = answer unnumbered_of (of_signed (signed_of s)) (of_text s)

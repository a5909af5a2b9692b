-- What `showplan` prints: of each record its number, the name of its fate and its reason (0 if none); then the summary. Of a text that
-- is too long, or a plan that is refused, one line; a refusal is told with its place in the text.
use Rattle.std.specs.Prelude.{Bool, false, List, [], ◌∷◌, ◌++◌, ℕ, zero, suc, eqb, leb, ltb}
use Rattle.text.specs.Pick.{pick}
use Rattle.text.specs.Ascii.{ascii}
use Rattle.decimal.specs.Digits.{decimal}
use Rattle.refusals.specs.declared.Refusal.{Refusal}
use Rattle.refusals.specs.Refusals.{number_of, place_of}
use Rattle.chain.specs.Chain.{col}
use Rattle.summary.specs.Summary.{summary_text}
use Rattle.plan.specs.Fates.{fates_in}
use Rattle.plan.specs.Plan.{counts_with}

-- the fates 1 to 7
unfoldable pub fate_name : ℕ → List ℕ
fate_name fate =
    pick (eqb fate 1) (ascii "importable")
    (pick (eqb fate 2) (ascii "duplicate-in-log")
    (pick (eqb fate 3) (ascii "duplicate-in-file")
    (pick (eqb fate 4) (ascii "unusable")
    (pick (eqb fate 5) (ascii "confirmed")
    (pick (eqb fate 6) (ascii "unmatched")
    (pick (eqb fate 7) (ascii "ignored")
    []))))))

abbrev pub blank : List ℕ
blank = 0x20 ∷ []

abbrev pub newline : List ℕ
newline = 0x0A ∷ []

unfoldable pub line_of : ℕ → ℕ → ℕ → List ℕ
line_of k fate reason = (decimal k ++ blank) ++ ((fate_name fate ++ blank) ++ (decimal reason ++ newline))

-- the first n records of a table, whose rows begin with fate and reason; records are numbered from 1
unfoldable pub lines_of : List (List ℕ) → ℕ → List ℕ
lines_of rows zero = []
lines_of rows (suc k) = lines_of rows k ++ line_of (suc k) (col rows k 0) (col rows k 1)

-- these, and the summary of what they count with the confirmations
unfoldable pub plan_text : List (List ℕ) → ℕ → ℕ → ℕ → ℕ → List ℕ
plan_text rows n confirmations already unmatched =
    lines_of rows n ++ (summary_text (counts_with (fates_in rows n) confirmations already unmatched) ++ newline)

-- refusals that tell a place, by their number: 2 to 10. A place may be 0
unfoldable pub has_place : ℕ → Bool
has_place n = pick (ltb n 2) false (leb n 10)

-- a refusal's number, and behind it the place of one that tells it
unfoldable pub told_text : ℕ → ℕ → List ℕ
told_text n at = pick (has_place n) ((decimal n ++ blank) ++ (decimal at ++ newline)) (decimal n ++ newline)

unfoldable pub refused_text : Refusal → List ℕ
refused_text why = ascii "refused " ++ told_text (number_of why) (place_of why)

abbrev pub too_long_text : List ℕ
too_long_text = ascii "too long" ++ newline

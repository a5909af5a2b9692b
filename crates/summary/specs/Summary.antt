-- The one line that sums a plan up, after `ImportPlan::summary`: how many records there are and how many are to be imported; and then,
-- each only where it is not zero, what is confirmed, what is skipped and what is left out.
use Rattle.refusals.specs.declared.Refusal.{Refusal}
use Rattle.std.specs.Prelude.{List, [], ◌∷◌, ◌++◌, ℕ, length, eqb, ltb, Result, Ok, Err}
use Rattle.std.proofs.lemmas.List.Edits.{sets}
use Rattle.text.specs.Pick.{pick}
use Rattle.text.specs.Ascii.{ascii}
use Rattle.decimal.specs.Digits.{decimal}
use Rattle.refusals.specs.declared.Refusal.TheVariants.{ShortOutput}
use Rattle.summary.specs.declared.Counts.{Counts}

-- a number and what it counts, in the singular for 1
unfoldable pub counted : ℕ → List ℕ → List ℕ → List ℕ
counted n one many = decimal n ++ pick (eqb n 1) one many

-- a middle dot between blanks
abbrev pub dot : List ℕ
dot = 0x20 ∷ 0xC2 ∷ 0xB7 ∷ 0x20 ∷ []

unfoldable pub further : ℕ → List ℕ → List ℕ → List ℕ
further n one many = dot ++ counted n one many

-- nothing is said of none
unfoldable pub part : ℕ → List ℕ → List ℕ → List ℕ
part n one many = pick (eqb n 0) [] (further n one many)

unfoldable pub found : ℕ → ℕ → List ℕ
found total importable = counted total (ascii " record") (ascii " records") ++ further importable (ascii " to import") (ascii " to import")

unfoldable pub confirmed : ℕ → ℕ → List ℕ
confirmed confirmations already =
    part confirmations (ascii " confirmation") (ascii " confirmations") ++ part already (ascii " already confirmed") (ascii " already confirmed")

unfoldable pub left_out : ℕ → ℕ → ℕ → List ℕ
left_out duplicates unmatched unusable =
    part duplicates (ascii " duplicate (skipped)") (ascii " duplicates (skipped)")
    ++ (part unmatched (ascii " confirmation unmatched") (ascii " confirmations unmatched") ++ part unusable (ascii " unusable") (ascii " unusable"))

unfoldable pub summary_text : Counts → List ℕ
summary_text c =
    found c.total c.importable
    ++ (confirmed c.confirmations c.already_confirmed ++ left_out c.duplicates c.unmatched c.unusable)

-- the answer: the length of the line, or 13 where the output is too short
unfoldable pub answer_to : Counts → List ℕ → Result ℕ Refusal
answer_to c out = pick (ltb (length out) (length (summary_text c))) (Err ShortOutput) (Ok (length (summary_text c)))

-- the output then: the line at its front, or as it was
unfoldable pub output_after : Counts → List ℕ → List ℕ
output_after c out = pick (ltb (length out) (length (summary_text c))) out (sets out 0 (summary_text c))

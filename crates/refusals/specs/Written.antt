-- What a call that writes answers, and what it leaves in the output.
use Rattle.refusals.specs.declared.Refusal.{Refusal}
use Rattle.std.specs.Prelude.{◌≡◌, refl, List, ℕ, leb, Result, Ok, Err}
use Rattle.std.proofs.lemmas.List.Edits.{sets}
use Rattle.text.specs.Pick.{pick}
use Rattle.refusals.specs.declared.Refusal.TheVariants.{TooLong, ShortOutput}

-- so many bytes for an output of `room`: 1 above 16,777,216, then 13 where they do not fit
unfoldable pub fitted : Result ℕ Refusal → ℕ → Result ℕ Refusal
fitted (Ok n) room = pick (leb n 16777216) (pick (leb n room) (Ok n) (Err ShortOutput)) (Err TooLong)
fitted (Err why) room = Err why

-- the output after an answer: the text w at its front, or as it was
abbrev pub output_by : Result ℕ Refusal → List ℕ → List ℕ → List ℕ
output_by (Ok n) was w = sets was 0 w
output_by (Err why) was w = was

-- three bytes fit into three, not into two
exact : fitted (Ok 3) 3 ≡ Ok 3
unfolding fitted
exact = refl

short : fitted (Ok 3) 2 ≡ Err ShortOutput
unfolding fitted
short = refl

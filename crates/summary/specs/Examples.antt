-- Worked examples.
use Rattle.std.specs.Prelude.{◌≡◌, refl, [], ◌∷◌, ◌++◌, ℕ, Err}
use Rattle.text.specs.Ascii.{ascii}
use Rattle.decimal.specs.Digits.{digits, decimal}
use Rattle.refusals.specs.declared.Refusal.TheVariants.{ShortOutput}
use Rattle.summary.specs.declared.Counts.{Counts}
use Rattle.summary.specs.Summary.{counted, dot, further, part, found, confirmed, left_out, summary_text, answer_to, output_after}

abbrev of : ℕ → ℕ → ℕ → ℕ → ℕ → ℕ → ℕ → Counts
of total importable confirmations already duplicates unmatched unusable = record {
  total = total;
  importable = importable;
  confirmations = confirmations;
  already_confirmed = already;
  duplicates = duplicates;
  unmatched = unmatched;
  unusable = unusable;
}

-- that of docs/SCOPE.md: 3 records · 1 to import · 1 duplicate (skipped) · 1 unusable
three_records : summary_text (of 3 1 0 0 1 0 1) ≡ ascii "3 records" ++ (dot ++ (ascii "1 to import" ++ (dot ++ (ascii "1 duplicate (skipped)" ++ (dot ++ ascii "1 unusable")))))
unfolding summary_text found confirmed left_out part further counted decimal digits
three_records = refl

-- one of each
one_of_each : summary_text (of 1 1 1 1 1 1 1)
    ≡ ascii "1 record" ++ (dot ++ (ascii "1 to import" ++ (dot ++ (ascii "1 confirmation" ++ (dot ++ (ascii "1 already confirmed" ++ (dot ++ (ascii "1 duplicate (skipped)" ++ (dot ++ (ascii "1 confirmation unmatched" ++ (dot ++ ascii "1 unusable")))))))))))
unfolding summary_text found confirmed left_out part further counted decimal digits
one_of_each = refl

-- two of each
two_of_each : summary_text (of 2 2 2 2 2 2 2)
    ≡ ascii "2 records" ++ (dot ++ (ascii "2 to import" ++ (dot ++ (ascii "2 confirmations" ++ (dot ++ (ascii "2 already confirmed" ++ (dot ++ (ascii "2 duplicates (skipped)" ++ (dot ++ (ascii "2 confirmations unmatched" ++ (dot ++ ascii "2 unusable")))))))))))
unfolding summary_text found confirmed left_out part further counted decimal digits
two_of_each = refl

-- an empty file takes 26 bytes; with one less the output stays as it is
no_room : (answer_to (of 0 0 0 0 0 0 0) (7 ∷ 8 ∷ []) ≡ Err ShortOutput) × (output_after (of 0 0 0 0 0 0 0) (7 ∷ 8 ∷ []) ≡ 7 ∷ 8 ∷ [])
unfolding answer_to output_after summary_text found confirmed left_out part further counted decimal digits
no_room = (refl, refl)

-- Worked examples.
use Rattle.std.specs.Prelude.{◌≡◌, refl, [], ◌∷◌, ◌++◌}
use Rattle.text.specs.Ascii.{ascii}
use Rattle.decimal.specs.Digits.{digits, decimal}
use Rattle.refusals.specs.declared.Refusal.TheVariants.{TooLong, NotUtf8, UnterminatedTag, TruncatedValue, FewRows, ShortTable}
use Rattle.summary.specs.Summary.{counted, dot, further, part, found, confirmed, left_out, summary_text}
use Rattle.plan.specs.Fates.{count, fates_in}
use Rattle.plan.specs.Plan.{counts_with}
use Rattle.show.specs.Shown.{fate_name, newline, line_of, lines_of, plan_text, has_place, told_text, refused_text}

-- that of docs/SCOPE.md: importable, a duplicate in the file, and unusable for want of a call
three_records : plan_text ((1 ∷ 0 ∷ []) ∷ (3 ∷ 0 ∷ []) ∷ (4 ∷ 1 ∷ []) ∷ (9 ∷ 9 ∷ []) ∷ []) 3 0 0 0
    ≡ ascii "1 importable 0"
    ++ (newline
    ++ (ascii "2 duplicate-in-file 0"
    ++ (newline
    ++ (ascii "3 unusable 1"
    ++ (newline
    ++ (ascii "3 records" ++ (dot ++ (ascii "1 to import" ++ (dot ++ (ascii "1 duplicate (skipped)" ++ (dot ++ (ascii "1 unusable" ++ newline))))))))))))
unfolding plan_text lines_of line_of fate_name decimal digits counts_with fates_in count summary_text found confirmed left_out part further counted
three_records = refl

-- the other four names, from record 12 on
other_fates : line_of 12 2 0 ++ (line_of 13 5 0 ++ (line_of 14 6 0 ++ line_of 15 7 0))
    ≡ ascii "12 duplicate-in-log 0"
    ++ (newline ++ (ascii "13 confirmed 0" ++ (newline ++ (ascii "14 unmatched 0" ++ (newline ++ (ascii "15 ignored 0" ++ newline))))))
unfolding line_of fate_name decimal digits
other_fates = refl

-- 6 at 214, 3 at the first byte, 2 and 10, which are the first and the last with a place; 1 and 19, which have none
refusals : (refused_text (TruncatedValue 214 215 4 9 8) ≡ ascii "refused 6 214" ++ newline)
    × (refused_text (UnterminatedTag 0) ≡ ascii "refused 3 0" ++ newline)
    × (refused_text (NotUtf8 7) ≡ ascii "refused 2 7" ++ newline)
    × (refused_text (FewRows 49152) ≡ ascii "refused 10 49152" ++ newline)
    × (refused_text TooLong ≡ ascii "refused 1" ++ newline)
    × (refused_text ShortTable ≡ ascii "refused 19" ++ newline)
unfolding refused_text told_text has_place decimal digits
refusals = (refl, refl, refl, refl, refl, refl)

-- Worked examples.
use Rattle.std.specs.Prelude.{◌≡◌, refl, [], ◌∷◌, Ok, Err}
use Rattle.text.specs.Walk.{lead}
use Rattle.text.specs.Utf8.{utf8, valid_up_to, char_len, long_char, second3, second4}
use Rattle.text.specs.Space.{space1, space2, space3, space80, space_len, space_back, width, trim_start, trim_end, trimmed, blank}
use Rattle.letters.specs.Capitals.{raised}
use Rattle.decimal.specs.Digits.{digits, decimal}
use Rattle.refusals.specs.Written.{fitted}
use Rattle.refusals.specs.declared.Refusal.TheVariants.{BadRow, ShortOutput}
use Rattle.fields.specs.Written.{field_text}
use Rattle.headers.specs.Answer.{all_utf8}
use Rattle.station.specs.Station.{station_text, all7}
use Rattle.station.specs.Answer.{short, all_short, short7, station_by, station_answer}

-- a station of the call " AB " and the state "x", the county being blank
station : station_text (32 ∷ 65 ∷ 66 ∷ 32 ∷ []) [] [] (120 ∷ []) (32 ∷ []) [] []
    ≡ 60 ∷ 77 ∷ 89 ∷ 95 ∷ 83 ∷ 84 ∷ 65 ∷ 84 ∷ 69 ∷ 58 ∷ 49 ∷ 62 ∷ 120 ∷ 32 ∷ 60 ∷ 79 ∷ 80 ∷ 69 ∷ 82 ∷ 65 ∷ 84 ∷ 79 ∷ 82 ∷ 58 ∷ 50 ∷ 62 ∷ 65 ∷ 66 ∷ 32 ∷ 60 ∷ 83 ∷ 84 ∷ 65 ∷ 84 ∷ 73 ∷ 79 ∷ 78 ∷ 95 ∷ 67 ∷ 65 ∷ 76 ∷ 76 ∷ 83 ∷ 73 ∷ 71 ∷ 78 ∷ 58 ∷ 50 ∷ 62 ∷ 65 ∷ 66 ∷ 32 ∷ []
unfolding lead space1 space2 space3 space80 space_len space_back width trim_start trim_end trimmed blank raised digits decimal field_text station_text
station = refl

-- it takes 52 bytes
fits : station_answer (32 ∷ 65 ∷ 66 ∷ 32 ∷ []) [] [] (120 ∷ []) (32 ∷ []) [] [] 52 ≡ Ok 52
unfolding lead char_len valid_up_to utf8 all_utf8 all7 short all_short short7 space1 space2 space3 space80 space_len space_back width trim_start trim_end trimmed blank raised digits decimal field_text station_text fitted station_by station_answer
fits = refl

too_little_room : station_answer (32 ∷ 65 ∷ 66 ∷ 32 ∷ []) [] [] (120 ∷ []) (32 ∷ []) [] [] 51 ≡ Err ShortOutput
unfolding lead char_len valid_up_to utf8 all_utf8 all7 short all_short short7 space1 space2 space3 space80 space_len space_back width trim_start trim_end trimmed blank raised digits decimal field_text station_text fitted station_by station_answer
too_little_room = refl

-- an ITU zone that is no UTF-8
bad_zone : station_answer (65 ∷ []) [] [] [] [] [] (255 ∷ []) 0 ≡ Err BadRow
unfolding lead char_len long_char second3 second4 valid_up_to utf8 all_utf8 all7 station_by station_answer
bad_zone = refl

-- Worked examples.
use Rattle.std.specs.Prelude.{◌≡◌, refl, [], ◌∷◌, Ok, Err}
use Rattle.text.specs.Utf8.{valid_up_to, char_len, long_char, second3, second4}
use Rattle.text.specs.Walk.{lead}
use Rattle.refusals.specs.Refusals.{of_text, of_texts}
use Rattle.refusals.specs.declared.Refusal.TheVariants.{NotUtf8}

-- "é" is a text
e_acute : of_text (0xC3 ∷ 0xA9 ∷ []) ≡ Ok tt
unfolding of_text valid_up_to lead char_len long_char second3 second4
e_acute = refl

-- "A", then the first half of "é"
cut : of_text (65 ∷ 0xC3 ∷ []) ≡ Err (NotUtf8 1)
unfolding of_text valid_up_to lead char_len long_char second3 second4
cut = refl

-- a lone continuation in the second text, after two bytes of the first
second_text : of_texts (0xC3 ∷ 0xA9 ∷ []) (0x80 ∷ []) ≡ Err (NotUtf8 2)
unfolding of_texts valid_up_to lead char_len long_char second3 second4
second_text = refl

-- Worked examples.
use Rattle.std.specs.Prelude.{◌≡◌, refl, [], ◌∷◌, Some, Err}
use Rattle.text.specs.Ascii.{ascii}
use Rattle.text.specs.Walk.{lead}
use Rattle.text.specs.Utf8.{valid_up_to, char_len, long_char, second3, second4}
use Rattle.letters.specs.Capitals.{raised}
use Rattle.letters.specs.Same.{same_raised}
use Rattle.refusals.specs.Refusals.{of_text}
use Rattle.refusals.specs.declared.Refusal.TheVariants.{TooLong}
use Rattle.tables.specs.Table.{named}
use Rattle.columns.specs.Columns.{column_names, column_named, time_on}
use Rattle.ox_model.specs.Answers.{column_by, column_answer}

a_column : column_answer (ascii "Time_On") ≡ record { refusal = 0; place = 0; column = 2 }
unfolding column_answer column_by of_text valid_up_to lead char_len column_named named column_names same_raised raised
a_column = refl

an_extra_field : column_answer (ascii "NAME") ≡ record { refusal = 0; place = 0; column = 13 }
unfolding column_answer column_by of_text valid_up_to lead char_len column_named named column_names same_raised raised
an_extra_field = refl

-- "A", then a byte that begins no character
no_text : column_answer (65 ∷ 255 ∷ []) ≡ record { refusal = 2; place = 1; column = 0 }
unfolding column_answer column_by of_text valid_up_to lead char_len long_char second3 second4 column_named named column_names same_raised raised
no_text = refl

-- a name that is too long names no column
too_long : column_by (Err TooLong) (Some time_on) ≡ record { refusal = 1; place = 0; column = 0 }
unfolding column_by
too_long = refl

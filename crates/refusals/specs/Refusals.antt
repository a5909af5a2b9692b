-- The refusals, each with its number and the place that comes with it; and which plain texts are refused.
use Rattle.std.specs.Prelude.{ℕ, ◌+◌, List, length, ltb, ⊤, Result, Ok, Err}
use Rattle.text.specs.Pick.{pick}
use Rattle.text.specs.Utf8.{valid_up_to}
use Rattle.refusals.specs.declared.Refusal.{Refusal}
use Rattle.refusals.specs.declared.Refusal.TheVariants.{TooLong, NotUtf8, UnterminatedTag, MissingLength, BadLength, TruncatedValue, NonUtf8, ManyNames, ManyRecords, FewRows, BadRow, BadName, ShortOutput, FrequencyTooHigh, InexactFrequency, OtherVersion, MalformedList, IdsNotRising, ShortTable}

abbrev pub number_of : Refusal → ℕ
number_of TooLong = 1
number_of (NotUtf8 at) = 2
number_of (UnterminatedTag at) = 3
number_of (MissingLength at name len) = 4
number_of (BadLength at name len) = 5
number_of (TruncatedValue at name len want rest) = 6
number_of (NonUtf8 at name len) = 7
number_of (ManyNames at) = 8
number_of (ManyRecords at) = 9
number_of (FewRows at) = 10
number_of BadRow = 11
number_of BadName = 12
number_of ShortOutput = 13
number_of FrequencyTooHigh = 14
number_of InexactFrequency = 15
number_of OtherVersion = 16
number_of MalformedList = 17
number_of IdsNotRising = 18
number_of ShortTable = 19

abbrev pub place_of : Refusal → ℕ
place_of TooLong = 0
place_of (NotUtf8 at) = at
place_of (UnterminatedTag at) = at
place_of (MissingLength at name len) = at
place_of (BadLength at name len) = at
place_of (TruncatedValue at name len want rest) = at
place_of (NonUtf8 at name len) = at
place_of (ManyNames at) = at
place_of (ManyRecords at) = at
place_of (FewRows at) = at
place_of BadRow = 0
place_of BadName = 0
place_of ShortOutput = 0
place_of FrequencyTooHigh = 0
place_of InexactFrequency = 0
place_of OtherVersion = 0
place_of MalformedList = 0
place_of IdsNotRising = 0
place_of ShortTable = 0

-- the name that comes with 4 to 7, by its place in the text and its length
abbrev pub name_of : Refusal → ℕ
name_of TooLong = 0
name_of (NotUtf8 at) = 0
name_of (UnterminatedTag at) = 0
name_of (MissingLength at name len) = name
name_of (BadLength at name len) = name
name_of (TruncatedValue at name len want rest) = name
name_of (NonUtf8 at name len) = name
name_of (ManyNames at) = 0
name_of (ManyRecords at) = 0
name_of (FewRows at) = 0
name_of BadRow = 0
name_of BadName = 0
name_of ShortOutput = 0
name_of FrequencyTooHigh = 0
name_of InexactFrequency = 0
name_of OtherVersion = 0
name_of MalformedList = 0
name_of IdsNotRising = 0
name_of ShortTable = 0

abbrev pub name_length_of : Refusal → ℕ
name_length_of TooLong = 0
name_length_of (NotUtf8 at) = 0
name_length_of (UnterminatedTag at) = 0
name_length_of (MissingLength at name len) = len
name_length_of (BadLength at name len) = len
name_length_of (TruncatedValue at name len want rest) = len
name_length_of (NonUtf8 at name len) = len
name_length_of (ManyNames at) = 0
name_length_of (ManyRecords at) = 0
name_length_of (FewRows at) = 0
name_length_of BadRow = 0
name_length_of BadName = 0
name_length_of ShortOutput = 0
name_length_of FrequencyTooHigh = 0
name_length_of InexactFrequency = 0
name_length_of OtherVersion = 0
name_length_of MalformedList = 0
name_length_of IdsNotRising = 0
name_length_of ShortTable = 0

-- with 6, the length that was wanted and the bytes that were left
abbrev pub wanted_of : Refusal → ℕ
wanted_of TooLong = 0
wanted_of (NotUtf8 at) = 0
wanted_of (UnterminatedTag at) = 0
wanted_of (MissingLength at name len) = 0
wanted_of (BadLength at name len) = 0
wanted_of (TruncatedValue at name len want rest) = want
wanted_of (NonUtf8 at name len) = 0
wanted_of (ManyNames at) = 0
wanted_of (ManyRecords at) = 0
wanted_of (FewRows at) = 0
wanted_of BadRow = 0
wanted_of BadName = 0
wanted_of ShortOutput = 0
wanted_of FrequencyTooHigh = 0
wanted_of InexactFrequency = 0
wanted_of OtherVersion = 0
wanted_of MalformedList = 0
wanted_of IdsNotRising = 0
wanted_of ShortTable = 0

abbrev pub left_of : Refusal → ℕ
left_of TooLong = 0
left_of (NotUtf8 at) = 0
left_of (UnterminatedTag at) = 0
left_of (MissingLength at name len) = 0
left_of (BadLength at name len) = 0
left_of (TruncatedValue at name len want rest) = rest
left_of (NonUtf8 at name len) = 0
left_of (ManyNames at) = 0
left_of (ManyRecords at) = 0
left_of (FewRows at) = 0
left_of BadRow = 0
left_of BadName = 0
left_of ShortOutput = 0
left_of FrequencyTooHigh = 0
left_of InexactFrequency = 0
left_of OtherVersion = 0
left_of MalformedList = 0
left_of IdsNotRising = 0
left_of ShortTable = 0

-- 2 where a text that stands after `before` bytes is not UTF-8
unfoldable pub of_utf8 : List ℕ → ℕ → Result ⊤ Refusal
of_utf8 s before = pick (ltb (valid_up_to s) (length s)) (Err (NotUtf8 (before + valid_up_to s))) (Ok tt)

-- 1 above 16,777,216 bytes, then 2 where it is not UTF-8
unfoldable pub of_text : List ℕ → Result ⊤ Refusal
of_text s = pick (ltb 16777216 (length s)) (Err TooLong) (pick (ltb (valid_up_to s) (length s)) (Err (NotUtf8 (valid_up_to s))) (Ok tt))

-- of two texts 1 for either, then 2 for the first, then for the second, whose places go on after the first
unfoldable pub of_texts : List ℕ → List ℕ → Result ⊤ Refusal
of_texts a b =
    pick (ltb 16777216 (length a)) (Err TooLong)
    (pick (ltb 16777216 (length b)) (Err TooLong)
    (pick (ltb (valid_up_to a) (length a)) (Err (NotUtf8 (valid_up_to a)))
    (pick (ltb (valid_up_to b) (length b)) (Err (NotUtf8 (length a + valid_up_to b))) (Ok tt))))

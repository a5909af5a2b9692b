use Rattle.mhz.proofs.TextLaws.{minus_infinity, plus_infinity, word_nan, no_word}
use Rattle.mhz.proofs.number.word.Goals as goal

pub returns-then-negative : goal.returns-then-negative
returns-then-negative c = search minus_infinity

pub returns-else-negative : goal.returns-else-negative
returns-else-negative c = search plus_infinity

pub returns-then-same_raised : goal.returns-then-same_raised
returns-then-same_raised c = search word_nan

pub returns-else-same_raised : goal.returns-else-same_raised
returns-else-same_raised c = search no_word

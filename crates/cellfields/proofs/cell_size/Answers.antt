use native.Mathlib.Omega.{arith}
use Rattle.cellfields.proofs.TextLaws.{size_words, size_megahertz, size_number, words_bound, mhz_bound}
use Rattle.cellfields.proofs.cell_size.Goals as goal

pub returns-in-Words-clause-value : goal.returns-in-Words-clause-value
returns-in-Words-clause-value c = search size_words

pub returns-in-Words-clause-upper_bound : goal.returns-in-Words-clause-upper_bound
returns-in-Words-clause-upper_bound c = search words_bound

pub returns-in-Megahertz-clause-value : goal.returns-in-Megahertz-clause-value
returns-in-Megahertz-clause-value c = search size_megahertz

pub returns-in-Megahertz-clause-upper_bound : goal.returns-in-Megahertz-clause-upper_bound
returns-in-Megahertz-clause-upper_bound c = search mhz_bound

pub returns-in-Number-clause-value : goal.returns-in-Number-clause-value
returns-in-Number-clause-value c = search size_number

pub returns-in-Number-clause-upper_bound : goal.returns-in-Number-clause-upper_bound
returns-in-Number-clause-upper_bound c = omega arith

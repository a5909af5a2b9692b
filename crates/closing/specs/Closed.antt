-- What a plan leaves in its tables: where all confirmations found room the rows of the text, fate and reason of each record, and the
-- confirmations, each in front of zeros; else nothing.
use Rattle.cards.specs.declared.Counted.{Counted}
use Rattle.std.specs.Prelude.{ℕ, ◌-◌, ◌≡◌, List, [], ◌∷◌, ◌++◌, map, length, replicate, Option, Some, None}
use Rattle.reader.specs.Table.{zeros}
use Rattle.plan.specs.Plan.{Plan}
use Rattle.entries.specs.Row.{Row, no_row}
use Rattle.plan.specs.Cards.{card_row, no_card}
use Rattle.wiped.specs.Kept.{fate_row}
use Rattle.closing.specs.Phases.{counted_by}

-- a record's fate and reason, the rest zero
abbrev pub fate_rows : List ℕ → List ℕ → List Row
fate_rows [] reasons = []
fate_rows (f ∷ fs) [] = fate_row f 0 ∷ fate_rows fs []
fate_rows (f ∷ fs) (r ∷ rs) = fate_row f r ∷ fate_rows fs rs

-- rows in front, and zero behind them
abbrev pub padded : List (List ℕ) → List ℕ → ℕ → List (List ℕ)
padded rows blank m = rows ++ replicate (m - length rows) blank

unfoldable pub closed_table : List ℕ → Option Counted → List ℕ
closed_table table (Some c) = table
closed_table table None = zeros (length table)

unfoldable pub closed_fates : Plan → ℕ → Option Counted → List Row
closed_fates p lent (Some c) = padded (fate_rows p.fates p.reasons) no_row lent
closed_fates p lent None = replicate lent no_row

unfoldable pub closed_cards : Plan → ℕ → Option Counted → List (List ℕ)
closed_cards p room (Some c) = padded (map card_row p.confirmations) no_card room
closed_cards p room None = replicate room no_card

pub record Closed (p : Plan) (was : List ℕ) (lent room : ℕ) (r : Option Counted) (table : List ℕ) (fates cards : List (List ℕ)) : Type 0 where
  pub answer : r ≡ counted_by p room
  pub tabled : table ≡ closed_table was r
  pub fated : fates ≡ closed_fates p lent r
  pub carded : cards ≡ closed_cards p room r

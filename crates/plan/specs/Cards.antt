-- A confirmation to record as a row of five numbers: the contact's id, low half first, the service's bit, and where its date stands in the text
-- and how long it is.
use Rattle.std.specs.Prelude.{ℕ, List, [], ◌∷◌, replicate}
use Rattle.index.specs.Rows.{low, high}
use Rattle.plan.specs.Confirmed.{Confirmation}

abbrev pub card_row : Confirmation → List ℕ
card_row c = low c.id ∷ high c.id ∷ c.service ∷ c.place ∷ c.len ∷ []

abbrev pub no_card : List ℕ
no_card = replicate 5 0

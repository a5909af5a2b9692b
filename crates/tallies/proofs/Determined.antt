-- Each public call's promise is met by one answer. Assumes nothing.
use mathlib.Core.Path.{sym, refl, ◌∙◌}
use Rattle.text.proofs.Once.{Once, OnceWith}
use Rattle.tallies.proofs.target_of.Reads as target-of
use Rattle.tallies.proofs.target_of.Kinds as target-of-kinds
use Rattle.tallies.proofs.is_new.Reads as is-new
use Rattle.tallies.proofs.is_new.Kinds as is-new-kinds
use Rattle.tallies.proofs.tally_with.Reads as tally-with
use Rattle.tallies.proofs.tally_with.Kinds as tally-with-kinds
use Rattle.tallies.proofs.put_card.Reads as put-card
use Rattle.tallies.proofs.put_card.Kinds as put-card-kinds
use Rattle.tallies.proofs.with_none.Reads as with_none
use Rattle.tallies.proofs.with_none.Kinds as with-none-kinds
use Rattle.tallies.proofs.services_in.Reads as services-in
use Rattle.tallies.proofs.services_in.Kinds as services-in-kinds

target_of_once : Once 1 target-of-kinds.ps target-of-kinds.r target-of.Post
target_of_once κs a x y d e p q = p ∙ sym q

is_new_once : Once 0 is-new-kinds.ps is-new-kinds.r is-new.Post
is_new_once κs a x y d e p q = p ∙ sym q

tally_with_once : Once 0 tally-with-kinds.ps tally-with-kinds.r tally-with.Post
tally_with_once κs a x y d e p q = p.0 ∙ sym q.0

-- the table of confirmations
put_card_once : OnceWith 1 put-card-kinds.ps put-card-kinds.r (λ κs d. d.0.now) put-card.Post
put_card_once κs a x y d e p q = (refl, p ∙ sym q)

with_none_once : Once 0 with-none-kinds.ps with-none-kinds.r with_none.Post
with_none_once κs a x y d e p q = p ∙ sym q

services_in_once : Once 0 services-in-kinds.ps services-in-kinds.r services-in.Post
services_in_once κs a x y d e p q = p ∙ sym q

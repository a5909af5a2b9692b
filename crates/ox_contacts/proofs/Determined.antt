-- Each exported call's promise is met by one answer. Assumes nothing.
use mathlib.Core.Path.{sym, ◌∙◌}
use Rattle.text.proofs.Once.{Once, OnceWith}
use Rattle.ox_contacts.proofs.ox_contacts_check.Reads as check
use Rattle.ox_contacts.proofs.ox_contacts_check.Kinds as check-kinds
use Rattle.ox_contacts.proofs.ox_contacts_fresh.Reads as fresh
use Rattle.ox_contacts.proofs.ox_contacts_fresh.Kinds as fresh-kinds
use Rattle.ox_contacts.proofs.ox_contacts_start.Reads as start
use Rattle.ox_contacts.proofs.ox_contacts_start.Kinds as start-kinds
use Rattle.ox_contacts.proofs.ox_contacts_append.Reads as append
use Rattle.ox_contacts.proofs.ox_contacts_append.Kinds as append-kinds
use Rattle.index.proofs.ContactLaws.{plain_once}
use Rattle.index.proofs.Agree.{Agrees, agree_two, agree_three}
use Rattle.ox_contacts.specs.contracts.ox_contacts_index as index
use Rattle.ox_contacts.specs.contracts.ox_contacts_search as search'

ox_contacts_check_once : Once 1 check-kinds.ps check-kinds.r check.Post
ox_contacts_check_once κs a x y d e p q = p ∙ sym q

ox_contacts_fresh_once : Once 1 fresh-kinds.ps fresh-kinds.r fresh.Post
ox_contacts_fresh_once κs a x y d e p q = p ∙ sym q

-- the answer and the index
ox_contacts_index_once : Agrees index.ended (λ M 𝓤 𝓛. index.clauses 𝓛) (λ κs d. d.1.0.now)
ox_contacts_index_once M 𝓤 𝓛 mem run κs a g x y d e = agree_two 𝓤 _ _ _ _ (λ p q. (p.0 ∙ sym q.0, plain_once _ _ (p.1 ∙ sym q.1)))

-- the answer with the index, and with the numbers found
ox_contacts_search_index_once : Agrees search'.ended (λ M 𝓤 𝓛. search'.clauses 𝓛) (λ κs d. d.1.1.1.0.now)
ox_contacts_search_index_once M 𝓤 𝓛 mem run κs a g x y d e = agree_three 𝓤 _ _ _ _ _ _ (λ p q. (p.0 ∙ sym q.0, plain_once _ _ (p.1.0 ∙ sym q.1.0)))

ox_contacts_search_found_once : Agrees search'.ended (λ M 𝓤 𝓛. search'.clauses 𝓛) (λ κs d. d.1.1.1.1.0.now)
ox_contacts_search_found_once M 𝓤 𝓛 mem run κs a g x y d e = agree_three 𝓤 _ _ _ _ _ _ (λ p q. (p.0 ∙ sym q.0, p.1.1 ∙ sym q.1.1))

-- the answer and the output
ox_contacts_start_once : OnceWith 1 start-kinds.ps start-kinds.r (λ κs d. d.0.now) start.Post
ox_contacts_start_once κs a x y d e p q = (p.0 ∙ sym q.0, p.1 ∙ sym q.1)

ox_contacts_append_once : OnceWith 6 append-kinds.ps append-kinds.r (λ κs d. d.0.now) append.Post
ox_contacts_append_once κs a x y d e p q = (p.0 ∙ sym q.0, p.1 ∙ sym q.1)

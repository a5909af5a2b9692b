-- Each public call's promise is met by one answer. Assumes nothing.
use mathlib.Core.Path.{◌≡◌, sym, ◌∙◌}
use contract.Lifetimes.{Lfts}
use denote.Triple.Clauses.{AtExit}
use borrow.Fn.Kinds.{Dens, res_t, ended_of}
use Rattle.text.proofs.Once.{Once}
use Rattle.tables.specs.Table.{Keyed}
use Rattle.tables.proofs.places.absent.Reads as absent
use Rattle.tables.proofs.places.absent.Kinds as absent-kinds
use Rattle.tables.proofs.places.stands.Reads as stands
use Rattle.tables.proofs.places.stands.Kinds as stands-kinds
use Rattle.tables.proofs.places.in_capitals.Reads as in_capitals_lem
use Rattle.tables.proofs.places.in_capitals.Kinds as in-capitals-kinds
use Rattle.tables.proofs.places.band_entry.Reads as band_entry_lem
use Rattle.tables.proofs.places.band_entry.Kinds as band-entry-kinds
use Rattle.tables.proofs.places.mode_entry.Reads as mode_entry_lem
use Rattle.tables.proofs.places.mode_entry.Kinds as mode-entry-kinds
use Rattle.tables.proofs.places.value_place.Reads as value-place
use Rattle.tables.proofs.places.value_place.Kinds as value-place-kinds
use Rattle.tables.proofs.places.is_absent.Reads as is-absent
use Rattle.tables.proofs.places.is_absent.Kinds as is-absent-kinds
use Rattle.tables.proofs.places.in_text.Reads as in-text
use Rattle.tables.proofs.places.in_text.Kinds as in-text-kinds
use Rattle.tables.proofs.places.is_empty.Reads as is-empty
use Rattle.tables.proofs.places.is_empty.Kinds as is-empty-kinds
use Rattle.tables.proofs.places.or_else.Reads as or_else
use Rattle.tables.proofs.places.or_else.Kinds as or-else-kinds
use Rattle.tables.proofs.places.tidy.Reads as tidy
use Rattle.tables.proofs.places.tidy.Kinds as tidy-kinds
use Rattle.tables.proofs.places.name_of.Reads as name_of
use Rattle.tables.proofs.places.name_of.Kinds as name-of-kinds
use Rattle.tables.proofs.places.part.Reads as part
use Rattle.tables.proofs.places.part.Kinds as part-kinds
use Rattle.tables.proofs.named_in.Reads as named_in
use Rattle.tables.proofs.named_in.Kinds as named-in-kinds
use Rattle.tables.proofs.name_in.Reads as name_in_lem
use Rattle.tables.proofs.name_in.Kinds as name-in-kinds
use Rattle.tables.proofs.number_at.Reads as number_at
use Rattle.tables.proofs.number_at.Kinds as number-at-kinds
use Rattle.tables.proofs.text_key.Reads as text-key
use Rattle.tables.proofs.text_key.Kinds as text-key-kinds
use Rattle.tables.proofs.first_key.Reads as first_key
use Rattle.tables.proofs.first_key.Kinds as first-key-kinds

named_in_once : Once 3 named-in-kinds.ps named-in-kinds.r named_in.Post
named_in_once κs a x y d e p q = p ∙ sym q

name_in_once : Once 2 name-in-kinds.ps name-in-kinds.r name_in_lem.Post
name_in_once κs a x y d e p q = p ∙ sym q

number_at_once : Once 1 number-at-kinds.ps number-at-kinds.r number_at.Post
number_at_once κs a x y d e p q = p ∙ sym q

text_key_once : Once 1 text-key-kinds.ps text-key-kinds.r text-key.Post
unfolding Keyed
text_key_once κs a x y d e p q = p.0 ∙ sym q.0

first_key_once : Once 1 first-key-kinds.ps first-key-kinds.r first_key.Post
first_key_once κs a x y d e p q = p ∙ sym q

absent_once : Once 0 absent-kinds.ps absent-kinds.r absent.Post
absent_once κs a x y d e p q = p ∙ sym q

stands_once : Once 0 stands-kinds.ps stands-kinds.r stands.Post
stands_once κs a x y d e p q = p ∙ sym q

in_capitals_once : Once 0 in-capitals-kinds.ps in-capitals-kinds.r in_capitals_lem.Post
in_capitals_once κs a x y d e p q = p ∙ sym q

band_entry_once : Once 0 band-entry-kinds.ps band-entry-kinds.r band_entry_lem.Post
band_entry_once κs a x y d e p q = p ∙ sym q

mode_entry_once : Once 0 mode-entry-kinds.ps mode-entry-kinds.r mode_entry_lem.Post
mode_entry_once κs a x y d e p q = p ∙ sym q

value_place_once : Once 0 value-place-kinds.ps value-place-kinds.r value-place.Post
value_place_once κs a x y d e p q = p ∙ sym q

is_absent_once : Once 0 is-absent-kinds.ps is-absent-kinds.r is-absent.Post
is_absent_once κs a x y d e p q = p ∙ sym q

in_text_once : Once 0 in-text-kinds.ps in-text-kinds.r in-text.Post
in_text_once κs a x y d e p q = p ∙ sym q

is_empty_once : Once 0 is-empty-kinds.ps is-empty-kinds.r is-empty.Post
is_empty_once κs a x y d e p q = p ∙ sym q

or_else_once : Once 0 or-else-kinds.ps or-else-kinds.r or_else.Post
or_else_once κs a x y d e p q = p ∙ sym q

tidy_once : Once 1 tidy-kinds.ps tidy-kinds.r tidy.Post
tidy_once κs a x y d e p q = p ∙ sym q

name_of_once : Once 0 name-of-kinds.ps name-of-kinds.r name_of.Post
name_of_once κs a x y d e p q = p ∙ sym q

-- the bytes of the part that comes back
part_once : (κs : Lfts 1) (a : Dens κs part-kinds.ps) (x y : (res_t part-kinds.r κs).Denot) (d e : AtExit (ended_of 1 part-kinds.ps part-kinds.r) κs)
    → part.Post κs a x d → part.Post κs a y e → x.now ≡ y.now
part_once κs a x y d e p q = p ∙ sym q

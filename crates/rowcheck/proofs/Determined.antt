-- Each public call's promise is met by one answer. Assumes nothing.
use mathlib.Core.Path.{◌≡◌, sym, ◌∙◌}
use contract.Lifetimes.{Lfts}
use denote.Triple.Clauses.{AtExit}
use borrow.Fn.Kinds.{Dens, res_t, ended_of}
use Rattle.text.proofs.Once.{Once}
use Rattle.rowcheck.proofs.is_fine.Reads as is_fine_lem
use Rattle.rowcheck.proofs.is_fine.Kinds as is-fine-kinds
use Rattle.rowcheck.proofs.count_with.Reads as count-with
use Rattle.rowcheck.proofs.count_with.Kinds as count-with-kinds
use Rattle.rowcheck.proofs.record_of.Reads as record_of
use Rattle.rowcheck.proofs.record_of.Kinds as record-of-kinds
use Rattle.rowcheck.proofs.verdict_of.Reads as verdict-of
use Rattle.rowcheck.proofs.verdict_of.Kinds as verdict-of-kinds
use Rattle.rowcheck.proofs.is_less.Reads as is-less
use Rattle.rowcheck.proofs.is_less.Kinds as is-less-kinds
use Rattle.rowcheck.proofs.is_placed.Reads as is_placed_lem
use Rattle.rowcheck.proofs.is_placed.Kinds as is-placed-kinds
use Rattle.rowcheck.proofs.is_sound.Reads as is_sound
use Rattle.rowcheck.proofs.is_sound.Kinds as is-sound-kinds
use Rattle.rowcheck.proofs.name_of.Reads as name_of
use Rattle.rowcheck.proofs.name_of.Kinds as name-of-kinds
use Rattle.rowcheck.proofs.value_of.Reads as value_of_lem
use Rattle.rowcheck.proofs.value_of.Kinds as value-of-kinds

is_fine_once : Once 0 is-fine-kinds.ps is-fine-kinds.r is_fine_lem.Post
is_fine_once κs a x y d e p q = p ∙ sym q

count_with_once : Once 0 count-with-kinds.ps count-with-kinds.r count-with.Post
count_with_once κs a x y d e p q = p ∙ sym q

record_of_once : Once 0 record-of-kinds.ps record-of-kinds.r record_of.Post
record_of_once κs a x y d e p q = p ∙ sym q

verdict_of_once : Once 1 verdict-of-kinds.ps verdict-of-kinds.r verdict-of.Post
verdict_of_once κs a x y d e p q = p ∙ sym q

is_less_once : Once 0 is-less-kinds.ps is-less-kinds.r is-less.Post
is_less_once κs a x y d e p q = p ∙ sym q

is_placed_once : Once 1 is-placed-kinds.ps is-placed-kinds.r is_placed_lem.Post
is_placed_once κs a x y d e p q = p ∙ sym q

is_sound_once : Once 1 is-sound-kinds.ps is-sound-kinds.r is_sound.Post
is_sound_once κs a x y d e p q = p ∙ sym q

-- the bytes of the part that comes back
name_of_once : (κs : Lfts 1) (a : Dens κs name-of-kinds.ps) (x y : (res_t name-of-kinds.r κs).Denot) (d e : AtExit (ended_of 1 name-of-kinds.ps name-of-kinds.r) κs)
    → name_of.Post κs a x d → name_of.Post κs a y e → x.now ≡ y.now
name_of_once κs a x y d e p q = p ∙ sym q

value_of_once : (κs : Lfts 1) (a : Dens κs value-of-kinds.ps) (x y : (res_t value-of-kinds.r κs).Denot) (d e : AtExit (ended_of 1 value-of-kinds.ps value-of-kinds.r) κs)
    → value_of_lem.Post κs a x d → value_of_lem.Post κs a y e → x.now ≡ y.now
value_of_once κs a x y d e p q = p ∙ sym q

-- Each public call's promise is met by one answer. Assumes nothing.
use mathlib.Core.Path.{◌≡◌, sym, ◌∙◌}
use contract.Lifetimes.{Lfts}
use denote.Triple.Clauses.{AtExit}
use borrow.Fn.Kinds.{Dens, res_t, ended_of}
use Rattle.text.proofs.Once.{Once}
use Rattle.text.proofs.all.Reads as all
use Rattle.text.proofs.all.Kinds as all_kinds
use Rattle.text.proofs.any.Reads as any
use Rattle.text.proofs.any.Kinds as any-kinds
use Rattle.text.proofs.inside.Reads as inside
use Rattle.text.proofs.inside.Kinds as inside-kinds
use Rattle.text.proofs.byte.Reads as byte
use Rattle.text.proofs.byte.Kinds as byte-kinds
use Rattle.text.proofs.find.Reads as find
use Rattle.text.proofs.find.Kinds as find-kinds
use Rattle.text.proofs.utf8.valid_up_to.Reads as valid_up_to
use Rattle.text.proofs.utf8.valid_up_to.Kinds as valid-up-to-kinds
use Rattle.text.proofs.utf8.is_utf8.Reads as is_utf8
use Rattle.text.proofs.utf8.is_utf8.Kinds as is-utf8-kinds
use Rattle.text.proofs.space.trim_start.Reads as trim_start
use Rattle.text.proofs.space.trim_start.Kinds as trim-start-kinds
use Rattle.text.proofs.space.trim_end.Reads as trim_end
use Rattle.text.proofs.space.trim_end.Kinds as trim-end-kinds
use Rattle.text.proofs.space.trim.Reads as trim
use Rattle.text.proofs.space.trim.Kinds as trim-kinds
use Rattle.text.proofs.space.is_blank.Reads as is_blank_lem
use Rattle.text.proofs.space.is_blank.Kinds as is-blank-kinds

all_once : Once 0 all_kinds.ps all_kinds.r all.Post
all_once κs a x y d e p q = p ∙ sym q

any_once : Once 0 any-kinds.ps any-kinds.r any.Post
any_once κs a x y d e p q = p ∙ sym q

inside_once : Once 0 inside-kinds.ps inside-kinds.r inside.Post
inside_once κs a x y d e p q = p ∙ sym q

byte_once : Once 1 byte-kinds.ps byte-kinds.r byte.Post
byte_once κs a x y d e p q = p ∙ sym q

find_once : Once 1 find-kinds.ps find-kinds.r find.Post
find_once κs a x y d e p q = p.0 ∙ sym q.0

valid_up_to_once : Once 1 valid-up-to-kinds.ps valid-up-to-kinds.r valid_up_to.Post
valid_up_to_once κs a x y d e p q = p ∙ sym q

is_utf8_once : Once 1 is-utf8-kinds.ps is-utf8-kinds.r is_utf8.Post
is_utf8_once κs a x y d e p q = p ∙ sym q

trim_start_once : Once 1 trim-start-kinds.ps trim-start-kinds.r trim_start.Post
trim_start_once κs a x y d e p q = p.0 ∙ sym q.0

trim_end_once : Once 1 trim-end-kinds.ps trim-end-kinds.r trim_end.Post
trim_end_once κs a x y d e p q = p.0 ∙ sym q.0

is_blank_once : Once 1 is-blank-kinds.ps is-blank-kinds.r is_blank_lem.Post
is_blank_once κs a x y d e p q = p ∙ sym q

-- the bytes of the part that comes back
trim_once : (κs : Lfts 1) (a : Dens κs trim-kinds.ps) (x y : (res_t trim-kinds.r κs).Denot) (d e : AtExit (ended_of 1 trim-kinds.ps trim-kinds.r) κs)
    → trim.Post κs a x d → trim.Post κs a y e → x.now ≡ y.now
trim_once κs a x y d e p q = p ∙ sym q

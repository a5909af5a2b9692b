-- Each public call's promise is met by one answer. Assumes nothing.
use mathlib.Core.Path.{sym, ◌∙◌}
use Rattle.text.proofs.Once.{Once}
use Rattle.index.proofs.code_of.Reads as code_of_lem
use Rattle.index.proofs.code_of.Kinds as code-of-kinds
use Rattle.index.proofs.number_in.Reads as number_in
use Rattle.index.proofs.number_in.Kinds as number-in-kinds
use Rattle.index.proofs.low_half.Reads as low_half_lem
use Rattle.index.proofs.low_half.Kinds as low-half-kinds
use Rattle.index.proofs.high_half.Reads as high_half_lem
use Rattle.index.proofs.high_half.Kinds as high-half-kinds
use Rattle.index.proofs.has_moment.Reads as has-moment
use Rattle.index.proofs.has_moment.Kinds as has-moment-kinds
use Rattle.index.proofs.seconds_in.Reads as seconds-in
use Rattle.index.proofs.seconds_in.Kinds as seconds-in-kinds
use Rattle.index.proofs.row_at.Reads as row_at
use Rattle.index.proofs.row_at.Kinds as row-at-kinds
use Rattle.index.proofs.contact_of.Reads as contact-of
use Rattle.index.proofs.contact_of.Kinds as contact-of-kinds
use Rattle.index.proofs.numbers_of.Reads as Numbers-of
use Rattle.index.proofs.numbers_of.Kinds as numbers-of-kinds

code_of_once : Once 3 code-of-kinds.ps code-of-kinds.r code_of_lem.Post
code_of_once κs a x y d e p q = p ∙ sym q

number_in_once : Once 0 number-in-kinds.ps number-in-kinds.r number_in.Post
number_in_once κs a x y d e p q = p ∙ sym q

low_half_once : Once 0 low-half-kinds.ps low-half-kinds.r low_half_lem.Post
low_half_once κs a x y d e p q = p ∙ sym q

high_half_once : Once 0 high-half-kinds.ps high-half-kinds.r high_half_lem.Post
high_half_once κs a x y d e p q = p ∙ sym q

has_moment_once : Once 0 has-moment-kinds.ps has-moment-kinds.r has-moment.Post
has_moment_once κs a x y d e p q = p ∙ sym q

seconds_in_once : Once 0 seconds-in-kinds.ps seconds-in-kinds.r seconds-in.Post
seconds_in_once κs a x y d e p q = p ∙ sym q

row_at_once : Once 1 row-at-kinds.ps row-at-kinds.r row_at.Post
row_at_once κs a x y d e p q = p ∙ sym q

contact_of_once : Once 0 contact-of-kinds.ps contact-of-kinds.r contact-of.Post
contact_of_once κs a x y d e p q = p ∙ sym q

numbers_of_once : Once 0 numbers-of-kinds.ps numbers-of-kinds.r Numbers-of.Post
numbers_of_once κs a x y d e p q = p ∙ sym q

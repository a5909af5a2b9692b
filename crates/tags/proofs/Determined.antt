-- Each public call's promise is met by one answer. Assumes nothing.
use mathlib.Core.Path.{sym, ◌∙◌}
use Rattle.text.proofs.Once.{Once}
use Rattle.tags.proofs.kind_of.Reads as kind-of
use Rattle.tags.proofs.kind_of.Kinds as kind-of-kinds
use Rattle.tags.proofs.next_tag.Reads as next-tag
use Rattle.tags.proofs.next_tag.Kinds as next-tag-kinds

kind_of_once : Once 1 kind-of-kinds.ps kind-of-kinds.r kind-of.Post
kind_of_once κs a x y d e p q = p ∙ sym q

next_tag_once : Once 1 next-tag-kinds.ps next-tag-kinds.r next-tag.Post
next_tag_once κs a x y d e p q = p ∙ sym q

-- Each public call's promise is met by one answer. Assumes nothing.
use mathlib.Core.Path.{sym, ◌∙◌}
use Rattle.text.proofs.Once.{Once}
use Rattle.wanted.proofs.code_of.Reads as code_of_lem
use Rattle.wanted.proofs.code_of.Kinds as code-of-kinds
use Rattle.wanted.proofs.key_at.Reads as key-at
use Rattle.wanted.proofs.key_at.Kinds as key-at-kinds
use Rattle.wanted.proofs.wanted_at.Reads as wanted-at
use Rattle.wanted.proofs.wanted_at.Kinds as wanted-at-kinds

code_of_once : Once 1 code-of-kinds.ps code-of-kinds.r code_of_lem.Post
code_of_once κs a x y d e p q = p ∙ sym q

key_at_once : Once 1 key-at-kinds.ps key-at-kinds.r key-at.Post
key_at_once κs a x y d e p q = p ∙ sym q

wanted_at_once : Once 1 wanted-at-kinds.ps wanted-at-kinds.r wanted-at.Post
wanted_at_once κs a x y d e p q = p ∙ sym q

-- Each public call's promise is met by one answer. Assumes nothing.
use mathlib.Core.Path.{sym, ◌∙◌}
use Rattle.text.proofs.Once.{Once}
use Rattle.hertz.proofs.value.Reads as value
use Rattle.hertz.proofs.value.Kinds as value-kinds
use Rattle.hertz.proofs.to_hz.Reads as to-hz
use Rattle.hertz.proofs.to_hz.Kinds as to-hz-kinds

value_once : Once 0 value-kinds.ps value-kinds.r value.Post
value_once κs a x y d e p q = p ∙ sym q

to_hz_once : Once 0 to-hz-kinds.ps to-hz-kinds.r to-hz.Post
to_hz_once κs a x y d e p q = p ∙ sym q

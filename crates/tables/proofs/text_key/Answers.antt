use native.Mathlib.Omega.{arith}
use borrow.Author.Rules.{rules}
use Rattle.tables.specs.Table.{Bytes, Keyed}
use Rattle.tables.proofs.KeyLaws.{key_long, key_end}
use Rattle.tables.proofs.text_key.Goals as goal

pub returns-then-text-gt7 : goal.returns-then-text-gt7
unfolding Keyed Bytes
returns-then-text-gt7 c = (search key_long, λ k. search (rules, arith))

pub returns : goal.returns
unfolding Keyed Bytes
returns c = (search key_end, λ k. search (rules, arith))

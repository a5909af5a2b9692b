-- The search for a byte.
use Rattle.std.specs.Prelude.{ℕ, List, get_or, eqb}
use Rattle.text.specs.Pick.{pick}

-- 1 at any byte but b, where a search for b goes on
unfoldable pub other : ℕ → List ℕ → ℕ
other b xs = pick (eqb (get_or xs 0 0) b) 0 1

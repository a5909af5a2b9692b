-- Bytes put into a lent output.
use Rattle.std.specs.Prelude.{◌≡◌, List, ℕ, ◌+◌, ◌≤◌, length}
use Rattle.std.proofs.lemmas.List.Edits.{sets}

-- w went to `at`, all else is as it was, and r is the place after it
unfoldable pub Put : ℕ → List ℕ → List ℕ → ℕ → List ℕ → Type 0
Put r was now at w = (r ≡ at + length w) × (now ≡ sets was at w)

-- the output has room for w at `at`
unfoldable pub Room : List ℕ → ℕ → List ℕ → Type 0
Room out at w = at + length w ≤ length out

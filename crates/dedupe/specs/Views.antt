-- A key over a text, and a text of it as a test looks at it: trimmed or not, in capitals or not.
use Rattle.std.specs.Prelude.{ℕ, Bool, true, false, List, ℤ, eqb, Option}
use Rattle.text.specs.Pick.{pick, either}
use Rattle.text.specs.Space.{trimmed}
use Rattle.letters.specs.Capitals.{capitals}
use Rattle.tables.specs.Place.{in_text, part, bytes}
use Rattle.tables.specs.declared.Place.{Place}
use Rattle.dedupe.specs.Keys.{in_log, in_file, natural_key, unmatched, duplicate}
use Rattle.dedupe.specs.declared.Key.{Key}

unfoldable pub cased : Bool → List ℕ → List ℕ
cased true xs = capitals xs
cased false xs = xs

abbrev pub view : Bool → Bool → List ℕ → List ℕ
view trims raises xs = cased raises (pick trims (trimmed xs) xs)

-- a place's part of the text, or the name of its entry, looked at
abbrev pub viewed : Bool → Bool → List ℕ → Place → List ℕ → List ℕ
viewed trims raises text p name = cased (either raises (eqb p.kind 2)) (pick trims (trimmed (pick (in_text p) (part text p) name)) (pick (in_text p) (part text p) name))

-- the tests on two keys, each over its text
module _ (a : List ℕ) (k : Key) (b : List ℕ) (o : Key) where
  unfoldable pub keys_in_log : Bool
  keys_in_log = in_log (bytes a k.call) (bytes a k.mode) (bytes a k.band) (bytes b o.call) (bytes b o.mode) (bytes b o.band)

  unfoldable pub keys_in_file : Bool
  keys_in_file = in_file (bytes a k.call) (bytes a k.mode) (bytes a k.band) (bytes b o.call) (bytes b o.mode) (bytes b o.band)

  unfoldable pub keys_natural : Bool
  keys_natural =
      natural_key (bytes a k.call) (bytes a k.mode) (bytes a k.band) (bytes b o.call) (bytes b o.mode) (bytes b o.band)

  unfoldable pub keys_unmatched : Bool
  keys_unmatched =
      unmatched (bytes a k.call) (bytes a k.mode) (bytes a k.band) (bytes b o.call) (bytes b o.mode) (bytes b o.band)

  unfoldable pub keys_duplicate : Option ℕ → Option ℕ → ℤ → Bool
  keys_duplicate at at' window =
      duplicate (bytes a k.call) (bytes a k.mode) (bytes a k.band) (bytes b o.call) (bytes b o.mode) (bytes b o.band) at at' window

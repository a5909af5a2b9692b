-- Laws of normalising places, one for each way out of the code. Assumes nothing.
use Rattle.std.specs.Prelude.{Option}
use mathlib.Core.Path.{◌≡◌, refl, ap, ◌∙◌}
use mathlib.Core.Bool.{Bool, true, false}
use mathlib.Core.List.{List}
use Prim.Native.Nat.{ℕ}
use Rattle.tables.specs.Table.{Keyed}
use Rattle.normalize.specs.Modes.{submodes, aliases}
use Rattle.tables.specs.Place.{absent, part, tidy, is_absent, is_empty, or_else}
use Rattle.normalize.specs.Normal.{entry_at, mode_numbers, names, parent_of_key, alias_of_key, parent_entry, alias_entry, aliased_place, split_place, normal_places}
use Rattle.tables.specs.declared.Place.{Place}
use Rattle.normalize.specs.declared.ModePair.{ModePair}
use Rattle.tables.proofs.KeyLaws.{keys_named}

-- k is the key of x
module _ (x : List ℕ) (k : ℕ) (ek : Keyed x k) where
  pub parent_of_key_lem : (q : Place) → q ≡ parent_of_key k → q ≡ parent_entry x
  unfolding parent_of_key parent_entry submodes
  parent_of_key_lem q e = e ∙ ap (λ (f : Option ℕ). entry_at (mode_numbers submodes) f) (keys_named x k (names submodes) refl ek)

  alias_of_key_lem : (a : Place) → a ≡ alias_of_key k → a ≡ alias_entry x
  unfolding alias_of_key alias_entry aliases
  alias_of_key_lem a e = e ∙ ap (λ (f : Option ℕ). entry_at (mode_numbers aliases) f) (keys_named x k (names aliases) refl ek)

  -- x is the part of the text at m
  module _ (text : List ℕ) (m : Place) (ex : x ≡ part text m) where
    pub alias_of_part : (a r : Place) → a ≡ alias_of_key k → r ≡ or_else a m → r ≡ aliased_place text m
    unfolding aliased_place
    alias_of_part a r ea er = rw (← ex, ← alias_of_key_lem a ea) er

    module _ (q : Place) (b : Bool) (eq : q ≡ parent_of_key k) (eb : b ≡ is_absent q) where
      pub split_none : (a r n : Place) → b ≡ true → a ≡ alias_of_key k → r ≡ or_else a m → n ≡ absent → record { mode = r; submode = n } ≡ split_place text m
      unfolding split_place
      split_none a r n h ea er en = rw (← alias_of_part a r ea er, ← ex, ← parent_of_key_lem q eq, ← eb, h, en) refl

      pub split_some : b ≡ false → record { mode = q; submode = m } ≡ split_place text m
      unfolding split_place
      split_some h = rw (← ex, ← parent_of_key_lem q eq, ← eb, h) refl

-- m and s are the mode and the submode, trimmed and in capitals
module _ (mt st : List ℕ) (mode submode m s : Place) (b : Bool) (em : m ≡ tidy mt mode) (es : s ≡ tidy st submode) (eb : b ≡ is_empty s) where
  pub normal_split : (r : ModePair) → b ≡ true → r ≡ split_place mt m → r ≡ normal_places mt mode st submode
  unfolding normal_places
  normal_split r h er = rw (← em, ← es, ← eb, h) er

  pub normal_joined : (x : List ℕ) (q a r : Place) → b ≡ false → x ≡ part st s → q ≡ parent_entry x → a ≡ aliased_place mt m → r ≡ or_else q a
      → record { mode = r; submode = s } ≡ normal_places mt mode st submode
  unfolding normal_places
  normal_joined x q a r h ex eq ea er = rw (← em, ← es, ← eb, h, ← ex, ← eq, ← ea, ← er) refl

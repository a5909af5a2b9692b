-- Laws of the classes of modes, and of what a look-up found. Assumes nothing.
use Rattle.std.specs.Prelude.{Option, Some, None}
use mathlib.Core.Path.{◌≡◌, refl, ◌∙◌}
use mathlib.Core.List.{List, map}
use Prim.Native.Nat.{ℕ}
use lib.ListN.{length, get_or}
use Rattle.text.specs.Space.{trimmed}
use Rattle.tables.specs.Table.{named, entry}
use Rattle.tables.specs.Modes.{Mode, modes, mode_names}
use Rattle.normalize.specs.Classes.{classes, class_numbered, class_number, class_name, class_named, class_of}
use Rattle.tables.specs.Place.{spelled, or_empty, name_at}
use Rattle.tables.specs.declared.ModeClass.{ModeClass}
use Rattle.tables.specs.declared.ModeClass.TheVariants.{Phone, Cw, Digital, Image}
use Rattle.tables.specs.declared.Name.{Name}
use Rattle.tables.proofs.TableLaws.{name_at_lem}

-- the text trimmed is x, and f is what was found of it
module _ (text x : List ℕ) (f : Option ℕ) (t : x ≡ trimmed text) where
  module _ (e : f ≡ named x (map class_name classes)) where
    pub class_named_lem : (k : ℕ) (c : ModeClass) → f ≡ Some k → c ≡ class_numbered k → Some c ≡ class_named text
    unfolding class_named class_numbered
    class_named_lem k c h q = rw (← t, ← e, h, q) refl

    pub class_unnamed : f ≡ None → None ≡ class_named text
    unfolding class_named
    class_unnamed h = rw (← t, ← e, h) refl

  module _ (e : f ≡ named x mode_names) where
    pub class_found : (k : ℕ) (c : ModeClass) → f ≡ Some k → c ≡ get_or (map (λ (m : Mode). m.class) modes) k Phone → Some c ≡ class_of text
    unfolding class_of
    class_found k c h q = rw (← t, ← e, h, q) refl

    pub class_unfound : f ≡ None → None ≡ class_of text
    unfolding class_of
    class_unfound h = rw (← t, ← e, h) refl

pub class_spelled : (c : ModeClass) (n : ℕ) (r : Name) → n ≡ class_number c
    → r ≡ name_at (map (λ (x : List ℕ). (spelled x).bytes) (map class_name classes)) (map length (map class_name classes)) n
    → r ≡ spelled (class_name c)
unfolding classes
class_spelled c n r e q = q ∙ rw e (name_at_lem (map class_name classes) (class_number c) ∙ by c)
  where
    by : (c : ModeClass) → spelled (or_empty (entry (map class_name classes) (class_number c))) ≡ spelled (class_name c)
    by Phone = refl
    by Cw = refl
    by Digital = refl
    by Image = refl

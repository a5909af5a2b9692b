-- The classes of modes: their names, the class of a mode, and the modes of a class.
use Rattle.std.specs.Prelude.{ℕ, Bool, true, false, List, [], ◌∷◌, map, length, get_or, Option, Some, None}
use Rattle.text.specs.Ascii.{ascii}
use Rattle.text.specs.Pick.{pick}
use Rattle.text.specs.Space.{trimmed}
use Rattle.tables.specs.Table.{first_from, named}
use Rattle.tables.specs.Modes.{Mode, modes, mode_names}
use Rattle.tables.specs.declared.ModeClass.{ModeClass}
use Rattle.tables.specs.declared.ModeClass.TheVariants.{Phone, Cw, Digital, Image}
use Rattle.tables.specs.declared.Span.{Span}

-- every class, in the order of their numbers from 0
unfoldable pub classes : List ModeClass
classes = Phone ∷ Cw ∷ Digital ∷ Image ∷ []

abbrev pub class_name : ModeClass → List ℕ
class_name Phone = ascii "phone"
class_name Cw = ascii "cw"
class_name Digital = ascii "digital"
class_name Image = ascii "image"

-- a class by its number
unfoldable pub class_numbered : ℕ → ModeClass
class_numbered n = get_or classes n Phone

abbrev pub class_number : ModeClass → ℕ
class_number Phone = 0
class_number Cw = 1
class_number Digital = 2
class_number Image = 3

-- the class that stands at the entry found
abbrev pub class_at : List ModeClass → Option ℕ → Option ModeClass
class_at cs (Some k) = Some (get_or cs k Phone)
class_at cs None = None

-- the class that a text names
unfoldable pub class_named : List ℕ → Option ModeClass
class_named text = class_at classes (named (trimmed text) (map class_name classes))

-- the class of the mode that a text names
unfoldable pub class_of : List ℕ → Option ModeClass
class_of text = class_at (map (λ (m : Mode). m.class) modes) (named (trimmed text) mode_names)

abbrev pub same_class : ModeClass → ModeClass → Bool
same_class Phone Phone = true
same_class Phone Cw = false
same_class Phone Digital = false
same_class Phone Image = false
same_class Cw Phone = false
same_class Cw Cw = true
same_class Cw Digital = false
same_class Cw Image = false
same_class Digital Phone = false
same_class Digital Cw = false
same_class Digital Digital = true
same_class Digital Image = false
same_class Image Phone = false
same_class Image Cw = false
same_class Image Digital = false
same_class Image Image = true

-- the names of the modes in a class, in the order of the table
abbrev pub names_in : ModeClass → List Mode → List (List ℕ)
names_in c [] = []
names_in c (m ∷ ms) = pick (same_class c m.class) (m.name ∷ names_in c ms) (names_in c ms)

unfoldable pub modes_in : ModeClass → List (List ℕ)
modes_in c = names_in c modes

-- the entries of the table of modes from the first of the class, as many as the class has
abbrev pub span_from : Option ℕ → ℕ → Span
span_from (Some k) n = record { first = k; count = n }
span_from None n = record { first = 0; count = 0 }

unfoldable pub span_of : ModeClass → Span
span_of c = span_from (first_from (λ (m : Mode). same_class c m.class) 0 modes) (length (modes_in c))

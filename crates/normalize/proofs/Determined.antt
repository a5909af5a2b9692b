-- Each public call's promise is met by one answer. Assumes nothing.
use mathlib.Core.Path.{sym, ◌∙◌}
use Rattle.text.proofs.Once.{Once}
use Rattle.normalize.proofs.modes.normalize_modes.Reads as normalize-modes
use Rattle.normalize.proofs.modes.normalize_modes.Kinds as normalize-modes-kinds
use Rattle.normalize.proofs.modes.normalize_mode.Reads as normalize-mode
use Rattle.normalize.proofs.modes.normalize_mode.Kinds as normalize-mode-kinds
use Rattle.normalize.proofs.classes.parse_class.Reads as parse-class
use Rattle.normalize.proofs.classes.parse_class.Kinds as parse-class-kinds
use Rattle.normalize.proofs.classes.mode_class.Reads as mode-class
use Rattle.normalize.proofs.classes.mode_class.Kinds as mode-class-kinds
use Rattle.normalize.proofs.classes.class_numbered.Reads as class-numbered
use Rattle.normalize.proofs.classes.class_numbered.Kinds as class-numbered-kinds
use Rattle.normalize.proofs.classes.class_number.Reads as class-number
use Rattle.normalize.proofs.classes.class_number.Kinds as class-number-kinds
use Rattle.normalize.proofs.classes.class_name.Reads as class_name_lem
use Rattle.normalize.proofs.classes.class_name.Kinds as class-name-kinds
use Rattle.normalize.proofs.classes.modes_in_class.Reads as modes-in-class
use Rattle.normalize.proofs.classes.modes_in_class.Kinds as modes-in-class-kinds

normalize_modes_once : Once 2 normalize-modes-kinds.ps normalize-modes-kinds.r normalize-modes.Post
normalize_modes_once κs a x y d e p q = p ∙ sym q

normalize_mode_once : Once 1 normalize-mode-kinds.ps normalize-mode-kinds.r normalize-mode.Post
normalize_mode_once κs a x y d e p q = p ∙ sym q

parse_class_once : Once 1 parse-class-kinds.ps parse-class-kinds.r parse-class.Post
parse_class_once κs a x y d e p q = p ∙ sym q

mode_class_once : Once 1 mode-class-kinds.ps mode-class-kinds.r mode-class.Post
mode_class_once κs a x y d e p q = p ∙ sym q

class_numbered_once : Once 0 class-numbered-kinds.ps class-numbered-kinds.r class-numbered.Post
class_numbered_once κs a x y d e p q = p ∙ sym q

class_number_once : Once 0 class-number-kinds.ps class-number-kinds.r class-number.Post
class_number_once κs a x y d e p q = p ∙ sym q

class_name_once : Once 0 class-name-kinds.ps class-name-kinds.r class_name_lem.Post
class_name_once κs a x y d e p q = p ∙ sym q

modes_in_class_once : Once 0 modes-in-class-kinds.ps modes-in-class-kinds.r modes-in-class.Post
modes_in_class_once κs a x y d e p q = p ∙ sym q

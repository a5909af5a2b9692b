-- Each public call's promise is met by one answer. Assumes nothing.
use mathlib.Core.Path.{sym, ◌∙◌}
use Rattle.text.proofs.Once.{Once}
use Rattle.times.proofs.moment_of.Reads as moment-of
use Rattle.times.proofs.moment_of.Kinds as moment-of-kinds
use Rattle.times.proofs.window.limit_of.Reads as limit-of
use Rattle.times.proofs.window.limit_of.Kinds as limit-of-kinds
use Rattle.times.proofs.window.distance.Reads as distance
use Rattle.times.proofs.window.distance.Kinds as distance-kinds
use Rattle.times.proofs.window.within_window.Reads as within-window
use Rattle.times.proofs.window.within_window.Kinds as within-window-kinds

moment_of_once : Once 2 moment-of-kinds.ps moment-of-kinds.r moment-of.Post
moment_of_once κs a x y d e p q = p ∙ sym q

distance_once : Once 0 distance-kinds.ps distance-kinds.r distance.Post
distance_once κs a x y d e p q = p ∙ sym q

within_window_once : Once 0 within-window-kinds.ps within-window-kinds.r within-window.Post
within_window_once κs a x y d e p q = p ∙ sym q

limit_of_once : Once 0 limit-of-kinds.ps limit-of-kinds.r limit-of.Post
limit_of_once κs a x y d e p q = p ∙ sym q

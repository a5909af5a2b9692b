-- Each public call's promise is met by one answer. Assumes nothing.
use mathlib.Core.Path.{sym, ◌∙◌}
use Rattle.text.proofs.Once.{Once}
use Rattle.ox_normalize.proofs.ox_band_for_freq_hz.Reads as ox-band-for-freq-hz
use Rattle.ox_normalize.proofs.ox_band_for_freq_hz.Kinds as ox-band-for-freq-hz-kinds
use Rattle.ox_normalize.proofs.ox_band_all.Reads as ox-band-all
use Rattle.ox_normalize.proofs.ox_band_all.Kinds as ox-band-all-kinds
use Rattle.ox_normalize.proofs.ox_entry_name.Reads as ox-entry-name
use Rattle.ox_normalize.proofs.ox_entry_name.Kinds as ox-entry-name-kinds
use Rattle.ox_normalize.proofs.ox_band_canonical.Reads as ox-band-canonical
use Rattle.ox_normalize.proofs.ox_band_canonical.Kinds as ox-band-canonical-kinds
use Rattle.ox_normalize.proofs.ox_band_known.Reads as ox-band-known
use Rattle.ox_normalize.proofs.ox_band_known.Kinds as ox-band-known-kinds
use Rattle.ox_normalize.proofs.ox_mode_normalize.Reads as ox-mode-normalize
use Rattle.ox_normalize.proofs.ox_mode_normalize.Kinds as ox-mode-normalize-kinds
use Rattle.ox_normalize.proofs.ox_mode_class.Reads as ox-mode-class
use Rattle.ox_normalize.proofs.ox_mode_class.Kinds as ox-mode-class-kinds
use Rattle.ox_normalize.proofs.ox_class_named.Reads as ox-class-named
use Rattle.ox_normalize.proofs.ox_class_named.Kinds as ox-class-named-kinds
use Rattle.ox_normalize.proofs.ox_class_modes.Reads as ox-class-modes
use Rattle.ox_normalize.proofs.ox_class_modes.Kinds as ox-class-modes-kinds
use Rattle.ox_normalize.proofs.ox_class_name.Reads as ox-class-name
use Rattle.ox_normalize.proofs.ox_class_name.Kinds as ox-class-name-kinds

ox_band_for_freq_hz_once : Once 0 ox-band-for-freq-hz-kinds.ps ox-band-for-freq-hz-kinds.r ox-band-for-freq-hz.Post
ox_band_for_freq_hz_once κs a x y d e p q = p ∙ sym q

ox_band_all_once : Once 0 ox-band-all-kinds.ps ox-band-all-kinds.r ox-band-all.Post
ox_band_all_once κs a x y d e p q = p ∙ sym q

ox_entry_name_once : Once 0 ox-entry-name-kinds.ps ox-entry-name-kinds.r ox-entry-name.Post
ox_entry_name_once κs a x y d e p q = p ∙ sym q

ox_band_canonical_once : Once 1 ox-band-canonical-kinds.ps ox-band-canonical-kinds.r ox-band-canonical.Post
ox_band_canonical_once κs a x y d e p q = p ∙ sym q

ox_band_known_once : Once 1 ox-band-known-kinds.ps ox-band-known-kinds.r ox-band-known.Post
ox_band_known_once κs a x y d e p q = p ∙ sym q

ox_mode_normalize_once : Once 2 ox-mode-normalize-kinds.ps ox-mode-normalize-kinds.r ox-mode-normalize.Post
ox_mode_normalize_once κs a x y d e p q = p ∙ sym q

ox_mode_class_once : Once 1 ox-mode-class-kinds.ps ox-mode-class-kinds.r ox-mode-class.Post
ox_mode_class_once κs a x y d e p q = p ∙ sym q

ox_class_named_once : Once 1 ox-class-named-kinds.ps ox-class-named-kinds.r ox-class-named.Post
ox_class_named_once κs a x y d e p q = p ∙ sym q

ox_class_modes_once : Once 0 ox-class-modes-kinds.ps ox-class-modes-kinds.r ox-class-modes.Post
ox_class_modes_once κs a x y d e p q = p ∙ sym q

ox_class_name_once : Once 0 ox-class-name-kinds.ps ox-class-name-kinds.r ox-class-name.Post
ox_class_name_once κs a x y d e p q = p ∙ sym q

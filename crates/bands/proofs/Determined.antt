-- Each public call's promise is met by one answer. Assumes nothing.
use mathlib.Core.Path.{sym, ◌∙◌}
use Rattle.text.proofs.Once.{Once}
use Rattle.bands.proofs.band_for_freq_hz.Reads as band-for-freq-hz
use Rattle.bands.proofs.band_for_freq_hz.Kinds as band-for-freq-hz-kinds
use Rattle.bands.proofs.canonical_band.Reads as canonical-band
use Rattle.bands.proofs.canonical_band.Kinds as canonical-band-kinds
use Rattle.bands.proofs.is_known_band.Reads as is-known-band
use Rattle.bands.proofs.is_known_band.Kinds as is-known-band-kinds
use Rattle.bands.proofs.known_bands.Reads as known-bands
use Rattle.bands.proofs.known_bands.Kinds as known-bands-kinds

band_for_freq_hz_once : Once 0 band-for-freq-hz-kinds.ps band-for-freq-hz-kinds.r band-for-freq-hz.Post
band_for_freq_hz_once κs a x y d e p q = p ∙ sym q

canonical_band_once : Once 1 canonical-band-kinds.ps canonical-band-kinds.r canonical-band.Post
canonical_band_once κs a x y d e p q = p ∙ sym q

is_known_band_once : Once 1 is-known-band-kinds.ps is-known-band-kinds.r is-known-band.Post
is_known_band_once κs a x y d e p q = p ∙ sym q

known_bands_once : Once 0 known-bands-kinds.ps known-bands-kinds.r known-bands.Post
known_bands_once κs a x y d e p q = p ∙ sym q

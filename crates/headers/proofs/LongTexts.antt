-- A source text above the limit makes an export's header too long. Assumes nothing.
use Rattle.std.specs.Prelude.{Ok}
use mathlib.Core.Path.{◌≡◌, refl, sym}
use mathlib.Core.Logic.{inl, inr}
use mathlib.Core.List.{List, [], ◌∷◌}
use Prim.Native.Nat.{ℕ, ◌+◌, ◌<◌}
use native.Mathlib.Omega.{arith}
use lib.ListN.{length, length-append}
use Rattle.refusals.proofs.WrittenLaws.{fit_long}
use Rattle.fields.specs.Written.{field_text, end_of_header}
use Rattle.fields.specs.Parts.{field_as}
use Rattle.headers.specs.Headers.{adif_version, program_id, program_version, created_timestamp, rigflow, export_header}
use Rattle.headers.specs.Answer.{answer_of, Long, LongRefused}
use Rattle.headers.proofs.SizeLaws.{value_in_lem}

-- the header is at least as long as each of its texts
module _ (version program created : List ℕ) where
  header_length : length (export_header version program created)
      ≡ length (field_text (field_as adif_version version)) + (length (field_text (field_as program_id rigflow)) + (length (field_text (field_as program_version program)) + (length (field_text (field_as created_timestamp created)) + length end_of_header)))
  unfolding export_header
  header_length = simp length-append refl

  header_long : Long (version ∷ program ∷ created ∷ []) → 16777216 < length (export_header version program created)
  header_long (inl h) = omega (arith, header_length, value_in_lem adif_version version)
  header_long (inr (inl h)) = omega (arith, header_length, value_in_lem program_version program)
  header_long (inr (inr (inl h))) = omega (arith, header_length, value_in_lem created_timestamp created)
  header_long (inr (inr (inr h))) = absurd h

long_refused : LongRefused
unfolding LongRefused answer_of
long_refused version program created room good long =
    rw good (sym (fit_long (Ok (length (export_header version program created))) room (length (export_header version program created)) refl (header_long version program created long)))

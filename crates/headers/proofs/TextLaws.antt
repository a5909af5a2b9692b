-- The texts in the parts in which they are put. Assumes nothing.
use mathlib.Core.Path.{◌≡◌, refl}
use mathlib.Core.List.{List, ◌++◌, append_assoc}
use Prim.Native.Nat.{ℕ}
use Rattle.fields.specs.Written.{field_text, end_of_header}
use Rattle.fields.specs.Parts.{field_as}
use Rattle.output.specs.Put.{Put, Room}
use Rattle.output.proofs.PutLaws.{put_then, room_first, room_next}
use Rattle.headers.specs.Headers.{adif_version, program_id, program_version, created_timestamp, rigflow, export_header}

-- ---- an export's header
module _ (version program created : List ℕ) where
  abbrev pub versions : List ℕ
  versions = field_text (field_as adif_version version) ++ (field_text (field_as program_id rigflow) ++ field_text (field_as program_version program))

  abbrev pub created_text : List ℕ
  created_text = field_text (field_as created_timestamp created) ++ end_of_header

  export_text : export_header version program created ≡ versions ++ created_text
  unfolding export_header
  export_text = simp append_assoc refl

  module _ (was : List ℕ) where
    pub export_first : Room was 0 (export_header version program created) → Room was 0 versions
    export_first h = room_first was 0 versions created_text (rw export_text at h)

    module _ (q : ℕ) (mid : List ℕ) (p : Put q was mid 0 versions) where
      pub export_second : Room was 0 (export_header version program created) → Room mid q created_text
      export_second h = room_next was 0 versions created_text (rw export_text at h) q mid p

      pub export_put : (r : ℕ) (now : List ℕ) → Put r mid now q created_text → Put r was now 0 (export_header version program created)
      export_put r now s = rw export_text (put_then r q was mid now 0 versions created_text p s)

-- Texts put one after the other, and a field. Assumes nothing.
use mathlib.Core.Path.{◌≡◌, refl, sym, ap, ◌∙◌}
use mathlib.Core.List.{List, [], ◌++◌, append_assoc}
use Prim.Native.Nat.{ℕ, ◌+◌, ◌≤◌, ◌<◌}
use native.Mathlib.Omega.{arith}
use lib.ListN.{length, get_or, set, length-append, length-map, get_or-map}
use lib.Seq.{sets, length-sets}
use Rattle.letters.specs.Capitals.{raised, capitals}
use Rattle.decimal.specs.Digits.{decimal}
use Rattle.output.specs.Put.{Put, Room}
use Rattle.text.proofs.StoreLaws.{sets_append}
use Rattle.output.proofs.PutLaws.{Half, half_on, half_end, room_first, room_second, room_third, put_three}
use Rattle.fields.specs.Written.{field_text}
use Rattle.fields.specs.Parts.{field_as, open_text, length_text, value_text}

-- the same for the bytes in capitals
pub raised_on : (was now : List ℕ) (at i b : ℕ) (s : List ℕ) → i < length s → b ≡ raised (get_or s i 0) → Half was now at i (capitals s) → Half was (set now (at + i) b) at (i + 1) (capitals s)
unfolding raised
raised_on was now at i b s h e p = half_on was now at i b (capitals s) (rw (length-map s raised) h) (e ∙ sym (get_or-map raised s i 0)) p

pub raised_end : (was now : List ℕ) (at : ℕ) (s : List ℕ) → Half was now at (length s) (capitals s) → Put (at + length s) was now at (capitals s)
raised_end was now at s p = half_end was now at (length s) (capitals s) (rw (length-map s raised) (omega arith)) (rw (length-map s raised) (omega arith)) p

pub room_raised : (l : List ℕ) (at : ℕ) (s : List ℕ) → Room l at (capitals s) → at + length s ≤ length l
unfolding Room
room_raised l at s h = rw (length-map s raised) at h

pub field_parts : (name value : List ℕ) → field_text (field_as name value) ≡ open_text name ++ (length_text (length value) ++ value_text value)
unfolding field_text
field_parts name value = simp append_assoc

-- ---- a field
module _ (name value : List ℕ) where
  module _ (was : List ℕ) (at : ℕ) (h : Room was at (field_text (field_as name value))) where
    whole : Room was at (open_text name ++ (length_text (length value) ++ value_text value))
    whole = rw (field_parts name value) at h

    pub field_first : Room was at (open_text name)
    field_first = room_first was at (open_text name) (length_text (length value) ++ value_text value) whole

    module _ (q : ℕ) (mid : List ℕ) (p : Put q was mid at (open_text name)) where
      pub field_second : Room mid q (length_text (length value))
      field_second = room_second was at (open_text name) (length_text (length value)) (value_text value) whole q mid p

      pub field_third : (q' : ℕ) (mid' : List ℕ) → Put q' mid mid' q (length_text (length value)) → Room mid' q' (value_text value)
      field_third = room_third was at (open_text name) (length_text (length value)) (value_text value) whole q mid p

  pub put_field_is : (was : List ℕ) (at q : ℕ) (mid : List ℕ) (q' : ℕ) (mid' : List ℕ) (r : ℕ) (now : List ℕ)
      → Put q was mid at (open_text name) → Put q' mid mid' q (length_text (length value)) → Put r mid' now q' (value_text value) → Put r was now at (field_text (field_as name value))
  put_field_is was at q mid q' mid' r now x y z =
      rw (field_parts name value) (put_three was at (open_text name) (length_text (length value)) (value_text value) q mid q' mid' r now x y z)

-- ---- what is left to put: a loop's state
unfoldable pub Left : List ℕ → List ℕ → ℕ → List ℕ → List ℕ → Type 0
Left was now at rest all = (at + length rest ≡ length all) × (sets now at rest ≡ sets was 0 all)

pub left_start : (l w : List ℕ) → Left l l 0 w w
unfolding Left
left_start l w = (omega arith, refl)

pub left_length : (was now : List ℕ) (at : ℕ) (rest all : List ℕ) → Left was now at rest all → length now ≡ length was
unfolding Left
left_length was now at rest all p = sym (length-sets now at rest) ∙ ap length p.1 ∙ length-sets was 0 all

pub left_on : (was now : List ℕ) (at : ℕ) (a rest all : List ℕ) (q : ℕ) (mid : List ℕ) → Put q now mid at a → Left was now at (a ++ rest) all → Left was mid q rest all
unfolding Left Put
left_on was now at a rest all q mid p l =
    (omega (arith, p.0, l.0, length-append a rest), rw (p.1, p.0) (sym (sets_append now at a rest)) ∙ l.1)

pub left_room : (was now : List ℕ) (at : ℕ) (a rest all : List ℕ) → Room was 0 all → Left was now at (a ++ rest) all → Room now at a
unfolding Room Left
left_room was now at a rest all r l = omega (arith, left_length was now at (a ++ rest) all l, length-append a rest, l.0)

pub left_end : (was now : List ℕ) (at : ℕ) (all : List ℕ) → Left was now at [] all → Put at was now 0 all
unfolding Left Put
left_end was now at all l = (omega (arith, l.0), l.1)

-- ---- how long a field is
pub field_size : (name value : List ℕ) (d : ℕ) → d ≡ length (decimal (length value)) → length name + length value + d + 4 ≡ length (field_text (field_as name value))
unfolding field_text
field_size name value d e =
    simp (length-append, length-map) (omega arith)

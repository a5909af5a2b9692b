-- A contact appended. Assumes nothing.
use Rattle.std.specs.Prelude.{⊤, Result, Ok, Err}
use mathlib.Core.Path.{◌≡◌, refl, sym, ap, ◌∙◌}
use mathlib.Core.Bool.{Bool, true, false}
use mathlib.Core.List.{List, [], ◌∷◌}
use Prim.Native.Nat.{ℕ, ◌+◌, ◌≤◌, ◌<◌}
use native.Mathlib.Omega.{arith}
use lib.ListN.{length, take}
use lib.Seq.{sets}
use lib.Dec.{ltb}
use borrow.Author.Tests.{le-leb, lt-leb, lt-ltb, le-ltb, ltb-false}
use Rattle.text.specs.Pick.{both, either}
use Rattle.text.proofs.BoolLaws.{cases, never, both_right}
use Rattle.output.specs.Put.{Put, Room}
use Rattle.output.proofs.PutLaws.{put_length}
use Rattle.refusals.specs.declared.Refusal.{Refusal}
use Rattle.refusals.specs.declared.Refusal.TheVariants.{TooLong, ShortOutput, MalformedList, IdsNotRising}
use Rattle.contacts.specs.Contacts.{Contact, contact, sound, sound_head, sound_texts, bytes_of, entry_text, entries_text, list_text}
use Rattle.listwriter.specs.Append.{start_as, start_after, long_texts, is_long, heading_of, placed_as, entered_as, headed_by, append_as, append_by, append_after}
use Rattle.listwriter.specs.Parts.{body_size, Counted, Behind, Entered}
use Rattle.listwriter.proofs.ReadBack.{bytes_length, small}
use Rattle.listwriter.proofs.PartLaws.{entry_length}
use Rattle.listwriter.proofs.HeadingLaws.{front_short, headed}

-- ---- behind the used bytes
module _ (was : List ℕ) (used count id services : ℕ) (call date time band mode : List ℕ) (size : ℕ) (es : size ≡ body_size call date time band mode) where
  abbrev C : Contact
  C = contact id services call date time band mode

  end_is : used + length (entry_text C) ≡ used + 2 + size
  end_is = omega (arith, entry_length call date time band mode id services)

  pub behind_long : 16777216 < used + 2 + size → Behind was was used count C (Err TooLong)
  unfolding Behind placed_as append_by
  behind_long h = (rw (end_is, lt-leb (used + 2 + size) 16777216 h) refl, refl)

  module _ (h : used + 2 + size ≤ 16777216) where
    pub behind_short : length was < used + 2 + size → Behind was was used count C (Err ShortOutput)
    unfolding Behind placed_as append_by
    behind_short g = (rw (end_is, le-leb (used + 2 + size) 16777216 h, lt-leb (used + 2 + size) (length was) g) refl, refl)

    module _ (g : used + 2 + size ≤ length was) where
      pub behind_room : Room was used (entry_text C)
      unfolding Room
      behind_room = omega (arith, end_is)

      module _ (q : ℕ) (mid : List ℕ) (p : Put q was mid used (entry_text C)) where
        pub behind_count : 5 ≤ used → Room mid 1 (bytes_of 4 (count + 1))
        unfolding Room
        behind_count k = omega (arith, put_length q was mid used (entry_text C) p, bytes_length 4 (count + 1))

        pub behind_done : (r : ℕ) (now : List ℕ) → Put r mid now 1 (bytes_of 4 (count + 1)) → Behind was now used count C (Ok (used + 2 + size))
        unfolding Behind placed_as append_by Put
        behind_done r now s = (rw (end_is, le-leb (used + 2 + size) 16777216 h, le-leb (used + 2 + size) (length was) g) refl, s.1 ∙ ap (λ (l : List ℕ). sets l 1 (bytes_of 4 (count + 1))) p.1)

-- ---- what the first tests tell
pub from_five : (was : List ℕ) (used count : ℕ) (v : Result ⊤ Refusal) → v ≡ heading_of (take used was) count → v ≡ Ok tt → 5 ≤ used
from_five was used count v ev e = omega (arith, (headed (take used was) count (sym ev ∙ e)).whole, front_short was used)

pub can_grow : (list : List ℕ) (count : ℕ) (v : Result ⊤ Refusal) → v ≡ heading_of list count → v ≡ Ok tt → count < 4294967295
can_grow list count v ev e = (headed list count (sym ev ∙ e)).grows

pub not_long : (used : ℕ) (t l : Bool) → l ≡ either (ltb 16777216 used) t → l ≡ false → used ≤ 16777216
not_long used t l e h = cases (ltb 16777216 used) (λ u. never l (e ∙ rw u refl) h) (λ u. ltb-false 16777216 used u)

-- ---- the contact
module _ (was : List ℕ) (used count top id services : ℕ) (call date time band mode : List ℕ) where
  abbrev D : Contact
  D = contact id services call date time band mode

  module _ (a b s : Bool) (ea : a ≡ sound_head id services) (eb : b ≡ sound_texts call date time band mode) (es : s ≡ both a b) where
    sound_is : s ≡ sound D
    unfolding sound
    sound_is = es ∙ rw (ea, eb) refl

    pub unsound : s ≡ false → Entered was was used count top D (Err MalformedList)
    unfolding Entered entered_as append_by
    unsound n = let z : sound D ≡ false = sym sound_is ∙ n in (rw z refl, refl)

    module _ (ns : s ≡ true) where
      good : sound D ≡ true
      good = sym sound_is ∙ ns

      pub low : id ≤ top → Entered was was used count top D (Err IdsNotRising)
      unfolding Entered entered_as append_by
      low h = (rw (good, le-ltb top id h) refl, refl)

      pub all_counted : Counted call date time band mode
      unfolding sound
      all_counted =
          let k = small call date time band mode (both_right (sound_head id services) _ good) in
          record { the_call = omega (arith, k.0); the_date = omega (arith, k.1); the_time = omega (arith, k.2); the_band = omega (arith, k.3); the_mode = omega (arith, k.4) }

      pub entered : top < id → (r : Result ℕ Refusal) (now : List ℕ) → Behind was now used count D r → Entered was now used count top D r
      unfolding Behind Entered entered_as
      entered h r now q = (q.0 ∙ sym (rw (good, lt-ltb top id h) refl), q.1)

  -- ---- the tests before it
  quiet : (why : Refusal) → Err why ≡ append_as used count top D was → was ≡ append_after used count top D was
  unfolding append_after append_by
  quiet why e = sym (rw (← e) refl)

  module _ (t l : Bool) (et : t ≡ long_texts call date time band mode) (el : l ≡ either (ltb 16777216 used) t) where
    long_is : l ≡ is_long used D
    unfolding is_long
    long_is = el ∙ rw et refl

    pub too_long : l ≡ true → Err TooLong ≡ append_as used count top D was
    unfolding append_as
    too_long h = let z : is_long used D ≡ true = sym long_is ∙ h in rw z refl

    pub too_long_out : l ≡ true → was ≡ append_after used count top D was
    too_long_out h = quiet TooLong (too_long h)

    module _ (h : l ≡ false) (v : Result ⊤ Refusal) (ev : v ≡ heading_of (take used was) count) where
      short : is_long used D ≡ false
      short = sym long_is ∙ h

      pub unheaded : (why : Refusal) → v ≡ Err why → Err why ≡ append_as used count top D was
      unfolding append_as headed_by
      unheaded why e = rw (short, ← ev, e) refl

      pub unheaded_out : (why : Refusal) → v ≡ Err why → was ≡ append_after used count top D was
      unheaded_out why e = quiet why (unheaded why e)

      module _ (e : v ≡ Ok tt) where
        module _ (r : Result ℕ Refusal) (now : List ℕ) (q : Entered was now used count top D r) where
          pub appended : r ≡ append_as used count top D was
          unfolding Entered append_as headed_by
          appended = q.0 ∙ sym (rw (short, ← ev, e) refl)

          pub appended_out : now ≡ append_after used count top D was
          unfolding Entered append_after
          appended_out = rw (← appended) q.1

-- ---- the start
pub start_short : (was : List ℕ) → length was < 5 → Err ShortOutput ≡ start_as (length was)
unfolding start_as
start_short was h = rw (lt-ltb (length was) 5 h) refl

pub start_short_out : (was : List ℕ) → length was < 5 → was ≡ start_after was
unfolding start_after
start_short_out was h = rw (lt-ltb (length was) 5 h) refl

pub start_room : (was : List ℕ) → 5 ≤ length was → Room was 0 (1 ∷ 0 ∷ 0 ∷ 0 ∷ 0 ∷ [])
unfolding Room
start_room was h = h

pub start_done : (was now : List ℕ) (r : ℕ) → 5 ≤ length was → Put r was now 0 (1 ∷ 0 ∷ 0 ∷ 0 ∷ 0 ∷ []) → Ok r ≡ start_as (length was)
unfolding start_as Put
start_done was now r h p = rw (le-ltb (length was) 5 h) (ap Ok p.0)

pub start_done_out : (was now : List ℕ) (r : ℕ) → 5 ≤ length was → Put r was now 0 (1 ∷ 0 ∷ 0 ∷ 0 ∷ 0 ∷ []) → now ≡ start_after was
unfolding start_after Put list_text bytes_of entries_text
start_done_out was now r h p = rw (le-ltb (length was) 5 h) p.1

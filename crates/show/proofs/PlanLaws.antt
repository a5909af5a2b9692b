-- The summary behind the lines, and the other two answers. Assumes nothing.
use Rattle.std.specs.Prelude.{Result, Ok, IsOk}
use mathlib.Core.Path.{◌≡◌, refl, sym, ap, ◌∙◌}
use mathlib.Core.Bool.{Bool, true, false}
use mathlib.Core.List.{List, [], ◌++◌}
use Prim.Native.Nat.{ℕ, ◌+◌, ◌≤◌}
use native.Mathlib.Omega.{arith}
use lib.Dec.{eqb, ltb}
use lib.ListN.{length, take, drop, replicate, length-replicate}
use lib.Seq.{sets, sets-eq, take_at, length-sets, length-take-le}
use borrow.Author.Tests.{le-ltb}
use Rattle.text.specs.Pick.{pick}
use Rattle.text.specs.Ascii.{ascii}
use Rattle.decimal.specs.Digits.{decimal}
use Rattle.output.specs.Put.{Put, Room}
use Rattle.output.proofs.PutLaws.{put_then, put_length, put_next, room_first, room_next}
use Rattle.refusals.specs.declared.Refusal.{Refusal}
use Rattle.refusals.specs.Refusals.{number_of, place_of}
use Rattle.summary.specs.declared.Counts.{Counts}
use Rattle.summary.specs.Summary.{counted, dot, further, part, found, confirmed, left_out, summary_text, answer_to, output_after}
use Rattle.plan.specs.Fates.{fates_in}
use Rattle.plan.specs.Plan.{counts_with}
use Rattle.show.specs.Shown.{blank, newline, lines_of, plan_text, has_place, told_text, refused_text, too_long_text}
use Rattle.show.proofs.LineLaws.{few, joined_few, picked_few, lines_few}

-- ---- how long a summary is
module _ (n k : ℕ) (one many : List ℕ) (p : length one ≤ k) (q : length many ≤ k) where
  counted_few : length (counted n one many) ≤ 20 + k
  unfolding counted
  counted_few = joined_few (decimal n) (pick (eqb n 1) one many) 20 k (few n) (picked_few (eqb n 1) one many k p q)

  further_few : length (further n one many) ≤ 24 + k
  unfolding further
  further_few = omega (arith, joined_few dot (counted n one many) 4 (20 + k) (omega arith) counted_few)

  part_few : length (part n one many) ≤ 24 + k
  unfolding part
  part_few = picked_few (eqb n 0) [] (further n one many) (24 + k) (omega arith) further_few

found_few : (total importable : ℕ) → length (found total importable) ≤ 62
unfolding found
found_few total importable =
    joined_few (counted total (ascii " record") (ascii " records")) (further importable (ascii " to import") (ascii " to import")) 28 34
    (counted_few total 8 (ascii " record") (ascii " records") (omega arith) (omega arith))
    (further_few importable 10 (ascii " to import") (ascii " to import") (omega arith) (omega arith))

confirmed_few : (confirmations already : ℕ) → length (confirmed confirmations already) ≤ 80
unfolding confirmed
confirmed_few confirmations already =
    joined_few (part confirmations (ascii " confirmation") (ascii " confirmations")) (part already (ascii " already confirmed") (ascii " already confirmed")) 38 42
    (part_few confirmations 14 (ascii " confirmation") (ascii " confirmations") (omega arith) (omega arith))
    (part_few already 18 (ascii " already confirmed") (ascii " already confirmed") (omega arith) (omega arith))

left_few : (duplicates unmatched unusable : ℕ) → length (left_out duplicates unmatched unusable) ≤ 126
unfolding left_out
left_few duplicates unmatched unusable =
    joined_few (part duplicates (ascii " duplicate (skipped)") (ascii " duplicates (skipped)")) (part unmatched (ascii " confirmation unmatched") (ascii " confirmations unmatched") ++ part unusable (ascii " unusable") (ascii " unusable")) 45 81
    (part_few duplicates 21 (ascii " duplicate (skipped)") (ascii " duplicates (skipped)") (omega arith) (omega arith))
    (joined_few (part unmatched (ascii " confirmation unmatched") (ascii " confirmations unmatched")) (part unusable (ascii " unusable") (ascii " unusable")) 48 33
    (part_few unmatched 24 (ascii " confirmation unmatched") (ascii " confirmations unmatched") (omega arith) (omega arith))
    (part_few unusable 9 (ascii " unusable") (ascii " unusable") (omega arith) (omega arith)))

pub summary_few : (c : Counts) → length (summary_text c) ≤ 268
unfolding summary_text
summary_few c =
    joined_few (found c.total c.importable) (confirmed c.confirmations c.already_confirmed ++ left_out c.duplicates c.unmatched c.unusable) 62 206
    (found_few c.total c.importable)
    (joined_few (confirmed c.confirmations c.already_confirmed) (left_out c.duplicates c.unmatched c.unusable) 80 126
    (confirmed_few c.confirmations c.already_confirmed)
    (left_few c.duplicates c.unmatched c.unusable))

-- ---- the summary written into 512 bytes of its own
abbrev own : List ℕ
own = replicate 512 0

module _ (c : Counts) where
  fits : 0 + length (summary_text c) ≤ length own
  fits = omega (arith, summary_few c, length-replicate {A = ℕ} 512 0)

  tested : ltb (length own) (length (summary_text c)) ≡ false
  tested = le-ltb (length own) (length (summary_text c)) (omega (arith, fits))

  module _ (line : Result ℕ Refusal) (e : line ≡ answer_to c own) where
    written : line ≡ Ok (length (summary_text c))
    unfolding answer_to
    written = e ∙ rw tested refl

    pub is_written : IsOk line
    is_written = rw written refl

    module _ (n : ℕ) (en : line ≡ Ok n) where
      size_is : n ≡ length (summary_text c)
      size_is = let y : ◌≡◌ {A = Result ℕ Refusal} (Ok n) (Ok (length (summary_text c))) = sym en ∙ written in cc

      module _ (now : List ℕ) (ew : now ≡ output_after c own) where
        now_is : now ≡ sets own 0 (summary_text c)
        unfolding output_after
        now_is = ew ∙ rw tested refl

        pub size_within : n ≤ length now
        size_within = omega (arith, size_is, fits, ap length now_is, length-sets own 0 (summary_text c))

        pub front_size : n ≡ length (take n now)
        front_size = sym (length-take-le n now size_within)

        front_is : take n now ≡ summary_text c
        front_is = rw (size_is, now_is, sets-eq (summary_text c) own 0 fits, take_at (summary_text c) (drop (0 + length (summary_text c)) own) (length (summary_text c)) refl)

        module _ (was : List ℕ) (at : ℕ) where
          pub front_room : Room was at (summary_text c) → Room was at (take n now)
          front_room h = rw front_is h

          pub front_put : (r : ℕ) (after : List ℕ) → Put r was after at (take n now) → Put r was after at (summary_text c)
          front_put r after p = rw front_is at p

-- ---- it stands behind the lines
module _ (rows : List (List ℕ)) (n : ℕ) (was : List ℕ) (q : ℕ) (mid : List ℕ) (p : Put q was mid 0 (lines_of rows n)) where
  module _ (g : n ≤ 3000) (h : 196608 ≤ length was) where
    pub summary_room : (c : Counts) → Room mid q (summary_text c)
    unfolding Room
    summary_room c =
        omega (arith, put_length q was mid 0 (lines_of rows n) p, put_next q was mid 0 (lines_of rows n) p, lines_few rows n, summary_few c)

    pub newline_room : (c : Counts) (q' : ℕ) (mid' : List ℕ) → Put q' mid mid' q (summary_text c) → Room mid' q' newline
    unfolding Room
    newline_room c q' mid' p' =
        omega (arith, put_length q was mid 0 (lines_of rows n) p, put_next q was mid 0 (lines_of rows n) p, lines_few rows n, summary_few c, put_length q' mid mid' q (summary_text c) p', put_next q' mid mid' q (summary_text c) p')

  pub plan_put : (confirmations already unmatched : ℕ) (c : Counts) → c ≡ counts_with (fates_in rows n) confirmations already unmatched → (q' : ℕ) (mid' : List ℕ) → Put q' mid mid' q (summary_text c) → (r : ℕ) (now : List ℕ) → Put r mid' now q' newline → Put r was now 0 (plan_text rows n confirmations already unmatched)
  unfolding plan_text
  plan_put confirmations already unmatched c e q' mid' p' r now s =
      rw (← e) (put_then r q was mid now 0 (lines_of rows n) (summary_text c ++ newline) p (put_then r q' mid mid' now q (summary_text c) newline p' s))

-- ---- one line for a refusal: its number of at most 20 digits, its place and a byte behind each
module _ (n at : ℕ) where
  pub told_few : length (told_text n at) ≤ 42
  unfolding told_text
  told_few =
      picked_few (has_place n) ((decimal n ++ blank) ++ (decimal at ++ newline)) (decimal n ++ newline) 42
      (joined_few (decimal n ++ blank) (decimal at ++ newline) 21 21
      (joined_few (decimal n) blank 20 1 (few n) (omega arith))
      (joined_few (decimal at) newline 20 1 (few at) (omega arith)))
      (omega (arith, joined_few (decimal n) newline 20 1 (few n) (omega arith)))

  module _ (was : List ℕ) (to : ℕ) (b : Bool) (e : b ≡ has_place n) where
    module _ (h : b ≡ true) where
      abbrev placed : List ℕ
      placed = (decimal n ++ blank) ++ (decimal at ++ newline)

      told_is : told_text n at ≡ placed
      unfolding told_text
      told_is = rw (← e, h) refl

      pub number_room : Room was to (told_text n at) → Room was to (decimal n ++ blank)
      number_room r = room_first was to (decimal n ++ blank) (decimal at ++ newline) (rw told_is at r)

      module _ (q : ℕ) (mid : List ℕ) (p : Put q was mid to (decimal n ++ blank)) where
        pub place_room : Room was to (told_text n at) → Room mid q (decimal at ++ newline)
        place_room r = room_next was to (decimal n ++ blank) (decimal at ++ newline) (rw told_is at r) q mid p

        pub place_put : (r : ℕ) (now : List ℕ) → Put r mid now q (decimal at ++ newline) → Put r was now to (told_text n at)
        place_put r now s = rw told_is (put_then r q was mid now to (decimal n ++ blank) (decimal at ++ newline) p s)

    module _ (h : b ≡ false) where
      bare_is : told_text n at ≡ decimal n ++ newline
      unfolding told_text
      bare_is = rw (← e, h) refl

      pub bare_room : Room was to (told_text n at) → Room was to (decimal n ++ newline)
      bare_room r = rw bare_is at r

      pub bare_put : (r : ℕ) (now : List ℕ) → Put r was now to (decimal n ++ newline) → Put r was now to (told_text n at)
      bare_put r now s = rw bare_is s

pub refusal_few : (why : Refusal) → length (refused_text why) ≤ 50
unfolding refused_text
refusal_few why =
    joined_few (ascii "refused ") (told_text (number_of why) (place_of why)) 8 42 (omega arith) (told_few (number_of why) (place_of why))

module _ (why : Refusal) (was : List ℕ) (h : 196608 ≤ length was) where
  refused_room : Room was 0 (refused_text why)
  unfolding Room
  refused_room = omega (arith, refusal_few why)

  pub refused_first : Room was 0 (ascii "refused ")
  unfolding refused_text
  refused_first = room_first was 0 (ascii "refused ") (told_text (number_of why) (place_of why)) refused_room

  module _ (n at : ℕ) (e : n ≡ number_of why) (f : at ≡ place_of why) (q : ℕ) (mid : List ℕ) (p : Put q was mid 0 (ascii "refused ")) where
    pub refused_next : Room mid q (told_text n at)
    unfolding refused_text
    refused_next = rw (e, f) (room_next was 0 (ascii "refused ") (told_text (number_of why) (place_of why)) refused_room q mid p)

    pub refused_put : (r : ℕ) (now : List ℕ) → Put r mid now q (told_text n at) → Put r was now 0 (refused_text why)
    unfolding refused_text
    refused_put r now s = put_then r q was mid now 0 (ascii "refused ") (told_text (number_of why) (place_of why)) p (rw (e, f) at s)

pub too_long_room : (was : List ℕ) → 196608 ≤ length was → Room was 0 too_long_text
unfolding Room
too_long_room was h = omega arith

-- The line in the parts in which it is put, and the answer. Assumes nothing.
use Rattle.std.specs.Prelude.{Ok, Err}
use mathlib.Core.Path.{◌≡◌, refl}
use mathlib.Core.List.{List, [], ◌++◌}
use Prim.Native.Nat.{ℕ, ◌≤◌, ◌<◌}
use native.Mathlib.Omega.{arith}
use lib.ListN.{length}
use lib.Dec.{eqb}
use borrow.Author.Tests.{eq-eqb, ne_eqb, lt-ltb, le-ltb}
use Rattle.text.specs.Pick.{pick}
use Rattle.text.specs.Ascii.{ascii}
use Rattle.decimal.specs.Digits.{decimal}
use Rattle.output.specs.Put.{Put, Room}
use Rattle.output.proofs.PutLaws.{put_none, put_then, room_first, room_next, put_next}
use Rattle.refusals.specs.declared.Refusal.TheVariants.{ShortOutput}
use Rattle.summary.specs.declared.Counts.{Counts}
use Rattle.summary.specs.Summary.{counted, dot, further, part, found, confirmed, left_out, summary_text, answer_to, output_after}

-- ---- a number and what it counts
module _ (n : ℕ) (one many : List ℕ) where
  pub part_none : n ≡ 0 → part n one many ≡ []
  unfolding part
  part_none e = rw (eq-eqb n 0 e) refl

  pub part_some : (n ≡ 0 → ⊥) → part n one many ≡ further n one many
  unfolding part
  part_some e = rw (ne_eqb n 0 e) refl

  module _ (was : List ℕ) (at : ℕ) where
    pub counted_first : Room was at (counted n one many) → Room was at (decimal n)
    unfolding counted
    counted_first h = room_first was at (decimal n) (pick (eqb n 1) one many) h

    module _ (q : ℕ) (mid : List ℕ) (p : Put q was mid at (decimal n)) (name : List ℕ) (e : name ≡ pick (eqb n 1) one many) where
      pub counted_next : Room was at (counted n one many) → Room mid q name
      unfolding counted
      counted_next h = room_next was at (decimal n) name (rw (← e) at h) q mid p

      pub counted_put : (r : ℕ) (now : List ℕ) → Put r mid now q name → Put r was now at (counted n one many)
      unfolding counted
      counted_put r now s = rw (← e) (put_then r q was mid now at (decimal n) name p s)

    pub further_first : Room was at (further n one many) → Room was at dot
    unfolding further
    further_first h = room_first was at dot (counted n one many) h

    module _ (q : ℕ) (mid : List ℕ) (p : Put q was mid at dot) where
      pub further_next : Room was at (further n one many) → Room mid q (counted n one many)
      unfolding further
      further_next h = room_next was at dot (counted n one many) h q mid p

      pub further_put : (r : ℕ) (now : List ℕ) → Put r mid now q (counted n one many) → Put r was now at (further n one many)
      unfolding further
      further_put r now s = put_then r q was mid now at dot (counted n one many) p s

    pub none_put : n ≡ 0 → Put at was was at (part n one many)
    none_put e = rw (part_none e) (put_none was at)

    module _ (e : n ≡ 0 → ⊥) where
      pub some_room : Room was at (part n one many) → Room was at (further n one many)
      some_room h = rw (part_some e) at h

      pub some_put : (r : ℕ) (now : List ℕ) → Put r was now at (further n one many) → Put r was now at (part n one many)
      some_put r now p = rw (part_some e) p

-- ---- the three parts of the line
module _ (was : List ℕ) (at : ℕ) where
  module _ (total importable : ℕ) where
    abbrev records : List ℕ
    records = counted total (ascii " record") (ascii " records")

    abbrev to_import : List ℕ
    to_import = further importable (ascii " to import") (ascii " to import")

    pub found_first : Room was at (found total importable) → Room was at records
    unfolding found
    found_first h = room_first was at records to_import h

    module _ (q : ℕ) (mid : List ℕ) (p : Put q was mid at records) where
      pub found_next : Room was at (found total importable) → Room mid q to_import
      unfolding found
      found_next h = room_next was at records to_import h q mid p

      pub found_put : (r : ℕ) (now : List ℕ) → Put r mid now q to_import → Put r was now at (found total importable)
      unfolding found
      found_put r now s = put_then r q was mid now at records to_import p s

  module _ (confirmations already : ℕ) where
    abbrev new : List ℕ
    new = part confirmations (ascii " confirmation") (ascii " confirmations")

    abbrev old : List ℕ
    old = part already (ascii " already confirmed") (ascii " already confirmed")

    pub confirmed_first : Room was at (confirmed confirmations already) → Room was at new
    unfolding confirmed
    confirmed_first h = room_first was at new old h

    module _ (q : ℕ) (mid : List ℕ) (p : Put q was mid at new) where
      pub confirmed_next : Room was at (confirmed confirmations already) → Room mid q old
      unfolding confirmed
      confirmed_next h = room_next was at new old h q mid p

      pub confirmed_put : (r : ℕ) (now : List ℕ) → Put r mid now q old → Put r was now at (confirmed confirmations already)
      unfolding confirmed
      confirmed_put r now s = put_then r q was mid now at new old p s

  module _ (duplicates unmatched unusable : ℕ) where
    abbrev skipped : List ℕ
    skipped = part duplicates (ascii " duplicate (skipped)") (ascii " duplicates (skipped)")

    abbrev strange : List ℕ
    strange = part unmatched (ascii " confirmation unmatched") (ascii " confirmations unmatched")

    abbrev useless : List ℕ
    useless = part unusable (ascii " unusable") (ascii " unusable")

    pub left_first : Room was at (left_out duplicates unmatched unusable) → Room was at skipped
    unfolding left_out
    left_first h = room_first was at skipped (strange ++ useless) h

    module _ (q : ℕ) (mid : List ℕ) (p : Put q was mid at skipped) where
      pub left_second : Room was at (left_out duplicates unmatched unusable) → Room mid q strange
      unfolding left_out
      left_second h = room_first mid q strange useless (room_next was at skipped (strange ++ useless) h q mid p)

      module _ (q' : ℕ) (mid' : List ℕ) (p' : Put q' mid mid' q strange) where
        pub left_third : Room was at (left_out duplicates unmatched unusable) → Room mid' q' useless
        unfolding left_out
        left_third h = room_next mid q strange useless (room_next was at skipped (strange ++ useless) h q mid p) q' mid' p'

        pub left_put : (r : ℕ) (now : List ℕ) → Put r mid' now q' useless → Put r was now at (left_out duplicates unmatched unusable)
        unfolding left_out
        left_put r now s = put_then r q was mid now at skipped (strange ++ useless) p (put_then r q' mid mid' now q strange useless p' s)

-- ---- the line
module _ (was : List ℕ) (c : Counts) where
  abbrev head : List ℕ
  head = found c.total c.importable

  abbrev middle : List ℕ
  middle = confirmed c.confirmations c.already_confirmed

  abbrev rest : List ℕ
  rest = left_out c.duplicates c.unmatched c.unusable

  pub line_first : Room was 0 (summary_text c) → Room was 0 head
  unfolding summary_text
  line_first h = room_first was 0 head (middle ++ rest) h

  module _ (q : ℕ) (mid : List ℕ) (p : Put q was mid 0 head) where
    pub line_second : Room was 0 (summary_text c) → Room mid q middle
    unfolding summary_text
    line_second h = room_first mid q middle rest (room_next was 0 head (middle ++ rest) h q mid p)

    module _ (q' : ℕ) (mid' : List ℕ) (p' : Put q' mid mid' q middle) where
      pub line_third : Room was 0 (summary_text c) → Room mid' q' rest
      unfolding summary_text
      line_third h = room_next mid q middle rest (room_next was 0 head (middle ++ rest) h q mid p) q' mid' p'

      pub line_put : (r : ℕ) (now : List ℕ) → Put r mid' now q' rest → Put r was now 0 (summary_text c)
      unfolding summary_text
      line_put r now s = put_then r q was mid now 0 head (middle ++ rest) p (put_then r q' mid mid' now q middle rest p' s)

  module _ (k : ℕ) (e : k ≡ length (summary_text c)) where
    module _ (h : length was < k) where
      pub short : Err ShortOutput ≡ answer_to c was
      unfolding answer_to
      short = rw (← e, lt-ltb (length was) k h) refl

      pub short_out : was ≡ output_after c was
      unfolding output_after
      short_out = rw (← e, lt-ltb (length was) k h) refl

    module _ (h : k ≤ length was) where
      pub line_room : Room was 0 (summary_text c)
      unfolding Room
      line_room = omega arith

      module _ (r : ℕ) (now : List ℕ) (p : Put r was now 0 (summary_text c)) where
        pub written : Ok r ≡ answer_to c was
        unfolding answer_to
        written =
            let z : r ≡ k = omega (arith, put_next r was now 0 (summary_text c) p) in
            rw (← e, le-ltb (length was) k h, z) refl

        pub written_out : now ≡ output_after c was
        unfolding output_after Put
        written_out = rw (← e, le-ltb (length was) k h) p.1

-- A turn of the reading, by the tag at its place. Assumes nothing.
use Rattle.std.specs.Prelude.{Option, Some, None, Result, Ok, Err}
use Rattle.tags.specs.declared.Tag.TheVariants
use Rattle.tags.specs.declared.Tag.{Tag}
use Rattle.reader.specs.declared.Reading.{Reading}
use mathlib.Core.Logic.{◌⊎◌, inl, inr}
use mathlib.Core.Path.{◌≡◌, refl, ◌∙◌}
use mathlib.Core.List.{List, [], ◌∷◌}
use Prim.Native.Nat.{ℕ, ◌+◌, ◌/◌, ◌≤◌, ◌<◌}
use native.Mathlib.Omega.{arith}
use lib.ListN.{length}
use mir.Syntax.{w32, w64}
use mir.Val.{Fits}
use borrow.Author.Tests.{le-leb}
use Rattle.refusals.specs.declared.Refusal.{Refusal}
use Rattle.refusals.specs.declared.Refusal.TheVariants.{ManyNames}
use Rattle.tags.specs.Tags.{tag_at}
use Rattle.tags.proofs.AheadLaws.{ahead}
use Rattle.text.specs.Run.{stop}
use Rattle.adif.specs.Records.{refused, close, finish, put}
use Rattle.adif.specs.Reading.{Row, row_name, rows}
use Rattle.hand.specs.Rows.{Inserted}
use Rattle.hand.proofs.InsertLaws.{used_is, full_is}
use Rattle.reader.specs.Stands.{Stands, Closing, Closes, Finishes, Turned, Turns}
use Rattle.reader.specs.declared.Turn.{Turn}
use Rattle.reader.specs.declared.Turn.TheVariants.{On, Over}

-- closing a record asks for no name, so the text does not matter
close_any : (s : List ℕ) (i room : ℕ) (hand : List Row) (done : List (List Row)) → close (rows s i) room hand done ≡ close (rows [] i) room hand done
close_any s i room [] done = refl
close_any s i room (h ∷ hs) done = refl

finish_any : (s : List ℕ) (i room : ℕ) (hand : List Row) (done : List (List Row)) → finish (rows s i) room hand done ≡ finish (rows [] i) room hand done
finish_any s i room hand [] = refl
finish_any s i room [] (d ∷ ds) = refl
finish_any s i room (h ∷ hs) (d ∷ ds) = refl

-- the places of a field fit 32 bits
module _ (text : List ℕ) (at : ℕ) (tag : Tag) (e : Ok tag ≡ tag_at text at) (short : length text ≤ 16777216) (i a k v n : ℕ) (h : tag ≡ TheVariants.Field i a k v n) where
  there : (at < v + n) × (v + n ≤ length text) × (a + k ≤ length text)
  there = rw h at (rw (← e) at (ahead text at))

  pub name_fits : Fits w32 a
  name_fits = omega (arith, there.2)

  pub name_length_fits : Fits w32 k
  name_length_fits = omega (arith, there.2)

  pub value_fits : Fits w32 v
  value_fits = omega (arith, there.1)

  pub value_length_fits : Fits w32 n
  value_length_fits = omega (arith, there.1)

  pub end_fits : Fits w64 (v + n)
  end_fits = omega (arith, there.1)

module _ (text : List ℕ) (at : ℕ) (hand : List Row) (closed : Reading) (hands : List Row) (before : List ℕ) where
  pub turn_refused : (w : Refusal) → Err w ≡ tag_at text at → Turns text at hand closed.records closed.rows hands before before (Err w)
  unfolding Turns
  turn_refused w e was done S = rw (← e) (refused w, refl, (refl, tt))

  module _ (after : List ℕ) (x : Result Turn Refusal) where
    abbrev Ends : Type 0
    Ends = (was : List ℕ) (done : List (List Row)) → Stands was before closed.records closed.rows done
        → Turned was after hands x (stop (finish (rows [] (length text)) (length before / 5) hand done))

    turn_end : (tag : Tag) → Ok tag ≡ tag_at text at → (tag ≡ TheVariants.End) ⊎ (tag ≡ TheVariants.Eof) → Ends → Turns text at hand closed.records closed.rows hands before after x
    unfolding Turns
    turn_end tag e (inl h) F was done S = rw (← e, h, finish_any text (length text) (length before / 5) hand done) (F was done S)
    turn_end tag e (inr h) F was done S = rw (← e, h, finish_any text (length text) (length before / 5) hand done) (F was done S)

  module _ (tag : Tag) (e : Ok tag ≡ tag_at text at) where
    module _ (h : (tag ≡ TheVariants.End) ⊎ (tag ≡ TheVariants.Eof)) (after : List ℕ) where
      pub turn_read : (r : Reading) → Finishes hand closed.records closed.rows (length text) before after (Ok r)
          → Turns text at hand closed.records closed.rows hands before after (Ok (Over r))
      unfolding Finishes
      turn_read r F = turn_end after (Ok (Over r)) tag e h (λ was done S. (_, refl, F was done S))

      pub turn_unread : (w : Refusal) → Finishes hand closed.records closed.rows (length text) before after (Err w)
          → Turns text at hand closed.records closed.rows hands before after (Err w)
      unfolding Finishes
      turn_unread w F = turn_end after (Err w) tag e h (λ was done S. (_, refl, F was done S))

    pub turn_eoh : (next : ℕ) → tag ≡ TheVariants.Eoh next
        → Turns text at hand closed.records closed.rows hands before before (Ok (On (record { at = next; held = 0; closed = closed })))
    unfolding Turns
    turn_eoh next h was done S = rw (← e, h) (done, refl, omega arith, S)

    module _ (i next : ℕ) (h : tag ≡ TheVariants.Eor i next) (after : List ℕ) where
      pub turn_eor : (r : Reading) → Closes hand closed.records closed.rows i before after (Ok r)
          → Turns text at hand closed.records closed.rows hands before after (Ok (On (record { at = next; held = 0; closed = r })))
      unfolding Turns Closes
      turn_eor r C was done S =
          let K : Closing was after (Ok r) (close (rows [] i) (length before / 5) hand done) = C was done S in
          rw (← e, h, close_any text i (length before / 5) hand done, K.1) (K.0, refl, omega arith, K.2)

      pub turn_eor_refused : (w : Refusal) → Closes hand closed.records closed.rows i before after (Err w)
          → Turns text at hand closed.records closed.rows hands before after (Err w)
      unfolding Turns Closes
      turn_eor_refused w C was done S =
          let K : Closing was after (Err w) (close (rows [] i) (length before / 5) hand done) = C was done S in
          rw (← e, h, close_any text i (length before / 5) hand done, K) (refused w, refl, (refl, tt))

    module _ (i a k v n : ℕ) (h : tag ≡ TheVariants.Field i a k v n) (kept : Option ℕ)
        (I : Inserted kept (put (row_name text) (a ∷ k ∷ v ∷ n ∷ []) hand) hands) (entry : List Row) (k₁ : length hands ≡ length entry) (k₂ : length entry ≡ 256) where
      l : length hands ≡ 256
      l = k₁ ∙ k₂

      abbrev row : Row
      row = a ∷ k ∷ v ∷ n ∷ []

      pub turn_field : (m : ℕ) → kept ≡ Some m → Turns text at hand closed.records closed.rows hands before before (Ok (On (record { at = v + n; held = m; closed = closed })))
      unfolding Turns
      turn_field m q was done S =
          let J : Inserted (Some m) (put (row_name text) row hand) hands = rw q at I in
          let w = used_is m (put (row_name text) row hand) hands J in
          rw (← e, h) (rw (le-leb (length (put (row_name text) row hand)) 256 (omega (arith, w.1, l))) (done, rw w.2, omega (arith, w.0, w.1, l), S))

      pub turn_many : kept ≡ None → Turns text at hand closed.records closed.rows hands before before (Err (ManyNames i))
      unfolding Turns
      turn_many q was done S =
          let J : Inserted None (put (row_name text) row hand) hands = rw q at I in
          rw (← e, h) (rw (rw l at (full_is (put (row_name text) row hand) hands J)) (refused (ManyNames i), refl, (refl, tt)))

-- Each record that was read has a field, and at most 256 of them; and there are at most 65,535 records. Assumes nothing.
use Rattle.std.specs.Prelude.{⊤, Result, Ok, Err}
use Rattle.tags.specs.declared.Tag.TheVariants.{End, Eof, Eoh, Eor, Field}
use Rattle.tags.specs.declared.Tag.{Tag}
use mathlib.Core.Path.{◌≡◌, refl}
use mathlib.Core.Bool.{Bool, true, false}
use mathlib.Core.List.{List, [], ◌∷◌, ◌++◌}
use Prim.Native.Nat.{ℕ, zero, suc, ◌+◌, ◌-◌, ◌≤◌, ◌<◌}
use native.Mathlib.Omega.{arith}
use lib.Dec.{leb, ltb}
use lib.ListN.{length, length-append}
use borrow.Author.Tests.{leb-true, ltb-true}
use Rattle.text.specs.Pick.{pick}
use Rattle.text.specs.Run.{Next, go, stop, follow, steps, run}
use Rattle.refusals.specs.Refusals.{of_text}
use Rattle.refusals.specs.declared.Refusal.{Refusal}
use Rattle.refusals.specs.declared.Refusal.TheVariants.{ManyNames, ManyRecords, FewRows}
use Rattle.tags.specs.Tags.{tag_at}
use Rattle.adif.specs.Records.{field, Turn, on, no, then, total, put, close, finish, act, records, refused}
use Rattle.adif.specs.Reading.{Row, RowsRead, State, row_name, rows, onto, read_by, accepted, read_tags, read_text}

abbrev pub AllFit : List (List Row) → Type 0
AllFit [] = Unit {0}
AllFit (r ∷ rs) = (0 < length r) × (length r ≤ 256) × AllFit rs

fit_snoc : (rs : List (List Row)) (r : List Row) → AllFit rs → 0 < length r → length r ≤ 256 → AllFit (rs ++ (r ∷ []))
fit_snoc [] r a h l = (h, l, tt)
fit_snoc (x ∷ xs) r a h l = (a.0, a.1, fit_snoc xs r a.2 h l)

abbrev pub Fit : List (List Row) → Type 0
Fit rs = AllFit rs × (length rs ≤ 65535)

abbrev Held : List Row → List (List Row) → Type 0
Held hand done = (length hand ≤ 256) × Fit done

abbrev FitTurn : Turn Row Refusal → Type 0
FitTurn (on hand done) = Held hand done
FitTurn (no w) = Unit {0}

abbrev pub FitRead : RowsRead → Type 0
FitRead (records rs) = Fit rs
FitRead (refused w) = Unit {0}

abbrev FitNext : Next State RowsRead → Type 0
FitNext (go at st) = Held st.0 st.1
FitNext (stop o) = FitRead o

module _ (s : List ℕ) (room : ℕ) where
  close_fit : (i : ℕ) (hand : List Row) (done : List (List Row)) → Held hand done → FitTurn (close (rows s i) room hand done)
  close_fit i [] done h = h
  close_fit i (x ∷ xs) done h = by (ltb (length done) 65535) refl (leb (total done + length (x ∷ xs)) room)
    where
      by : (t : Bool) → ltb (length done) 65535 ≡ t → (u : Bool)
          → FitTurn (pick t (pick u (on [] (done ++ ((x ∷ xs) ∷ []))) (no (FewRows i))) (no (ManyRecords i)))
      by true e true =
          let l : length done < 65535 = ltb-true (length done) 65535 e in
          (omega arith, (fit_snoc done (x ∷ xs) h.1.0 (omega arith) h.0, omega (arith, length-append done ((x ∷ xs) ∷ []))))
      by true e false = tt
      by false e u = tt

  then_fit : (t : Turn Row Refusal) → FitTurn t → FitRead (then t (λ _ done. records done))
  then_fit (on hand done) h = h.1
  then_fit (no w) h = tt

  finish_fit : (i : ℕ) (hand : List Row) (done : List (List Row)) → Held hand done → FitRead (finish (rows s i) room hand done)
  finish_fit i hand [] h = (tt, omega arith)
  finish_fit i hand (d ∷ ds) h = then_fit (close (rows s i) room hand (d ∷ ds)) (close_fit i hand (d ∷ ds) h)

  field_fit : (i : ℕ) (hand : List Row) (done : List (List Row)) (f : Row) → Held hand done → FitTurn (act (rows s i) room hand done (field f))
  field_fit i hand done f h = by (leb (length (put (row_name s) f hand)) 256) refl
    where
      by : (t : Bool) → leb (length (put (row_name s) f hand)) 256 ≡ t → FitTurn (pick t (on (put (row_name s) f hand) done) (no (ManyNames i)))
      by true e = (leb-true (length (put (row_name s) f hand)) 256 e, h.1)
      by false e = tt

  onto_fit : (next : ℕ) (t : Turn Row Refusal) → FitTurn t → FitNext (onto next t)
  onto_fit next (on hand done) h = h
  onto_fit next (no w) h = tt

  read_fit : (hand : List Row) (done : List (List Row)) → Held hand done → (t : Result Tag Refusal) → FitNext (read_by s room hand done t)
  read_fit hand done h (Ok End) = finish_fit (length s) hand done h
  read_fit hand done h (Ok Eof) = finish_fit (length s) hand done h
  read_fit hand done h (Ok (Eoh next)) = (omega arith, h.1)
  read_fit hand done h (Ok (Eor i next)) = onto_fit next (close (rows s i) room hand done) (close_fit i hand done h)
  read_fit hand done h (Ok (Field i a k v n)) =
      onto_fit (v + n) (act (rows s i) room hand done (field (a ∷ k ∷ v ∷ n ∷ []))) (field_fit i hand done (a ∷ k ∷ v ∷ n ∷ []) h)
  read_fit hand done h (Err w) = tt

  abbrev step : ℕ → State → Next State RowsRead
  step at st = read_by s room st.0 st.1 (tag_at s at)

  follow_fit : (k : ℕ → State → RowsRead) → ((at : ℕ) (st : State) → Held st.0 st.1 → FitRead (k at st)) → (x : Next State RowsRead) → FitNext x
      → FitRead (follow k x)
  follow_fit k each (go at st) h = each at st h
  follow_fit k each (stop o) h = h

  steps_fit : (f at : ℕ) (st : State) → Held st.0 st.1 → FitRead (steps step (records []) f at st)
  steps_fit zero at st h = (tt, omega arith)
  steps_fit (suc f) at st h =
      follow_fit (steps step (records []) f) (λ a t g. steps_fit f a t g) (step at st) (read_fit st.0 st.1 h (tag_at s at))

  tags_fit : FitRead (read_tags s room)
  unfolding read_tags run
  tags_fit = steps_fit (suc (length s - 0)) 0 ([], []) (omega arith, (tt, omega arith))

  pub text_fit : FitRead (read_text s room)
  unfolding read_text
  text_fit = by (of_text s)
    where
      by : (v : Result ⊤ Refusal) → FitRead (accepted v (read_tags s room))
      by (Ok tt) = tags_fit
      by (Err w) = tt

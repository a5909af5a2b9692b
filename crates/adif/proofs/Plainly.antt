-- What is read within the limits is what the items make with none; and within the limits it is read. Assumes nothing.
use mathlib.Core.Path.{◌≡◌, refl, sym, ap, ◌∙◌}
use mathlib.Core.Bool.{Bool, true, false}
use mathlib.Core.List.{List, [], ◌∷◌, ◌++◌, append-nil}
use Prim.Native.Nat.{ℕ, ◌+◌, ◌≤◌}
use native.Mathlib.Omega.{arith}
use lib.ListN.{length, length-append}
use lib.Seq.{append_snoc}
use lib.Dec.{leb, ltb}
use borrow.Author.Tests.{lt-ltb, le-leb}
use Rattle.text.specs.Pick.{pick}
use Rattle.adif.specs.Records.{Fields, Item, eoh, eor, field, Outcome, records, refused, Turn, on, no, then, total, close, finish, put, whole, meaning, last, plainly}
use Rattle.adif.specs.Limits.{Names256}

module _ {F W : Type 0} (K : Fields F W) where
  abbrev pub some : List (List F) → Bool
  some [] = false
  some (d ∷ ds) = true

  some_snoc : (done : List (List F)) (r : List F) → some (done ++ (r ∷ [])) ≡ true
  some_snoc [] r = refl
  some_snoc (d ∷ ds) r = refl

  never : (w : W) (rs : List (List F)) → refused w ≡ records rs → ⊥
  never w rs e = let z : ◌≡◌ {A = ℕ} 0 1 = cc in omega arith

  same : (a b : List (List F)) → ◌≡◌ {A = Outcome F W} (records a) (records b) → b ≡ a
  same a b e = cc

  -- a test that had to pass
  module _ (k : List F → List (List F) → Outcome F W) (w : W) (rs : List (List F)) where
    passed : (t : Bool) (o : Turn F W) → then (pick t o (no w)) k ≡ records rs → then o k ≡ records rs
    passed true o e = e
    passed false o e = absurd (never w rs e)

  module _ (room : ℕ) (rs : List (List F)) where
    -- a record that could be closed
    closed : (k : List F → List (List F) → Outcome F W) (h : F) (hs : List F) (done : List (List F)) → then (close K room (h ∷ hs) done) k ≡ records rs
        → k [] (done ++ ((h ∷ hs) ∷ [])) ≡ records rs
    closed k h hs done e =
        passed k K.few_rows rs (leb (total done + length (h ∷ hs)) room) (on [] (done ++ ((h ∷ hs) ∷ [])))
        (passed k K.many_records rs (ltb (length done) 65535) (pick (leb (total done + length (h ∷ hs)) room) (on [] (done ++ ((h ∷ hs) ∷ []))) (no K.few_rows)) e)

    finished : (hand : List F) (done : List (List F)) → finish K room hand done ≡ records rs → rs ≡ done ++ last (some done) hand
    finished hand [] e = same [] rs e
    finished [] (d ∷ ds) e = same (d ∷ ds) rs e ∙ sym (append-nil (d ∷ ds))
    finished (h ∷ hs) (d ∷ ds) e = same ((d ∷ ds) ++ ((h ∷ hs) ∷ [])) rs (closed (λ _ x. records x) h hs (d ∷ ds) e)

    pub plain_reading : (is : List (Item F)) (hand : List F) (done : List (List F)) → meaning K room hand done is whole ≡ records rs
        → rs ≡ done ++ plainly K.name hand (some done) is
    plain_reading [] hand done e = finished hand done e
    plain_reading (eoh ∷ is) hand done e = plain_reading is [] done e
    plain_reading (eor ∷ is) [] done e = plain_reading is [] done e
    plain_reading (eor ∷ is) (h ∷ hs) done e =
        plain_reading is [] (done ++ ((h ∷ hs) ∷ [])) (closed (λ x d. meaning K room x d is whole) h hs done e)
        ∙ rw (some_snoc done (h ∷ hs)) (append_snoc done (h ∷ hs) (plainly K.name [] true is))
    plain_reading (field f ∷ is) hand done e =
        plain_reading is (put K.name f hand) done
        (passed (λ x d. meaning K room x d is whole) K.many_names rs (leb (length (put K.name f hand)) 256) (on (put K.name f hand) done) e)

  pub total_append : (a b : List (List F)) → total (a ++ b) ≡ total a + total b
  total_append [] b = omega arith
  total_append (r ∷ a) b = omega (arith, total_append a b)

  -- within the limits, after `done` and with `to-come`
  module _ (room : ℕ) where
    pub record Room (done to-come : List (List F)) : Type 0 where
      pub few : length done + length to-come ≤ 65535
      pub short : total done + total to-come ≤ room

    close_in : (h : F) (hs : List F) (done rest : List (List F)) → Room done ((h ∷ hs) ∷ rest) → close K room (h ∷ hs) done ≡ on [] (done ++ ((h ∷ hs) ∷ []))
    close_in h hs done rest R =
        simp (lt-ltb (length done) 65535 (omega (arith, R.few)), le-leb (total done + length (h ∷ hs)) room (omega (arith, R.short)))

    onward : (r : List F) (done rest : List (List F)) → Room done (r ∷ rest) → Room (done ++ (r ∷ [])) rest
    onward r done rest R = record {
      few = omega (arith, R.few, length-append done (r ∷ []));
      short = omega (arith, R.short, total_append done (r ∷ []));
    }

    finish_in : (hand : List F) (done : List (List F)) → Room done (last (some done) hand) → finish K room hand done ≡ records (done ++ last (some done) hand)
    finish_in hand [] R = refl
    finish_in [] (d ∷ ds) R = ap records (sym (append-nil (d ∷ ds)))
    finish_in (h ∷ hs) (d ∷ ds) R = rw (close_in h hs (d ∷ ds) [] R)

    pub within_limits : (is : List (Item F)) (hand : List F) (done : List (List F)) → Names256 K.name hand is → Room done (plainly K.name hand (some done) is)
        → meaning K room hand done is whole ≡ records (done ++ plainly K.name hand (some done) is)
    within_limits [] hand done N R = finish_in hand done R
    within_limits (eoh ∷ is) hand done N R = within_limits is [] done N R
    within_limits (eor ∷ is) [] done N R = within_limits is [] done N R
    within_limits (eor ∷ is) (h ∷ hs) done N R =
        let next : Room (done ++ ((h ∷ hs) ∷ [])) (plainly K.name [] true is) = onward (h ∷ hs) done (plainly K.name [] true is) R in
        rw (close_in h hs done (plainly K.name [] true is) R)
        (within_limits is [] (done ++ ((h ∷ hs) ∷ [])) N (rw (some_snoc done (h ∷ hs)) next)
        ∙ rw (some_snoc done (h ∷ hs)) (ap records (append_snoc done (h ∷ hs) (plainly K.name [] true is))))
    within_limits (field f ∷ is) hand done N R =
        rw (le-leb (length (put K.name f hand)) 256 N.0) (within_limits is (put K.name f hand) done N.1 R)

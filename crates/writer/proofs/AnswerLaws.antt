-- The writer's answers, and the output with each. Assumes nothing.
use Rattle.std.specs.Prelude.{⊤, Result, Ok, Err}
use mathlib.Core.Path.{◌≡◌, refl, sym, ◌∙◌}
use mathlib.Core.List.{List}
use Prim.Native.Nat.{ℕ, ◌*◌, ◌/◌, ◌≤◌, ◌<◌}
use native.Mathlib.Omega.{arith}
use lib.ListN.{length}
use borrow.Author.Tests.{le-leb, lt-leb}
use Rattle.refusals.specs.Written.{fitted}
use Rattle.refusals.specs.declared.Refusal.{Refusal}
use Rattle.refusals.specs.declared.Refusal.TheVariants.{TooLong, BadRow}
use Rattle.refusals.proofs.WrittenLaws.{fits}
use Rattle.rowcheck.specs.Check.{check_of}
use Rattle.output.specs.Put.{Put, Room}
use Rattle.writer.specs.Rows.{rows_of, rows_text}
use Rattle.writer.specs.Answer.{sized_by, checked_of, answer_of, output_of}

pub sized : (v : Result ⊤ Refusal) (m n : ℕ) → sized_by v m ≡ Ok n → (v ≡ Ok tt) × (n ≡ m)
sized (Ok tt) m n e = (refl, cc)
sized (Err why) m n e = absurd (let z : ◌≡◌ {A = ℕ} 0 1 = cc in omega arith)

module _ (text t : List ℕ) (count : ℕ) (was : List ℕ) where
  -- a refusal leaves the output as it was
  quiet : (why : Refusal) → answer_of text t count (length was) ≡ Err why → was ≡ output_of text t count was
  unfolding output_of
  quiet why a = sym (rw a refl)

  pub long_text : 16777216 < length text → Err TooLong ≡ answer_of text t count (length was)
  unfolding answer_of
  long_text h = rw (lt-leb (length text) 16777216 h) refl

  pub long_text_out : 16777216 < length text → was ≡ output_of text t count was
  long_text_out h = quiet TooLong (sym (long_text h))

  module _ (l : length text ≤ 16777216) where
    pub many_rows : length t / 5 < count → Err BadRow ≡ answer_of text t count (length was)
    unfolding answer_of
    many_rows h = rw (le-leb (length text) 16777216 l, lt-leb count (length t / 5) h) refl

    pub many_rows_out : length t / 5 < count → was ≡ output_of text t count was
    many_rows_out h = quiet BadRow (sym (many_rows h))

    module _ (b : count ≤ length t / 5) (k : Result ℕ Refusal) (ek : k ≡ checked_of text (rows_of t count)) (f : Result ℕ Refusal) (ef : f ≡ fitted k (length was)) where
      pub in_table : count * 5 ≤ length t
      in_table = omega arith

      answer : answer_of text t count (length was) ≡ f
      unfolding answer_of
      answer = rw (le-leb (length text) 16777216 l, le-leb count (length t / 5) b, ← ek) (sym ef)

      module _ (why : Refusal) (e : f ≡ Err why) where
        pub unfit : Err why ≡ answer_of text t count (length was)
        unfit = sym (answer ∙ e)

        pub unfit_out : was ≡ output_of text t count was
        unfit_out = quiet why (answer ∙ e)

      module _ (n : ℕ) (e : f ≡ Ok n) where
        measured : (k ≡ Ok n) × (n ≤ 16777216) × (n ≤ length was)
        measured = fits n k (length was) (sym ef ∙ e)

        size_is : n ≡ length (rows_text text (rows_of t count))
        unfolding checked_of
        size_is = (sized (check_of text (rows_of t count)) (length (rows_text text (rows_of t count))) n (sym ek ∙ measured.0)).1

        pub room : Room was 0 (rows_text text (rows_of t count))
        unfolding Room
        room = omega (arith, size_is, measured.2)

        module _ (r : ℕ) (now : List ℕ) (p : Put r was now 0 (rows_text text (rows_of t count))) where
          pub done : Ok r ≡ answer_of text t count (length was)
          unfolding Put
          done =
              let z : r ≡ n = omega (arith, p.0, size_is) in
              rw z (sym (answer ∙ e))

          pub done_out : now ≡ output_of text t count was
          unfolding Put output_of
          done_out = rw (← done) p.1

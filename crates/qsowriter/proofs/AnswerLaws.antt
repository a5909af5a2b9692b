-- The answers of the QSO writer, and the output with each. Assumes nothing.
use Rattle.std.specs.Prelude.{⊤, Result, Ok, Err}
use mathlib.Core.Path.{◌≡◌, refl, sym, ap, ◌∙◌}
use mathlib.Core.Bool.{Bool, true, false}
use mathlib.Core.List.{List, []}
use Prim.Native.Nat.{ℕ, ◌*◌, ◌/◌, ◌≤◌, ◌<◌}
use native.Mathlib.Omega.{arith}
use lib.Dec.{leb}
use lib.ListN.{length}
use borrow.Author.Tests.{le-leb, lt-leb, leb-true}
use Rattle.text.specs.Pick.{pick, both, either}
use Rattle.text.proofs.BoolLaws.{both_right}
use Rattle.refusals.specs.Written.{fitted}
use Rattle.refusals.specs.declared.Refusal.{Refusal}
use Rattle.refusals.specs.declared.Refusal.TheVariants.{TooLong, BadRow, FrequencyTooHigh}
use Rattle.refusals.proofs.WrittenLaws.{fits}
use Rattle.output.specs.Put.{Put, Room}
use Rattle.headers.specs.Answer.{capped}
use Rattle.headers.proofs.AnswerLaws.{capped_fit}
use Rattle.writer.specs.Rows.{rows_of}
use Rattle.writer.specs.Answer.{sized_by}
use Rattle.writer.proofs.AnswerLaws.{sized}
use Rattle.model.specs.Answer.{is_qso}
use Rattle.model.specs.declared.Qso.{Qso}
use Rattle.cells.specs.Cells.{column_order, cells_of, cell_fields}
use Rattle.cells.specs.declared.Cell.{Cell}
use Rattle.merge.specs.Steps.{merged_text}
use Rattle.qsowriter.specs.Record.{column_fields}
use Rattle.qsowriter.specs.Writing.{contact_with, qso_text, is_too_high, extra_verdict, qso_verdict, written_to, answer_to, output_after}
use Rattle.qsowriter.specs.declared.WrittenQso.{WrittenQso}
use Rattle.qsowriter.proofs.RecordLaws.{columns_are, text_is}

-- ---- the verdict
module _ (text : List ℕ) (q : Qso) (t : List ℕ) (count : ℕ) where
  pub long_text : 16777216 < length text → Err TooLong ≡ qso_verdict text q t count
  unfolding qso_verdict
  long_text h = rw (lt-leb (length text) 16777216 h) refl

  module _ (l : length text ≤ 16777216) (x y b : Bool) (ex : x ≡ is_too_high q.freq) (ey : y ≡ is_too_high q.freq_rx) (eb : b ≡ either x y) where
    high : either (is_too_high q.freq) (is_too_high q.freq_rx) ≡ b
    high = sym (eb ∙ rw (ex, ey) refl)

    pub too_high : b ≡ true → Err FrequencyTooHigh ≡ qso_verdict text q t count
    unfolding qso_verdict
    too_high h = rw (le-leb (length text) 16777216 l, high, h) refl

    module _ (n : b ≡ false) (i : Bool) (ei : i ≡ is_qso text q) where
      pub no_qso : i ≡ false → Err BadRow ≡ qso_verdict text q t count
      unfolding qso_verdict
      no_qso h =
          let z : is_qso text q ≡ false = sym ei ∙ h in
          rw (le-leb (length text) 16777216 l, high, n, z) refl

      module _ (g : i ≡ true) where
        is_qso_lem : is_qso text q ≡ true
        is_qso_lem = sym ei ∙ g

        pub many_rows : length t / 5 < count → Err BadRow ≡ qso_verdict text q t count
        unfolding qso_verdict
        many_rows h = rw (le-leb (length text) 16777216 l, high, n, is_qso_lem, lt-leb count (length t / 5) h) refl

        module _ (few : count ≤ length t / 5) where
          pub in_table : count * 5 ≤ length t
          in_table = omega arith

          pub rows_decide : (cells : List Cell) → cells ≡ cells_of text q → (r : Result ⊤ Refusal) → r ≡ extra_verdict text (cell_fields text column_order cells) (rows_of t count)
              → r ≡ qso_verdict text q t count
          unfolding qso_verdict
          rows_decide cells ec r e =
              rw (le-leb (length text) 16777216 l, high, n, is_qso_lem, le-leb count (length t / 5) few, columns_are text q []) (e ∙ rw ec refl)

-- ---- what an accepted QSO passed
passed : (why : Refusal) (b : Bool) (v : Result ⊤ Refusal) → pick b v (Err why) ≡ Ok tt → (b ≡ true) × (v ≡ Ok tt)
passed why true v e = (refl, e)
passed why false v e = absurd (let z : ◌≡◌ {A = ℕ} 0 1 = cc in omega arith)

not_high : (why : Refusal) (b : Bool) (v : Result ⊤ Refusal) → pick b (Err why) v ≡ Ok tt → v ≡ Ok tt
not_high why true v e = absurd (let z : ◌≡◌ {A = ℕ} 0 1 = cc in omega arith)
not_high why false v e = e

module _ (text : List ℕ) (q : Qso) (t : List ℕ) (count : ℕ) (v : Result ⊤ Refusal) (ev : v ≡ qso_verdict text q t count) (ok : v ≡ Ok tt) where
  abbrev rows : Result ⊤ Refusal
  rows = extra_verdict text (column_fields (contact_with text q [])) (rows_of t count)

  abbrev after_high : Result ⊤ Refusal
  after_high = pick (both (is_qso text q) (leb count (length t / 5))) rows (Err BadRow)

  abbrev after_length : Result ⊤ Refusal
  after_length = pick (either (is_too_high q.freq) (is_too_high q.freq_rx)) (Err FrequencyTooHigh) after_high

  accepted : (leb (length text) 16777216 ≡ true) × (both (is_qso text q) (leb count (length t / 5)) ≡ true)
  unfolding qso_verdict
  accepted =
      let a : qso_verdict text q t count ≡ Ok tt = sym ev ∙ ok in
      let b = passed TooLong (leb (length text) 16777216) after_length a in
      let c = passed BadRow (both (is_qso text q) (leb count (length t / 5))) rows (not_high FrequencyTooHigh (either (is_too_high q.freq) (is_too_high q.freq_rx)) after_high b.1) in
      (b.0, c.0)

  pub accepted_short : length text ≤ 16777216
  accepted_short = leb-true (length text) 16777216 accepted.0

  pub accepted_rows : count * 5 ≤ length t
  accepted_rows =
      let few : count ≤ length t / 5 = leb-true count (length t / 5) (both_right (is_qso text q) (leb count (length t / 5)) accepted.1) in
      omega arith

-- ---- measured
module _ (v : Result ⊤ Refusal) where
  pub measured_is : v ≡ Ok tt → (text : List ℕ) (q : Qso) (t : List ℕ) (count : ℕ) → v ≡ qso_verdict text q t count → (cells : List Cell) → cells ≡ cells_of text q
      → (r : ℕ) → r ≡ capped (length (merged_text text cells t count))
      → Ok r ≡ sized_by (qso_verdict text q t count) (capped (length (qso_text text q (rows_of t count))))
  measured_is ok text q t count ev cells ec r er =
      let a : qso_verdict text q t count ≡ Ok tt = sym ev ∙ ok in
      let b : merged_text text cells t count ≡ qso_text text q (rows_of t count) = rw ec (text_is text q t count) in
      rw (a, ← b) (ap Ok er)

-- ---- written
sized_fit : (v : Result ⊤ Refusal) (k room : ℕ) → fitted (sized_by v (capped k)) room ≡ fitted (sized_by v k) room
sized_fit (Ok tt) k room = capped_fit k room
sized_fit (Err why) k room = refl

module _ (text : List ℕ) (q : Qso) (t : List ℕ) (count : ℕ) (was : List ℕ) (cells : List Cell) (ec : cells ≡ cells_of text q)
    (m : Result ℕ Refusal) (em : m ≡ sized_by (qso_verdict text q t count) (capped (length (qso_text text q (rows_of t count))))) (f : Result ℕ Refusal) (ef : f ≡ fitted m (length was)) where
  answer : f ≡ written_to text q t count (length was)
  unfolding written_to
  answer = ef ∙ rw em (sized_fit (qso_verdict text q t count) (length (qso_text text q (rows_of t count))) (length was))

  module _ (why : Refusal) (e : f ≡ Err why) where
    pub unfit : Err why ≡ written_to text q t count (length was)
    unfit = sym e ∙ answer

    pub unfit_out : was ≡ output_after text q t count was
    unfolding output_after
    unfit_out = rw (← unfit) refl

  module _ (n : ℕ) (e : f ≡ Ok n) where
    fitted_is : fitted (sized_by (qso_verdict text q t count) (length (qso_text text q (rows_of t count)))) (length was) ≡ Ok n
    unfolding written_to
    fitted_is = sym answer ∙ e

    within : (sized_by (qso_verdict text q t count) (length (qso_text text q (rows_of t count))) ≡ Ok n) × (n ≤ 16777216) × (n ≤ length was)
    within = fits n _ (length was) fitted_is

    settled : (qso_verdict text q t count ≡ Ok tt) × (n ≡ length (qso_text text q (rows_of t count)))
    settled = sized (qso_verdict text q t count) (length (qso_text text q (rows_of t count))) n within.0

    text_here : merged_text text cells t count ≡ qso_text text q (rows_of t count)
    text_here = rw ec (text_is text q t count)

    pub fit_short : length text ≤ 16777216
    fit_short = accepted_short text q t count _ refl settled.0

    pub fit_rows : count * 5 ≤ length t
    fit_rows = accepted_rows text q t count _ refl settled.0

    pub fit_room : Room was 0 (merged_text text cells t count)
    unfolding Room
    fit_room = rw text_here (omega (arith, settled.1, within.2))

    module _ (r : ℕ) (now : List ℕ) (p : Put r was now 0 (merged_text text cells t count)) where
      pub done : Ok r ≡ written_to text q t count (length was)
      unfolding Put
      done =
          let z : r ≡ n = omega (arith, p.0, settled.1, ap length text_here) in
          rw z (sym e ∙ answer)

      pub done_out : now ≡ output_after text q t count was
      unfolding Put output_after
      done_out = rw (← done, ← text_here) p.1

pub answer_is : (text : List ℕ) (q : Qso) (t : List ℕ) (count room : ℕ) (w : Result ℕ Refusal) → w ≡ written_to text q t count room
    → ◌≡◌ {A = WrittenQso} (record { written = w; qso = q }) (answer_to text q t count room)
answer_is text q t count room w e = rw e refl

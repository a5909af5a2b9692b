-- The answers, and what is UTF-8. Assumes nothing.
use Rattle.std.specs.Prelude.{Result, Ok, Err}
use mathlib.Core.Path.{◌≡◌, refl, sym, ap, ◌∙◌}
use mathlib.Core.Bool.{Bool, true, false}
use mathlib.Core.List.{List}
use Prim.Native.Nat.{ℕ}
use native.Mathlib.Omega.{arith}
use lib.ListN.{length}
use lib.Seq.{sets}
use lib.Dec.{leb}
use borrow.Author.Tests.{leb-true, leb-false}
use Rattle.refusals.specs.Written.{fitted}
use Rattle.refusals.specs.declared.Refusal.{Refusal}
use Rattle.refusals.specs.declared.Refusal.TheVariants.{BadRow}
use Rattle.refusals.proofs.WrittenLaws.{fits}
use Rattle.output.specs.Put.{Put, Room}
use Rattle.headers.specs.Headers.{journal_header}
use Rattle.headers.specs.Answer.{answer_of, capped}
use Rattle.headers.proofs.SizeLaws.{cap_small, cap_large}

-- what was measured in full fits
module _ (was w : List ℕ) (f : Result ℕ Refusal) (ef : f ≡ fitted (Ok (length w)) (length was)) (m : ℕ) (em : f ≡ Ok m) where
  size_is : m ≡ length w
  size_is =
      let q : Ok (length w) ≡ Ok m = (fits m (Ok (length w)) (length was) (sym ef ∙ em)).0 in
      cc

  pub exact_room : Room was 0 w
  unfolding Room
  exact_room = omega (arith, size_is, (fits m (Ok (length w)) (length was) (sym ef ∙ em)).2)

  module _ (r : ℕ) (now : List ℕ) (p : Put r was now 0 w) where
    pub exact_done : Ok r ≡ fitted (Ok (length w)) (length was)
    unfolding Put
    exact_done =
        let z : r ≡ m = omega (arith, p.0, size_is) in
        rw z (sym em ∙ ef)

pub done_out : (was w : List ℕ) (r : ℕ) (now : List ℕ) → Put r was now 0 w → now ≡ sets was 0 w
unfolding Put
done_out was w r now p = p.1

-- the journal's header, 45 bytes
module _ (was : List ℕ) (f : Result ℕ Refusal) (ef : f ≡ fitted (Ok 45) (length was)) where
  pub journal_not : (why : Refusal) → f ≡ Err why → Err why ≡ fitted (Ok (length journal_header)) (length was)
  journal_not why e = sym e ∙ ef

  module _ (m : ℕ) (em : f ≡ Ok m) where
    pub journal_room : Room was 0 journal_header
    journal_room = exact_room was journal_header f ef m em

    pub journal_done : (r : ℕ) (now : List ℕ) → Put r was now 0 journal_header → Ok r ≡ fitted (Ok (length journal_header)) (length was)
    journal_done = exact_done was journal_header f ef m em

-- a size that stops at 16,777,217 is refused as the size itself
pub capped_fit : (k room : ℕ) → fitted (Ok (capped k)) room ≡ fitted (Ok k) room
unfolding fitted
capped_fit k room = by (leb k 16777216) refl
  where
    by : (t : Bool) → leb k 16777216 ≡ t → fitted (Ok (capped k)) room ≡ fitted (Ok k) room
    by true q = ap (λ (j : ℕ). fitted (Ok j) room) (sym (cap_small k (leb-true k 16777216 q)))
    by false q = rw (← cap_large k (leb-false k 16777216 q), q) refl

module _ (was w : List ℕ) (n : ℕ) (e : n ≡ capped (length w)) (f : Result ℕ Refusal) (ef : f ≡ fitted (Ok n) (length was)) where
  pub fit_is : f ≡ fitted (Ok (length w)) (length was)
  fit_is = ef ∙ ap (λ (j : ℕ). fitted (Ok j) (length was)) e ∙ capped_fit (length w) (length was)

  pub room : (m : ℕ) → f ≡ Ok m → Room was 0 w
  room m em = exact_room was w f fit_is m em

module _ (was w : List ℕ) (good g : Bool) (eg : g ≡ good) where
  pub bad_text : g ≡ false → Err BadRow ≡ answer_of good w (length was)
  unfolding answer_of
  bad_text h = rw (← eg, h) refl

  module _ (h : g ≡ true) (n : ℕ) (e : n ≡ capped (length w)) (f : Result ℕ Refusal) (ef : f ≡ fitted (Ok n) (length was)) where
    answer : fitted (Ok (length w)) (length was) ≡ answer_of good w (length was)
    unfolding answer_of
    answer = rw (← eg, h) refl

    pub unfit : (why : Refusal) → f ≡ Err why → Err why ≡ answer_of good w (length was)
    unfit why ew = sym ew ∙ fit_is was w n e f ef ∙ answer

    pub done : (m : ℕ) → f ≡ Ok m → (r : ℕ) (now : List ℕ) → Put r was now 0 w → Ok r ≡ answer_of good w (length was)
    done m em r now p = exact_done was w f (fit_is was w n e f ef) m em r now p ∙ answer

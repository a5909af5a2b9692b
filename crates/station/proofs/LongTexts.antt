-- What is refused, said from the texts: one that is not UTF-8, one above the limit, many blanks. Assumes nothing.
use mathlib.Core.Path.{◌≡◌, refl, sym, ◌∙◌}
use mathlib.Core.Bool.{true, false}
use mathlib.Core.Logic.{inl, inr}
use mathlib.Core.List.{List, [], ◌∷◌}
use Prim.Native.Nat.{ℕ, zero, suc, ◌<◌}
use native.Mathlib.Omega.{arith}
use lib.ListN.{length, replicate, length-replicate}
use lib.Dec.{leb}
use borrow.Author.Tests.{lt-leb, leb-false, eq-eqb}
use Rattle.text.specs.Utf8.{utf8, valid_up_to}
use Rattle.text.proofs.BoolLaws.{cases, both_no}
use Rattle.text.proofs.AppendLaws.{Ascii, utf8_ascii}
use Rattle.headers.specs.Answer.{Long, all_utf8}
use Rattle.station.specs.Station.{all7}
use Rattle.station.specs.Answer.{short, all_short, short7, station_by, station_answer, BadRefused, LongRefused, ShortMeasured, BlankRefused}

bad_refused : BadRefused
unfolding BadRefused station_answer station_by
bad_refused call grid name state county cq itu room bad = rw bad refl

-- ---- one above the limit
long_is : (s : List ℕ) → 16777216 < length s → short s ≡ false
unfolding short
long_is s h = lt-leb (length s) 16777216 h

module _ (call grid name state county cq itu : List ℕ) where
  one_long : Long (call ∷ grid ∷ name ∷ state ∷ county ∷ cq ∷ itu ∷ []) → short7 call grid name state county cq itu ≡ false
  unfolding short7 all_short
  one_long (inl h) = simp (long_is call h) refl
  one_long (inr (inl h)) = simp (long_is grid h, both_no) refl
  one_long (inr (inr (inl h))) = simp (long_is name h, both_no) refl
  one_long (inr (inr (inr (inl h)))) = simp (long_is state h, both_no) refl
  one_long (inr (inr (inr (inr (inl h))))) = simp (long_is county h, both_no) refl
  one_long (inr (inr (inr (inr (inr (inl h)))))) = simp (long_is cq h, both_no) refl
  one_long (inr (inr (inr (inr (inr (inr (inl h))))))) = simp (long_is itu h, both_no) refl
  one_long (inr (inr (inr (inr (inr (inr (inr h))))))) = absurd h

long_refused : LongRefused
unfolding LongRefused station_answer station_by
long_refused call grid name state county cq itu room good long = rw (good, one_long call grid name state county cq itu long) refl

-- ---- all within it
short_is : (s : List ℕ) → (16777216 < length s → ⊥) → short s ≡ true
unfolding short
short_is s h = cases (leb (length s) 16777216) (λ e. e) (λ e. absurd (h (leb-false (length s) 16777216 e)))

none_long : (call grid name state county cq itu : List ℕ) → (Long (call ∷ grid ∷ name ∷ state ∷ county ∷ cq ∷ itu ∷ []) → ⊥)
    → short7 call grid name state county cq itu ≡ true
unfolding short7 all_short
none_long call grid name state county cq itu h =
    rw (
      short_is call (λ l. h (inl l)),
      short_is grid (λ l. h (inr (inl l))),
      short_is name (λ l. h (inr (inr (inl l)))),
      short_is state (λ l. h (inr (inr (inr (inl l))))),
      short_is county (λ l. h (inr (inr (inr (inr (inl l)))))),
      short_is cq (λ l. h (inr (inr (inr (inr (inr (inl l))))))),
      short_is itu (λ l. h (inr (inr (inr (inr (inr (inr (inl l)))))))),
    )
    refl

short_measured : ShortMeasured
unfolding ShortMeasured station_answer station_by
short_measured call grid name state county cq itu room good h = rw (good, none_long call grid name state county cq itu h) refl

-- ---- blanks are UTF-8, as no bytes are
blanks_ascii : (n : ℕ) → Ascii (replicate n 32)
blanks_ascii zero = tt
blanks_ascii (suc n) = (omega arith, blanks_ascii n)

ascii_good : (s : List ℕ) → Ascii s → utf8 s ≡ true
unfolding utf8
ascii_good s a = eq-eqb (valid_up_to s) (length s) (utf8_ascii s a)

blanks_good : (call name state county cq itu : List ℕ) (n : ℕ) → all7 call [] name state county cq itu ≡ true
    → all7 call (replicate n 32) name state county cq itu ≡ true
unfolding all7 all_utf8
blanks_good call name state county cq itu n good =
    let same : utf8 (replicate n 32) ≡ utf8 [] = ascii_good (replicate n 32) (blanks_ascii n) ∙ sym (ascii_good [] tt) in
    rw same good

blank_long : BlankRefused
unfolding BlankRefused LongRefused
blank_long call name state county cq itu n room good h =
    long_refused call (replicate n 32) name state county cq itu room (blanks_good call name state county cq itu n good)
    (inr (inl (omega (arith, length-replicate {A = ℕ} n 32))))

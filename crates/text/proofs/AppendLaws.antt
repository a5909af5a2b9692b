-- UTF-8 of texts put together, and ASCII. Assumes nothing.
use mathlib.Core.Path.{◌≡◌, refl, sym, ap, ◌∙◌}
use mathlib.Core.List.{List, [], ◌∷◌, ◌++◌}
use Prim.Native.Nat.{ℕ, zero, suc, ◌+◌, ◌-◌, ◌≤◌, ◌<◌}
use native.Mathlib.Nat.{zero-add, not-suc-le-zero}
use native.Mathlib.Omega.{arith}
use lib.ListN.{length, drop, length-drop, length-append}
use lib.Seq.{drop-append-le}
use borrow.Author.Tests.{le-leb}
use Rattle.text.specs.Walk.{walk, lead}
use Rattle.text.specs.Utf8.{char_len, valid_up_to, Utf8}
use Rattle.text.proofs.Walks.{steps, stops}
use Rattle.text.proofs.Utf8Laws.{char_within}
use Rattle.text.proofs.CharLaws.{char_append}

-- how far a text is UTF-8 that starts with one which is so throughout
lead_append : (f : ℕ) (a b : List ℕ) → length a < f → lead char_len a ≡ length a → lead char_len (a ++ b) ≡ length a + lead char_len b
lead_append zero a b h e = absurd (not-suc-le-zero h)
lead_append (suc f) [] b h e = sym (zero-add (lead char_len b))
lead_append (suc f) (x ∷ xs) b h e = by (char_len (x ∷ xs)) refl (λ r p q. lead_append f r b p q)
  where
    by : (k : ℕ) → char_len (x ∷ xs) ≡ k → ((r : List ℕ) → length r < f → lead char_len r ≡ length r → lead char_len (r ++ b) ≡ length r + lead char_len b)
        → lead char_len ((x ∷ xs) ++ b) ≡ length (x ∷ xs) + lead char_len b
    by zero c go = absurd (omega (arith, stops char_len (x ∷ xs) c))
    by (suc k) c go =
        let fits : suc k ≤ length (x ∷ xs) = omega (arith, char_within (x ∷ xs) (omega arith), c) in
        let r : List ℕ = drop (suc k) (x ∷ xs) in
        let len : length r ≡ length (x ∷ xs) - suc k = length-drop (suc k) (x ∷ xs) in
        let rest : lead char_len r ≡ length r = omega (arith, steps char_len (x ∷ xs) k c fits) in
        let whole : lead char_len ((x ∷ xs) ++ b) ≡ suc k + lead char_len (drop (suc k) ((x ∷ xs) ++ b))
        = steps char_len ((x ∷ xs) ++ b) k (char_append k (x ∷ xs) b (omega arith) c) (omega (arith, length-append (x ∷ xs) b)) in
        let cut : drop (suc k) ((x ∷ xs) ++ b) ≡ r ++ b = drop-append-le (suc k) (x ∷ xs) b fits in
        whole ∙ rw cut (ap (λ (m : ℕ). suc k + m) (go r (omega arith) rest) ∙ omega arith)

pub utf8_append : (a b : List ℕ) → Utf8 a → Utf8 b → Utf8 (a ++ b)
unfolding valid_up_to
utf8_append a b p q = lead_append (suc (length a)) a b (omega arith) p ∙ rw (q, length-append)

-- ASCII
abbrev pub Ascii : List ℕ → Type 0
Ascii [] = Unit {0}
Ascii (x ∷ xs) = (x ≤ 0x7F) × Ascii xs

pub utf8_ascii : (xs : List ℕ) → Ascii xs → Utf8 xs
unfolding valid_up_to lead char_len
utf8_ascii [] w = refl
utf8_ascii (x ∷ xs) w =
    let i : walk char_len (length xs) xs ≡ length xs = utf8_ascii xs w.1 in
    simp (le-leb x 0x7F w.0) (ap (λ (k : ℕ). 1 + k) i ∙ omega arith)

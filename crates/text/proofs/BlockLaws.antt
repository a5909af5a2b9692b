-- A block of ASCII is whole characters; and what the loops over blocks ask. Assumes nothing.
use mathlib.Core.Path.{◌≡◌, refl, sym, ◌∙◌, subst}
use mathlib.Core.Bool.{Bool, true, false}
use mathlib.Core.List.{List}
use Prim.Native.Nat.{ℕ, zero, suc, ◌+◌, ◌-◌, ◌≤◌, ◌<◌}
use native.Mathlib.Nat.{add-zero, zero-add, suc-ne-zero, le_trans}
use native.Mathlib.Omega.{arith}
use lib.ListN.{length, get_or, take, drop, length-take, length-drop}
use lib.Dec.{ltb}
use lib.Seq.{get_or-take, get_or-drop}
use borrow.Author.Tests.{ltb-true, ltb-false}
use Rattle.text.specs.Walk.{ends}
use Rattle.text.specs.Utf8.{char_len, valid_up_to, utf8}
use Rattle.text.specs.Blocks.{Passed, UpTo}
use Rattle.text.proofs.Walks.{here, on, out}
use Rattle.text.proofs.Utf8Laws.{ascii}

-- the walk passes a byte of ASCII
pub ascii_on : (s : List ℕ) (i a : ℕ) → i < length s → get_or s i 0 ≤ 0x7F → ends char_len s i ≡ a → ends char_len s (i + 1) ≡ a
ascii_on s i a h l q = on char_len s i 1 a (ascii s i l) (λ e. suc-ne-zero 0 e) (omega arith) q

-- n bytes of ASCII from i on: the walk passes them
ascii_run : (s : List ℕ) (a n i : ℕ) → i + n ≤ length s → ((k : ℕ) → k < n → get_or s (i + k) 0 ≤ 0x7F) → ends char_len s i ≡ a → ends char_len s (i + n) ≡ a
ascii_run s a zero i h f q = subst (λ (m : ℕ). ends char_len s m ≡ a) (sym (add-zero i)) q
ascii_run s a (suc n) i h f q =
    let first : get_or s i 0 ≤ 0x7F = subst (λ (m : ℕ). get_or s m 0 ≤ 0x7F) (add-zero i) (f 0 (omega arith)) in
    let step : ends char_len s (i + 1) ≡ a = ascii_on s i a (omega arith) first q in
    let place : i + 1 + n ≡ i + suc n = omega arith in
    subst (λ (m : ℕ). ends char_len s m ≡ a) place
    (ascii_run s a n (i + 1) (omega arith)
    (λ k lt. let p : i + 1 + k ≡ i + suc k = omega arith in rw p (f (suc k) (omega arith)))
    step)

-- the block from i to e, whose bytes are at most t
pub ascii_block : (s : List ℕ) (i e t a : ℕ) → i < e → e ≤ length s → UpTo (take (e - i) (drop i s)) t → t ≤ 0x7F → ends char_len s i ≡ a → ends char_len s e ≡ a
unfolding UpTo
ascii_block s i e t a p h u l q =
    let whole : i + (e - i) ≡ e = omega arith in
    subst (λ (m : ℕ). ends char_len s m ≡ a) whole
    (ascii_run s a (e - i) i (omega arith)
    (λ k lt.
    let b : k < length (take (e - i) (drop i s)) = omega (arith, length-take (e - i) (drop i s), length-drop i s) in
    le_trans (subst (λ (x : ℕ). x ≤ t) (get_or-take (e - i) (drop i s) k 0 lt ∙ get_or-drop i s k 0) (u k b)) l)
    q)

-- the walk goes on where the characters up to a block's end were passed, and ends where they were not
module _ (s : List ℕ) (i e j a : ℕ) (p : Passed s i e j) (q : ends char_len s i ≡ a) where
  pub passed_on : ends char_len s j ≡ a
  passed_on = p.same ∙ q

  pub passed_bad : j < e → j ≡ a
  passed_bad h = here char_len s j 0 a (sym (p.stopped h)) refl passed_on

pub walk_starts : (s : List ℕ) → ends char_len s 0 ≡ valid_up_to s
unfolding valid_up_to ends
walk_starts s = simp zero-add

-- where the whole text was passed character by character
pub passed_whole : (s : List ℕ) (r : ℕ) → Passed s 0 (length s) r → r ≡ valid_up_to s
passed_whole s r p = by (ltb r (length s)) refl
  where
    by : (t : Bool) → ltb r (length s) ≡ t → r ≡ valid_up_to s
    by true e = passed_bad s 0 (length s) r (valid_up_to s) p (walk_starts s) (ltb-true r (length s) e)
    by false e = out char_len s r (valid_up_to s) (ltb-false r (length s) e) (passed_on s 0 (length s) r (valid_up_to s) p (walk_starts s))

-- where ASCII stands in front: byte by byte, then all of the text or the characters behind it
pub none_passed : (s : List ℕ) → Passed s 0 0 0
none_passed s = record { forward = omega arith; inside = omega arith; same = refl; stopped = λ h. absurd (omega arith) }

pub one_passed : (s : List ℕ) (i : ℕ) → i < length s → get_or s i 0 ≤ 0x7F → Passed s 0 0 i → Passed s 0 0 (i + 1)
one_passed s i h l p = record {
  forward = omega arith;
  inside = omega arith;
  same = ascii_on s i (ends char_len s 0) h l p.same;
  stopped = λ z. absurd (omega arith);
}

pub all_passed : (s : List ℕ) (i : ℕ) → Passed s 0 0 i → i ≡ length s → i ≡ valid_up_to s
all_passed s i p e = out char_len s i (valid_up_to s) (omega arith) (p.same ∙ walk_starts s)

pub passed_behind : (s : List ℕ) (i r : ℕ) → Passed s 0 0 i → Passed s i (length s) r → r ≡ valid_up_to s
passed_behind s i r p q =
    passed_whole s r (record { forward = omega arith; inside = q.inside; same = q.same ∙ p.same; stopped = q.stopped })

pub utf8_is : (s : List ℕ) (r : ℕ) → r ≡ valid_up_to s → lib.Dec.eqb r (length s) ≡ utf8 s
unfolding utf8
utf8_is s r e = rw e refl

-- Digits put one after the other, and how many there are. Assumes nothing.
use mathlib.Core.Path.{◌≡◌, refl, subst}
use mathlib.Core.Bool.{Bool, true, false}
use mathlib.Core.List.{List, [], ◌∷◌, ◌++◌}
use Prim.Native.Nat.{ℕ, zero, suc, ◌+◌, ◌-◌, ◌/◌, ◌%◌, ◌^◌, ◌≤◌, ◌<◌}
use native.Mathlib.Nat.{pow-suc, div-lt_iff_lt-mul}
use native.Mathlib.Numerals.{sub-one}
use native.Mathlib.Omega.{arith}
use lib.ListN.{length, length-append}
use lib.Dec.{ltb, lit<}
use borrow.Author.Tests.{lt-ltb, le-ltb}
use Rattle.text.specs.Pick.{pick}
use Rattle.decimal.specs.Digits.{digits, decimal}
use Rattle.output.specs.Put.{Put, Room}
use Rattle.output.proofs.PutLaws.{put_none, put_then, room_first, room_next}

pub no_digits : (k n : ℕ) → k ≡ 0 → digits k n ≡ []
unfolding digits
no_digits zero n e = refl
no_digits (suc k) n e = absurd (omega arith)

pub last_digit : (k n : ℕ) → (k ≡ 0 → ⊥) → n < 10 → digits k n ≡ (48 + n) ∷ []
unfolding digits
last_digit zero n e h = absurd (e refl)
last_digit (suc k) n e h = rw (lt-ltb n 10 h)

pub more_digits : (k n : ℕ) → (k ≡ 0 → ⊥) → 10 ≤ n → digits k n ≡ digits (k - 1) (n / 10) ++ ((48 + n % 10) ∷ [])
unfolding digits
more_digits zero n e h = absurd (e refl)
more_digits (suc k) n e h = rw (le-ltb n 10 h, sub-one (suc k))

module _ (k n : ℕ) where
  pub put_zero : (l : List ℕ) (at : ℕ) → k ≡ 0 → Put at l l at (digits k n)
  put_zero l at e = rw (no_digits k n e) (put_none l at)

  module _ (e : k ≡ 0 → ⊥) where
    module _ (h : n < 10) where
      pub room_last : (l : List ℕ) (at : ℕ) → Room l at (digits k n) → Room l at ((48 + n) ∷ [])
      room_last l at r = rw (last_digit k n e h) at r

      pub put_last : (r : ℕ) (was now : List ℕ) (at : ℕ) → Put r was now at ((48 + n) ∷ []) → Put r was now at (digits k n)
      put_last r was now at p = rw (last_digit k n e h) p

    module _ (h : 10 ≤ n) (was : List ℕ) (at : ℕ) where
      pub room_more : Room was at (digits k n) → Room was at (digits (k - 1) (n / 10))
      room_more r = room_first was at (digits (k - 1) (n / 10)) ((48 + n % 10) ∷ []) (rw (more_digits k n e h) at r)

      pub room_digit : (q : ℕ) (mid : List ℕ) → Room was at (digits k n) → Put q was mid at (digits (k - 1) (n / 10)) → Room mid q ((48 + n % 10) ∷ [])
      room_digit q mid r p = room_next was at (digits (k - 1) (n / 10)) ((48 + n % 10) ∷ []) (rw (more_digits k n e h) at r) q mid p

      pub put_more : (r q : ℕ) (mid now : List ℕ) → Put q was mid at (digits (k - 1) (n / 10)) → Put r mid now q ((48 + n % 10) ∷ []) → Put r was now at (digits k n)
      put_more r q mid now p s = rw (more_digits k n e h) (put_then r q was mid now at (digits (k - 1) (n / 10)) ((48 + n % 10) ∷ []) p s)

-- how many there are
pub few_digits : (k n : ℕ) → length (digits k n) ≤ k
unfolding digits
few_digits zero n = omega arith
few_digits (suc k) n = by (ltb n 10) (few_digits k (n / 10))
  where
    by : (t : Bool) → length (digits k (n / 10)) ≤ k → length (pick t ((0x30 + n) ∷ []) (digits k (n / 10) ++ ((0x30 + n % 10) ∷ []))) ≤ suc k
    by true i = omega arith
    by false i = omega (arith, length-append (digits k (n / 10)) ((0x30 + n % 10) ∷ []))

-- a number below 10 ^ (k + 1) has at most k + 1 of them
pub short_digits : (k j n : ℕ) → n < 10 ^ suc k → length (digits j n) ≤ suc k
unfolding digits
short_digits k zero n h = omega arith
short_digits zero (suc j) n h = rw (lt-ltb n 10 h) (omega arith)
short_digits (suc k) (suc j) n h = by (ltb n 10) (short_digits k j (n / 10) ((div-lt_iff_lt-mul (lit< tt)).1 (subst (λ (z : ℕ). n < z) (pow-suc 10 (suc k)) h)))
  where
    by : (t : Bool) → length (digits j (n / 10)) ≤ suc k → length (pick t ((0x30 + n) ∷ []) (digits j (n / 10) ++ ((0x30 + n % 10) ∷ []))) ≤ suc (suc k)
    by true i = omega arith
    by false i = omega (arith, length-append (digits j (n / 10)) ((0x30 + n % 10) ∷ []))

pub few_decimals : (n d : ℕ) → d ≡ length (decimal n) → d ≤ 20
unfolding decimal
few_decimals n d e = omega (arith, few_digits 20 n)

pub decimal_few : (n : ℕ) → length (decimal n) ≤ 20
decimal_few n = few_decimals n (length (decimal n)) refl

pub count_none : (k n : ℕ) → k ≡ 0 → 0 ≡ length (digits k n)
count_none k n e = rw (no_digits k n e)

pub count_one : (k n : ℕ) → (k ≡ 0 → ⊥) → n < 10 → 1 ≡ length (digits k n)
count_one k n e h = rw (last_digit k n e h)

pub count_more : (k n r : ℕ) → (k ≡ 0 → ⊥) → 10 ≤ n → r ≡ length (digits (k - 1) (n / 10)) → r + 1 ≡ length (digits k n)
count_more k n r e h p = rw (more_digits k n e h, length-append (digits (k - 1) (n / 10)), p)

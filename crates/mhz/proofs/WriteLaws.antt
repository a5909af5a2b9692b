-- Megahertz written into a lent output. Assumes nothing.
use Rattle.std.specs.Prelude.{Ok, Err}
use Rattle.refusals.specs.declared.Refusal.TheVariants.{FrequencyTooHigh}
use Rattle.refusals.specs.declared.Refusal.TheVariants.{ShortOutput}
use mathlib.Core.Path.{◌≡◌, refl, sym, ap, ◌∙◌}
use mathlib.Core.List.{List, [], ◌∷◌, ◌++◌}
use Prim.Native.Nat.{ℕ, zero, suc, ◌+◌, ◌-◌, ◌/◌, ◌%◌, ◌^◌, ◌≤◌, ◌<◌}
use native.Mathlib.Omega.{arith}
use lib.ListN.{length, set, length-append}
use lib.Seq.{sets, set_comm}
use borrow.Author.Tests.{le-leb, lt-leb}
use Rattle.text.specs.Utf8.{Utf8}
use Rattle.text.proofs.AppendLaws.{utf8_append, utf8_ascii}
use Rattle.decimal.specs.Digits.{digits, decimal}
use Rattle.decimal.proofs.ReadBack.{Digits, digits_append, are_digits, digits_ascii}
use Rattle.output.specs.Put.{Put, Room}
use Rattle.output.proofs.DigitLaws.{short_digits}
use Rattle.output.proofs.PutLaws.{put_then, room_first, room_next}
use Rattle.mhz.specs.Digits.{last_digits}
use Rattle.mhz.specs.Writing.{six_decimals, mhz_text, answer_to, Written}

-- ---- digits from the last on
pub length_last : (k n : ℕ) → length (last_digits k n) ≡ k
length_last zero n = refl
length_last (suc k) n = length-append (last_digits k (n / 10)) ((0x30 + n % 10) ∷ []) ∙ ap (λ (z : ℕ). z + 1) (length_last k (n / 10)) ∙ omega arith

pub last_digits_lem : (k n : ℕ) → Digits (last_digits k n)
last_digits_lem zero n = tt
last_digits_lem (suc k) n = digits_append (last_digits k (n / 10)) ((0x30 + n % 10) ∷ []) (last_digits_lem k (n / 10)) ((omega arith, omega arith), tt)

-- a store past what is set comes first or last
store_past : (l : List ℕ) (i : ℕ) (vs : List ℕ) (p d : ℕ) → i + length vs ≤ p → sets (set l p d) i vs ≡ set (sets l i vs) p d
store_past l i [] p d h = refl
store_past l i (v ∷ vs) p d h =
    ap (λ (z : List ℕ). sets z (suc i) vs) (set_comm l p i d v (λ e. omega arith)) ∙ store_past (set l i v) (suc i) vs p d (omega arith)

sets_one : (l : List ℕ) (i : ℕ) (vs : List ℕ) (d : ℕ) → sets l i (vs ++ (d ∷ [])) ≡ set (sets l i vs) (i + length vs) d
sets_one l i [] d = let e : i + 0 ≡ i = omega arith in rw e
sets_one l i (v ∷ vs) d = let e : i + suc (length vs) ≡ suc i + length vs = omega arith in rw e (sets_one (set l i v) (suc i) vs d)

-- the i digits of `rest` that are still to put give the same output
unfoldable pub Left : List ℕ → List ℕ → ℕ → ℕ → ℕ → ℕ → ℕ → Type 0
Left was now at i rest k n = sets now at (last_digits i rest) ≡ sets was at (last_digits k n)

pub left_start : (l : List ℕ) (at k n : ℕ) → Left l l at (k - 0) n k n
unfolding Left
left_start l at k n =
    let e : k - 0 ≡ k = omega arith in
    rw e

left_next : (was now : List ℕ) (at j rest k n : ℕ) → Left was now at (suc j) rest k n → Left was (set now (at + j) (0x30 + rest % 10)) at j (rest / 10) k n
unfolding Left
left_next was now at j rest k n p =
    store_past now at (last_digits j (rest / 10)) (at + j) (0x30 + rest % 10) (omega (arith, length_last j (rest / 10)))
    ∙ sym (ap (λ (i : ℕ). set (sets now at (last_digits j (rest / 10))) (at + i) (0x30 + rest % 10)) (length_last j (rest / 10)))
    ∙ sym (sets_one now at (last_digits j (rest / 10)) (0x30 + rest % 10))
    ∙ p

pub left_on : (was now : List ℕ) (at i rest k n : ℕ) → i < k → Left was now at (k - i) rest k n
    → Left was (set now (at + (k - i - 1)) (0x30 + rest % 10)) at (k - (i + 1)) (rest / 10) k n
left_on was now at i rest k n h p =
    let e : k - i ≡ suc (k - (i + 1)) = omega arith in
    let f : k - i - 1 ≡ k - (i + 1) = omega arith in
    rw f (left_next was now at (k - (i + 1)) rest k n (rw e at p))

pub left_end : (was now : List ℕ) (at i rest k n : ℕ) → k ≤ i → Left was now at (k - i) rest k n → Put (at + k) was now at (last_digits k n)
unfolding Left Put
left_end was now at i rest k n h p =
    let e : k - i ≡ 0 = omega arith in
    (ap (λ (j : ℕ). at + j) (sym (length_last k n)), rw e at p)

pub room_last : (l : List ℕ) (at k n : ℕ) → Room l at (last_digits k n) → at + k ≤ length l
unfolding Room
room_last l at k n h = omega (arith, h, length_last k n)

-- ---- a frequency's text
pub size_is : (hz r : ℕ) → r ≡ length (decimal (hz / 1000000)) → r + 7 ≡ length (mhz_text hz)
unfolding six_decimals
size_is hz r e = omega (arith, e, length-append (decimal (hz / 1000000)) (0x2E ∷ last_digits 6 (hz % 1000000)))

-- no more than 1000000.000000 takes
pub mhz_short : (hz : ℕ) → hz ≤ 10 ^ 12 → length (mhz_text hz) ≤ 14
unfolding decimal
mhz_short hz h = omega (arith, size_is hz _ refl, short_digits 6 20 (hz / 1000000) (below hz h))
  where
    below : (n : ℕ) → n ≤ 1000000000000 → n / 1000000 < 10000000
    below n h = omega arith

pub mhz_utf8 : (hz : ℕ) → Utf8 (mhz_text hz)
unfolding six_decimals decimal
mhz_utf8 hz =
    let whole : List ℕ = digits 20 (hz / 1000000) in
    let six : List ℕ = last_digits 6 (hz % 1000000) in
    utf8_append whole (0x2E ∷ six) (utf8_ascii whole (digits_ascii whole (are_digits 20 (hz / 1000000))))
    (utf8_ascii (0x2E ∷ six) (omega arith, digits_ascii six (last_digits_lem 6 (hz % 1000000))))

-- the room for each part, and the parts together
module _ (was : List ℕ) (at hz : ℕ) (h : Room was at (mhz_text hz)) where
  parts : Room was at (decimal (hz / 1000000) ++ ((0x2E ∷ []) ++ last_digits 6 (hz % 1000000)))
  unfolding six_decimals
  parts = h

  pub room_whole : Room was at (decimal (hz / 1000000))
  room_whole = room_first was at (decimal (hz / 1000000)) ((0x2E ∷ []) ++ last_digits 6 (hz % 1000000)) parts

  module _ (p : ℕ) (mid : List ℕ) (e : Put p was mid at (decimal (hz / 1000000))) where
    tail : Room mid p ((0x2E ∷ []) ++ last_digits 6 (hz % 1000000))
    tail = room_next was at (decimal (hz / 1000000)) ((0x2E ∷ []) ++ last_digits 6 (hz % 1000000)) parts p mid e

    pub room_point : Room mid p (0x2E ∷ [])
    room_point = room_first mid p (0x2E ∷ []) (last_digits 6 (hz % 1000000)) tail

    pub room_six : (q : ℕ) (end : List ℕ) → Put q mid end p (0x2E ∷ []) → Room end q (last_digits 6 (hz % 1000000))
    room_six q end f = room_next mid p (0x2E ∷ []) (last_digits 6 (hz % 1000000)) tail q end f

pub put_parts : (was a b now : List ℕ) (at p q r hz : ℕ) → Put p was a at (decimal (hz / 1000000)) → Put q a b p (0x2E ∷ []) → Put r b now q (last_digits 6 (hz % 1000000))
    → Put r was now at (mhz_text hz)
unfolding six_decimals
put_parts was a b now at p q r hz x y z =
    put_then r p was a now at (decimal (hz / 1000000)) ((0x2E ∷ []) ++ last_digits 6 (hz % 1000000)) x
    (put_then r q a b now p (0x2E ∷ []) (last_digits 6 (hz % 1000000)) y z)

-- ---- the answer, and the output with it
module _ (was : List ℕ) (hz at : ℕ) where
  pub too_high : 8589934592000000 ≤ hz → Written (Err FrequencyTooHigh) was was at hz
  unfolding answer_to
  too_high h = record { answer = rw (le-leb 8589934592000000 hz h); output = rw (le-leb 8589934592000000 hz h) }

  module _ (low : hz < 8589934592000000) where
    short : length was < at + length (mhz_text hz) → Written (Err ShortOutput) was was at hz
    unfolding answer_to
    short h = record {
      answer = rw (lt-leb 8589934592000000 hz low, lt-leb (at + length (mhz_text hz)) (length was) h);
      output = rw (lt-leb 8589934592000000 hz low, lt-leb (at + length (mhz_text hz)) (length was) h);
    }

    pub past_the_end : length was < at → Written (Err ShortOutput) was was at hz
    past_the_end h = short (omega arith)

    module _ (k : ℕ) (within : at ≤ length was) (e : k ≡ length (mhz_text hz)) where
      pub too_short : length was - at < k → Written (Err ShortOutput) was was at hz
      too_short h = short (omega arith)

      module _ (fits : k ≤ length was - at) where
        pub has_room : Room was at (mhz_text hz)
        unfolding Room
        has_room = omega arith

        pub wrote : (r : ℕ) (now : List ℕ) → Put r was now at (mhz_text hz) → Written (Ok r) was now at hz
        unfolding answer_to Put
        wrote r now p =
            let l : at + length (mhz_text hz) ≤ length was = omega arith in
            record {
              answer = rw (lt-leb 8589934592000000 hz low, le-leb (at + length (mhz_text hz)) (length was) l) (ap Ok p.0);
              output = rw (lt-leb 8589934592000000 hz low, le-leb (at + length (mhz_text hz)) (length was) l) p.1;
            }

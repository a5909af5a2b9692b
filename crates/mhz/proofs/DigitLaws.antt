-- Digits at the front of a text, as a loop passes them. Assumes nothing.
use mathlib.Core.Path.{◌≡◌, refl, sym, ap, ◌∙◌}
use mathlib.Core.Bool.{Bool, true, false}
use mathlib.Core.List.{List, [], ◌∷◌}
use Prim.Native.Nat.{ℕ, ◌+◌, ◌≤◌, ◌<◌}
use native.Mathlib.Numerals.{add-one}
use native.Mathlib.Omega.{arith}
use lib.ListN.{length, drop, get_or, drop_of_length-le}
use lib.Seq.{drop-cons}
use Rattle.mhz.specs.Digits.{is_digit, digits_of, after_digits}
use Rattle.mhz.specs.Steps.{held, grown}

-- ---- the byte at i
module _ (s : List ℕ) (i : ℕ) (h : i < length s) where
  opened : drop i s ≡ get_or s i 0 ∷ drop (i + 1) s
  opened = rw (add-one, drop-cons s i 0)

  module _ (x : Bool) (e : x ≡ is_digit (get_or s i 0)) where
    next_digits : x ≡ true → digits_of (drop i s) ≡ get_or s i 0 ∷ digits_of (drop (i + 1) s)
    next_digits t = rw (opened, sym e ∙ t)

    next_after : x ≡ true → after_digits (drop i s) ≡ after_digits (drop (i + 1) s)
    next_after t = rw (opened, sym e ∙ t)

    no_digits : x ≡ false → digits_of (drop i s) ≡ []
    no_digits t = rw (opened, sym e ∙ t)

    no_after : x ≡ false → after_digits (drop i s) ≡ drop i s
    no_after t = rw (opened, sym e ∙ t)

-- ---- what a run from `from` has come to at `at`: what is left gives the same answer
unfoldable pub Reads : List ℕ → ℕ → ℕ → ℕ → ℕ → ℕ → Type 0
Reads s from most n at h =
    (from ≤ at)
    × (at + length (digits_of (drop at s)) ≡ from + length (digits_of (drop from s)))
    × (after_digits (drop at s) ≡ after_digits (drop from s))
    × (held most h (digits_of (drop at s)) ≡ held most n (digits_of (drop from s)))

pub reads_start : (s : List ℕ) (from most n : ℕ) → Reads s from most n from n
unfolding Reads
reads_start s from most n = (omega arith, refl, refl, refl)

module _ (s : List ℕ) (from most n at h : ℕ) (r : Reads s from most n at h) where
  pub reads_on : (x : Bool) (g : ℕ) → at < length s → x ≡ is_digit (get_or s at 0) → x ≡ true → g ≡ grown most h (get_or s at 0) → Reads s from most n (at + 1) g
  unfolding Reads
  reads_on x g l e t f =
      let d = next_digits s at l x e t in (
        omega (arith, r.0),
        omega (arith, ap length d, r.1),
        sym (next_after s at l x e t) ∙ r.2,
        rw f (sym (ap (held most h) d) ∙ r.3),
      )

  module _ (d : digits_of (drop at s) ≡ []) where
    stop_place : at ≡ from + length (digits_of (drop from s))
    unfolding Reads
    stop_place = omega (arith, ap length d, r.1)

    stop_held : h ≡ held most n (digits_of (drop from s))
    unfolding Reads
    stop_held = sym (ap (held most h) d) ∙ r.3

  stop_after : after_digits (drop at s) ≡ drop at s → drop at s ≡ after_digits (drop from s)
  unfolding Reads
  stop_after a = sym a ∙ r.2

  -- at no digit
  module _ (x : Bool) (l : at < length s) (e : x ≡ is_digit (get_or s at 0)) (t : x ≡ false) where
    pub here_place : at ≡ from + length (digits_of (drop from s))
    here_place = stop_place (no_digits s at l x e t)

    pub here_held : h ≡ held most n (digits_of (drop from s))
    here_held = stop_held (no_digits s at l x e t)

    pub here_after : drop at s ≡ after_digits (drop from s)
    here_after = stop_after (no_after s at l x e t)

  -- at the end of the text
  module _ (l : length s ≤ at) where
    pub end_held : h ≡ held most n (digits_of (drop from s))
    end_held = stop_held (rw (drop_of_length-le s l))

    module _ (u : at ≤ length s) where
      there : length s ≡ at
      there = omega arith

      pub end_place : length s ≡ from + length (digits_of (drop from s))
      end_place = there ∙ stop_place (rw (drop_of_length-le s l))

      pub end_after : drop (length s) s ≡ after_digits (drop from s)
      end_after = rw there (stop_after (rw (drop_of_length-le s l)))

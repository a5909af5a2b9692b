-- Digits held up to a bound give the same answer as the digits themselves. Assumes nothing.
use Rattle.std.specs.Prelude.{Option, Some, None}
use mathlib.Core.Path.{◌≡◌, refl, sym, ap, ◌∙◌}
use mathlib.Core.Bool.{Bool, true, false}
use mathlib.Core.Logic.{◌⊎◌, inl, inr}
use mathlib.Core.List.{List, [], ◌∷◌, ◌++◌}
use Prim.Native.Nat.{ℕ, ◌+◌, ◌-◌, ◌*◌, ◌≤◌, ◌<◌}
use native.Mathlib.Omega.{arith}
use lib.ListN.{length, drop}
use lib.Dec.{eqb, ltb}
use borrow.Author.Tests.{le-leb, lt-leb, eq-eqb, ne_eqb, eqb-true, eqb-false, ltb-true, ltb-false}
use Rattle.text.specs.Pick.{pick, either}
use Rattle.decimal.specs.Decimal.{number}
use Rattle.decimal.proofs.DecimalLaws.{grow}
use Rattle.mhz.specs.Digits.{digits_of, number_of}
use Rattle.mhz.specs.Number.{Exponent, malformed, power, all_digits, unsigned, negative, exponent_of, whole_part, fraction_part, after_decimal, with_exponent, decimal_of}
use Rattle.mhz.specs.Reading.{decimal_hertz, number_hertz}
use Rattle.mhz.specs.Steps.{grown, held, power_held, exponent_held}
use Rattle.mhz.specs.declared.Hz.{Hz}
use Rattle.mhz.specs.declared.Hz.TheVariants.{Absent}
use Rattle.mhz.specs.declared.number.Power.{Power}
use Rattle.mhz.proofs.WindowLaws.{zero_digits, many_digits, far_exponent}

-- h stands for n: it is n up to `most`, and above `most` both are
pub record Alike (most h n : ℕ) : Type 0 where
  pub same : n ≤ most → h ≡ n
  pub more : most < n → most < h

above_or : (m n : ℕ) → (m < n) ⊎ (n ≤ m)
above_or m n = go (ltb m n) refl
  where
    go : (t : Bool) → ltb m n ≡ t → (m < n) ⊎ (n ≤ m)
    go true e = inl (ltb-true m n e)
    go false e = inr (ltb-false m n e)

-- what is above `most` is held as it is
full : (most n : ℕ) (ds : List ℕ) → most < n → held most n ds ≡ n
unfolding grown
full most n [] h = refl
full most n (d ∷ ds) h = rw (lt-leb n most h) (full most n ds h)

pub held_alike : (most n : ℕ) (ds : List ℕ) → Alike most (held most n ds) (number n ds)
unfolding grown
held_alike most n [] = record { same = λ h. refl; more = λ h. h }
held_alike most n (d ∷ ds) = elim (above_or most n) [
  | inl h ↦
      let g : n ≤ number (n * 10 + (d - 0x30)) ds = le_trans' n (n * 10 + (d - 0x30)) (number (n * 10 + (d - 0x30)) ds) (omega arith) (grow (n * 10 + (d - 0x30)) ds) in
      record { same = λ k. absurd (omega arith); more = λ k. rw (lt-leb n most h) (rw (full most n ds h) h) }
  | inr h ↦ rw (le-leb n most h) (held_alike most (n * 10 + (d - 0x30)) ds)
]
  where
    le_trans' : (a b c : ℕ) → a ≤ b → b ≤ c → a ≤ c
    le_trans' a b c p q = omega arith

-- ---- the window does not tell them apart
module _ (s : Bool) (fraction : ℕ) (minus : Bool) where
  same_digits : (h n e : ℕ) → Alike 9007199254740992 h n → decimal_hertz s h fraction minus e ≡ decimal_hertz s n fraction minus e
  same_digits h n e a = elim (above_or 9007199254740992 n) [
    | inl g ↦ sym (many_digits s h fraction minus e (a.more g)) ∙ many_digits s n fraction minus e g
    | inr g ↦ ap (λ (d : ℕ). decimal_hertz s d fraction minus e) (a.same g)
  ]

  far : (n h e : ℕ) → 65535 < h → 65535 < e → decimal_hertz s n fraction minus h ≡ decimal_hertz s n fraction minus e
  far n h e p q = elim (above_or 9007199254740992 n) [
    | inl g ↦ sym (many_digits s n fraction minus h g) ∙ many_digits s n fraction minus e g
    | inr g ↦ go (eqb n 0) refl g
  ]
    where
      go : (t : Bool) → eqb n 0 ≡ t → n ≤ 9007199254740992 → decimal_hertz s n fraction minus h ≡ decimal_hertz s n fraction minus e
      go true z g = sym (zero_digits s n fraction minus h (eqb-true n 0 z)) ∙ zero_digits s n fraction minus e (eqb-true n 0 z)
      go false z g = sym (far_exponent s n fraction minus h (eqb-false n 0 z) g p) ∙ far_exponent s n fraction minus e (eqb-false n 0 z) g q

  same_exponent : (n h e : ℕ) → Alike 65535 h e → decimal_hertz s n fraction minus h ≡ decimal_hertz s n fraction minus e
  same_exponent n h e a = elim (above_or 65535 e) [
    | inl g ↦ far n h e (a.more g) g
    | inr g ↦ ap (decimal_hertz s n fraction minus) (a.same g)
  ]

-- ---- the exponent as it is held, and as the text says it
abbrev Says : Option Power → Exponent → Type 0
Says None malformed = Unit
Says None (power m n) = ⊥
Says (Some p) malformed = ⊥
Says (Some p) (power k n) = (p.minus ≡ k) × Alike 65535 p.size n

says : (ys : List ℕ) → Says (exponent_held ys) (exponent_of ys)
unfolding power_held number_of
says [] = (refl, record { same = λ h. refl; more = λ h. h })
says (b ∷ bs) = go (either (eqb b 0x65) (eqb b 0x45)) (all_digits (unsigned bs))
  where
    go : (x t : Bool)
        → Says (pick x (pick t (Some (record { minus = negative bs; size = held 65535 0 (digits_of (unsigned bs)) })) None) None)
        (pick x (pick t (power (negative bs) (number 0 (digits_of (unsigned bs)))) malformed) malformed)
    go true true = (refl, held_alike 65535 0 (digits_of (unsigned bs)))
    go true false = tt
    go false t = tt

no_power : (s : Bool) (digits fraction : ℕ) (p : Option Power) (q : Exponent) → Says p q → p ≡ None → Absent ≡ number_hertz (with_exponent s digits fraction q)
no_power s digits fraction None malformed t e = refl
no_power s digits fraction None (power m n) t e = absurd t
no_power s digits fraction (Some p) q t e = absurd (let z : ◌≡◌ {A = ℕ} 0 1 = cc in omega arith)

is_power : (s : Bool) (digits fraction h : ℕ) (w : Power) (p : Option Power) (q : Exponent) → Says p q → p ≡ Some w → Alike 9007199254740992 h digits
    → decimal_hertz s h fraction w.minus w.size ≡ number_hertz (with_exponent s digits fraction q)
is_power s digits fraction h w None q t e a = absurd (let z : ◌≡◌ {A = ℕ} 0 1 = cc in omega arith)
is_power s digits fraction h w (Some p) malformed t e a = absurd t
is_power s digits fraction h w (Some p) (power j i) t e a =
    let same : w ≡ p = cc in
    rw (same, t.0) (same_digits s fraction j h digits p.size a ∙ same_exponent s fraction j digits p.size i t.1)

-- ---- a decimal, by what its parts came to
module _ (s : List ℕ) (start count : ℕ) (minus : Bool) (ec : count ≡ length (whole_part (drop start s)) + length (fraction_part (drop start s))) where
  pub decimal_none : count ≡ 0 → Absent ≡ number_hertz (decimal_of minus (drop start s))
  unfolding decimal_of
  decimal_none z = rw (eq-eqb _ 0 (sym ec ∙ z))

  module _ (at : ℕ) (p : Option Power) (some : count ≡ 0 → ⊥) (ea : drop at s ≡ after_decimal (drop start s)) (ep : p ≡ exponent_held (drop at s)) where
    heard : Says p (exponent_of (after_decimal (drop start s)))
    heard = rw (ep, ea) (says (after_decimal (drop start s)))

    has_some : eqb (length (whole_part (drop start s)) + length (fraction_part (drop start s))) 0 ≡ false
    has_some = ne_eqb _ 0 (λ z. some (ec ∙ z))

    pub decimal_malformed : p ≡ None → Absent ≡ number_hertz (decimal_of minus (drop start s))
    unfolding decimal_of
    decimal_malformed e = rw has_some (no_power minus _ _ p (exponent_of (after_decimal (drop start s))) heard e)

    pub decimal_is : (h fraction : ℕ) (w : Power) (r : Hz) → p ≡ Some w → h ≡ held 9007199254740992 0 (whole_part (drop start s) ++ fraction_part (drop start s))
        → fraction ≡ length (fraction_part (drop start s)) → r ≡ decimal_hertz minus h fraction w.minus w.size → r ≡ number_hertz (decimal_of minus (drop start s))
    unfolding decimal_of number_of
    decimal_is h fraction w r e eh ef er =
        er ∙ rw (has_some, ← ef)
        (is_power minus _ fraction h w p (exponent_of (after_decimal (drop start s))) heard e
        (rw eh (held_alike 9007199254740992 0 (whole_part (drop start s) ++ fraction_part (drop start s)))))

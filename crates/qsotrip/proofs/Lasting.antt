-- Which contacts come back as they are: their frequencies survive, there is no band of the receiver without its frequency, and DXCC is a
-- number of 64 bits. Assumes nothing.
use Rattle.std.specs.Prelude.{Some, None, Option}
use mathlib.Core.Path.{◌≡◌, refl, sym, ap, ◌∙◌}
use mathlib.Core.Bool.{Bool, true, false}
use mathlib.Core.List.{List, [], ◌∷◌, reverse, reverse_aux}
use Prim.Native.Nat.{ℕ, suc, ◌^◌, ◌≤◌, ◌<◌}
use native.Mathlib.Nat.{sub-zero}
use native.Mathlib.Omega.{arith}
use lib.IntN.{ℤ, pos, negsuc}
use lib.Dec.{leb, ltb}
use lib.ListN.{length}
use lib.Seq.{take-length}
use borrow.Author.Tests.{ne_eqb, le-leb, lt-ltb, leb-true, ltb-true}
use Rattle.text.specs.Pick.{pick, within}
use Rattle.text.specs.Space.{space_len, space_back, trim_start, trim_end, trimmed}
use Rattle.text.specs.Walk.{lead}
use Rattle.text.proofs.Walks.{stops}
use Rattle.text.proofs.SpaceLaws.{plain_front, plain_back}
use Rattle.decimal.specs.Decimal.{digits_after, digits_of, leads, above_zero, below_zero, signed_of}
use Rattle.decimal.specs.Digits.{digits, decimal}
use Rattle.decimal.proofs.ReadBack.{Digits, all_digits_lem, are_digits, number_is, some_digit, read_back_lem}
use Rattle.mhz.specs.Reading.{read_hertz}
use Rattle.mhz.specs.Writing.{mhz_text}
use Rattle.mhz.specs.declared.Hz.{Hz}
use Rattle.mhz.specs.declared.Hz.TheVariants.{Absent, Is as IsHertz, Outside}
use Rattle.mhz.proofs.ReadBack.{read_back_lem as hertz_back}
use Rattle.model.specs.Contact.{Contact}
use Rattle.mapping.specs.Contact.{hertz_read, frequency_read, entity_read, dxcc_read}
use Rattle.qsowriter.specs.Record.{megahertz, split_only, entity_text}
use Rattle.qsotrip.specs.Rewritten.{read_back, Survives, Signed64, Lasting}

-- ---- a text of plain bytes is trimmed
abbrev Plain : List ℕ → Type 0
Plain [] = Unit {0}
Plain (x ∷ xs) = (within x 0x21 0x7F ≡ true) × Plain xs

plain_starts : (xs : List ℕ) → Plain xs → lead space_len xs ≡ 0
unfolding lead
plain_starts [] p = refl
plain_starts (x ∷ xs) p = stops space_len (x ∷ xs) (sym (plain_front (x ∷ xs) 0 x true refl (sym p.0) refl))

plain_ends : (xs : List ℕ) → Plain xs → lead space_back xs ≡ 0
unfolding lead
plain_ends [] p = refl
plain_ends (x ∷ xs) p = stops space_back (x ∷ xs) (sym (plain_back (x ∷ xs) 0 x true refl (sym p.0) refl))

turned : (xs ys : List ℕ) → Plain xs → Plain ys → Plain (reverse_aux xs ys)
turned [] ys p q = q
turned (x ∷ xs) ys p q = turned xs (x ∷ ys) p.1 (p.0, q)

plain_trimmed : (xs : List ℕ) → Plain xs → trimmed xs ≡ xs
unfolding trimmed trim_start trim_end
plain_trimmed xs p = simp (plain_starts xs p, plain_ends (reverse xs) (turned xs [] p tt), sub-zero (length xs), take-length xs)

digits_plain : (xs : List ℕ) → Digits xs → Plain xs
digits_plain [] d = tt
digits_plain (x ∷ xs) d = (rw (le-leb 0x21 x (omega (arith, d.0.0)), le-leb x 0x7F (omega (arith, d.0.1))) refl, digits_plain xs d.1)

-- ---- a number of 64 bits is read as it was written
decimal_plain : (n : ℕ) → Plain (decimal n)
unfolding decimal
decimal_plain n = digits_plain (digits 20 n) (are_digits 20 n)

no_minus : (xs : List ℕ) → Digits xs → 0 < length xs → leads 0x2D xs ≡ false
unfolding leads
no_minus [] d h = absurd (omega arith)
no_minus (x ∷ xs) d h = ne_eqb x 0x2D (λ e. omega (arith, d.0.0))

decimal_no_minus : (n : ℕ) → leads 0x2D (decimal n) ≡ false
unfolding decimal
decimal_no_minus n = no_minus (digits 20 n) (are_digits 20 n) (some_digit 19 n)

digits_read : (n : ℕ) → n < 2 ^ 64 → digits_of (decimal n) ≡ Some n
unfolding decimal digits_of digits_after
digits_read n h =
    simp
    (ne_eqb (length (digits 20 n)) 0 (λ e. omega (arith, some_digit 19 n)), all_digits_lem (digits 20 n) (are_digits 20 n), number_is 20 n (omega arith), lt-ltb n (2 ^ 64) h)

minus_leads : (xs : List ℕ) → signed_of (0x2D ∷ xs) ≡ below_zero (digits_of xs)
unfolding signed_of leads
minus_leads xs = refl

above_opened : (n : ℕ) → n < 2 ^ 64 → signed_of (trimmed (decimal n)) ≡ pick (ltb n (2 ^ 63)) (Some (record { negative = false; size = n })) None
unfolding signed_of above_zero
above_opened n h = rw (plain_trimmed (decimal n) (decimal_plain n), decimal_no_minus n, read_back_lem n h) refl

below_opened : (n : ℕ) → suc n < 2 ^ 64 → signed_of (trimmed (0x2D ∷ decimal (suc n))) ≡ pick (leb (suc n) (2 ^ 63)) (Some (record { negative = true; size = suc n })) None
unfolding below_zero
below_opened n h =
    rw (plain_trimmed (0x2D ∷ decimal (suc n)) (refl, decimal_plain (suc n)), minus_leads (decimal (suc n)), digits_read (suc n) h, lt-ltb 0 (suc n) (omega arith)) refl

above_read : (n : ℕ) → n < 2 ^ 63 → signed_of (trimmed (decimal n)) ≡ Some (record { negative = false; size = n })
above_read n h = above_opened n (omega arith) ∙ ap (λ (t : Bool). pick t (Some (record { negative = false; size = n })) None) (lt-ltb n (2 ^ 63) h)

below_read : (n : ℕ) → n < 2 ^ 63 → signed_of (trimmed (0x2D ∷ decimal (suc n))) ≡ Some (record { negative = true; size = suc n })
below_read n h = below_opened n (omega arith) ∙ ap (λ (t : Bool). pick t (Some (record { negative = true; size = suc n })) None) (le-leb (suc n) (2 ^ 63) (omega arith))

pub entity_back : (n : Option ℤ) → Signed64 n → dxcc_read (entity_text n) ≡ n
entity_back None h = refl
entity_back (Some (pos n)) h = rw (above_read n h) refl
entity_back (Some (negsuc n)) h = rw (below_read n h) refl

-- ---- frequencies, and the band of the receiver
pub hertz_survives : (hz : ℕ) → hz ≤ 10 ^ 12 → Survives (Some hz)
hertz_survives hz h = hertz_back hz h

pub frequency_back : (f : Option ℕ) → Survives f → frequency_read (megahertz f) ≡ f
frequency_back None s = refl
frequency_back (Some hz) s = ap hertz_read s

split_back : (f : Option ℕ) (b : Option (List ℕ)) → (f ≡ None → b ≡ None) → split_only f b ≡ b
split_back None b h = sym (h refl)
split_back (Some hz) b h = refl

-- the theorem
pub lasting_back : (c : Contact) → Lasting c → read_back c ≡ c
unfolding read_back
lasting_back c l =
    rw (frequency_back c.freq l.freq, frequency_back c.freq_rx l.freq_rx, split_back c.freq_rx c.band_rx l.band_rx, entity_back c.dxcc l.dxcc) refl

-- ---- and none but those come back: the conditions are what is needed, of contacts whose number has a size of 64 bits, as a QSO's has
abbrev pub Sized : Option ℤ → Type 0
Sized None = Unit {0}
Sized (Some (pos n)) = n < 2 ^ 64
Sized (Some (negsuc n)) = suc n < 2 ^ 64

frequency_only : (f : Option ℕ) → frequency_read (megahertz f) ≡ f → Survives f
frequency_only None e = tt
frequency_only (Some hz) e = by (read_hertz (mhz_text hz)) e
  where
    by : (h : Hz) → hertz_read h ≡ Some hz → h ≡ IsHertz hz
    by Absent q = absurd (let z : ◌≡◌ {A = ℕ} 0 1 = cc in omega arith)
    by (IsHertz n) q =
        let z : n ≡ hz = cc in
        ap IsHertz z
    by Outside q = absurd (let z : ◌≡◌ {A = ℕ} 0 1 = cc in omega arith)

entity_only : (n : Option ℤ) → Sized n → dxcc_read (entity_text n) ≡ n → Signed64 n
entity_only None h e = tt
entity_only (Some (pos n)) h e = by (ltb n (2 ^ 63)) refl
  where
    by : (t : Bool) → ltb n (2 ^ 63) ≡ t → n < 2 ^ 63
    by true q = ltb-true n (2 ^ 63) q
    by false q =
        let z : None ≡ Some (pos n) = sym (ap entity_read (above_opened n h ∙ ap (λ (t : Bool). pick t (Some (record { negative = false; size = n })) None) q)) ∙ e in
        absurd (let w : ◌≡◌ {A = ℕ} 0 1 = cc in omega arith)
entity_only (Some (negsuc n)) h e = by (leb (suc n) (2 ^ 63)) refl
  where
    by : (t : Bool) → leb (suc n) (2 ^ 63) ≡ t → n < 2 ^ 63
    by true q = leb-true (suc n) (2 ^ 63) q
    by false q =
        let z : None ≡ Some (negsuc n) = sym (ap entity_read (below_opened n h ∙ ap (λ (t : Bool). pick t (Some (record { negative = true; size = suc n })) None) q)) ∙ e in
        absurd (let w : ◌≡◌ {A = ℕ} 0 1 = cc in omega arith)

split_only_lem : (f : Option ℕ) (b : Option (List ℕ)) → split_only f b ≡ b → f ≡ None → b ≡ None
split_only_lem f b e h = sym e ∙ ap (λ (f : Option ℕ). split_only f b) h

pub back_lasting : (c : Contact) → Sized c.dxcc → read_back c ≡ c → Lasting c
unfolding read_back
back_lasting c s e =
    record {
      freq = frequency_only c.freq (ap (λ (x : Contact). x.freq) e);
      freq_rx = frequency_only c.freq_rx (ap (λ (x : Contact). x.freq_rx) e);
      band_rx = split_only_lem c.freq_rx c.band_rx (ap (λ (x : Contact). x.band_rx) e);
      dxcc = entity_only c.dxcc s (ap (λ (x : Contact). x.dxcc) e);
    }

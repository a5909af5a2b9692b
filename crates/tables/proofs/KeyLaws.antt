-- Laws of keys: two short texts have one key exactly if they are the same but for case; and what the loops ask. Assumes nothing.
use Rattle.std.specs.Prelude.{Some, None}
use mathlib.Core.Path.{◌≡◌, refl, sym, ap, ◌∙◌}
use mathlib.Core.Bool.{Bool, true, false, cond}
use mathlib.Core.List.{List, [], ◌∷◌, map, reverse, reverse_aux, reverse-reverse}
use Prim.Native.Nat.{ℕ, zero, suc, ◌+◌, ◌*◌, ◌-◌, ◌≤◌, ◌<◌}
use native.Mathlib.Numerals.{add-one}
use native.Mathlib.Omega.{arith}
use lib.Dec.{eqb, leb, ltb}
use lib.ListN.{length, get_or, drop, drop_of_length-le, length-map}
use borrow.Author.Tests.{eq-eqb, ne_eqb, lt-ltb, le-ltb, leb-true, ltb-true}
use Rattle.std.specs.List.{position_from, position_or_len}
use Rattle.std.proofs.lemmas.Iterator.Adapters.{position_from-zero}
use Rattle.text.specs.Pick.{pick, both, within}
use Rattle.text.proofs.BoolLaws.{both_left, both_right}
use Rattle.letters.specs.Capitals.{raised, capitals}
use Rattle.letters.specs.Same.{same, same_raised}
use Rattle.letters.proofs.SameLaws.{same_refl, same_raised_true}
use Rattle.tables.specs.Table.{first_from, named, digits, key_of, Bytes, Keyed}
use Rattle.tables.proofs.Tested.{all}

-- ---- the number that a list of digits is, the last first
abbrev number : List ℕ → ℕ
number [] = 1
number (b ∷ bs) = number bs * 256 + b

abbrev Small : List ℕ → Type 0
Small [] = 0 ≤ 0
Small (b ∷ bs) = (b < 256) × Small bs

number_positive : (bs : List ℕ) → 1 ≤ number bs
number_positive [] = omega arith
number_positive (b ∷ bs) = omega (arith, number_positive bs)

one_number : (ds bs : List ℕ) → Small ds → Small bs → number ds ≡ number bs → ds ≡ bs
one_number [] [] p q e = refl
one_number [] (b ∷ bs) p q e = absurd (omega (arith, number_positive bs))
one_number (a ∷ ds) [] p q e = absurd (omega (arith, number_positive ds))
one_number (a ∷ ds) (b ∷ bs) p q e =
    let x : a ≡ b = omega (arith, p.0, q.0) in
    let y : number ds ≡ number bs = omega (arith, p.0, q.0) in
    let r : ds ≡ bs = one_number ds bs p.1 q.1 y in
    cc

digits_number : (xs r : List ℕ) → digits (number r) xs ≡ number (reverse_aux (capitals xs) r)
digits_number [] r = refl
digits_number (x ∷ xs) r = digits_number xs (raised x ∷ r)

pub raised_le : (b : ℕ) → raised b ≤ b
unfolding raised
raised_le b = by (within b 0x61 0x7A)
  where
    by : (t : Bool) → pick t (b - 0x20) b ≤ b
    by true = omega arith
    by false = omega arith

bytes_small : (xs : List ℕ) → Bytes xs → Small (capitals xs)
unfolding Bytes
bytes_small [] h = omega arith
bytes_small (x ∷ xs) h = (omega (arith, raised_le x, h 0), bytes_small xs (λ k. h (suc k)))

reverse_small : (xs r : List ℕ) → Small xs → Small r → Small (reverse_aux xs r)
reverse_small [] r p q = q
reverse_small (x ∷ xs) r p q = reverse_small xs (x ∷ r) p.1 (p.0, q)

-- ---- one key, one text in capitals
equal_keys : (xs ns : List ℕ) → capitals xs ≡ capitals ns → key_of xs ≡ key_of ns
unfolding key_of
equal_keys xs ns e =
    let l : length xs ≡ length ns = sym (length-map xs raised) ∙ ap length e ∙ length-map ns raised in
    let d : digits 1 xs ≡ digits 1 ns = digits_number xs [] ∙ ap (λ (c : List ℕ). number (reverse_aux c [])) e ∙ sym (digits_number ns []) in
    rw (l, d) refl

not_other : (xs ns : List ℕ) → capitals xs ≡ capitals ns → same_raised xs ns ≡ false → ⊥
unfolding same_raised
not_other xs ns e p =
    let q : same (capitals ns) (capitals ns) ≡ false = rw e at p in
    let r : same (capitals ns) (capitals ns) ≡ true = same_refl (capitals ns) in
    let z : ◌≡◌ {A = ℕ} 0 1 = cc in
    omega arith

module _ (xs ns : List ℕ) (hx : Bytes xs) (hn : Bytes ns) (short : length ns ≤ 7) where
  same_capitals : digits 1 xs ≡ digits 1 ns → capitals xs ≡ capitals ns
  same_capitals e =
      let x : reverse (capitals xs) ≡ reverse (capitals ns) =
      one_number (reverse (capitals xs)) (reverse (capitals ns))
      (reverse_small (capitals xs) [] (bytes_small xs hx) (omega arith))
      (reverse_small (capitals ns) [] (bytes_small ns hn) (omega arith))
      (sym (digits_number xs []) ∙ e ∙ digits_number ns [])
      in
      sym (reverse-reverse (capitals xs)) ∙ ap reverse x ∙ reverse-reverse (capitals ns)

  key_tells : key_of xs ≡ key_of ns → capitals xs ≡ capitals ns
  unfolding key_of
  key_tells e = by (ltb 7 (length xs)) refl
    where
      by : (t : Bool) → ltb 7 (length xs) ≡ t → capitals xs ≡ capitals ns
      by true p =
          let z : 0 ≡ digits 1 ns = rw (p, le-ltb 7 (length ns) short) at e in
          absurd (omega (arith, number_positive (reverse (capitals ns)), digits_number ns []))
      by false p = same_capitals (rw (p, le-ltb 7 (length ns) short) at e)

  key_same : eqb (key_of xs) (key_of ns) ≡ same_raised xs ns
  key_same = by (same_raised xs ns) refl
    where
      by : (t : Bool) → same_raised xs ns ≡ t → eqb (key_of xs) (key_of ns) ≡ t
      by true p = eq-eqb (key_of xs) (key_of ns) (equal_keys xs ns (same_raised_true xs ns p))
      by false p = ne_eqb (key_of xs) (key_of ns) (λ e. not_other xs ns (key_tells e) p)

-- ---- a table of keys is a table of names
abbrev pub is_short : List ℕ → Bool
is_short n = both (leb (length n) 7) (all (λ (b : ℕ). ltb b 256) n)

all_bytes : (n : List ℕ) → all (λ (b : ℕ). ltb b 256) n ≡ true → Bytes n
unfolding Bytes
all_bytes [] t k = omega arith
all_bytes (x ∷ xs) t zero = ltb-true x 256 (both_left (ltb x 256) (all (λ (b : ℕ). ltb b 256) xs) t)
all_bytes (x ∷ xs) t (suc k) = all_bytes xs (both_right (ltb x 256) (all (λ (b : ℕ). ltb b 256) xs) t) k

keys_from : (x : List ℕ) → Bytes x → (i : ℕ) (ns : List (List ℕ)) → all is_short ns ≡ true
    → first_from (eqb (key_of x)) i (map key_of ns) ≡ first_from (same_raised x) i ns
keys_from x h i [] t = refl
keys_from x h i (n ∷ ns) t =
    let s : is_short n ≡ true = both_left (is_short n) (all is_short ns) t in
    let e : eqb (key_of x) (key_of n) ≡ same_raised x n =
    key_same x n h (all_bytes n (both_right (leb (length n) 7) (all (λ (b : ℕ). ltb b 256) n) s))
    (leb-true (length n) 7 (both_left (leb (length n) 7) (all (λ (b : ℕ). ltb b 256) n) s))
    in
    rw (e, keys_from x h (suc i) ns (both_right (is_short n) (all is_short ns) t)) refl

pub keys_named : (x : List ℕ) (k : ℕ) (ns : List (List ℕ)) → all is_short ns ≡ true → Keyed x k → first_from (eqb k) 0 (map key_of ns) ≡ named x ns
unfolding named Keyed
keys_named x k ns t p = ap (λ (n : ℕ). first_from (eqb n) 0 (map key_of ns)) p.0 ∙ keys_from x p.1 0 ns t

-- ---- the loop that makes a key: what is left gives the same number, and k is small enough to go on
abbrev pub limit : ℕ → ℕ
limit i = get_or (2 ∷ 512 ∷ 131072 ∷ 33554432 ∷ 8589934592 ∷ 2199023255552 ∷ 562949953421312 ∷ 144115188075855872 ∷ []) i 0

module _ (s : List ℕ) (k i : ℕ) where
  pub key_long : 7 < length s → 0 ≡ key_of s
  unfolding key_of
  key_long h = rw (lt-ltb 7 (length s) h) refl

  pub key_end : length s ≤ 7 → length s ≤ i → digits k (drop i s) ≡ digits 1 s → k ≡ key_of s
  unfolding key_of
  key_end l h q = rw (le-ltb 7 (length s) l) (rw (drop_of_length-le s h) at q)

-- ---- the first of a list, as `position` finds it
module _ {A : Type 0} (test : A → Bool) where
  first_by : (i : ℕ) (xs : List A) → position_from test i xs ≡ first_from test i xs
  first_by i [] = refl
  first_by i (x ∷ xs) = rw (add-one, first_by (suc i) xs) (by (test x))
    where
      by : (t : Bool) → cond t (Some i) (first_from test (suc i) xs) ≡ pick t (Some i) (first_from test (suc i) xs)
      by true = refl
      by false = refl

  pub first_at : (xs : List A) → cond (ltb (position_or_len test xs) (length xs)) (Some (position_or_len test xs)) None ≡ first_from test 0 xs
  first_at xs = position_from-zero test xs ∙ first_by 0 xs

-- In UTF-8 text a part that is not empty is UTF-8 exactly if it starts and ends between characters. Assumes nothing.
use mathlib.Core.Path.{◌≡◌, refl, sym, ap, ◌∙◌, subst}
use mathlib.Core.Bool.{Bool, true, false}
use mathlib.Core.List.{List, [], ◌∷◌}
use Prim.Native.Nat.{ℕ, zero, suc, ◌+◌, ◌-◌, ◌≤◌, ◌<◌}
use native.Mathlib.Nat.{zero-add, add-zero, not-suc-le-zero}
use native.Mathlib.Omega.{arith}
use lib.ListN.{length, get_or, take, drop, length-drop, take-append-drop}
use lib.Seq.{get_or-take, get_or-drop, drop-drop, length-take-le, take_all, take-nil}
use lib.Dec.{leb}
use borrow.Author.Tests.{leb-true, leb-false}
use Rattle.text.specs.Walk.{lead}
use Rattle.text.specs.Utf8.{char_len, valid_up_to, cont, Utf8, Between}
use Rattle.text.proofs.Walks.{steps, stops}
use Rattle.text.proofs.Utf8Laws.{char_within}
use Rattle.text.proofs.CharLaws.{char_append, char_cut, inner_cont, first_begins}

true_false : {A : Type 0} → true ≡ false → A
true_false e = absurd (let z : ◌≡◌ {A = ℕ} 0 1 = cc in omega arith)

pub drop_take : (k n : ℕ) (l : List ℕ) → drop k (take (k + n) l) ≡ take n (drop k l)
drop_take zero n l = rw (zero-add n) refl
drop_take (suc k) n [] = rw (take-nil (suc k + n), take-nil n) refl
drop_take (suc k) n (x ∷ l) =
    let e : suc k + n ≡ suc (k + n) = omega arith in
    rw e (drop_take k n l)

-- a text whose walk over characters passes it whole, by its first character
whole_first : (s : List ℕ) → 0 < length s → lead char_len s ≡ length s → char_len s ≡ 0 → ⊥
whole_first s h e z = omega (arith, stops char_len s z)

module _ (s : List ℕ) (k : ℕ) (c : char_len s ≡ suc k) (h : 0 < length s) where
  fits : suc k ≤ length s
  fits = omega (arith, char_within s h)

  whole_rest : lead char_len s ≡ length s → lead char_len (drop (suc k) s) ≡ length (drop (suc k) s)
  whole_rest e = omega (arith, steps char_len s k c fits, length-drop (suc k) s)

  -- the first n bytes, from its second character on
  module _ (n : ℕ) (l : suc k ≤ n) (m : n ≤ length s) where
    front : drop (suc k) (take n s) ≡ take (n - suc k) (drop (suc k) s)
    front =
        let e : suc k + (n - suc k) ≡ n = omega arith in
        subst (λ (i : ℕ). drop (suc k) (take i s) ≡ take (n - suc k) (drop (suc k) s)) e (drop_take (suc k) (n - suc k) s)

    cut : char_len (take n s) ≡ suc k
    cut = by (leb (length s) n) refl
      where
        by : (t : Bool) → leb (length s) n ≡ t → char_len (take n s) ≡ suc k
        by true p = rw (take_all n s (leb-true (length s) n p)) c
        by false p = char_cut k n s l (leb-false (length s) n p) c

    lead_front : lead char_len (take n s) ≡ suc k + lead char_len (take (n - suc k) (drop (suc k) s))
    lead_front = steps char_len (take n s) k cut (omega (arith, length-take-le n s m)) ∙ ap (λ (r : List ℕ). suc k + lead char_len r) front

    back : drop n s ≡ drop (n - suc k) (drop (suc k) s)
    back =
        let e : suc k + (n - suc k) ≡ n = omega arith in
        sym (drop-drop (n - suc k) (suc k) s ∙ ap (λ (i : ℕ). drop i s) e)

    there : get_or (drop (suc k) s) (n - suc k) 0 ≡ get_or s n 0
    there =
        let e : suc k + (n - suc k) ≡ n = omega arith in
        get_or-drop (suc k) s (n - suc k) 0 ∙ ap (λ (i : ℕ). get_or s i 0) e

none : lead char_len [] ≡ 0
unfolding lead
none = refl

-- cut between two characters, both pieces are whole
abbrev Pieces : ℕ → List ℕ → Type 0
Pieces n s = (lead char_len (take n s) ≡ n) × (lead char_len (drop n s) ≡ length s - n)

pieces : (f n : ℕ) (s : List ℕ) → length s < f → lead char_len s ≡ length s → n ≤ length s → Between s n → Pieces n s
pieces zero n s h e l b = absurd (not-suc-le-zero h)
pieces (suc f) zero s h e l b = (none, e ∙ omega arith)
pieces (suc f) (suc n) s h e l b = by (char_len s) refl (λ r i x y z w. pieces f i r x y z w)
  where
    by : (k : ℕ) → char_len s ≡ k
        → ((r : List ℕ) (i : ℕ) → length r < f → lead char_len r ≡ length r → i ≤ length r → Between r i → (lead char_len (take i r) ≡ i) × (lead char_len (drop i r) ≡ length r - i))
        → (lead char_len (take (suc n) s) ≡ suc n) × (lead char_len (drop (suc n) s) ≡ length s - suc n)
    by zero c go = absurd (whole_first s (omega arith) e c)
    by (suc k) c go = cases (leb (suc k) (suc n)) refl
      where
        cases : (t : Bool) → leb (suc k) (suc n) ≡ t → (lead char_len (take (suc n) s) ≡ suc n) × (lead char_len (drop (suc n) s) ≡ length s - suc n)
        cases false p =
            true_false (sym (inner_cont s (suc n) (suc k) c (omega arith) (leb-false (suc k) (suc n) p)) ∙ b)
        cases true p =
            let at : suc k ≤ suc n = leb-true (suc k) (suc n) p in
            let some : 0 < length s = omega arith in
            let size : length (drop (suc k) s) ≡ length s - suc k = length-drop (suc k) s in
            let next : Between (drop (suc k) s) (suc n - suc k) = rw (there s k c some (suc n) at l) b in
            let rest : (lead char_len (take (suc n - suc k) (drop (suc k) s)) ≡ suc n - suc k) × (lead char_len (drop (suc n - suc k) (drop (suc k) s)) ≡ length (drop (suc k) s) - (suc n - suc k))
            = go (drop (suc k) s) (suc n - suc k) (omega arith) (whole_rest s k c some e) (omega arith) next in
            (omega (arith, lead_front s k c some (suc n) at l, rest.0), rw (back s k c some (suc n) at l) (omega (arith, rest.1)))

-- and where the first piece is whole, the cut lies between two characters
between : (f n : ℕ) (s : List ℕ) → length s < f → lead char_len s ≡ length s → n ≤ length s → lead char_len (take n s) ≡ n → Between s n
between zero n s h e l w = absurd (not-suc-le-zero h)
between (suc f) zero [] h e l w = refl
between (suc f) zero (x ∷ xs) h e l w = by (char_len (x ∷ xs)) refl
  where
    by : (k : ℕ) → char_len (x ∷ xs) ≡ k → Between (x ∷ xs) 0
    by zero c = absurd (whole_first (x ∷ xs) (omega arith) e c)
    by (suc k) c = first_begins x k xs c
between (suc f) (suc n) s h e l w = by (char_len (take (suc n) s)) refl (λ r i x y z v. between f i r x y z v)
  where
    size : length (take (suc n) s) ≡ suc n
    size = length-take-le (suc n) s l

    by : (k : ℕ) → char_len (take (suc n) s) ≡ k
        → ((r : List ℕ) (i : ℕ) → length r < f → lead char_len r ≡ length r → i ≤ length r → lead char_len (take i r) ≡ i → Between r i)
        → Between s (suc n)
    by zero c go = absurd (omega (arith, stops char_len (take (suc n) s) c))
    by (suc k) c go =
        let at : suc k ≤ suc n = omega (arith, char_within (take (suc n) s) (omega (arith, size)), size) in
        let some : 0 < length s = omega arith in
        let whole : char_len s ≡ suc k = subst (λ (r : List ℕ). char_len r ≡ suc k) (take-append-drop (suc n) s) (char_append k (take (suc n) s) (drop (suc n) s) (omega (arith, size)) c) in
        let long : length (drop (suc k) s) ≡ length s - suc k = length-drop (suc k) s in
        let rest : Between (drop (suc k) s) (suc n - suc k)
        = go (drop (suc k) s) (suc n - suc k) (omega arith) (whole_rest s k whole some e) (omega arith) (omega (arith, lead_front s k whole some (suc n) at l)) in
        subst (λ (x : ℕ). cont x ≡ false) (there s k whole some (suc n) at l) rest

-- a part of a UTF-8 text, from a up to e
module _ (s : List ℕ) (a e : ℕ) (u : Utf8 s) (p : a ≤ e) (q : e ≤ length s) where
  rest : Between s a → lead char_len (drop a s) ≡ length (drop a s)
  unfolding valid_up_to
  rest b = (pieces (suc (length s)) a s (omega arith) u (omega arith) b).1 ∙ sym (length-drop a s)

  last : get_or (drop a s) (e - a) 0 ≡ get_or s e 0
  last =
      let h : a + (e - a) ≡ e = omega arith in
      get_or-drop a s (e - a) 0 ∙ ap (λ (i : ℕ). get_or s i 0) h

  short : e - a ≤ length (drop a s)
  short = omega (arith, length-drop a s)

  pub part_whole : Between s a → Between s e → Utf8 (take (e - a) (drop a s))
  unfolding valid_up_to
  part_whole b c =
      (pieces (suc (length (drop a s))) (e - a) (drop a s) (omega arith) (rest b) short (rw last c)).0 ∙ sym (length-take-le (e - a) (drop a s) short)

  pub part_ends : Between s a → Utf8 (take (e - a) (drop a s)) → Between s e
  unfolding valid_up_to
  part_ends b w =
      subst (λ (x : ℕ). cont x ≡ false) last
      (between (suc (length (drop a s))) (e - a) (drop a s) (omega arith) (rest b) short (w ∙ length-take-le (e - a) (drop a s) short))

  pub part_starts : a < e → Utf8 (take (e - a) (drop a s)) → Between s a
  unfolding valid_up_to
  part_starts h w =
      subst (λ (x : ℕ). cont x ≡ false) front
      (between (suc (length part)) 0 part (omega arith) w (omega arith) none)
    where
      part : List ℕ
      part = take (e - a) (drop a s)

      front : get_or part 0 0 ≡ get_or s a 0
      front = get_or-take (e - a) (drop a s) 0 0 (omega arith) ∙ get_or-drop a s 0 0 ∙ ap (λ (i : ℕ). get_or s i 0) (add-zero a)

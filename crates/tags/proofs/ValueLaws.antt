-- In UTF-8 text a value, which starts behind a `>`, is UTF-8 exactly if it ends between two characters: so 7 is given exactly where the
-- value is not UTF-8. Assumes nothing.
use mathlib.Core.Path.{◌≡◌, refl, sym, ◌∙◌}
use mathlib.Core.Bool.{Bool, true, false}
use mathlib.Core.List.{List}
use Prim.Native.Nat.{ℕ, ◌+◌, ◌-◌, ◌≤◌, ◌<◌}
use native.Mathlib.Omega.{arith}
use lib.ListN.{length, get_or, take, drop, length-drop, get_or-eq_default}
use lib.Seq.{drop-drop}
use lib.Dec.{eqb, ltb, lit≤}
use borrow.Author.Tests.{eq-eqb, ne_eqb, ltb-true, ltb-false}
use Rattle.text.specs.Pick.{pick}
use Rattle.text.specs.Walk.{lead}
use Rattle.text.specs.Utf8.{char_len, valid_up_to, cont, utf8, Utf8, Between}
use Rattle.text.proofs.SpaceLaws.{rest}
use Rattle.text.proofs.Utf8Laws.{ascii}
use Rattle.text.proofs.Walks.{steps}
use Rattle.text.proofs.PartLaws.{part_whole, part_ends, part_starts}
use Rattle.tags.specs.Tags.{gt}

module _ (s : List ℕ) (u : Utf8 s) where
  -- what follows an ASCII byte is UTF-8, and begins a character
  module _ (i : ℕ) (h : i < length s) (e : get_or s i 0 ≡ gt) where
    from : Utf8 (drop i s)
    from = rw rest at (part_whole s i (length s) u (omega arith) (omega arith) (rw e refl) (rw (get_or-eq_default s 0 {n = length s} (omega arith)) refl))

    after : Utf8 (drop (i + 1) s)
    unfolding valid_up_to
    after =
        let one : char_len (drop i s) ≡ 1 = sym (ascii s i (rw e (lit≤ tt))) in
        let l : length (drop i s) ≡ length s - i = length-drop i s in
        let step : lead char_len (drop i s) ≡ 1 + lead char_len (drop 1 (drop i s)) = steps char_len (drop i s) 0 one (omega arith) in
        rw (← drop-drop 1 i s) (omega (arith, step, from, length-drop 1 (drop i s)))

    starts : Between s (i + 1)
    starts = by (ltb (i + 1) (length s)) refl
      where
        by : (t : Bool) → ltb (i + 1) (length s) ≡ t → Between s (i + 1)
        by true p = part_starts s (i + 1) (length s) u (omega arith) (omega arith) (ltb-true (i + 1) (length s) p) (rw rest after)
        by false p = rw (get_or-eq_default s 0 (ltb-false (i + 1) (length s) p)) refl

    -- the n bytes behind it
    module _ (n : ℕ) (m : i + 1 + n ≤ length s) where
      size : i + 1 + n - (i + 1) ≡ n
      size = omega arith

      pub whole_value : cont (get_or s (i + 1 + n) 0) ≡ false → Utf8 (take n (drop (i + 1) s))
      whole_value b = rw size at (part_whole s (i + 1) (i + 1 + n) u (omega arith) m starts b)

      pub ends_between : Utf8 (take n (drop (i + 1) s)) → cont (get_or s (i + 1 + n) 0) ≡ false
      ends_between w = part_ends s (i + 1) (i + 1 + n) u (omega arith) m starts (rw size w)

      pub value_test : utf8 (take n (drop (i + 1) s)) ≡ pick (cont (get_or s (i + 1 + n) 0)) false true
      unfolding utf8
      value_test = by (cont (get_or s (i + 1 + n) 0)) refl
        where
          v : List ℕ
          v = take n (drop (i + 1) s)

          by : (t : Bool) → cont (get_or s (i + 1 + n) 0) ≡ t → eqb (valid_up_to v) (length v) ≡ pick t false true
          by true p = ne_eqb (valid_up_to v) (length v) (λ w. never (sym p ∙ ends_between w))
            where
              never : true ≡ false → ⊥
              never z = let y : ◌≡◌ {A = ℕ} 0 1 = cc in omega arith
          by false p = eq-eqb (valid_up_to v) (length v) (whole_value p)

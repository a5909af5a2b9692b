-- A service that an earlier record bears, of those that confirm the same thing, has counted at an earlier one. Assumes nothing.
use mathlib.Core.Path.{◌≡◌, refl, sym, ap, ◌∙◌}
use mathlib.Core.Bool.{Bool, true, false, not}
use mathlib.Core.List.{List}
use Prim.Native.Nat.{ℕ, zero, suc, ◌<◌}
use native.Mathlib.Omega.{arith}
use lib.Dec.{eqb}
use lib.ListN.{get_or}
use borrow.Author.Tests.{eqb-true, eq-eqb}
use Rattle.text.specs.Pick.{pick, both}
use Rattle.text.specs.Space.{trimmed}
use Rattle.text.proofs.BoolLaws.{cases, never, both_left, both_right, both_true}
use Rattle.letters.specs.Capitals.{capitals}
use Rattle.letters.specs.Same.{same, same_raised}
use Rattle.letters.proofs.SameLaws.{same_refl, same_true}
use Rattle.chain.specs.Chain.{over, any}
use Rattle.chain.proofs.Chains.{over_hit, over_miss}
use Rattle.contacts.specs.Contacts.{Contact}
use Rattle.plan.specs.Entry.{Entry, no_entry}
use Rattle.plan.specs.Confirmed.{bears, same_unmatched, alike, counts}

same_eq : (xs ys : List ℕ) → xs ≡ ys → same xs ys ≡ true
same_eq xs ys e = rw e (same_refl ys)

unmatched_trans : (e f g : Entry) → same_unmatched e f ≡ true → same_unmatched f g ≡ true → same_unmatched e g ≡ true
unfolding same_unmatched same_raised
unmatched_trans e f g p q =
    let cp = same_true (capitals (trimmed e.call)) (capitals (trimmed f.call)) (both_left (same (capitals (trimmed e.call)) (capitals (trimmed f.call))) _ p) in
    let rp = both_right (same (capitals (trimmed e.call)) (capitals (trimmed f.call))) _ p in
    let bp = same_true e.band f.band (both_left (same e.band f.band) _ rp) in
    let mp = same_true e.mode f.mode (both_right (same e.band f.band) _ rp) in
    let cq = same_true (capitals (trimmed f.call)) (capitals (trimmed g.call)) (both_left (same (capitals (trimmed f.call)) (capitals (trimmed g.call))) _ q) in
    let rq = both_right (same (capitals (trimmed f.call)) (capitals (trimmed g.call))) _ q in
    let bq = same_true f.band g.band (both_left (same f.band g.band) _ rq) in
    let mq = same_true f.mode g.mode (both_right (same f.band g.band) _ rq) in
    both_true _ _ (same_eq _ _ (cp ∙ cq)) (both_true _ _ (same_eq _ _ (bp ∙ bq)) (same_eq _ _ (mp ∙ mq)))

not_no : (b : Bool) → not b ≡ false → b ≡ true
not_no true e = refl
not_no false e = sym e

-- what passes p passes q
any_more : (p q : ℕ → Bool) (m : ℕ) → ((j : ℕ) → j < m → p j ≡ true → q j ≡ true) → any p m ≡ true → any q m ≡ true
unfolding over
any_more p q zero h e = e
any_more p q (suc m) h e =
    cases (q m) (λ v. over_hit q (λ j a. true) false m v)
    (λ v. cases (p m)
    (λ u. never (q m) (h m (omega arith) u) v)
    (λ u. over_miss q (λ j a. true) false m v ∙ any_more p q m (λ j l. h j (omega arith)) (sym (over_miss p (λ j a. true) false m u) ∙ e)))

module _ (cs : List Contact) (es : List Entry) (hits fates : List ℕ) where
  abbrev Alike : ℕ → ℕ → Bool
  Alike j k = alike cs es hits fates j k

  abbrev Bears : ℕ → ℕ → Bool
  Bears j s = bears (get_or es j no_entry).answers s

  abbrev Counts : ℕ → ℕ → Bool
  Counts j s = counts cs es hits fates j s

  pub alike_fates : (j k : ℕ) → Alike j k ≡ true → get_or fates j 0 ≡ get_or fates k 0
  unfolding alike
  alike_fates j k e = eqb-true (get_or fates j 0) (get_or fates k 0) (both_left (eqb (get_or fates j 0) (get_or fates k 0)) _ e)

  alike_trans : (i j k : ℕ) → Alike i j ≡ true → Alike j k ≡ true → Alike i k ≡ true
  unfolding alike
  alike_trans i j k p q =
      let f : get_or fates i 0 ≡ get_or fates j 0 = eqb-true _ _ (both_left (eqb (get_or fates i 0) (get_or fates j 0)) _ p) in
      let g : get_or fates j 0 ≡ get_or fates k 0 = eqb-true _ _ (both_left (eqb (get_or fates j 0) (get_or fates k 0)) _ q) in
      let r = both_right (eqb (get_or fates i 0) (get_or fates j 0)) _ p in
      let s = both_right (eqb (get_or fates j 0) (get_or fates k 0)) _ q in
      let t : pick (eqb (get_or fates k 0) 5) (eqb (get_or hits i 0) (get_or hits j 0)) (same_unmatched (get_or es i no_entry) (get_or es j no_entry)) ≡ true =
      ap (λ (x : ℕ). pick (eqb x 5) (eqb (get_or hits i 0) (get_or hits j 0)) (same_unmatched (get_or es i no_entry) (get_or es j no_entry))) (sym g) ∙ r in
      both_true _ _ (eq-eqb (get_or fates i 0) (get_or fates k 0) (f ∙ g))
      (cases (eqb (get_or fates k 0) 5)
      (λ u. rw u (eq-eqb (get_or hits i 0) (get_or hits k 0) (eqb-true (get_or hits i 0) (get_or hits j 0) (rw u at t) ∙ eqb-true (get_or hits j 0) (get_or hits k 0) (rw u at s))))
      (λ u. rw u (unmatched_trans (get_or es i no_entry) (get_or es j no_entry) (get_or es k no_entry) (rw u at t) (rw u at s))))

  counted_before : (m s : ℕ) → Counts m s ≡ false → any (λ i. both (Alike i m) (Bears i s)) m ≡ true
  unfolding counts
  counted_before m s v = not_no (any (λ i. both (Alike i m) (Bears i s)) m) v

  apart : (a b c : Bool) → both a b ≡ false → both a (both b c) ≡ false
  apart true b c e = rw e refl
  apart false b c e = refl

  pub first_of : (k s m : ℕ) → any (λ j. both (Alike j k) (Bears j s)) m ≡ any (λ j. both (Alike j k) (both (Bears j s) (Counts j s))) m
  unfolding over
  first_of k s zero = refl
  first_of k s (suc m) = step (first_of k s m)
    where
      p : ℕ → Bool
      p j = both (Alike j k) (Bears j s)

      q : ℕ → Bool
      q j = both (Alike j k) (both (Bears j s) (Counts j s))

      step : any p m ≡ any q m → any p (suc m) ≡ any q (suc m)
      step i =
          cases (both (Alike m k) (Bears m s))
          (λ u. let a = both_left (Alike m k) _ u in
          let b = both_right (Alike m k) _ u in
          cases (Counts m s)
          (λ v. over_hit p (λ j x. true) false m u ∙ sym (over_hit q (λ j x. true) false m (both_true _ _ a (both_true _ _ b v))))
          (λ v. let n : both (Bears m s) (Counts m s) ≡ false = ap (λ (x : Bool). both x (Counts m s)) b ∙ v in
          let z : q m ≡ false = ap (λ (x : Bool). both x (both (Bears m s) (Counts m s))) a ∙ n in
          let y : any p m ≡ true = any_more _ p m (λ j l e. both_true _ _ (alike_trans j m k (both_left (Alike j m) _ e) a) (both_right (Alike j m) _ e)) (counted_before m s v) in
          over_hit p (λ j x. true) false m u ∙ sym (over_miss q (λ j x. true) false m z ∙ sym i ∙ y)))
          (λ u. over_miss p (λ j x. true) false m u ∙ i ∙ sym (over_miss q (λ j x. true) false m (apart (Alike m k) (Bears m s) (Counts m s) u)))

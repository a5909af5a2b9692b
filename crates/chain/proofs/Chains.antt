-- Laws of chains. Assumes nothing.
use mathlib.Core.Path.{◌≡◌, refl, sym, ap, ◌∙◌, subst}
use mathlib.Core.Bool.{Bool, true, false}
use mathlib.Core.List.{List, []}
use Prim.Native.Nat.{ℕ, zero, suc, ◌+◌, ◌≤◌, ◌<◌}
use native.Mathlib.Numerals.{add-one}
use native.Mathlib.Omega.{arith}
use lib.Dec.{eqb, ltb}
use lib.ListN.{length, get_or, set}
use lib.Seq.{get_or-set_same, get_or-set_other, set_out}
use borrow.Author.Tests.{ltb-true, ltb-false, eqb-true, eqb-false, eq-eqb, ne_eqb}
use Rattle.text.proofs.BoolLaws.{cases, never}
use Rattle.chain.specs.Chain.{over, down, col, in_bucket, Linked, Pushed}

module _ {A : Type 0} (p : ℕ → Bool) (f : ℕ → A → A) (z : A) where
  pub over_hit : (k : ℕ) → p k ≡ true → over p f z (suc k) ≡ f k (over p f z k)
  unfolding over
  over_hit k e = rw e

  pub over_miss : (k : ℕ) → p k ≡ false → over p f z (suc k) ≡ over p f z k
  unfolding over
  over_miss k e = rw e

-- of the entries below k that pass q
module _ (q : ℕ → Bool) where
  pub down_le : (k : ℕ) → down q k ≤ k
  unfolding over
  down_le zero = omega arith
  down_le (suc k) = cases (q k) (λ u. rw u (omega arith)) (λ u. rw u (omega (arith, down_le k)))

  pub down_hit : (k j : ℕ) → down q k ≡ suc j → q j ≡ true
  unfolding over
  down_hit zero j e = absurd (omega arith)
  down_hit (suc k) j e =
      cases (q k) (λ u. let h : suc k ≡ suc j = rw u at e in let z : k ≡ j = omega arith in subst (λ (m : ℕ). q m ≡ true) z u)
      (λ u. down_hit k j (rw u at e))

-- where all that pass p pass q too, nothing is missed by going down at once to the last that passes q
module _ {A : Type 0} (p q : ℕ → Bool) (f : ℕ → A → A) (z : A) where
  pub skip : (k : ℕ) → ((j : ℕ) → j < k → p j ≡ true → q j ≡ true) → over p f z k ≡ over p f z (down q k)
  unfolding over
  skip zero h = refl
  skip (suc k) h =
      cases (q k) (λ u. rw u)
      (λ u. cases (p k) (λ v. never (q k) (h k (omega arith) v) u) (λ v. rw (u, v) (skip k (λ j l. h j (omega arith)))))

-- what a store leaves as it was, at every row; and what a store puts at its row
pub kept_of_lem : {A : Type 0} (f : List ℕ → A) (rows : List (List ℕ)) (b : ℕ) (r : List ℕ) (j : ℕ) → f r ≡ f (get_or rows b []) → f (get_or (set rows b r) j []) ≡ f (get_or rows j [])
kept_of_lem f rows b r j e =
    cases (eqb j b)
    (λ t. let z : j ≡ b = eqb-true j b t in
    cases (ltb b (length rows))
    (λ u. let i : b < length rows = ltb-true b (length rows) u in rw (z, get_or-set_same rows b r [] i) e)
    (λ u. rw (set_out rows b r (ltb-false b (length rows) u))))
    (λ t. rw (get_or-set_other rows b j r [] (eqb-false j b t)))

pub kept : (rows : List (List ℕ)) (b : ℕ) (r : List ℕ) (c j : ℕ) → get_or r c 0 ≡ col rows b c → col (set rows b r) j c ≡ col rows j c
kept rows b r c j e = kept_of_lem (λ (x : List ℕ). get_or x c 0) rows b r j e

pub stored : (rows : List (List ℕ)) (b : ℕ) (r : List ℕ) (c : ℕ) → b < length rows → col (set rows b r) b c ≡ get_or r c 0
stored rows b r c h = rw (get_or-set_same rows b r [] h)

pub other : (rows : List (List ℕ)) (b : ℕ) (r : List ℕ) (c j : ℕ) → (j ≡ b → ⊥) → col (set rows b r) j c ≡ col rows j c
other rows b r c j n = rw (get_or-set_other rows b j r [] n)

-- a push keeps the chains, and so does an entry that goes into none
module _ (bucket : ℕ → ℕ) (n k : ℕ) (hd nx : ℕ → ℕ) (L : Linked bucket n k hd nx) where
  pub linked_more : (hd' nx' : ℕ → ℕ) → Pushed (bucket k) k hd nx hd' nx' → bucket k < n → Linked bucket n (k + 1) hd' nx'
  linked_more hd' nx' Q hb =
      record {
        heads = λ a ha. cases (eqb a (bucket k))
            (λ t. let z : a ≡ bucket k = eqb-true a (bucket k) t in rw (z, add-one, over_hit (in_bucket bucket (bucket k)) (λ j x. suc j) 0 k (eq-eqb (bucket k) (bucket k) refl)) Q.head_there)
            (λ t. rw (add-one, over_miss (in_bucket bucket a) (λ j x. suc j) 0 k (ne_eqb (bucket k) a (λ z. eqb-false a (bucket k) t (sym z)))) (Q.head_else a (eqb-false a (bucket k) t) ∙ L.heads a ha));
        nexts = λ j hj hl. cases (eqb j k)
            (λ t. let z : j ≡ k = eqb-true j k t in rw z (Q.next_there ∙ L.heads (bucket k) hb))
            (λ t. Q.next_else j (eqb-false j k t) ∙ L.nexts j (omega (arith, eqb-false j k t)) hl);
      }

  pub linked_without : n ≤ bucket k → Linked bucket n (k + 1) hd nx
  linked_without h =
      record {
        heads = λ a ha. rw (add-one, over_miss (in_bucket bucket a) (λ j x. suc j) 0 k (ne_eqb (bucket k) a (λ z. omega arith))) (L.heads a ha);
        nexts = λ j hj hl. cases (eqb j k)
            (λ t. let z : j ≡ k = eqb-true j k t in absurd (omega (arith, ap bucket z)))
            (λ t. L.nexts j (omega (arith, eqb-false j k t)) hl);
      }

pub linked_none : (bucket : ℕ → ℕ) (n : ℕ) (hd nx : ℕ → ℕ) → ((b : ℕ) → b < n → hd b ≡ 0) → Linked bucket n 0 hd nx
unfolding over
linked_none bucket n hd nx z = record { heads = z; nexts = λ j l. absurd (omega arith) }

-- tests that agree below k
pub over_same : {A : Type 0} (p q : ℕ → Bool) (f : ℕ → A → A) (z : A) (k : ℕ) → ((j : ℕ) → j < k → p j ≡ q j) → over p f z k ≡ over q f z k
unfolding over
over_same p q f z zero h = refl
over_same p q f z (suc k) h = rw (h k (omega arith), over_same p q f z k (λ j l. h j (omega arith)))

pub linked_as : (f g : ℕ → ℕ) (n k : ℕ) (hd nx : ℕ → ℕ) → ((j : ℕ) → j < k → f j ≡ g j) → Linked f n k hd nx → Linked g n k hd nx
linked_as f g n k hd nx e L =
    record {
      heads = λ b hb. L.heads b hb ∙ over_same (in_bucket f b) (in_bucket g b) (λ j x. suc j) 0 k (λ j l. ap (λ (x : ℕ). eqb x b) (e j l));
      nexts = λ j hj hl. L.nexts j hj (rw (e j hj) hl) ∙ rw (e j hj) (over_same (in_bucket f (g j)) (in_bucket g (g j)) (λ i x. suc i) 0 j (λ i l. ap (λ (x : ℕ). eqb x (g j)) (e i (omega arith))));
    }

pub linked_by : (f : ℕ → ℕ) (n k : ℕ) (hd nx hd' nx' : ℕ → ℕ) → ((j : ℕ) → hd' j ≡ hd j) → ((j : ℕ) → nx' j ≡ nx j) → Linked f n k hd nx → Linked f n k hd' nx'
linked_by f n k hd nx hd' nx' eh en L = record { heads = λ b hb. eh b ∙ L.heads b hb; nexts = λ j hj hl. en j ∙ L.nexts j hj hl }

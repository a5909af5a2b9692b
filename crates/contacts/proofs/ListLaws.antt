-- The entries of a list one after the other, and the list. Assumes nothing.
use Rattle.std.specs.Prelude.{Result, Ok, Err, not, ◌&&◌, nat_eq}
use Rattle.contacts.specs.declared.Mark.{Mark}
use mathlib.Core.Path.{◌≡◌, refl, sym, ap, ◌∙◌}
use mathlib.Core.Bool.{Bool, true, false}
use mathlib.Core.List.{List}
use Prim.Native.Nat.{ℕ, zero, suc, ◌+◌, ◌-◌, ◌≤◌, ◌<◌}
use native.Mathlib.Nat.{sub-zero}
use native.Mathlib.Omega.{arith}
use lib.ListN.{length, get_or}
use lib.Dec.{eqb, leb, ltb}
use borrow.Author.Tests.{leb-true, ltb-false, lt-ltb, le-ltb, eqb-true, eq-eqb, ne_eqb}
use Rattle.text.specs.Pick.{pick}
use Rattle.text.proofs.BoolLaws.{cases, both_left}
use Rattle.refusals.specs.declared.Refusal.{Refusal}
use Rattle.refusals.specs.declared.Refusal.TheVariants.{TooLong, OtherVersion, MalformedList, IdsNotRising}
use Rattle.contacts.specs.Lists.{end_at, id_at, fits, good_at, entries_from, count_of, listed_as, fresh_by, fresh_against}
use Rattle.contacts.specs.declared.Freshness.TheVariants

-- a good entry ends within the list
pub good_inside : (s : List ℕ) (at : ℕ) → good_at s at ≡ true → end_at s at ≤ length s
unfolding good_at fits
good_inside s at g = leb-true (end_at s at) (length s) (both_left (leb (end_at s at) (length s)) _ (both_left (fits s at) _ g))

-- what is left of the entries decides
unfoldable pub Entries : List ℕ → ℕ → ℕ → ℕ → ℕ → Type 0
Entries s n k at last = entries_from s n (n - k) at last ≡ entries_from s n n 5 0

pub entries_start : (s : List ℕ) (n : ℕ) → Entries s n 0 5 0
unfolding Entries
entries_start s n = rw (sub-zero n) refl

module _ (s : List ℕ) (n k at last : ℕ) (q : Entries s n k at last) (h : k < n) (g : Bool) (eg : g ≡ good_at s at) where
  split : pick g (pick (ltb last (id_at s at)) (entries_from s n (n - (k + 1)) (end_at s at) (id_at s at)) (Err IdsNotRising)) (Err MalformedList) ≡ entries_from s n n 5 0
  unfolding Entries entries_from
  split = let e : n - k ≡ suc (n - (k + 1)) = omega arith in rw (← eg) at (rw e at q)

  pub entries_bad : g ≡ false → Err MalformedList ≡ entries_from s n n 5 0
  entries_bad b = let z : g ≡ false = b in rw z at split

  module _ (b : g ≡ true) where
    pub entries_inside : (to : ℕ) → to ≡ end_at s at → to ≤ length s
    entries_inside to e = rw e (good_inside s at (sym eg ∙ b))

    module _ (id : ℕ) (ei : id ≡ id_at s at) where
      passed : pick (ltb last id) (entries_from s n (n - (k + 1)) (end_at s at) id) (Err IdsNotRising) ≡ entries_from s n n 5 0
      passed = let z : g ≡ true = b in rw ei (rw z at split)

      pub entries_low : id ≤ last → Err IdsNotRising ≡ entries_from s n n 5 0
      entries_low l = rw (le-ltb last id l) at passed

      pub entries_on : last < id → (to : ℕ) → to ≡ end_at s at → Entries s n (k + 1) to id
      unfolding Entries
      entries_on l to e = rw e (rw (lt-ltb last id l) at passed)

module _ (s : List ℕ) (n k at last : ℕ) (q : Entries s n k at last) (h : n ≤ k) where
  over : pick (eqb at (length s)) (Ok (record { contacts = n; largest = last })) (Err MalformedList) ≡ entries_from s n n 5 0
  unfolding Entries entries_from
  over = let e : n - k ≡ 0 = omega arith in rw e at q

  pub entries_short : (at ≡ length s → ⊥) → Err MalformedList ≡ entries_from s n n 5 0
  entries_short d = rw (ne_eqb at (length s) d) at over

  pub entries_end : at ≡ length s → Ok (record { contacts = n; largest = last }) ≡ entries_from s n n 5 0
  entries_end e = rw (eq-eqb at (length s) e) at over

-- ---- the list
module _ (s : List ℕ) where
  pub list_long : 16777216 < length s → Err TooLong ≡ listed_as s
  unfolding listed_as
  list_long h = rw (lt-ltb 16777216 (length s) h) refl

  module _ (a : length s ≤ 16777216) where
    pub list_none : length s ≡ 0 → Err MalformedList ≡ listed_as s
    unfolding listed_as
    list_none e = rw (le-ltb 16777216 (length s) a, eq-eqb (length s) 0 e) refl

    module _ (b : length s ≡ 0 → ⊥) where
      pub list_other : (get_or s 0 0 ≡ 1 → ⊥) → Err OtherVersion ≡ listed_as s
      unfolding listed_as
      list_other d = rw (le-ltb 16777216 (length s) a, ne_eqb (length s) 0 b, ne_eqb (get_or s 0 0) 1 d) refl

      module _ (v : get_or s 0 0 ≡ 1) where
        pub list_short : length s < 5 → Err MalformedList ≡ listed_as s
        unfolding listed_as
        list_short h = rw (le-ltb 16777216 (length s) a, ne_eqb (length s) 0 b, eq-eqb (get_or s 0 0) 1 v, lt-ltb (length s) 5 h) refl

        pub list_entries : 5 ≤ length s → (n : ℕ) (r : Result Mark Refusal) → n ≡ count_of s → r ≡ entries_from s n n 5 0 → r ≡ listed_as s
        unfolding listed_as
        list_entries h n r en er = er ∙ rw (le-ltb 16777216 (length s) a, ne_eqb (length s) 0 b, eq-eqb (get_or s 0 0) 1 v, le-ltb (length s) 5 h, ← en) refl

-- ---- freshness
swapped : {A : Type 0} (a b : A) (t : Bool) → pick (not t) a b ≡ pick t b a
swapped a b true = refl
swapped a b false = refl

module _ (s : List ℕ) (count top : ℕ) where
  pub fresh_refused : (why : Refusal) → listed_as s ≡ Err why → Err why ≡ fresh_against count top s
  unfolding fresh_against fresh_by
  fresh_refused why e = rw e refl

  pub fresh_is : (m : Mark) → listed_as s ≡ Ok m → (d : Bool) → d ≡ not (nat_eq count m.contacts && nat_eq top m.largest) → Ok (pick d TheVariants.Stale TheVariants.Fresh) ≡ fresh_against count top s
  unfolding fresh_against fresh_by
  fresh_is m e d q = rw (e, q) (ap Ok (swapped TheVariants.Stale TheVariants.Fresh (nat_eq count m.contacts && nat_eq top m.largest)))

-- ---- what an accepted list is known to have
pub marked_refused : {P : Type 0} (n top : ℕ) (why : Refusal) → ◌≡◌ {A = Result Mark Refusal} (Err why) (Ok (record { contacts = n; largest = top })) → P
marked_refused n top why e = absurd (let z : ◌≡◌ {A = ℕ} 0 1 = cc in omega arith)

module _ (s : List ℕ) (n m top : ℕ) where
  -- the next of its entries is good, its id is higher, and the rest is accepted
  pub record Next (k at last : ℕ) : Type 0 where
    pub good : good_at s at ≡ true
    pub rises : ltb last (id_at s at) ≡ true
    pub rest : entries_from s n k (end_at s at) (id_at s at) ≡ Ok (record { contacts = m; largest = top })

  pub entries_next : (k at last : ℕ) → entries_from s n (suc k) at last ≡ Ok (record { contacts = m; largest = top }) → Next k at last
  unfolding entries_from
  entries_next k at last e =
      cases (good_at s at)
      (λ g. cases (ltb last (id_at s at))
      (λ r. record { good = g; rises = r; rest = rw (g, r) at e })
      (λ r. marked_refused m top IdsNotRising (rw (g, r) at e)))
      (λ g. marked_refused m top MalformedList (rw g at e))

  pub entries_last : (at last : ℕ) → entries_from s n 0 at last ≡ Ok (record { contacts = m; largest = top }) → (eqb at (length s) ≡ true) × (n ≡ m) × (last ≡ top)
  unfolding entries_from
  entries_last at last e =
      cases (eqb at (length s))
      (λ t. let z : ◌≡◌ {A = Result Mark Refusal} (Ok (record { contacts = n; largest = last })) (Ok (record { contacts = m; largest = top })) = rw t at e in
      let y : ◌≡◌ {A = Mark} (record { contacts = n; largest = last }) (record { contacts = m; largest = top }) = cc in
      (t, ap (λ (x : Mark). x.contacts) y, ap (λ (x : Mark). x.largest) y))
      (λ t. marked_refused m top MalformedList (rw t at e))

  pub entries_count : (k at last : ℕ) → entries_from s n k at last ≡ Ok (record { contacts = m; largest = top }) → n ≡ m
  entries_count zero at last e = (entries_last at last e).1
  entries_count (suc k) at last e = entries_count k (end_at s at) (id_at s at) (entries_next k at last e).rest

pub record Accepted (s : List ℕ) (n top : ℕ) : Type 0 where
  pub short : length s ≤ 16777216
  pub whole : 5 ≤ length s
  pub version : get_or s 0 0 ≡ 1
  pub count : n ≡ count_of s
  pub entries : entries_from s n n 5 0 ≡ Ok (record { contacts = n; largest = top })

pub accepted : (s : List ℕ) (n top : ℕ) → listed_as s ≡ Ok (record { contacts = n; largest = top }) → Accepted s n top
unfolding listed_as
accepted s n top e =
    cases (ltb 16777216 (length s))
    (λ a. marked_refused n top TooLong (rw a at e))
    (λ a. cases (eqb (length s) 0)
    (λ b. marked_refused n top MalformedList (rw (a, b) at e))
    (λ b. cases (eqb (get_or s 0 0) 1)
    (λ c. cases (ltb (length s) 5)
    (λ d. marked_refused n top MalformedList (rw (a, b, c, d) at e))
    (λ d. let q : entries_from s (count_of s) (count_of s) 5 0 ≡ Ok (record { contacts = n; largest = top }) = rw (a, b, c, d) at e in
    let z : n ≡ count_of s = sym (entries_count s (count_of s) n top (count_of s) 5 0 q) in
    record { short = ltb-false 16777216 (length s) a; whole = ltb-false (length s) 5 d; version = eqb-true (get_or s 0 0) 1 c; count = z; entries = rw (← z) at q }))
    (λ c. marked_refused n top OtherVersion (rw (a, b, c) at e))))

-- The first reason that applies. Assumes nothing.
use mathlib.Core.Path.{◌≡◌, refl}
use mathlib.Core.Bool.{Bool, true, false}
use mathlib.Core.List.{List}
use Prim.Native.Nat.{ℕ}
use Rattle.text.specs.Space.{blank, trimmed}
use Rattle.contacts.specs.Contacts.{is_date, is_time}
use Rattle.usable.specs.Reasons.{reason_by}

module _ (call date time : List ℕ) (m x : Bool) (b : Bool) (eb : b ≡ blank call) where
  pub no_call : b ≡ true → 1 ≡ reason_by (blank call) (is_date (trimmed date)) (is_time (trimmed time)) m x
  unfolding reason_by
  no_call h = rw (← eb, h) refl

  module _ (h : b ≡ false) (s : List ℕ) (es : s ≡ trimmed date) (d : Bool) (ed : d ≡ is_date s) where
    pub no_date : d ≡ false → 2 ≡ reason_by (blank call) (is_date (trimmed date)) (is_time (trimmed time)) m x
    unfolding reason_by
    no_date n = rw (← eb, h, ← es, ← ed, n) refl

    module _ (n : d ≡ true) (u : List ℕ) (eu : u ≡ trimmed time) (t : Bool) (et : t ≡ is_time u) where
      pub no_time : t ≡ false → 3 ≡ reason_by (blank call) (is_date (trimmed date)) (is_time (trimmed time)) m x
      unfolding reason_by
      no_time k = rw (← eb, h, ← es, ← ed, n, ← eu, ← et, k) refl

      module _ (k : t ≡ true) where
        rest : reason_by (blank call) (is_date (trimmed date)) (is_time (trimmed time)) m x ≡ reason_by false true true m x
        unfolding reason_by
        rest = rw (← eb, h, ← es, ← ed, n, ← eu, ← et, k) refl

        pub no_mode : m ≡ true → 4 ≡ reason_by (blank call) (is_date (trimmed date)) (is_time (trimmed time)) m x
        unfolding reason_by
        no_mode p = rw rest (rw p refl)

        module _ (p : m ≡ false) where
          pub inexact : x ≡ true → 5 ≡ reason_by (blank call) (is_date (trimmed date)) (is_time (trimmed time)) m x
          unfolding reason_by
          inexact q = rw rest (rw (p, q) refl)

          pub usable : x ≡ false → 0 ≡ reason_by (blank call) (is_date (trimmed date)) (is_time (trimmed time)) m x
          unfolding reason_by
          usable q = rw rest (rw (p, q) refl)

-- Codes, and the record of a contact. Assumes nothing.
use Rattle.std.specs.Prelude.{Option, Some, None}
use Rattle.std.specs.Option.{is_some, unwrap_or}
use mir.Val.{bool_byte}
use mathlib.Core.Bool.{Bool}
use mathlib.Core.Path.{◌≡◌, refl, ◌∙◌}
use mathlib.Core.List.{List, ◌∷◌}
use Prim.Native.Nat.{ℕ, ◌+◌, ◌≤◌, ◌<◌}
use native.Mathlib.Numerals.{add-one}
use lib.ListN.{length, get_or, drop, length-map, get_or-map, drop_of_length-le}
use lib.Seq.{drop-cons}
use Rattle.letters.specs.Capitals.{raised, capitals}
use Rattle.times.specs.Moments.{moment_of}
use Rattle.contacts.specs.Lists.{text_at}
use Rattle.index.specs.Rows.{Row, mix, mixed, code_of, has_moment, seconds_in, row_of, row_by}

-- ---- codes: what is left to mix
module _ (s : List ℕ) (h i x y : ℕ) (l : i < length s) where
  capitals_cons : drop i (capitals s) ≡ raised (get_or s i 0) ∷ drop (i + 1) (capitals s)
  unfolding raised
  capitals_cons =
      let k : i < length (capitals s) = rw (length-map s raised) l in
      drop-cons (capitals s) i 0 k ∙ rw (get_or-map raised s i 0, add-one)

  pub mix_raised_on : mixed x (drop i (capitals s)) ≡ mixed h (capitals s) → (c : ℕ) → c ≡ raised (get_or s i 0) → y ≡ mix x c → mixed y (drop (i + 1) (capitals s)) ≡ mixed h (capitals s)
  mix_raised_on e c ec ey = rw (ey, ec) (rw capitals_cons at e)

pub mix_raised_end : (s : List ℕ) (h i x : ℕ) → length s ≤ i → mixed x (drop i (capitals s)) ≡ mixed h (capitals s) → x ≡ mixed h (capitals s)
mix_raised_end s h i x l e = rw (drop_of_length-le (capitals s) {i = i} (rw (length-map s raised) l)) at e

-- ---- a moment as two numbers
pub moment_told : (m : Option ℕ) (t : Bool) → t ≡ is_some m → bool_byte t ≡ has_moment m
unfolding has_moment
moment_told None t e = rw e refl
moment_told (Some x) t e = rw e refl

pub seconds_are : (m : Option ℕ) → unwrap_or m 0 ≡ seconds_in m
unfolding seconds_in
seconds_are None = refl
seconds_are (Some x) = refl

-- ---- one record
pub row_by_is : (s : List ℕ) (id services call date time band mode : ℕ) (c m b d t : List ℕ) (code : ℕ) (moment : Option ℕ) (r : Row)
    → c ≡ text_at s call → m ≡ text_at s mode → b ≡ text_at s band → code ≡ code_of c m b → d ≡ text_at s date → t ≡ text_at s time → moment ≡ moment_of d t
    → r ≡ row_of code id services call date time band mode moment → r ≡ row_by s id services call date time band mode
unfolding row_by
row_by_is s id services call date time band mode c m b d t code moment r ec em eb eo ed et en er = rw (← ec, ← em, ← eb, ← eo, ← ed, ← et, ← en) er

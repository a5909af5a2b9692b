-- Laws of `specs/Put.antt`. Assumes nothing.
use mathlib.Core.Path.{◌≡◌, refl, sym, ap, ◌∙◌}
use mathlib.Core.List.{List, [], ◌∷◌, ◌++◌}
use Prim.Native.Nat.{ℕ, suc, ◌+◌, ◌≤◌, ◌<◌}
use native.Mathlib.Nat.{add-zero}
use native.Mathlib.Omega.{arith}
use lib.ListN.{length, get_or, drop, set, length-append, drop_of_length-le}
use lib.Seq.{sets, length-sets, drop-cons}
use Rattle.text.proofs.StoreLaws.{sets_append}
use Rattle.output.specs.Put.{Put, Room}

pub put_length : (r : ℕ) (was now : List ℕ) (at : ℕ) (w : List ℕ) → Put r was now at w → length now ≡ length was
unfolding Put
put_length r was now at w p = ap length p.1 ∙ length-sets was at w

pub put_next : (r : ℕ) (was now : List ℕ) (at : ℕ) (w : List ℕ) → Put r was now at w → r ≡ at + length w
unfolding Put
put_next r was now at w p = p.0

pub put_none : (l : List ℕ) (at : ℕ) → Put at l l at []
unfolding Put
put_none l at = (sym (add-zero at), refl)

pub put_one : (l : List ℕ) (at b : ℕ) → Put (at + 1) l (set l at b) at (b ∷ [])
unfolding Put
put_one l at b = (refl, refl)

pub put_then : (r q : ℕ) (was mid now : List ℕ) (at : ℕ) (a b : List ℕ) → Put q was mid at a → Put r mid now q b → Put r was now at (a ++ b)
unfolding Put
put_then r q was mid now at a b p s =
    (omega (arith, p.0, s.0, length-append a b), s.1 ∙ rw (p.1, p.0) (sym (sets_append was at a b)))

-- a loop that has put the first i bytes of w
unfoldable pub Half : List ℕ → List ℕ → ℕ → ℕ → List ℕ → Type 0
Half was now at i w = sets now (at + i) (drop i w) ≡ sets was at w

pub half_start : (l : List ℕ) (at : ℕ) (w : List ℕ) → Half l l at 0 w
unfolding Half
half_start l at w = rw add-zero

pub half_on : (was now : List ℕ) (at i b : ℕ) (w : List ℕ) → i < length w → b ≡ get_or w i 0 → Half was now at i w → Half was (set now (at + i) b) at (i + 1) w
unfolding Half
half_on was now at i b w h e p =
    let z : at + (i + 1) ≡ suc (at + i) = omega arith in
    let y : i + 1 ≡ suc i = omega arith in
    rw (z, y, e) (rw (drop-cons w i 0 h) at p)

pub half_end : (was now : List ℕ) (at i : ℕ) (w : List ℕ) → i ≤ length w → length w ≤ i → Half was now at i w → Put (at + i) was now at w
unfolding Half Put
half_end was now at i w g h p = (omega arith, rw (drop_of_length-le w h) at p)

pub room_byte : (l : List ℕ) (at b : ℕ) → Room l at (b ∷ []) → at < length l
unfolding Room
room_byte l at b h = omega arith

module _ (was : List ℕ) (at : ℕ) (a b : List ℕ) (h : Room was at (a ++ b)) where
  pub room_first : Room was at a
  unfolding Room
  room_first = omega (arith, h, length-append a b)

  pub room_next : (q : ℕ) (mid : List ℕ) → Put q was mid at a → Room mid q b
  unfolding Room
  room_next q mid p = omega (arith, h, length-append a b, put_length q was mid at a p, put_next q was mid at a p)

-- three parts put one after the other
module _ (was : List ℕ) (at : ℕ) (a b c : List ℕ) (h : Room was at (a ++ (b ++ c))) (q : ℕ) (mid : List ℕ) (p : Put q was mid at a) where
  pub room_second : Room mid q b
  room_second = room_first mid q b c (room_next was at a (b ++ c) h q mid p)

  pub room_third : (q' : ℕ) (mid' : List ℕ) → Put q' mid mid' q b → Room mid' q' c
  room_third q' mid' p' = room_next mid q b c (room_next was at a (b ++ c) h q mid p) q' mid' p'

pub put_three : (was : List ℕ) (at : ℕ) (a b c : List ℕ) (q : ℕ) (mid : List ℕ) (q' : ℕ) (mid' : List ℕ) (r : ℕ) (now : List ℕ)
    → Put q was mid at a → Put q' mid mid' q b → Put r mid' now q' c → Put r was now at (a ++ (b ++ c))
put_three was at a b c q mid q' mid' r now x y z = put_then r q was mid now at a (b ++ c) x (put_then r q' mid mid' now q b c y z)

-- the place after what was put lies within the output
pub put_inside : (r : ℕ) (was now : List ℕ) (at : ℕ) (w : List ℕ) → Put r was now at w → Room was at w → r ≤ length now
unfolding Room
put_inside r was now at w p h = omega (arith, h, put_length r was now at w p, put_next r was now at w p)

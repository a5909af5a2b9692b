-- The lines and the summary, put one after the other, and the room that they take. Assumes nothing.
use mathlib.Core.Path.{◌≡◌, refl}
use mathlib.Core.Bool.{Bool, true, false}
use mathlib.Core.List.{List, [], ◌++◌}
use Prim.Native.Nat.{ℕ, zero, suc, ◌+◌, ◌*◌, ◌≤◌, ◌<◌}
use native.Mathlib.Numerals.{add-one}
use native.Mathlib.Omega.{arith}
use lib.Dec.{eqb}
use lib.ListN.{length, get_or, length-append}
use Rattle.text.specs.Pick.{pick}
use Rattle.decimal.specs.Digits.{decimal}
use Rattle.output.specs.Put.{Put, Room}
use Rattle.output.proofs.PutLaws.{put_none, put_then, put_length, put_next, room_first, room_next}
use Rattle.output.proofs.DigitLaws.{few_decimals}
use Rattle.chain.specs.Chain.{col}
use Rattle.show.specs.Shown.{fate_name, blank, newline, line_of, lines_of}

-- ---- a line
module _ (k f r : ℕ) (was : List ℕ) (at : ℕ) where
  pub line_first : Room was at (line_of k f r) → Room was at (decimal k ++ blank)
  unfolding line_of
  line_first h = room_first was at (decimal k ++ blank) ((fate_name f ++ blank) ++ (decimal r ++ newline)) h

  module _ (q : ℕ) (mid : List ℕ) (p : Put q was mid at (decimal k ++ blank)) where
    pub line_second : Room was at (line_of k f r) → Room mid q (fate_name f ++ blank)
    unfolding line_of
    line_second h = room_first mid q (fate_name f ++ blank) (decimal r ++ newline) (room_next was at (decimal k ++ blank) ((fate_name f ++ blank) ++ (decimal r ++ newline)) h q mid p)

    module _ (q' : ℕ) (mid' : List ℕ) (p' : Put q' mid mid' q (fate_name f ++ blank)) where
      pub line_third : Room was at (line_of k f r) → Room mid' q' (decimal r ++ newline)
      unfolding line_of
      line_third h = room_next mid q (fate_name f ++ blank) (decimal r ++ newline) (room_next was at (decimal k ++ blank) ((fate_name f ++ blank) ++ (decimal r ++ newline)) h q mid p) q' mid' p'

      pub line_put : (e : ℕ) (now : List ℕ) → Put e mid' now q' (decimal r ++ newline) → Put e was now at (line_of k f r)
      unfolding line_of
      line_put e now s =
          put_then e q was mid now at (decimal k ++ blank) ((fate_name f ++ blank) ++ (decimal r ++ newline)) p (put_then e q' mid mid' now q (fate_name f ++ blank) (decimal r ++ newline) p' s)

-- ---- how long a line is: two numbers of at most 20 digits, a name of at most 17 bytes and three bytes between and behind
pub few : (n : ℕ) → length (decimal n) ≤ 20
few n = few_decimals n (length (decimal n)) refl

pub joined_few : (a b : List ℕ) (i j : ℕ) → length a ≤ i → length b ≤ j → length (a ++ b) ≤ i + j
joined_few a b i j p q = omega (arith, length-append a b)

pub picked_few : (t : Bool) (a b : List ℕ) (k : ℕ) → length a ≤ k → length b ≤ k → length (pick t a b) ≤ k
picked_few true a b k p q = p
picked_few false a b k p q = q

name_few : (f : ℕ) → length (fate_name f) ≤ 17
unfolding fate_name
name_few f =
    picked_few (eqb f 1) _ _ 17 (omega arith)
    (picked_few (eqb f 2) _ _ 17 (omega arith)
    (picked_few (eqb f 3) _ _ 17 (omega arith)
    (picked_few (eqb f 4) _ _ 17 (omega arith)
    (picked_few (eqb f 5) _ _ 17 (omega arith)
    (picked_few (eqb f 6) _ _ 17 (omega arith)
    (picked_few (eqb f 7) _ _ 17 (omega arith)
    (omega arith)))))))

line_few : (k f r : ℕ) → length (line_of k f r) ≤ 60
unfolding line_of
line_few k f r =
    joined_few (decimal k ++ blank) ((fate_name f ++ blank) ++ (decimal r ++ newline)) 21 39
    (joined_few (decimal k) blank 20 1 (few k) (omega arith))
    (joined_few (fate_name f ++ blank) (decimal r ++ newline) 18 21
    (joined_few (fate_name f) blank 17 1 (name_few f) (omega arith))
    (joined_few (decimal r) newline 20 1 (few r) (omega arith)))

pub lines_few : (rows : List (List ℕ)) (n : ℕ) → length (lines_of rows n) ≤ 60 * n
unfolding lines_of
lines_few rows zero = omega arith
lines_few rows (suc k) =
    omega (arith, length-append (lines_of rows k) (line_of (suc k) (col rows k 0) (col rows k 1)), lines_few rows k, line_few (suc k) (col rows k 0) (col rows k 1))

-- ---- line by line
pub lines_start : (was : List ℕ) (rows : List (List ℕ)) → Put 0 was was 0 (lines_of rows 0)
unfolding lines_of
lines_start was rows = put_none was 0

module _ (was now : List ℕ) (rows : List (List ℕ)) (at i n : ℕ) (p : Put at was now 0 (lines_of rows i)) where
  pub lines_room : i < n → n ≤ 3000 → 196608 ≤ length was → (k f r : ℕ) → Room now at (line_of k f r)
  unfolding Room
  lines_room g h l k f r =
      omega (arith, put_length at was now 0 (lines_of rows i) p, put_next at was now 0 (lines_of rows i) p, lines_few rows i, line_few k f r)

  pub lines_on : (row : List ℕ) → row ≡ get_or rows i [] → (r : ℕ) (after : List ℕ) → Put r now after at (line_of (i + 1) (get_or row 0 0) (get_or row 1 0)) → Put r was after 0 (lines_of rows (i + 1))
  unfolding lines_of
  lines_on row e r after s =
      rw (add-one i) (put_then r at was now after 0 (lines_of rows i) (line_of (suc i) (col rows i 0) (col rows i 1)) p (rw (e, add-one i) at s))

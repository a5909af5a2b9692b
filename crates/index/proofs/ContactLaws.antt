-- A contact of the index and its fourteen numbers: each is made of the other. Assumes nothing.
use mathlib.Core.Path.{◌≡◌, refl, sym, ap, ◌∙◌}
use mathlib.Core.List.{List, [], ◌∷◌, map}
use Prim.Native.Nat.{ℕ, zero, suc, ◌<◌}
use native.Mathlib.Nat.{div-add-mod', not-suc-le-zero, le_of_suc-le-suc}
use native.Mathlib.Omega.{arith}
use lib.ListN.{length, get_or, set, length-map}
use Rattle.contacts.specs.Lists.{id_at}
use Rattle.index.specs.Rows.{Row, low, high, joined, row_of, row_by, row_at, no_row}
use Rattle.index.specs.Contacts.{contact_of, numbers_of, no_contact, plain}
use Rattle.index.specs.declared.Contact.{Contact}

-- ---- what the code of the two makes
abbrev with_joined : Row → ℕ → ℕ → Contact
with_joined r i s =
    record {
      id = i;
      seconds = s;
      head = get_or r 0 0;
      next = get_or r 1 0;
      code = get_or r 2 0;
      services = get_or r 5 0;
      call = get_or r 6 0;
      date = get_or r 7 0;
      time = get_or r 8 0;
      band = get_or r 9 0;
      mode = get_or r 10 0;
      timed = get_or r 11 0;
    }

pub contact_is : (r : Row) (i s : ℕ) → i ≡ joined (get_or r 3 0) (get_or r 4 0) → s ≡ joined (get_or r 12 0) (get_or r 13 0) → with_joined r i s ≡ contact_of r
contact_is r i s ei es = ap (λ (x : ℕ). with_joined r x s) ei ∙ ap (with_joined r (joined (get_or r 3 0) (get_or r 4 0))) es

pub numbers_are : (c : Contact) (a b d e : ℕ) → a ≡ low c.id → b ≡ high c.id → d ≡ low c.seconds → e ≡ high c.seconds
    → c.head ∷ c.next ∷ c.code ∷ a ∷ b ∷ c.services ∷ c.call ∷ c.date ∷ c.time ∷ c.band ∷ c.mode ∷ c.timed ∷ d ∷ e ∷ [] ≡ numbers_of c
numbers_are c a b d e ea eb ed ee = rw (ea, eb, ed, ee) refl

-- ---- the two undo each other
halves : (x : ℕ) → joined (low x) (high x) ≡ x
unfolding low high
halves x = omega (arith, div-add-mod' x 4294967296)

pub contact_back : (c : Contact) → contact_of (numbers_of c) ≡ c
contact_back c = ap (λ (x : ℕ). with_joined (numbers_of c) x (joined (low c.seconds) (high c.seconds))) (halves c.id) ∙ ap (with_joined (numbers_of c) c.id) (halves c.seconds)

-- every row that is made has its halves of two numbers
pub numbers_back : (head next code id services call date time band mode timed seconds : ℕ)
    → numbers_of (contact_of (head ∷ next ∷ code ∷ low id ∷ high id ∷ services ∷ call ∷ date ∷ time ∷ band ∷ mode ∷ timed ∷ low seconds ∷ high seconds ∷ []))
    ≡ head ∷ next ∷ code ∷ low id ∷ high id ∷ services ∷ call ∷ date ∷ time ∷ band ∷ mode ∷ timed ∷ low seconds ∷ high seconds ∷ []
numbers_back head next code id services call date time band mode timed seconds = rw (halves id, halves seconds) refl

pub row_back : (s : List ℕ) (at : ℕ) → numbers_of (contact_of (row_at s at)) ≡ row_at s at
unfolding row_at row_by row_of
row_back s at = numbers_back 0 0 _ (id_at s at) _ _ _ _ _ _ _ _

pub none_back : numbers_of (contact_of no_row) ≡ no_row
unfolding low high
none_back = refl

-- ---- the index as plain numbers
pub plain_length : (cs : List Contact) → length (plain cs) ≡ length cs
unfolding plain
plain_length cs = length-map cs numbers_of

pub plain_at : (cs : List Contact) (i : ℕ) → i < length cs → get_or (plain cs) i [] ≡ numbers_of (get_or cs i no_contact)
unfolding plain
plain_at [] i h = absurd (not-suc-le-zero h)
plain_at (c ∷ cs) zero h = refl
plain_at (c ∷ cs) (suc i) h = plain_at cs i (le_of_suc-le-suc h)

pub plain_set : (cs : List Contact) (i : ℕ) (c : Contact) → plain (set cs i c) ≡ set (plain cs) i (numbers_of c)
unfolding plain
plain_set [] i c = refl
plain_set (d ∷ cs) zero c = refl
plain_set (d ∷ cs) (suc i) c = ap (λ (rs : List Row). numbers_of d ∷ rs) (plain_set cs i c)

contacts_back : (cs : List Contact) → map contact_of (plain cs) ≡ cs
unfolding plain
contacts_back [] = refl
contacts_back (c ∷ cs) = rw (contact_back c, contacts_back cs) refl

-- the numbers determine the structs
pub plain_once : (a b : List Contact) → plain a ≡ plain b → a ≡ b
plain_once a b e = sym (contacts_back a) ∙ ap (map contact_of) e ∙ contacts_back b

-- The code of a key does not see names and capitals; a contact's places stand for its texts. Assumes nothing.
use Rattle.std.specs.Prelude.{Option}
use mathlib.Core.Path.{◌≡◌, refl, ◌∙◌}
use mathlib.Core.Bool.{true, false}
use mathlib.Core.List.{List}
use Prim.Native.Nat.{ℕ, ◌+◌, ◌≤◌, ◌<◌}
use lib.Dec.{leb}
use lib.ListN.{length, get_or, take, get_or-eq_default}
use borrow.Author.Tests.{le-leb, lt-leb, leb-true}
use Rattle.text.specs.Pick.{pick}
use Rattle.text.proofs.BoolLaws.{cases}
use Rattle.letters.specs.Capitals.{capitals}
use Rattle.tables.specs.Place.{stands, in_text, part, value, bytes, name_of}
use Rattle.tables.specs.declared.Place.{Place}
use Rattle.tables.specs.declared.Name.{Name}
use Rattle.times.specs.Moments.{moment_of}
use Rattle.contacts.specs.Lists.{text_at, after, call_at, date_at, time_at, band_at, mode_at}
use Rattle.index.specs.Rows.{code_of}
use Rattle.dedupe.specs.Views.{cased}
use Rattle.dedupe.specs.declared.Key.{Key}
use Rattle.dedupe.proofs.ViewLaws.{view_at}
use Rattle.wanted.specs.Wanted.{code_for, place_at, key_at, wanted_at}
use Rattle.wanted.specs.declared.Wanted.{Wanted}

-- ---- the code
pub named_code : (text : List ℕ) (key : Key) (a b d c m n : List ℕ) (r : ℕ) → c ≡ pick (in_text key.call) (part text key.call) a → m ≡ pick (in_text key.mode) (part text key.mode) b → n ≡ pick (in_text key.band) (part text key.band) d
    → r ≡ code_of c m n → r ≡ code_of (pick (in_text key.call) (part text key.call) a) (pick (in_text key.mode) (part text key.mode) b) (pick (in_text key.band) (part text key.band) d)
named_code text key a b d c m n r ec em en er = er ∙ rw (ec, em, en) refl

shown_capitals : (text : List ℕ) (p : Place) (n : Name) → n ≡ name_of p → capitals (pick (in_text p) (part text p) (take n.len n.bytes)) ≡ capitals (bytes text p)
unfolding cased
shown_capitals text p n e = rw e (view_at false true text p.kind p.start p.len)

pub code_is : (text : List ℕ) (w : Wanted) (c m b : Name) (r : ℕ) → c ≡ name_of w.key.call → m ≡ name_of w.key.mode → b ≡ name_of w.key.band
    → r ≡ code_of (pick (in_text w.key.call) (part text w.key.call) (take c.len c.bytes)) (pick (in_text w.key.mode) (part text w.key.mode) (take m.len m.bytes)) (pick (in_text w.key.band) (part text w.key.band) (take b.len b.bytes))
    → r ≡ code_for text w.key
unfolding code_for code_of
code_is text w c m b r ec em eb er =
    er ∙ rw (shown_capitals text w.key.call c ec, shown_capitals text w.key.mode m em, shown_capitals text w.key.band b eb) refl

-- ---- places
module _ (s : List ℕ) (p : ℕ) where
  pub place_out : length s ≤ p → stands 0 0 ≡ place_at s p
  unfolding place_at
  place_out h = rw (le-leb (length s) p h) refl

  pub place_in : (n : ℕ) → p < length s → n ≡ get_or s p 0 → stands (p + 1) n ≡ place_at s p
  unfolding place_at
  place_in n h e = rw (e, lt-leb (length s) p h) refl

  pub place_says : bytes s (place_at s p) ≡ text_at s p
  unfolding place_at text_at value part
  place_says =
      cases (leb (length s) p)
      (λ u. let z : get_or s p 0 ≡ 0 = get_or-eq_default s 0 (leb-true (length s) p u) in rw (u, z) refl)
      (λ u. rw u refl)

pub key_is : (s : List ℕ) (call mode band : ℕ) (c m b : Place) → c ≡ place_at s call → m ≡ place_at s mode → b ≡ place_at s band → (record { call = c; mode = m; band = b }) ≡ key_at s call mode band
unfolding key_at
key_is s call mode band c m b ec em eb = rw (ec, em, eb) refl

-- ---- the texts of a contact
pub wanted_is : (s : List ℕ) (at date time band mode : ℕ) (d t : List ℕ) (moment : Option ℕ) (key : Key) → date ≡ after s (at + 11) → time ≡ after s date → band ≡ after s time → mode ≡ after s band
    → d ≡ text_at s date → t ≡ text_at s time → moment ≡ moment_of d t → key ≡ key_at s (at + 11) mode band → (record { key = key; moment = moment }) ≡ wanted_at s at
unfolding wanted_at call_at date_at time_at band_at mode_at
wanted_is s at date time band mode d t moment key ed et eb em edd ett en ek = rw (ek, en, edd, ett, em, eb, et, ed) refl

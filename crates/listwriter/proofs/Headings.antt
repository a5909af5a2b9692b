-- The theorems of `specs/Headings.antt`. Assumes nothing.
use Rattle.std.specs.Prelude.{⊤, Result, Ok, Err}
use mathlib.Core.Path.{◌≡◌, refl, sym, ap, ◌∙◌}
use mathlib.Core.Bool.{true, false}
use mathlib.Core.List.{List}
use Prim.Native.Nat.{ℕ, ◌+◌, ◌≤◌, ◌<◌}
use native.Mathlib.Omega.{arith}
use lib.ListN.{length, get_or, take}
use lib.Dec.{eqb, leb, ltb}
use borrow.Author.Tests.{leb-false, eqb-true, eqb-false, eq-eqb, ne_eqb, le-leb, le-ltb, lt-ltb}
use Rattle.text.specs.Pick.{both}
use Rattle.text.proofs.BoolLaws.{cases, both_right}
use Rattle.refusals.specs.declared.Refusal.{Refusal}
use Rattle.refusals.specs.declared.Refusal.TheVariants.{OtherVersion, MalformedList}
use Rattle.contacts.specs.Contacts.{Contact, contact, sound_head, sound_texts, sound, entry_text, largest}
use Rattle.contacts.specs.Lists.{count_of, listed_as}
use Rattle.contacts.proofs.ListLaws.{accepted, list_none, list_other, list_short}
use Rattle.listwriter.specs.Append.{long_texts, is_long, heading_of, placed_as, entered_as, headed_by, append_as}
use Rattle.listwriter.specs.Headings.{OnlyHeaded, ListsHeaded, VersionsListed, RefusedListed, SaidAppended}
use Rattle.listwriter.proofs.ReadBack.{small, written_listed}
use Rattle.listwriter.proofs.HeadingLaws.{front_short, headed}
use Rattle.listwriter.proofs.Appending.{taken}

pub only_headed : OnlyHeaded
only_headed used count top c was n e = headed (take used was) count (taken used count top c was n e).heading

pub lists_headed : ListsHeaded
unfolding heading_of
lists_headed used was n top e h =
    let s : List ℕ = take used was in
    let A = accepted s n top e in
    let nz : length s ≡ 0 → ⊥ = λ z. omega (arith, A.whole) in
    rw (ne_eqb (length s) 0 nz, eq-eqb (get_or s 0 0) 1 A.version, le-leb 5 (length s) A.whole, eq-eqb (count_of s) n (sym A.count), lt-ltb n 4294967295 h) refl

-- a heading that is refused, by the test that refuses it
module _ (s : List ℕ) (short : length s ≤ 16777216) where
  refused_by : (count : ℕ) (why : Refusal) → heading_of s count ≡ Err why → (both (both (leb 5 (length s)) (eqb (count_of s) count)) (ltb count 4294967295) ≡ false → MalformedList ≡ why → length s < 5) → listed_as s ≡ Err why
  unfolding heading_of
  refused_by count why e cut =
      cases (eqb (length s) 0)
      (λ u. let z : MalformedList ≡ why = told MalformedList (rw u at e) in
      sym (list_none s short (eqb-true (length s) 0 u)) ∙ ap Err z)
      (λ u. let nz = eqb-false (length s) 0 u in
      cases (eqb (get_or s 0 0) 1)
      (λ v. cases (both (both (leb 5 (length s)) (eqb (count_of s) count)) (ltb count 4294967295))
      (λ w. unrefused (rw (u, v, w) at e))
      (λ w. let z : MalformedList ≡ why = told MalformedList (rw (u, v, w) at e) in
      sym (list_short s short nz (eqb-true (get_or s 0 0) 1 v) (cut w z)) ∙ ap Err z))
      (λ v. let z : OtherVersion ≡ why = told OtherVersion (rw (u, v) at e) in
      sym (list_other s short nz (eqb-false (get_or s 0 0) 1 v)) ∙ ap Err z))
    where
      told : (r : Refusal) → ◌≡◌ {A = Result ⊤ Refusal} (Err r) (Err why) → r ≡ why
      told r q = cc

      unrefused : {P : Type 0} → ◌≡◌ {A = Result ⊤ Refusal} (Ok tt) (Err why) → P
      unrefused q = absurd (let z : ◌≡◌ {A = ℕ} 0 1 = cc in omega arith)

pub versions_listed : VersionsListed
versions_listed used was count h e =
    refused_by (take used was) (omega (arith, front_short was used)) count OtherVersion e (λ w z. absurd (let q : ◌≡◌ {A = ℕ} 0 1 = cc in omega arith))

pub refused_listed : RefusedListed
refused_listed used was why h g e =
    let s : List ℕ = take used was in
    refused_by s (omega (arith, front_short was used)) (count_of s) why e (λ w z. cases (leb 5 (length s))
    (λ u. let q : ◌≡◌ true false = rw (u, eq-eqb (count_of s) (count_of s) refl, lt-ltb (count_of s) 4294967295 g) at w in absurd (let y : ◌≡◌ {A = ℕ} 0 1 = cc in omega arith))
    (λ u. leb-false 5 (length s) u))

-- a sound contact has no long text
texts : (id services : ℕ) (call date time band mode : List ℕ) → sound (contact id services call date time band mode) ≡ true → sound_texts call date time band mode ≡ true
unfolding sound
texts id services call date time band mode e = both_right (sound_head id services) _ e

short_texts : (used id services : ℕ) (call date time band mode : List ℕ) → used ≤ 16777216 → sound_texts call date time band mode ≡ true → is_long used (contact id services call date time band mode) ≡ false
unfolding is_long long_texts
short_texts used id services call date time band mode h e =
    let k = small call date time band mode e in
    rw (le-ltb 16777216 used h, le-ltb 16777216 (length call) (omega (arith, k.0)), le-ltb 16777216 (length date) (omega (arith, k.1)), le-ltb 16777216 (length time) (omega (arith, k.2)), le-ltb 16777216 (length band) (omega (arith, k.3)), le-ltb 16777216 (length mode) (omega (arith, k.4))) refl

pub said_appended : SaidAppended
unfolding append_as headed_by entered_as placed_as
said_appended used was cs (contact id services call date time band mode) S few good above end fits =
    let c : Contact = contact id services call date time band mode in
    let t = texts id services call date time band mode good in
    rw (short_texts used id services call date time band mode (omega (arith, end)) t, lists_headed used was (length cs) (largest cs) (written_listed (take used was) cs S) few, good, lt-ltb (largest cs) id above, le-leb (used + length (entry_text c)) 16777216 end, le-leb (used + length (entry_text c)) (length was) fits) refl

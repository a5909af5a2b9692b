-- A contact appended to the list of others gives the list of all of them. Assumes nothing.
use Rattle.std.specs.Prelude.{⊤, Result, Ok, Err}
use mathlib.Core.Path.{◌≡◌, refl, sym, ap, ◌∙◌}
use mathlib.Core.Bool.{true}
use mathlib.Core.List.{List, [], ◌∷◌, ◌++◌, append_assoc, append-nil}
use Prim.Native.Nat.{ℕ, ◌+◌, ◌≤◌, ◌<◌}
use native.Mathlib.Omega.{arith}
use lib.ListN.{length, take, drop, length-append}
use lib.Seq.{sets, sets-eq, take_at, drop_at}
use lib.Dec.{leb, ltb}
use borrow.Author.Tests.{leb-true, ltb-true, lt-ltb}
use Rattle.text.specs.Pick.{both}
use Rattle.text.proofs.BoolLaws.{cases, both_left, both_right}
use Rattle.refusals.specs.declared.Refusal.{Refusal}
use Rattle.refusals.specs.declared.Refusal.TheVariants.{TooLong, ShortOutput, MalformedList, IdsNotRising}
use Rattle.contacts.specs.Contacts.{Contact, id_of, sound, sound_from, bytes_of, entry_text, entries_text, list_text, largest}
use Rattle.contacts.specs.Lists.{Says}
use Rattle.listwriter.specs.Append.{is_long, heading_of, placed_as, entered_as, headed_by, append_as, append_by, append_after}
use Rattle.listwriter.proofs.ReadBack.{bytes_length, last_of, largest_is}
use Rattle.listwriter.proofs.HeadingLaws.{front_length}

refused_bytes : {P : Type 0} (n : ℕ) (why : Refusal) → Err why ≡ Ok n → P
refused_bytes n why e = absurd (let z : ◌≡◌ {A = ℕ} 0 1 = cc in omega arith)

-- what an answer that is a length tells
pub record Taken (used count top n : ℕ) (c : Contact) (was : List ℕ) : Type 0 where
  pub heading : heading_of (take used was) count ≡ Ok tt
  pub good : sound c ≡ true
  pub above : top < id_of c
  pub end : used + length (entry_text c) ≡ n
  pub short : n ≤ 16777216
  pub fits : n ≤ length was

placed : (end room n : ℕ) → placed_as end room ≡ Ok n → (end ≡ n) × (end ≤ 16777216) × (end ≤ room)
unfolding placed_as
placed end room n e =
    cases (leb end 16777216)
    (λ u. cases (leb end room)
    (λ v. let z : Ok end ≡ Ok n = rw (u, v) at e in (cc, leb-true end 16777216 u, leb-true end room v))
    (λ v. refused_bytes n ShortOutput (rw (u, v) at e)))
    (λ u. refused_bytes n TooLong (rw u at e))

behind_heading : (v : Result ⊤ Refusal) (r : Result ℕ Refusal) (n : ℕ) → headed_by v r ≡ Ok n → (v ≡ Ok tt) × (r ≡ Ok n)
unfolding headed_by
behind_heading (Ok tt) r n e = (refl, e)
behind_heading (Err why) r n e = refused_bytes n why e

pub taken : (used count top : ℕ) (c : Contact) (was : List ℕ) (n : ℕ) → append_as used count top c was ≡ Ok n → Taken used count top n c was
unfolding append_as entered_as
taken used count top c was n e =
    cases (is_long used c)
    (λ l. refused_bytes n TooLong (rw l at e))
    (λ l. let h = behind_heading (heading_of (take used was) count) (entered_as used top c (length was)) n (rw l at e) in
    let q : entered_as used top c (length was) ≡ Ok n = h.1 in
    cases (sound c)
    (λ g. cases (ltb top (id_of c))
    (λ a. let p = placed (used + length (entry_text c)) (length was) n (rw (g, a) at q) in
    record {
      heading = h.0;
      good = g;
      above = ltb-true top (id_of c) a;
      end = p.0;
      short = omega (arith, p.0, p.1);
      fits = omega (arith, p.0, p.2);
    })
    (λ a. refused_bytes n IdsNotRising (rw (g, a) at q)))
    (λ g. refused_bytes n MalformedList (rw g at q)))

-- one more sound contact, above the last
sound_more : (cs : List Contact) (c : Contact) (last : ℕ) → sound_from last cs ≡ true → sound c ≡ true → last_of last cs < id_of c → sound_from last (cs ++ (c ∷ [])) ≡ true
unfolding sound_from
sound_more [] c last g s h = rw (s, lt-ltb last (id_of c) h) refl
sound_more (d ∷ cs) c last g s h =
    let a : sound d ≡ true = both_left (sound d) _ g in
    let r : both (ltb last (id_of d)) (sound_from (id_of d) cs) ≡ true = both_right (sound d) _ g in
    rw (a, both_left (ltb last (id_of d)) _ r) (sound_more cs c (id_of d) (both_right (ltb last (id_of d)) _ r) s h)

entries_more : (cs : List Contact) (c : Contact) → entries_text (cs ++ (c ∷ [])) ≡ entries_text cs ++ entry_text c
unfolding entries_text
entries_more [] c = append-nil (entry_text c)
entries_more (d ∷ cs) c = ap (λ (r : List ℕ). entry_text d ++ r) (entries_more cs c) ∙ sym (append_assoc (entry_text d) (entries_text cs) (entry_text c))

module _ (was : List ℕ) (cs : List Contact) (c : Contact) (used n : ℕ) (S : Says (take used was) cs) (u : used ≤ length was) (e : append_as used (length cs) (largest cs) c was ≡ Ok n) where
  T : Taken used (length cs) (largest cs) n c was
  T = taken used (length cs) (largest cs) c was n e

  abbrev behind : List ℕ
  behind = drop (used + length (entry_text c)) was

  -- the list, the entry, and what stood behind
  entered : sets was used (entry_text c) ≡ (1 ∷ bytes_of 4 (length cs)) ++ (entries_text cs ++ (entry_text c ++ behind))
  unfolding list_text
  entered =
      let h : used + length (entry_text c) ≤ length was = omega (arith, T.end, T.fits) in
      sets-eq (entry_text c) was used h
      ∙ append_assoc (take used was) (entry_text c) behind
      ∙ ap (λ (r : List ℕ). r ++ (entry_text c ++ behind)) S.written
      ∙ append_assoc (1 ∷ bytes_of 4 (length cs)) (entries_text cs) (entry_text c ++ behind)

  abbrev rest : List ℕ
  rest = entries_text cs ++ (entry_text c ++ behind)

  counted_up : sets (sets was used (entry_text c)) 1 (bytes_of 4 (length cs + 1)) ≡ (1 ∷ bytes_of 4 (length cs + 1)) ++ rest
  counted_up =
      let b : List ℕ = bytes_of 4 (length cs) in
      let b' : List ℕ = bytes_of 4 (length cs + 1) in
      let l : length b ≡ 4 = bytes_length 4 (length cs) in
      let l' : length b' ≡ 4 = bytes_length 4 (length cs + 1) in
      let m : length ((1 ∷ b) ++ rest) ≡ 5 + length rest = length-append (1 ∷ b) rest ∙ omega arith in
      let d : drop (1 + length b') ((1 ∷ b) ++ rest) ≡ rest = drop_at (1 ∷ b) rest (1 + length b') (omega arith) in
      ap (λ (r : List ℕ). sets r 1 b') entered ∙ sets-eq b' ((1 ∷ b) ++ rest) 1 (omega arith) ∙ ap (λ (r : List ℕ). (1 ∷ []) ++ b' ++ r) d

  -- what `append` leaves at the front is the list of all the contacts
  pub append_says : Says (take n (append_after used (length cs) (largest cs) c was)) (cs ++ (c ∷ []))
  unfolding append_after append_by list_text
  append_says =
      let p : List ℕ = (1 ∷ bytes_of 4 (length cs + 1)) ++ (entries_text cs ++ entry_text c) in
      let w : (1 ∷ bytes_of 4 (length cs + 1)) ++ rest ≡ p ++ behind = simp append_assoc in
      let k : used ≡ length (take used was) = front_length was used u in
      let z : length p ≡ n = (length-append (1 ∷ bytes_of 4 (length cs + 1)) (entries_text cs ++ entry_text c)) ∙ omega (arith, bytes_length 4 (length cs + 1), bytes_length 4 (length cs), length-append (entries_text cs) (entry_text c), ap length S.written, length-append (1 ∷ bytes_of 4 (length cs)) (entries_text cs), k, T.end) in
      let j : length (cs ++ (c ∷ [])) ≡ length cs + 1 = length-append cs (c ∷ []) in
      let q : take n (append_after used (length cs) (largest cs) c was) ≡ p = rw e (ap (take n) (counted_up ∙ w) ∙ take_at p behind n z) in
      record {
        short = omega (arith, ap length q, z, T.short);
        written = q ∙ rw (j, entries_more cs c) refl;
        all_sound = sound_more cs c 0 S.all_sound T.good (omega (arith, T.above, largest_is cs S.all_sound));
      }

-- The places that normalising gives stand for the bytes that it should give; so, of bytes, twice is once for places too.
-- Assumes nothing.
use Rattle.std.specs.Prelude.{Some, None, Option}
use mathlib.Core.Path.{◌≡◌, refl, sym, ap, ◌∙◌}
use mathlib.Core.Bool.{Bool, true, false}
use mathlib.Core.List.{List, [], ◌∷◌}
use Prim.Native.Nat.{ℕ, zero, suc, ◌+◌, ◌-◌, ◌≤◌, ◌<◌}
use native.Mathlib.Nat.{zero-add, add-zero, add-suc, suc-add}
use native.Mathlib.Omega.{arith}
use lib.Dec.{eqb, ltb}
use lib.ListN.{length, get_or, take, drop, length-take, get_or-map}
use lib.Seq.{take-take, take-nil, drop-nil, drop-drop}
use borrow.Author.Tests.{eqb-true, ltb-true, lt-leb}
use Rattle.text.specs.Pick.{pick, both}
use Rattle.text.specs.Space.{trim_start, trim_end, trimmed}
use Rattle.text.specs.Walk.{lead}
use Rattle.text.proofs.BoolLaws.{both_left, both_right}
use Rattle.letters.specs.Capitals.{raised, capitals}
use Rattle.letters.specs.Same.{same, same_raised}
use Rattle.letters.proofs.CapitalLaws.{capitals_twice}
use Rattle.letters.proofs.SameLaws.{same_true}
use Rattle.letters.proofs.SpaceLaws.{trim_capitals}
use Rattle.tables.specs.Table.{first_from, named, entry}
use Rattle.tables.specs.Modes.{modes, mode_names}
use Rattle.tables.proofs.EntryLaws.{entry_in_lem}
use Rattle.normalize.specs.Modes.{Known, submodes, aliases}
use Rattle.tables.specs.Place.{place, absent, mode_entry, part, value, or_empty, bytes, tidy, is_empty, or_else}
use Rattle.normalize.specs.Normal.{tidied, lookup, parent_of, otherwise, aliased, unless_empty, given, Normal, split, joined, normal, number, mode_numbers, entry_at, names, parent_entry, alias_entry, aliased_place, split_place, normal_places, modal}
use Rattle.tables.specs.declared.Place.{Place}
use Rattle.normalize.specs.declared.ModePair.{ModePair}
use Rattle.tables.proofs.Tested.{all, all_at}
use Rattle.normalize.proofs.ModeTheorems.{not, is_none, settled, settled_tidy, settled_parent, settled_lookup, settled_some, mode_settled, normal_twice}

-- ---- a part of a part of the text is a part of the text
drop_take : (a l : ℕ) (ys : List ℕ) → drop a (take l ys) ≡ take (l - a) (drop a ys)
drop_take zero l ys = let z : l - 0 ≡ l = omega arith in rw z refl
drop_take (suc a) zero ys = let z : 0 - suc a ≡ 0 = omega arith in rw z (drop-nil (suc a))
drop_take (suc a) (suc l) [] = sym (take-nil (suc l - suc a))
drop_take (suc a) (suc l) (y ∷ ys) = let z : suc l - suc a ≡ l - a = omega arith in rw z (drop_take a l ys)

take_own : (n : ℕ) (ys : List ℕ) → take (length (take n ys)) ys ≡ take n ys
take_own zero ys = refl
take_own (suc n) [] = refl
take_own (suc n) (y ∷ ys) = ap (λ (r : List ℕ). y ∷ r) (take_own n ys)

pub sub_part : (text : List ℕ) (s l a n : ℕ)
    → take (length (take n (drop a (take l (drop s text))))) (drop (s + a) text) ≡ take n (drop a (take l (drop s text)))
sub_part text s l a n =
    rw (drop_take a l (drop s text), drop-drop a s text)
    (sym (take-take (length (take n (take (l - a) (drop (s + a) text)))) (l - a) (drop (s + a) text) short)
    ∙ take_own n (take (l - a) (drop (s + a) text)))
  where
    short : length (take n (take (l - a) (drop (s + a) text))) ≤ l - a
    short =
        omega
        (arith, length-take n (take (l - a) (drop (s + a) text)), length-take (l - a) (drop (s + a) text))

-- ---- the places that may stand for a mode or a submode, one by one
data Modal : Place → Type 0 where
  gone : (a n : ℕ) → Modal (place 0 a n)
  here : (a n : ℕ) → Modal (place 1 a n)
  up : (a n : ℕ) → Modal (place 2 a n)
  mode : (k n : ℕ) → k < length mode_names → Modal (place 4 k n)

modal_place : (k a n : ℕ) → modal (place k a n) ≡ true → Modal (place k a n)
unfolding modal
modal_place zero a n e = gone a n
modal_place (suc zero) a n e = here a n
modal_place (suc (suc zero)) a n e = up a n
modal_place (suc (suc (suc k))) a n e =
    let f : both (eqb (suc (suc (suc k))) 4) (ltb a (length mode_names)) ≡ true = rw (lt-leb (suc (suc (suc k))) 2 (omega arith)) at e in
    let four : suc (suc (suc k)) ≡ 4 = eqb-true _ _ (both_left (eqb (suc (suc (suc k))) 4) (ltb a (length mode_names)) f) in
    rw four (mode a n (ltb-true a (length mode_names) (both_right (eqb (suc (suc (suc k))) 4) (ltb a (length mode_names)) f)))

-- ---- the entry of a table
entry_within : (l : List (List ℕ)) (k : ℕ) (v : List ℕ) → entry l k ≡ Some v → k < length l
entry_within [] k v e = absurd (let z : ◌≡◌ {A = ℕ} 0 1 = cc in omega arith)
entry_within (x ∷ xs) zero v e = omega arith
entry_within (x ∷ xs) (suc k) v e = omega (arith, entry_within xs k v e)

tidied_empty : tidied [] ≡ []
unfolding tidied trimmed trim_start trim_end lead
tidied_empty = refl

-- a mode of the table is as it should be
mode_at_lem : (k : ℕ) → k < length mode_names → settled (or_empty (entry mode_names k)) ≡ true
mode_at_lem k h = rw (entry_in_lem mode_names k h) (mode_settled k h)

mode_entry_lem : (k : ℕ) → k < length mode_names → entry mode_names k ≡ Some (or_empty (entry mode_names k))
mode_entry_lem k h = rw (entry_in_lem mode_names k h) refl

no_bytes : (xs : List ℕ) → eqb (length xs) 0 ≡ true → xs ≡ []
no_bytes [] e = refl
no_bytes (x ∷ xs) e = absurd (omega (arith, eqb-true (suc (length xs)) 0 e))

some_bytes : (xs : List ℕ) → eqb (length xs) 0 ≡ false → unless_empty (capitals xs) ≡ Some (capitals xs)
some_bytes [] e = absurd (let z : ◌≡◌ {A = ℕ} 0 1 = cc in omega arith)
some_bytes (x ∷ xs) e = refl

-- ---- trimmed and in capitals, as places and as bytes
module _ (text : List ℕ) where
  abbrev span : ℕ → ℕ → List ℕ
  span a n = take n (drop a text)

  span_trimmed : (a n : ℕ) → span (a + trim_start (span a n)) (length (trimmed (span a n))) ≡ trimmed (span a n)
  unfolding trimmed
  span_trimmed a n = sub_part text a n (trim_start (span a n)) (trim_end (drop (trim_start (span a n)) (span a n)))

  tidied_capitals : (xs : List ℕ) → tidied (capitals xs) ≡ capitals (trimmed xs)
  unfolding tidied
  tidied_capitals xs = rw (trim_capitals xs) (capitals_twice (trimmed xs))

  tidied_is : (xs : List ℕ) → tidied xs ≡ capitals (trimmed xs)
  unfolding tidied
  tidied_is xs = refl

  tidy_bytes : (p : Place) → Modal p → bytes text (tidy text p) ≡ tidied (bytes text p)
  unfolding tidy part value
  tidy_bytes _ (gone a n) = sym tidied_empty
  tidy_bytes _ (here a n) = rw (span_trimmed a n) (sym (tidied_is (span a n)))
  tidy_bytes _ (up a n) = rw (span_trimmed a n) (sym (tidied_capitals (span a n)))
  tidy_bytes _ (mode k n h) = sym (settled_tidy (or_empty (entry mode_names k)) (mode_at_lem k h))

  -- the submode that is given, by whether its place is empty
  none_given : (p : Place) → Modal p → is_empty (tidy text p) ≡ true → given (value text p) ≡ None
  unfolding tidy part value
  none_given _ (gone a n) e = refl
  none_given _ (here a n) e = rw (tidied_is (span a n), no_bytes (trimmed (span a n)) e) refl
  none_given _ (up a n) e = rw (tidied_capitals (span a n), no_bytes (trimmed (span a n)) e) refl
  none_given _ (mode k n h) e = absurd (let z : ◌≡◌ {A = ℕ} 0 1 = cc in omega arith)

  some_given : (p : Place) → Modal p → is_empty (tidy text p) ≡ false → given (value text p) ≡ Some (bytes text (tidy text p))
  unfolding tidy part value
  some_given _ (gone a n) e = absurd (let z : ◌≡◌ {A = ℕ} 0 1 = cc in omega arith)
  some_given _ (here a n) e = rw (tidied_is (span a n), span_trimmed a n) (some_bytes (trimmed (span a n)) e)
  some_given _ (up a n) e = rw (tidied_capitals (span a n), span_trimmed a n) (some_bytes (trimmed (span a n)) e)
  some_given _ (mode k n h) e =
      let v : settled (or_empty (entry mode_names k)) ≡ true = mode_at_lem k h in
      ap given (mode_entry_lem k h) ∙ ap unless_empty (settled_tidy (or_empty (entry mode_names k)) v) ∙ settled_some (or_empty (entry mode_names k)) v

  some_value : (p : Place) → Modal p → is_empty (tidy text p) ≡ false → value text (tidy text p) ≡ Some (bytes text (tidy text p))
  unfolding tidy part value
  some_value _ (gone a n) e = absurd (let z : ◌≡◌ {A = ℕ} 0 1 = cc in omega arith)
  some_value _ (here a n) e = refl
  some_value _ (up a n) e = refl
  some_value _ (mode k n h) e = mode_entry_lem k h

-- ---- a look-up of places and of bytes: both find nothing, or an entry and the mode that it stands for
data Looked (f : Option ℕ) (at : ℕ → Option (List ℕ)) (o : Option (List ℕ)) : Type 0 where
  missed : f ≡ None → o ≡ None → Looked f at o
  hit : (k : ℕ) (v : List ℕ) → f ≡ Some k → at k ≡ Some v → o ≡ Some v → Looked f at o

abbrev no_known : Known
no_known = record { name = []; mode = [] }

looked : (x : List ℕ) (rows : List Known) (i : ℕ) (at : ℕ → Option (List ℕ)) → ((k : ℕ) → k < length rows → at (i + k) ≡ Some (get_or rows k no_known).mode)
    → all (λ (r : Known). same (capitals r.name) r.name) rows ≡ true → Looked (first_from (same_raised x) i (names rows)) at (lookup (capitals x) rows)
unfolding same_raised
looked x [] i at g t = missed refl refl
looked x (r ∷ rs) i at g t =
    let c : capitals r.name ≡ r.name =
    same_true (capitals r.name) r.name
    (both_left (same (capitals r.name) r.name) (all (λ (r : Known). same (capitals r.name) r.name) rs) t)
    in
    by (same (capitals x) r.name) (ap (same (capitals x)) c)
    (rw add-zero at (g 0 (omega arith)))
    (looked x rs (suc i) at (λ k h. rw suc-add (rw add-suc at (g (suc k) (omega arith))))
    (both_right (same (capitals r.name) r.name) (all (λ (r : Known). same (capitals r.name) r.name) rs) t))
  where
    by : (b : Bool) → same (capitals x) (capitals r.name) ≡ b → at i ≡ Some r.mode
        → Looked (first_from (same_raised x) (suc i) (names rs)) at (lookup (capitals x) rs)
        → Looked (pick (same (capitals x) (capitals r.name)) (Some i) (first_from (same_raised x) (suc i) (names rs))) at (pick b (Some r.mode) (lookup (capitals x) rs))
    by true e q later = hit i r.mode (rw e refl) q refl
    by false e q later = rw e later

-- the mode at entry k, by the number that stands there
abbrev mode_number : Known → ℕ
mode_number r = number (first_from (same r.mode) 0 mode_names)

abbrev numbered : List Known → ℕ → Option (List ℕ)
numbered rows k = entry mode_names (get_or (mode_numbers rows) k 0)

abbrev entered : Known → Bool
entered r = both (not (is_none (entry mode_names (mode_number r)))) (same (or_empty (entry mode_names (mode_number r))) r.mode)

is_entered : (r : Known) → entered r ≡ true → entry mode_names (mode_number r) ≡ Some r.mode
is_entered r e = by (entry mode_names (mode_number r)) e
  where
    by : (o : Option (List ℕ)) → both (not (is_none o)) (same (or_empty o) r.mode) ≡ true → o ≡ Some r.mode
    by None q = absurd (let z : ◌≡◌ {A = ℕ} 0 1 = cc in omega arith)
    by (Some x) q = ap (λ (y : List ℕ). Some y) (same_true x r.mode q)

none_numbered : mode_number no_known ≡ 0
unfolding mode_names modes
none_numbered = refl

numbered_at : (rows : List Known) → all entered rows ≡ true → (k : ℕ) → k < length rows → numbered rows k ≡ Some (get_or rows k no_known).mode
numbered_at rows t k h =
    let e : get_or (mode_numbers rows) k 0 ≡ mode_number (get_or rows k no_known) = rw none_numbered at (get_or-map mode_number rows k no_known) in
    rw e (is_entered (get_or rows k no_known) (all_at no_known entered rows t k h))

module _ (text : List ℕ) (rows : List Known) (t : all entered rows ≡ true) (c : all (λ (r : Known). same (capitals r.name) r.name) rows ≡ true) (empty : named [] (names rows) ≡ None) (nought : lookup [] rows ≡ None) (free : (x : List ℕ) → settled x ≡ true → lookup x rows ≡ None) where
  part_looked : (x : List ℕ) → Looked (named x (names rows)) (numbered rows) (lookup (capitals x) rows)
  unfolding named
  part_looked x = looked x rows 0 (numbered rows) (λ k h. rw zero-add (numbered_at rows t k h)) c

  rows_looked : (p : Place) → Modal p → Looked (named (part text (tidy text p)) (names rows)) (numbered rows) (lookup (bytes text (tidy text p)) rows)
  unfolding tidy part value
  rows_looked _ (gone a n) = missed empty nought
  rows_looked _ (here a n) = part_looked (take (length (trimmed (span text a n))) (drop (a + trim_start (span text a n)) text))
  rows_looked _ (up a n) = part_looked (take (length (trimmed (span text a n))) (drop (a + trim_start (span text a n)) text))
  rows_looked _ (mode k n h) = missed empty (free (or_empty (entry mode_names k)) (mode_at_lem k h))

parents_entered : all entered submodes ≡ true
unfolding submodes mode_names modes
parents_entered = refl

aliases_entered : all entered aliases ≡ true
unfolding aliases mode_names modes
aliases_entered = refl

submodes_capital : all (λ (r : Known). same (capitals r.name) r.name) submodes ≡ true
unfolding submodes raised
submodes_capital = refl

aliases_capital : all (λ (r : Known). same (capitals r.name) r.name) aliases ≡ true
unfolding aliases raised
aliases_capital = refl

pub no_submode : named [] (names submodes) ≡ None
unfolding named submodes same_raised
no_submode = refl

pub no_alias : named [] (names aliases) ≡ None
unfolding named aliases same_raised
no_alias = refl

entry_value : (text : List ℕ) (rows : List Known) (k : ℕ) (v : List ℕ) → numbered rows k ≡ Some v → value text (mode_entry (get_or (mode_numbers rows) k 0)) ≡ Some v
unfolding value
entry_value text rows k v e = e

absent_value : (text : List ℕ) → value text absent ≡ None
unfolding value
absent_value text = refl

module _ (text : List ℕ) (p : Place) (m : Modal p) where
  parent_looked : Looked (named (part text (tidy text p)) (names submodes)) (numbered submodes) (parent_of (bytes text (tidy text p)))
  unfolding parent_of submodes
  parent_looked =
      rows_looked text submodes parents_entered submodes_capital no_submode refl (λ x e. settled_parent x e) p m

  alias_looked : Looked (named (part text (tidy text p)) (names aliases)) (numbered aliases) (lookup (bytes text (tidy text p)) aliases)
  unfolding aliases
  alias_looked = rows_looked text aliases aliases_entered aliases_capital no_alias refl (λ x e. settled_lookup x e) p m

  -- the mode with its alias, as places and as bytes
  alias_means : bytes text (aliased_place text (tidy text p)) ≡ aliased (bytes text (tidy text p))
  unfolding aliased_place alias_entry aliased
  alias_means = by alias_looked
    where
      by : Looked (named (part text (tidy text p)) (names aliases)) (numbered aliases) (lookup (bytes text (tidy text p)) aliases)
          → bytes text (or_else (entry_at (mode_numbers aliases) (named (part text (tidy text p)) (names aliases))) (tidy text p))
          ≡ otherwise (lookup (bytes text (tidy text p)) aliases) (bytes text (tidy text p))
      by (missed e n) = rw (e, n) refl
      by (hit k v e a n) = rw (e, n) (ap or_empty (entry_value text aliases k v a))

-- a place at which a submode was found has bytes
found_value : (text : List ℕ) (p : Place) → Modal p → (k : ℕ) → named (part text (tidy text p)) (names submodes) ≡ Some k
    → value text (tidy text p) ≡ Some (bytes text (tidy text p))
unfolding tidy part value
found_value text _ (gone a n) k e =
    let w : None ≡ Some k = sym no_submode ∙ e in
    absurd (let z : ◌≡◌ {A = ℕ} 0 1 = cc in omega arith)
found_value text _ (here a n) k e = refl
found_value text _ (up a n) k e = refl
found_value text _ (mode j n h) k e = mode_entry_lem j h

-- ---- what comes out
module _ (mt st : List ℕ) (m s : Place) (hm : Modal m) (hs : Modal s) where
  split_mode : bytes mt (split_place mt (tidy mt m)).mode ≡ (split (tidied (bytes mt m)) (parent_of (tidied (bytes mt m)))).mode
  unfolding split_place parent_entry
  split_mode = rw (← tidy_bytes mt m hm) (by (parent_looked mt m hm))
    where
      by : Looked (named (part mt (tidy mt m)) (names submodes)) (numbered submodes) (parent_of (bytes mt (tidy mt m)))
          → bytes mt (split_place mt (tidy mt m)).mode ≡ (split (bytes mt (tidy mt m)) (parent_of (bytes mt (tidy mt m)))).mode
      by (missed e n) = rw (e, n) (alias_means mt m hm)
      by (hit k v e a n) = rw (e, n) (ap or_empty (entry_value mt submodes k v a))

  split_submode : value mt (split_place mt (tidy mt m)).submode ≡ (split (tidied (bytes mt m)) (parent_of (tidied (bytes mt m)))).submode
  unfolding split_place parent_entry
  split_submode = rw (← tidy_bytes mt m hm) (by (parent_looked mt m hm))
    where
      by : Looked (named (part mt (tidy mt m)) (names submodes)) (numbered submodes) (parent_of (bytes mt (tidy mt m)))
          → value mt (split_place mt (tidy mt m)).submode ≡ (split (bytes mt (tidy mt m)) (parent_of (bytes mt (tidy mt m)))).submode
      by (missed e n) = rw (e, n) (absent_value mt)
      by (hit k v e a n) = rw (e, n) (found_value mt m hm k e)

  joined_mode : bytes mt (or_else (parent_entry (part st (tidy st s))) (aliased_place mt (tidy mt m)))
      ≡ otherwise (parent_of (bytes st (tidy st s))) (aliased (tidied (bytes mt m)))
  unfolding parent_entry
  joined_mode = rw (← tidy_bytes mt m hm) (by (parent_looked st s hs))
    where
      by : Looked (named (part st (tidy st s)) (names submodes)) (numbered submodes) (parent_of (bytes st (tidy st s)))
          → bytes mt (or_else (parent_entry (part st (tidy st s))) (aliased_place mt (tidy mt m)))
          ≡ otherwise (parent_of (bytes st (tidy st s))) (aliased (bytes mt (tidy mt m)))
      by (missed e n) = rw (e, n) (alias_means mt m hm)
      by (hit k v e a n) = rw (e, n) (ap or_empty (entry_value mt submodes k v a))

  -- the mode, which is an entry or in the text of the mode
  mode_is : bytes mt (normal_places mt m st s).mode ≡ (normal (bytes mt m) (value st s)).mode
  unfolding normal_places normal
  mode_is = by (is_empty (tidy st s)) refl
    where
      by : (b : Bool) → is_empty (tidy st s) ≡ b → bytes mt (normal_places mt m st s).mode ≡ (joined (tidied (bytes mt m)) (given (value st s))).mode
      by true e = rw (e, none_given st s hs e) split_mode
      by false e = rw (e, some_given st s hs e) joined_mode

  -- the submode, which is in the text of the submode if one is given, and else in that of the mode
  submode_is : value (pick (is_empty (tidy st s)) mt st) (normal_places mt m st s).submode ≡ (normal (bytes mt m) (value st s)).submode
  unfolding normal_places normal
  submode_is = by (is_empty (tidy st s)) refl
    where
      by : (b : Bool) → is_empty (tidy st s) ≡ b
          → value (pick (is_empty (tidy st s)) mt st) (normal_places mt m st s).submode ≡ (joined (tidied (bytes mt m)) (given (value st s))).submode
      by true e = rw (e, none_given st s hs e) split_submode
      by false e = rw (e, some_given st s hs e) (some_value st s hs e)

  -- ---- and it may be normalised again
  tidy_modal : (text : List ℕ) (p : Place) → Modal p → Modal (tidy text p)
  unfolding tidy part
  tidy_modal text _ (gone a n) = gone a n
  tidy_modal text _ (here a n) = up (a + trim_start (span text a n)) (length (trimmed (span text a n)))
  tidy_modal text _ (up a n) = up (a + trim_start (span text a n)) (length (trimmed (span text a n)))
  tidy_modal text _ (mode k n h) = mode k n h

  alias_modal : Modal (aliased_place mt (tidy mt m))
  unfolding aliased_place alias_entry
  alias_modal = by (alias_looked mt m hm)
    where
      by : Looked (named (part mt (tidy mt m)) (names aliases)) (numbered aliases) (lookup (bytes mt (tidy mt m)) aliases) → Modal (aliased_place mt (tidy mt m))
      by (missed e n) = rw e (tidy_modal mt m hm)
      by (hit k v e a n) = rw e (mode (get_or (mode_numbers aliases) k 0) 0 (entry_within mode_names (get_or (mode_numbers aliases) k 0) v a))

  mode_modal : Modal (normal_places mt m st s).mode
  unfolding normal_places split_place parent_entry
  mode_modal = by (is_empty (tidy st s)) refl (parent_looked mt m hm) (parent_looked st s hs)
    where
      by : (b : Bool) → is_empty (tidy st s) ≡ b
          → Looked (named (part mt (tidy mt m)) (names submodes)) (numbered submodes) (parent_of (bytes mt (tidy mt m)))
          → Looked (named (part st (tidy st s)) (names submodes)) (numbered submodes) (parent_of (bytes st (tidy st s)))
          → Modal (normal_places mt m st s).mode
      by true q (missed e n) l = rw (q, e) alias_modal
      by true q (hit k v e a n) l = rw (q, e) (mode (get_or (mode_numbers submodes) k 0) 0 (entry_within mode_names (get_or (mode_numbers submodes) k 0) v a))
      by false q l (missed e n) = rw (q, e) alias_modal
      by false q l (hit k v e a n) = rw (q, e) (mode (get_or (mode_numbers submodes) k 0) 0 (entry_within mode_names (get_or (mode_numbers submodes) k 0) v a))

  submode_modal : Modal (normal_places mt m st s).submode
  unfolding normal_places split_place parent_entry
  submode_modal = by (is_empty (tidy st s)) refl (parent_looked mt m hm)
    where
      by : (b : Bool) → is_empty (tidy st s) ≡ b
          → Looked (named (part mt (tidy mt m)) (names submodes)) (numbered submodes) (parent_of (bytes mt (tidy mt m)))
          → Modal (normal_places mt m st s).submode
      by true q (missed e n) = rw (q, e) (gone 0 0)
      by true q (hit k v e a n) = rw (q, e) (tidy_modal mt m hm)
      by false q l = rw q (tidy_modal st s hs)

-- ---- the theorems, of places that may stand for a mode and a submode
is_modal : (p : Place) → modal p ≡ true → Modal p
is_modal p e = modal_place p.kind p.start p.len e

module _ (mt st : List ℕ) (m s : Place) (hm : modal m ≡ true) (hs : modal s ≡ true) where
  -- the mode is an entry or in the text of the mode
  pub mode_means : bytes mt (normal_places mt m st s).mode ≡ (normal (bytes mt m) (value st s)).mode
  mode_means = mode_is mt st m s (is_modal m hm) (is_modal s hs)

  -- the submode is in the text of the submode if one is given, and else in that of the mode
  pub submode_means : value (pick (is_empty (tidy st s)) mt st) (normal_places mt m st s).submode ≡ (normal (bytes mt m) (value st s)).submode
  submode_means = submode_is mt st m s (is_modal m hm) (is_modal s hs)

pub one_text : (b : Bool) (text : List ℕ) → pick b text text ≡ text
one_text true text = refl
one_text false text = refl

-- twice is once, of places in one text
module _ (text : List ℕ) (m s : Place) (hm : modal m ≡ true) (hs : modal s ≡ true) where
  abbrev once : ModePair
  once = normal_places text m text s

  abbrev twice : ModePair
  twice = normal_places text once.mode text once.submode

  once_submode : value text once.submode ≡ (normal (bytes text m) (value text s)).submode
  once_submode = rw one_text at (submode_is text text m s (is_modal m hm) (is_modal s hs))

  once_mode : bytes text once.mode ≡ (normal (bytes text m) (value text s)).mode
  once_mode = mode_is text text m s (is_modal m hm) (is_modal s hs)

  again : normal (bytes text once.mode) (value text once.submode) ≡ normal (bytes text m) (value text s)
  again = rw (once_mode, once_submode) (normal_twice (bytes text m) (value text s))

  hm2 : Modal once.mode
  hm2 = mode_modal text text m s (is_modal m hm) (is_modal s hs)

  hs2 : Modal once.submode
  hs2 = submode_modal text text m s (is_modal m hm) (is_modal s hs)

  pub mode_twice : bytes text twice.mode ≡ bytes text once.mode
  mode_twice =
      mode_is text text once.mode once.submode hm2 hs2 ∙ ap (λ (n : Normal). n.mode) again ∙ sym once_mode

  pub submode_twice : value text twice.submode ≡ value text once.submode
  submode_twice =
      (rw one_text at (submode_is text text once.mode once.submode hm2 hs2)) ∙ ap (λ (n : Normal). n.submode) again ∙ sym once_submode

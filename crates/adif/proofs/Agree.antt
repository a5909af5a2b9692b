-- The reading agrees with the grammar. Assumes nothing.
use Rattle.std.specs.Prelude.{Some, Result, Ok, Err}
use Rattle.tags.specs.declared.Tag.TheVariants.{End, Eof, Eoh, Eor, Field}
use Rattle.tags.specs.declared.Tag.{Tag}
use mathlib.Core.Path.{◌≡◌, refl, sym, ap, ◌∙◌}
use mathlib.Core.List.{List, [], ◌∷◌, ◌++◌, map, append-nil}
use Prim.Native.Nat.{ℕ, ◌+◌, ◌≤◌, ◌<◌}
use lib.ListN.{length, drop}
use Rattle.text.specs.Run.{follow}
use Rattle.text.specs.Space.{trimmed}
use Rattle.text.specs.Utf8.{Utf8}
use Rattle.text.proofs.RunLaws.{Onward, run_step}
use Rattle.letters.specs.Capitals.{capitals}
use Rattle.decimal.specs.Decimal.{unsigned_of}
use Rattle.refusals.specs.declared.Refusal.{Refusal}
use Rattle.tags.specs.Tags.{colon, kind_of, by_kind, tag_at, name_place, name_length}
use Rattle.tags.specs.Ahead.{Ahead}
use Rattle.tags.specs.declared.Kind.TheVariants.{EndOfHeader, EndOfRecord, EndOfFile, FieldName}
use Rattle.tags.proofs.AheadLaws.{ahead}
use Rattle.adif.specs.Records.{Item, eoh, eor, field, Outcome, records, Turn, on, no, then, act, Ending, meaning}
use Rattle.adif.specs.Grammar
use Rattle.adif.specs.Grammar.{Why, plain, Items, all, Tagged, Sized, Says, over, eof_tag, eoh_tag, eor_tag, field_tag, unterminated, missing, bad, truncated, torn}
use Rattle.adif.specs.Reading.{Row, RowsRead, part, row_name, row_value, rows, State, onto, read_by, read_run, read_tags}
use Rattle.adif.specs.Told.{field_of, told_by}
use Rattle.adif.proofs.TagSays
use Rattle.adif.proofs.Mapped.{map_outcome, map_item, Same, then_map, finish_map, act_map}

onto_on : (n at next : ℕ) → at < next → next ≤ n → (o : Turn Row Refusal) → Onward n at (onto next o)
onto_on n at next p q (on h d) = (p, q)
onto_on n at next p q (no w) = tt

follow_onto : (k : ℕ → State → RowsRead) (next : ℕ) (o : Turn Row Refusal) → follow k (onto next o) ≡ then o (λ h d. k next (h, d))
follow_onto k next (on h d) = refl
follow_onto k next (no w) = refl

-- one step of the run
module _ (s : List ℕ) (room : ℕ) where
  by_on : (at : ℕ) (hand : List Row) (done : List (List Row)) (t : Result Tag Refusal) → Ahead s at t → Onward (length s) at (read_by s room hand done t)
  by_on at hand done (Ok End) p = tt
  by_on at hand done (Ok Eof) p = tt
  by_on at hand done (Ok (Eoh next)) p = p
  by_on at hand done (Ok (Eor i next)) p = onto_on (length s) at next p.0 p.1 (act (rows s i) room hand done eor)
  by_on at hand done (Ok (Field i a k v n)) p = onto_on (length s) at (v + n) p.0 p.1 (act (rows s i) room hand done (field (a ∷ k ∷ v ∷ n ∷ [])))
  by_on at hand done (Err why) p = tt

  pub forward : (at : ℕ) (st : State) → Onward (length s) at (read_by s room st.0 st.1 (tag_at s at))
  forward at st = by_on at st.0 st.1 (tag_at s at) (ahead s at)

  pub turn : (at : ℕ) (st : State) (t : Result Tag Refusal) → tag_at s at ≡ t → read_run s room at st ≡ follow (read_run s room) (read_by s room st.0 st.1 t)
  turn at st t e =
      run_step (λ a x. read_by s room x.0 x.1 (tag_at s a)) (records []) (length s) forward at st
      ∙ rw e

module _ (s : List ℕ) (room : ℕ) (u : Utf8 s) where
  abbrev φ : Row → Grammar.Field
  φ = field_of s

  abbrev ψ : Refusal → Why
  ψ = told_by s

  -- a place is not told by the grammar
  pub same : (i : ℕ) → Same φ ψ (rows s i) plain
  same i = record { names = λ f. refl; eight = refl; nine = refl; ten = refl }

  abbrev told : List Row → List (List Row) → Items → Ending Why → Outcome Grammar.Field Why
  told hand done is e = meaning plain room (map φ hand) (map (map φ) done) is e

  -- an item, and the text from `next` on
  item : (i next : ℕ) (hand : List Row) (done : List (List Row)) (x : Item Row) (is : Items) (e : Ending Why)
      → ((h : List Row) (d : List (List Row)) → map_outcome φ ψ (read_run s room next (h, d)) ≡ told h d is e)
      → map_outcome φ ψ (follow (read_run s room) (onto next (act (rows s i) room hand done x))) ≡ told hand done (map_item φ ψ x ∷ is) e
  item i next hand done x is e k =
      ap (map_outcome φ ψ) (follow_onto (read_run s room) next (act (rows s i) room hand done x))
      ∙ then_map φ ψ (act (rows s i) room hand done x) (λ h d. read_run s room next (h, d)) _ k
      ∙ ap (λ (o : Turn Grammar.Field Why). then o (λ h d. meaning plain room h d is e)) (act_map φ ψ (rows s i) plain (same i) room hand done x)

  -- the row of a field
  abbrev pub row_at : (at : ℕ) (t rest : List ℕ) → Tagged (drop at s) t rest → List ℕ → Row
  row_at at t rest U v = (name_place (TagSays.inner s at t rest U) t) ∷ name_length t ∷ TagSays.next s at t rest U ∷ length v ∷ []

  module _ (at : ℕ) (t rest : List ℕ) (U : Tagged (drop at s) t rest) (n l : List ℕ) (z : Sized t n l) (k : kind_of (trimmed n) ≡ FieldName) where
    named : capitals (part s (name_place (TagSays.inner s at t rest U) t) (name_length t)) ≡ capitals (trimmed n)
    named = ap capitals (TagSays.name_is s at t rest U n (colon ∷ z.more) (TagSays.first s at t rest U n l z k) z.is)

    pub row_is : (v more : List ℕ) → unsigned_of (trimmed l) ≡ Some (length v) → rest ≡ v ++ more
        → φ (row_at at t rest U v) ≡ record { name = capitals (trimmed n); value = v }
    unfolding row_name row_value
    row_is v more g f = rw (named, TagSays.value_is s at t rest U n l z k v more g f)

  -- what the text from `at` on says is what the run makes of it
  pub agree : {text : List ℕ} {is : Items} {e : Ending Why} → Says text is e → (at : ℕ) → drop at s ≡ text
      → (hand : List Row) (done : List (List Row)) → map_outcome φ ψ (read_run s room at (hand, done)) ≡ told hand done is e
  unfolding by_kind
  agree (over w) at q hand done = rw (turn s room at (hand, done) (Ok End) (TagSays.tag_none s at (rw q w))) (finish_map φ ψ (rows s (length s)) plain (same (length s)) room hand done)
  agree (eof_tag {t = t} {rest = rest} {n = n} T c k) at q hand done =
      let U : Tagged (drop at s) t rest = rw q T in
      rw (turn s room at (hand, done) _ (TagSays.by_name s at t rest U n EndOfFile c k)) (finish_map φ ψ (rows s (length s)) plain (same (length s)) room hand done)
  agree (eoh_tag {t = t} {rest = rest} {n = n} {is = is} {e = e} T c k r) at q hand done =
      let U : Tagged (drop at s) t rest = rw q T in
      rw (turn s room at (hand, done) _ (TagSays.by_name s at t rest U n EndOfHeader c k))
      (item 0 (TagSays.next s at t rest U) hand done eoh is e (λ h d. agree r (TagSays.next s at t rest U) (TagSays.drop_next s at t rest U) h d))
  agree (eor_tag {t = t} {rest = rest} {n = n} {is = is} {e = e} T c k r) at q hand done =
      let U : Tagged (drop at s) t rest = rw q T in
      rw (turn s room at (hand, done) _ (TagSays.by_name s at t rest U n EndOfRecord c k))
      (item (TagSays.start s at t rest U) (TagSays.next s at t rest U) hand done eor is e (λ h d. agree r (TagSays.next s at t rest U) (TagSays.drop_next s at t rest U) h d))
  agree (field_tag {t = t} {n = n} {l = l} {rest = rest} v more {is = is} {e = e} T z k g f c r) at q hand done =
      let U : Tagged (drop at s) t rest = rw q T in
      let go_on : ℕ = TagSays.next s at t rest U + length v in
      rw (turn s room at (hand, done) _ (TagSays.tag_field s at t rest U n l z k v more g f u c))
      (item (TagSays.start s at t rest U) go_on hand done (field (row_at at t rest U v)) is e (λ h d. agree r go_on (TagSays.drop_more s at t rest U n l z k v more g f) h d)
      ∙ ap (λ (x : Grammar.Field). told hand done (field x ∷ is) e) (row_is at t rest U n l z k v more g f))
  agree (unterminated gap t w v f) at q hand done = rw (turn s room at (hand, done) _ (TagSays.tag_unterminated s at gap t w (q ∙ f) v))
  agree (missing {t = t} {rest = rest} T w k) at q hand done =
      let U : Tagged (drop at s) t rest = rw q T in
      rw (turn s room at (hand, done) _ (TagSays.tag_missing s at t rest U w k), TagSays.name_is s at t rest U t [] (all w) (sym (append-nil t)))
  agree (bad {t = t} {rest = rest} {n = n} {l = l} T z k g) at q hand done =
      let U : Tagged (drop at s) t rest = rw q T in
      rw (turn s room at (hand, done) _ (TagSays.tag_bad s at t rest U n l z k g), named at t rest U n l z k)
  agree (truncated {t = t} {rest = rest} {n = n} {l = l} {k = m} T z k g h) at q hand done =
      let U : Tagged (drop at s) t rest = rw q T in
      rw (turn s room at (hand, done) _ (TagSays.tag_truncated s at t rest U n l z k m g h), named at t rest U n l z k)
  agree (torn {t = t} {rest = rest} {n = n} {l = l} v more T z k g f c) at q hand done =
      let U : Tagged (drop at s) t rest = rw q T in
      rw (turn s room at (hand, done) _ (TagSays.tag_torn s at t rest U n l z k v more g f u c), named at t rest U n l z k)

  -- whatever a UTF-8 text says is what is read of it, refusals included
  pub reading_is : {is : Items} {e : Ending Why} → Says s is e → map_outcome φ ψ (read_tags s room) ≡ meaning plain room [] [] is e
  unfolding read_tags
  reading_is w = agree w 0 refl [] []

-- Where in a text a refusal is met. Assumes nothing.
use Rattle.std.specs.Prelude.{⊤, Result, Ok, Err}
use Rattle.tags.specs.declared.Tag.TheVariants.{End}
use mathlib.Core.Path.{◌≡◌, refl, sym, ap, ◌∙◌}
use mathlib.Core.Bool.{Bool, true, false}
use mathlib.Core.List.{List, [], ◌∷◌, ◌++◌, map, append_assoc, append-nil}
use Prim.Native.Nat.{ℕ, ◌+◌, ◌≤◌}
use native.Mathlib.Omega.{arith}
use lib.Dec.{ltb, leb}
use lib.ListN.{length, drop, length-append, length-drop}
use Rattle.text.specs.Pick.{pick}
use Rattle.text.specs.Run.{follow}
use Rattle.text.specs.Space.{trimmed}
use Rattle.text.specs.Utf8.{Utf8, valid_up_to}
use Rattle.letters.specs.Capitals.{capitals}
use Rattle.refusals.specs.Refusals.{number_of, place_of, of_text}
use Rattle.refusals.specs.declared.Refusal.{Refusal}
use Rattle.refusals.specs.declared.Refusal.TheVariants.{ManyNames, ManyRecords, FewRows}
use Rattle.tags.specs.Tags.{lt, gt, by_kind, tag_at}
use Rattle.tags.specs.declared.Kind.TheVariants.{EndOfHeader, EndOfRecord, EndOfFile}
use Rattle.adif.specs.Records.{Item, eoh, eor, field, Ending, whole, fault, Outcome, records, refused, Turn, on, no, then, total, put, close, finish, act}
use Rattle.adif.specs.Grammar.{Field, Why, plain, Items, Without, Tagged, Says, over, eof_tag, eoh_tag, eor_tag, field_tag, unterminated, missing, bad, truncated, torn}
use Rattle.adif.specs.Reading.{Row, RowsRead, row_name, rows, onto, accepted, read_run, read_tags, read_text}
use Rattle.adif.specs.Told.{field_of, told_by}
use Rattle.adif.specs.Theorems.{Split, RefusedAtATag, PlacedAtTheTag, Leaves, stay, pass, Here, a_tag, a_field, an_eor, the_end, Met, PlacedWhereMet}
use Rattle.adif.proofs.TagSays
use Rattle.adif.proofs.Mapped.{map_turn, map_outcome, map_item, finish_map, act_map}
use Rattle.adif.proofs.Agree.{turn, same, row_at, row_is, agree}
use Rattle.adif.proofs.Total.{says_something}
use Rattle.adif.proofs.Exactly.{is_utf8}

-- ---- the grammar alone
-- the tag with nothing before it, and with another rest
abbrev alone : (text t rest : List ℕ) → Tagged text t rest → Tagged (lt ∷ (t ++ gt ∷ rest)) t rest
alone text t rest T = record { gap = []; comment = tt; closed = T.closed; is = refl }

abbrev with_rest : (text t rest other : List ℕ) (T : Tagged text t rest) → Tagged (T.gap ++ lt ∷ (t ++ gt ∷ other)) t other
with_rest text t rest other T = record { gap = T.gap; comment = T.comment; closed = T.closed; is = refl }

never : (w : Why) → whole ≡ fault w → ⊥
never w e = let z : ◌≡◌ {A = ℕ} 0 1 = cc in omega arith

further : (gap t before more : List ℕ) → gap ++ lt ∷ (t ++ gt ∷ (before ++ more)) ≡ (gap ++ lt ∷ (t ++ gt ∷ before)) ++ more
further gap t before more =
    ap (λ (x : List ℕ). gap ++ lt ∷ x) (sym (append_assoc t (gt ∷ before) more)) ∙ sym (append_assoc gap (lt ∷ (t ++ gt ∷ before)) more)

split : {text : List ℕ} {is : Items} {e : Ending Why} → Says text is e → (w : Why) → e ≡ fault w → Split text is w
split (over x) w q = absurd (never w q)
split (eof_tag T c k) w q = absurd (never w q)
split (eoh_tag {text = text} {t = t} {rest = rest} T c k r) w q =
    let S : Split rest _ w = split r w q in
    record {
      before = T.gap ++ lt ∷ (t ++ gt ∷ S.before);
      from = S.from;
      cut = T.is ∙ ap (λ (x : List ℕ). T.gap ++ lt ∷ (t ++ gt ∷ x)) S.cut ∙ further T.gap t S.before (lt ∷ S.from);
      says = eoh_tag (with_rest text t rest S.before T) c k S.says;
      refuses = S.refuses;
    }
split (eor_tag {text = text} {t = t} {rest = rest} T c k r) w q =
    let S : Split rest _ w = split r w q in
    record {
      before = T.gap ++ lt ∷ (t ++ gt ∷ S.before);
      from = S.from;
      cut = T.is ∙ ap (λ (x : List ℕ). T.gap ++ lt ∷ (t ++ gt ∷ x)) S.cut ∙ further T.gap t S.before (lt ∷ S.from);
      says = eor_tag (with_rest text t rest S.before T) c k S.says;
      refuses = S.refuses;
    }
split (field_tag {text = text} {t = t} {rest = rest} v more T z k g f c r) w q =
    let S : Split more _ w = split r w q in
    let e : rest ≡ (v ++ S.before) ++ (lt ∷ S.from) = f ∙ ap (λ (x : List ℕ). v ++ x) S.cut ∙ sym (append_assoc v S.before (lt ∷ S.from)) in
    record {
      before = T.gap ++ lt ∷ (t ++ gt ∷ (v ++ S.before));
      from = S.from;
      cut = T.is ∙ ap (λ (x : List ℕ). T.gap ++ lt ∷ (t ++ gt ∷ x)) e ∙ further T.gap t (v ++ S.before) (lt ∷ S.from);
      says = field_tag v S.before (with_rest text t rest (v ++ S.before) T) z k g refl c S.says;
      refuses = S.refuses;
    }
split (unterminated gap t x y f) w q =
    record { before = gap; from = t; cut = f; says = over x; refuses = rw (← q) (unterminated [] t tt y refl) }
split (missing {text = text} {t = t} {rest = rest} T x k) w q =
    record { before = T.gap; from = t ++ gt ∷ rest; cut = T.is; says = over T.comment; refuses = rw (← q) (missing (alone text t rest T) x k) }
split (bad {text = text} {t = t} {rest = rest} T z k g) w q =
    record { before = T.gap; from = t ++ gt ∷ rest; cut = T.is; says = over T.comment; refuses = rw (← q) (bad (alone text t rest T) z k g) }
split (truncated {text = text} {t = t} {rest = rest} T z k g h) w q =
    record { before = T.gap; from = t ++ gt ∷ rest; cut = T.is; says = over T.comment; refuses = rw (← q) (truncated (alone text t rest T) z k g h) }
split (torn {text = text} {t = t} {rest = rest} v more T z k g f c) w q =
    record { before = T.gap; from = t ++ gt ∷ rest; cut = T.is; says = over T.comment; refuses = rw (← q) (torn v more (alone text t rest T) z k g f c) }

pub refused_at_a_tag : RefusedAtATag
refused_at_a_tag text is w d = split d w refl

-- ---- the place that is told where a limit is passed
abbrev TurnAt : ℕ → Turn Row Refusal → Type 0
TurnAt i (on h d) = Unit {0}
TurnAt i (no w) = place_of w ≡ i

turn_pick : (i : ℕ) (b : Bool) (x y : Turn Row Refusal) → TurnAt i x → TurnAt i y → TurnAt i (pick b x y)
turn_pick i true x y p q = p
turn_pick i false x y p q = q

close_at : (s : List ℕ) (i room : ℕ) (hand : List Row) (done : List (List Row)) → TurnAt i (close (rows s i) room hand done)
close_at s i room [] done = tt
close_at s i room (h ∷ hs) done =
    turn_pick i (ltb (length done) 65535) (pick (leb (total done + length (h ∷ hs)) room) (on [] (done ++ ((h ∷ hs) ∷ []))) (no (FewRows i))) (no (ManyRecords i))
    (turn_pick i (leb (total done + length (h ∷ hs)) room) (on [] (done ++ ((h ∷ hs) ∷ []))) (no (FewRows i)) tt refl)
    refl

act_at : (s : List ℕ) (i room : ℕ) (hand : List Row) (done : List (List Row)) (x : Item Row) → TurnAt i (act (rows s i) room hand done x)
act_at s i room hand done eoh = tt
act_at s i room hand done eor = close_at s i room hand done
act_at s i room hand done (field f) =
    turn_pick i (leb (length (put (row_name s) f hand)) 256) (on (put (row_name s) f hand) done) (no (ManyNames i)) tt refl

abbrev OutcomeAt : ℕ → RowsRead → Type 0
OutcomeAt i (records rs) = Unit {0}
OutcomeAt i (refused w) = place_of w ≡ i

finish_at : (s : List ℕ) (i room : ℕ) (hand : List Row) (done : List (List Row)) → OutcomeAt i (finish (rows s i) room hand done)
finish_at s i room hand [] = tt
finish_at s i room hand (d ∷ ds) = by (close (rows s i) room hand (d ∷ ds)) (close_at s i room hand (d ∷ ds))
  where
    by : (o : Turn Row Refusal) → TurnAt i o → OutcomeAt i (then o (λ _ done. records done))
    by (on h x) p = tt
    by (no w) p = p

refused_is : {F W : Type 0} (v w : W) → ◌≡◌ {A = Outcome F W} (refused v) (refused w) → v ≡ w
refused_is v w e = cc

-- ---- the reading, from `at` on
module _ (s : List ℕ) (room : ℕ) (u : Utf8 s) where
  abbrev φ : Row → Field
  φ = field_of s

  abbrev ψ : Refusal → Why
  ψ = told_by s

  record Found (text : List ℕ) (at : ℕ) (hand : List Row) (done : List (List Row)) (why : Refusal) : Type 0 where
    before : List ℕ
    from : List ℕ
    cut : text ≡ before ++ from
    there : at + length before ≡ place_of why
    is : Items
    says : Says before is whole
    to : List Field
    unto : List (List Field)
    leaves : Leaves room (map φ hand) (map (map φ) done) is to unto
    here : Here room to unto (ψ why) from

  -- at the end
  ended : (text : List ℕ) → Says text [] whole → (at : ℕ) → drop at s ≡ text → at ≤ length s → (hand : List Row) (done : List (List Row)) (why : Refusal)
      → finish (rows s (length s)) room hand done ≡ refused why → Found text at hand done why
  ended text d at q l hand done why f =
      let p : place_of why ≡ length s = rw f at (finish_at s (length s) room hand done) in
      record {
        before = text;
        from = [];
        cut = sym (append-nil text);
        there = omega (arith, p, length-drop at s, ap length q);
        is = [];
        says = d;
        to = map φ hand;
        unto = map (map φ) done;
        leaves = stay;
        here = the_end (sym (finish_map φ ψ (rows s (length s)) plain (same s room u (length s)) room hand done) ∙ ap (map_outcome φ ψ) f);
      }

  -- at a tag that is refused
  broken : (text gap from : List ℕ) (w : Why) → Without lt gap → text ≡ gap ++ lt ∷ from → Says text [] (fault w) → Says (lt ∷ from) [] (fault w)
      → (at : ℕ) → drop at s ≡ text → (hand : List Row) (done : List (List Row)) (why : Refusal) → read_run s room at (hand, done) ≡ refused why
      → (v : Refusal) → tag_at s at ≡ Err v → place_of v ≡ at + length gap → Found text at hand done why
  broken text gap from w c f d d' at q hand done why p v e l =
      let z : why ≡ v = refused_is why v (sym p ∙ turn s room at (hand, done) (Err v) e) in
      let y : ψ why ≡ w = refused_is {F = Field} (ψ why) w (sym (ap (map_outcome φ ψ) p) ∙ agree s room u d at q hand done) in
      record {
        before = gap;
        from = lt ∷ from;
        cut = f;
        there = sym l ∙ ap place_of (sym z);
        is = [];
        says = over c;
        to = map φ hand;
        unto = map (map φ) done;
        leaves = stay;
        here = a_tag from (rw y d');
      }

  -- at another tag: a limit is passed there, or further on, where the text goes on behind the tag and its value v
  module _ (text t rest : List ℕ) (T : Tagged text t rest) (at : ℕ) (hand : List Row) (done : List (List Row)) (why : Refusal) (v more : List ℕ) (f : rest ≡ v ++ more)
      (next : ℕ) (g : next ≡ at + length T.gap + 1 + length t + 1 + length v) (x : Item Row) (y : Item Field) (m : map_item φ ψ x ≡ y)
      (sayer : (b : List ℕ) (is : Items) → Says b is whole → Says (T.gap ++ lt ∷ (t ++ gt ∷ (v ++ b))) (y ∷ is) whole)
      (make : (w : Why) → act plain room (map φ hand) (map (map φ) done) y ≡ no w → Here room (map φ hand) (map (map φ) done) w (lt ∷ (t ++ gt ∷ rest)))
      (k : (h : List Row) (d : List (List Row)) → read_run s room next (h, d) ≡ refused why → Found more next h d why) where
    acted : (o : Turn Row Refusal) → act (rows s (at + length T.gap)) room hand done x ≡ o → act plain room (map φ hand) (map (map φ) done) y ≡ map_turn φ ψ o
    acted o e =
        let i : ℕ = at + length T.gap in
        ap (λ (z : Item Field). act plain room (map φ hand) (map (map φ) done) z) (sym m)
        ∙ sym (act_map φ ψ (rows s i) plain (same s room u i) room hand done x)
        ∙ ap (map_turn φ ψ) e

    at_tag : (o : Turn Row Refusal) → act (rows s (at + length T.gap)) room hand done x ≡ o → follow (read_run s room) (onto next o) ≡ refused why → Found text at hand done why
    at_tag (no w) e p =
        let z : w ≡ why = refused_is w why p in
        let l : place_of w ≡ at + length T.gap = rw e at (act_at s (at + length T.gap) room hand done x) in
        record {
          before = T.gap;
          from = lt ∷ (t ++ gt ∷ rest);
          cut = T.is;
          there = sym l ∙ ap place_of z;
          is = [];
          says = over T.comment;
          to = map φ hand;
          unto = map (map φ) done;
          leaves = stay;
          here = make (ψ why) (acted (no w) e ∙ ap (λ (r : Refusal). no (ψ r)) z);
        }
    at_tag (on h d) e p =
        let F : Found more next h d why = k h d p in
        let c : rest ≡ (v ++ F.before) ++ F.from = f ∙ ap (λ (l : List ℕ). v ++ l) F.cut ∙ sym (append_assoc v F.before F.from) in
        record {
          before = T.gap ++ lt ∷ (t ++ gt ∷ (v ++ F.before));
          from = F.from;
          cut = T.is ∙ ap (λ (l : List ℕ). T.gap ++ lt ∷ (t ++ gt ∷ l)) c ∙ further T.gap t (v ++ F.before) F.from;
          there =
              omega (arith, g, F.there, length-append T.gap (lt ∷ (t ++ gt ∷ (v ++ F.before))), length-append t (gt ∷ (v ++ F.before)), length-append v F.before);
          is = y ∷ F.is;
          says = sayer F.before F.is F.says;
          to = F.to;
          unto = F.unto;
          leaves = pass (acted (on h d) e) F.leaves;
          here = F.here;
        }

  no_limit : (done : List (List Field)) (w : Why) → on [] done ≡ no w → ⊥
  no_limit done w e = let z : ◌≡◌ {A = ℕ} 0 1 = cc in omega arith

  abbrev from_here : (at : ℕ) (text t rest : List ℕ) → drop at s ≡ text → Tagged text t rest → Tagged (drop at s) t rest
  from_here at text t rest q T = record { gap = T.gap; comment = T.comment; closed = T.closed; is = q ∙ T.is }

  locate : {text : List ℕ} {is : Items} {e : Ending Why} → Says text is e → (at : ℕ) → drop at s ≡ text → at ≤ length s
      → (hand : List Row) (done : List (List Row)) (why : Refusal) → read_run s room at (hand, done) ≡ refused why → Found text at hand done why
  unfolding by_kind
  locate (over {text = text} w) at q l hand done why p =
      ended text (over w) at q l hand done why (sym (turn s room at (hand, done) (Ok End) (TagSays.tag_none s at (rw q w))) ∙ p)
  locate (eof_tag {text = text} {t = t} {rest = rest} {n = n} T c k) at q l hand done why p =
      let U : Tagged (drop at s) t rest = from_here at text t rest q T in
      ended text (eof_tag T c k) at q l hand done why (sym (turn s room at (hand, done) _ (TagSays.by_name s at t rest U n EndOfFile c k)) ∙ p)
  locate (eoh_tag {text = text} {t = t} {rest = rest} {n = n} {is = is} {e = e} T c k r) at q l hand done why p =
      let U : Tagged (drop at s) t rest = from_here at text t rest q T in
      at_tag text t rest T at hand done why [] rest refl (TagSays.next s at t rest U) (omega arith) eoh eoh refl
      (λ b js d. eoh_tag (with_rest text t rest b T) c k d)
      (λ w x. absurd (no_limit (map (map φ) done) w x))
      (λ h d x. locate r (TagSays.next s at t rest U) (TagSays.drop_next s at t rest U) (TagSays.next_in s at t rest U) h d why x)
      (on [] done)
      refl
      (sym (turn s room at (hand, done) _ (TagSays.by_name s at t rest U n EndOfHeader c k)) ∙ p)
  locate (eor_tag {text = text} {t = t} {rest = rest} {n = n} {is = is} {e = e} T c k r) at q l hand done why p =
      let U : Tagged (drop at s) t rest = from_here at text t rest q T in
      at_tag text t rest T at hand done why [] rest refl (TagSays.next s at t rest U) (omega arith) eor eor refl
      (λ b js d. eor_tag (with_rest text t rest b T) c k d)
      (λ w x. an_eor (t ++ gt ∷ rest) is e (eor_tag (alone text t rest T) c k r) x)
      (λ h d x. locate r (TagSays.next s at t rest U) (TagSays.drop_next s at t rest U) (TagSays.next_in s at t rest U) h d why x)
      (act (rows s (at + length T.gap)) room hand done eor)
      refl
      (sym (turn s room at (hand, done) _ (TagSays.by_name s at t rest U n EndOfRecord c k)) ∙ p)
  locate (field_tag {text = text} {t = t} {n = n} {l = len} {rest = rest} v more {is = is} {e = e} T z k g f c r) at q l hand done why p =
      let U : Tagged (drop at s) t rest = from_here at text t rest q T in
      let row : Row = row_at s room u at t rest U v in
      at_tag text t rest T at hand done why v more f (TagSays.next s at t rest U + length v) (omega arith) (field row) (field (record { name = capitals (trimmed n); value = v }))
      (ap (λ (y : Field). field y) (row_is s room u at t rest U n len z k v more g f))
      (λ b js d. field_tag v b (with_rest text t rest (v ++ b) T) z k g refl c d)
      (λ w x. a_field (t ++ gt ∷ rest) (record { name = capitals (trimmed n); value = v }) is e (field_tag v more (alone text t rest T) z k g f c r) x)
      (λ h d x. locate r (TagSays.next s at t rest U + length v) (TagSays.drop_more s at t rest U n len z k v more g f) (TagSays.more_in s at t rest U n len z k v more g f) h d why x)
      (act (rows s (at + length T.gap)) room hand done (field row))
      refl
      (sym (turn s room at (hand, done) _ (TagSays.tag_field s at t rest U n len z k v more g f u c)) ∙ p)
  locate (unterminated {text = text} gap t w v f) at q l hand done why p =
      broken text gap t _ w f (unterminated gap t w v f) (unterminated [] t tt v refl) at q hand done why p _ (TagSays.tag_unterminated s at gap t w (q ∙ f) v) refl
  locate (missing {text = text} {t = t} {rest = rest} T w k) at q l hand done why p =
      let U : Tagged (drop at s) t rest = from_here at text t rest q T in
      broken text T.gap (t ++ gt ∷ rest) _ T.comment T.is (missing T w k) (missing (alone text t rest T) w k) at q hand done why p _ (TagSays.tag_missing s at t rest U w k) refl
  locate (bad {text = text} {t = t} {rest = rest} {n = n} {l = len} T z k g) at q l hand done why p =
      let U : Tagged (drop at s) t rest = from_here at text t rest q T in
      broken text T.gap (t ++ gt ∷ rest) _ T.comment T.is (bad T z k g) (bad (alone text t rest T) z k g) at q hand done why p _ (TagSays.tag_bad s at t rest U n len z k g) refl
  locate (truncated {text = text} {t = t} {rest = rest} {n = n} {l = len} {k = m} T z k g h) at q l hand done why p =
      let U : Tagged (drop at s) t rest = from_here at text t rest q T in
      broken text T.gap (t ++ gt ∷ rest) _ T.comment T.is (truncated T z k g h) (truncated (alone text t rest T) z k g h) at q hand done why p _ (TagSays.tag_truncated s at t rest U n len z k m g h) refl
  locate (torn {text = text} {t = t} {rest = rest} {n = n} {l = len} v more T z k g f c) at q l hand done why p =
      let U : Tagged (drop at s) t rest = from_here at text t rest q T in
      broken text T.gap (t ++ gt ∷ rest) _ T.comment T.is (torn v more T z k g f c) (torn v more (alone text t rest T) z k g f c) at q hand done why p _ (TagSays.tag_torn s at t rest U n len z k v more g f u c) refl

-- ---- the whole text: 1 and 2 come first
abbrev Early : Result ⊤ Refusal → Type 0
Early (Ok tt) = Unit {0}
Early (Err w) = number_of w ≤ 2

early_pick : (b : Bool) (x y : Result ⊤ Refusal) → Early x → Early y → Early (pick b x y)
early_pick true x y p q = p
early_pick false x y p q = q

early : (s : List ℕ) → Early (of_text s)
unfolding of_text
early s = early_pick (ltb 16777216 (length s)) _ _ (omega arith) (early_pick (ltb (valid_up_to s) (length s)) _ _ (omega arith) tt)

pub placed_where_met : PlacedWhereMet
unfolding read_text read_tags
placed_where_met s room why e h = by (of_text s) refl e
  where
    by : (v : Result ⊤ Refusal) → of_text s ≡ v → accepted v (read_tags s room) ≡ refused why → Met s room (told_by s why) (place_of why)
    by (Err w) p q =
        let z : w ≡ why = refused_is w why q in
        let first : number_of w ≤ 2 = rw p at (early s) in
        absurd (omega (arith, first, ap number_of z))
    by (Ok tt) p q =
        let (is, end, d) = says_something s in
        let F : Found s room (is_utf8 s p) s 0 [] [] why = locate s room (is_utf8 s p) d 0 refl (omega arith) [] [] why q in
        record { before = F.before; from = F.from; cut = F.cut; there = omega (arith, F.there); is = F.is; says = F.says; hand = F.to; done = F.unto; leaves = F.leaves; here = F.here }

-- ---- 8, 9 and 10 are of no refused tag
abbrev Late : Turn Field Why → Type 0
Late (on h d) = Unit {0}
Late (no w) = 8 ≤ w.number

late_pick : (b : Bool) (x y : Turn Field Why) → Late x → Late y → Late (pick b x y)
late_pick true x y p q = p
late_pick false x y p q = q

close_late : (room : ℕ) (hand : List Field) (done : List (List Field)) → Late (close plain room hand done)
close_late room [] done = tt
close_late room (h ∷ hs) done =
    late_pick (ltb (length done) 65535) (pick (leb (total done + length (h ∷ hs)) room) (on [] (done ++ ((h ∷ hs) ∷ []))) (no plain.few_rows)) (no plain.many_records)
    (late_pick (leb (total done + length (h ∷ hs)) room) (on [] (done ++ ((h ∷ hs) ∷ []))) (no plain.few_rows) tt (omega arith))
    (omega arith)

act_late : (room : ℕ) (hand : List Field) (done : List (List Field)) (x : Item Field) (w : Why) → act plain room hand done x ≡ no w → 8 ≤ w.number
act_late room hand done x w e = rw e at (any x)
  where
    any : (y : Item Field) → Late (act plain room hand done y)
    any eoh = tt
    any eor = close_late room hand done
    any (field f) =
        late_pick (leb (length (put (λ (g : Field). g.name) f hand)) 256) (on (put (λ (g : Field). g.name) f hand) done) (no plain.many_names) tt (omega arith)

finish_late : (room : ℕ) (hand : List Field) (done : List (List Field)) (w : Why) → finish plain room hand done ≡ refused w → 8 ≤ w.number
finish_late room hand [] w e = absurd (let z : ◌≡◌ {A = ℕ} 0 1 = cc in omega arith)
finish_late room hand (d ∷ ds) w e = by (close plain room hand (d ∷ ds)) (close_late room hand (d ∷ ds)) e
  where
    by : (o : Turn Field Why) → Late o → then o (λ _ done. records done) ≡ refused w → 8 ≤ w.number
    by (on h x) p q = absurd (let z : ◌≡◌ {A = ℕ} 0 1 = cc in omega arith)
    by (no v) p q = let z : v ≡ w = refused_is {F = Field} v w q in rw z at p

pub placed_at_the_tag : PlacedAtTheTag
placed_at_the_tag s room why e h l =
    let M : Met s room (told_by s why) (place_of why) = placed_where_met s room why e h in
    by M M.from M.cut M.here
  where
    by : (M : Met s room (told_by s why) (place_of why)) (from : List ℕ) → s ≡ M.before ++ from → Here room M.hand M.done (told_by s why) from
        → (is : Items) × (S : Split s is (told_by s why)) × (length S.before ≡ place_of why)
    by M _ c (a_tag from d) = (M.is, record { before = M.before; from = from; cut = c; says = M.says; refuses = d }, M.there)
    by M _ c (a_field from f js end d x) = absurd (omega (arith, act_late room M.hand M.done (field f) (told_by s why) x))
    by M _ c (an_eor from js end d x) = absurd (omega (arith, act_late room M.hand M.done eor (told_by s why) x))
    by M _ c (the_end x) = absurd (omega (arith, finish_late room M.hand M.done (told_by s why) x))

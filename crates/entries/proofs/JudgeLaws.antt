-- The code and the reason of a record, by what its places show: neither looks at the case of letters. Assumes nothing.
use mathlib.Core.Path.{◌≡◌, refl, sym, ap, ◌∙◌}
use mathlib.Core.Bool.{Bool, true, false, not}
use mathlib.Core.List.{List, []}
use Prim.Native.Nat.{ℕ}
use lib.ListN.{take, length-map}
use borrow.Author.Tests.{not-true}
use Rattle.text.specs.Pick.{both}
use Rattle.text.specs.Space.{space1, space2, space3, space80, space_len, space_back, width, trim_start, trim_end, trimmed, blank}
use Rattle.text.specs.Walk.{lead}
use Rattle.text.proofs.BoolLaws.{both_left, both_right}
use Rattle.letters.specs.Capitals.{raised, capitals}
use Rattle.letters.proofs.SpaceLaws.{trim_capitals, blank_capitals}
use Rattle.tables.specs.Table.{entry}
use Rattle.tables.specs.Bands.{bands, band_names}
use Rattle.tables.specs.Modes.{modes, mode_names}
use Rattle.tables.specs.Place.{place, part, or_empty, bytes, name_of}
use Rattle.tables.specs.declared.Name.{Name}
use Rattle.tables.specs.declared.Place.{Place}
use Rattle.tables.proofs.Tested.{all}
use Rattle.dedupe.specs.Views.{cased}
use Rattle.dedupe.proofs.PartLaws.{entry_all, by_part}
use Rattle.dedupe.proofs.ViewLaws.{view_at}
use Rattle.dedupe.proofs.MomentLaws.{all_raised}
use Rattle.contacts.specs.Contacts.{is_date, is_time}
use Rattle.index.specs.Rows.{code_of}
use Rattle.usable.specs.Reasons.{reason_by, reason_of}
use Rattle.entries.specs.Row.{file_code}
use Rattle.entries.specs.Walked.{shown_as, judged_as, judged_of}
use Rattle.entries.specs.declared.Judged.{Judged}

-- ---- what a place shows is what it stands for, but for the case of letters
module _ (text : List ℕ) (p : Place) where
  abbrev named : List ℕ
  named = shown_as text p (take (name_of p).len (name_of p).bytes)

  named_raised : capitals named ≡ capitals (bytes text p)
  unfolding cased
  named_raised = view_at false true text p.kind p.start p.len

  named_trimmed : capitals (trimmed named) ≡ capitals (trimmed (bytes text p))
  unfolding cased
  named_trimmed = view_at true true text p.kind p.start p.len

  named_blank : blank named ≡ blank (bytes text p)
  named_blank = sym (blank_capitals named) ∙ ap blank named_raised ∙ blank_capitals (bytes text p)

-- ---- digits have no case, and no entry is a date or a time
date_capitals : (xs : List ℕ) → is_date (trimmed (capitals xs)) ≡ is_date (trimmed xs)
unfolding is_date
date_capitals xs = rw (trim_capitals xs, length-map (trimmed xs) raised, all_raised (trimmed xs)) refl

time_capitals : (xs : List ℕ) → is_time (trimmed (capitals xs)) ≡ is_time (trimmed xs)
unfolding is_time
time_capitals xs = rw (trim_capitals xs, length-map (trimmed xs) raised, all_raised (trimmed xs)) refl

abbrev undated : List ℕ → Bool
undated x = both (not (is_date (trimmed x))) (not (is_time (trimmed x)))

undated_bands : all undated band_names ≡ true
unfolding band_names bands is_date is_time trimmed trim_start trim_end lead space_len space_back width space1 space2 space3 space80
undated_bands = refl

undated_modes : all undated mode_names ≡ true
unfolding mode_names modes is_date is_time trimmed trim_start trim_end lead space_len space_back width space1 space2 space3 space80
undated_modes = refl

undated_empty : undated [] ≡ true
unfolding is_date is_time trimmed trim_start trim_end lead
undated_empty = refl

no_date : (x : List ℕ) → undated x ≡ true → is_date (trimmed x) ≡ is_date (trimmed [])
no_date x e =
    not-true _ (both_left (not (is_date (trimmed x))) (not (is_time (trimmed x))) e)
    ∙ sym (not-true _ (both_left (not (is_date (trimmed []))) (not (is_time (trimmed []))) undated_empty))

no_time : (x : List ℕ) → undated x ≡ true → is_time (trimmed x) ≡ is_time (trimmed [])
no_time x e =
    not-true _ (both_right (not (is_date (trimmed x))) (not (is_time (trimmed x))) e)
    ∙ sym (not-true _ (both_right (not (is_date (trimmed []))) (not (is_time (trimmed []))) undated_empty))

module _ (text : List ℕ) where
  date_at_lem : (k a n : ℕ) → is_date (trimmed (bytes text (place k a n))) ≡ is_date (trimmed (part text (place k a n)))
  date_at_lem =
      by_part (λ (x : List ℕ). is_date (trimmed x)) date_capitals
      (λ a. no_date (or_empty (entry band_names a)) (entry_all undated undated_empty band_names undated_bands a))
      (λ a. no_date (or_empty (entry mode_names a)) (entry_all undated undated_empty mode_names undated_modes a))
      text

  time_at_lem : (k a n : ℕ) → is_time (trimmed (bytes text (place k a n))) ≡ is_time (trimmed (part text (place k a n)))
  time_at_lem =
      by_part (λ (x : List ℕ). is_time (trimmed x)) time_capitals
      (λ a. no_time (or_empty (entry band_names a)) (entry_all undated undated_empty band_names undated_bands a))
      (λ a. no_time (or_empty (entry mode_names a)) (entry_all undated undated_empty mode_names undated_modes a))
      text

  module _ (call mode band date time : Place) (inexact : Bool) where
    judged_same : judged_as (named text call) (named text mode) (named text band) (part text date) (part text time) inexact ≡ judged_of text call mode band date time inexact
    unfolding judged_of judged_as file_code code_of reason_of
    judged_same =
        rw (
          named_trimmed text call,
          named_trimmed text mode,
          named_trimmed text band,
          named_blank text call,
          named_blank text mode,
          date_at_lem date.kind date.start date.len,
          time_at_lem time.kind time.start time.len,
        )
        refl

    pub judged_is : (n m b : Name) (r : Judged) → n ≡ name_of call → m ≡ name_of mode → b ≡ name_of band
        → r ≡ judged_as (shown_as text call (take n.len n.bytes)) (shown_as text mode (take m.len m.bytes)) (shown_as text band (take b.len b.bytes)) (part text date) (part text time) inexact
        → r ≡ judged_of text call mode band date time inexact
    judged_is n m b r en em eb er =
        let e : r ≡ judged_as (named text call) (named text mode) (named text band) (part text date) (part text time) inexact = rw (en, em, eb) at er in
        e ∙ judged_same

-- ---- of the texts, one found after the other
pub judged_texts : (inexact : Bool) (call mode band date time c m b d t cs ms bs : List ℕ) (code reason : ℕ) (bare : Bool)
    → c ≡ call → m ≡ mode → b ≡ band → cs ≡ trimmed c → ms ≡ trimmed m → bs ≡ trimmed b → code ≡ code_of cs ms bs
    → d ≡ date → t ≡ time → bare ≡ blank m → reason ≡ reason_by (blank c) (is_date (trimmed d)) (is_time (trimmed t)) bare inexact
    → ◌≡◌ {A = Judged} (record { code = code; reason = reason }) (judged_as call mode band date time inexact)
unfolding judged_as file_code reason_of
judged_texts inexact call mode band date time c m b d t cs ms bs code reason bare ec em eb es en ez eo ed et ea er =
    rw (eo, er, es, en, ez, ea, ec, em, eb, ed, et) refl

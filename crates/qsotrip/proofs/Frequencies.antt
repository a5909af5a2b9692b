-- A contact whose frequencies are at most 10 ^ 12 Hz keeps them, however often it is written, read and mapped. Assumes nothing.
use Rattle.std.specs.Prelude.{Option, None, Some}
use mathlib.Core.Path.{◌≡◌, refl, sym, ap, ◌∙◌}
use Prim.Native.Nat.{ℕ}
use Rattle.model.specs.Contact.{Contact, contact}
use Rattle.model.specs.declared.Qso.{Qso}
use Rattle.mapping.specs.Mapping.{extra_rows}
use Rattle.qsowriter.specs.Writing.{contact_with}
use Rattle.qsotrip.specs.Rewritten.{read_back, Survives}
use Rattle.qsotrip.specs.Theorems.{Sent, sent_contact, rows_there, Arrived, arrived_contact, Trip, stayed, went_on, Low, Tuned, Arrives, FrequenciesLast}
use Rattle.qsotrip.proofs.Lasting.{hertz_survives, frequency_back}
use Rattle.qsotrip.proofs.Rows.{said_by, qso_of, mapped_is}
use Rattle.qsotrip.proofs.Trip.{rows_read, rows_mean, round_tuned}

survives : (f : Option ℕ) → Low f → Survives f
survives None l = tt
survives (Some hz) l = hertz_survives hz l

pub arrives : Arrives
arrives s l = record {
  qso = qso_of s.file (rows_there s);
  taken = round_tuned s.text s.qso s.extra s.count s.taken s.no_column s.front s.fits s.file s.holds s.few s.table s.room
      (survives (sent_contact s).freq l.0) (survives (sent_contact s).freq_rx l.1);
}

-- what arrives is the contact as it is read back
come : (s : Sent) (a : Arrived s) → arrived_contact s a ≡ read_back (sent_contact s)
unfolding contact_with
come s a =
    ap (λ (q : Qso). contact s.file q (said_by s.file (extra_rows s.file (rows_there s)))) (sym (mapped_is s.file (rows_there s) a.qso a.taken))
    ∙ rows_mean s.text s.qso s.extra s.count s.taken s.no_column s.file (rows_there s)
    (rows_read s.text s.qso s.extra s.count s.taken s.no_column s.front s.fits s.file s.holds s.few s.table s.room)

kept : (c : Contact) → Tuned c → ((read_back c).freq ≡ c.freq) × ((read_back c).freq_rx ≡ c.freq_rx)
unfolding read_back
kept c l = (frequency_back c.freq (survives c.freq l.0), frequency_back c.freq_rx (survives c.freq_rx l.1))

once : (before after : Contact) → Tuned before → Trip before after → (after.freq ≡ before.freq) × (after.freq_rx ≡ before.freq_rx)
once before after l t =
    let e : after ≡ read_back before = sym t.to ∙ come t.sent t.arrived ∙ ap read_back t.from in
    rw e (kept before l)

pub frequencies_last : FrequenciesLast
frequencies_last before after l (stayed c) = (refl, refl)
frequencies_last before after l (went_on a b c ts t) =
    let i = frequencies_last before b l ts in
    let j = once b after (rw (i.0, i.1) l) t in
    (j.0 ∙ i.0, j.1 ∙ i.1)

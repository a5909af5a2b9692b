-- The texts in the parts in which they are put. Assumes nothing.
use mathlib.Core.Path.{◌≡◌, refl}
use mathlib.Core.Bool.{Bool, true, false}
use mathlib.Core.List.{List, [], ◌∷◌, ◌++◌, append_assoc, append-nil}
use Prim.Native.Nat.{ℕ}
use Rattle.text.specs.Pick.{pick}
use Rattle.text.specs.Space.{blank, trimmed}
use Rattle.adif.specs.Grammar.{Field}
use Rattle.fields.specs.Written.{field_text, fields_text}
use Rattle.fields.specs.Parts.{field_as}
use Rattle.output.specs.Put.{Put, Room}
use Rattle.output.proofs.PutLaws.{put_none, room_first, room_second, room_third, put_three}
use Rattle.station.specs.Station.{my_county, my_cq_zone, my_gridsquare, my_itu_zone, my_name, my_state, operator, station_callsign, given, station_text, filled}

-- ---- a station's fields
given_text : (name v : List ℕ) (rest : List Field) → fields_text (given name v rest) ≡ filled name v ++ fields_text rest
unfolding filled
given_text name v rest = by (blank v)
  where
    by : (t : Bool) → fields_text (pick t rest (field_as name (trimmed v) ∷ rest)) ≡ pick t [] (field_text (field_as name (trimmed v))) ++ fields_text rest
    by true = refl
    by false = refl

module _ (call grid name state county cq itu : List ℕ) where
  abbrev pub place_text : List ℕ
  place_text = filled my_county county ++ (filled my_cq_zone cq ++ filled my_gridsquare grid)

  abbrev pub region_text : List ℕ
  region_text = filled my_itu_zone itu ++ (filled my_name name ++ filled my_state state)

  abbrev pub call_text : List ℕ
  call_text = filled operator call ++ filled station_callsign call

  pub station_text_lem : station_text call grid name state county cq itu ≡ place_text ++ (region_text ++ call_text)
  unfolding station_text
  station_text_lem = simp (given_text, append_assoc, append-nil) refl

  module _ (was : List ℕ) (h : Room was 0 (station_text call grid name state county cq itu)) where
    whole : Room was 0 (place_text ++ (region_text ++ call_text))
    whole = rw station_text_lem at h

    pub station_first : Room was 0 place_text
    station_first = room_first was 0 place_text (region_text ++ call_text) whole

    module _ (q : ℕ) (mid : List ℕ) (p : Put q was mid 0 place_text) where
      pub station_second : Room mid q region_text
      station_second = room_second was 0 place_text region_text call_text whole q mid p

      pub station_third : (q' : ℕ) (mid' : List ℕ) → Put q' mid mid' q region_text → Room mid' q' call_text
      station_third = room_third was 0 place_text region_text call_text whole q mid p

  pub station_put : (was : List ℕ) (q : ℕ) (mid : List ℕ) (q' : ℕ) (mid' : List ℕ) (r : ℕ) (now : List ℕ) → Put q was mid 0 place_text → Put q' mid mid' q region_text → Put r mid' now q' call_text
      → Put r was now 0 (station_text call grid name state county cq itu)
  station_put was q mid q' mid' r now x y z = rw station_text_lem (put_three was 0 place_text region_text call_text q mid q' mid' r now x y z)

-- ---- one of them
module _ (name value : List ℕ) (b : Bool) (e : b ≡ blank value) (was : List ℕ) (at : ℕ) where
  pub blank_put : b ≡ true → Put at was was at (filled name value)
  unfolding filled
  blank_put t = rw (← e, t) (put_none was at)

  module _ (t : b ≡ false) (v : List ℕ) (q : v ≡ trimmed value) where
    filled_is : filled name value ≡ field_text (field_as name v)
    unfolding filled
    filled_is = rw (← e, t, ← q) refl

    pub given_room : Room was at (filled name value) → Room was at (field_text (field_as name v))
    given_room h = rw filled_is at h

    pub given_put : (r : ℕ) (now : List ℕ) → Put r was now at (field_text (field_as name v)) → Put r was now at (filled name value)
    given_put r now p = rw filled_is p

-- The bytes of a cell and its field: measured, and put. Assumes nothing.
use Rattle.std.specs.Prelude.{None, Some}
use mathlib.Core.Path.{◌≡◌, refl, sym, ap, ◌∙◌}
use mathlib.Core.Bool.{Bool, true, false}
use mathlib.Core.List.{List, [], ◌∷◌, ◌++◌, append_assoc}
use Prim.Native.Nat.{ℕ, ◌+◌, ◌/◌, ◌≤◌}
use native.Mathlib.Omega.{arith}
use lib.Dec.{eqb, ltb}
use lib.ListN.{length, take, length-map}
use borrow.Author.Tests.{eq-eqb, ne_eqb}
use Rattle.text.specs.Pick.{pick, both}
use Rattle.letters.specs.Capitals.{raised, capitals}
use Rattle.decimal.specs.Digits.{decimal}
use Rattle.output.specs.Put.{Put, Room}
use Rattle.output.proofs.PutLaws.{put_none, put_then, room_first, room_next, room_second, room_third, put_three}
use Rattle.output.proofs.DigitLaws.{decimal_few}
use Rattle.mhz.specs.Writing.{mhz_text}
use Rattle.mhz.proofs.WriteLaws.{size_is}
use Rattle.fields.specs.Written.{field_text}
use Rattle.fields.specs.Parts.{field_as, open_text, length_text}
use Rattle.fields.proofs.FieldLaws.{field_parts, field_size}
use Rattle.tables.specs.Table.{entry}
use Rattle.tables.specs.Bands.{band_names}
use Rattle.tables.specs.Modes.{mode_names}
use Rattle.tables.specs.Place.{part, value, bytes, or_empty, spelled, no_name, name_of}
use Rattle.tables.specs.declared.Name.{Name}
use Rattle.tables.specs.declared.Place.{Place}
use Rattle.tables.proofs.PlaceLaws.{part_length}
use Rattle.tables.proofs.EntryLaws.{spelled_out}
use Rattle.cells.specs.Cells.{number_text, cell_text}
use Rattle.cells.specs.declared.Cell.{Cell}
use Rattle.cells.specs.declared.Cell.TheVariants.{Dropped, Words, Megahertz, Number}
use Rattle.cellfields.specs.Fields.{name_at, column_name, tag_text, cell_field}
use Rattle.cellfields.proofs.NameLaws.{band_short, mode_short, column_capital, column_front}

-- ---- a signed number
module _ (negative : Bool) (n : ℕ) (t : Bool) (e : t ≡ both negative (ltb 0 n)) where
  minus_text : t ≡ true → number_text negative n ≡ (0x2D ∷ []) ++ decimal n
  minus_text h = rw (← e, h) refl

  plain_text : t ≡ false → number_text negative n ≡ decimal n
  plain_text h = rw (← e, h) refl

  pub minus_size : (d : ℕ) → d ≡ length (decimal n) → t ≡ true → d + 1 ≡ length (number_text negative n)
  minus_size d ed h = rw (minus_text h) (omega (arith, ed))

  pub plain_size : (d : ℕ) → d ≡ length (decimal n) → t ≡ false → d ≡ length (number_text negative n)
  plain_size d ed h = rw (plain_text h) ed

  module _ (was : List ℕ) (at : ℕ) where
    pub minus_room : Room was at (number_text negative n) → t ≡ true → Room was at (0x2D ∷ [])
    minus_room r h = room_first was at (0x2D ∷ []) (decimal n) (rw (minus_text h) at r)

    pub digits_room : Room was at (number_text negative n) → t ≡ true → (q : ℕ) (mid : List ℕ) → Put q was mid at (0x2D ∷ []) → Room mid q (decimal n)
    digits_room r h q mid p = room_next was at (0x2D ∷ []) (decimal n) (rw (minus_text h) at r) q mid p

    pub minus_put : t ≡ true → (q : ℕ) (mid : List ℕ) → Put q was mid at (0x2D ∷ []) → (r : ℕ) (now : List ℕ) → Put r mid now q (decimal n) → Put r was now at (number_text negative n)
    minus_put h q mid p r now s = rw (minus_text h) (put_then r q was mid now at (0x2D ∷ []) (decimal n) p s)

    pub plain_room : Room was at (number_text negative n) → t ≡ false → Room was at (decimal n)
    plain_room r h = rw (plain_text h) at r

    pub plain_put : t ≡ false → (r : ℕ) (now : List ℕ) → Put r was now at (decimal n) → Put r was now at (number_text negative n)
    plain_put h r now s = rw (plain_text h) s

-- ---- the bytes of a place
module _ (text : List ℕ) (p : Place) where
  stand_text : p.kind ≡ 1 → bytes text p ≡ part text p
  unfolding value
  stand_text h = rw (eq-eqb p.kind 1 h) refl

  raised_text : (p.kind ≡ 1 → ⊥) → p.kind ≡ 2 → bytes text p ≡ capitals (part text p)
  unfolding value
  raised_text n h = rw (ne_eqb p.kind 1 n, eq-eqb p.kind 2 h) refl

  entry_text_lem : (p.kind ≡ 1 → ⊥) → (p.kind ≡ 2 → ⊥) → (n : Name) → n ≡ name_of p → (n.len ≤ 12) × (take n.len n.bytes ≡ bytes text p)
  unfolding value name_of
  entry_text_lem a b n e =
      rw (e, ne_eqb p.kind 1 a, ne_eqb p.kind 2 b) (by (eqb p.kind 3) (eqb p.kind 4))
    where
      by : (c d : Bool) → ((pick c (spelled (or_empty (entry band_names p.start))) (pick d (spelled (or_empty (entry mode_names p.start))) no_name)).len ≤ 12)
          × (take (pick c (spelled (or_empty (entry band_names p.start))) (pick d (spelled (or_empty (entry mode_names p.start))) no_name)).len (pick c (spelled (or_empty (entry band_names p.start))) (pick d (spelled (or_empty (entry mode_names p.start))) no_name)).bytes
          ≡ or_empty (pick c (entry band_names p.start) (pick d (entry mode_names p.start) None)))
      by true d = (band_short p.start, spelled_out _ (band_short p.start))
      by false true = (mode_short p.start, spelled_out _ (mode_short p.start))
      by false false = (omega arith, refl)

  module _ (was : List ℕ) (at : ℕ) where
    module _ (h : p.kind ≡ 1) (s : List ℕ) (es : s ≡ part text p) where
      pub stand_room : Room was at (bytes text p) → Room was at s
      stand_room r = rw (es, ← stand_text h) r

      pub stand_put : (r : ℕ) (now : List ℕ) → Put r was now at s → Put r was now at (bytes text p)
      stand_put r now q = rw (stand_text h, ← es) q

    module _ (n : p.kind ≡ 1 → ⊥) where
      module _ (h : p.kind ≡ 2) (s : List ℕ) (es : s ≡ part text p) where
        pub raised_room : Room was at (bytes text p) → Room was at (capitals s)
        raised_room r = rw (es, ← raised_text n h) r

        pub raised_put : (r : ℕ) (now : List ℕ) → Put r was now at (capitals s) → Put r was now at (bytes text p)
        raised_put r now q = rw (raised_text n h, ← es) q

      module _ (m : p.kind ≡ 2 → ⊥) (name : Name) (e : name ≡ name_of p) where
        pub entry_fits : name.len ≤ 12
        entry_fits = (entry_text_lem n m name e).0

        pub entry_room : Room was at (bytes text p) → Room was at (take name.len name.bytes)
        entry_room r = rw (entry_text_lem n m name e).1 r

        pub entry_put : (r : ℕ) (now : List ℕ) → Put r was now at (take name.len name.bytes) → Put r was now at (bytes text p)
        entry_put r now q = rw (← (entry_text_lem n m name e).1) q

  -- no place stands for more bytes than a text may have
  words_few : length text ≤ 16777216 → length (bytes text p) ≤ 16777216
  unfolding value
  words_few h = by (eqb p.kind 1) (eqb p.kind 2) (eqb p.kind 3) (eqb p.kind 4)
    where
      by : (a b c d : Bool) → length (or_empty (pick a (Some (part text p)) (pick b (Some (capitals (part text p))) (pick c (entry band_names p.start) (pick d (entry mode_names p.start) None))))) ≤ 16777216
      by true b c d = omega (arith, part_length text p)
      by false true c d = omega (arith, part_length text p, length-map (part text p) raised)
      by false false true d = omega (arith, band_short p.start)
      by false false false true = omega (arith, mode_short p.start)
      by false false false false = omega arith

-- ---- the bytes of a cell
mhz_few : (hz : ℕ) → length (mhz_text hz) ≤ 27
mhz_few hz = omega (arith, size_is hz _ refl, decimal_few (hz / 1000000))

pub words_bound : (text : List ℕ) (p : Place) (r : ℕ) → length text ≤ 16777216 → r ≡ length (bytes text p) → r ≤ 16777216
words_bound text p r h e = rw e (words_few text p h)

pub mhz_bound : (hz r : ℕ) → r ≡ length (mhz_text hz) → r ≤ 16777216
mhz_bound hz r e = omega (arith, e, mhz_few hz)

module _ (text : List ℕ) (cell : Cell) where
  pub size_dropped : cell ≡ Dropped → 0 ≡ length (cell_text text cell)
  size_dropped e = rw e refl

  pub size_words : (p : Place) → cell ≡ Words p → (r : ℕ) → r ≡ length (bytes text p) → r ≡ length (cell_text text cell)
  size_words p e r h = rw e h

  pub size_megahertz : (hz : ℕ) → cell ≡ Megahertz hz → (r : ℕ) → r ≡ length (mhz_text hz) → r ≡ length (cell_text text cell)
  size_megahertz hz e r h = rw e h

  pub size_number : (negative : Bool) (n : ℕ) → cell ≡ Number negative n → (r : ℕ) → r ≡ length (number_text negative n) → r ≡ length (cell_text text cell)
  size_number negative n e r h = rw e h

  module _ (was : List ℕ) (at : ℕ) where
    pub put_dropped : cell ≡ Dropped → Put at was was at (cell_text text cell)
    put_dropped e = rw e (put_none was at)

    module _ (p : Place) (e : cell ≡ Words p) where
      pub room_words : Room was at (cell_text text cell) → Room was at (bytes text p)
      room_words r = rw e at r

      pub put_words : (r : ℕ) (now : List ℕ) → Put r was now at (bytes text p) → Put r was now at (cell_text text cell)
      put_words r now q = rw e q

    module _ (hz : ℕ) (e : cell ≡ Megahertz hz) where
      pub room_megahertz : Room was at (cell_text text cell) → Room was at (mhz_text hz)
      room_megahertz r = rw e at r

      pub put_megahertz : (r : ℕ) (now : List ℕ) → Put r was now at (mhz_text hz) → Put r was now at (cell_text text cell)
      put_megahertz r now q = rw e q

    module _ (negative : Bool) (n : ℕ) (e : cell ≡ Number negative n) where
      pub room_number : Room was at (cell_text text cell) → Room was at (number_text negative n)
      room_number r = rw e at r

      pub put_number : (r : ℕ) (now : List ℕ) → Put r was now at (number_text negative n) → Put r was now at (cell_text text cell)
      put_number r now q = rw e q

-- ---- a tag
module _ (k size : ℕ) (n : Name) (e : n ≡ column_name k) (was : List ℕ) (at : ℕ) where
  open_is : open_text (take n.len n.bytes) ≡ open_text (name_at k)
  open_is = rw (column_front k n e).1 refl

  pub tag_fits : n.len ≤ 12
  tag_fits = (column_front k n e).0

  module _ (h : Room was at (tag_text k size)) where
    pub tag_open : Room was at (open_text (take n.len n.bytes))
    unfolding tag_text
    tag_open = rw open_is (room_first was at (open_text (name_at k)) (length_text size) h)

    pub tag_length : (q : ℕ) (mid : List ℕ) → Put q was mid at (open_text (take n.len n.bytes)) → Room mid q (length_text size)
    unfolding tag_text
    tag_length q mid p = room_next was at (open_text (name_at k)) (length_text size) h q mid (rw open_is at p)

  pub tag_put : (q : ℕ) (mid : List ℕ) → Put q was mid at (open_text (take n.len n.bytes)) → (r : ℕ) (now : List ℕ) → Put r mid now q (length_text size) → Put r was now at (tag_text k size)
  unfolding tag_text
  tag_put q mid p r now s = put_then r q was mid now at (open_text (name_at k)) (length_text size) (rw open_is at p) s

-- ---- a field
module _ (text : List ℕ) (k : ℕ) (cell : Cell) where
  field_is : cell_field text k cell ≡ field_text (field_as (name_at k) (cell_text text cell))
  unfolding cell_field
  field_is = rw (column_capital k) refl

  parts : cell_field text k cell ≡ tag_text k (length (cell_text text cell)) ++ (cell_text text cell ++ (0x20 ∷ []))
  unfolding tag_text
  parts = field_is ∙ field_parts (name_at k) (cell_text text cell) ∙ sym (append_assoc (open_text (name_at k)) (length_text (length (cell_text text cell))) (cell_text text cell ++ (0x20 ∷ [])))

  module _ (size : ℕ) (es : size ≡ length (cell_text text cell)) where
    cut : cell_field text k cell ≡ tag_text k size ++ (cell_text text cell ++ (0x20 ∷ []))
    cut = rw es parts

    module _ (was : List ℕ) (at : ℕ) (h : Room was at (cell_field text k cell)) where
      whole : Room was at (tag_text k size ++ (cell_text text cell ++ (0x20 ∷ [])))
      whole = rw cut at h

      pub field_tag : Room was at (tag_text k size)
      field_tag = room_first was at (tag_text k size) (cell_text text cell ++ (0x20 ∷ [])) whole

      module _ (q : ℕ) (mid : List ℕ) (p : Put q was mid at (tag_text k size)) where
        pub field_cell : Room mid q (cell_text text cell)
        field_cell = room_second was at (tag_text k size) (cell_text text cell) (0x20 ∷ []) whole q mid p

        pub field_space : (q' : ℕ) (mid' : List ℕ) → Put q' mid mid' q (cell_text text cell) → Room mid' q' (0x20 ∷ [])
        field_space = room_third was at (tag_text k size) (cell_text text cell) (0x20 ∷ []) whole q mid p

    pub field_put : (was : List ℕ) (at q : ℕ) (mid : List ℕ) (q' : ℕ) (mid' : List ℕ) (r : ℕ) (now : List ℕ)
        → Put q was mid at (tag_text k size) → Put q' mid mid' q (cell_text text cell) → Put r mid' now q' (0x20 ∷ []) → Put r was now at (cell_field text k cell)
    field_put was at q mid q' mid' r now x y z =
        rw cut (put_three was at (tag_text k size) (cell_text text cell) (0x20 ∷ []) q mid q' mid' r now x y z)

    pub field_long : (n : Name) → n ≡ column_name k → (d : ℕ) → d ≡ length (decimal size) → n.len + size + d + 4 ≡ length (cell_field text k cell)
    unfolding column_name
    field_long n en d ed =
        rw (field_is, en, es) (field_size (name_at k) (cell_text text cell) d (ed ∙ ap (λ (m : ℕ). length (decimal m)) es))

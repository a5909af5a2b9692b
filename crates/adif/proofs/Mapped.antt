-- Records of rows and records of the fields that the rows stand for: what is made of the one is made of the other. φ takes a field to
-- the field that it stands for, ψ a refusal to what it tells. Assumes nothing.
use Rattle.std.specs.declared.cmp.Ordering.{Ordering}
use Rattle.std.specs.declared.cmp.Ordering.TheVariants.{Less, Equal, Greater}
use mathlib.Core.Path.{◌≡◌, refl, ap, ◌∙◌}
use mathlib.Core.Bool.{Bool, true, false}
use mathlib.Core.List.{List, [], ◌∷◌, map, map-append}
use Prim.Native.Nat.{ℕ}
use lib.ListN.{length-map}
use Rattle.text.specs.Pick.{pick}
use Rattle.letters.specs.Order.{order}
use Rattle.adif.specs.Records.{Fields, Item, eoh, eor, field, Outcome, records, refused, Turn, on, no, then, total, close, finish, placed, put, act}

pub total_map : {F G : Type 0} (f : F → G) (rs : List (List F)) → total (map (map f) rs) ≡ total rs
total_map f [] = refl
total_map f (r ∷ rs) = rw (length-map r f, total_map f rs) refl

module _ {F G W X : Type 0} (φ : F → G) (ψ : W → X) where
  abbrev pub map_turn : Turn F W → Turn G X
  map_turn (on h d) = on (map φ h) (map (map φ) d)
  map_turn (no w) = no (ψ w)

  abbrev pub map_outcome : Outcome F W → Outcome G X
  map_outcome (records rs) = records (map (map φ) rs)
  map_outcome (refused w) = refused (ψ w)

  turn_pick : (t : Bool) (a b : Turn F W) → map_turn (pick t a b) ≡ pick t (map_turn a) (map_turn b)
  turn_pick true a b = refl
  turn_pick false a b = refl

  pub then_map : (o : Turn F W) (k : List F → List (List F) → Outcome F W) (k' : List G → List (List G) → Outcome G X)
      → ((h : List F) (d : List (List F)) → map_outcome (k h d) ≡ k' (map φ h) (map (map φ) d))
      → map_outcome (then o k) ≡ then (map_turn o) k'
  then_map (on h d) k k' e = e h d
  then_map (no w) k k' e = refl

  placed_map : (o : Ordering) (f x : F) (xs rest : List F) → map φ (placed o f x xs rest) ≡ placed o (φ f) (φ x) (map φ xs) (map φ rest)
  placed_map Less f x xs rest = refl
  placed_map Equal f x xs rest = refl
  placed_map Greater f x xs rest = refl

  abbrev pub map_item : Item F → Item G
  map_item eoh = eoh
  map_item eor = eor
  map_item (field f) = field (φ f)

  -- the two agree in names and in what the limits tell
  pub record Same (K : Fields F W) (L : Fields G X) : Type 0 where
    pub names : (f : F) → L.name (φ f) ≡ K.name f
    pub eight : ψ K.many_names ≡ L.many_names
    pub nine : ψ K.many_records ≡ L.many_records
    pub ten : ψ K.few_rows ≡ L.few_rows

  module _ (K : Fields F W) (L : Fields G X) (S : Same K L) where
    put_map : (f : F) (xs : List F) → map φ (put K.name f xs) ≡ put L.name (φ f) (map φ xs)
    put_map f [] = refl
    put_map f (x ∷ xs) = placed_map (order (K.name f) (K.name x)) f x xs (put K.name f xs) ∙ rw (put_map f xs, S.names f, S.names x)

    pub close_map : (room : ℕ) (hand : List F) (done : List (List F)) → map_turn (close K room hand done) ≡ close L room (map φ hand) (map (map φ) done)
    close_map room [] done = refl
    close_map room (h ∷ hs) done =
        simp (turn_pick, map-append (map φ) done ((h ∷ hs) ∷ []), length-map done (map φ), length-map hs φ, total_map φ done, S.nine, S.ten)

    pub finish_map : (room : ℕ) (hand : List F) (done : List (List F)) → map_outcome (finish K room hand done) ≡ finish L room (map φ hand) (map (map φ) done)
    finish_map room hand [] = refl
    finish_map room hand (d ∷ ds) =
        then_map (close K room hand (d ∷ ds)) (λ _ x. records x) (λ _ x. records x) (λ h x. refl) ∙ ap (λ (o : Turn G X). then o (λ _ x. records x)) (close_map room hand (d ∷ ds))

    pub act_map : (room : ℕ) (hand : List F) (done : List (List F)) (i : Item F)
        → map_turn (act K room hand done i) ≡ act L room (map φ hand) (map (map φ) done) (map_item i)
    act_map room hand done eoh = refl
    act_map room hand done eor = close_map room hand done
    act_map room hand done (field f) =
        simp (turn_pick, ← length-map (put K.name f hand) φ, put_map f hand, S.eight)

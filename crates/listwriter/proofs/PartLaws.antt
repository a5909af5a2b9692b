-- The parts of an entry put one behind the other. Assumes nothing.
use mathlib.Core.Path.{◌≡◌, refl, sym, ap, ◌∙◌}
use mathlib.Core.List.{List, [], ◌∷◌, ◌++◌, append_assoc}
use Prim.Native.Nat.{ℕ, zero, suc, ◌+◌, ◌-◌, ◌/◌, ◌%◌, ◌≤◌, ◌<◌}
use native.Mathlib.Omega.{arith}
use lib.ListN.{length, take, drop, length-append}
use lib.Seq.{take_all}
use Rattle.std.specs.Int.{byte_at, bytes_high_first}
use Rattle.output.specs.Put.{Put, Room}
use Rattle.output.proofs.PutLaws.{put_then, room_first, room_next, room_second, room_third, put_three}
use Rattle.contacts.specs.Contacts.{contact, bytes_of, counted, body_text, entry_text}
use Rattle.listwriter.specs.Parts.{pair_text, texts_text, head_text, body_size}
use Rattle.listwriter.proofs.ReadBack.{bytes_length, body_length}

-- ---- a number: the lowest k of its eight bytes
byte_step : (k n : ℕ) → k < 7 → byte_at (suc k) n ≡ byte_at k (n / 256)
byte_step zero n h = refl
byte_step (suc zero) n h = omega arith
byte_step (suc (suc zero)) n h = omega arith
byte_step (suc (suc (suc zero))) n h = omega arith
byte_step (suc (suc (suc (suc zero)))) n h = omega arith
byte_step (suc (suc (suc (suc (suc zero))))) n h = omega arith
byte_step (suc (suc (suc (suc (suc (suc zero)))))) n h = omega arith
byte_step (suc (suc (suc (suc (suc (suc (suc k))))))) n h = absurd (omega arith)

high_more : (k n : ℕ) → k < 8 → bytes_high_first (suc k) n ≡ bytes_high_first k (n / 256) ++ (n % 256 ∷ [])
high_more zero n h = refl
high_more (suc k) n h = rw (high_more k n (omega arith), byte_step k n (omega arith)) refl

high_is : (k n : ℕ) → k ≤ 8 → bytes_high_first k n ≡ bytes_of k n
unfolding bytes_of
high_is zero n h = refl
high_is (suc k) n h = high_more k n (omega arith) ∙ ap (λ (r : List ℕ). r ++ (n % 256 ∷ [])) (high_is k (n / 256) (omega arith))

low_bytes : (d m k n : ℕ) → m ≡ k + d → drop d (bytes_high_first m n) ≡ bytes_high_first k n
low_bytes zero m k n e = let z : m ≡ k = omega arith in rw z refl
low_bytes (suc d) zero k n e = absurd (omega arith)
low_bytes (suc d) (suc m) k n e = low_bytes d m k n (omega arith)

number_bytes : (k n : ℕ) → k ≤ 8 → take (8 - (8 - k)) (drop (8 - k) (bytes_high_first 8 n)) ≡ bytes_of k n
number_bytes k n h =
    let e : drop (8 - k) (bytes_high_first 8 n) ≡ bytes_of k n = low_bytes (8 - k) 8 k n (omega arith) ∙ high_is k n h in
    rw e (take_all (8 - (8 - k)) (bytes_of k n) (omega (arith, bytes_length k n)))

module _ (was : List ℕ) (at k n : ℕ) (h : k ≤ 8) (bs : List ℕ) (e : bs ≡ bytes_high_first 8 n) where
  pub number_room : Room was at (bytes_of k n) → Room was at (take (8 - (8 - k)) (drop (8 - k) bs))
  number_room r = rw (e, number_bytes k n h) r

  pub number_put : (q : ℕ) (now : List ℕ) → Put q was now at (take (8 - (8 - k)) (drop (8 - k) bs)) → Put q was now at (bytes_of k n)
  number_put q now p = rw (e, number_bytes k n h) at p

-- ---- the texts
module _ (call date time band mode : List ℕ) where
  abbrev Texts : List ℕ
  Texts = texts_text call date time band mode

  pub texts_first : (was : List ℕ) (at : ℕ) → Room was at Texts → Room was at (counted call)
  unfolding texts_text
  texts_first was at h = room_first was at (counted call) (pair_text date time ++ pair_text band mode) h

  pub texts_second : (was : List ℕ) (at : ℕ) → Room was at Texts → (q : ℕ) (mid : List ℕ) → Put q was mid at (counted call) → Room mid q (pair_text date time)
  unfolding texts_text
  texts_second was at h q mid p = room_second was at (counted call) (pair_text date time) (pair_text band mode) h q mid p

  pub texts_third : (was : List ℕ) (at : ℕ) → Room was at Texts → (q : ℕ) (mid : List ℕ) → Put q was mid at (counted call) → (q' : ℕ) (mid' : List ℕ) → Put q' mid mid' q (pair_text date time) → Room mid' q' (pair_text band mode)
  unfolding texts_text
  texts_third was at h q mid p q' mid' p' = room_third was at (counted call) (pair_text date time) (pair_text band mode) h q mid p q' mid' p'

  pub texts_put : (was : List ℕ) (at q : ℕ) (mid : List ℕ) (q' : ℕ) (mid' : List ℕ) (r : ℕ) (now : List ℕ) → Put q was mid at (counted call) → Put q' mid mid' q (pair_text date time) → Put r mid' now q' (pair_text band mode) → Put r was now at Texts
  unfolding texts_text
  texts_put was at q mid q' mid' r now x y z = put_three was at (counted call) (pair_text date time) (pair_text band mode) q mid q' mid' r now x y z

  -- ---- an entry
  module _ (id services : ℕ) where
    abbrev Entry : List ℕ
    Entry = entry_text (contact id services call date time band mode)

    entry_parts : (size : ℕ) → size ≡ body_size call date time band mode → Entry ≡ head_text size id services ++ Texts
    unfolding entry_text body_text texts_text
    entry_parts size e =
        let z : length (body_text (contact id services call date time band mode)) ≡ size = body_length id services call date time band mode ∙ sym e in
        rw z (simp append_assoc)

    pub entry_length : length Entry ≡ 2 + body_size call date time band mode
    unfolding entry_text
    entry_length =
        length-append (bytes_of 2 (length (body_text (contact id services call date time band mode)))) (body_text (contact id services call date time band mode))
        ∙ omega (arith, bytes_length 2 (length (body_text (contact id services call date time band mode))), body_length id services call date time band mode)

    module _ (was : List ℕ) (at size : ℕ) (e : size ≡ body_size call date time band mode) where
      pub entry_first : Room was at Entry → Room was at (head_text size id services)
      entry_first h = room_first was at (head_text size id services) Texts (rw (entry_parts size e) at h)

      module _ (q : ℕ) (mid : List ℕ) (p : Put q was mid at (head_text size id services)) where
        pub entry_next : Room was at Entry → Room mid q Texts
        entry_next h = room_next was at (head_text size id services) Texts (rw (entry_parts size e) at h) q mid p

        pub entry_put : (r : ℕ) (now : List ℕ) → Put r mid now q Texts → Put r was now at Entry
        entry_put r now s = rw (entry_parts size e) (put_then r q was mid now at (head_text size id services) Texts p s)

-- ---- a counted text, and two
module _ (was : List ℕ) (at : ℕ) (t : List ℕ) where
  pub counted_first : Room was at (counted t) → Room was at (length t ∷ [])
  counted_first h = room_first was at (length t ∷ []) t h

  module _ (q : ℕ) (mid : List ℕ) (p : Put q was mid at (length t ∷ [])) where
    pub counted_next : Room was at (counted t) → Room mid q t
    counted_next h = room_next was at (length t ∷ []) t h q mid p

    pub counted_put : (r : ℕ) (now : List ℕ) → Put r mid now q t → Put r was now at (counted t)
    counted_put r now s = put_then r q was mid now at (length t ∷ []) t p s

module _ (was : List ℕ) (at : ℕ) (a b : List ℕ) where
  pub pair_first : Room was at (pair_text a b) → Room was at (counted a)
  pair_first h = room_first was at (counted a) (counted b) h

  module _ (q : ℕ) (mid : List ℕ) (p : Put q was mid at (counted a)) where
    pub pair_next : Room was at (pair_text a b) → Room mid q (counted b)
    pair_next h = room_next was at (counted a) (counted b) h q mid p

    pub pair_put : (r : ℕ) (now : List ℕ) → Put r mid now q (counted b) → Put r was now at (pair_text a b)
    pair_put r now s = put_then r q was mid now at (counted a) (counted b) p s

-- The list that contacts make is a list, and says those contacts. Assumes nothing.
use Rattle.std.specs.Prelude.{Ok}
use mathlib.Core.Path.{◌≡◌, refl, sym, ap, ◌∙◌}
use mathlib.Core.Bool.{true}
use mathlib.Core.List.{List, [], ◌∷◌, ◌++◌, append_assoc, append-nil}
use Prim.Native.Nat.{ℕ, zero, suc, ◌+◌, ◌/◌, ◌%◌, ◌≤◌, ◌<◌}
use native.Mathlib.Nat.{div-add-mod'}
use native.Mathlib.Omega.{arith}
use lib.ListN.{length, get_or, drop, length-append}
use lib.Seq.{take_at, drop_at, get_or_at}
use lib.Dec.{eqb, leb, ltb}
use borrow.Author.Tests.{eqb-true, eq-eqb, ne_eqb, le-leb, leb-true, le-ltb, ltb-true}
use Rattle.text.specs.Pick.{both, either, within}
use Rattle.text.proofs.BoolLaws.{cases, both_left, both_right}
use Rattle.contacts.specs.Contacts.{Contact, contact, id_of, plain, is_date, is_time, sound_head, sound_texts, sound, sound_from, bytes_of, counted, body_text, entry_text, entries_text, list_text, larger, largest}
use Rattle.contacts.specs.Lists.{Says, number_at, text_at, after, call_at, date_at, time_at, band_at, mode_at, end_at, id_at, services_at, contact_at, fits, good_at, entries_from, count_of, listed_as, contacts_from, contacts_of}

-- ---- numbers
pub bytes_length : (k n : ℕ) → length (bytes_of k n) ≡ k
unfolding bytes_of
bytes_length zero n = refl
bytes_length (suc k) n = length-append (bytes_of k (n / 256)) (n % 256 ∷ []) ∙ omega (arith, bytes_length k (n / 256))

-- k bytes hold n
abbrev Holds : ℕ → ℕ → Type 0
Holds zero n = n ≡ 0
Holds (suc k) n = Holds k (n / 256)

number_back : (k n : ℕ) (s pre post : List ℕ) (at : ℕ) → Holds k n → s ≡ pre ++ (bytes_of k n ++ post) → length pre ≡ at → number_at s at k ≡ n
unfolding bytes_of number_at
number_back zero n s pre post at f e l = sym f
number_back (suc k) n s pre post at f e l =
    let b : List ℕ = bytes_of k (n / 256) in
    let e₁ : s ≡ pre ++ (b ++ (n % 256 ∷ post)) = e ∙ ap (λ (r : List ℕ). pre ++ r) (append_assoc b (n % 256 ∷ []) post) in
    let e₂ : s ≡ (pre ++ b) ++ (n % 256 ∷ post) = e₁ ∙ sym (append_assoc pre b (n % 256 ∷ post)) in
    let m : length (pre ++ b) ≡ at + k = length-append pre b ∙ omega (arith, bytes_length k (n / 256)) in
    let h = number_back k (n / 256) s pre (n % 256 ∷ post) at f e₁ l in
    let g : get_or s (at + k) 0 ≡ n % 256 = ap (λ (r : List ℕ). get_or r (at + k) 0) e₂ ∙ get_or_at (pre ++ b) (n % 256) post 0 (at + k) m in
    rw (h, g) (div-add-mod' n 256)

holds_2 : (n : ℕ) → n < 65536 → Holds 2 n
holds_2 n h = omega arith

holds_4 : (n : ℕ) → n < 4294967296 → Holds 4 n
holds_4 n h = holds_2 (n / 256 / 256) (omega arith)

holds_8 : (n : ℕ) → n ≤ 9223372036854775807 → Holds 8 n
holds_8 n h = holds_4 (n / 256 / 256 / 256 / 256) (omega arith)

-- ---- texts
module _ (s pre t post : List ℕ) (at : ℕ) (e : s ≡ pre ++ (counted t ++ post)) (l : length pre ≡ at) where
  size_back : get_or s at 0 ≡ length t
  size_back = ap (λ (r : List ℕ). get_or r at 0) e ∙ get_or_at pre (length t) (t ++ post) 0 at l

  text_back : text_at s at ≡ t
  unfolding text_at
  text_back =
      let e₁ : s ≡ (pre ++ (length t ∷ [])) ++ (t ++ post) = e ∙ sym (append_assoc pre (length t ∷ []) (t ++ post)) in
      let m : length (pre ++ (length t ∷ [])) ≡ at + 1 = length-append pre (length t ∷ []) ∙ omega arith in
      let d : drop (at + 1) s ≡ t ++ post = ap (drop (at + 1)) e₁ ∙ drop_at (pre ++ (length t ∷ [])) (t ++ post) (at + 1) m in
      rw (size_back, d) (take_at t post (length t) refl)

  after_back : after s at ≡ length (pre ++ counted t)
  unfolding after
  after_back = rw size_back (omega (arith, length-append pre (counted t)))

-- ---- an entry
pub small : (call date time band mode : List ℕ) → sound_texts call date time band mode ≡ true → (length call ≤ 255) × (length date ≤ 255) × (length time ≤ 255) × (length band ≤ 255) × (length mode ≤ 255)
unfolding sound_texts plain is_date is_time
small call date time band mode e =
    let a = both_left (plain call) _ e in
    let r₁ = both_right (plain call) _ e in
    let d = both_left (is_date date) _ r₁ in
    let r₂ = both_right (is_date date) _ r₁ in
    let t = both_left (is_time time) _ r₂ in
    let r₃ = both_right (is_time time) _ r₂ in
    let b = both_left (plain band) _ r₃ in
    let m = both_right (plain band) _ r₃ in (
      leb-true (length call) 255 (both_left (leb (length call) 255) _ a),
      omega (arith, eqb-true (length date) 8 (both_left (eqb (length date) 8) _ d)),
      four_or_six (length time) (both_left (either (eqb (length time) 4) (eqb (length time) 6)) _ t),
      leb-true (length band) 255 (both_left (leb (length band) 255) _ b),
      leb-true (length mode) 255 (both_left (leb (length mode) 255) _ m),
    )
  where
    four_or_six : (n : ℕ) → either (eqb n 4) (eqb n 6) ≡ true → n ≤ 255
    four_or_six n e =
        cases (eqb n 4)
        (λ u. omega (arith, eqb-true n 4 u))
        (λ u. let v : eqb n 6 ≡ true = rw u at e in omega (arith, eqb-true n 6 v))

module _ (id services : ℕ) (call date time band mode : List ℕ) where
  abbrev pub body : List ℕ
  body = body_text (contact id services call date time band mode)

  pub body_length : length body ≡ 14 + length call + length date + length time + length band + length mode
  unfolding body_text
  body_length =
      simp length-append (omega (arith, bytes_length 8 id))

  module _ (s pre post : List ℕ) (at : ℕ) (l : length pre ≡ at) (e : s ≡ pre ++ (entry_text (contact id services call date time band mode) ++ post)) where
    -- what stands before each part
    abbrev before_id : List ℕ
    before_id = pre ++ bytes_of 2 (length body)

    abbrev before_services : List ℕ
    before_services = before_id ++ bytes_of 8 id

    abbrev before_call : List ℕ
    before_call = before_services ++ (services ∷ [])

    abbrev before_date : List ℕ
    before_date = before_call ++ counted call

    abbrev before_time : List ℕ
    before_time = before_date ++ counted date

    abbrev before_band : List ℕ
    before_band = before_time ++ counted time

    abbrev before_mode : List ℕ
    before_mode = before_band ++ counted band

    at_size : s ≡ pre ++ (bytes_of 2 (length body) ++ (body ++ post))
    unfolding entry_text
    at_size = e ∙ ap (λ (r : List ℕ). pre ++ r) (append_assoc (bytes_of 2 (length body)) body post)

    at_id : s ≡ before_id ++ (bytes_of 8 id ++ (services ∷ (counted call ++ (counted date ++ (counted time ++ (counted band ++ (counted mode ++ post)))))))
    unfolding body_text
    at_id = at_size ∙ simp append_assoc

    at_services : s ≡ before_services ++ (services ∷ (counted call ++ (counted date ++ (counted time ++ (counted band ++ (counted mode ++ post))))))
    at_services = at_id ∙ simp append_assoc

    at_call : s ≡ before_call ++ (counted call ++ (counted date ++ (counted time ++ (counted band ++ (counted mode ++ post)))))
    at_call = at_services ∙ simp append_assoc

    at_date : s ≡ before_date ++ (counted date ++ (counted time ++ (counted band ++ (counted mode ++ post))))
    at_date = at_call ∙ sym (append_assoc before_call (counted call) (counted date ++ (counted time ++ (counted band ++ (counted mode ++ post)))))

    at_time : s ≡ before_time ++ (counted time ++ (counted band ++ (counted mode ++ post)))
    at_time = at_date ∙ sym (append_assoc before_date (counted date) (counted time ++ (counted band ++ (counted mode ++ post))))

    at_band : s ≡ before_band ++ (counted band ++ (counted mode ++ post))
    at_band = at_time ∙ sym (append_assoc before_time (counted time) (counted band ++ (counted mode ++ post)))

    at_mode : s ≡ before_mode ++ (counted mode ++ post)
    at_mode = at_band ∙ sym (append_assoc before_band (counted band) (counted mode ++ post))

    len_id : length before_id ≡ at + 2
    len_id = length-append pre (bytes_of 2 (length body)) ∙ omega (arith, bytes_length 2 (length body))

    len_services : length before_services ≡ at + 10
    len_services = length-append before_id (bytes_of 8 id) ∙ omega (arith, len_id, bytes_length 8 id)

    len_call : length before_call ≡ at + 11
    len_call = length-append before_services (services ∷ []) ∙ omega (arith, len_services)

    len_date : length before_date ≡ at + 12 + length call
    len_date = length-append before_call (counted call) ∙ omega (arith, len_call)

    len_time : length before_time ≡ at + 13 + length call + length date
    len_time = length-append before_date (counted date) ∙ omega (arith, len_date)

    len_band : length before_band ≡ at + 14 + length call + length date + length time
    len_band = length-append before_time (counted time) ∙ omega (arith, len_time)

    len_mode : length before_mode ≡ at + 15 + length call + length date + length time + length band
    len_mode = length-append before_band (counted band) ∙ omega (arith, len_band)

    -- the entry is its size and its body
    len_entry : length (pre ++ entry_text (contact id services call date time band mode)) ≡ at + 2 + length body
    unfolding entry_text
    len_entry =
        length-append pre (entry_text (contact id services call date time band mode)) ∙ omega (arith, length-append (bytes_of 2 (length body)) body, bytes_length 2 (length body))

    date_place : date_at s at ≡ length before_date
    unfolding date_at call_at
    date_place = after_back s before_call call _ (at + 11) at_call len_call

    time_place : time_at s at ≡ length before_time
    unfolding time_at
    time_place = rw date_place (after_back s before_date date _ (length before_date) at_date refl)

    band_place_lem : band_at s at ≡ length before_band
    unfolding band_at
    band_place_lem = rw time_place (after_back s before_time time _ (length before_time) at_time refl)

    mode_place : mode_at s at ≡ length before_mode
    unfolding mode_at
    mode_place = rw band_place_lem (after_back s before_band band _ (length before_band) at_band refl)

    pub end_place : end_at s at ≡ length (pre ++ entry_text (contact id services call date time band mode))
    unfolding end_at
    end_place =
        let a : after s (mode_at s at) ≡ length (before_mode ++ counted mode) = rw mode_place (after_back s before_mode mode post (length before_mode) at_mode refl) in
        omega (arith, len_mode, len_entry, body_length, length-append before_mode (counted mode))

    pub contact_back : id ≤ 9223372036854775807 → contact_at s at ≡ contact id services call date time band mode
    unfolding contact_at id_at services_at call_at
    contact_back h =
        let i : number_at s (at + 2) 8 ≡ id = number_back 8 id s before_id _ (at + 2) (holds_8 id h) at_id len_id in
        let v : get_or s (at + 10) 0 ≡ services = ap (λ (r : List ℕ). get_or r (at + 10) 0) at_services ∙ get_or_at before_services services _ 0 (at + 10) len_services in
        let c : text_at s (at + 11) ≡ call = text_back s before_call call _ (at + 11) at_call len_call in
        let d : text_at s (date_at s at) ≡ date = text_back s before_date date _ (date_at s at) at_date (sym date_place) in
        let t : text_at s (time_at s at) ≡ time = text_back s before_time time _ (time_at s at) at_time (sym time_place) in
        let b : text_at s (band_at s at) ≡ band = text_back s before_band band _ (band_at s at) at_band (sym band_place_lem) in
        let m : text_at s (mode_at s at) ≡ mode = text_back s before_mode mode post (mode_at s at) at_mode (sym mode_place) in
        rw (i, v, c, d, t, b, m) refl

    module _ (g : sound (contact id services call date time band mode) ≡ true) where
      low_id : id ≤ 9223372036854775807
      unfolding sound sound_head
      low_id = leb-true id 9223372036854775807 (both_right (leb 1 id) _ (both_left (within id 1 9223372036854775807) _ (both_left (sound_head id services) _ g)))

      short_body : length body < 65536
      unfolding sound
      short_body =
          let k = small call date time band mode (both_right (sound_head id services) _ g) in
          omega (arith, body_length, k.0, k.1, k.2, k.3, k.4)

      pub good_back : good_at s at ≡ true
      unfolding good_at fits
      good_back =
          let n : number_at s at 2 ≡ length body = number_back 2 (length body) s pre _ at (holds_2 (length body) short_body) at_size l in
          let z : length s ≡ length (pre ++ entry_text (contact id services call date time band mode)) + length post =
          ap length (e ∙ sym (append_assoc pre (entry_text (contact id services call date time band mode)) post)) ∙ length-append (pre ++ entry_text (contact id services call date time band mode)) post in
          rw (end_place, n, contact_back low_id, le-leb (length (pre ++ entry_text (contact id services call date time band mode))) (length s) (omega arith), eq-eqb (at + 2 + length body) (length (pre ++ entry_text (contact id services call date time band mode))) (sym len_entry)) g

-- ---- the entries
id_of_lem : (s : List ℕ) (at id services : ℕ) (call date time band mode : List ℕ) → contact_at s at ≡ contact id services call date time band mode → id_at s at ≡ id
unfolding contact_at
id_of_lem s at id services call date time band mode e = ap id_of e

abbrev pub last_of : ℕ → List Contact → ℕ
last_of last [] = last
last_of last (c ∷ cs) = last_of (id_of c) cs

module _ (s : List ℕ) (n : ℕ) where
  entries_back : (cs : List Contact) (pre : List ℕ) (at last : ℕ) → sound_from last cs ≡ true → s ≡ pre ++ entries_text cs → length pre ≡ at
      → (entries_from s n (length cs) at last ≡ Ok (record { contacts = n; largest = last_of last cs })) × (contacts_from s (length cs) at ≡ cs)
  unfolding entries_from contacts_from entries_text sound_from
  entries_back [] pre at last g e l =
      let z : at ≡ length s = sym l ∙ ap length (sym (append-nil pre) ∙ sym e) in (rw (eq-eqb at (length s) z) refl, refl)
  entries_back (contact id services call date time band mode ∷ cs) pre at last g e l =
      let c : Contact = contact id services call date time band mode in
      let a : sound c ≡ true = both_left (sound c) _ g in
      let r : both (ltb last id) (sound_from id cs) ≡ true = both_right (sound c) _ g in
      let low = low_id id services call date time band mode s pre (entries_text cs) at l e a in
      let b : contact_at s at ≡ c = contact_back id services call date time band mode s pre (entries_text cs) at l e low in
      let i : id_at s at ≡ id = id_of_lem s at id services call date time band mode b in
      let z : end_at s at ≡ length (pre ++ entry_text c) = end_place id services call date time band mode s pre (entries_text cs) at l e in
      let q = entries_back cs (pre ++ entry_text c) (end_at s at) id (both_right (ltb last id) _ r) (e ∙ sym (append_assoc pre (entry_text c) (entries_text cs))) (sym z) in (
        rw (good_back id services call date time band mode s pre (entries_text cs) at l e a, i, both_left (ltb last id) _ r) q.0,
        rw b (ap (λ (x : List Contact). c ∷ x) q.1),
      )

-- ---- the largest id is the last
larger_right : (a b : ℕ) → a ≤ b → larger a b ≡ b
larger_right a b h = rw (le-leb a b h) refl

larger_over : (a b : ℕ) → a ≤ larger a b
larger_over a b = cases (leb a b) (λ u. rw u (leb-true a b u)) (λ u. rw u (omega arith))

largest_last : (cs : List Contact) (last : ℕ) → sound_from last cs ≡ true → larger last (largest cs) ≡ last_of last cs
unfolding largest sound_from
largest_last [] last g = cases (leb last 0) (λ u. rw u (omega (arith, leb-true last 0 u))) (λ u. rw u refl)
largest_last (c ∷ cs) last g =
    let r : both (ltb last (id_of c)) (sound_from (id_of c) cs) ≡ true = both_right (sound c) _ g in
    let h : last < id_of c = ltb-true last (id_of c) (both_left (ltb last (id_of c)) _ r) in
    let k = largest_last cs (id_of c) (both_right (ltb last (id_of c)) _ r) in
    larger_right last (larger (id_of c) (largest cs)) (omega (arith, larger_over (id_of c) (largest cs))) ∙ k

pub largest_is : (cs : List Contact) → sound_from 0 cs ≡ true → last_of 0 cs ≡ largest cs
largest_is cs g = sym (largest_last cs 0 g) ∙ larger_right 0 (largest cs) (omega arith)

-- ---- the list
entries_long : (cs : List Contact) → length cs ≤ length (entries_text cs)
unfolding entries_text entry_text
entries_long [] = omega arith
entries_long (c ∷ cs) =
    omega (arith, entries_long cs, length-append (bytes_of 2 (length (body_text c)) ++ body_text c) (entries_text cs), length-append (bytes_of 2 (length (body_text c))) (body_text c), bytes_length 2 (length (body_text c)))

module _ (s : List ℕ) (cs : List Contact) (S : Says s cs) where
  abbrev front : List ℕ
  front = 1 ∷ bytes_of 4 (length cs)

  parts : s ≡ front ++ entries_text cs
  unfolding list_text
  parts = S.written

  len_front : length front ≡ 5
  len_front = omega (arith, bytes_length 4 (length cs))

  long : length s ≡ 5 + length (entries_text cs)
  long = ap length parts ∙ length-append front (entries_text cs) ∙ omega (arith, len_front)

  count_back : count_of s ≡ length cs
  unfolding count_of list_text
  count_back =
      number_back 4 (length cs) s (1 ∷ []) (entries_text cs) 1
      (holds_4 (length cs) (omega (arith, S.short, long, entries_long cs))) S.written refl

  all_back : (entries_from s (length cs) (length cs) 5 0 ≡ Ok (record { contacts = length cs; largest = last_of 0 cs })) × (contacts_from s (length cs) 5 ≡ cs)
  all_back = entries_back s (length cs) cs front 5 0 S.all_sound parts len_front

  -- what contacts write is a list, with their mark
  pub written_listed : listed_as s ≡ Ok (record { contacts = length cs; largest = largest cs })
  unfolding listed_as
  written_listed =
      let v : get_or s 0 0 ≡ 1 = ap (λ (r : List ℕ). get_or r 0 0) parts in
      let nz : length s ≡ 0 → ⊥ = λ z. omega (arith, long) in
      rw (le-ltb 16777216 (length s) S.short, ne_eqb (length s) 0 nz, eq-eqb (get_or s 0 0) 1 v, le-ltb (length s) 5 (omega (arith, long)), count_back) all_back.0
      ∙ ap (λ z. Ok (record { contacts = length cs; largest = z })) (largest_is cs S.all_sound)

  -- and says them
  pub written_said : contacts_of s ≡ cs
  unfolding contacts_of
  written_said = rw count_back all_back.1

-- two different lists of contacts never give the same bytes
pub written_once : (s : List ℕ) (cs ds : List Contact) → Says s cs → Says s ds → cs ≡ ds
written_once s cs ds S T = sym (written_said s cs S) ∙ written_said s ds T

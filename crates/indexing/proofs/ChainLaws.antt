-- Records put into chains. Assumes nothing.
use mathlib.Core.Path.{◌≡◌, refl, sym, ap, ◌∙◌, subst, fun_ext}
use mathlib.Core.List.{List, []}
use Prim.Native.Nat.{ℕ, zero, suc, ◌+◌, ◌%◌, ◌≤◌, ◌<◌}
use native.Mathlib.Nat.{mod-lt}
use native.Mathlib.Numerals.{add-one}
use native.Mathlib.Omega.{arith}
use lib.ListN.{length, get_or, set, length-set}
use Rattle.chain.specs.Chain.{col, Linked, Pushed}
use Rattle.chain.proofs.Chains.{kept, kept_of_lem, stored, other, linked_more, linked_none}
use Rattle.index.specs.Rows.{Row}
use Rattle.index.specs.Contacts.{contact_of, numbers_of, no_contact, plain}
use Rattle.index.specs.declared.Contact.{Contact}
use Rattle.index.proofs.ContactLaws.{numbers_back, plain_length, plain_at, plain_set}
use Rattle.indexing.specs.Index.{with_head, with_next, free_of, nexted, pushed, bucket_of, chained}

push_is : (rows : List Row) (b i was : ℕ) (x y : Row) → was ≡ get_or (get_or rows b []) 0 0 → x ≡ with_next (get_or rows i []) was → y ≡ with_head (get_or (set rows i x) b []) (i + 1) → set (set rows i x) b y ≡ pushed rows b i
unfolding pushed
push_is rows b i was x y e f g = rw (g, f, e, add-one)

abbrev pub hd_of : List Row → ℕ → ℕ
hd_of rows b = col rows b 0

abbrev pub nx_of : List Row → ℕ → ℕ
nx_of rows j = col rows j 1

module _ (rows : List Row) (b i : ℕ) where
  mid : List Row
  mid = nexted rows i (col rows b 0)

  pub push_does : b < length rows → i < length rows → Pushed b i (hd_of rows) (nx_of rows) (hd_of (pushed rows b i)) (nx_of (pushed rows b i))
  unfolding pushed mid
  push_does hb hi =
      record {
        head_there = stored mid b _ 0 (rw length-set hb);
        head_else = λ j n. other mid b _ 0 j n ∙ kept rows i _ 0 j refl;
        next_there = kept mid b _ 1 i refl ∙ stored rows i _ 1 hi;
        next_else = λ j n. kept mid b _ 1 j refl ∙ other rows i _ 1 j n;
      }

  pub free_same : (j : ℕ) → free_of (get_or (pushed rows b i) j []) ≡ free_of (get_or rows j [])
  unfolding pushed mid
  free_same j = kept_of_lem free_of mid b _ j refl ∙ kept_of_lem free_of rows i _ j refl

  pub length_pushed : length (pushed rows b i) ≡ length rows
  unfolding pushed
  length_pushed = simp length-set

-- the chains of the first k records: what they leave, and that they are chains
module _ (n : ℕ) (rows : List Row) (hn : n ≤ length rows) where
  pub chained_length : (k : ℕ) → k ≤ n → length (chained n k rows) ≡ length rows
  unfolding chained
  chained_length zero h = refl
  chained_length (suc k) h = length_pushed (chained n k rows) (bucket_of rows n k) k ∙ chained_length k (omega arith)

  pub chained_free : (k j : ℕ) → k ≤ n → free_of (get_or (chained n k rows) j []) ≡ free_of (get_or rows j [])
  unfolding chained
  chained_free zero j h = refl
  chained_free (suc k) j h = free_same (chained n k rows) (bucket_of rows n k) k j ∙ chained_free k j (omega arith)

  pub chained_code : (k j : ℕ) → k ≤ n → col (chained n k rows) j 2 ≡ col rows j 2
  chained_code k j h = ap (λ (r : Row). get_or r 0 0) (chained_free k j h)

  chained_linked : ((b : ℕ) → b < n → col rows b 0 ≡ 0) → (k : ℕ) → k ≤ n → Linked (bucket_of rows n) n k (hd_of (chained n k rows)) (nx_of (chained n k rows))
  unfolding chained
  chained_linked z zero h = linked_none (bucket_of rows n) n (hd_of rows) (nx_of rows) z
  chained_linked z (suc k) h =
      let l = chained_length k (omega arith) in
      let m : bucket_of rows n k < n = mod-lt (col rows k 2) (omega arith) in
      rw add-one at (linked_more (bucket_of rows n) n k (hd_of (chained n k rows)) (nx_of (chained n k rows)) (chained_linked z k (omega arith)) _ _ (push_does (chained n k rows) (bucket_of rows n k) k (omega arith) (omega arith)) m)

  -- all in their chains: by their codes as they now stand
  pub all_linked : ((b : ℕ) → b < n → col rows b 0 ≡ 0) → Linked (bucket_of (chained n n rows) n) n n (hd_of (chained n n rows)) (nx_of (chained n n rows))
  all_linked z =
      subst (λ (f : ℕ → ℕ). Linked f n n (hd_of (chained n n rows)) (nx_of (chained n n rows))) (fun_ext (λ i. ap (λ (x : ℕ). x % n) (sym (chained_code n i (omega arith))))) (chained_linked z n (omega arith))

  -- a turn of the loop, and its end
  pub link_more : (now : List Row) (k p was : ℕ) (x y : Row) → now ≡ chained n k rows → k < n → p ≡ get_or (get_or now k []) 2 0 → was ≡ get_or (get_or now (p % n) []) 0 0
      → x ≡ with_next (get_or now k []) was → y ≡ with_head (get_or (set now k x) (p % n) []) (k + 1) → set (set now k x) (p % n) y ≡ chained n (k + 1) rows
  unfolding chained
  link_more now k p was x y e h ep ew ex ey =
      let q : p ≡ col rows k 2 = ep ∙ ap (λ (r : List Row). col r k 2) e ∙ chained_code k k (omega arith) in
      push_is now (p % n) k was x y ew ex ey ∙ rw (add-one, e, q) refl

  pub link_end : (now : List Row) (k : ℕ) → now ≡ chained n k rows → k ≤ n → n ≤ k → now ≡ chained n n rows
  link_end now k e a b = let z : k ≡ n = omega arith in rw z at e

  -- the same of the structs
  pub link_next : (zs : List Contact) (k b : ℕ) (x y : Contact) → plain zs ≡ chained n k rows → k < n → n ≤ length zs → b ≡ get_or (numbers_of (get_or zs k no_contact)) 2 0 % n
      → x ≡ contact_of (with_next (numbers_of (get_or zs k no_contact)) (get_or (numbers_of (get_or zs b no_contact)) 0 0)) → y ≡ contact_of (with_head (numbers_of (get_or (set zs k x) b no_contact)) (k + 1))
      → plain (set (set zs k x) b y) ≡ chained n (k + 1) rows
  link_next zs k b x y e h l eb ex ey =
      let m : get_or (numbers_of (get_or zs k no_contact)) 2 0 % n < n = mod-lt (get_or (numbers_of (get_or zs k no_contact)) 2 0) (omega arith) in
      let lb : b < length zs = omega arith in
      let ck : get_or (plain zs) k [] ≡ numbers_of (get_or zs k no_contact) = plain_at zs k (omega arith) in
      let cb : get_or (plain zs) b [] ≡ numbers_of (get_or zs b no_contact) = plain_at zs b lb in
      let nx : numbers_of x ≡ with_next (get_or (plain zs) k []) (get_or (numbers_of (get_or zs b no_contact)) 0 0) = ap numbers_of ex ∙ numbers_back _ _ _ _ _ _ _ _ _ _ _ _ ∙ rw ck refl in
      let cx : get_or (set (plain zs) k (numbers_of x)) b [] ≡ numbers_of (get_or (set zs k x) b no_contact) = rw (← plain_set zs k x) (plain_at (set zs k x) b (rw length-set lb)) in
      let ny : numbers_of y ≡ with_head (get_or (set (plain zs) k (numbers_of x)) b []) (k + 1) = ap numbers_of ey ∙ numbers_back _ _ _ _ _ _ _ _ _ _ _ _ ∙ rw cx refl in
      plain_set (set zs k x) b y ∙ ap (λ (r : List Row). set r b (numbers_of y)) (plain_set zs k x) ∙ rw eb
      (link_more (plain zs) k (get_or (numbers_of (get_or zs k no_contact)) 2 0) (get_or (numbers_of (get_or zs b no_contact)) 0 0) (numbers_of x) (numbers_of y) e h (rw ck refl)
      (rw (← eb, cb) refl) nx (rw (← eb) ny))

-- the first k of n are in their chains
pub record Linking (n : ℕ) (was : List Contact) (k : ℕ) (zs : List Contact) : Type 0 where
  pub within : k ≤ n
  pub same : length zs ≡ length was
  pub chains : plain zs ≡ chained n k (plain was)

module _ (n : ℕ) (was : List Contact) (hn : n ≤ length was) where
  fits : n ≤ length (plain was)
  fits = rw (plain_length was) hn

  pub linking_start : Linking n was 0 was
  unfolding chained
  linking_start = record { within = omega arith; same = refl; chains = refl }

  module _ (k : ℕ) (zs : List Contact) (q : Linking n was k zs) (h : k < n) (b : ℕ) (eb : b ≡ get_or (numbers_of (get_or zs k no_contact)) 2 0 % n) where
    pub chain_in : b < length was
    chain_in = let m : get_or (numbers_of (get_or zs k no_contact)) 2 0 % n < n = mod-lt (get_or (numbers_of (get_or zs k no_contact)) 2 0) (omega arith) in omega arith

    pub linking_on : (x y : Contact) → x ≡ contact_of (with_next (numbers_of (get_or zs k no_contact)) (get_or (numbers_of (get_or zs b no_contact)) 0 0))
        → y ≡ contact_of (with_head (numbers_of (get_or (set zs k x) b no_contact)) (k + 1)) → Linking n was (k + 1) (set (set zs k x) b y)
    linking_on x y ex ey = record {
      within = omega arith;
      same = length-set (set zs k x) b y ∙ length-set zs k x ∙ q.same;
      chains = link_next n (plain was) fits zs k b x y q.chains h (rw q.same hn) eb ex ey;
    }

  pub linking_end : (k : ℕ) (zs : List Contact) → Linking n was k zs → n ≤ k → plain zs ≡ chained n n (plain was)
  linking_end k zs q h = link_end n (plain was) fits (plain zs) k q.chains q.within h

-- Chains. A table keeps, for n buckets, the entry that came last in each bucket, and for each entry the one before it in its bucket.
-- An entry is named by one more than its number, and 0 is none.
use Rattle.std.specs.Prelude.{ℕ, zero, suc, ◌<◌, ◌≡◌, refl, Bool, true, false, List, [], get_or, eqb}
use Rattle.text.specs.Pick.{pick}

-- over the entries below k that pass the test, from the first to the last
unfoldable pub over : {A : Type 0} → (ℕ → Bool) → (ℕ → A → A) → A → ℕ → A
over p f z zero = z
over p f z (suc k) = pick (p k) (f k (over p f z k)) (over p f z k)

-- whether one of the entries below k passes
abbrev pub any : (ℕ → Bool) → ℕ → Bool
any p k = over p (λ j a. true) false k

-- the last of the entries below k that passes
abbrev pub down : (ℕ → Bool) → ℕ → ℕ
down p k = over p (λ j a. suc j) 0 k

-- a, or b where a is none
abbrev pub or_else : ℕ → ℕ → ℕ
or_else zero b = b
or_else (suc a) b = suc a

-- the first of the entries below k that passes
abbrev pub first : (ℕ → Bool) → ℕ → ℕ
first p k = over p (λ j a. or_else a (suc j)) 0 k

-- column c of row i
abbrev pub col : List (List ℕ) → ℕ → ℕ → ℕ
col rows i c = get_or (get_or rows i []) c 0

-- entry j is in bucket b
abbrev pub in_bucket : (ℕ → ℕ) → ℕ → ℕ → Bool
in_bucket bucket b j = eqb (bucket j) b

-- The chains of the entries below k in n buckets, by the bucket of each entry: hd b is the last entry of bucket b, nx j the one before
-- j in its bucket. An entry whose bucket is n or more is in no chain.
pub record Linked (bucket : ℕ → ℕ) (n k : ℕ) (hd nx : ℕ → ℕ) : Type 0 where
  pub heads : (b : ℕ) → b < n → hd b ≡ down (in_bucket bucket b) k
  pub nexts : (j : ℕ) → j < k → bucket j < n → nx j ≡ down (in_bucket bucket (bucket j)) j

-- entry i went to the front of bucket b
pub record Pushed (b i : ℕ) (hd nx hd' nx' : ℕ → ℕ) : Type 0 where
  pub head_there : hd' b ≡ suc i
  pub head_else : (j : ℕ) → (j ≡ b → ⊥) → hd' j ≡ hd j
  pub next_there : nx' i ≡ hd b
  pub next_else : (j : ℕ) → (j ≡ i → ⊥) → nx' j ≡ nx j

-- of the entries 0 to 3, those with an even number: the last is 2, the first 0
abbrev even : ℕ → Bool
even zero = true
even (suc zero) = false
even (suc (suc n)) = even n

last_even : down even 4 ≡ 3
unfolding over
last_even = refl

first_even : first even 4 ≡ 1
unfolding over
first_even = refl

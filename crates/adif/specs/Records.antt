-- What the tags of an ADIF text make: records of fields. F is a field, by name and value or by their places in the text; W is what a
-- refusal tells.
use Rattle.std.specs.declared.cmp.Ordering.{Ordering}
use Rattle.std.specs.declared.cmp.Ordering.TheVariants.{Less, Equal, Greater}
use Rattle.std.specs.Prelude.{Bool, true, false, List, [], ◌∷◌, ◌++◌, ℕ, ◌+◌, length, leb, ltb}
use Rattle.text.specs.Pick.{pick}
use Rattle.letters.specs.Order.{order}

-- the name of a field, in capitals; and refusals 8, 9 and 10
pub record Fields (F W : Type 0) : Type 0 where
  pub name : F → List ℕ
  pub many_names : W
  pub many_records : W
  pub few_rows : W

-- what the tags say, one after the other: the header ends, the record ends, a field
pub data Item (F : Type 0) : Type 0 where
  eoh : Item F
  eor : Item F
  field : F → Item F

-- how a text ends: whole, or with a tag that is refused
pub data Ending (W : Type 0) : Type 0 where
  whole : Ending W
  fault : W → Ending W

-- what a reading gives
pub data Outcome (F W : Type 0) : Type 0 where
  records : List (List F) → Outcome F W
  refused : W → Outcome F W

-- where one item leaves the reading: the record in hand and the closed records, or a refusal
pub data Turn (F W : Type 0) : Type 0 where
  on : List F → List (List F) → Turn F W
  no : W → Turn F W

abbrev pub then : {F W : Type 0} → Turn F W → (List F → List (List F) → Outcome F W) → Outcome F W
then (on hand done) k = k hand done
then (no w) k = refused w

-- how many fields the records have
abbrev pub total : {F : Type 0} → List (List F) → ℕ
total [] = 0
total (r ∷ rs) = length r + total rs

-- the field before x, in the place of x, or further on, by the order of the two names
abbrev pub placed : {F : Type 0} → Ordering → F → F → List F → List F → List F
placed Less f x xs rest = f ∷ x ∷ xs
placed Equal f x xs rest = f ∷ xs
placed Greater f x xs rest = x ∷ rest

-- the field joins the record at the place of its name, or replaces the one of its name
abbrev pub put : {F : Type 0} → (F → List ℕ) → F → List F → List F
put name f [] = f ∷ []
put name f (x ∷ xs) = placed (order (name f) (name x)) f x xs (put name f xs)

module _ {F W : Type 0} (K : Fields F W) where
  -- a record that has a field is closed: 9 where it is the 65,536th, 10 where the lent table has not enough rows left
  abbrev pub close : ℕ → List F → List (List F) → Turn F W
  close room [] done = on [] done
  close room (h ∷ hs) done =
      pick (ltb (length done) 65535)
      (pick (leb (total done + length (h ∷ hs)) room) (on [] (done ++ ((h ∷ hs) ∷ []))) (no K.few_rows))
      (no K.many_records)

  -- a record that is unfinished at the end counts only if a closed one came before
  abbrev pub finish : ℕ → List F → List (List F) → Outcome F W
  finish room hand [] = records []
  finish room hand (d ∷ ds) = then (close room hand (d ∷ ds)) (λ _ done. records done)

  -- one item: the header's end empties the record in hand; a 257th name is 8
  abbrev pub act : ℕ → List F → List (List F) → Item F → Turn F W
  act room hand done eoh = on [] done
  act room hand done eor = close room hand done
  act room hand done (field f) = pick (leb (length (put K.name f hand)) 256) (on (put K.name f hand) done) (no K.many_names)

  abbrev pub ended : ℕ → List F → List (List F) → Ending W → Outcome F W
  ended room hand done whole = finish room hand done
  ended room hand done (fault w) = refused w

  -- the records that the items make, after those in hand and done
  abbrev pub meaning : ℕ → List F → List (List F) → List (Item F) → Ending W → Outcome F W
  meaning room hand done [] e = ended room hand done e
  meaning room hand done (i ∷ is) e = then (act room hand done i) (λ h d. meaning room h d is e)

-- the same where there are no limits: `some` says whether a record was closed before
abbrev pub last : {F : Type 0} → Bool → List F → List (List F)
last false hand = []
last true [] = []
last true (h ∷ hs) = (h ∷ hs) ∷ []

abbrev pub plainly : {F : Type 0} → (F → List ℕ) → List F → Bool → List (Item F) → List (List F)
plainly name hand some [] = last some hand
plainly name hand some (eoh ∷ is) = plainly name [] some is
plainly name [] some (eor ∷ is) = plainly name [] some is
plainly name (h ∷ hs) some (eor ∷ is) = (h ∷ hs) ∷ plainly name [] true is
plainly name hand some (field f ∷ is) = plainly name (put name f hand) some is

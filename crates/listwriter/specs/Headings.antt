-- Appending looks at a list's heading only. What it takes has a sound one, and what it refuses there the list's own check (`listed_as`)
-- refuses as well, with the same number. Each statement is proved in `proofs/Headings.antt`.
use Rattle.std.specs.Prelude.{◌≡◌, true, List, ℕ, ◌+◌, ◌≤◌, ◌<◌, length, get_or, take, Ok, Err}
use Rattle.refusals.specs.declared.Refusal.{Refusal}
use Rattle.refusals.specs.declared.Refusal.TheVariants.{OtherVersion}
use Rattle.contacts.specs.Contacts.{Contact, id_of, sound, entry_text, largest}
use Rattle.contacts.specs.Lists.{Says, count_of, listed_as}
use Rattle.listwriter.specs.Append.{heading_of, append_as}

-- version 1, and a whole count, which is the one told and can grow
pub record Headed (list : List ℕ) (count : ℕ) : Type 0 where
  pub whole : 5 ≤ length list
  pub version : get_or list 0 0 ≡ 1
  pub told : count_of list ≡ count
  pub grows : count < 4294967295

-- a contact is appended only to bytes with such a heading
abbrev pub OnlyHeaded : Type 0
OnlyHeaded = (used count top : ℕ) (c : Contact) (was : List ℕ) (n : ℕ) → append_as used count top c was ≡ Ok n → Headed (take used was) count

-- a list that its check accepts is taken at its heading, where the count of its mark is told and can grow
abbrev pub ListsHeaded : Type 0
ListsHeaded = (used : ℕ) (was : List ℕ) (n top : ℕ) → listed_as (take used was) ≡ Ok (record { contacts = n; largest = top }) → n < 4294967295 → heading_of (take used was) n ≡ Ok tt

-- where the heading is refused for its version, whatever count is told, the check refuses for it too
abbrev pub VersionsListed : Type 0
VersionsListed = (used : ℕ) (was : List ℕ) (count : ℕ) → used ≤ 16777216 → heading_of (take used was) count ≡ Err OtherVersion → listed_as (take used was) ≡ Err OtherVersion

-- where it is refused though its own count is told and can grow, the check refuses with the same number
abbrev pub RefusedListed : Type 0
RefusedListed = (used : ℕ) (was : List ℕ) (why : Refusal) → used ≤ 16777216 → count_of (take used was) < 4294967295 → heading_of (take used was) (count_of (take used was)) ≡ Err why → listed_as (take used was) ≡ Err why

-- a sound contact with a higher id is appended to the list of others, if its mark is told and there is room
abbrev pub SaidAppended : Type 0
SaidAppended =
    (used : ℕ) (was : List ℕ) (cs : List Contact) (c : Contact) → Says (take used was) cs → length cs < 4294967295 → sound c ≡ true → largest cs < id_of c
    → used + length (entry_text c) ≤ 16777216 → used + length (entry_text c) ≤ length was → append_as used (length cs) (largest cs) c was ≡ Ok (used + length (entry_text c))

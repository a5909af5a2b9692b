-- What an import, or a download of confirmations, would do: `plan` and `plan_download`, over the contacts of a list in place of a
-- database. Nothing is kept beside the fates that could be counted from them.
use Rattle.std.specs.Prelude.{Bool, List, map, ℕ, ◌+◌, ℤ, length}
use Rattle.contacts.specs.Contacts.{Contact, largest}
use Rattle.adif.specs.Reading.{read_text}
use Rattle.summary.specs.declared.Counts.{Counts}
use Rattle.plan.specs.Entry.{Entry, entries_of}
use Rattle.plan.specs.Fates.{found, fates_to, count}
use Rattle.plan.specs.Confirmed.{Confirmation, new_to, already_to, unmatched_to}

-- a fate and a reason a record; a confirmation for each contact and service newly confirmed; how many confirmations were known already,
-- and how many match no contact; the list's mark: how many contacts, and the largest id
pub record Plan : Type 0 where
  pub fates : List ℕ
  pub reasons : List ℕ
  pub confirmations : List Confirmation
  pub already : ℕ
  pub unmatched : ℕ
  pub contacts : ℕ
  pub largest : ℕ

abbrev pub reasons_of : List Entry → List ℕ
reasons_of entries = map (λ e. e.reason) entries

-- the records, the number of the contact that each one found, and their fates
unfoldable pub plan_from : List Contact → List Entry → List ℕ → List ℕ → Plan
plan_from contacts entries hits fates = record {
  fates = fates;
  reasons = reasons_of entries;
  confirmations = new_to contacts entries hits fates (length entries);
  already = already_to contacts entries hits fates (length entries);
  unmatched = unmatched_to contacts entries hits fates (length entries);
  contacts = length contacts;
  largest = largest contacts;
}

abbrev pub hits_of : ℤ → List Contact → List Entry → List ℕ
hits_of window contacts entries = map (found window contacts) entries

abbrev pub fates_of : ℤ → Bool → List Contact → List Entry → List ℕ
fates_of window download contacts entries = fates_to window download entries (hits_of window contacts entries) (length entries)

unfoldable pub planned : ℤ → Bool → List Contact → List Entry → Plan
planned window download contacts entries = plan_from contacts entries (hits_of window contacts entries) (fates_of window download contacts entries)

-- of a text, read into a table of so many rows
unfoldable pub plan_of : ℤ → Bool → List Contact → List ℕ → ℕ → Plan
plan_of window download contacts text rows = planned window download contacts (entries_of text (read_text text rows))

-- what it counts: the total is the sum of the seven fates' counts
abbrev pub total_of : List ℕ → ℕ
total_of fates = count 1 fates + count 2 fates + count 3 fates + count 4 fates + count 5 fates + count 6 fates + count 7 fates

unfoldable pub counts_with : List ℕ → ℕ → ℕ → ℕ → Counts
counts_with fates confirmations already unmatched = record {
  total = total_of fates;
  importable = count 1 fates;
  confirmations = confirmations;
  already_confirmed = already;
  duplicates = count 2 fates + count 3 fates;
  unmatched = unmatched;
  unusable = count 4 fates;
}

unfoldable pub counts_of : Plan → Counts
counts_of p = counts_with p.fates (length p.confirmations) p.already p.unmatched

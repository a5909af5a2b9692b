-- The answers of one record, counted one after the other.
use Rattle.std.specs.Prelude.{Bool, true, false, not, List, [], ◌∷◌, ℕ, ◌+◌, ◌*◌, ◌≤◌, ◌<◌, eqb}
use Rattle.text.specs.Pick.{pick, both, either}
use Rattle.contacts.specs.Lists.{id_at, services_at}
use Rattle.index.specs.Rows.{low, high}
use Rattle.confirmations.specs.declared.Answer.{Answer}
use Rattle.plan.specs.Confirmed.{has_bit}
use Rattle.model.specs.Flags.{one_if}
use Rattle.tallies.specs.declared.Tally.{Tally}
use Rattle.tallies.specs.declared.Target.{Target}

-- ---- what a record confirms: a contact, which it is and what it has, or nothing that the log has
abbrev pub target : Bool → ℕ → ℕ → ℕ → Target
target matched services low high = record { matched = matched; services = services; low = low; high = high }

-- the contact whose entry is at that place of a list
unfoldable pub target_in : List ℕ → ℕ → Target
target_in s place = target true (services_at s place) (low (id_at s place)) (high (id_at s place))

-- of a record of this fate that found contact `hit`, counted from 1, with its entry there
unfoldable pub target_of : List ℕ → ℕ → ℕ → ℕ → Target
target_of s fate hit place = pick (eqb fate 5) (pick (eqb hit 0) (target true 0 0 0) (target_in s place)) (target false 0 0 0)

-- ---- an answer that counts, or not: to be recorded, known already, unmatched
module _ (to : Target) (counts : Bool) (s : ℕ) where
  unfoldable pub is_new : Bool
  is_new = both counts (both to.matched (not (has_bit to.services s)))

  unfoldable pub is_old : Bool
  is_old = both counts (both to.matched (has_bit to.services s))

unfoldable pub is_lost : Target → Bool → Bool
is_lost to counts = both counts (not to.matched)

unfoldable pub tally_with : Target → Bool → ℕ → Tally → Tally
tally_with to counts s t = record {
  used = t.used + one_if (is_new to counts s);
  already = t.already + one_if (is_old to counts s);
  unmatched = t.unmatched + one_if (is_lost to counts);
  lotw = either t.lotw (both counts (eqb s 1));
  eqsl = either t.eqsl (both counts (eqb s 2));
  qrz = either t.qrz (both counts (eqb s 4));
  qsl = either t.qsl (both counts (eqb s 8));
}

-- the row of a confirmation
unfoldable pub card_for : Target → Answer → List ℕ
card_for to a = to.low ∷ to.high ∷ a.service ∷ a.date.start ∷ a.date.len ∷ []

-- ---- a record begins with no service counted at it
unfoldable pub unmarked : Tally → Tally
unmarked t = record { used = t.used; already = t.already; unmatched = t.unmatched; lotw = false; eqsl = false; qrz = false; qsl = false }

-- the services that counted at it, as bits
unfoldable pub bits_of : Bool → Bool → Bool → Bool → ℕ
bits_of lotw eqsl qrz qsl = one_if lotw + one_if eqsl * 2 + one_if qrz * 4 + one_if qsl * 8

unfoldable pub services_in : Tally → ℕ
services_in t = bits_of t.lotw t.eqsl t.qrz t.qsl

-- ---- bounds
pub record Few (t : Tally) : Type 0 where
  pub used : t.used < 4611686018427387904
  pub already : t.already < 4611686018427387904
  pub unmatched : t.unmatched < 4611686018427387904

-- by at most m
pub record Grown (m : ℕ) (t r : Tally) : Type 0 where
  pub used : r.used ≤ t.used + m
  pub already : r.already ≤ t.already + m
  pub unmatched : r.unmatched ≤ t.unmatched + m

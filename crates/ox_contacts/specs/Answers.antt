-- The answers of the calls on contact lists, as numbers.
use Rattle.refusals.specs.declared.Refusal.{Refusal}
use Rattle.contacts.specs.declared.Mark.{Mark}
use Rattle.std.specs.Prelude.{true, false, Result, Ok, Err, ℕ}
use Rattle.refusals.specs.Refusals.{number_of}
use Rattle.contacts.specs.declared.Freshness.{Freshness}
use Rattle.contacts.specs.declared.Freshness.TheVariants
use Rattle.ox_contacts.specs.declared.AppendAnswer.{AppendAnswer}
use Rattle.ox_contacts.specs.declared.MarkAnswer.{MarkAnswer}
use Rattle.ox_contacts.specs.declared.FreshAnswer.{FreshAnswer}

unfoldable pub of_listed : Result Mark Refusal → MarkAnswer
of_listed (Ok m) = record { refusal = 0; contacts = m.contacts; largest = m.largest }
of_listed (Err why) = record { refusal = number_of why; contacts = 0; largest = 0 }

unfoldable pub of_freshness : Result Freshness Refusal → FreshAnswer
of_freshness (Ok TheVariants.Fresh) = record { refusal = 0; fresh = true }
of_freshness (Ok TheVariants.Stale) = record { refusal = 0; fresh = false }
of_freshness (Err why) = record { refusal = number_of why; fresh = false }

unfoldable pub of_appended : Result ℕ Refusal → AppendAnswer
of_appended (Ok n) = record { refusal = 0; length = n }
of_appended (Err why) = record { refusal = number_of why; length = 0 }

-- Each public call's promise is met by one answer. Assumes nothing.
use mathlib.Core.Path.{◌≡◌, sym, ◌∙◌}
use contract.Lifetimes.{Lfts}
use denote.Triple.Clauses.{AtExit}
use borrow.Fn.Kinds.{Dens, res_t, ended_of}
use Rattle.text.proofs.Once.{Once}
use Rattle.contacts.proofs.is_date.Reads as is-date
use Rattle.contacts.proofs.is_date.Kinds as is-date-kinds
use Rattle.contacts.proofs.is_time.Reads as is-time
use Rattle.contacts.proofs.is_time.Kinds as is-time-kinds
use Rattle.contacts.proofs.is_sound_head.Reads as is-sound-head
use Rattle.contacts.proofs.is_sound_head.Kinds as is-sound-head-kinds
use Rattle.contacts.proofs.is_sound_texts.Reads as is-sound-texts
use Rattle.contacts.proofs.is_sound_texts.Kinds as is-sound-texts-kinds
use Rattle.contacts.proofs.id_at.Reads as id-at
use Rattle.contacts.proofs.id_at.Kinds as id-at-kinds
use Rattle.contacts.proofs.text_at.Reads as text_at
use Rattle.contacts.proofs.text_at.Kinds as text-at-kinds
use Rattle.contacts.proofs.after_text.Reads as after_text
use Rattle.contacts.proofs.after_text.Kinds as after-text-kinds
use Rattle.contacts.proofs.count_of.Reads as count_of
use Rattle.contacts.proofs.count_of.Kinds as count-of-kinds
use Rattle.contacts.proofs.end_at.Reads as end-at
use Rattle.contacts.proofs.end_at.Kinds as end-at-kinds
use Rattle.contacts.proofs.check.Reads as check
use Rattle.contacts.proofs.check.Kinds as check-kinds
use Rattle.contacts.proofs.is_fresh.Reads as is-fresh
use Rattle.contacts.proofs.is_fresh.Kinds as is-fresh-kinds

is_date_once : Once 1 is-date-kinds.ps is-date-kinds.r is-date.Post
is_date_once κs a x y d e p q = p ∙ sym q

is_time_once : Once 1 is-time-kinds.ps is-time-kinds.r is-time.Post
is_time_once κs a x y d e p q = p ∙ sym q

is_sound_head_once : Once 0 is-sound-head-kinds.ps is-sound-head-kinds.r is-sound-head.Post
is_sound_head_once κs a x y d e p q = p ∙ sym q

is_sound_texts_once : Once 5 is-sound-texts-kinds.ps is-sound-texts-kinds.r is-sound-texts.Post
is_sound_texts_once κs a x y d e p q = p ∙ sym q

id_at_once : Once 1 id-at-kinds.ps id-at-kinds.r id-at.Post
id_at_once κs a x y d e p q = p ∙ sym q

-- of the part of the list that is given back, the bytes
text_at_once : (κs : Lfts 1) (a : Dens κs text-at-kinds.ps) (x y : (res_t text-at-kinds.r κs).Denot) (d e : AtExit (ended_of 1 text-at-kinds.ps text-at-kinds.r) κs)
    → text_at.Post κs a x d → text_at.Post κs a y e → x.now ≡ y.now
text_at_once κs a x y d e p q = p ∙ sym q

after_text_once : Once 1 after-text-kinds.ps after-text-kinds.r after_text.Post
after_text_once κs a x y d e p q = p.0 ∙ sym q.0

count_of_once : Once 1 count-of-kinds.ps count-of-kinds.r count_of.Post
count_of_once κs a x y d e p q = p.0 ∙ sym q.0

end_at_once : Once 1 end-at-kinds.ps end-at-kinds.r end-at.Post
end_at_once κs a x y d e p q = p.0 ∙ sym q.0

check_once : Once 1 check-kinds.ps check-kinds.r check.Post
check_once κs a x y d e p q = p.0 ∙ sym q.0

is_fresh_once : Once 1 is-fresh-kinds.ps is-fresh-kinds.r is-fresh.Post
is_fresh_once κs a x y d e p q = p ∙ sym q

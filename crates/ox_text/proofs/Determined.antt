-- Each public call's promise is met by one answer. Assumes nothing.
use mathlib.Core.Path.{sym, ◌∙◌}
use Rattle.text.proofs.Once.{Once, OnceWith}
use Rattle.ox_text.proofs.ox_text_digits.Reads as ox-text-digits
use Rattle.ox_text.proofs.ox_text_digits.Kinds as ox-text-digits-kinds
use Rattle.ox_text.proofs.ox_text_check.Reads as ox-text-check
use Rattle.ox_text.proofs.ox_text_check.Kinds as ox-text-check-kinds
use Rattle.ox_text.proofs.ox_text_trim.Reads as ox-text-trim
use Rattle.ox_text.proofs.ox_text_trim.Kinds as ox-text-trim-kinds
use Rattle.ox_text.proofs.untold.Reads as untold
use Rattle.ox_text.proofs.untold.Kinds as untold-kinds
use Rattle.ox_text.proofs.ox_text_blank.Reads as ox-text-blank
use Rattle.ox_text.proofs.ox_text_blank.Kinds as ox-text-blank-kinds
use Rattle.ox_text.proofs.ox_text_same.Reads as ox-text-same
use Rattle.ox_text.proofs.ox_text_same.Kinds as ox-text-same-kinds
use Rattle.ox_text.proofs.ox_text_same_raised.Reads as ox-text-same-raised
use Rattle.ox_text.proofs.ox_text_same_raised.Kinds as ox-text-same-raised-kinds
use Rattle.ox_text.proofs.ox_text_order_raised.Reads as ox-text-order-raised
use Rattle.ox_text.proofs.ox_text_order_raised.Kinds as ox-text-order-raised-kinds
use Rattle.ox_text.proofs.ox_text_find.Reads as ox-text-find
use Rattle.ox_text.proofs.ox_text_find.Kinds as ox-text-find-kinds
use Rattle.ox_text.proofs.ox_text_unsigned.Reads as ox-text-unsigned
use Rattle.ox_text.proofs.ox_text_unsigned.Kinds as ox-text-unsigned-kinds
use Rattle.ox_text.proofs.ox_text_signed.Reads as ox-text-signed
use Rattle.ox_text.proofs.ox_text_signed.Kinds as ox-text-signed-kinds

ox_text_check_once : Once 1 ox-text-check-kinds.ps ox-text-check-kinds.r ox-text-check.Post
ox_text_check_once κs a x y d e p q = p ∙ sym q

ox_text_trim_once : Once 1 ox-text-trim-kinds.ps ox-text-trim-kinds.r ox-text-trim.Post
ox_text_trim_once κs a x y d e p q = p ∙ sym q

untold_once : Once 0 untold-kinds.ps untold-kinds.r untold.Post
untold_once κs a x y d e p q = p ∙ sym q

ox_text_blank_once : Once 1 ox-text-blank-kinds.ps ox-text-blank-kinds.r ox-text-blank.Post
ox_text_blank_once κs a x y d e p q = p ∙ sym q

ox_text_same_once : Once 2 ox-text-same-kinds.ps ox-text-same-kinds.r ox-text-same.Post
ox_text_same_once κs a x y d e p q = p ∙ sym q

ox_text_same_raised_once : Once 2 ox-text-same-raised-kinds.ps ox-text-same-raised-kinds.r ox-text-same-raised.Post
ox_text_same_raised_once κs a x y d e p q = p ∙ sym q

ox_text_order_raised_once : Once 2 ox-text-order-raised-kinds.ps ox-text-order-raised-kinds.r ox-text-order-raised.Post
ox_text_order_raised_once κs a x y d e p q = p ∙ sym q

ox_text_find_once : Once 1 ox-text-find-kinds.ps ox-text-find-kinds.r ox-text-find.Post
ox_text_find_once κs a x y d e p q = p ∙ sym q

ox_text_unsigned_once : Once 1 ox-text-unsigned-kinds.ps ox-text-unsigned-kinds.r ox-text-unsigned.Post
ox_text_unsigned_once κs a x y d e p q = p ∙ sym q

ox_text_signed_once : Once 1 ox-text-signed-kinds.ps ox-text-signed-kinds.r ox-text-signed.Post
ox_text_signed_once κs a x y d e p q = p ∙ sym q

-- the answer and the output
ox_text_digits_once : OnceWith 1 ox-text-digits-kinds.ps ox-text-digits-kinds.r (λ κs d. d.1.0.now) ox-text-digits.Post
ox_text_digits_once κs a x y d e p q = (p.answer ∙ sym q.answer, p.output ∙ sym q.output)

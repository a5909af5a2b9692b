-- Each public call's promise is met by one answer. Assumes nothing.
use mathlib.Core.Path.{sym, ◌∙◌}
use Rattle.text.proofs.Once.{Once, OnceWith}
use Rattle.output.specs.Put.{Put}
use Rattle.mhz.proofs.mhz_string_to_hz.Reads as mhz-string-to-hz
use Rattle.mhz.proofs.mhz_string_to_hz.Kinds as mhz-string-to-hz-kinds
use Rattle.mhz.proofs.number.of_text.Reads as of-text
use Rattle.mhz.proofs.number.of_text.Kinds as of-text-kinds
use Rattle.mhz.proofs.window.of_decimal.Reads as of-decimal
use Rattle.mhz.proofs.window.of_decimal.Kinds as of-decimal-kinds
use Rattle.mhz.proofs.mhz_size.Reads as mhz-size
use Rattle.mhz.proofs.mhz_size.Kinds as mhz-size-kinds
use Rattle.mhz.proofs.put_mhz.Reads as put-mhz
use Rattle.mhz.proofs.put_mhz.Kinds as put-mhz-kinds
use Rattle.mhz.proofs.hz_to_mhz_string.Reads as hz-to-mhz-string
use Rattle.mhz.proofs.hz_to_mhz_string.Kinds as hz-to-mhz-string-kinds

mhz_string_to_hz_once : Once 1 mhz-string-to-hz-kinds.ps mhz-string-to-hz-kinds.r mhz-string-to-hz.Post
mhz_string_to_hz_once κs a x y d e p q = p ∙ sym q

of_text_once : Once 1 of-text-kinds.ps of-text-kinds.r of-text.Post
of_text_once κs a x y d e p q = p ∙ sym q

of_decimal_once : Once 0 of-decimal-kinds.ps of-decimal-kinds.r of-decimal.Post
of_decimal_once κs a x y d e p q = p ∙ sym q

mhz_size_once : Once 0 mhz-size-kinds.ps mhz-size-kinds.r mhz-size.Post
mhz_size_once κs a x y d e p q = p ∙ sym q

-- the place after what was put, and the whole output
put_mhz_once : OnceWith 1 put-mhz-kinds.ps put-mhz-kinds.r (λ κs d. d.0.now) put-mhz.Post
unfolding Put
put_mhz_once κs a x y d e p q = (p.0 ∙ sym q.0, p.1 ∙ sym q.1)

-- the answer and the output
hz_to_mhz_string_once : OnceWith 1 hz-to-mhz-string-kinds.ps hz-to-mhz-string-kinds.r (λ κs d. d.1.0.now) hz-to-mhz-string.Post
hz_to_mhz_string_once κs a x y d e p q = (p.answer ∙ sym q.answer, p.output ∙ sym q.output)

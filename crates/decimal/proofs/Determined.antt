-- Each public call's promise is met by one answer. Assumes nothing.
use mathlib.Core.Path.{sym, ◌∙◌}
use Rattle.text.proofs.Once.{Once}
use Rattle.decimal.proofs.all_digits.Reads as all_digits_lem
use Rattle.decimal.proofs.all_digits.Kinds as all-digits-kinds
use Rattle.decimal.proofs.parse_digits.Reads as parse_digits
use Rattle.decimal.proofs.parse_digits.Kinds as parse-digits-kinds
use Rattle.decimal.proofs.parse_unsigned.Reads as parse-unsigned
use Rattle.decimal.proofs.parse_unsigned.Kinds as parse-unsigned-kinds
use Rattle.decimal.proofs.parse_signed.Reads as parse-signed
use Rattle.decimal.proofs.parse_signed.Kinds as parse-signed-kinds

all_digits_once : Once 1 all-digits-kinds.ps all-digits-kinds.r all_digits_lem.Post
all_digits_once κs a x y d e p q = p ∙ sym q

parse_unsigned_once : Once 1 parse-unsigned-kinds.ps parse-unsigned-kinds.r parse-unsigned.Post
parse_unsigned_once κs a x y d e p q = p ∙ sym q

parse_signed_once : Once 1 parse-signed-kinds.ps parse-signed-kinds.r parse-signed.Post
parse_signed_once κs a x y d e p q = p ∙ sym q

parse_digits_once : Once 1 parse-digits-kinds.ps parse-digits-kinds.r parse_digits.Post
parse_digits_once κs a x y d e p q = p ∙ sym q

-- Worked examples.
use Rattle.std.specs.Prelude.{◌≡◌, refl}
use Rattle.letters.specs.Capitals.{raised}
use Rattle.decimal.specs.Digits.{digits, decimal}
use Rattle.fields.specs.Written.{field_text, header_text}
use Rattle.headers.specs.Headers.{journal_header, journal_fields}

-- the journal's header is a header of its two fields
journal : header_text journal_fields ≡ journal_header
unfolding field_text raised digits decimal
journal = refl

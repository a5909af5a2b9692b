-- Worked examples.
use Rattle.std.specs.declared.cmp.Ordering.TheVariants.{Less, Greater}
use Rattle.std.specs.Prelude.{◌≡◌, refl, true, false, [], ◌∷◌}
use Rattle.letters.specs.Capitals.{raised, capitals}
use Rattle.letters.specs.Same.{same, same_raised}
use Rattle.letters.specs.Order.{order_raised}

-- "w1aw" in capitals is "W1AW"
call : capitals (119 ∷ 49 ∷ 97 ∷ 119 ∷ []) ≡ 87 ∷ 49 ∷ 65 ∷ 87 ∷ []
unfolding raised
call = refl

-- "40M" is "40m" but for case
band : same_raised (52 ∷ 48 ∷ 77 ∷ []) (52 ∷ 48 ∷ 109 ∷ []) ≡ true
unfolding same_raised raised
band = refl

-- and is not "40m" as it stands
band_as_it_stands : same (52 ∷ 48 ∷ 77 ∷ []) (52 ∷ 48 ∷ 109 ∷ []) ≡ false
band_as_it_stands = refl

-- "CALL" stands before "call_", and "FREQ" before "freq_rx"
shorter_first : order_raised (67 ∷ 65 ∷ []) (99 ∷ 97 ∷ 95 ∷ []) ≡ Less
unfolding order_raised raised
shorter_first = refl

-- "a_" stands after "AZ" in capitals: '_' is above 'Z'
underscore : order_raised (97 ∷ 95 ∷ []) (65 ∷ 90 ∷ []) ≡ Greater
unfolding order_raised raised
underscore = refl

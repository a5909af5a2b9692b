-- The answers, what is UTF-8 and what is within the limit. Assumes nothing.
use Rattle.std.specs.Prelude.{Result, Ok, Err}
use mathlib.Core.Path.{◌≡◌, refl, sym, ◌∙◌}
use mathlib.Core.Bool.{Bool, true, false}
use mathlib.Core.List.{List}
use Prim.Native.Nat.{ℕ}
use lib.ListN.{length}
use Rattle.refusals.specs.Written.{fitted}
use Rattle.refusals.specs.declared.Refusal.{Refusal}
use Rattle.refusals.specs.declared.Refusal.TheVariants.{TooLong, BadRow}
use Rattle.output.specs.Put.{Put}
use Rattle.headers.specs.Answer.{capped}
use Rattle.headers.proofs.AnswerLaws.{fit_is, exact_done}
use Rattle.station.specs.Station.{station_text, all7}
use Rattle.station.specs.Answer.{short7, station_by, station_answer}

module _ (call grid name state county cq itu was : List ℕ) (g : Bool) (eg : g ≡ all7 call grid name state county cq itu) where
  pub bad_text : g ≡ false → Err BadRow ≡ station_answer call grid name state county cq itu (length was)
  unfolding station_answer station_by
  bad_text h = rw (← eg, h) refl

  module _ (h : g ≡ true) (s : Bool) (es : s ≡ short7 call grid name state county cq itu) where
    pub long_text : s ≡ false → Err TooLong ≡ station_answer call grid name state county cq itu (length was)
    unfolding station_answer station_by
    long_text k = rw (← eg, h, ← es, k) refl

    module _ (k : s ≡ true) (n : ℕ) (e : n ≡ capped (length (station_text call grid name state county cq itu))) (f : Result ℕ Refusal)
        (ef : f ≡ fitted (Ok n) (length was)) where
      answer : fitted (Ok (length (station_text call grid name state county cq itu))) (length was) ≡ station_answer call grid name state county cq itu (length was)
      unfolding station_answer station_by
      answer = rw (← eg, h, ← es, k) refl

      measured : f ≡ fitted (Ok (length (station_text call grid name state county cq itu))) (length was)
      measured = fit_is was (station_text call grid name state county cq itu) n e f ef

      pub unfit : (why : Refusal) → f ≡ Err why → Err why ≡ station_answer call grid name state county cq itu (length was)
      unfit why ew = sym ew ∙ measured ∙ answer

      pub done : (m : ℕ) → f ≡ Ok m → (r : ℕ) (now : List ℕ) → Put r was now 0 (station_text call grid name state county cq itu)
          → Ok r ≡ station_answer call grid name state county cq itu (length was)
      done m em r now p = exact_done was (station_text call grid name state county cq itu) f measured m em r now p ∙ answer

-- What the definitions give for known octets and rows of a direction.
use Rattle.std.proofs.Common.{◌≡◌, List, [], ◌∷◌, refl, ◌∙◌, sym, arith, ℕ, Some, false, inl, inr, lit<}
use Rattle.std.specs.Prelude.{Option}
use Rattle.smq_reassembly.specs.Stream.{IsGap}
use Rattle.smq_streams.specs.KnownCalls.{came}
use Rattle.smq_streams.proofs.KnownCalls.{known_calls}
use Rattle.smq_capture.specs.Flow.{AreParts}
use Rattle.smq_capture.specs.GoingOn.{HasOctets}
use Rattle.smq_capture.specs.KnownRows.{five}
use Rattle.smq_capture.specs.KnownFlow.{KnowsFlow, ended}

three-four : ◌≡◌ {A = Option ℕ} (Some 3) (Some 4) → ⊥
three-four e = let same = e in absurd (cc)

not-settled : HasOctets false 4 (five [] ∷ []) (five (3 ∷ []) ∷ []) → ⊥
not-settled (inl e) = absurd (cc)
not-settled (inr (inl e)) = absurd (three-four e.1)
not-settled (inr (inr e)) = e

no-gap : IsGap came 3 4 → ⊥
no-gap g = let some = g.some in cc

pub known_flow : KnowsFlow
known_flow = record {
  moments = refl;
  moments_from = refl;
  last = refl;
  client = refl;
  centre = refl;
  put = refl;
  place = refl;
  parts = (
    refl,
    ([], refl),
    record { begins = known_calls.streams.0.1.0; gap = known_calls.fit.1.1.1.1.1.0.1 },
    refl,
  );
  no_gap = λ h. no-gap h.2.gap;
  no_place = λ h. let e = h.0 in absurd (omega (arith, e));
  no_start = λ h. absurd (omega (arith, h));
  client_is = λ flow. refl;
  centre_is = λ flow. refl;
  client_with = λ d flow. refl;
  centre_with = λ d flow. refl;
  client_other = refl;
  centre_other = refl;
  client_signs = λ both. refl;
  centre_signs = λ both. refl;
  had = inl refl;
  settled = inr (inl (lit< tt, refl));
  other = λ h. not-settled h;
  waits = λ given d row h. let e = h.1 in absurd (cc);
  follows = λ given d f is h. let e = h.2 in absurd (cc);
  far = λ s side d h. h.0;
}

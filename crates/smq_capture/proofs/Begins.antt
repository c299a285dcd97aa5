-- Where a PDU begins behind octets that were settled.
use Rattle.std.proofs.Common.{ℕ, ◌+◌, ◌<◌, ◌≤◌, List, ◌++◌, length, take, drop, refl, ap, subst, ◌∙◌, append_assoc, arith, length-drop}
use Rattle.std.proofs.lemmas.List.{drop-drop, take-append-drop}
use Rattle.std.specs.Prelude.{Some, None}
use Rattle.smq_streams.specs.declared.framer.Framer.{Framer}
use Rattle.smq_streams.specs.declared.framer.Framer.TheVariants.{Broken, Left, Length}
use Rattle.smq_streams.specs.Framing.{IsFramed}
use Rattle.smq_capture.specs.Sessions.{Begins, BeginsNone, FindsNext}

-- a PDU begins at an octet that is there
pub next-within : (framer : Framer) (settled octets : List ℕ) (at : ℕ) → IsFramed settled framer → FindsNext framer octets (Some at)
    → at < length octets
next-within Broken settled octets at f h = let w = (h.0 refl).0.header.whole in omega (arith, w)
next-within (Left left) settled octets at f h = (h.1 f.rest f.under_way (λ e. absurd (cc))).0
next-within (Length count number) settled octets at f h = (h.1 f.rest f.under_way (λ e. absurd (cc))).0

pub begins : (settled octets : List ℕ) (skipped behind : ℕ) (mid after : Framer) → skipped ≤ length octets
    → IsFramed (settled ++ take skipped octets) mid → FindsNext mid (drop skipped octets) (Some behind)
    → IsFramed (drop behind (drop skipped octets)) after → Begins settled octets skipped after (skipped + behind)
begins settled octets skipped behind mid after l f h k =
    let within = next-within mid (settled ++ take skipped octets) (drop skipped octets) behind f h in
    record {
      framer = mid;
      framed = f;
      behind = behind;
      finds = h;
      place_is = refl;
      within = omega (arith, within, length-drop skipped octets);
      anew = subst (λ (xs : List ℕ). IsFramed xs after) (drop-drop behind skipped octets) k;
    }

pub begins-none : (settled octets : List ℕ) (skipped : ℕ) (mid after : Framer)
    → IsFramed (settled ++ take skipped octets) mid → FindsNext mid (drop skipped octets) None
    → IsFramed (settled ++ take skipped octets ++ drop skipped octets) after → BeginsNone settled octets skipped after
begins-none settled octets skipped mid after f h k = record {
  framer = mid;
  framed = f;
  finds = h;
  all = subst (λ (xs : List ℕ). IsFramed xs after)
      (append_assoc settled (take skipped octets) (drop skipped octets)
      ∙ ap (λ (xs : List ℕ). settled ++ xs) (take-append-drop skipped octets)) k;
}

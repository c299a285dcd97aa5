-- The offsets of PDUs by their indexes.
use Rattle.std.proofs.Common.{◌≡◌, ℕ, [], ◌∷◌, length, take, Option, Some, None, refl, sym, ap, ◌∙◌, subst}
use Rattle.std.specs.Prelude.{option_map, slice_get}
use Rattle.std.proofs.lemmas.Option.{option_and_then_some}
use Rattle.smq_kit.specs.declared.place.Dir.{Dir}
use Rattle.smq_pdu.specs.Header.{Header}
use Rattle.smq_pair.specs.within.Turns.{Turn}
use Rattle.smq_pair.specs.Pairing.{PlacedHeader, PairingValue, pdus_from, opposite}
use Rattle.smq_pair.specs.Growth.{pushed}
use Rattle.smq_pair.specs.within.Turns.{headers_from, index_at, later, next_of, partner, partner_of, series_of, turn_of}
use Rattle.smq_pair.specs.within.Waits.{offset_at}
use Rattle.smq_pair.proofs.Lists.{get-last, get-front, get-mapped}
use Rattle.smq_pair.proofs.Turned.{by_dir, pushed-apart, pushed-by, series-has, turn_parts, turn-stands}

-- ---- an index that is found is that of a PDU

-- where an index is, a PDU stands there
abbrev pub StandsBy : PairingValue → Dir → Option ℕ → Type 0
StandsBy v d o = (j : ℕ) → o ≡ Some j → (p : PlacedHeader) × (slice_get (pdus_from d v) j ≡ Some p)

pub index-pdu : (v : PairingValue) (t : Turn) → StandsBy v t.series.dir (index_at v t)
index-pdu v t j e = let s = turn-stands v t j e in get-mapped (λ (p : PlacedHeader). p.header) (pdus_from t.series.dir v) j s.header s.at

pub partner-pdu : (v : PairingValue) (d : Dir) (i : ℕ) (h : Header) → StandsBy v (opposite d) (partner_of v d i h)
partner-pdu v d i h j e = option_and_then_some (λ t. index_at v (partner t)) (turn_of v d i h) j e (λ t is at.
    let has = series-has d h t.series (turn_parts (take i (headers_from d v)) (series_of d h) t is).0 in
    subst (λ (d' : Dir). (p : PlacedHeader) × (slice_get (pdus_from (opposite d') v) j ≡ Some p)) has.dir (index-pdu v (partner t) j at))

pub next-pdu : (v : PairingValue) (d : Dir) (i : ℕ) (h : Header) → StandsBy v d (next_of v d i h)
next-pdu v d i h j e = option_and_then_some (λ t. index_at v (later t)) (turn_of v d i h) j e (λ t is at.
    let has = series-has d h t.series (turn_parts (take i (headers_from d v)) (series_of d h) t is).0 in
    subst (λ (d' : Dir). (p : PlacedHeader) × (slice_get (pdus_from d' v) j ≡ Some p)) has.dir (index-pdu v (later t) j at))

-- ---- offsets

pub offset-there : (v : PairingValue) (d : Dir) (i : ℕ) (p : PlacedHeader) → slice_get (pdus_from d v) i ≡ Some p → offset_at v d (Some i) ≡ Some p.place.offset
offset-there v d i p at = ap (option_map (λ (x : PlacedHeader). x.place.offset)) at

module _ (v : PairingValue) (p : PlacedHeader) where
  pub get_after : (d : Dir) (i : ℕ) (x : PlacedHeader) → slice_get (pdus_from d v) i ≡ Some x
      → slice_get (pdus_from d (pushed v p)) i ≡ Some x
  get_after d i x at = by_dir d p.place.dir
      (λ same. ap (λ ps. slice_get ps i) (pushed-by d v p same) ∙ get-front (pdus_from d v) (p ∷ []) i x at)
      (λ apart. ap (λ ps. slice_get ps i) (pushed-apart d p.place.dir v p apart) ∙ at)

  pub own-at : slice_get (pdus_from p.place.dir (pushed v p)) (length (pdus_from p.place.dir v)) ≡ Some p
  own-at =
      ap (λ ps. slice_get ps (length (pdus_from p.place.dir v))) (pushed-by p.place.dir v p refl) ∙ get-last (pdus_from p.place.dir v) p

  -- what stood before one PDU more keeps its offset
  pub offset-stays : (d : Dir) (o : Option ℕ) → StandsBy v d o → offset_at (pushed v p) d o ≡ offset_at v d o
  offset-stays d None stands = refl
  offset-stays d (Some i) stands =
      let x = stands i refl in
      offset-there (pushed v p) d i x.0 (get_after d i x.0 x.1) ∙ sym (offset-there v d i x.0 x.1)

  -- and it has its own, the last of its direction
  pub offset-last : offset_at (pushed v p) p.place.dir (Some (length (pdus_from p.place.dir v))) ≡ Some p.place.offset
  offset-last = offset-there (pushed v p) p.place.dir (length (pdus_from p.place.dir v)) p own-at

-- The part that is had for the place of a PDU is its own: the places of all PDUs that are present differ.
use Rattle.std.proofs.Common.{◌≡◌, ◌≢◌, ℕ, ◌+◌, ◌<◌, ◌≤◌, Bool, true, false, cond, List, [], ◌∷◌, ◌++◌, Option, Some, None, refl, sym, ap, ◌∙◌, subst, arith, append_assoc, append-nil}
use Rattle.std.specs.Prelude.{map, option_and_then}
use Rattle.std.specs.Option.{option_or}
use Rattle.std.specs.Ordering.{eq_by_cmp}
use Rattle.std.specs.FinMap.{find, get}
use Rattle.smq_kit.specs.declared.place.Dir.{Dir}
use Rattle.smq_kit.specs.declared.place.Dir.TheVariants.{FromClient, FromCentre}
use Rattle.smq_kit.specs.declared.place.Place.{Place}
use Rattle.smq_kit.specs.Orders.{place_cmp}
use Rattle.smq_kit.proofs.MapLemmas as maps
use Rattle.smq_kit.proofs.PlaceOrders.{places_total, places_exact}
use Rattle.smq_present.specs.declared.present.kept.StoredPdu.{StoredPdu}
use Rattle.smq_present.specs.declared.present.session.Session.{Session}
use Rattle.smq_present.specs.present.Kept.{kept_pdus}
use Rattle.smq_present.specs.present.Present.{PresentValue}
use Rattle.smq_present.specs.pairing.Traffic.{Origin, origin_of, place_of, with_earlier}
use Rattle.smq_present.specs.within.Lists.{source_of}
use Rattle.smq_present.specs.within.Pairs.{Rises}
use Rattle.smq_present.proofs.lemmas.pairing.Paired.{above}
use Rattle.smq_present.proofs.lemmas.pairing.PlacesRise.{Rising, kept-rise}
use Rattle.smq_present.proofs.lemmas.pairing.SessionTraffic.{find-both, rising-own, said-at, session_number}
use Rattle.smq_deal.specs.Keys.{opposite}
use Rattle.smq_deal.specs.Parts.{RuleValue, part_map, part_of, placed_parts}

-- ---- a direction

-- an earlier PDU stands at another place
elsewhere : (o : Origin) (d : Dir) (p x : StoredPdu) → x.offset < p.offset → eq_by_cmp place_cmp (place_of o d p) (place_of o d x) ≡ false
elsewhere o d p x h = by (eq_by_cmp place_cmp (place_of o d p) (place_of o d x)) refl
  where
    by : (b : Bool) → eq_by_cmp place_cmp (place_of o d p) (place_of o d x) ≡ b → b ≡ false
    by true e =
        let same : p.offset ≡ x.offset =
        ap (λ (q : Place). q.offset) (maps.same_key places_total places_exact (place_of o d p) (place_of o d x) e) in
        absurd (omega (arith, h, same))
    by false e = refl

-- none is found in another direction
other-direction : {X : Type 0} (n : ℕ) (dir : Dir) (low : ℕ) (q : Place) (es : List (Place × X)) → (q.dir ≡ dir → ⊥)
    → Rising n dir low es → find place_cmp q es ≡ None
other-direction n dir low q [] h r = refl
other-direction n dir low q (e ∷ es) h r = by (other-direction n dir (e.0.offset + 1) q es h r.3) (eq_by_cmp place_cmp q e.0) refl
  where
    by : find place_cmp q es ≡ None → (b : Bool) → eq_by_cmp place_cmp q e.0 ≡ b → cond b (Some e.1) (find place_cmp q es) ≡ None
    by rest true t = absurd (h (ap (λ (p : Place). p.dir) (maps.same_key places_total places_exact q e.0 t) ∙ r.1))
    by rest false t = rest

module _ {Y : Type 0} (o : Origin) (d : Dir) (f : List StoredPdu → StoredPdu → Y) where
  -- what is said of each PDU, at its place
  abbrev pub placed_with : List StoredPdu → List StoredPdu → List (Place × Y)
  placed_with before ps = map (λ x. (place_of o d x.1, f x.0 x.1)) (with_earlier before ps)

  placed-rise : (before : List StoredPdu) (low : ℕ) (ps : List StoredPdu) → Rises low ps → Rising o.session.0 d low (placed_with before ps)
  placed-rise before low [] h = tt
  placed-rise before low (p ∷ ps) h = (refl, refl, h.0, placed-rise (before ++ p ∷ []) (p.offset + 1) ps h.1)

  placed-found : (before : List StoredPdu) (low : ℕ) (earlier later : List StoredPdu) (p : StoredPdu) → Rises low (earlier ++ p ∷ later)
      → find place_cmp (place_of o d p) (placed_with before (earlier ++ p ∷ later)) ≡ Some (f (before ++ earlier) p)
  placed-found before low [] later p r =
      maps.find-first places_total places_exact (place_of o d p, f before p) (placed_with (before ++ p ∷ []) later)
      ∙ ap (λ es. Some (f es p)) (sym (append-nil before))
  placed-found before low (x ∷ earlier) later p r =
      ap (λ b. cond b (Some (f before x)) (find place_cmp (place_of o d p) (placed_with (before ++ x ∷ []) (earlier ++ p ∷ later))))
      (elsewhere o d p x (let more : x.offset + 1 ≤ p.offset = above (x.offset + 1) earlier later p r.1 in omega (arith, more)))
      ∙ placed-found (before ++ x ∷ []) (x.offset + 1) earlier later p r.1
      ∙ ap (λ es. Some (f es p)) (append_assoc before (x ∷ []) earlier)

-- ---- all sessions

-- the PDUs of a direction
abbrev pub kept_from : Dir → Session → List StoredPdu
kept_from FromClient s = kept_pdus s.client
kept_from FromCentre s = kept_pdus s.centre

not_client : FromCentre ≡ FromClient → ⊥
not_client e = absurd cc

module _ (rule : RuleValue) (p : PresentValue) where
  abbrev of_client : ℕ × Session → List (Place × ℕ)
  of_client e = placed_parts rule p e FromClient (kept_pdus e.1.client) (kept_pdus e.1.centre)

  abbrev of_centre : ℕ × Session → List (Place × ℕ)
  of_centre e = placed_parts rule p e FromCentre (kept_pdus e.1.centre) (kept_pdus e.1.client)

  client-rise : (e : ℕ × Session) → Rising e.0 FromClient 0 (of_client e)
  client-rise e = placed-rise (origin_of e) FromClient (part_of rule (source_of p.settings e) FromClient (kept_pdus e.1.centre)) [] 0
      (kept_pdus e.1.client) (kept-rise e.1.client)

  centre-rise : (e : ℕ × Session) → Rising e.0 FromCentre 0 (of_centre e)
  centre-rise e = placed-rise (origin_of e) FromCentre (part_of rule (source_of p.settings e) FromCentre (kept_pdus e.1.client)) [] 0
      (kept_pdus e.1.centre) (kept-rise e.1.centre)

  own : (e : ℕ × Session) (q : Place) → session_number q ≢ e.0 → find place_cmp q (of_client e ++ of_centre e) ≡ None
  own e q h =
      find-both place_cmp q (of_client e) (of_centre e)
      ∙ (λ i. option_or (rising-own e.0 FromClient 0 q (of_client e) h (client-rise e) i)
      (rising-own e.0 FromCentre 0 q (of_centre e) h (centre-rise e) i))

  -- the parts of a session's PDUs are had at its places
  in-session : (n : ℕ) (s : Session) → get p.sessions n ≡ Some s → (q : Place) → session_number q ≡ n
      → get (part_map rule p) q ≡ option_or (find place_cmp q (of_client (n, s))) (find place_cmp q (of_centre (n, s)))
  in-session n s there q here =
      said-at places_total places_exact session_number (λ e. of_client e ++ of_centre e) own p.sessions q
      ∙ (λ i. option_and_then (λ s. find place_cmp q (of_client (here i, s) ++ of_centre (here i, s))) (get p.sessions (here i)))
      ∙ ap (option_and_then (λ s. find place_cmp q (of_client (n, s) ++ of_centre (n, s)))) there
      ∙ find-both place_cmp q (of_client (n, s)) (of_centre (n, s))

  -- the part that is had for the place of a PDU
  pub part-there : (d : Dir) (n : ℕ) (s : Session) → get p.sessions n ≡ Some s → (earlier later : List StoredPdu) (x : StoredPdu)
      → kept_from d s ≡ earlier ++ x ∷ later → get (part_map rule p) (place_of (origin_of (n, s)) d x)
      ≡ Some (part_of rule (source_of p.settings (n, s)) d (kept_from (opposite d) s) earlier x)
  part-there FromClient n s there earlier later x all =
      let q = place_of (origin_of (n, s)) FromClient x in
      let part = part_of rule (source_of p.settings (n, s)) FromClient (kept_pdus s.centre) in
      in-session n s there q refl
      ∙ ap (λ (found : Option ℕ). option_or found (find place_cmp q (of_centre (n, s))))
      (ap (λ ps. find place_cmp q (placed_with (origin_of (n, s)) FromClient part [] ps)) all
      ∙ placed-found (origin_of (n, s)) FromClient part [] 0 earlier later x (subst (λ ps. Rises 0 ps) all (kept-rise s.client)))
  part-there FromCentre n s there earlier later x all =
      let q = place_of (origin_of (n, s)) FromCentre x in
      let part = part_of rule (source_of p.settings (n, s)) FromCentre (kept_pdus s.client) in
      in-session n s there q refl
      ∙ ap (λ (found : Option ℕ). option_or found (find place_cmp q (of_centre (n, s))))
      (other-direction n FromClient 0 q (of_client (n, s)) not_client (client-rise (n, s)))
      ∙ ap (λ ps. find place_cmp q (placed_with (origin_of (n, s)) FromCentre part [] ps)) all
      ∙ placed-found (origin_of (n, s)) FromCentre part [] 0 earlier later x (subst (λ ps. Rises 0 ps) all (kept-rise s.centre))

-- The parts of PDUs and of directions, one more at a time.
use Rattle.std.proofs.Common.{◌≡◌, ℕ, ◌+◌, ◌<◌, List, [], ◌∷◌, ◌++◌, length, take, get_or, append_assoc, append-nil, sym, ap, ◌∙◌}
use Rattle.std.specs.Prelude.{map}
use Rattle.std.specs.FinMap as fin
use Rattle.std.specs.List.{flat_map}
use Rattle.std.proofs.lemmas.Grind.{flat_map-append}
use Rattle.std.proofs.lemmas.List.{map-append, take_more}
use Rattle.std.proofs.lemmas.List.Folds.{flat_map-map}
use Rattle.smq_kit.specs.declared.place.Dir.{Dir}
use Rattle.smq_kit.specs.declared.place.Dir.TheVariants.{FromClient, FromCentre}
use Rattle.smq_present.specs.declared.pairing.pairs.SessionForms.{SessionForms}
use Rattle.smq_present.specs.declared.present.kept.StoredPdu.{StoredPdu}
use Rattle.smq_present.specs.pairing.Traffic.{with_earlier}
use Rattle.smq_present.specs.present.Kept.{kept_pdus}
use Rattle.smq_present.specs.present.Present.{PresentValue}
use Rattle.smq_present.specs.within.Sourced.{SessionView, sourced_by, sourced_of}
use Rattle.smq_deal.specs.Parts.{RuleValue, all_parts, part_of, parts_of}

-- ---- a direction

-- one PDU more stands after the others
pub earlier-last : (earlier ps : List StoredPdu) (p : StoredPdu)
    → with_earlier earlier (ps ++ p ∷ []) ≡ with_earlier earlier ps ++ (earlier ++ ps, p) ∷ []
earlier-last earlier [] p = ap (λ (es : List StoredPdu). (es, p) ∷ []) (sym (append-nil earlier))
earlier-last earlier (x ∷ ps) p =
    ap (λ es. (earlier, x) ∷ es) (earlier-last (earlier ++ x ∷ []) ps p
    ∙ ap (λ (es : List StoredPdu). with_earlier (earlier ++ x ∷ []) ps ++ (es, p) ∷ []) (append_assoc earlier (x ∷ []) ps))

module _ (rule : RuleValue) (source : SessionForms) (dir : Dir) (mine other : List StoredPdu) (i : ℕ) (p : StoredPdu) (h : i < length mine)
    (is : p ≡ get_or mine i p) where
  parts-more : parts_of rule source dir (take (i + 1) mine) other
      ≡ parts_of rule source dir (take i mine) other ++ part_of rule source dir other (take i mine) p ∷ []
  parts-more =
      ap (λ ps. parts_of rule source dir ps other) (take_more mine i p h ∙ ap (λ (q : StoredPdu). take i mine ++ q ∷ []) (sym is))
      ∙ ap (map (λ e. part_of rule source dir other e.0 e.1)) (earlier-last [] (take i mine) p)
      ∙ map-append (λ e. part_of rule source dir other e.0 e.1) (with_earlier [] (take i mine)) ((take i mine, p) ∷ [])

  -- the parts of the PDUs before one, with its own after them
  pub part-pushed : (old new : List ℕ) (part : ℕ) → old ≡ parts_of rule source dir (take i mine) other
      → part ≡ part_of rule source dir other (take i mine) p → new ≡ old ++ part ∷ []
      → new ≡ parts_of rule source dir (take (i + 1) mine) other
  part-pushed old new part so own pushed = pushed ∙ (λ k. so k ++ own k ∷ []) ∙ sym parts-more

-- ---- sessions

module _ (rule : RuleValue) where
  -- the parts of the client's direction of a session
  abbrev pub client_parts : SessionView → List ℕ
  client_parts v = parts_of rule v.source FromClient (kept_pdus v.session.client) (kept_pdus v.session.centre)

  -- those of the centre's
  abbrev pub centre_parts : SessionView → List ℕ
  centre_parts v = parts_of rule v.source FromCentre (kept_pdus v.session.centre) (kept_pdus v.session.client)

  -- those of both
  abbrev pub view_parts : SessionView → List (List ℕ)
  view_parts v = client_parts v ∷ centre_parts v ∷ []

  -- those of the sessions that are present
  pub views-all : (p : PresentValue) → flat_map view_parts (sourced_of p) ≡ all_parts rule p
  views-all p = flat_map-map view_parts (sourced_by p.settings) (fin.entries p.sessions)

  module _ (views : List SessionView) (i : ℕ) (v : SessionView) (h : i < length views) (is : v ≡ get_or views i v) where
    views-more : flat_map view_parts (take (i + 1) views) ≡ flat_map view_parts (take i views) ++ view_parts v
    views-more =
        ap (flat_map view_parts) (take_more views i v h ∙ ap (λ (w : SessionView). take i views ++ w ∷ []) (sym is))
        ∙ flat_map-append view_parts (take i views) (v ∷ [])

    -- those of the sessions before one, with its own after them
    pub view-pushed : {A : Type 0} (f : A → List ℕ) (old new newer : List A) (client centre : A)
        → map f old ≡ flat_map view_parts (take i views) → new ≡ old ++ client ∷ []
        → newer ≡ new ++ centre ∷ [] → f client ≡ client_parts v → f centre ≡ centre_parts v
        → map f newer ≡ flat_map view_parts (take (i + 1) views)
    view-pushed f old new newer client centre so first second of_client of_centre =
        ap (map f) (second ∙ ap (λ xs. xs ++ centre ∷ []) first ∙ append_assoc old (client ∷ []) (centre ∷ []))
        ∙ map-append f old (client ∷ centre ∷ [])
        ∙ (λ k. so k ++ of_client k ∷ of_centre k ∷ [])
        ∙ sym views-more

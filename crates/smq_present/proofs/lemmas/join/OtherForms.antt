-- Forms of a link on which nothing has a key.
use Rattle.std.proofs.Common.{◌≡◌, ◌≢◌, Bool, true, false, Some, None, refl, sym, ap, ◌∙◌}
use Rattle.std.specs.Prelude.{◌==◌, option_map}
use Rattle.std.proofs.lemmas.Bool.{eqb-true, eqb-false}
use Rattle.std.specs.FinMap.{get}
use Rattle.smq_kit.specs.declared.names.LinkId.{LinkId}
use Rattle.smq_kit.specs.declared.place.Place.{Place}
use Rattle.smq_kit.proofs.PlaceOrders.{places_total, places_exact}
use Rattle.smq_kit.proofs.MapLemmas as maps
use Rattle.smq_present.specs.declared.present.forms.Forms.{Forms}
use Rattle.smq_present.specs.present.Settings.{SettingsValue, forms_of}
use Rattle.smq_present.specs.pairing.Traffic.{TrafficValue, Message, ReceivedReceipt}
use Rattle.smq_kit.specs.LinkKeys.{link_key}
use Rattle.smq_group.specs.Matching.{submit_standing}
use Rattle.smq_present.specs.join.Keyed.{accepted_id, accepted_key, keyed_receipt, can_decide, grouping_of}
use Rattle.smq_present.specs.join.Circumstances.{circumstances, decider_in, route_in, lapsed_in}
use Rattle.smq_present.specs.join.Facts.{fact_in_circumstances, facts_of}

module _ (s z : SettingsValue) (t : TrafficValue) (link : LinkId)
    (windows : s.windows ≡ z.windows) (versions : s.versions ≡ z.versions) (clock : s.clock ≡ z.clock)
    (others : (l : LinkId) → l ≢ link → forms_of s l ≡ forms_of z l)
    (no_message : (q : Place) (m : Message) → get t.messages q ≡ Some m → m.link ≡ link → accepted_id m.response ≡ None)
    (no_receipt : (q : Place) (r : ReceivedReceipt) → get t.receipts q ≡ Some r → r.link ≢ link) where
  same-key : (m : Message) → (m.link ≡ link → accepted_id m.response ≡ None) → accepted_key s m ≡ accepted_key z m
  same-key m h = by (m.link.0 == link.0) refl
    where
      by : (b : Bool) → (m.link.0 == link.0) ≡ b → accepted_key s m ≡ accepted_key z m
      by true e =
          let none = h (λ i. record { 0 = eqb-true m.link.0 link.0 e i }) in
          ap (option_map (link_key m.link (forms_of s m.link).response)) none
          ∙ sym (ap (option_map (link_key m.link (forms_of z m.link).response)) none)
      by false e = ap (λ (forms : Forms). option_map (link_key m.link forms.response) (accepted_id m.response))
          (others m.link (λ same. eqb-false m.link.0 link.0 e (ap (λ (l : LinkId). l.0) same)))

  same-keyed : (r : ReceivedReceipt) → r.link ≢ link → keyed_receipt s r ≡ keyed_receipt z r
  same-keyed r h = λ i. record { key = link_key r.link ((others r.link h) i).receipt r.receipt.id; moment = r.moment; decides = can_decide r.receipt }

  -- the groups don't know them
  pub grouping-ignores : grouping_of s t ≡ grouping_of z t
  grouping-ignores =
      let submits = maps.chosen-alike places_total places_exact (λ place m. accepted_key s m) (λ place m. accepted_key z m)
      t.messages (λ q m e. same-key m (no_message q m e)) in
      let receipts = maps.chosen-alike places_total places_exact (λ place r. Some (keyed_receipt s r))
      (λ place r. Some (keyed_receipt z r)) t.receipts (λ q r e. ap Some (same-keyed r (no_receipt q r e))) in
      λ i. record { submits = submits i; receipts = receipts i }

  -- nor do the facts
  pub facts-ignore : facts_of s t ≡ facts_of z t
  facts-ignore = maps.chosen-alike places_total places_exact (λ q m. Some (fact_in_circumstances q m (circumstances s t m)))
      (λ q m. Some (fact_in_circumstances q m (circumstances z t m))) t.messages (λ q m e i.
      Some (fact_in_circumstances q m (record {
        standing = option_map (submit_standing (grouping-ignores i)) (same-key m (no_message q m e) i);
        decider = decider_in t (option_map (submit_standing (grouping-ignores i)) (same-key m (no_message q m e) i));
        route = route_in (versions i) m;
        lapsed = lapsed_in (record s { windows = windows i; clock = clock i }) m;
      })))

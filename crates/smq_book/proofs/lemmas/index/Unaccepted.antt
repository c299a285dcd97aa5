-- What is known of a message that isn't accepted rests on its own route alone, and says that no receipt is due.
use Rattle.std.proofs.Common.{◌≡◌, ℕ, Bool, true, false, cond, ◌||◌, List, Option, Some, None, refl, sym, ap, ◌∙◌}
use Rattle.std.specs.Prelude.{◌==◌, ◌&&◌, not, is_none, is_some, option_map}
use Rattle.std.specs.FinMap.{get}
use Rattle.std.proofs.lemmas.Bool.{false≢true}
use Rattle.smq_kit.specs.declared.place.Place.{Place}
use Rattle.smq_tally.specs.declared.fact.Fact.{Fact}
use Rattle.smq_group.specs.Matching.{submit_standing}
use Rattle.smq_present.specs.present.Settings.{SettingsValue}
use Rattle.smq_present.specs.pairing.Traffic.{Message, Response, TrafficValue}
use Rattle.smq_present.specs.join.Circumstances.{Circumstances, circumstances, circumstances_by, decider_in, lapsed_in, route_in}
use Rattle.smq_present.specs.join.Facts.{fact_in_circumstances, facts_of}
use Rattle.smq_present.specs.join.Keyed.{accepted_id, accepted_key, grouping_of}
use Rattle.smq_present.specs.join.Outcomes.{is_shared, outcome_by, responded, says_delivered}
use Rattle.smq_book.specs.edits.Reached.{is_due}
use Rattle.smq_book.proofs.lemmas.edits.WindowEdits.{undue}
use Rattle.smq_present.proofs.lemmas.join.Lapsing.{fact-lapses, outcome_of}
use Rattle.smq_present.proofs.lemmas.join.MoveLemmas.{fact-at}

no-id : (s : SettingsValue) (m : Message) (id : Option (List ℕ)) → accepted_id m.response ≡ id → accepted_key s m ≡ None → id ≡ None
no-id s m None is refused = refl
no-id s m (Some id) is refused = absurd cc

-- a condition of the response holds
fails : (r : Option Response) → accepted_id r ≡ None → (is_none r || (responded (λ r. not r.agrees) r
    || (responded (λ r. not (r.status == 0)) r || responded (λ r. is_none r.id) r))) ≡ true
fails None none = refl
fails (Some r) none = by r.agrees (r.status == 0) r.id none
  where
    by : (a b : Bool) (id : Option (List ℕ)) → cond (a && b) id None ≡ None → (not a || (not b || is_none id)) ≡ true
    by false b id none = refl
    by true false id none = refl
    by true true None none = refl
    by true true (Some id) none = absurd cc

undue-by : (w mi r n a d f u l : Bool) → (w || (mi || (r || n))) ≡ true → is_due (outcome_of w mi r n a d f u l) ≡ false
undue-by true mi r n a d f u l fails = refl
undue-by false true r n a d f u l fails = refl
undue-by false false true n a d f u l fails = refl
undue-by false false false true a d f u l fails = refl
undue-by false false false false a d f u l fails = absurd (false≢true fails)

module _ (s : SettingsValue) (m : Message) (refused : accepted_key s m ≡ None) where
  pub refused-undue : (c : Circumstances) → is_due (outcome_by m c) ≡ false
  refused-undue c =
      undue-by (is_none m.response) (responded (λ r. not r.agrees) m.response) (responded (λ r. not (r.status == 0)) m.response)
      (responded (λ r. is_none r.id) m.response)
      (is_shared c.standing) (says_delivered c.decider) (is_some c.decider) (not m.asks_receipt) c.lapsed
      (fails m.response (no-id s m (accepted_id m.response) refl refused))

  pub refused-fact : (t : TrafficValue) (q : Place) (f : Fact) → get t.messages q ≡ Some m
      → f ≡ fact_in_circumstances q m (circumstances_by None None (route_in s.versions m) false) → Some f ≡ get (facts_of s t) q
  refused-fact t q f there is =
      let c = circumstances_by None None (route_in s.versions m) false in
      ap Some is
      ∙ (λ i. Some (record (fact_in_circumstances q m c) { outcome = sym (undue (lapsed_in s m) (outcome_by m c) (refused-undue c)) i }))
      ∙ ap Some (sym (fact-lapses q m c (lapsed_in s m)))
      ∙ (λ i. Some (fact_in_circumstances q m (record {
        standing = option_map (submit_standing (grouping_of s t)) (sym refused i);
        decider = decider_in t (option_map (submit_standing (grouping_of s t)) (sym refused i));
        route = route_in s.versions m;
        lapsed = lapsed_in s m;
      })))
      ∙ sym (fact-at s t q ∙ ap (option_map (λ m. fact_in_circumstances q m (circumstances s t m))) there)

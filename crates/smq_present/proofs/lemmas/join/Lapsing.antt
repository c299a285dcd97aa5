-- The clock changes the outcome of open and lapsed messages alone, and no other part of a fact.
use Rattle.std.proofs.Common.{◌≡◌, ◌≢◌, ℕ, ◌+◌, ◌<◌, ◌≤◌, Bool, true, false, cond, [], ◌∷◌, Option, Some, None, refl, sym, ap, ◌∙◌, arith}
use Rattle.std.specs.Prelude.{◌==◌, not, nat_le, is_none, is_some, option_map, option_and_then, pos, ◌-ℤ◌}
use Rattle.std.specs.FinMap.{get}
use Rattle.std.proofs.lemmas.Bool.Decides.{nat_tests}
use Rattle.smq_kit.specs.declared.place.Place.{Place}
use Rattle.smq_tally.specs.Bands.{band_of}
use Rattle.smq_tally.specs.declared.fact.Fact.{Fact}
use Rattle.smq_tally.specs.declared.outcome.Outcome.{Outcome}
use Rattle.smq_tally.specs.declared.outcome.Outcome.TheVariants as o
use Rattle.smq_present.specs.present.Settings.{SettingsValue, with_clock}
use Rattle.smq_present.specs.pairing.Traffic.{TrafficValue, Message, Response, ReceivedReceipt}
use Rattle.smq_present.specs.join.Circumstances.{Circumstances, circumstances, window_of}
use Rattle.smq_present.specs.join.Outcomes.{responded, is_shared, is_decided, says_delivered, outcome_by, error_by, link_delay_by, centre_delay_by, first_that_holds}
use Rattle.smq_present.specs.join.Facts.{fact_in_circumstances, facts_of, by_lapse, with_lapse}
use Rattle.smq_present.proofs.lemmas.join.MoveLemmas.{fact-at, frame}
use Rattle.smq_present.proofs.lemmas.join.Routed.{routes_in}

-- the outcome by the conditions of the table
abbrev pub outcome_of : (waiting mismatched refused no_id ambiguous delivered failed unasked lapsed : Bool) → Outcome
outcome_of waiting mismatched refused no_id ambiguous delivered failed unasked lapsed =
    first_that_holds
    ((waiting, o.Waiting) ∷ (mismatched, o.Mismatched) ∷ (refused, o.Refused) ∷ (no_id, o.NoId) ∷ (ambiguous, o.Ambiguous)
    ∷ (delivered, o.Delivered) ∷ (failed, o.Failed) ∷ (unasked, o.Unasked) ∷ (lapsed, o.Lapsed) ∷ []) o.Open

-- ---- the outcome under another clock

lapse_of : (w mi r n a d f u l b : Bool) → outcome_of w mi r n a d f u b ≡ by_lapse b (outcome_of w mi r n a d f u l)
lapse_of true mi r n a d f u l b = refl
lapse_of false true r n a d f u l b = refl
lapse_of false false true n a d f u l b = refl
lapse_of false false false true a d f u l b = refl
lapse_of false false false false true d f u l b = refl
lapse_of false false false false false true f u l b = refl
lapse_of false false false false false false true u l b = refl
lapse_of false false false false false false false true l b = refl
lapse_of false false false false false false false false true true = refl
lapse_of false false false false false false false false true false = refl
lapse_of false false false false false false false false false true = refl
lapse_of false false false false false false false false false false = refl

pub outcome-lapses : (m : Message) (c : Circumstances) (b : Bool) → outcome_by m (record c { lapsed = b }) ≡ by_lapse b (outcome_by m c)
outcome-lapses m c b =
    lapse_of (is_none m.response) (responded (λ r. not r.agrees) m.response) (responded (λ r. not (r.status == 0)) m.response)
    (responded (λ r. is_none r.id) m.response)
    (is_shared c.standing) (says_delivered c.decider) (is_some c.decider) (not m.asks_receipt) c.lapsed b

error-stays : (b : Bool) (x : Outcome) (response : Option Response) (decider : Option ReceivedReceipt)
    → error_by (by_lapse b x) response decider ≡ error_by x response decider
error-stays true o.Open response decider = refl
error-stays false o.Open response decider = refl
error-stays true o.Lapsed response decider = refl
error-stays false o.Lapsed response decider = refl
error-stays b _ response decider = refl

decided-stays : (b : Bool) (x : Outcome) → is_decided (by_lapse b x) ≡ is_decided x
decided-stays true o.Open = refl
decided-stays false o.Open = refl
decided-stays true o.Lapsed = refl
decided-stays false o.Lapsed = refl
decided-stays b _ = refl

outcome-stays : (b : Bool) (x : Outcome) → x ≢ o.Open → x ≢ o.Lapsed → by_lapse b x ≡ x
outcome-stays b o.Open h l = absurd (h refl)
outcome-stays b o.Lapsed h l = absurd (l refl)
outcome-stays b _ h l = refl

pub fact-lapses : (q : Place) (m : Message) (c : Circumstances) (b : Bool) → fact_in_circumstances q m (record c { lapsed = b }) ≡ with_lapse b (fact_in_circumstances q m c)
fact-lapses q m c b =
    let outcome = outcome-lapses m c b in
    let decided = decided-stays b (outcome_by m c) in
    λ i. record {
      place = q;
      link = m.link;
      route = c.route;
      outcome = outcome i;
      error = (ap (λ x. error_by x m.response c.decider) outcome ∙ error-stays b (outcome_by m c) m.response c.decider) i;
      link_delay = (ap (λ x. link_delay_by x m.moment c.decider) outcome
          ∙ ap (λ z. cond z (option_map (λ r. band_of (pos r.moment -ℤ pos m.moment)) c.decider) None) decided) i;
      centre_delay = (ap (λ x. centre_delay_by x c.decider) outcome
          ∙ ap (λ z. cond z (option_map band_of (option_and_then (λ r. r.receipt.centre_delay) c.decider)) None) decided) i;
    }

-- ---- facts under another clock

module _ (s : SettingsValue) (clock : ℕ) (t : TrafficValue) (q : Place) where
  abbrev at_end : Message → Bool
  at_end m = nat_le (m.moment + window_of s m.link) clock

  lapsed_by : (m : Option Message) → option_map (λ m. fact_in_circumstances q m (circumstances (with_clock s clock) t m)) m
      ≡ option_map (λ m. with_lapse (at_end m) (fact_in_circumstances q m (circumstances s t m))) m
  lapsed_by None = refl
  lapsed_by (Some m) = ap Some (fact-lapses q m (circumstances s t m) (at_end m))

  pub lapsed : get (facts_of (with_clock s clock) t) q ≡ option_map (λ m. with_lapse (at_end m) (fact_in_circumstances q m (circumstances s t m)))
      (get t.messages q)
  lapsed = fact-at (with_clock s clock) t q ∙ lapsed_by (get t.messages q)

  others_by : (m : Option Message) (fact : Fact) → option_map (λ m. fact_in_circumstances q m (circumstances s t m)) m ≡ Some fact
      → fact.outcome ≢ o.Open → fact.outcome ≢ o.Lapsed
      → option_map (λ m. with_lapse (at_end m) (fact_in_circumstances q m (circumstances s t m))) m ≡ Some fact
  others_by None fact e h l = absurd cc
  others_by (Some m) fact e h l =
      let one : fact_in_circumstances q m (circumstances s t m) ≡ fact = cc in
      ap (λ f. Some (with_lapse (at_end m) f)) one ∙ (λ i. Some (record fact { outcome = outcome-stays (at_end m) fact.outcome h l i }))

  pub others : (fact : Fact) → get (facts_of s t) q ≡ Some fact → fact.outcome ≢ o.Open → fact.outcome ≢ o.Lapsed
      → get (facts_of (with_clock s clock) t) q ≡ Some fact
  others fact e h l = lapsed ∙ others_by (get t.messages q) fact (sym (fact-at s t q) ∙ e) h l

  pub same : ((m : Message) → get t.messages q ≡ Some m → nat_le (m.moment + window_of s m.link) clock
      ≡ nat_le (m.moment + window_of s m.link) s.clock)
      → get (facts_of (with_clock s clock) t) q ≡ get (facts_of s t) q
  same alike = frame (with_clock s clock) s t t q refl (λ m is i. record (circumstances s t m) { lapsed = alike m is i })

-- ---- a lapsed message has come to the end of its window, an open one hasn't

lapsed_from : (w mi r n a d f u l : Bool) → outcome_of w mi r n a d f u l ≡ o.Lapsed → l ≡ true
lapsed_from true mi r n a d f u l e = absurd cc
lapsed_from false true r n a d f u l e = absurd cc
lapsed_from false false true n a d f u l e = absurd cc
lapsed_from false false false true a d f u l e = absurd cc
lapsed_from false false false false true d f u l e = absurd cc
lapsed_from false false false false false true f u l e = absurd cc
lapsed_from false false false false false false true u l e = absurd cc
lapsed_from false false false false false false false true l e = absurd cc
lapsed_from false false false false false false false false true e = refl
lapsed_from false false false false false false false false false e = absurd cc

open_from : (w mi r n a d f u l : Bool) → outcome_of w mi r n a d f u l ≡ o.Open → l ≡ false
open_from true mi r n a d f u l e = absurd cc
open_from false true r n a d f u l e = absurd cc
open_from false false true n a d f u l e = absurd cc
open_from false false false true a d f u l e = absurd cc
open_from false false false false true d f u l e = absurd cc
open_from false false false false false true f u l e = absurd cc
open_from false false false false false false true u l e = absurd cc
open_from false false false false false false false true l e = absurd cc
open_from false false false false false false false false true e = absurd cc
open_from false false false false false false false false false e = refl

module _ (s : SettingsValue) (t : TrafficValue) (q : Place) (m : Message) (fact : Fact) (is : get t.messages q ≡ Some m)
    (made : get (facts_of s t) q ≡ Some fact) where
  outcome-told : outcome_by m (circumstances s t m) ≡ fact.outcome
  outcome-told = ap (λ (f : Fact). f.outcome) (routes_in s t q m (get t.messages q) fact is (sym (fact-at s t q) ∙ made))

  pub past-end : fact.outcome ≡ o.Lapsed → m.moment + window_of s m.link ≤ s.clock
  past-end e =
      let c = circumstances s t m in
      let test : nat_le (m.moment + window_of s m.link) s.clock ≡ true =
      lapsed_from (is_none m.response) (responded (λ r. not r.agrees) m.response) (responded (λ r. not (r.status == 0)) m.response)
      (responded (λ r. is_none r.id) m.response)
      (is_shared c.standing) (says_delivered c.decider) (is_some c.decider) (not m.asks_receipt) c.lapsed (outcome-told ∙ e) in
      grind (arith, nat_tests)

  pub before-end : fact.outcome ≡ o.Open → s.clock < m.moment + window_of s m.link
  before-end e =
      let c = circumstances s t m in
      let test : nat_le (m.moment + window_of s m.link) s.clock ≡ false =
      open_from (is_none m.response) (responded (λ r. not r.agrees) m.response) (responded (λ r. not (r.status == 0)) m.response)
      (responded (λ r. is_none r.id) m.response)
      (is_shared c.standing) (says_delivered c.decider) (is_some c.decider) (not m.asks_receipt) c.lapsed (outcome-told ∙ e) in
      grind (arith, nat_tests)

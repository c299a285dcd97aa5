-- A clock that goes on leaves the facts of all but the open messages whose window has ended by it, and all notes.
use Rattle.std.proofs.Common.{◌≡◌, ℕ, ◌+◌, ◌≤◌, Bool, true, false, cond, [], Option, Some, None, refl, sym, ap, ◌∙◌, arith}
use Rattle.std.specs.Prelude.{◌&&◌, nat_le, option_map}
use Rattle.std.specs.List.{list_any}
use Rattle.std.specs.Ordering.{eq_by_cmp}
use Rattle.std.specs.FinMap.{get, keys, same_map}
use Rattle.std.proofs.lemmas.Bool.{false≢true}
use Rattle.std.proofs.lemmas.Bool.Decides.{nat_tests}
use Rattle.smq_kit.specs.Maps.{SameOutside}
use Rattle.smq_kit.specs.Orders.{place_cmp}
use Rattle.smq_kit.specs.declared.place.Place.{Place}
use Rattle.smq_kit.proofs.PlaceOrders.{places_total, places_exact}
use Rattle.smq_tally.specs.declared.outcome.Outcome.{Outcome}
use Rattle.smq_tally.specs.declared.outcome.Outcome.TheVariants as o
use Rattle.smq_present.specs.present.Settings.{SettingsValue, with_clock}
use Rattle.smq_present.specs.pairing.Traffic.{TrafficValue, Message}
use Rattle.smq_present.specs.join.Circumstances.{circumstances, window_of}
use Rattle.smq_present.specs.join.Facts.{fact_in_circumstances, facts_of, by_lapse, with_lapse}
use Rattle.smq_book.specs.edits.Reached.{is_open, is_lapsed, outcome_in, due_by, lapsing}
use Rattle.smq_book.proofs.lemmas.edits.Passing.{passing-at, passing-alike}
use Rattle.smq_present.proofs.lemmas.join.MoveLemmas.{fact-at}
use Rattle.smq_present.proofs.lemmas.join.Lapsing.{lapsed, outcome-lapses, past-end}

and_false : (a b : Bool) → (a && b) ≡ false → a ≡ true → b ≡ false
and_false true b e h = e
and_false false b e h = absurd (false≢true h)

-- an outcome stays where it is open and the window hasn't ended, where it is lapsed and the window has, and where it is
-- neither
stays : (b : Bool) (x : Outcome) → (is_open x ≡ true → b ≡ false) → (x ≡ o.Lapsed → b ≡ true) → by_lapse b x ≡ x
stays b o.Open h l = ap (λ c. cond c o.Lapsed o.Open) (h refl)
stays b o.Lapsed h l = ap (λ c. cond c o.Lapsed o.Open) (l refl)
stays b _ h l = refl

lapse_of : (b : Bool) (x : Outcome) → (is_open x && is_lapsed (by_lapse b x)) ≡ (is_open x && b)
lapse_of true o.Open = refl
lapse_of false o.Open = refl
lapse_of b _ = refl

module _ (s : SettingsValue) (t : TrafficValue) (clock : ℕ) where
  abbrev ends : Message → Bool
  ends m = nat_le (m.moment + window_of s m.link) clock

  module _ (forward : s.clock ≤ clock) where
    ended : (q : Place) (m : Message) → get t.messages q ≡ Some m → outcome_in s t m ≡ o.Lapsed → ends m ≡ true
    ended q m is e =
        let made : get (facts_of s t) q ≡ Some (fact_in_circumstances q m (circumstances s t m)) = fact-at s t q ∙ ap (option_map (λ m. fact_in_circumstances q m (circumstances s t m))) is in
        let past = past-end s t q m (fact_in_circumstances q m (circumstances s t m)) is made e in
        grind (arith, nat_tests)

    fact-stays : (q : Place) (m : Message) → get t.messages q ≡ Some m → (is_open (outcome_in s t m) && ends m) ≡ false
        → with_lapse (ends m) (fact_in_circumstances q m (circumstances s t m)) ≡ fact_in_circumstances q m (circumstances s t m)
    fact-stays q m is out = λ i. record (fact_in_circumstances q m (circumstances s t m)) {
      outcome = stays (ends m) (outcome_in s t m) (λ h. and_false (is_open (outcome_in s t m)) (ends m) out h) (λ e. ended q m is e) i;
    }

    stays-at : (q : Place) (m : Option Message) → get t.messages q ≡ m → list_any (eq_by_cmp place_cmp q) (keys (due_by s t clock)) ≡ false
        → option_map (λ m. fact_in_circumstances q m (circumstances s t m)) m ≡ option_map (λ m. with_lapse (ends m) (fact_in_circumstances q m (circumstances s t m))) m
    stays-at q None is out = refl
    stays-at q (Some m) is out =
        ap Some (sym (fact-stays q m is (sym (passing-at (λ place m. is_open (outcome_in s t m) && ends m) t.messages q m is) ∙ out)))

    pub due-outside : SameOutside (keys (due_by s t clock)) (facts_of s t) (facts_of (with_clock s clock) t)
    due-outside = record { at = λ q out. fact-at s t q ∙ stays-at q (get t.messages q) refl out ∙ sym (lapsed s clock t q) }

    pub none-due : keys (due_by s t clock) ≡ [] → facts_of (with_clock s clock) t ≡ facts_of s t
    none-due none = same_map places_total places_exact (facts_of (with_clock s clock) t) (facts_of s t) (λ q.
        sym (due-outside.at q (ap (list_any (eq_by_cmp place_cmp q)) none)))

  -- they are those that lapse
  pub due-lapse : lapsing s (with_clock s clock) t ≡ due_by s t clock
  due-lapse =
      passing-alike (λ place m. is_open (outcome_in s t m) && is_lapsed (outcome_in (with_clock s clock) t m)) (λ place m. is_open (outcome_in s t m) && ends m) t.messages (λ q m is.
      ap (λ x. is_open (outcome_in s t m) && is_lapsed x) (outcome-lapses m (circumstances s t m) (ends m))
      ∙ lapse_of (ends m) (outcome_in s t m))

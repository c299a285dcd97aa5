-- Windows of a link leave the facts of all but its messages whose receipts are due, and all notes.
use Rattle.std.proofs.Common.{◌≡◌, ◌≢◌, ℕ, ◌+◌, Bool, true, false, cond, [], Option, Some, None, refl, sym, ap, ◌∙◌, subst}
use Rattle.std.specs.Prelude.{◌==◌, ◌&&◌, nat_le, option_map, unwrap_or}
use Rattle.std.specs.List.{list_any}
use Rattle.std.specs.Ordering.{nat_cmp, eq_by_cmp}
use Rattle.std.specs.FinMap.{FinMap, get, insert, keys, same_map}
use Rattle.std.proofs.lemmas.Bool.{false≢true}
use Rattle.smq_kit.specs.Maps.{SameOutside}
use Rattle.smq_kit.specs.Orders.{place_cmp}
use Rattle.smq_kit.specs.declared.names.LinkId.{LinkId}
use Rattle.smq_kit.specs.declared.place.Place.{Place}
use Rattle.smq_kit.proofs.PlaceOrders.{places_total, places_exact}
use Rattle.smq_tally.specs.declared.fact.Fact.{Fact}
use Rattle.smq_tally.specs.declared.outcome.Outcome.{Outcome}
use Rattle.smq_tally.specs.declared.outcome.Outcome.TheVariants as o
use Rattle.smq_present.specs.present.Settings.{SettingsValue, opening_window, window_in, with_clock, with_windows}
use Rattle.smq_present.specs.pairing.Traffic.{TrafficValue, Message}
use Rattle.smq_present.specs.join.Circumstances.{circumstances, lapsed_in}
use Rattle.smq_present.specs.join.Facts.{fact_in_circumstances, facts_of, by_lapse, with_lapse}
use Rattle.smq_book.specs.edits.Reached.{is_due, outcome_in, messages_due_on}
use Rattle.smq_book.proofs.lemmas.edits.FormEdits.{other_link}
use Rattle.smq_book.proofs.lemmas.edits.Passing.{passing-alike, passing-at}
use Rattle.smq_present.proofs.lemmas.join.MoveLemmas.{fact-at, frame}
use Rattle.smq_present.proofs.lemmas.join.Lapsing.{fact-lapses, outcome-lapses}
use Rattle.smq_present.proofs.lemmas.present.Changes.{get-elsewhere}

-- a window of a link leaves those of all others
pub inserted-others : (s : SettingsValue) (link : LinkId) (window : ℕ) (l : LinkId) → l ≢ link
    → window_in (insert s.windows link.0 window) l ≡ window_in s.windows l
inserted-others s link window l ne =
    ap (λ w. unwrap_or w opening_window) (get-elsewhere s.windows link.0 l.0 window (λ is. ne (λ i. record { 0 = is i })))

-- ---- facts under other windows

-- whether a receipt is due doesn't hang on whether its message has lapsed
is_due-lapses : (b : Bool) (x : Outcome) → is_due (by_lapse b x) ≡ is_due x
is_due-lapses true o.Open = refl
is_due-lapses false o.Open = refl
is_due-lapses true o.Lapsed = refl
is_due-lapses false o.Lapsed = refl
is_due-lapses b _ = refl

-- so the same messages' receipts are due under other windows, and at another clock
pub same-due : (s : SettingsValue) (windows : FinMap nat_cmp ℕ) (clock : ℕ) (link : LinkId) (t : TrafficValue)
    → messages_due_on link (with_clock (with_windows s windows) clock) t ≡ messages_due_on link s t
same-due s windows clock link t =
    let z = with_clock (with_windows s windows) clock in
    passing-alike (λ place m. m.link.0 == link.0 && is_due (outcome_in z t m)) (λ place m. m.link.0 == link.0 && is_due (outcome_in s t m))
    t.messages (λ q m is. ap (λ b. m.link.0 == link.0 && b)
    (ap is_due (outcome-lapses m (circumstances s t m) (lapsed_in z m)) ∙ is_due-lapses (lapsed_in z m) (outcome_in s t m)))

-- an outcome whose receipt isn't due stays
pub undue : (b : Bool) (x : Outcome) → is_due x ≡ false → by_lapse b x ≡ x
undue b o.Open h = absurd (false≢true (sym h))
undue b o.Lapsed h = absurd (false≢true (sym h))
undue b _ h = refl

-- one whose receipt is due is lapsed or open by whether its message has lapsed
by-lapse : (b : Bool) (x : Outcome) → is_due x ≡ true → by_lapse b x ≡ cond b o.Lapsed o.Open
by-lapse b o.Open h = refl
by-lapse b o.Lapsed h = refl
by-lapse b o.Waiting h = absurd (false≢true h)
by-lapse b o.Mismatched h = absurd (false≢true h)
by-lapse b o.Refused h = absurd (false≢true h)
by-lapse b o.NoId h = absurd (false≢true h)
by-lapse b o.Ambiguous h = absurd (false≢true h)
by-lapse b o.Delivered h = absurd (false≢true h)
by-lapse b o.Failed h = absurd (false≢true h)
by-lapse b o.Unasked h = absurd (false≢true h)

module _ (s : SettingsValue) (windows : FinMap nat_cmp ℕ) (t : TrafficValue) where
  abbrev ends : Message → Bool
  ends m = nat_le (m.moment + window_in windows m.link) s.clock

  windowed_by : (q : Place) (m : Option Message) → option_map (λ m. fact_in_circumstances q m (circumstances (with_windows s windows) t m)) m
      ≡ option_map (λ m. with_lapse (ends m) (fact_in_circumstances q m (circumstances s t m))) m
  windowed_by q None = refl
  windowed_by q (Some m) = ap Some (fact-lapses q m (circumstances s t m) (ends m))

  -- they differ by whether their messages have lapsed alone
  pub windowed : (q : Place) → get (facts_of (with_windows s windows) t) q
      ≡ option_map (λ m. with_lapse (ends m) (fact_in_circumstances q m (circumstances s t m))) (get t.messages q)
  windowed q = fact-at (with_windows s windows) t q ∙ windowed_by q (get t.messages q)

  others_by : (q : Place) (m : Option Message) (fact : Fact) → option_map (λ m. fact_in_circumstances q m (circumstances s t m)) m ≡ Some fact
      → is_due fact.outcome ≡ false → option_map (λ m. with_lapse (ends m) (fact_in_circumstances q m (circumstances s t m))) m ≡ Some fact
  others_by q None fact e due = absurd cc
  others_by q (Some m) fact e due =
      let one : fact_in_circumstances q m (circumstances s t m) ≡ fact = cc in
      ap (λ f. Some (with_lapse (ends m) f)) one ∙ (λ i. Some (record fact { outcome = undue (ends m) fact.outcome due i }))

  -- not at all where the window of its link is that of before
  pub same-window : (q : Place)
      → ((m : Message) → get t.messages q ≡ Some m → window_in windows m.link ≡ window_in s.windows m.link)
      → get (facts_of (with_windows s windows) t) q ≡ get (facts_of s t) q
  same-window q alike = frame (with_windows s windows) s t t q refl (λ m is i.
      record (circumstances s t m) { lapsed = nat_le (m.moment + alike m is i) s.clock })

  pub undue-stays : (q : Place) (fact : Fact) → get (facts_of s t) q ≡ Some fact → is_due fact.outcome ≡ false
      → get (facts_of (with_windows s windows) t) q ≡ Some fact
  undue-stays q fact is due = windowed q ∙ others_by q (get t.messages q) fact (sym (fact-at s t q) ∙ is) due

  -- a message whose receipt is due is lapsed where the clock is at the end of the window, and open before
  again_by : (q : Place) (m : Message) (found : Option Message) (fact : Fact) (b : Bool) → found ≡ Some m
      → option_map (λ m. fact_in_circumstances q m (circumstances s t m)) found ≡ Some fact → ends m ≡ b → is_due fact.outcome ≡ true
      → option_map (λ m. with_lapse (ends m) (fact_in_circumstances q m (circumstances s t m))) found
      ≡ Some (record fact { outcome = cond b o.Lapsed o.Open })
  again_by q m None fact b there is e due = absurd cc
  again_by q m (Some n) fact b there is e due =
      let same : n ≡ m = cc in
      let one : fact_in_circumstances q n (circumstances s t n) ≡ fact = cc in
      (λ i. Some (with_lapse ((ap ends same ∙ e) i) (one i)))
      ∙ (λ i. Some (record fact { outcome = by-lapse b fact.outcome due i }))

  pub due-again : (q : Place) (m : Message) (fact : Fact) (b : Bool) → get t.messages q ≡ Some m → get (facts_of s t) q ≡ Some fact
      → ends m ≡ b → is_due fact.outcome ≡ true
      → get (facts_of (with_windows s windows) t) q ≡ Some (record fact { outcome = cond b o.Lapsed o.Open })
  due-again q m fact b there is e due = windowed q ∙ again_by q m (get t.messages q) fact b there (sym (fact-at s t q) ∙ is) e due

  pub same-windows : ((l : LinkId) → window_in windows l ≡ window_in s.windows l) → facts_of (with_windows s windows) t ≡ facts_of s t
  same-windows alike = same_map places_total places_exact (facts_of (with_windows s windows) t) (facts_of s t) (λ q.
      same-window q (λ m is. alike m.link))

module _ (s : SettingsValue) (windows : FinMap nat_cmp ℕ) (link : LinkId) (t : TrafficValue)
    (others : (l : LinkId) → l ≢ link → window_in windows l ≡ window_in s.windows l) where
  fact-stays : (q : Place) (m : Message) (b : Bool) → (m.link.0 == link.0) ≡ b → (b && is_due (outcome_in s t m)) ≡ false
      → fact_in_circumstances q m (circumstances (with_windows s windows) t m) ≡ fact_in_circumstances q m (circumstances s t m)
  fact-stays q m true e out =
      fact-lapses q m (circumstances s t m) (ends s windows t m)
      ∙ (λ i. record (fact_in_circumstances q m (circumstances s t m)) { outcome = undue (ends s windows t m) (outcome_in s t m) out i })
  fact-stays q m false e out =
      ap (λ n. fact_in_circumstances q m (record (circumstances s t m) { lapsed = nat_le (m.moment + n) s.clock })) (others m.link (other_link m.link link e))

  stays-at : (q : Place) (m : Option Message) → get t.messages q ≡ m
      → list_any (eq_by_cmp place_cmp q) (keys (messages_due_on link s t)) ≡ false
      → option_map (λ m. fact_in_circumstances q m (circumstances s t m)) m ≡ option_map (λ m. fact_in_circumstances q m (circumstances (with_windows s windows) t m)) m
  stays-at q None is out = refl
  stays-at q (Some m) is out = ap Some (sym (fact-stays q m (m.link.0 == link.0) refl
      (sym (passing-at (λ place m. m.link.0 == link.0 && is_due (outcome_in s t m)) t.messages q m is) ∙ out)))

  -- facts stay outside of the link's messages whose receipts are due
  pub window-outside : SameOutside (keys (messages_due_on link s t)) (facts_of s t) (facts_of (with_windows s windows) t)
  window-outside = record {
    at = λ q out. fact-at s t q ∙ stays-at q (get t.messages q) refl out ∙ sym (fact-at (with_windows s windows) t q);
  }

  pub none-due_on : keys (messages_due_on link s t) ≡ [] → facts_of (with_windows s windows) t ≡ facts_of s t
  none-due_on none = same_map places_total places_exact (facts_of (with_windows s windows) t) (facts_of s t) (λ q.
      sym (window-outside.at q (ap (list_any (eq_by_cmp place_cmp q)) none)))

-- a window of a link leaves the fact of a message of another
pub other-link : (s : SettingsValue) (link : LinkId) (window : ℕ) (t : TrafficValue) (q : Place) (m : Message) → get t.messages q ≡ Some m
    → m.link ≢ link → get (facts_of (with_windows s (insert s.windows link.0 window)) t) q ≡ get (facts_of s t) q
other-link s link window t q m there apart = same-window s (insert s.windows link.0 window) t q (λ n is.
    let same : m ≡ n = cc in
    inserted-others s link window n.link (subst (λ (x : Message). x.link ≢ link) same apart))

-- Facts that are set anew at the places that an edit of what is set reaches are those under what is set then.
use Rattle.std.proofs.Common.{◌≡◌, ℕ, ◌≤◌, false, ◌||◌, List, [], ◌∷◌, Option, refl, sym, ap, ◌∙◌}
use Rattle.std.specs.Prelude.{fold}
use Rattle.std.specs.List.{list_any}
use Rattle.std.specs.Ordering.{eq_by_cmp, is_eq, nat_cmp}
use Rattle.std.specs.Cmp.{tied_itself}
use Rattle.std.specs.FinMap.{FinMap, get, keys}
use Rattle.std.proofs.lemmas.Bool.{false≢true}
use Rattle.smq_kit.specs.declared.names.LinkId.{LinkId}
use Rattle.smq_kit.specs.declared.place.Place.{Place}
use Rattle.smq_kit.specs.Maps.{SameOutside, patched, set_at}
use Rattle.smq_kit.specs.Orders.{place_cmp}
use Rattle.smq_kit.proofs.MapLemmas as maps
use Rattle.smq_kit.proofs.PlaceOrders.{places_total, places_exact}
use Rattle.smq_present.specs.present.Settings.{SettingsValue, with_clock, with_windows}
use Rattle.smq_present.specs.pairing.Traffic.{TrafficValue}
use Rattle.smq_present.specs.join.Facts.{facts_of}
use Rattle.smq_book.specs.edits.Reached.{due_by, messages_due_on}
use Rattle.smq_book.specs.index.Due.{due_of, places_due_on}
use Rattle.smq_book.specs.index.Ends.{ends_of, places_ending}
use Rattle.smq_book.proofs.lemmas.edits.Advances.{due-outside}
use Rattle.smq_book.proofs.lemmas.index.Due.{due-on-link}
use Rattle.smq_book.proofs.lemmas.index.Ends.{end-ending}

module _ {X : Type 0} where
  set-in-turn : (g : Place → Option X) (m : FinMap place_cmp X) (ks : List Place) → fold (λ m q. set_at m q (g q)) m ks ≡ patched m g ks
  set-in-turn g m [] = refl
  set-in-turn g m (k ∷ ks) = set-in-turn g (set_at m k (g k)) ks

  -- a map that is set at places in turn to what another has there is the other, where they are the same elsewhere
  pub set-anew : (ks : List Place) (m n : FinMap place_cmp X) → SameOutside ks m n → fold (λ m q. set_at m q (get n q)) m ks ≡ n
  set-anew ks m n same = set-in-turn (get n) m ks ∙ maps.patched-is places_total places_exact ks m n same

  -- of two lists of the same places one serves as the other
  pub outside-alike : (ks js : List Place) (m n : FinMap place_cmp X)
      → ((q : Place) → list_any (eq_by_cmp place_cmp q) ks ≡ list_any (eq_by_cmp place_cmp q) js) → SameOutside js m n → SameOutside ks m n
  outside-alike ks js m n alike same = record { at = λ q out. same.at q (sym (alike q) ∙ out) }

-- ---- a clock that goes on

module _ (s : SettingsValue) (t : TrafficValue) (clock : ℕ) where
  -- the places of those whose windows end by it are enough
  pub clocked : s.clock ≤ clock
      → fold (λ m q. set_at m q (get (facts_of (with_clock s clock) t) q)) (facts_of s t) (places_ending s.clock clock (ends_of s t))
      ≡ facts_of (with_clock s clock) t
  clocked forward =
      set-anew (places_ending s.clock clock (ends_of s t)) (facts_of s t) (facts_of (with_clock s clock) t)
      (outside-alike (places_ending s.clock clock (ends_of s t)) (keys (due_by s t clock)) (facts_of s t)
      (facts_of (with_clock s clock) t) (λ q. end-ending s t q clock) (due-outside s t clock forward))

  -- no place is there where no message is
  pub none-ending : keys (due_by s t clock) ≡ [] → places_ending s.clock clock (ends_of s t) ≡ []
  none-ending none =
      by (places_ending s.clock clock (ends_of s t)) (λ q. end-ending s t q clock ∙ ap (list_any (eq_by_cmp place_cmp q)) none)
    where
      by : (ps : List Place) → ((q : Place) → list_any (eq_by_cmp place_cmp q) ps ≡ false) → ps ≡ []
      by [] h = refl
      by (p ∷ ps) h = absurd (false≢true (sym (h p) ∙ ap (λ b. b || list_any (eq_by_cmp place_cmp p) ps) (ap is_eq (tied_itself places_total p))))

-- ---- windows that differ in a link's

-- the places of the link's messages whose receipts are due are enough
pub windowed : (s : SettingsValue) (t : TrafficValue) (windows : FinMap nat_cmp ℕ) (link : LinkId)
    → SameOutside (keys (messages_due_on link s t)) (facts_of s t) (facts_of (with_windows s windows) t)
    → fold (λ m q. set_at m q (get (facts_of (with_windows s windows) t) q)) (facts_of s t) (places_due_on link (due_of s t))
    ≡ facts_of (with_windows s windows) t
windowed s t windows link same =
    set-anew (places_due_on link (due_of s t)) (facts_of s t) (facts_of (with_windows s windows) t)
    (outside-alike (places_due_on link (due_of s t)) (keys (messages_due_on link s t)) (facts_of s t)
    (facts_of (with_windows s windows) t) (λ q. due-on-link s t q link) same)

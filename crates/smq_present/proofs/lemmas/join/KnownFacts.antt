-- What is known of written-out messages by place is what is known of them as lists, which the prover computes.
use Rattle.std.proofs.Common.{◌≡◌, ℕ, ◌+◌, cond, List, [], ◌∷◌, ◌++◌, Option, Some, None, refl, ap, ◌∙◌, subst}
use Rattle.std.specs.Prelude.{T, map, nat_le, option_map, unwrap_or}
use Rattle.std.specs.List.{enumerate_from, flat_map}
use Rattle.std.specs.Cmp.{nat_cmp_total}
use Rattle.std.specs.Ordering.{eq_by_cmp, nat_cmp}
use Rattle.std.specs.FinMap.{FinMap, is_sorted, values, get, insert, get-empty, get-insert, empty}
use Rattle.smq_kit.specs.declared.message_id.Form.{Form}
use Rattle.smq_kit.specs.declared.message_id.Form.TheVariants.{Verbatim}
use Rattle.smq_kit.specs.declared.place.Place.{Place}
use Rattle.smq_kit.specs.Orders.{place_cmp}
use Rattle.smq_tally.specs.declared.fact.Fact.{Fact}
use Rattle.smq_tally.specs.declared.outcome.Outcome.{Outcome}
use Rattle.smq_present.specs.declared.pairing.pairs.SessionForms.{SessionForms}
use Rattle.smq_present.specs.declared.present.kept.StoredPdu.{StoredPdu}
use Rattle.smq_present.specs.known.Pairing.{known_origin, submit}
use Rattle.smq_present.specs.known.Join.{settings_with, known_facts, outcomes_among, errors_among, outcomes_at, outcomes_by_window, delays_among, outcomes_under, outcomes_by_delivery, responded_and_reported}
use Rattle.smq_present.specs.present.Settings.{opening_forms, opening_window, forms_of, with_clock, with_windows}
use Rattle.smq_present.specs.pairing.Traffic.{Message, ReceivedReceipt, messages_among, receipts_among, notes_among, traffic_among}
use Rattle.smq_present.specs.join.Circumstances.{route_in}
use Rattle.smq_present.specs.join.Facts.{fact_in_circumstances, facts_of}
use Rattle.smq_present.specs.within.Accepted.{decider_of}
use Rattle.smq_present.specs.within.Messages.{submits_among}
use Rattle.smq_present.specs.within.Outcomes.{circumstances_by, message_from, standing_of}
use Rattle.smq_present.specs.within.Receipts as receipts
use Rattle.smq_present.proofs.lemmas.join.AgreeLists.{message_entry, receipt_entry, keyed-among, receipts-keyed, messages-map, receipts-map}
use Rattle.smq_present.proofs.lemmas.join.AgreeFacts.{facts-agree}

-- session 10 of link 1, with these forms
abbrev pub source_with : Form → Form → SessionForms
source_with response receipt =
    record { session = record { 0 = 10 }; link = record { 0 = 1 }; forms = record { response = response; receipt = receipt } }

-- what lists say of it, where these windows were set
abbrev pub listed_by : (ℕ → Option ℕ) → ℕ → Form → Form → List StoredPdu → List StoredPdu → List Fact
listed_by windows clock response receipt client centre =
    let submits = submits_among (source_with response receipt) client centre in
    let rs = receipts.receipts_among (source_with response receipt) centre in
    map (λ m. fact_in_circumstances m.place (message_from m) (circumstances_by (option_map (standing_of submits rs) m.key) (decider_of submits rs m.key)
    (route_in empty (message_from m)) (nat_le (m.moment + unwrap_or (windows m.link.0) opening_window) clock))) submits

-- where none was set
abbrev pub listed : ℕ → Form → Form → List StoredPdu → List StoredPdu → List Fact
listed clock response receipt client centre = listed_by (λ number. None) clock response receipt client centre

abbrev pub listed_outcomes : List StoredPdu → List StoredPdu → List Outcome
listed_outcomes client centre = map (λ fact. fact.outcome) (listed 0 Verbatim Verbatim client centre)

pub forms-set : (response receipt : Form) → forms_of (settings_with response receipt) (record { 0 = 1 })
    ≡ record { response = response; receipt = receipt }
forms-set response receipt = ap (λ f. unwrap_or f opening_forms)
    (get-insert nat_cmp_total empty 1 (record { response = response; receipt = receipt }) 1)

-- where the places rise, as they do in any stream
pub facts-are-listed-by : (windows : FinMap nat_cmp ℕ) (of : ℕ → Option ℕ) → ((number : ℕ) → get windows number ≡ of number)
    → (clock : ℕ) (response receipt : Form) (client centre : List StoredPdu)
    → T (is_sorted place_cmp (messages_among known_origin client centre)) → T (is_sorted place_cmp (receipts_among known_origin centre))
    → known_facts (with_clock (with_windows (settings_with response receipt) windows) clock) client centre
    ≡ listed_by of clock response receipt client centre
unfolding known_facts
facts-are-listed-by windows of were clock response receipt client centre rise receipts_rise =
    let s = with_clock (with_windows (settings_with response receipt) windows) clock in
    let source : SessionForms = source_with response receipt in
    let messages : messages_among known_origin client centre ≡ map message_entry (submits_among source client centre) =
    messages-map source client centre [] client 0 refl refl in
    let received : receipts_among known_origin centre ≡ map receipt_entry (receipts.receipts_among source centre) = receipts-map source centre in
    let notes = notes_among known_origin client centre in
    (λ i. values (facts_of s (traffic_among (messages i) (received i) notes)))
    ∙ facts-agree s (submits_among source client centre) (receipts.receipts_among source centre) notes
    (keyed-among s source client centre (enumerate_from 0 client) (forms-set response receipt))
    (receipts-keyed s source centre (forms-set response receipt))
    (subst (λ (es : List (Place × Message)). T (is_sorted place_cmp es)) messages rise)
    (subst (λ (es : List (Place × ReceivedReceipt)). T (is_sorted place_cmp es)) received receipts_rise)
    ∙ (λ i. listed_by (λ number. were number i) clock response receipt client centre)

pub facts-are-listed : (clock : ℕ) (response receipt : Form) (client centre : List StoredPdu)
    → T (is_sorted place_cmp (messages_among known_origin client centre)) → T (is_sorted place_cmp (receipts_among known_origin centre))
    → known_facts (with_clock (settings_with response receipt) clock) client centre ≡ listed clock response receipt client centre
facts-are-listed clock response receipt client centre rise receipts_rise =
    facts-are-listed-by empty (λ number. None) (get-empty nat_cmp) clock response receipt client centre rise receipts_rise

pub facts_known : (client centre : List StoredPdu)
    → T (is_sorted place_cmp (messages_among known_origin client centre)) → T (is_sorted place_cmp (receipts_among known_origin centre))
    → known_facts (settings_with Verbatim Verbatim) client centre ≡ listed 0 Verbatim Verbatim client centre
facts_known client centre rise receipts_rise = facts-are-listed 0 Verbatim Verbatim client centre rise receipts_rise

pub outcomes_known : (client centre : List StoredPdu)
    → T (is_sorted place_cmp (messages_among known_origin client centre)) → T (is_sorted place_cmp (receipts_among known_origin centre))
    → outcomes_among client centre ≡ listed_outcomes client centre
unfolding outcomes_among
outcomes_known client centre rise receipts_rise =
    ap (map (λ fact. fact.outcome)) (facts-are-listed 0 Verbatim Verbatim client centre rise receipts_rise)

pub errors_known : (client centre : List StoredPdu)
    → T (is_sorted place_cmp (messages_among known_origin client centre)) → T (is_sorted place_cmp (receipts_among known_origin centre))
    → errors_among client centre ≡ map (λ fact. fact.error) (listed 0 Verbatim Verbatim client centre)
unfolding errors_among
errors_known client centre rise receipts_rise = ap (map (λ fact. fact.error)) (facts-are-listed 0 Verbatim Verbatim client centre rise receipts_rise)

pub at_known : (clock : ℕ) (client centre : List StoredPdu)
    → T (is_sorted place_cmp (messages_among known_origin client centre)) → T (is_sorted place_cmp (receipts_among known_origin centre))
    → outcomes_at clock client centre ≡ map (λ fact. fact.outcome) (listed clock Verbatim Verbatim client centre)
unfolding outcomes_at
at_known clock client centre rise receipts_rise =
    ap (map (λ fact. fact.outcome)) (facts-are-listed clock Verbatim Verbatim client centre rise receipts_rise)

pub by_window_known : (link window clock : ℕ) (client centre : List StoredPdu)
    → T (is_sorted place_cmp (messages_among known_origin client centre)) → T (is_sorted place_cmp (receipts_among known_origin centre))
    → outcomes_by_window link window clock client centre
    ≡ map (λ fact. fact.outcome) (listed_by (λ number. cond (eq_by_cmp nat_cmp number link) (Some window) None) clock Verbatim Verbatim client centre)
unfolding outcomes_by_window
by_window_known link window clock client centre rise receipts_rise =
    ap (map (λ fact. fact.outcome))
    (facts-are-listed-by (insert empty link window) (λ number. cond (eq_by_cmp nat_cmp number link) (Some window) None)
    (λ number. get-insert nat_cmp_total empty link window number
    ∙ ap (cond (eq_by_cmp nat_cmp number link) (Some window)) (get-empty nat_cmp number))
    clock Verbatim Verbatim client centre rise receipts_rise)

pub delays_known : (client centre : List StoredPdu)
    → T (is_sorted place_cmp (messages_among known_origin client centre)) → T (is_sorted place_cmp (receipts_among known_origin centre))
    → delays_among client centre ≡ map (λ fact. (fact.link_delay, fact.centre_delay)) (listed 0 Verbatim Verbatim client centre)
unfolding delays_among
delays_known client centre rise receipts_rise =
    ap (map (λ fact. (fact.link_delay, fact.centre_delay))) (facts-are-listed 0 Verbatim Verbatim client centre rise receipts_rise)

pub under_known : (response receipt : Form) (given reported : List ℕ)
    → outcomes_under response receipt given reported
    ≡ map (λ fact. fact.outcome) (listed 0 response receipt (submit 0 1 1 ∷ []) (responded_and_reported given reported))
unfolding outcomes_under
under_known response receipt given reported =
    ap (map (λ fact. fact.outcome)) (facts-are-listed 0 response receipt (submit 0 1 1 ∷ []) (responded_and_reported given reported) tt tt)

pub deliveries_known : (centre : List StoredPdu) (deliveries : List ℕ) → T (is_sorted place_cmp (receipts_among known_origin centre))
    → outcomes_by_delivery centre deliveries
    ≡ flat_map (λ registered_delivery. listed_outcomes (submit 0 1 registered_delivery ∷ []) centre) deliveries
unfolding outcomes_by_delivery
deliveries_known centre [] rise = refl
deliveries_known centre (d ∷ ds) rise = λ i. outcomes_known (submit 0 1 d ∷ []) centre tt rise i ++ deliveries_known centre ds rise i

pub ruleset known = (facts_known, outcomes_known, errors_known, at_known, by_window_known, delays_known, under_known, deliveries_known)

-- What is read off PDUs by place is what is read off them as lists.
use Rattle.std.proofs.Common.{◌≡◌, ℕ, ◌+◌, true, false, cond, ◌||◌, List, [], ◌∷◌, ◌++◌, length, take, Option, Some, None, refl, sym, ap, ◌∙◌, arith}
use Rattle.std.specs.Prelude.{◌&&◌, map, filter, count_by, slice_get, option_and_then, option_map, option_to_list}
use Rattle.std.specs.List.{enumerate_from, flat_map, fold, list_any, reduce}
use Rattle.std.proofs.lemmas.List.{append_assoc, length-append, length-map, map-append}
use Rattle.std.proofs.Math.Seq.{take-append_seam}
use Rattle.std.proofs.lemmas.List.Sums.{sum_by-cons}
use Rattle.std.specs.declared.cmp.Ordering.TheVariants.{Less, Equal, Greater}
use Rattle.std.specs.Ordering.{min_by_ordering}
use Rattle.smq_kit.specs.declared.place.Dir.TheVariants.{FromClient}
use Rattle.smq_kit.specs.declared.place.Place.{Place}
use Rattle.smq_kit.specs.Maps.{kept_of}
use Rattle.smq_pdu.specs.Header.{Header}
use Rattle.smq_pdu.specs.Pairing.{is_response_of, is_request_of, nth_index}
use Rattle.smq_pdu.proofs.Pairs.{response-in-turn}
use Rattle.smq_pdu.specs.declared.body.Submit.{Submit}
use Rattle.smq_receipt.specs.declared.reading.Receipt.{Receipt}
use Rattle.smq_kit.specs.declared.link_key.LinkKey.{LinkKey}
use Rattle.smq_present.specs.declared.pairing.pairs.SessionForms.{SessionForms}
use Rattle.smq_present.specs.declared.present.forms.Forms.{Forms}
use Rattle.smq_present.specs.declared.present.kept.StoredPdu.{StoredPdu}
use Rattle.smq_present.specs.present.Kept.{header_of, headers_of, submit_in, receipt_in}
use Rattle.smq_present.specs.present.Settings.{SettingsValue, forms_of}
use Rattle.smq_present.specs.pairing.Traffic.{Message, ReceivedReceipt, Origin, response_in, response_to, place_of, message_of, message_at, receipts_among, with_earlier}
use Rattle.smq_present.specs.join.Keyed.{accepted_id, accepted_key, receipt_key, keyed_receipt, can_decide}
use Rattle.smq_kit.specs.LinkKeys.{link_key, same_key}
use Rattle.smq_group.specs.Matching.{Candidate, earlier}
use Rattle.smq_present.specs.within.Accepted.{accepted_with, number_accepted}
use Rattle.smq_present.specs.within.Messages as listed
use Rattle.smq_present.specs.within.Messages.{SubmittedMessage, response_of, submit_by}
use Rattle.smq_present.specs.within.Outcomes.{message_from, received}
use Rattle.smq_present.specs.within.Receipts as receipts
use Rattle.smq_present.specs.within.Receipts.{PlacedReceipt, KeyedReceipt, receipt_by}

-- ---- the response of a rank among those of a sequence number is the one at its index

-- the headers before a PDU
headers-before : (before after : List StoredPdu) → take (length before) (headers_of (before ++ after)) ≡ headers_of before
headers-before before after =
    (λ i. take (sym (length-map before header_of) i) (map-append header_of before after i)) ∙ take-append_seam (headers_of before) (headers_of after)

-- the response after these PDUs is that of the PDU at their number
pub response-same : (client centre before after : List StoredPdu) (i : ℕ) (p : StoredPdu) → client ≡ before ++ after → i ≡ length before
    → response_to centre before p ≡ response_of client centre i p
response-same client centre before after i p all many =
    response-in-turn header_of centre p.seq (count_by (is_request_of p.seq) (headers_of before))
    ∙ ap (λ hs. option_and_then (λ j. slice_get centre j) (nth_index (is_response_of p.seq) (headers_of centre) (count_by (is_request_of p.seq) hs)))
    (sym (headers-before before after) ∙ (λ j. take (sym many j) (headers_of (sym all j))))

-- ---- entries of what is read as lists

abbrev pub message_entry : SubmittedMessage → Place × Message
message_entry s = (s.place, message_from s)

abbrev pub receipt_entry : KeyedReceipt → Place × ReceivedReceipt
receipt_entry e = (e.1.place, received e.1)

abbrev pub origin_in : SessionForms → Origin
origin_in source = record { session = source.session; link = source.link }

message-by : (submit : Option Submit) (source : SessionForms) (client centre before : List StoredPdu) (i : ℕ) (p : StoredPdu)
    → response_to centre before p ≡ response_of client centre i p
    → option_to_list (option_map (λ (submit : Submit). (
      place_of (origin_in source) FromClient p,
      message_of (origin_in source) p
          submit (response_to centre before p),
    )) submit)
    ≡ map message_entry (submit_by submit source client centre i p)
message-by None source client centre before i p h = refl
message-by (Some submit) source client centre before i p h =
    ap (λ (r : Option StoredPdu). (place_of (origin_in source) FromClient p, message_of (origin_in source) p submit r) ∷ []) h

pub messages-map : (source : SessionForms) (client centre before after : List StoredPdu) (i : ℕ) → client ≡ before ++ after → i ≡ length before
    → flat_map (λ e. option_to_list (message_at (origin_in source) centre e.0 e.1)) (with_earlier before after)
    ≡ map message_entry (flat_map (λ e. submit_by (submit_in e.1.content) source client centre e.0 e.1) (enumerate_from i after))
messages-map source client centre before [] i all many = refl
messages-map source client centre before (p ∷ after) i all many =
    let next : i + 1 ≡ length (before ++ p ∷ []) = omega (arith, many, length-append before (p ∷ [])) in
    (λ j. message-by (submit_in p.content) source client centre before i p (response-same client centre before (p ∷ after) i p all many) j
    ++ messages-map source client centre (before ++ p ∷ []) after (i + 1) (all ∙ sym (append_assoc before (p ∷ []) after)) next j)
    ∙ sym (map-append message_entry (submit_by (submit_in p.content) source client centre i p)
    (flat_map (λ e. submit_by (submit_in e.1.content) source client centre e.0 e.1) (enumerate_from (i + 1) after)))

receipt-by : (receipt : Option Receipt) (source : SessionForms) (p : StoredPdu)
    → option_to_list (option_map (λ (receipt : Receipt). receipt_entry (receipts.keyed_receipt source p receipt)) receipt)
    ≡ map receipt_entry (receipt_by receipt source p)
receipt-by None source p = refl
receipt-by (Some receipt) source p = refl

pub receipts-map : (source : SessionForms) (ps : List StoredPdu) → receipts_among (origin_in source) ps
    ≡ map receipt_entry (receipts.receipts_among source ps)
receipts-map source [] = refl
receipts-map source (p ∷ ps) =
    (λ i. receipt-by (receipt_in p.content) source p i ++ receipts-map source ps i)
    ∙ sym (map-append receipt_entry (receipt_by (receipt_in p.content) source p) (receipts.receipts_among source ps))

-- ---- keys

-- the keys of submitted messages are those under the settings
abbrev pub Keyed : SettingsValue → List SubmittedMessage → Type 0
Keyed s [] = Unit {0}
Keyed s (x ∷ xs) = (accepted_key s (message_from x) ≡ x.key) × Keyed s xs

abbrev pub KeyedReceipts : SettingsValue → List KeyedReceipt → Type 0
KeyedReceipts s [] = Unit {0}
KeyedReceipts s (x ∷ xs) = (receipt_key s (received x.1) ≡ x.0) × KeyedReceipts s xs

pub keyed-append : (s : SettingsValue) (xs ys : List SubmittedMessage) → Keyed s xs → Keyed s ys → Keyed s (xs ++ ys)
keyed-append s [] ys h k = k
keyed-append s (x ∷ xs) ys h k = (h.0, keyed-append s xs ys h.1 k)

pub receipts-append : (s : SettingsValue) (xs ys : List KeyedReceipt) → KeyedReceipts s xs → KeyedReceipts s ys → KeyedReceipts s (xs ++ ys)
receipts-append s [] ys h k = k
receipts-append s (x ∷ xs) ys h k = (h.0, receipts-append s xs ys h.1 k)

same_id : (header : Header) (response : Option StoredPdu) → accepted_id (option_map (response_in header) response) ≡ listed.accepted_id header response
same_id header None = refl
same_id header (Some r) = refl

keyed-by : (s : SettingsValue) (submit : Option Submit) (source : SessionForms) (client centre : List StoredPdu) (i : ℕ) (p : StoredPdu)
    → forms_of s source.link ≡ source.forms
    → Keyed s (submit_by submit source client centre i p)
keyed-by s None source client centre i p h = tt
keyed-by s (Some submit) source client centre i p h =
    ((λ j. option_map (link_key source.link (h j).response) (same_id (header_of p) (response_of client centre i p) j)), tt)

pub keyed-among : (s : SettingsValue) (source : SessionForms) (client centre : List StoredPdu) (es : List (ℕ × StoredPdu))
    → forms_of s source.link ≡ source.forms
    → Keyed s (flat_map (λ e. submit_by (submit_in e.1.content) source client centre e.0 e.1) es)
keyed-among s source client centre [] h = tt
keyed-among s source client centre (e ∷ es) h =
    keyed-append s (submit_by (submit_in e.1.content) source client centre e.0 e.1) _
    (keyed-by s (submit_in e.1.content) source client centre e.0 e.1 h) (keyed-among s source client centre es h)

receipts-by : (s : SettingsValue) (receipt : Option Receipt) (source : SessionForms) (p : StoredPdu) → forms_of s source.link ≡ source.forms
    → KeyedReceipts s (receipt_by receipt source p)
receipts-by s None source p h = tt
receipts-by s (Some receipt) source p h = (ap (λ (forms : Forms). link_key source.link forms.receipt receipt.id) h, tt)

pub receipts-keyed : (s : SettingsValue) (source : SessionForms) (ps : List StoredPdu) → forms_of s source.link ≡ source.forms
    → KeyedReceipts s (receipts.receipts_among source ps)
receipts-keyed s source [] h = tt
receipts-keyed s source (p ∷ ps) h =
    receipts-append s (receipt_by (receipt_in p.content) source p) _ (receipts-by s (receipt_in p.content) source p h) (receipts-keyed s source ps h)

-- ---- numbers of a key

one_key : (key : LinkKey) (place : Place) (k : Option LinkKey) (rest : List (Place × LinkKey))
    → count_by (same_key key) (map (λ e. e.1) (map (λ y. (place, y)) (option_to_list k) ++ rest))
    ≡ cond (list_any (same_key key) (option_to_list k)) 1 0 + count_by (same_key key) (map (λ e. e.1) rest)
one_key key place None rest = omega arith
one_key key place (Some y) rest =
    sum_by-cons (λ x. cond (same_key key x) 1 0) y (map (λ e. e.1) rest)
    ∙ elim (same_key key y) as (λ b. cond b 1 0 + count_by (same_key key) (map (λ e. e.1) rest)
    ≡ cond (b || false) 1 0 + count_by (same_key key) (map (λ e. e.1) rest)) [ true ↦ refl | false ↦ refl ]

pub numbers-agree : (s : SettingsValue) (key : LinkKey) (xs : List SubmittedMessage) → Keyed s xs
    → count_by (same_key key) (map (λ e. e.1) (flat_map (kept_of (λ place m. accepted_key s m)) (map message_entry xs))) ≡ number_accepted key xs
numbers-agree s key [] h = refl
numbers-agree s key (x ∷ xs) h =
    one_key key x.place (accepted_key s (message_from x)) (flat_map (kept_of (λ place m. accepted_key s m)) (map message_entry xs))
    ∙ (λ i. cond (list_any (same_key key) (option_to_list (h.0 i))) 1 0 + numbers-agree s key xs h.1 i)
    ∙ sym (sum_by-cons (λ y. cond (accepted_with key y) 1 0) x xs)

-- ---- candidates

abbrev pub candidate_of : PlacedReceipt → Candidate
candidate_of r = (r.moment, r.place)

pub candidates-agree : (s : SettingsValue) (key : LinkKey) (xs : List KeyedReceipt) → KeyedReceipts s xs
    → map (λ e. (e.1.moment, e.0)) (filter (λ e. same_key key e.1.key && e.1.decides)
    (flat_map (kept_of (λ place r. Some (keyed_receipt s r))) (map receipt_entry xs)))
    ≡ map candidate_of (receipts.candidates key xs)
candidates-agree s key [] h = refl
candidates-agree s key (x ∷ xs) h =
    let rest = flat_map (kept_of (λ place r. Some (keyed_receipt s r))) (map receipt_entry xs) in
    (λ i. map (λ e. (e.1.moment, e.0)) (cond (same_key key (h.0 i) && can_decide x.1.receipt)
    ((x.1.place, keyed_receipt s (received x.1)) ∷ filter (λ e. same_key key e.1.key && e.1.decides) rest)
    (filter (λ e. same_key key e.1.key && e.1.decides) rest)))
    ∙ elim (same_key key x.0 && can_decide x.1.receipt) as (λ b. map (λ e. (e.1.moment, e.0))
    (cond b ((x.1.place, keyed_receipt s (received x.1)) ∷ filter (λ e. same_key key e.1.key && e.1.decides) rest)
    (filter (λ e. same_key key e.1.key && e.1.decides) rest))
    ≡ map candidate_of (map (λ e. e.1) (cond b (x ∷ filter (λ e. same_key key e.0 && can_decide e.1.receipt) xs)
    (filter (λ e. same_key key e.0 && can_decide e.1.receipt) xs)))) [
      | true ↦ ap (λ t. candidate_of x.1 ∷ t) (candidates-agree s key xs h.1)
      | false ↦ candidates-agree s key xs h.1
    ]

earlier-of : (x y : PlacedReceipt) → earlier (candidate_of x) (candidate_of y) ≡ candidate_of (receipts.earlier x y)
earlier-of x y = elim (receipts.receipt_cmp x y) as (λ o. min_by_ordering o (candidate_of x) (candidate_of y)
    ≡ candidate_of (min_by_ordering o x y)) [ Less ↦ refl | Equal ↦ refl | Greater ↦ refl ]

fold-of : (x : PlacedReceipt) (rs : List PlacedReceipt) → fold earlier (candidate_of x) (map candidate_of rs)
    ≡ candidate_of (fold receipts.earlier x rs)
fold-of x [] = refl
fold-of x (y ∷ rs) = ap (λ z. fold earlier z (map candidate_of rs)) (earlier-of x y) ∙ fold-of (receipts.earlier x y) rs

pub least-of : (rs : List PlacedReceipt) → reduce earlier (map candidate_of rs) ≡ option_map candidate_of (receipts.least_receipt rs)
least-of [] = refl
least-of (x ∷ rs) = ap Some (fold-of x rs)

-- An accepted message goes to the part of its key, and so does a delivery receipt.
use Rattle.std.proofs.Common.{◌≡◌, ℕ, Bool, true, false, cond, List, [], ◌∷◌, ◌++◌, length, inl, inr, Option, Some, None, refl, sym, ap, ◌∙◌, append_assoc, append-nil}
use Rattle.std.specs.Prelude.{◌==◌, slice_get, option_and_then, option_map, option_to_list, unwrap_or}
use Rattle.std.specs.List.{flat_map}
use Rattle.std.specs.Ordering.{eq_by_cmp}
use Rattle.std.specs.FinMap.{find, get}
use Rattle.smq_kit.specs.LinkKeys.{link_key}
use Rattle.smq_kit.specs.declared.link_key.LinkKey.{LinkKey}
use Rattle.smq_kit.specs.declared.place.Dir.{Dir}
use Rattle.smq_kit.specs.declared.place.Dir.TheVariants.{FromClient, FromCentre}
use Rattle.smq_kit.specs.declared.place.Place.{Place}
use Rattle.smq_kit.specs.Orders.{place_cmp}
use Rattle.smq_kit.proofs.MapLemmas as maps
use Rattle.smq_kit.proofs.PlaceOrders.{places_total, places_exact}
use Rattle.smq_pdu.specs.Pairing.{is_request, is_response}
use Rattle.smq_pdu.specs.declared.body.Submit.{Submit}
use Rattle.smq_present.specs.declared.pairing.pairs.SessionForms.{SessionForms}
use Rattle.smq_present.specs.declared.present.kept.StoredPdu.{StoredPdu}
use Rattle.smq_present.specs.declared.present.session.Session.{Session}
use Rattle.smq_present.specs.join.Keyed as keyed
use Rattle.smq_present.specs.pairing.Traffic.{Message, Origin, ReceivedReceipt, message_at, message_of, origin_of, place_of, received, response_in, response_to, session_messages, session_receipts, traffic_of, with_earlier}
use Rattle.smq_present.specs.present.Content.{Content}
use Rattle.smq_present.specs.present.Kept.{header_of, kept_pdus, receipt_in, submit_in}
use Rattle.smq_present.specs.present.Present.{PresentValue}
use Rattle.smq_present.specs.whole.Dealt.{HasKey, IsAcceptedWith, IsReceivedWith}
use Rattle.smq_present.specs.within.Lists.{source_of}
use Rattle.smq_present.specs.within.Messages.{accepted_id, accepted_key}
use Rattle.smq_present.proofs.lemmas.pairing.Requests.{kept-ask, kept-delivers}
use Rattle.smq_present.proofs.lemmas.pairing.SessionTraffic.{messages-own, receipts-own, said-at, session_number}
use Rattle.smq_deal.specs.Keys.{key_with, opposite, pair_key, partner_of, request_to}
use Rattle.smq_deal.specs.Parts.{KeepsAllKeys, RuleValue, part_map, part_of, part_with}
use Rattle.smq_deal.proofs.PartPlaces.{part-there}

-- ---- the PDU of a message, and that of a delivery receipt

module _ (o : Origin) (q : Place) where
  -- A message is this PDU's, which stands among these.
  pub record IsMessageOf (centre before ps : List StoredPdu) (m : Message) : Type 0 where
    pub earlier : List StoredPdu
    pub later : List StoredPdu
    pub pdu : StoredPdu
    pub submit : Submit
    pub all : ps ≡ earlier ++ pdu ∷ later
    pub content : submit_in pdu.content ≡ Some submit
    pub place : q ≡ place_of o FromClient pdu
    pub message : message_of o pdu submit (response_to centre (before ++ earlier) pdu) ≡ m

  -- A delivery receipt, as contents say it and as it is received, is this PDU's, which stands among these.
  pub record IsReceiptOf {R : Type 0} (said : Content → Option R) (made : StoredPdu → R → ReceivedReceipt) (ps : List StoredPdu)
      (r : ReceivedReceipt) : Type 0 where
    pub earlier : List StoredPdu
    pub later : List StoredPdu
    pub pdu : StoredPdu
    pub receipt : R
    pub all : ps ≡ earlier ++ pdu ∷ later
    pub content : said pdu.content ≡ Some receipt
    pub place : q ≡ place_of o FromCentre pdu
    pub receives : made pdu receipt ≡ r

  same-some : {X : Type 0} (x y : X) → Some x ≡ Some y → x ≡ y
  same-some x y e = cc

  module _ (centre : List StoredPdu) (m : Message) where
    abbrev said : List StoredPdu → StoredPdu → Submit → Message
    said before p submit = message_of o p submit (response_to centre before p)

    abbrev messages_here : List StoredPdu → StoredPdu → Option Submit → List (Place × Message)
    messages_here before p submit = option_to_list (option_map (λ submit. (place_of o FromClient p, said before p submit)) submit)

    abbrev messages_from : List StoredPdu → List StoredPdu → List (Place × Message)
    messages_from before ps = flat_map (λ e. option_to_list (message_at o centre e.0 e.1)) (with_earlier before ps)

    abbrev messages_behind : List StoredPdu → StoredPdu → List StoredPdu → List (Place × Message)
    messages_behind before p ps = messages_from (before ++ p ∷ []) ps

    pub message-found : (before ps : List StoredPdu) → find place_cmp q (messages_from before ps) ≡ Some m → IsMessageOf centre before ps m
    message-found before [] found = absurd cc
    message-found before (p ∷ ps) found = by (message-found (before ++ p ∷ []) ps) (submit_in p.content) refl found
      where
        behind : IsMessageOf centre (before ++ p ∷ []) ps m → IsMessageOf centre before (p ∷ ps) m
        behind w = record {
          earlier = p ∷ w.earlier;
          later = w.later;
          pdu = w.pdu;
          submit = w.submit;
          all = λ i. p ∷ w.all i;
          content = w.content;
          place = w.place;
          message = ap (λ es. said es w.pdu w.submit) (sym (append_assoc before (p ∷ []) w.earlier)) ∙ w.message;
        }

        here : (find place_cmp q (messages_behind before p ps) ≡ Some m → IsMessageOf centre (before ++ p ∷ []) ps m) → (submit : Submit)
            → submit_in p.content ≡ Some submit → (b : Bool) → eq_by_cmp place_cmp q (place_of o FromClient p) ≡ b
            → cond b (Some (said before p submit)) (find place_cmp q (messages_behind before p ps)) ≡ Some m
            → IsMessageOf centre before (p ∷ ps) m
        here so submit is true t e = record {
          earlier = [];
          later = ps;
          pdu = p;
          submit = submit;
          all = refl;
          content = is;
          place = maps.same_key places_total places_exact q (place_of o FromClient p) t;
          message = ap (λ es. said es p submit) (append-nil before) ∙ same-some (said before p submit) m e;
        }
        here so submit is false t e = behind (so e)

        by : (find place_cmp q (messages_behind before p ps) ≡ Some m → IsMessageOf centre (before ++ p ∷ []) ps m)
            → (submit : Option Submit) → submit_in p.content ≡ submit
            → find place_cmp q (messages_here before p submit ++ messages_behind before p ps) ≡ Some m
            → IsMessageOf centre before (p ∷ ps) m
        by so None is e = behind (so e)
        by so (Some submit) is e = here so submit is (eq_by_cmp place_cmp q (place_of o FromClient p)) refl e

  module _ {R : Type 0} (says : Content → Option R) (made : StoredPdu → R → ReceivedReceipt) (r : ReceivedReceipt) where
    abbrev receipts_here : StoredPdu → Option R → List (Place × ReceivedReceipt)
    receipts_here p receipt = option_to_list (option_map (λ receipt. (place_of o FromCentre p, made p receipt)) receipt)

    abbrev receipts_in : List StoredPdu → List (Place × ReceivedReceipt)
    receipts_in ps = flat_map (λ p. receipts_here p (says p.content)) ps

    pub receipt-found : (ps : List StoredPdu) → find place_cmp q (receipts_in ps) ≡ Some r → IsReceiptOf says made ps r
    receipt-found [] found = absurd cc
    receipt-found (p ∷ ps) found = by (receipt-found ps) (says p.content) refl found
      where
        behind : IsReceiptOf says made ps r → IsReceiptOf says made (p ∷ ps) r
        behind w = record {
          earlier = p ∷ w.earlier;
          later = w.later;
          pdu = w.pdu;
          receipt = w.receipt;
          all = λ i. p ∷ w.all i;
          content = w.content;
          place = w.place;
          receives = w.receives;
        }

        here : (find place_cmp q (receipts_in ps) ≡ Some r → IsReceiptOf says made ps r) → (receipt : R)
            → says p.content ≡ Some receipt → (b : Bool) → eq_by_cmp place_cmp q (place_of o FromCentre p) ≡ b
            → cond b (Some (made p receipt)) (find place_cmp q (receipts_in ps)) ≡ Some r → IsReceiptOf says made (p ∷ ps) r
        here so receipt is true t e = record {
          earlier = [];
          later = ps;
          pdu = p;
          receipt = receipt;
          all = refl;
          content = is;
          place = maps.same_key places_total places_exact q (place_of o FromCentre p) t;
          receives = same-some (made p receipt) r e;
        }
        here so receipt is false t e = behind (so e)

        by : (find place_cmp q (receipts_in ps) ≡ Some r → IsReceiptOf says made ps r) → (receipt : Option R)
            → says p.content ≡ receipt → find place_cmp q (receipts_here p receipt ++ receipts_in ps) ≡ Some r
            → IsReceiptOf says made (p ∷ ps) r
        by so None is e = behind (so e)
        by so (Some receipt) is e = here so receipt is (eq_by_cmp place_cmp q (place_of o FromCentre p)) refl e

-- ---- requests with a key

stands-there : (earlier later : List StoredPdu) (p : StoredPdu) → slice_get (earlier ++ p ∷ later) (length earlier) ≡ Some p
stands-there [] later p = refl
stands-there (x ∷ earlier) later p = stands-there earlier later p

-- a request goes to the part of its key
part-keyed : (rule : RuleValue) (source : SessionForms) (d : Dir) (other earlier : List StoredPdu) (p : StoredPdu) (key : LinkKey)
    → is_request (header_of p) ≡ true → pair_key source d p (response_to other earlier p) ≡ Some key
    → part_of rule source d other earlier p ≡ rule.keyed key
part-keyed rule source d other earlier p key request has =
    let partner : partner_of other earlier p ≡ response_to other earlier p =
    ap (λ b. cond b (response_to other earlier p) (cond (is_response (header_of p)) (request_to other earlier p) None)) request in
    let own : key_with source d p (response_to other earlier p) ≡ pair_key source d p (response_to other earlier p) =
    ap (λ b. cond b (pair_key source d p (response_to other earlier p))
    (option_and_then (λ asks. pair_key source (opposite d) asks (Some p)) (response_to other earlier p))) request in
    (λ i. part_with rule source p (key_with source d p (partner i)) (partner i))
    ∙ ap (λ key. part_with rule source p key (response_to other earlier p)) (own ∙ has)

-- the id with which a message is accepted is one, by its response and by what that says
same-id : (p : StoredPdu) (response : Option StoredPdu)
    → accepted_id (header_of p) response ≡ keyed.accepted_id (option_map (response_in (header_of p)) response)
same-id p None = refl
same-id p (Some response) = refl

module _ (rule : RuleValue) (p : PresentValue) (key : LinkKey) (q : Place) where
  -- an accepted message goes to the part of its key
  message-part : IsAcceptedWith p.settings (traffic_of p.sessions) key q → get (part_map rule p) q ≡ Some (rule.keyed key)
  message-part is = by (get p.sessions (session_number q)) refl
      (sym (said-at places_total places_exact session_number session_messages messages-own p.sessions q) ∙ is.stands)
    where
      by : (found : Option Session) → get p.sessions (session_number q) ≡ found
          → option_and_then (λ s. find place_cmp q (session_messages (session_number q, s))) found ≡ Some is.message
          → get (part_map rule p) q ≡ Some (rule.keyed key)
      by None there e = absurd cc
      by (Some s) there e =
          let it : ℕ × Session = (session_number q, s) in
          let source = source_of p.settings it in
          let centre = kept_pdus s.centre in
          let w = message-found (origin_of it) q centre is.message [] (kept_pdus s.client) e in
          let response = response_to centre w.earlier w.pdu in
          let request : is_request (header_of w.pdu) ≡ true = (kept-ask s.client).each (length w.earlier) w.pdu w.submit
          (ap (λ ps. slice_get ps (length w.earlier)) w.all ∙ stands-there w.earlier w.later w.pdu) w.content in
          let has : pair_key source FromClient w.pdu response ≡ Some key =
          ap (option_and_then (λ submit. accepted_key source (header_of w.pdu) response)) w.content
          ∙ ap (option_map (link_key source.link source.forms.response)) (same-id w.pdu response)
          ∙ ap (keyed.accepted_key p.settings) w.message
          ∙ is.accepted in
          ap (get (part_map rule p)) w.place
          ∙ part-there rule p FromClient (session_number q) s there w.earlier w.later w.pdu w.all
          ∙ ap Some (part-keyed rule source FromClient centre w.earlier w.pdu key request has)

  -- and so does a delivery receipt
  receipt-part : IsReceivedWith p.settings (traffic_of p.sessions) key q → get (part_map rule p) q ≡ Some (rule.keyed key)
  receipt-part is = by (get p.sessions (session_number q)) refl
      (sym (said-at places_total places_exact session_number session_receipts receipts-own p.sessions q) ∙ is.stands)
    where
      by : (found : Option Session) → get p.sessions (session_number q) ≡ found
          → option_and_then (λ s. find place_cmp q (session_receipts (session_number q, s))) found ≡ Some is.receipt
          → get (part_map rule p) q ≡ Some (rule.keyed key)
      by None there e = absurd cc
      by (Some s) there e =
          let it : ℕ × Session = (session_number q, s) in
          let source = source_of p.settings it in
          let client = kept_pdus s.client in
          let w = receipt-found (origin_of it) q receipt_in (received (origin_of it)) is.receipt (kept_pdus s.centre) e in
          let request : is_request (header_of w.pdu) ≡ true = kept-delivers s.centre (length w.earlier) w.pdu w.receipt
          (ap (λ ps. slice_get ps (length w.earlier)) w.all ∙ stands-there w.earlier w.later w.pdu) w.content in
          let has : pair_key source FromCentre w.pdu (response_to client w.earlier w.pdu) ≡ Some key =
          (λ i. option_map (λ receipt. link_key source.link source.forms.receipt receipt.id) (w.content i))
          ∙ ap (λ r. Some (keyed.receipt_key p.settings r)) w.receives
          ∙ ap Some is.received in
          ap (get (part_map rule p)) w.place
          ∙ part-there rule p FromCentre (session_number q) s there w.earlier w.later w.pdu w.all
          ∙ ap Some (part-keyed rule source FromCentre client w.earlier w.pdu key request has)

  key-part : HasKey p.settings (traffic_of p.sessions) key q → get (part_map rule p) q ≡ Some (rule.keyed key)
  key-part (inl is) = message-part is
  key-part (inr is) = receipt-part is

-- no part has an accepted message or a delivery receipt without all others of its key
pub keys-kept : (rule : RuleValue) → KeepsAllKeys rule
keys-kept rule p part key one other has also =
    ap (λ (found : Option ℕ). unwrap_or (option_map (λ it. it == part) found) false)
    (key-part rule p key one has ∙ sym (key-part rule p key other also))

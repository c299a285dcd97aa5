-- The partner of a PDU, by its kind.
use Rattle.std.proofs.Common.{◌≡◌, true, false, List, ◌∙◌}
use Rattle.std.proofs.lemmas.Bool.{cond-false, cond-true}
use Rattle.smq_pdu.specs.Pairing.{is_request, is_response}
use Rattle.smq_present.specs.declared.present.kept.StoredPdu.{StoredPdu}
use Rattle.smq_present.specs.pairing.Traffic.{response_to}
use Rattle.smq_present.specs.present.Kept.{header_of}
use Rattle.smq_deal.specs.Keys.{partner_of, request_to}

module _ (other earlier : List StoredPdu) (p : StoredPdu) where
  -- that of a request is its response
  pub of-request : is_request (header_of p) ≡ true → partner_of other earlier p ≡ response_to other earlier p
  of-request request = cond-true (is_request (header_of p)) _ _ request

  -- that of a response is its request
  pub of-response : is_request (header_of p) ≡ false → is_response (header_of p) ≡ true
      → partner_of other earlier p ≡ request_to other earlier p
  of-response request response = cond-false (is_request (header_of p)) _ _ request ∙ cond-true (is_response (header_of p)) _ _ response

-- The PDUs of a session as its code finds them: by their offsets.
use Rattle.std.specs.Prelude.{◌≡◌, ◌≤◌, ◌+◌, ℕ, ◌==◌, true, List, [], ◌∷◌, filter, slice_get, Option, Some}
use Rattle.smq_kit.specs.declared.names.SessionId.{SessionId}
use Rattle.smq_pdu.specs.Pairing.{is_request}
use Rattle.smq_pdu.specs.declared.body.Submit.{Submit}
use Rattle.smq_present.specs.declared.present.kept.StoredPdu.{StoredPdu}
use Rattle.smq_present.specs.present.Kept.{header_of, submit_in}
use Rattle.smq_present.specs.pairing.Traffic.{Origin}

-- where the PDUs of a session come from; no place says anything of its link
abbrev pub from_session : SessionId → Origin
from_session session = record { session = session; link = record { 0 = 0 } }

-- the offsets of PDUs rise from a bound on, as those of a stream do from 0 on
abbrev pub Rises : ℕ → List StoredPdu → Type 0
Rises low [] = Unit {0}
Rises low (p ∷ pdus) = (low ≤ p.offset) × Rises (p.offset + 1) pdus

-- Each submit_sm and data_sm among PDUs is a request, as it is in a stream.
pub record SubmitsAreRequests (pdus : List StoredPdu) : Type 0 where
  pub each : (i : ℕ) (p : StoredPdu) (submit : Submit) → slice_get pdus i ≡ Some p → submit_in p.content ≡ Some submit
      → is_request (header_of p) ≡ true

-- the PDU at an offset
abbrev pub pdu_at : List StoredPdu → ℕ → Option StoredPdu
pdu_at pdus offset = slice_get (filter (λ p. p.offset == offset) pdus) 0

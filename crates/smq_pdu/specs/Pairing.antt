-- Which response belongs to which request (SMPP 3.4, sections 3.2 and 5.1; that it goes by rank is this project's).
use Rattle.std.specs.Prelude.{◌≡◌, ℕ, zero, suc, ◌+◌, ◌==◌, ◌&&◌, ◌||◌, not, nat_le, if◌then◌else◌, Bool, true, List, [], ◌∷◌, take, filter, count_by, slice_get, Option, Some, None, option_map, option_and_then}
use Rattle.smq_pdu.specs.Header.{Header}
use Rattle.smq_pdu.specs.Commands.{generic_nack, outbind, alert_notification, response_bit}

-- a response has bit 31 of its command_id set
abbrev pub is_response : Header → Bool
is_response h = nat_le response_bit h.command

-- every other PDU is a request, but outbind and alert_notification, which have no response
abbrev pub is_request : Header → Bool
is_request h = not (is_response h) && not (h.command == outbind) && not (h.command == alert_notification)

-- a request of this sequence number
abbrev pub is_request_of : ℕ → Header → Bool
is_request_of seq h = is_request h && h.seq == seq

-- a response of this sequence number
abbrev pub is_response_of : ℕ → Header → Bool
is_response_of seq h = is_response h && h.seq == seq

-- the rank of a request: how many earlier requests of its direction have its sequence number
abbrev pub request_rank : List Header → ℕ → ℕ → ℕ
request_rank headers i seq = count_by (is_request_of seq) (take i headers)

-- the rank of a response: how many earlier responses of its direction have its sequence number
abbrev pub response_rank : List Header → ℕ → ℕ → ℕ
response_rank headers j seq = count_by (is_response_of seq) (take j headers)

-- The i-th PDU of one direction is a request, and the j-th of the other is its response: they are equal in sequence
-- number and in rank.
pub record IsPair (mine other : List Header) (i j : ℕ) (request response : Header) : Type 0 where
  pub request_at : slice_get mine i ≡ Some request
  pub response_at : slice_get other j ≡ Some response
  pub is_request : is_request request ≡ true
  pub is_response : is_response response ≡ true
  pub seq : request.seq ≡ response.seq
  pub rank : request_rank mine i request.seq ≡ response_rank other j response.seq

-- a pair agrees where the response's command_id is the request's with bit 31 set, or is generic_nack
abbrev pub agrees : Header → Header → Bool
agrees request response = response.command == request.command + response_bit || response.command == generic_nack

-- ---- the response of a request, computed

-- the index of the element that passes a test and before which so many pass it
unfoldable pub nth_index : {X : Type 0} → (X → Bool) → List X → ℕ → Option ℕ
nth_index passes [] rank = None
nth_index passes (x ∷ xs) zero = if passes x then Some 0 else option_map suc (nth_index passes xs zero)
nth_index passes (x ∷ xs) (suc rank) = option_map suc (nth_index passes xs (if passes x then rank else suc rank))

-- the index of the response to a request of this sequence number and rank
abbrev pub response_index : List Header → ℕ → ℕ → Option ℕ
response_index other seq rank = nth_index (is_response_of seq) other rank

-- what is computed at a request's rank is the response of a pair
abbrev pub FindsPairs : Type 0
FindsPairs = (mine other : List Header) (i j : ℕ) (request : Header) → slice_get mine i ≡ Some request
    → is_request request ≡ true → response_index other request.seq (request_rank mine i request.seq) ≡ Some j
    → (response : Header) × IsPair mine other i j request response

-- the response of a pair is the one computed, so a request has one at most
abbrev pub FindsEachPair : Type 0
FindsEachPair = (mine other : List Header) (i j : ℕ) (request response : Header)
    → IsPair mine other i j request response
    → response_index other request.seq (request_rank mine i request.seq) ≡ Some j

-- a response has one request at most
abbrev pub HasOneRequest : Type 0
HasOneRequest = (mine other : List Header) (i k j : ℕ) (one two response : Header)
    → IsPair mine other i j one response → IsPair mine other k j two response → i ≡ k

-- the response of a request is the one of its rank among the responses of its sequence number
abbrev pub FindsInTurn : Type 0
FindsInTurn = (other : List Header) (seq rank : ℕ)
    → slice_get (filter (is_response_of seq) other) rank
    ≡ option_and_then (slice_get other) (response_index other seq rank)

-- What the definitions give for some known PDUs and moments.
use Rattle.std.specs.Prelude.{◌≡◌, ℕ, List, [], ◌∷◌, ◌++◌, Some, None}
use Rattle.smq_kit.specs.declared.place.Dir.{Dir}
use Rattle.smq_kit.specs.declared.place.Dir.TheVariants.{FromClient, FromCentre}
use Rattle.smq_window.specs.declared.connection.Origin.{Origin}
use Rattle.smq_window.specs.declared.exchange.Half.TheVariants.{Request, Response}
use Rattle.smq_window.specs.Belief.{belief_after}
use Rattle.smq_window.specs.Direction.{after_piece, empty_direction}
use Rattle.smq_window.specs.Exchange.{exchange_of}
use Rattle.smq_window.specs.Homes.{Homed, home_of}
use Rattle.smq_window.specs.Connection.{piece_row}
use Rattle.smq_window.specs.Window.{WindowValue, new_window, rows_after, window_after, withdraw_row}

-- an enquire_link of a sequence_number below 256, and its response (SMPP 3.4, section 4.11)
abbrev pub enquire_link : ℕ → List ℕ
enquire_link n =
    0 ∷ 0 ∷ 0 ∷ 16 ∷ 0 ∷ 0 ∷ 0 ∷ 21 ∷ 0 ∷ 0 ∷ 0 ∷ 0 ∷ 0 ∷ 0 ∷ 0 ∷ n ∷ []

abbrev pub enquire_link_resp : ℕ → List ℕ
enquire_link_resp n =
    0 ∷ 0 ∷ 0 ∷ 16 ∷ 128 ∷ 0 ∷ 0 ∷ 21 ∷ 0 ∷ 0 ∷ 0 ∷ 0 ∷ 0 ∷ 0 ∷ 0 ∷ n ∷ []

-- the header of an outbind (section 4.1.7)
abbrev pub outbind : List ℕ
outbind = 0 ∷ 0 ∷ 0 ∷ 16 ∷ 0 ∷ 0 ∷ 0 ∷ 11 ∷ 0 ∷ 0 ∷ 0 ∷ 0 ∷ 0 ∷ 0 ∷ 0 ∷ 7 ∷ []

-- the client's enquire_link 7 and the centre's response, with their homes
abbrev pub asked : ℕ → Homed
asked period = record { home = period; sender = FromClient; octets = enquire_link 7 }

abbrev pub answered : ℕ → Homed
answered period = record { home = period; sender = FromCentre; octets = enquire_link_resp 7 }

-- a piece of session 12 of link 1
abbrev pub from : Dir → ℕ → Origin
from sender moment =
    record { link = record { 0 = 1 }; session = 12; sender = sender; moment = moment }

-- the client asks at 3,000 ms; the centre answers at 4,000 ms; periods of 1,000 ms, one before the present one is kept
abbrev pub once_asked : WindowValue
once_asked = window_after (1000, 1) (from FromClient 3000) (enquire_link 7) new_window

abbrev pub once_answered : WindowValue
once_answered = window_after (1000, 1) (from FromCentre 4000) (enquire_link_resp 7) once_asked

-- which PDUs are halves of exchanges
pub record KnownExchanges : Type 0 where
  pub request : exchange_of FromClient (enquire_link 7) ≡ Some (record { asker = FromClient; sequence_number = 7; half = Request })
  pub response : exchange_of FromCentre (enquire_link_resp 7) ≡ Some (record { asker = FromClient; sequence_number = 7; half = Response })
  pub neither : exchange_of FromCentre outbind ≡ None

-- the homes of a response, and of a request that comes behind its response
pub record KnownHomes : Type 0 where
  -- its request's period, though that isn't the present one
  pub two_periods : home_of (asked 3 ∷ []) 0 4 (exchange_of FromCentre (enquire_link_resp 7)) ≡ 3
  -- that period has left
  pub late : home_of (asked 3 ∷ []) 4 5 (exchange_of FromCentre (enquire_link_resp 7)) ≡ 5
  -- the request has its response
  pub paired : home_of (asked 3 ∷ answered 3 ∷ []) 0 4 (exchange_of FromCentre (enquire_link_resp 7)) ≡ 4
  -- the first of two requests
  pub first_of_two : home_of (asked 2 ∷ asked 3 ∷ []) 0 4 (exchange_of FromCentre (enquire_link_resp 7)) ≡ 2
  -- another sequence_number
  pub other_number : home_of (asked 3 ∷ []) 0 4 (exchange_of FromCentre (enquire_link_resp 8)) ≡ 4
  pub early_response : home_of (answered 3 ∷ []) 0 4 (exchange_of FromClient (enquire_link 7)) ≡ 3

-- the rows of a request and a response over two periods, and of what comes when they are too old
pub record KnownRows : Type 0 where
  pub request : rows_after (1000, 1) (from FromClient 3000) (enquire_link 7) new_window
      ≡ piece_row (from FromClient 3000) 3 (enquire_link 7) ∷ []
  pub response : rows_after (1000, 1) (from FromCentre 4000) (enquire_link_resp 7) once_asked
      ≡ piece_row (from FromCentre 4000) 3 (enquire_link_resp 7) ∷ []
  pub later : rows_after (1000, 1) (from FromClient 5000) (enquire_link 8) once_answered
      ≡ withdraw_row 12 3 ∷ piece_row (from FromClient 5000) 5 (enquire_link 8) ∷ []

-- moments that jump
pub record KnownBeliefs : Type 0 where
  -- a day and 1 ms ahead
  pub doubted : belief_after (record { newest = Some 1000; doubted = None }) 86401001
      ≡ (record { newest = Some 1000; doubted = Some 86401001 })
  pub day_ahead : belief_after (record { newest = Some 1000; doubted = None }) 86401000
      ≡ (record { newest = Some 86401000; doubted = None })
  pub confirmed : belief_after (record { newest = Some 1000; doubted = Some 86401001 }) 172801001
      ≡ (record { newest = Some 172801001; doubted = None })
  pub elsewhere : belief_after (record { newest = Some 1000; doubted = Some 86401001 }) 172801002
      ≡ (record { newest = Some 1000; doubted = Some 172801002 })
  pub forgotten : belief_after (record { newest = Some 1000; doubted = Some 86401001 }) 900
      ≡ (record { newest = Some 1000; doubted = None })

-- a length of 15 is kept with the octets that state it, and nothing behind
abbrev pub KnownBroken : Type 0
KnownBroken =
    after_piece empty_direction 5 (enquire_link 7 ++ 0 ∷ 0 ∷ 0 ∷ 15 ∷ 1 ∷ [])
    ≡ (record { last = 5; tail = record { offset = 21; rest = []; broken = Some 16 }; broken = Some (0 ∷ 0 ∷ 0 ∷ 15 ∷ []); written = None })

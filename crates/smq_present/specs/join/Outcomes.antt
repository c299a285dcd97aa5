-- What became of a message, why it failed, and how long its receipt took.
use Rattle.std.specs.Prelude.{◌==◌, not, ℕ, pos, ◌-ℤ◌, Bool, true, false, List, [], ◌∷◌, if◌then◌else◌, Option, Some, None, is_none, is_some, option_map, option_and_then}
use Rattle.smq_receipt.specs.declared.message_state.MessageState.{MessageState}
use Rattle.smq_receipt.specs.declared.message_state.MessageState.TheVariants as state
use Rattle.smq_tally.specs.Bands.{band_of}
use Rattle.smq_tally.specs.declared.band.Band.{Band}
use Rattle.smq_tally.specs.declared.outcome.Outcome.{Outcome}
use Rattle.smq_tally.specs.declared.outcome.Outcome.TheVariants as o
use Rattle.smq_tally.specs.declared.value.SubmitError.{SubmitError}
use Rattle.smq_tally.specs.declared.value.SubmitError.TheVariants.{Refused, Failed}
use Rattle.smq_present.specs.pairing.Traffic.{Response, Message, ReceivedReceipt}
use Rattle.smq_group.specs.Matching.{Standing, Shared}
use Rattle.smq_present.specs.join.Circumstances.{Circumstances}

-- a test of the response, where there is one
abbrev pub responded : (Response → Bool) → Option Response → Bool
responded test None = false
responded test (Some response) = test response

-- an accepted message is ambiguous where it shares its key with another
abbrev pub is_shared : Option Standing → Bool
is_shared (Some Shared) = true
is_shared _ = false

-- a state is that of a message which was delivered
abbrev pub is_delivered : MessageState → Bool
is_delivered state.Delivered = true
is_delivered _ = false

-- a deciding receipt says that the message was delivered
abbrev pub says_delivered : Option ReceivedReceipt → Bool
says_delivered None = false
says_delivered (Some r) = is_delivered r.receipt.state

-- the conditions of the outcomes, in their order
abbrev pub outcome_table : Message → Circumstances → List (Bool × Outcome)
outcome_table m c =
    (is_none m.response, o.Waiting)
    ∷ (responded (λ r. not r.agrees) m.response, o.Mismatched)
    ∷ (responded (λ r. not (r.status == 0)) m.response, o.Refused)
    ∷ (responded (λ r. is_none r.id) m.response, o.NoId)
    ∷ (is_shared c.standing, o.Ambiguous)
    ∷ (says_delivered c.decider, o.Delivered)
    ∷ (is_some c.decider, o.Failed)
    ∷ (not m.asks_receipt, o.Unasked)
    ∷ (c.lapsed, o.Lapsed)
    ∷ []

-- the outcome where no condition of the table holds
abbrev pub last_outcome : Outcome
last_outcome = o.Open

-- the outcome of the first condition that holds, or the last outcome
abbrev pub first_that_holds : List (Bool × Outcome) → Outcome → Outcome
first_that_holds [] last = last
first_that_holds (row ∷ rows) last = if row.0 then row.1 else first_that_holds rows last

-- what became of a message
abbrev pub outcome_by : Message → Circumstances → Outcome
outcome_by m c = first_that_holds (outcome_table m c) last_outcome

-- why a message with this outcome failed: refused by its response's status, failed by its deciding receipt's error
abbrev pub error_by : Outcome → Option Response → Option ReceivedReceipt → Option SubmitError
error_by o.Refused (Some response) decider = Some (Refused response.status)
error_by o.Failed response (Some r) = Some (Failed r.receipt.error)
error_by _ response decider = None

-- a message with this outcome was delivered or failed, as its deciding receipt says
abbrev pub is_decided : Outcome → Bool
is_decided o.Delivered = true
is_decided o.Failed = true
is_decided _ = false

-- how long the deciding receipt of a message of this moment took on the link, where the receipt gave it this outcome
abbrev pub link_delay_by : Outcome → ℕ → Option ReceivedReceipt → Option Band
link_delay_by outcome moment decider =
    if is_decided outcome then option_map (λ r. band_of (pos r.moment -ℤ pos moment)) decider else None

-- how long the message took by the centre's own dates, where that receipt gives them
abbrev pub centre_delay_by : Outcome → Option ReceivedReceipt → Option Band
centre_delay_by outcome decider =
    if is_decided outcome then option_map band_of (option_and_then (λ r. r.receipt.centre_delay) decider) else None

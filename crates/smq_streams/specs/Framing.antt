-- Where the PDUs of a direction end, as their lengths cut it (SMPP 3.4, 5.1.1).
use Rattle.std.specs.Prelude.{◌≡◌, ℕ, ◌+◌, ◌*◌, ◌^◌, ◌<◌, ◌≤◌, List, [], ◌∷◌, ◌++◌, length, Option, Some, None}
use Rattle.std.specs.List.{concat, AllByRecursion}
use Rattle.smq_streams.specs.declared.framer.Framer.{Framer}
use Rattle.smq_streams.specs.declared.framer.Framer.TheVariants.{Length, Left, Broken}
use Rattle.smq_streams.specs.Header.{IsLength, number_at}

-- the first four octets of a PDU state its own length
pub record IsPdu (pdu : List ℕ) : Type 0 where
  pub is_length : IsLength (length pdu)
  pub stated : number_at 0 pdu ≡ length pdu

-- octets are whole PDUs, one after the other, and what is left
pub record Cuts (octets : List ℕ) (pdus : List (List ℕ)) (rest : List ℕ) : Type 0 where
  pub whole : octets ≡ concat pdus ++ rest
  pub each : AllByRecursion IsPdu pdus

-- the number of a number's octets and these behind them
abbrev pub number_with : ℕ → List ℕ → ℕ
number_with number [] = number
number_with number (o ∷ os) = number_with (number * 256 + o) os

-- what is left is the begin of a PDU, of which this is known: so many octets of its length, and their number; or that one octet and
-- so many more are left of it; or that its length can't be
abbrev pub IsUnderWay : List ℕ → Framer → Type 0
IsUnderWay rest (Length count number) =
    (length rest ≡ count) × (count < 4) × (number ≡ number_with 0 rest) × (number < 256 ^ count)
IsUnderWay rest (Left left) =
    (4 ≤ length rest) × IsLength (number_at 0 rest) × (length rest + (left + 1) ≡ number_at 0 rest)
IsUnderWay rest Broken = (4 ≤ length rest) × (IsLength (number_at 0 rest) → ⊥)

-- what is known at the end of octets
pub record IsFramed (octets : List ℕ) (framer : Framer) : Type 0 where
  pub pdus : List (List ℕ)
  pub rest : List ℕ
  pub cuts : Cuts octets pdus rest
  pub under_way : IsUnderWay rest framer

-- the same octets leave one thing to be known, in whatever pieces they came
abbrev pub IsOneFramer : List ℕ → Framer → Framer → Type 0
IsOneFramer octets framer other = IsFramed octets framer → IsFramed octets other → framer ≡ other

-- the PDU that begins with these octets ends before a place of those that follow; where there are none, that is the first place
abbrev pub EndsBefore : List ℕ → List ℕ → ℕ → Type 0
EndsBefore [] octets place = place ≡ 0
EndsBefore (o ∷ os) octets place =
    (4 ≤ length (o ∷ os ++ octets)) × IsLength (number_at 0 (o ∷ os ++ octets))
    × (length (o ∷ os) + place ≡ number_at 0 (o ∷ os ++ octets))

-- the octet behind that PDU, if it is there
abbrev pub IsNextPdu : List ℕ → List ℕ → Option ℕ → Type 0
IsNextPdu rest octets None = (place : ℕ) → EndsBefore rest octets place → length octets ≤ place
IsNextPdu rest octets (Some place) = (place < length octets) × EndsBefore rest octets place

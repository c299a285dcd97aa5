-- What the definitions give for some known octets and rows of a direction.
use Rattle.std.specs.Prelude.{◌≡◌, ℕ, false, true, List, [], ◌∷◌, Some}
use Rattle.smq_reassembly.specs.Octet.{Octet}
use Rattle.smq_streams.specs.KnownCalls.{after_gap, before_gap, came}
use Rattle.smq_capture.specs.declared.direction.Direction.{Direction}
use Rattle.smq_capture.specs.declared.direction.Following.{Following}
use Rattle.smq_capture.specs.declared.flow.AtOnce.{AtOnce}
use Rattle.smq_capture.specs.declared.flow.Came.TheVariants as came
use Rattle.smq_capture.specs.declared.flow.Flow.{Flow}
use Rattle.smq_capture.specs.declared.side.Side.{Side}
use Rattle.smq_capture.specs.declared.signs.Both.{Both}
use Rattle.smq_capture.specs.declared.side.Side.TheVariants.{Client, Centre}
use Rattle.smq_capture.specs.Flow.{AreParts, Comes, Ended, History, IsFree, all_put, direction_of, last_raised, nothing, raised, timed_of, with_direction, with_gap, with_passed, with_put}
use Rattle.smq_capture.specs.GoingOn.{HasOctets, other_of, signs_of}
use Rattle.smq_capture.specs.KnownRows.{five, two}
use Rattle.smq_capture.specs.Rows.{Row}

-- an octet that a packet brought at a moment
abbrev pub octet : ℕ → ℕ → Octet
octet value moment = record { value = value; packet = record { number = 1; moment = moment }; begins = false }

-- three octets, of which the last has an earlier moment
abbrev pub three : List Octet
three = octet 1 100 ∷ octet 2 200 ∷ octet 3 150 ∷ []

-- an octet became a row, a gap up to place 9 was given up, one behind it was passed over, and the next became a row
abbrev pub behind_gap : History
behind_gap = with_put (octet 3 300 ∷ []) (with_passed (octet 2 200 ∷ []) (with_gap 9 100 (with_put (octet 1 100 ∷ []) nothing)))

-- the first part of a direction, up to a gap that ends at a place
abbrev pub ended : ℕ → List Ended
ended until = record { pieces = came; part = before_gap; until = until } ∷ []

pub record KnowsFlow : Type 0 where
  -- moments never fall
  pub moments : raised 0 three ≡ (1, 100) ∷ (2, 200) ∷ (3, 200) ∷ []
  pub moments_from : raised 180 three ≡ (1, 180) ∷ (2, 200) ∷ (3, 200) ∷ []
  pub last : last_raised 0 three ≡ 200
  -- of rows of both ends those of one count, each octet with its row's moment
  pub client : timed_of Client (two ∷ five [] ∷ []) ≡ (1, 1000) ∷ (2, 1000) ∷ (3, 1000) ∷ (4, 1000) ∷ (5, 1000) ∷ []
  pub centre : timed_of Centre (two ∷ five [] ∷ []) ≡ (6, 1001) ∷ (7, 1001) ∷ []
  -- octets become rows over all parts, in order, and those that are passed over don't
  pub put : all_put behind_gap ≡ octet 1 100 ∷ octet 3 300 ∷ []
  pub place : behind_gap.part.start.place ≡ 9
  -- three octets came, then a gap of two, and the next part starts behind it; it doesn't within the gap, and the first starts at place 0
  pub parts : AreParts came 5 (ended 5)
  pub no_gap : AreParts came 4 (ended 4) → ⊥
  pub no_place : AreParts came 6 (ended 5) → ⊥
  pub no_start : AreParts came 1 [] → ⊥
  -- of both ends' directions each is its own, and only that of the end that is named becomes another
  pub client_is : (flow : Flow) → direction_of Client flow ≡ flow.client
  pub centre_is : (flow : Flow) → direction_of Centre flow ≡ flow.centre
  pub client_with : (d : Direction) (flow : Flow) → with_direction Client d flow ≡ record flow { client = d }
  pub centre_with : (d : Direction) (flow : Flow) → with_direction Centre d flow ≡ record flow { centre = d }
  pub client_other : other_of Client ≡ Centre
  pub centre_other : other_of Centre ≡ Client
  pub client_signs : (both : Both) → signs_of Client both ≡ both.client
  pub centre_signs : (both : Both) → signs_of Centre both ≡ both.centre
  -- a session has octets where it had, or one is settled as of it, and not where one is settled as of another
  pub had : HasOctets true 3 [] []
  pub settled : HasOctets false 3 (five [] ∷ []) (five (3 ∷ []) ∷ [])
  pub other : HasOctets false 4 (five [] ∷ []) (five (3 ∷ []) ∷ []) → ⊥
  -- nothing is written at once behind a row that waits, nor where another session follows; and what was taken wasn't too far ahead
  pub waits : (given : AtOnce) (d : Direction) (row : Row) → IsFree (Unit {0}) (came.AtOnce given) d (row ∷ []) → ⊥
  pub follows : (given : AtOnce) (d : Direction) (f : Following) → d.following ≡ Some f → IsFree (Unit {0}) (came.AtOnce given) d [] → ⊥
  pub far : (s : History) (side : Side) (d : Direction) → Comes ⊥ s s [] side came.Outside d [] → ⊥

-- The rows of a connection that wait until the session of each of their octets is known.
use Rattle.std.specs.Prelude.{◌≡◌, ◌≢◌, ℕ, ◌+◌, ◌-◌, ◌^◌, ◌<◌, ◌≤◌, ◌⊎◌, min, max, List, [], ◌∷◌, ◌++◌, length, take, drop, replicate, sum_by, Option, Some, None}
use Rattle.std.specs.List.{AllByRecursion, AllZip, last_or}
use Rattle.smq_capture.specs.declared.direction.Direction.{Direction}
use Rattle.smq_capture.specs.declared.side.Side.{Side}
use Rattle.smq_capture.specs.Sessions.{Deals, next_session}

-- octets of a direction: who sent them, the place of the first, the number of the packet that brought them, their moment; and of those
-- that are settled, from the first on, the session of each
pub record Row : Type 0 where
  pub sender : Side
  pub place : ℕ
  pub number : ℕ
  pub moment : ℕ
  pub octets : List ℕ
  pub sessions : List ℕ

-- each of its octets is settled
abbrev pub IsSettled : Row → Type 0
IsSettled row = length row.sessions ≡ length row.octets

-- what a row takes in memory: its octets, and what stands beside them
abbrev pub weight_of : Row → ℕ
weight_of row = 160 + length row.octets

-- what rows take
abbrev pub weight_in : List Row → ℕ
weight_in rows = sum_by weight_of rows

-- its octets are settled up to a place, or to its end: those that were, those before the place, and no others
abbrev pub IsSettledTo : Option ℕ → Row → Row → Type 0
IsSettledTo None before after = length after.sessions ≡ length before.octets
IsSettledTo (Some place) before after =
    length after.sessions ≡ max (length before.sessions) (min (place - before.place) (length before.octets))

-- each octet of it that is settled was, or is before a place
abbrev pub SettlesBefore : ℕ → Row → Row → Type 0
SettlesBefore place before after = length after.sessions ≤ max (length before.sessions) (place - before.place)

-- octets of it are settled, the last of them as one of a session
abbrev pub EndsIn : ℕ → Row → Row → Type 0
EndsIn session before after = (length before.sessions < length after.sessions) × (last_or None after.sessions ≡ Some session)

-- so it is with one row or more
abbrev pub SomeEndsIn : ℕ → List Row → List Row → Type 0
SomeEndsIn session [] [] = ⊥
SomeEndsIn session [] (r ∷ rs) = ⊥
SomeEndsIn session (r ∷ rs) [] = ⊥
SomeEndsIn session (r ∷ rs) (t ∷ ts) = EndsIn session r t ⊎ SomeEndsIn session rs ts

-- more of its octets are settled: first some of the direction's session, then some of the one that follows in it. All else stays
pub record Settles (direction : Direction) (before after : Row) : Type 0 where
  pub one : ℕ
  pub other : ℕ
  pub after_is : after ≡ record before {
    sessions = before.sessions ++ (replicate one direction.session ++ replicate other (next_session direction));
  }

-- so it is with each row of a side, and the others stay
abbrev pub AllSettle : Side → Direction → List Row → List Row → Type 0
AllSettle side direction [] [] = Unit {0}
AllSettle side direction [] (r ∷ rs) = ⊥
AllSettle side direction (r ∷ rs) [] = ⊥
AllSettle side direction (r ∷ rs) (t ∷ ts) = Settles direction r t × (r.sender ≢ side → t ≡ r) × AllSettle side direction rs ts

-- octets of a row are settled at once, as they are dealt in its direction: so many are of its session, the others of the next
pub record Dealt (direction next : Direction) (before after : Row) : Type 0 where
  pub one : ℕ
  pub other : ℕ
  pub deals : Deals direction next (min (before.place + length before.sessions) (2 ^ 64 - 1))
      (take (one + other) (drop (length before.sessions) before.octets)) one
  pub after_is : after ≡ record before {
    sessions = before.sessions ++ (replicate one direction.session ++ replicate other next.session);
  }

-- so it is, or nothing changes
abbrev pub MayDeal : Direction → Direction → Row → Row → Type 0
MayDeal direction next before after = ((next ≡ direction) × (after ≡ before)) ⊎ Dealt direction next before after

-- the octets of a side are dealt in a direction, row by row
abbrev pub AllDealt : Side → Direction → Direction → List Row → List Row → Type 0
AllDealt side direction next [] [] = next ≡ direction
AllDealt side direction next [] (r ∷ rs) = ⊥
AllDealt side direction next (r ∷ rs) [] = ⊥
AllDealt side direction next (r ∷ rs) (t ∷ ts) =
    (then : Direction) × MayDeal direction then r t × (r.sender ≢ side → t ≡ r) × AllDealt side then next rs ts

-- each row of a side is settled up to a place of it, or to its end
abbrev pub AreSettledTo : Option ℕ → Side → List Row → List Row → Type 0
AreSettledTo until side before after = AllZip (λ r t. r.sender ≡ side → IsSettledTo until r t) before after

-- the rows of a side stand in order: none begins before one ends that was put before it
abbrev pub AreInOrder : Side → List Row → Type 0
AreInOrder side [] = Unit {0}
AreInOrder side (r ∷ rs) =
    (r.sender ≡ side → AllByRecursion (λ row. row.sender ≡ side → r.place + length r.octets ≤ row.place) rs) × AreInOrder side rs

-- octets of one session that follow one another
pub record Part : Type 0 where
  pub session : ℕ
  pub octets : List ℕ

-- all octets of parts, and the session of each
abbrev pub octets_in : List Part → List ℕ
octets_in [] = []
octets_in (p ∷ ps) = p.octets ++ octets_in ps

abbrev pub sessions_in : List Part → List ℕ
sessions_in [] = []
sessions_in (p ∷ ps) = replicate (length p.octets) p.session ++ sessions_in ps

-- the next part, if there is one, is of another session
abbrev pub IsBeforeOther : ℕ → List Part → Type 0
IsBeforeOther session [] = Unit {0}
IsBeforeOther session (p ∷ ps) = session ≢ p.session

-- no part is empty, and those that follow one another have different sessions
abbrev pub AreApart : List Part → Type 0
AreApart [] = Unit {0}
AreApart (p ∷ ps) = (0 < length p.octets) × IsBeforeOther p.session ps × AreApart ps

-- the octets of a row that are settled, in as few parts as there are
pub record AreParts (row : Row) (parts : List Part) : Type 0 where
  pub octets : octets_in parts ≡ take (length row.sessions) row.octets
  pub sessions : sessions_in parts ≡ row.sessions
  pub apart : AreApart parts

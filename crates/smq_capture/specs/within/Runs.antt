-- The sessions of a row's octets as the code keeps them: runs, each of some octets that are of one session.
use Rattle.std.specs.Prelude.{◌≡◌, ◌≢◌, ℕ, ◌<◌, ◌≤◌, List, [], ◌∷◌, ◌++◌, length, take, drop, replicate}
use Rattle.std.specs.List.{AllByRecursion}
use Rattle.smq_capture.specs.declared.waiting.Run.{Run}
use Rattle.smq_capture.specs.declared.side.Side.{Side}
use Rattle.smq_capture.specs.Rows.{IsSettled, Part, Row}

-- the session of each octet
abbrev pub sessions_of : List Run → List ℕ
sessions_of [] = []
sessions_of (r ∷ rs) = replicate r.count r.session ++ sessions_of rs

-- the next run, if there is one, is of another session
abbrev pub IsBeforeRun : ℕ → List Run → Type 0
IsBeforeRun session [] = Unit {0}
IsBeforeRun session (r ∷ rs) = session ≢ r.session

-- no run is empty, and those that follow one another have different sessions
abbrev pub AreRuns : List Run → Type 0
AreRuns [] = Unit {0}
AreRuns (r ∷ rs) = (0 < r.count) × IsBeforeRun r.session rs × AreRuns rs

-- what is kept of a row: its runs have as many octets as are settled
pub record IsKept (octets : List ℕ) (settled : ℕ) (runs : List Run) : Type 0 where
  pub count : length (sessions_of runs) ≡ settled
  pub within : settled ≤ length octets
  pub runs_are : AreRuns runs

-- octets by runs
abbrev pub parts_by : List ℕ → List Run → List Part
parts_by octets [] = []
parts_by octets (r ∷ rs) =
    (record { session = r.session; octets = take r.count octets }) ∷ parts_by (drop r.count octets) rs

-- so many rows from the first on need no more to be looked at for a side: those of it are settled
pub record IsDone (side : Side) (count : ℕ) (rows : List Row) : Type 0 where
  pub within : count ≤ length rows
  pub settled : AllByRecursion (λ row. row.sender ≡ side → IsSettled row) (take count rows)

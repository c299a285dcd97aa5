-- The rows that are written of captures, as a script is read.
use Rattle.std.specs.Prelude.{ℕ, ◌≤◌, ◌<◌, ◌^◌, List, length, map}
use Rattle.std.specs.List.{All, flat_map}
use Rattle.hex.specs.Hex.{IsBytes}
use Rattle.smq_kit.specs.declared.place.Dir.{Dir}
use Rattle.smq_kit.specs.declared.place.Dir.TheVariants.{FromClient, FromCentre}
use Rattle.smq_capture.specs.Row.{row_text}
use Rattle.smq_capture.specs.declared.side.Side.{Side}
use Rattle.smq_capture.specs.declared.side.Side.TheVariants.{Client, Centre}
use Rattle.smq_load.specs.Script.{IsScript, most_records}
use Rattle.smq_load.specs.declared.record.Row.{Row}
use Rattle.smq_load.specs.declared.record.Row.TheVariants.{Piece}

-- octets that an end of a session sent, and when all before them had come
pub record Captured : Type 0 where
  pub link : ℕ
  pub session : ℕ
  pub sender : Side
  pub moment : ℕ
  pub octets : List ℕ

-- the numbers that a row takes, and octets
pub record IsInRange (c : Captured) : Type 0 where
  pub link : c.link < 2 ^ 32
  pub session : c.session < 2 ^ 64
  pub moment : c.moment ≤ 4102444800000
  pub octets : IsBytes c.octets

-- the direction in which an end sends
abbrev pub direction : Side → Dir
direction Client = FromClient
direction Centre = FromCentre

-- what is written of them
abbrev pub written : Captured → List ℕ
written c = row_text c.link c.session c.sender c.moment c.octets

-- the row that says them
abbrev pub said : Captured → Row
said c = Piece (record {
  link = record { 0 = c.link };
  session = record { 0 = c.session };
  dir = direction c.sender;
  moment = c.moment;
  octets = c.octets;
})

-- the rows of a text that is written are those pieces, one after the other, and nothing else
pub record RowsAreRead : Type 0 where
  pub rows : (captured : List Captured) → All IsInRange captured → length captured ≤ most_records
      → IsScript (flat_map written captured) (map said captured)

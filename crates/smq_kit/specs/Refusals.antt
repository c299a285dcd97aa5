-- The table of refusals: numbers, names, fields and texts.
use Rattle.std.specs.Prelude.{ℕ, List, [], ◌++◌, Bool, codes, Option, Some, None}
use Rattle.std.specs.Fmt.{decimal}
use Rattle.smq_kit.specs.declared.refusal.Refusal.{Refusal}
use Rattle.smq_kit.specs.declared.refusal.Refusal.TheVariants.{EmptyPiece, BadMoment, Backward, OtherLink, OutOfStep, NoSession, Overlap, NoRoute, Ended, BadEnd, ClockBack, HistoryFull, Memory, StreamFull, NoThread, NoSeat, NoWatcher, BadWindow, TornSeat, BadPrefix, BadNetwork, BadId}
use Rattle.smq_kit.specs.declared.refusal.Row.{Row}
use Rattle.smq_kit.specs.contracts.refusal.RefusalPartialEq.TheImpl as refusal_eq

-- What is said of a refusal: its number, its name, and the field that it tells, where it has one.
pub record RefusalRow : Type 0 where
  pub number : ℕ
  pub name : List ℕ
  pub field : Option ℕ

-- the table of refusals
abbrev pub row_of : Refusal → RefusalRow
row_of EmptyPiece = record { number = 1; name = codes "EmptyPiece"; field = None }
row_of BadMoment = record { number = 2; name = codes "BadMoment"; field = None }
row_of (Backward last) = record { number = 3; name = codes "Backward"; field = Some last }
row_of (OtherLink link) = record { number = 4; name = codes "OtherLink"; field = Some link.0 }
row_of (OutOfStep offset) = record { number = 5; name = codes "OutOfStep"; field = Some offset }
row_of NoSession = record { number = 6; name = codes "NoSession"; field = None }
row_of (Overlap from) = record { number = 7; name = codes "Overlap"; field = Some from }
row_of NoRoute = record { number = 8; name = codes "NoRoute"; field = None }
row_of (Ended until) = record { number = 9; name = codes "Ended"; field = Some until }
row_of BadEnd = record { number = 10; name = codes "BadEnd"; field = None }
row_of (ClockBack clock) = record { number = 11; name = codes "ClockBack"; field = Some clock }
row_of HistoryFull = record { number = 12; name = codes "HistoryFull"; field = None }
row_of Memory = record { number = 13; name = codes "Memory"; field = None }
row_of StreamFull = record { number = 14; name = codes "StreamFull"; field = None }
row_of NoThread = record { number = 15; name = codes "NoThread"; field = None }
row_of NoSeat = record { number = 16; name = codes "NoSeat"; field = None }
row_of NoWatcher = record { number = 17; name = codes "NoWatcher"; field = None }
row_of BadWindow = record { number = 18; name = codes "BadWindow"; field = None }
row_of (TornSeat number) = record { number = 19; name = codes "TornSeat"; field = Some number }
row_of BadPrefix = record { number = 20; name = codes "BadPrefix"; field = None }
row_of BadNetwork = record { number = 21; name = codes "BadNetwork"; field = None }
row_of BadId = record { number = 22; name = codes "BadId"; field = None }

-- a row of the code's table, without where its name lies in memory
abbrev pub seen_row : Row → RefusalRow
seen_row row = record { number = row.number; name = row.name.now; field = row.field }

-- the number of a refusal
abbrev pub number_of : Refusal → ℕ
number_of refusal = (row_of refusal).number

-- a space and the field in decimal, or nothing
abbrev pub field_text : Option ℕ → List ℕ
field_text None = []
field_text (Some field) = codes " " ++ decimal field

-- the text of a row: its number, a space, its name and its field
abbrev pub row_text : RefusalRow → List ℕ
row_text row = decimal row.number ++ codes " " ++ row.name ++ field_text row.field

-- the text of a refusal
abbrev pub text_of : Refusal → List ℕ
text_of refusal = row_text (row_of refusal)

-- whether two refusals are equal by `==`
abbrev pub is_same : Refusal → Refusal → Bool
is_same a b = refusal_eq.ghosts.eq a b

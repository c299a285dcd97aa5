-- The rule of the board, and what a look at it tells.
use Rattle.std.specs.Prelude.{◌≡◌, ℕ, List}
use Rattle.std.specs.Arc.{arc_value}
use mathlib.Core.Option.{some}
use lib.ListN.{get_elem?}
use Rattle.smq_desk.specs.declared.board.Found.{Found}
use Rattle.smq_desk.specs.declared.board.Found.TheVariants.{There, Gone, NoMemory}
use Rattle.smq_desk.specs.declared.board.Known.{Known}
use Rattle.smq_desk.specs.declared.entry.Entry.{Entry}
use Rattle.smq_desk.specs.declared.published_history.Shown.{Shown}
use Rattle.smq_desk.specs.History.{StartsWith}

-- the entries on the board
abbrev pub shown_in : Shown → List Entry
shown_in shown = arc_value shown.published

-- The rule: what is on the board begins with what each side knows.
abbrev pub Keeps : Shown → List Known → Type 0
Keeps shown views = (side : ℕ) (known : Known) → get_elem? views side ≡ some known → StartsWith (shown_in shown) known.entries

-- what is on the board after a step begins with what its side knew, and is what it knows then
abbrev pub Sees : Known → Shown → Shown → Known → Type 0
Sees before old new after = StartsWith (shown_in new) before.entries × (after.entries ≡ shown_in new)

-- What a look tells: what is known then begins with what was known, and an edition that was found is all of it.
abbrev pub Looked : List Entry → List Entry → Found → Type 0
Looked before after (There edition) = StartsWith after before × (edition.entries ≡ after)
Looked before after Gone = StartsWith after before
Looked before after NoMemory = StartsWith after before

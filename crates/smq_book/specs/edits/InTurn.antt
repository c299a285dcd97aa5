-- What moves change, one after the other.
use Rattle.std.specs.Prelude.{◌≡◌, ⊤, List, [], ◌∷◌, ◌++◌, None}
use Rattle.std.specs.FinMap as map
use Rattle.smq_kit.specs.declared.place.Place.{Place}
use Rattle.smq_tally.specs.declared.list.Listed.{Listed}
use Rattle.smq_present.specs.present.Settings.{SettingsValue}
use Rattle.smq_present.specs.pairing.Traffic.{TrafficValue}
use Rattle.smq_present.specs.join.Keyed.{grouping_of}
use Rattle.smq_present.specs.join.Listings.{receipt_listings}
use Rattle.smq_present.specs.join.Moves.{Move, PutMessage, TakeMessage, PutReceipt, TakeReceipt, PutNote, TakeNote, moved, changes_of, receipt_changes_of}

-- Where a message is put in or taken out, or a receipt put in, no receipt stands.
abbrev pub IsFree : TrafficValue → Move → Type 0
IsFree t (PutMessage e) = map.get t.receipts e.0 ≡ None
IsFree t (TakeMessage q) = map.get t.receipts q ≡ None
IsFree t (PutReceipt e) = map.get t.receipts e.0 ≡ None
IsFree t (TakeReceipt q) = ⊤
IsFree t (PutNote note) = ⊤
IsFree t (TakeNote note) = ⊤

-- the same of moves in turn
abbrev pub AreFree : TrafficValue → List Move → Type 0
AreFree t [] = ⊤
AreFree t (move ∷ moves) = IsFree t move × AreFree (moved t move) moves

-- the place of a message or a receipt that is put in or taken out
abbrev pub moved_place : Move → List Place
moved_place (PutMessage e) = e.0 ∷ []
moved_place (TakeMessage q) = q ∷ []
moved_place (PutReceipt e) = e.0 ∷ []
moved_place (TakeReceipt q) = q ∷ []
moved_place (PutNote note) = []
moved_place (TakeNote note) = []

-- the note that is put in or taken out
abbrev pub moved_note : Move → List Listed
moved_note (PutNote note) = note ∷ []
moved_note (TakeNote note) = note ∷ []
moved_note _ = []

-- the places at which moves change facts, in turn: their own, and those of the messages whose standings they change
abbrev pub facts_changed : SettingsValue → TrafficValue → List Move → List Place
facts_changed s t [] = []
facts_changed s t (move ∷ moves) =
    (moved_place move ++ changes_of (grouping_of s t) (grouping_of s (moved t move))) ++ facts_changed s (moved t move) moves

-- the notes that moves change, in turn: their own, and those of the receipts whose standings they change
abbrev pub notes_changed : SettingsValue → TrafficValue → List Move → List Listed
notes_changed s t [] = []
notes_changed s t (move ∷ moves) =
    (moved_note move ++ receipt_listings (receipt_changes_of (grouping_of s t) (grouping_of s (moved t move))))
    ++ notes_changed s (moved t move) moves

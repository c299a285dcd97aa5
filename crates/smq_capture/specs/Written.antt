-- What is written of pieces and rows, as text.
use Rattle.std.specs.Prelude.{ℕ, List, [], ◌∷◌, ◌++◌}
use Rattle.smq_capture.specs.declared.sink.Piece.{Piece}
use Rattle.smq_capture.specs.Row.{row_text}
use Rattle.smq_capture.specs.Rows as rows

-- of a piece
abbrev pub piece_text : Piece → List ℕ
piece_text p = row_text p.link p.session p.sender p.moment p.octets.now

-- of parts of a row that an end of a link sent: a row of the script for each
abbrev pub parts_text : ℕ → rows.Row → List rows.Part → List ℕ
parts_text link row [] = []
parts_text link row (p ∷ ps) = row_text link p.session row.sender row.moment p.octets ++ parts_text link row ps

-- A row of a script as text (docs/FORMATS.md).
use Rattle.std.specs.Prelude.{ℕ, List, [], ◌∷◌, ◌++◌, codes, decimal}
use Rattle.hex.specs.Hex.{encode_lower}
use Rattle.smq_capture.specs.declared.side.Side.{Side}
use Rattle.smq_capture.specs.declared.side.Side.TheVariants.{Client, Centre}

-- how a row names an end
abbrev pub side_text : Side → List ℕ
side_text Client = codes ",client,"
side_text Centre = codes ",centre,"

-- the row of octets that an end of a session sent
abbrev pub row_text : ℕ → ℕ → Side → ℕ → List ℕ → List ℕ
row_text link session sender moment octets =
    codes "piece," ++ decimal link ++ codes "," ++ decimal session ++ side_text sender ++ decimal moment ++ codes ","
    ++ encode_lower octets ++ codes "\n"

-- Names and values in the text of a receipt (SMPP 3.4, appendix B).
use Rattle.std.specs.Prelude.{◌≡◌, ◌↔◌, ℕ, ◌+◌, ◌-◌, ◌≤◌, ◌==◌, ◌&&◌, ◌||◌, Bool, IsTrue, List, ◌++◌, length, take, drop, map, codes, slice_index, option_map, Option, Some, None}
use Rattle.std.specs.List.{before_first}
use Rattle.std.specs.Char.{to_ascii_lowercase}
use Rattle.std.specs.Str.{bytes_eq}
use Rattle.smq_receipt.specs.Places.{least_below}

-- two texts differ at most in the case of ASCII letters
unfoldable pub same_letters : List ℕ → List ℕ → Bool
same_letters xs ys = bytes_eq (map to_ascii_lowercase xs) (map to_ascii_lowercase ys)

-- a pattern stands at a place of a text, in any ASCII letter case
unfoldable pub stands_at : List ℕ → List ℕ → ℕ → Bool
stands_at pattern text place = same_letters (take (length pattern) (drop place text)) pattern

-- The text has at a place the octets of a pattern, in any ASCII letter case, between what comes before and after.
pub record Stands (pattern text : List ℕ) (place : ℕ) : Type 0 where
  pub front : List ℕ
  pub found : List ℕ
  pub rest : List ℕ
  pub parts : text ≡ front ++ (found ++ rest)
  pub starts : length front ≡ place
  pub same : map to_ascii_lowercase found ≡ map to_ascii_lowercase pattern

-- The test of a place says whether the pattern stands there.
abbrev pub FindsPatterns : Type 0
FindsPatterns = (pattern text : List ℕ) (place : ℕ) → place ≤ length text
    → IsTrue (stands_at pattern text place) ↔ Stands pattern text place

-- a place is the start of a text or follows a space, which is 32
abbrev pub is_opening : List ℕ → ℕ → Bool
is_opening text place = place == 0 || slice_index text (place - 1) == 32

-- a label, which is a name and a colon, stands at a place that is the start or follows a space
unfoldable pub labels_at : List ℕ → List ℕ → ℕ → Bool
labels_at label text place = is_opening text place && stands_at label text place

-- what begins the message's own text
abbrev pub text_mark : List ℕ
text_mark = codes " text:"

-- the text before a place, or the whole text
abbrev pub front_of : List ℕ → Option ℕ → List ℕ
front_of text None = text
front_of text (Some place) = take place text

-- the header part: what stands before the least place at which ` text:` stands, or the whole text
unfoldable pub header_of : List ℕ → List ℕ
header_of text = front_of text (least_below (stands_at text_mark text) (length text))

-- what follows a label at a place, up to the next space or the end
unfoldable pub value_at : List ℕ → List ℕ → ℕ → List ℕ
value_at label header place = before_first (λ octet. octet == 32) (drop (place + length label) header)

-- the value of a name: what follows its label at the least place where that stands
unfoldable pub value_of : List ℕ → List ℕ → Option (List ℕ)
value_of label header = option_map (value_at label header) (least_below (labels_at label header) (length header))

-- The script of a part: the rows that set, and a row for each PDU of what is present that goes there.
use Rattle.std.specs.Prelude.{◌≡◌, ◌==◌, ◌++◌, ℕ, codes, cond, decimal, drop, take, List, [], ◌∷◌, zip, Option, Some, None, Vec}
use Rattle.std.specs.FinMap as fin
use Rattle.std.specs.Global.{Global}
use Rattle.std.specs.BTreeMap.{insert_entry}
use Rattle.std.specs.List.{flat_map}
use Rattle.std.specs.Option.{option_or}
use Rattle.std.specs.Ordering.{nat_cmp}
use Rattle.std.specs.declared.cmp.Ordering.{Ordering}
use Rattle.smq_capture.specs.Row.{row_text}
use Rattle.smq_capture.specs.declared.side.Side.{Side}
use Rattle.smq_capture.specs.declared.side.Side.TheVariants.{Client, Centre}
use Rattle.smq_frame.specs.Frame.{FrameValue}
use Rattle.smq_frame.specs.Stream.{Octet, stream_frames, values}
use Rattle.smq_frame.specs.Tail.{tail_of}
use Rattle.smq_kit.specs.declared.message_id.Form.{Form}
use Rattle.smq_kit.specs.declared.message_id.Form.TheVariants.{Verbatim, Decimal, Hexadecimal}
use Rattle.smq_kit.specs.declared.names.LinkId.{LinkId}
use Rattle.smq_kit.specs.declared.place.Dir.{Dir}
use Rattle.smq_kit.specs.declared.place.Dir.TheVariants.{FromClient, FromCentre}
use Rattle.smq_present.specs.declared.present.session.Session.{Session}
use Rattle.smq_load.specs.declared.record.Row.{Row}
use Rattle.smq_load.specs.declared.record.Row.TheVariants.{Plain}
use Rattle.smq_present.specs.declared.present.edit.Edit.TheVariants.{SetForm, SetWindow, AddRoute, CorrectRoute, EndRoute, Advance}
use Rattle.smq_present.specs.present.Present.{PresentValue}
use Rattle.smq_present.specs.present.Stream.{last_moment}
use Rattle.smq_deal.specs.declared.direction_rows.Origin.{Origin}
use Rattle.smq_deal.specs.declared.head.Head.{Head}
use Rattle.smq_deal.specs.declared.head.Setting.{Setting}
use Rattle.smq_deal.specs.declared.head.Setting.TheVariants.{Forms, Window, Route, Clock}

-- an end as rows name it
abbrev pub side_of : Dir → Side
side_of FromClient = Client
side_of FromCentre = Centre

-- where the rows of a direction of a session come from
abbrev pub origin_in : ℕ × Session → Dir → Origin
origin_in e dir = record { link = e.1.link.0; session = e.0; side = side_of dir }

-- the row of octets of a moment
abbrev pub row_of : Origin → ℕ → List ℕ → List ℕ
row_of o moment octets = row_text o.link o.session o.side moment octets

-- that of a PDU, where it goes to this part
abbrev pub pdu_row : Origin → ℕ → FrameValue × ℕ → List ℕ
pdu_row o part x = cond (x.1 == part) (row_of o x.0.moment x.0.octets) []

-- the rows of PDUs that go to a part, where these are the parts of each
abbrev pub pdu_rows : Origin → ℕ → List FrameValue → List ℕ → List ℕ
pdu_rows o part frames parts = flat_map (pdu_row o part) (zip frames parts)

-- the four octets of a bad length that stands at an offset, and else the octets of a PDU that hasn't come whole
abbrev pub behind : List ℕ → Option ℕ → List ℕ → List ℕ
behind octets (Some at) rest = take 4 (drop at octets)
behind octets None rest = rest

-- the octets behind the last PDU of a stream: a bad length, after which there are no PDUs, or those of one that hasn't come whole
abbrev pub ending : List Octet → List ℕ
ending stream = behind (values stream) (tail_of (values stream)).broken (tail_of (values stream)).rest

-- the row of octets, where there are any
abbrev pub row_if_any : Origin → ℕ → List ℕ → List ℕ
row_if_any o moment [] = []
row_if_any o moment (octet ∷ octets) = row_of o moment (octet ∷ octets)

-- the row of what ends a direction, which has the moment of its last octet
abbrev pub ending_row : Origin → List Octet → List ℕ
ending_row o stream = row_if_any o (last_moment stream) (ending stream)

-- the rows of a direction for a part, where its PDUs go to these parts and what ends it to that one
abbrev pub direction_rows : ℕ → ℕ → (Origin × List Octet) × List ℕ → List ℕ
direction_rows ends part d =
    pdu_rows d.0.0 part (stream_frames d.0.1) d.1 ++ cond (part == ends) (ending_row d.0.0 d.0.1) []

-- both directions of a session, the client's first
abbrev pub both : ℕ × Session → List (Origin × List Octet)
both e = (origin_in e FromClient, e.1.client) ∷ (origin_in e FromCentre, e.1.centre) ∷ []

-- the directions of what is present, by the numbers of their sessions
abbrev pub directions_of : PresentValue → List (Origin × List Octet)
directions_of p = flat_map both (fin.entries p.sessions)

-- the rows of directions for a part, where their PDUs go to these parts
abbrev pub rows_of : ℕ → ℕ → List (Origin × List Octet) → List (List ℕ) → List ℕ
rows_of ends part directions parts = flat_map (direction_rows ends part) (zip directions parts)

-- ---- the rows that set

-- how rows name a form
abbrev pub form_name : Form → List ℕ
form_name Verbatim = codes "verbatim"
form_name Decimal = codes "decimal"
form_name Hexadecimal = codes "hexadecimal"

-- the row of a link's forms, of responses and of delivery receipts
abbrev pub form_row : LinkId × (Form × Form) → List ℕ
form_row e = codes "form," ++ decimal e.0.0 ++ codes "," ++ form_name e.1.0 ++ codes "," ++ form_name e.1.1 ++ codes "\n"

-- the row of a link's window
abbrev pub window_row : LinkId × ℕ → List ℕ
window_row e = codes "window," ++ decimal e.0.0 ++ codes "," ++ decimal e.1 ++ codes "\n"

-- the beginning of a row of a kind that names a version of a route, by its prefix and when it begins
abbrev pub version_text : List ℕ → List ℕ → ℕ → List ℕ
version_text kind prefix from = kind ++ codes "," ++ prefix ++ codes "," ++ decimal from ++ codes ","

-- the row of a kind that gives a version its route and its network
abbrev pub route_row : List ℕ → List ℕ → ℕ → ℕ → List ℕ → List ℕ
route_row kind prefix from route network =
    version_text kind prefix from ++ decimal route ++ codes "," ++ network ++ codes "\n"

-- the row that ends a version
abbrev pub end_row : List ℕ → ℕ → ℕ → List ℕ
end_row prefix from until = version_text (codes "end") prefix from ++ decimal until ++ codes "\n"

-- the row of a clock, where there is one
abbrev pub clock_row : Option ℕ → List ℕ
clock_row (Some clock) = codes "clock," ++ decimal clock ++ codes "\n"
clock_row None = []

-- the rows that set, those of each link by its number; the clock is this, and else the script's
abbrev pub head_text : Head → Option ℕ → List ℕ
head_text head clock =
    flat_map form_row head.forms.entries ++ flat_map window_row head.windows.entries ++ head.routes.items
    ++ clock_row (option_or clock head.clock)

-- a setting whose row is this
abbrev pub IsRoute : List ℕ → Option Setting → Type 0
IsRoute text made = (row : Vec ℕ Global) × (made ≡ Some (Route row)) × (row.items ≡ text)

-- what a row sets, where it does
abbrev pub IsSetting : Row → Option Setting → Type 0
IsSetting (Plain (SetForm link response receipt)) made = made ≡ Some (Forms link response receipt)
IsSetting (Plain (SetWindow link window)) made = made ≡ Some (Window link window)
IsSetting (Plain (AddRoute prefix from route network)) made = IsRoute (route_row (codes "route") prefix from route.0 network) made
IsSetting (Plain (CorrectRoute prefix from route network)) made = IsRoute (route_row (codes "correct") prefix from route.0 network) made
IsSetting (Plain (EndRoute prefix from until)) made = IsRoute (end_row prefix from until) made
IsSetting (Plain (Advance clock)) made = made ≡ Some (Clock clock)
IsSetting _ made = made ≡ None

-- links are ordered by their numbers
abbrev pub link_cmp : LinkId → LinkId → Ordering
link_cmp a b = nat_cmp a.0 b.0

-- what is set: of each link its forms and its window, the rows of routes, and the clock
pub record Sets : Type 0 where
  pub forms : List (LinkId × (Form × Form))
  pub windows : List (LinkId × ℕ)
  pub routes : List ℕ
  pub clock : Option ℕ

-- what rows set
abbrev pub sets_of : Head → Sets
sets_of head = record {
  forms = head.forms.entries;
  windows = head.windows.entries;
  routes = head.routes.items;
  clock = head.clock;
}

-- where there are none
abbrev pub none_set : Sets
none_set = record { forms = []; windows = []; routes = []; clock = None }

-- what is set with one more: of forms and windows the last of each link stays
abbrev pub with_setting : Sets → Setting → Sets
with_setting s (Forms link response receipt) = record s { forms = insert_entry link_cmp s.forms link (response, receipt) }
with_setting s (Window link window) = record s { windows = insert_entry link_cmp s.windows link window }
with_setting s (Route row) = record s { routes = s.routes ++ row.items }
with_setting s (Clock clock) = record s { clock = Some clock }

-- ---- the whole

-- the clock of a part, where it isn't the script's: the first part has this one
abbrev pub clock_of : ℕ → Option ℕ → Option ℕ
clock_of part clock = cond (part == 0) clock None

-- the script of a part, where the PDUs of each direction go to these parts and what ends it to that one
abbrev pub part_text : Head → Option ℕ → PresentValue → List (List ℕ) → ℕ → ℕ → List ℕ
part_text head clock p parts ends part = head_text head (clock_of part clock) ++ rows_of ends part (directions_of p) parts

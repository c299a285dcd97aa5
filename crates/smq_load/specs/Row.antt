-- The row that a record of a script says.
use Rattle.std.specs.Prelude.{ℕ, if◌then◌else◌, List, [], ◌∷◌, codes, Option, Some, None, option_and_then}
use Rattle.std.specs.Str.{bytes_eq}
use Rattle.smq_kit.specs.declared.message_id.Form.{Form}
use Rattle.smq_kit.specs.declared.names.LinkId.{LinkId}
use Rattle.smq_kit.specs.declared.names.RouteId.{RouteId}
use Rattle.smq_kit.specs.declared.names.SessionId.{SessionId}
use Rattle.smq_kit.specs.declared.place.Dir.{Dir}
use Rattle.smq_present.specs.declared.present.edit.Edit.TheVariants.{Withdraw, SetForm, SetWindow, AddRoute, EndRoute, CorrectRoute, Advance}
use Rattle.smq_load.specs.declared.record.Kind.{Kind}
use Rattle.smq_load.specs.declared.record.Kind.TheVariants as kind
use Rattle.smq_load.specs.declared.record.Row.{Row}
use Rattle.smq_load.specs.declared.record.Row.TheVariants.{Piece, Plain}
use Rattle.smq_load.specs.Fields.{dir_of, form_of, link_of, moment_of, network_of, octets_of, prefix_of, route_of, session_of, window_of}

-- the kind of record that a field names
abbrev pub kind_of : List ℕ → Option Kind
kind_of field =
    if bytes_eq field (codes "piece") then Some kind.Piece
    else if bytes_eq field (codes "withdraw") then Some kind.Withdraw
    else if bytes_eq field (codes "form") then Some kind.Form
    else if bytes_eq field (codes "window") then Some kind.Window
    else if bytes_eq field (codes "route") then Some kind.Route
    else if bytes_eq field (codes "end") then Some kind.End
    else if bytes_eq field (codes "correct") then Some kind.Correct
    else if bytes_eq field (codes "clock") then Some kind.Clock
    else None

-- how many fields a record of a kind has, the first among them
abbrev pub field_count_of : Kind → ℕ
field_count_of kind.Piece = 6
field_count_of kind.Withdraw = 2
field_count_of kind.Form = 4
field_count_of kind.Window = 3
field_count_of kind.Route = 5
field_count_of kind.End = 4
field_count_of kind.Correct = 5
field_count_of kind.Clock = 2

-- ---- rows of their parts, where none is missing

abbrev pub piece_from : Option LinkId → Option SessionId → Option Dir → Option ℕ → Option (List ℕ) → Option Row
piece_from (Some link) (Some session) (Some dir) (Some moment) (Some octets) =
    Some (Piece (record { link = link; session = session; dir = dir; moment = moment; octets = octets }))
piece_from _ _ _ _ _ = None

abbrev pub withdraw_from : Option SessionId → Option Row
withdraw_from (Some session) = Some (Plain (Withdraw session))
withdraw_from None = None

abbrev pub forms_from : Option LinkId → Option Form → Option Form → Option Row
forms_from (Some link) (Some response) (Some receipt) = Some (Plain (SetForm link response receipt))
forms_from _ _ _ = None

abbrev pub window_from : Option LinkId → Option ℕ → Option Row
window_from (Some link) (Some window) = Some (Plain (SetWindow link window))
window_from _ _ = None

abbrev pub route_from : Option (List ℕ) → Option ℕ → Option RouteId → Option (List ℕ) → Option Row
route_from (Some prefix) (Some from) (Some route) (Some network) = Some (Plain (AddRoute prefix from route network))
route_from _ _ _ _ = None

abbrev pub end_from : Option (List ℕ) → Option ℕ → Option ℕ → Option Row
end_from (Some prefix) (Some from) (Some until) = Some (Plain (EndRoute prefix from until))
end_from _ _ _ = None

abbrev pub correct_from : Option (List ℕ) → Option ℕ → Option RouteId → Option (List ℕ) → Option Row
correct_from (Some prefix) (Some from) (Some route) (Some network) =
    Some (Plain (CorrectRoute prefix from route network))
correct_from _ _ _ _ = None

abbrev pub clock_from : Option ℕ → Option Row
clock_from (Some clock) = Some (Plain (Advance clock))
clock_from None = None

-- ---- the table of records

-- the row that a record of a kind says by the fields after its first
abbrev pub row_of_kind : Kind → List (List ℕ) → Option Row
row_of_kind kind.Piece (link ∷ session ∷ dir ∷ moment ∷ octets ∷ []) =
    piece_from (link_of link) (session_of session) (dir_of dir) (moment_of moment) (octets_of octets)
row_of_kind kind.Withdraw (session ∷ []) = withdraw_from (session_of session)
row_of_kind kind.Form (link ∷ response ∷ receipt ∷ []) =
    forms_from (link_of link) (form_of response) (form_of receipt)
row_of_kind kind.Window (link ∷ window ∷ []) = window_from (link_of link) (window_of window)
row_of_kind kind.Route (prefix ∷ from ∷ route ∷ network ∷ []) =
    route_from (prefix_of prefix) (moment_of from) (route_of route) (network_of network)
row_of_kind kind.End (prefix ∷ from ∷ until ∷ []) =
    end_from (prefix_of prefix) (moment_of from) (moment_of until)
row_of_kind kind.Correct (prefix ∷ from ∷ route ∷ network ∷ []) =
    correct_from (prefix_of prefix) (moment_of from) (route_of route) (network_of network)
row_of_kind kind.Clock (moment ∷ []) = clock_from (moment_of moment)
row_of_kind _ _ = None

-- the row that a record says: the first field names its kind
abbrev pub row_of : List (List ℕ) → Option Row
row_of [] = None
row_of (first ∷ fields) = option_and_then (λ k. row_of_kind k fields) (kind_of first)

-- Rows of parts that are written out (docs/FORMATS.md).
use Rattle.std.specs.Prelude.{◌≡◌, ◌++◌, ℕ, codes, List, [], ◌∷◌, Option, Some, None, Vec}
use Rattle.std.specs.Global.{Global}
use Rattle.smq_capture.specs.Row.{row_text}
use Rattle.smq_capture.specs.declared.side.Side.TheVariants.{Client, Centre}
use Rattle.smq_frame.specs.Frame.{FrameValue}
use Rattle.smq_frame.specs.Stream.{Octet, stream_frames}
use Rattle.smq_kit.specs.declared.message_id.Form.TheVariants.{Verbatim, Decimal, Hexadecimal}
use Rattle.smq_kit.specs.declared.place.Dir.TheVariants.{FromClient, FromCentre}
use Rattle.smq_present.specs.declared.present.session.Session.{Session}
use Rattle.smq_present.specs.declared.present.edit.Edit.TheVariants.{SetForm, SetWindow, AddRoute, CorrectRoute, EndRoute, Advance, Withdraw}
use Rattle.smq_load.specs.declared.record.Row.TheVariants.{Plain}
use Rattle.smq_deal.specs.declared.direction_rows.Origin.{Origin}
use Rattle.smq_deal.specs.declared.head.Head.{Head}
use Rattle.smq_deal.specs.declared.head.Setting.{Setting}
use Rattle.smq_deal.specs.declared.head.Setting.TheVariants.{Forms, Window, Route, Clock}
use Rattle.smq_deal.specs.Known.{link}
use Rattle.smq_deal.specs.Texts.{Sets, behind, both, clock_of, clock_row, direction_rows, end_row, ending_row, form_row, head_text, IsRoute, IsSetting, origin_in, pdu_rows, route_row, row_if_any, row_of, window_row, with_setting}

abbrev pub centre : Origin
centre = record { link = 1; session = 2; side = Centre }

-- The rows of two PDUs that go to different parts; those of the octets behind them.
pub record KnownRows (one two : FrameValue) : Type 0 where
  pub row : row_of centre 1000 (0 ∷ 255 ∷ []) ≡ row_text 1 2 Centre 1000 (0 ∷ 255 ∷ [])
  pub first : pdu_rows centre 0 (one ∷ two ∷ []) (0 ∷ 1 ∷ []) ≡ row_of centre one.moment one.octets ++ []
  pub second : pdu_rows centre 1 (one ∷ two ∷ []) (0 ∷ 1 ∷ []) ≡ row_of centre two.moment two.octets ++ []
  -- four octets of a bad length, and else all of a PDU that hasn't come whole
  pub bad : behind (1 ∷ 2 ∷ 3 ∷ 4 ∷ 5 ∷ 6 ∷ 7 ∷ []) (Some 1) (8 ∷ []) ≡ 2 ∷ 3 ∷ 4 ∷ 5 ∷ []
  pub cut : behind (1 ∷ 2 ∷ 3 ∷ []) None (8 ∷ []) ≡ 8 ∷ []
  pub no_row : row_if_any centre 1000 [] ≡ []
  pub some : row_if_any centre 1000 (255 ∷ []) ≡ row_text 1 2 Centre 1000 (255 ∷ [])

-- Both directions of a session come from its link, the client's first. What ends one goes to the part of endings only.
pub record KnownDirections (e : ℕ × Session) (o : Origin) (stream : List Octet) : Type 0 where
  pub of_client : origin_in e FromClient ≡ record { link = e.1.link.0; session = e.0; side = Client }
  pub of_centre : origin_in e FromCentre ≡ record { link = e.1.link.0; session = e.0; side = Centre }
  pub two : both e ≡ (origin_in e FromClient, e.1.client) ∷ (origin_in e FromCentre, e.1.centre) ∷ []
  pub ends : direction_rows 1 1 ((o, stream), []) ≡ pdu_rows o 1 (stream_frames stream) [] ++ ending_row o stream
  pub no_end : direction_rows 1 0 ((o, stream), []) ≡ pdu_rows o 0 (stream_frames stream) [] ++ []

-- The rows that set.
pub record KnownSettings : Type 0 where
  pub form : form_row (link, (Decimal, Hexadecimal)) ≡ codes "form,1,decimal,hexadecimal\n"
  pub verbatim : form_row (link, (Verbatim, Verbatim)) ≡ codes "form,1,verbatim,verbatim\n"
  pub window : window_row (link, 500) ≡ codes "window,1,500\n"
  pub route : route_row (codes "route") (codes "44") 5 9 (codes "23415") ≡ codes "route,44,5,9,23415\n"
  pub end : end_row (codes "44") 5 9 ≡ codes "end,44,5,9\n"
  pub clock : clock_row (Some 500) ≡ codes "clock,500\n"
  pub no_clock : clock_row None ≡ []
  -- the first part has the clock that is given
  pub given : clock_of 0 (Some 500) ≡ Some 500
  pub others : clock_of 1 (Some 500) ≡ None

-- What a row sets.
pub record KnownEdits (made : Option Setting) : Type 0 where
  pub forms : IsSetting (Plain (SetForm link Decimal Hexadecimal)) made → made ≡ Some (Forms link Decimal Hexadecimal)
  pub window : IsSetting (Plain (SetWindow link 500)) made → made ≡ Some (Window link 500)
  pub route : IsSetting (Plain (AddRoute (codes "44") 5 (record { 0 = 9 }) (codes "23415"))) made → IsRoute (codes "route,44,5,9,23415\n") made
  pub correct : IsSetting (Plain (CorrectRoute (codes "44") 5 (record { 0 = 9 }) (codes "23415"))) made
      → IsRoute (codes "correct,44,5,9,23415\n") made
  pub end : IsSetting (Plain (EndRoute (codes "44") 5 9)) made → IsRoute (codes "end,44,5,9\n") made
  pub clock : IsSetting (Plain (Advance 500)) made → made ≡ Some (Clock 500)
  pub none : IsSetting (Plain (Withdraw (record { 0 = 2 }))) made → made ≡ None

-- forms and a window of one link, a route and a clock
abbrev pub set : Sets
set = record { forms = (link, (Verbatim, Verbatim)) ∷ []; windows = (link, 9) ∷ []; routes = codes "a"; clock = Some 7 }

-- Of forms, windows and clocks the last stays, of routes each row.
pub record KnownSets (row : Vec ℕ Global) : Type 0 where
  pub forms : (with_setting set (Forms link Decimal Hexadecimal)).forms ≡ (link, (Decimal, Hexadecimal)) ∷ []
  pub other : (with_setting set (Forms (record { 0 = 2 }) Decimal Hexadecimal)).forms
      ≡ (link, (Verbatim, Verbatim)) ∷ (record { 0 = 2 }, (Decimal, Hexadecimal)) ∷ []
  pub window : (with_setting set (Window link 500)).windows ≡ (link, 500) ∷ []
  pub route : row.items ≡ codes "b" → (with_setting set (Route row)).routes ≡ codes "ab"
  pub clock : (with_setting set (Clock 500)).clock ≡ Some 500

-- The order of the rows that set; a clock that is given stands for the script's.
pub record KnownHead (head : Head) : Type 0 where
  pub own : head.forms.entries ≡ (link, (Decimal, Hexadecimal)) ∷ [] → head.windows.entries ≡ (link, 500) ∷ [] → head.routes.items ≡ codes "a\n"
      → head.clock ≡ Some 7 → head_text head None ≡ codes "form,1,decimal,hexadecimal\nwindow,1,500\na\nclock,7\n"
  pub given : head.forms.entries ≡ [] → head.windows.entries ≡ [] → head.routes.items ≡ codes "a\n"
      → head.clock ≡ Some 7 → head_text head (Some 500) ≡ codes "a\nclock,500\n"

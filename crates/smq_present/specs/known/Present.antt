-- Known books: what is present, by hand, which edits are refused and what the others leave.
use Rattle.std.specs.Prelude.{◌≡◌, ℕ, List, [], ◌∷◌, ◌++◌, codes, Option, Some, None}
use Rattle.std.specs.FinMap as map
use Rattle.smq_kit.specs.declared.message_id.Form.TheVariants.{Verbatim, Decimal, Hexadecimal}
use Rattle.smq_kit.specs.declared.names.LinkId.{LinkId}
use Rattle.smq_kit.specs.declared.place.Dir.{Dir}
use Rattle.smq_kit.specs.declared.place.Dir.TheVariants.{FromClient, FromCentre}
use Rattle.smq_kit.specs.declared.refusal.Refusal.TheVariants as r
use Rattle.smq_frame.specs.Stream.{handed_in}
use Rattle.smq_frame.specs.Tail.{TailValue}
use Rattle.smq_route.specs.declared.version.Version.{Version}
use Rattle.smq_route.specs.declared.version.VersionKey.{VersionKey}
use Rattle.smq_route.specs.Versions.{key_at}
use Rattle.smq_present.specs.declared.present.edit.Edit.{Edit}
use Rattle.smq_present.specs.declared.present.edit.Edit.TheVariants.{Append, Withdraw, SetForm, SetWindow, AddRoute, EndRoute, CorrectRoute, Advance}
use Rattle.smq_present.specs.join.Circumstances.{window_of}
use Rattle.smq_present.specs.present.Batch.{batch_of, prepare_refusal}
use Rattle.smq_present.specs.present.Present.{PresentValue, empty, link_of, octets_of}
use Rattle.smq_present.specs.present.Replies.{reply}
use Rattle.smq_present.specs.present.Settings.{opening_settings, opening_forms, forms_of, window_if_set}
use Rattle.smq_present.specs.present.Steps.{step}
use Rattle.smq_present.specs.present.Stream.{last_moment}

-- session 10 of link 1, with one octet 0 from the client, handed in at 1000
abbrev pub one_octet : PresentValue
one_octet = record {
  sessions = map.insert map.empty 10 (record { link = record { 0 = 1 }; client = handed_in 1000 (0 ∷ []); centre = [] });
  settings = opening_settings;
}

-- a tail of so many octets, the last of which wait for more
abbrev pub waiting : ℕ → List ℕ → TailValue
waiting offset rest = record { offset = offset; rest = rest; broken = None }

-- one octet 0 for a session under a link, on a tail, at a moment
abbrev pub one_more : ℕ → ℕ → Dir → TailValue → ℕ → Edit
one_more link session dir tail moment =
    Append (batch_of (record { 0 = link }) (record { 0 = session }) dir tail moment (0 ∷ []))

-- the first book once another octet 0 is put after that one, at 2000
abbrev pub two_octets : PresentValue
two_octets = step one_octet (one_more 1 10 FromClient (waiting 1 (0 ∷ [])) 2000)

-- the first book once the forms of link 1 are set
abbrev pub with_forms : PresentValue
with_forms = step one_octet (SetForm (record { 0 = 1 }) Hexadecimal Decimal)

-- that book once another octet 0 is put after the first, at 2000
abbrev pub with_forms_and_octets : PresentValue
with_forms_and_octets = step with_forms (one_more 1 10 FromClient (waiting 1 (0 ∷ [])) 2000)

-- session 10 of link 1, with one octet 0 in each direction, under the forms of that book
abbrev pub two_directions : PresentValue
two_directions = record {
  sessions = map.insert map.empty 10
      (record { link = record { 0 = 1 }; client = handed_in 1000 (0 ∷ []); centre = handed_in 1000 (0 ∷ []) });
  settings = with_forms.settings;
}

-- that book once session 10 is withdrawn
abbrev pub withdrawn : PresentValue
withdrawn = step two_directions (Withdraw (record { 0 = 10 }))

-- the first octet 0 of a new session 10, of link 2, from its centre, handed in at 500
abbrev pub anew : Edit
anew = one_more 2 10 FromCentre (waiting 0 []) 500

-- a version by its prefix and beginning, with its end, its route and its network
abbrev pub version : List ℕ → ℕ → Option ℕ → ℕ → List ℕ → VersionKey × Version
version prefix from until route network =
    (key_at prefix from, record { until = until; route = record { 0 = route }; network = network })

-- prefix 44 has an open version, and prefix 447 has one that ends at 10,000, where the next begins, and an open one
abbrev pub known_versions : List (VersionKey × Version)
known_versions =
    version (codes "44") 0 None 1 (codes "23410")
    ∷ version (codes "447") 0 (Some 10000) 2 (codes "23415")
    ∷ version (codes "447") 10000 (Some 20000) 3 (codes "23420")
    ∷ version (codes "447") 30000 None 4 (codes "23430") ∷ []

-- the book of two directions with these versions
abbrev pub routed : PresentValue
routed = record two_directions {
  settings = record two_directions.settings { versions = map.from_entries known_versions };
}

-- the edits of a prefix and a beginning: a version of route 5 of network 234330, and a correction to these
abbrev pub adding : List ℕ → ℕ → Edit
adding prefix from = AddRoute prefix from (record { 0 = 5 }) (codes "234330")

abbrev pub correcting : List ℕ → ℕ → Edit
correcting prefix from = CorrectRoute prefix from (record { 0 = 5 }) (codes "234330")

-- the versions of routes of a book, in their order
abbrev pub versions_of : PresentValue → List (VersionKey × Version)
versions_of p = map.entries p.settings.versions

-- that book once its clock is advanced to 5, to 65,537, and to the last moment
abbrev pub at_five : PresentValue
at_five = step routed (Advance 5)

abbrev pub at_65537 : PresentValue
at_65537 = step routed (Advance 65537)

abbrev pub at_the_last : PresentValue
at_the_last = step routed (Advance 4102444800000)

-- the book whose clock is 5 once the window of link 1 is set to 1000, and that book once it is set anew, to 1001
abbrev pub with_window : PresentValue
with_window = step at_five (SetWindow (record { 0 = 1 }) 1000)

abbrev pub with_window_anew : PresentValue
with_window_anew = step with_window (SetWindow (record { 0 = 1 }) 1001)

-- the book with a window once another octet 0 is put after the client's, at 2000
abbrev pub with_window_and_octets : PresentValue
with_window_and_octets = step with_window (one_more 1 10 FromClient (waiting 1 (0 ∷ [])) 2000)

-- Replies on the book of one octet: another link comes before a stale tail, and that before an earlier moment.
pub record KnownReplies : Type 0 where
  pub other_link :
      reply one_octet (one_more 2 10 FromClient (waiting 0 []) 999)
      ≡ Some (r.OtherLink (record { 0 = 1 }))
  pub out_of_step : reply one_octet (one_more 1 10 FromClient (waiting 0 []) 999) ≡ Some (r.OutOfStep 1)
  pub other_rest : reply one_octet (one_more 1 10 FromClient (waiting 1 (1 ∷ [])) 1000) ≡ Some (r.OutOfStep 1)
  pub backward : reply one_octet (one_more 1 10 FromClient (waiting 1 (0 ∷ [])) 999) ≡ Some (r.Backward 1000)
  pub in_order : reply one_octet (one_more 1 10 FromClient (waiting 1 (0 ∷ [])) 1000) ≡ None
  -- The centre's direction has no octets, and so no last moment, nor has an absent session.
  pub other_direction : reply one_octet (one_more 1 10 FromCentre (waiting 0 []) 0) ≡ None
  pub other_session : reply one_octet (one_more 2 11 FromClient (waiting 0 []) 0) ≡ None
  pub other_session_stale : reply one_octet (one_more 2 11 FromClient (waiting 1 (0 ∷ [])) 0) ≡ Some (r.OutOfStep 0)

-- Where pieces are refused on a tail near the limit of 281,474,976,710,656 octets.
pub record KnownPieces : Type 0 where
  pub empty : prepare_refusal (waiting 281474976710657 []) [] ≡ Some r.EmptyPiece
  pub full : prepare_refusal (waiting 281474976710655 []) (0 ∷ 0 ∷ []) ≡ Some r.StreamFull
  pub last_octet : prepare_refusal (waiting 281474976710655 []) (0 ∷ []) ≡ None

-- What an append leaves of the book of one octet, and the last moment of a stream of two pieces and of none.
pub record KnownOctets : Type 0 where
  pub grown : octets_of two_octets 10 FromClient ≡ handed_in 1000 (0 ∷ []) ++ handed_in 2000 (0 ∷ [])
  pub other_direction : octets_of two_octets 10 FromCentre ≡ []
  pub stale : step one_octet (one_more 1 10 FromClient (waiting 0 []) 2000) ≡ one_octet
  pub last : last_moment (handed_in 1000 (0 ∷ []) ++ handed_in 2000 (0 ∷ 0 ∷ [])) ≡ 2000
  pub no_last : last_moment [] ≡ 0

-- What refuses a withdrawal, and what it leaves: no octet in either direction, the forms of the link, and the number of
-- the session, which serves anew.
pub record KnownWithdrawals : Type 0 where
  pub of_another_number : reply two_directions (Withdraw (record { 0 = 9 })) ≡ Some r.NoSession
  pub of_no_session : reply empty (Withdraw (record { 0 = 9 })) ≡ Some r.NoSession
  pub made : reply two_directions (Withdraw (record { 0 = 10 })) ≡ None
  pub client : octets_of withdrawn 10 FromClient ≡ []
  pub centre : octets_of withdrawn 10 FromCentre ≡ []
  pub forms : forms_of withdrawn.settings (record { 0 = 1 }) ≡ record { response = Hexadecimal; receipt = Decimal }
  pub anew_made : reply withdrawn anew ≡ None
  pub anew_link : link_of (step withdrawn anew) 10 ≡ Some (record { 0 = 2 })
  pub anew_client : octets_of (step withdrawn anew) 10 FromClient ≡ []
  pub anew_centre : octets_of (step withdrawn anew) 10 FromCentre ≡ handed_in 500 (0 ∷ [])

-- The forms of a link, before and after they are set and octets are appended.
pub record KnownForms : Type 0 where
  pub opening : opening_forms ≡ record { response = Verbatim; receipt = Verbatim }
  pub never_set : (link : LinkId) → forms_of empty.settings link ≡ opening_forms
  pub there : forms_of with_forms.settings (record { 0 = 1 }) ≡ record { response = Hexadecimal; receipt = Decimal }
  pub other_link :
      forms_of with_forms.settings (record { 0 = 2 })
      ≡ record { response = Verbatim; receipt = Verbatim }
  pub far_link :
      forms_of with_forms.settings (record { 0 = 65537 })
      ≡ record { response = Verbatim; receipt = Verbatim }
  pub octets : octets_of with_forms 10 FromClient ≡ handed_in 1000 (0 ∷ [])
  pub appended : octets_of with_forms_and_octets 10 FromClient ≡ handed_in 1000 (0 ∷ []) ++ handed_in 2000 (0 ∷ [])
  pub there_still :
      forms_of with_forms_and_octets.settings (record { 0 = 1 })
      ≡ record { response = Hexadecimal; receipt = Decimal }

-- What refuses edits of routes, in order: a version that lasts beyond the beginning of a new one, of which the least
-- beginning is told; of an end, that there is no such version, then that it has an end, then that the end isn't after
-- the beginning; of a correction, that there is no such version.
pub record KnownRouteReplies : Type 0 where
  pub before_all : reply routed (adding (codes "447") 5000) ≡ Some (r.Overlap 0)
  pub within_one : reply routed (adding (codes "447") 15000) ≡ Some (r.Overlap 10000)
  pub at_an_end : reply routed (adding (codes "447") 20000) ≡ Some (r.Overlap 30000)
  pub at_its_beginning : reply routed (adding (codes "447") 30000) ≡ Some (r.Overlap 30000)
  pub after_all : reply routed (adding (codes "447") 40000) ≡ Some (r.Overlap 30000)
  pub shorter_prefix : reply routed (adding (codes "44") 40000) ≡ Some (r.Overlap 0)
  pub other_prefix : reply routed (adding (codes "4477") 15000) ≡ None
  pub first_digit : reply routed (adding (codes "4") 0) ≡ None
  pub on_no_routes : reply two_directions (adding (codes "447") 0) ≡ None
  pub no_route : reply routed (EndRoute (codes "44") 1 1) ≡ Some r.NoRoute
  pub no_route_of_the_prefix : reply routed (EndRoute (codes "4477") 0 0) ≡ Some r.NoRoute
  pub ended : reply routed (EndRoute (codes "447") 10000 10000) ≡ Some (r.Ended 20000)
  pub ends_at_its_beginning : reply routed (EndRoute (codes "447") 30000 30000) ≡ Some r.BadEnd
  pub ends_before_it : reply routed (EndRoute (codes "447") 30000 29999) ≡ Some r.BadEnd
  pub ends : reply routed (EndRoute (codes "447") 30000 30001) ≡ None
  pub no_version : reply routed (correcting (codes "44") 1) ≡ Some r.NoRoute
  pub corrects_an_ended_one : reply routed (correcting (codes "447") 0) ≡ None

-- What edits of routes leave: the versions by the octets of their prefixes, then by their beginnings, with one put in or
-- changed; and octets, forms and versions where the others are edited. A new book has no versions.
pub record KnownRoutes : Type 0 where
  pub opening : versions_of empty ≡ []
  pub there : versions_of routed ≡ known_versions
  pub added : versions_of (step routed (adding (codes "446") 70000))
      ≡ version (codes "44") 0 None 1 (codes "23410")
      ∷ version (codes "446") 70000 None 5 (codes "234330")
      ∷ version (codes "447") 0 (Some 10000) 2 (codes "23415")
      ∷ version (codes "447") 10000 (Some 20000) 3 (codes "23420")
      ∷ version (codes "447") 30000 None 4 (codes "23430") ∷ []
  pub ended : versions_of (step routed (EndRoute (codes "447") 30000 30001))
      ≡ version (codes "44") 0 None 1 (codes "23410")
      ∷ version (codes "447") 0 (Some 10000) 2 (codes "23415")
      ∷ version (codes "447") 10000 (Some 20000) 3 (codes "23420")
      ∷ version (codes "447") 30000 (Some 30001) 4 (codes "23430") ∷ []
  pub corrected : versions_of (step routed (correcting (codes "447") 10000))
      ≡ version (codes "44") 0 None 1 (codes "23410")
      ∷ version (codes "447") 0 (Some 10000) 2 (codes "23415")
      ∷ version (codes "447") 10000 (Some 20000) 5 (codes "234330")
      ∷ version (codes "447") 30000 None 4 (codes "23430") ∷ []
  pub refused : step routed (EndRoute (codes "447") 30000 30000) ≡ routed
  pub octets : octets_of (step routed (adding (codes "446") 70000)) 10 FromCentre ≡ handed_in 1000 (0 ∷ [])
  pub forms :
      forms_of (step routed (adding (codes "446") 70000)).settings (record { 0 = 1 })
      ≡ record { response = Hexadecimal; receipt = Decimal }
  pub withdrawn : versions_of (step routed (Withdraw (record { 0 = 10 }))) ≡ known_versions
  pub forms_set : versions_of (step routed (SetForm (record { 0 = 1 }) Verbatim Verbatim)) ≡ known_versions

-- What refuses an advance: a clock below the present one, which the refusal tells. What others leave: the clock, and octets,
-- forms and versions as they were; and other edits leave the clock. A new book has the clock 0.
pub record KnownClocks : Type 0 where
  pub opening : empty.settings.clock ≡ 0
  pub opening_again : reply empty (Advance 0) ≡ None
  pub before : routed.settings.clock ≡ 0
  pub made : reply routed (Advance 5) ≡ None
  pub again : reply at_five (Advance 5) ≡ None
  pub next : reply at_five (Advance 6) ≡ None
  pub back : reply at_five (Advance 4) ≡ Some (r.ClockBack 5)
  pub back_to_the_opening : reply at_five (Advance 0) ≡ Some (r.ClockBack 5)
  pub back_to_1 : reply at_65537 (Advance 1) ≡ Some (r.ClockBack 65537)
  pub to_the_last : reply at_65537 (Advance 4102444800000) ≡ None
  pub back_by_1 : reply at_the_last (Advance 4102444799999) ≡ Some (r.ClockBack 4102444800000)
  pub last_again : reply at_the_last (Advance 4102444800000) ≡ None
  pub clock : at_five.settings.clock ≡ 5
  pub last_clock : at_the_last.settings.clock ≡ 4102444800000
  pub client : octets_of at_five 10 FromClient ≡ handed_in 1000 (0 ∷ [])
  pub centre : octets_of at_five 10 FromCentre ≡ handed_in 1000 (0 ∷ [])
  pub forms : forms_of at_five.settings (record { 0 = 1 }) ≡ record { response = Hexadecimal; receipt = Decimal }
  pub versions : versions_of at_five ≡ known_versions
  pub refused : step at_five (Advance 4) ≡ at_five
  pub stands : step at_five (Advance 5) ≡ at_five
  pub withdrawn : (step at_five (Withdraw (record { 0 = 10 }))).settings.clock ≡ 5
  pub forms_set : (step at_five (SetForm (record { 0 = 1 }) Verbatim Verbatim)).settings.clock ≡ 5

-- The window of a link is 172,800,000 ms until it is set, which nothing refuses. This leaves other links, octets, forms, versions
-- and the clock; and other edits leave the window.
pub record KnownWindows : Type 0 where
  pub never_set : (link : LinkId) → window_of empty.settings link ≡ 172800000
  pub none_set : window_if_set at_five.settings 1 ≡ None
  pub before : window_of at_five.settings (record { 0 = 1 }) ≡ 172800000
  pub made : (p : PresentValue) (link : LinkId) (window : ℕ) → reply p (SetWindow link window) ≡ None
  pub set : window_if_set with_window.settings 1 ≡ Some 1000
  pub there : window_of with_window.settings (record { 0 = 1 }) ≡ 1000
  pub none_of_another : window_if_set with_window.settings 2 ≡ None
  pub other_link : window_of with_window.settings (record { 0 = 2 }) ≡ 172800000
  pub far_link : window_of with_window.settings (record { 0 = 65537 }) ≡ 172800000
  pub there_anew : window_of with_window_anew.settings (record { 0 = 1 }) ≡ 1001
  pub other_link_anew : window_of with_window_anew.settings (record { 0 = 2 }) ≡ 172800000
  pub client : octets_of with_window 10 FromClient ≡ handed_in 1000 (0 ∷ [])
  pub centre : octets_of with_window 10 FromCentre ≡ handed_in 1000 (0 ∷ [])
  pub forms : forms_of with_window.settings (record { 0 = 1 }) ≡ record { response = Hexadecimal; receipt = Decimal }
  pub versions : versions_of with_window ≡ known_versions
  pub clock : with_window.settings.clock ≡ 5
  pub appended : octets_of with_window_and_octets 10 FromClient ≡ handed_in 1000 (0 ∷ []) ++ handed_in 2000 (0 ∷ [])
  pub there_still : window_of with_window_and_octets.settings (record { 0 = 1 }) ≡ 1000
  pub withdrawn : window_of (step with_window (Withdraw (record { 0 = 10 }))).settings (record { 0 = 1 }) ≡ 1000
  pub forms_set : window_of (step with_window (SetForm (record { 0 = 1 }) Verbatim Verbatim)).settings (record { 0 = 1 }) ≡ 1000
  pub advanced : window_of (step with_window (Advance 6)).settings (record { 0 = 1 }) ≡ 1000

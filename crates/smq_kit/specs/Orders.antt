-- The orders of names, moments, places, ids, numbers, keys and errors. What is ordered by kind and then by what it
-- says is ordered by a list of numbers, the kind's number first: a kind more is a line more.
use Rattle.std.specs.Prelude.{◌≡◌, ◌↔◌, ℕ, List, [], ◌∷◌, IsTrue}
use Rattle.std.specs.Ordering.{nat_cmp, ordering_then}
use Rattle.std.specs.declared.cmp.Ordering.{Ordering}
use Rattle.std.specs.declared.cmp.Ordering.TheVariants.{Less, Equal, Greater}
use Rattle.std.specs.Cmp.Lexicographic.{slice_cmp}
use Rattle.smq_kit.specs.declared.names.LinkId.{LinkId}
use Rattle.smq_kit.specs.declared.names.SessionId.{SessionId}
use Rattle.smq_kit.specs.declared.names.RouteId.{RouteId}
use Rattle.smq_kit.specs.declared.moment.Moment.{Moment}
use Rattle.smq_kit.specs.declared.place.Dir.{Dir}
use Rattle.smq_kit.specs.declared.place.Dir.TheVariants.{FromClient, FromCentre}
use Rattle.smq_kit.specs.declared.place.Place.{Place}
use Rattle.smq_kit.specs.declared.message_id.Key.{Key}
use Rattle.smq_kit.specs.declared.message_id.Key.TheVariants.{Number, Text}
use Rattle.smq_kit.specs.declared.error_code.ErrorCode.{ErrorCode}
use Rattle.smq_kit.specs.declared.error_code.ErrorCode.TheVariants as e
use Rattle.smq_kit.specs.declared.message_id.MessageId.{MessageId}
use Rattle.smq_kit.specs.declared.number.Digits.{Digits}
use Rattle.smq_kit.specs.declared.number.Network.{Network}
use Rattle.smq_kit.specs.contracts.names.LinkIdOrd.TheImpl as link_ord
use Rattle.smq_kit.specs.contracts.names.LinkIdPartialEq.TheImpl as link_eq
use Rattle.smq_kit.specs.contracts.names.SessionIdOrd.TheImpl as session_ord
use Rattle.smq_kit.specs.contracts.names.SessionIdPartialEq.TheImpl as session_eq
use Rattle.smq_kit.specs.contracts.names.RouteIdOrd.TheImpl as route_ord
use Rattle.smq_kit.specs.contracts.names.RouteIdPartialEq.TheImpl as route_eq
use Rattle.smq_kit.specs.contracts.moment.MomentOrd.TheImpl as moment_ord
use Rattle.smq_kit.specs.contracts.moment.MomentPartialEq.TheImpl as moment_eq
use Rattle.smq_kit.specs.contracts.place_order.PlaceOrd.TheImpl as place_ord
use Rattle.smq_kit.specs.contracts.message_id.MessageIdOrd.TheImpl as id_ord
use Rattle.smq_kit.specs.contracts.message_id.MessageIdPartialEq.TheImpl as id_eq
use Rattle.smq_kit.specs.contracts.number.DigitsOrd.TheImpl as digits_ord
use Rattle.smq_kit.specs.contracts.number.DigitsPartialEq.TheImpl as digits_eq
use Rattle.smq_kit.specs.contracts.number.NetworkOrd.TheImpl as network_ord
use Rattle.smq_kit.specs.contracts.number.NetworkPartialEq.TheImpl as network_eq
use Rattle.smq_kit.specs.contracts.message_id.KeyOrd.TheImpl as key_ord
use Rattle.smq_kit.specs.contracts.message_id.KeyPartialEq.TheImpl as key_eq
use Rattle.smq_kit.specs.contracts.error_code.ErrorCodeOrd.TheImpl as error_ord
use Rattle.smq_kit.specs.contracts.error_code.ErrorCodePartialEq.TheImpl as error_eq

-- `cmp` of links is the order of their numbers, and `==` says whether they are one
pub record LinksAreOrdered : Type 0 where
  pub order : (a b : LinkId) → link_ord.ghosts.cmp a b ≡ nat_cmp a.0 b.0
  pub same : (a b : LinkId) → IsTrue (link_eq.ghosts.eq a b) ↔ (a ≡ b)

-- the same of sessions
pub record SessionsAreOrdered : Type 0 where
  pub order : (a b : SessionId) → session_ord.ghosts.cmp a b ≡ nat_cmp a.0 b.0
  pub same : (a b : SessionId) → IsTrue (session_eq.ghosts.eq a b) ↔ (a ≡ b)

-- the same of routes
pub record RoutesAreOrdered : Type 0 where
  pub order : (a b : RouteId) → route_ord.ghosts.cmp a b ≡ nat_cmp a.0 b.0
  pub same : (a b : RouteId) → IsTrue (route_eq.ghosts.eq a b) ↔ (a ≡ b)

-- the same of moments, whose numbers are ms
pub record MomentsAreOrdered : Type 0 where
  pub order : (a b : Moment) → moment_ord.ghosts.cmp a b ≡ nat_cmp a b
  pub same : (a b : Moment) → IsTrue (moment_eq.ghosts.eq a b) ↔ (a ≡ b)

-- the client's direction comes first
abbrev pub dir_cmp : Dir → Dir → Ordering
dir_cmp FromClient FromClient = Equal
dir_cmp FromClient FromCentre = Less
dir_cmp FromCentre FromClient = Greater
dir_cmp FromCentre FromCentre = Equal

-- by session, then direction, then offset
abbrev pub place_cmp : Place → Place → Ordering
place_cmp a b =
    ordering_then (nat_cmp a.session.0 b.session.0) (ordering_then (dir_cmp a.dir b.dir) (nat_cmp a.offset b.offset))

-- the order by which a map of std compares places
abbrev pub kept_place_cmp : Place → Place → Ordering
kept_place_cmp = place_ord.ghosts.cmp

-- the place before which none stands
abbrev pub least_place : Place
least_place = record { session = record { 0 = 0 }; dir = FromClient; offset = 0 }

-- `cmp` of places is this order, and places that compare equal are one
pub record PlacesAreOrdered : Type 0 where
  pub order : (a b : Place) → place_ord.ghosts.cmp a b ≡ place_cmp a b
  pub exact : (a b : Place) → place_cmp a b ≡ Equal → a ≡ b

-- by their octets, the first that differ deciding, a text before those that it begins
abbrev pub octets_cmp : List ℕ → List ℕ → Ordering
octets_cmp a b = slice_cmp nat_cmp a b

-- `cmp` of ids is the order of their octets, and `==` says whether they are one
pub record MessageIdsAreOrdered : Type 0 where
  pub order : (a b : MessageId) → id_ord.ghosts.cmp a b ≡ octets_cmp a b
  pub same : (a b : MessageId) → IsTrue (id_eq.ghosts.eq a b) ↔ (a ≡ b)

-- the same of numbers
pub record DigitsAreOrdered : Type 0 where
  pub order : (a b : Digits) → digits_ord.ghosts.cmp a b ≡ octets_cmp a b
  pub same : (a b : Digits) → IsTrue (digits_eq.ghosts.eq a b) ↔ (a ≡ b)

-- the same of networks
pub record NetworksAreOrdered : Type 0 where
  pub order : (a b : Network) → network_ord.ghosts.cmp a b ≡ octets_cmp a b
  pub same : (a b : Network) → IsTrue (network_eq.ghosts.eq a b) ↔ (a ≡ b)

-- the numbers by which a key is ordered: its kind's, and then its number or its octets
abbrev pub key_numbers : Key → List ℕ
key_numbers (Number number) = 0 ∷ number ∷ []
key_numbers (Text octets) = 1 ∷ octets

-- numbers first, by value, then texts, by their octets
abbrev pub key_cmp : Key → Key → Ordering
key_cmp a b = slice_cmp nat_cmp (key_numbers a) (key_numbers b)

-- `cmp` of keys is this order, and `==` says whether they are one
pub record KeysAreOrdered : Type 0 where
  pub order : (a b : Key) → key_ord.ghosts.cmp a b ≡ key_cmp a b
  pub same : (a b : Key) → IsTrue (key_eq.ghosts.eq a b) ↔ (a ≡ b)

-- the numbers by which an error is ordered: its kind's, and then what it says
abbrev pub error_numbers : ErrorCode → List ℕ
error_numbers (e.Network kind code) = 0 ∷ kind ∷ code ∷ []
error_numbers (e.Text octets) = 1 ∷ octets
error_numbers e.Unstated = 2 ∷ []

-- codes of networks first, by network type, then by code; then texts, by their octets; then unstated
abbrev pub error_cmp : ErrorCode → ErrorCode → Ordering
error_cmp a b = slice_cmp nat_cmp (error_numbers a) (error_numbers b)

-- `cmp` of errors is this order, and `==` says whether they are one
pub record ErrorCodesAreOrdered : Type 0 where
  pub order : (a b : ErrorCode) → error_ord.ghosts.cmp a b ≡ error_cmp a b
  pub same : (a b : ErrorCode) → IsTrue (error_eq.ghosts.eq a b) ↔ (a ≡ b)

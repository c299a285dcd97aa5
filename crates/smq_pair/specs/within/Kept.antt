-- The PDUs of both directions, as they are kept.
use Rattle.std.specs.Prelude.{◌==◌, ◌&&◌, ℕ, Bool, if◌then◌else◌, List, [], ◌∷◌, ◌++◌, map, filter, Option, Some, None, option_map, option_and_then, is_none, nat_lt}
use Rattle.std.specs.List.{list_all}
use Rattle.std.specs.Ordering.{nat_cmp}
use Rattle.std.specs.Map.{lookup}
use Rattle.std.specs.BTreeMap.{is_at}
use Rattle.smq_kit.specs.declared.names.SessionId.{SessionId}
use Rattle.smq_kit.specs.declared.place.Dir.{Dir}
use Rattle.smq_kit.specs.declared.place.Dir.TheVariants.{FromClient, FromCentre}
use Rattle.smq_kit.specs.declared.place.Place.{Place}
use Rattle.smq_shelf.specs.Values.{with_value}
use Rattle.smq_pdu.specs.Header.{Header}
use Rattle.smq_pdu.specs.Pairing.{is_request}
use Rattle.smq_pair.specs.declared.paired_pdu.PairedPdu.{PairedPdu}
use Rattle.smq_pair.specs.declared.paired_pdu.PduLink.{PduLink}
use Rattle.smq_pair.specs.declared.paired_pdu.PduLink.TheVariants.{Alone, Before, Partner}
use Rattle.smq_pair.specs.declared.paired_pdu.Role.{Role}
use Rattle.smq_pair.specs.declared.paired_pdu.Series.{Series}
use Rattle.smq_pair.specs.declared.streams.Streams.{Streams}
use Rattle.smq_pair.specs.declared.pairing.Pair.{Pair}
use Rattle.smq_pair.specs.Pairing.{PlacedHeader, PairingValue, pdus_from, opposite, pair_of}
use Rattle.smq_pair.specs.within.Turns.{is_on, series_of}
use Rattle.smq_pair.specs.within.Stream.{Held}

-- the entries of each direction of a session, by offset
pub record Entries : Type 0 where
  pub session : SessionId
  pub client : List Held
  pub centre : List Held

abbrev pub entries_in : Streams → Entries
entries_in s = record { session = s.session; client = s.client.content; centre = s.centre.content }

-- those that can be brought back
abbrev pub settled_entries : Streams → Entries
settled_entries s = record { session = s.settled_session; client = s.client.settled; centre = s.centre.settled }

-- those of one direction
abbrev pub entries_from : Dir → Entries → List Held
entries_from FromClient es = es.client
entries_from FromCentre es = es.centre

-- what an entry says
abbrev pub header_of : PairedPdu → Header
header_of e = record { command = e.command; status = e.status; seq = e.seq }

-- the place at an offset
abbrev pub at_offset : SessionId → Dir → ℕ → Place
at_offset session dir offset = record { session = session; dir = dir; offset = offset }

-- what an entry says, at its place
abbrev pub placed_at : Place → PairedPdu → PlacedHeader
placed_at place e = record { place = place; header = header_of e }

-- the same of an entry at its offset
abbrev pub placed : SessionId → Dir → Held → PlacedHeader
placed session dir e = placed_at (at_offset session dir e.0) e.1

-- what entries say
abbrev pub pdus_in : Entries → PairingValue
pdus_in es = record {
  client = map (placed es.session FromClient) es.client;
  centre = map (placed es.session FromCentre) es.centre;
}

-- the series of an entry of a direction
abbrev pub series_of_entry : Dir → PairedPdu → Option Series
series_of_entry dir e = series_of dir (header_of e)

-- the offset of a partner, and of the next that waits, by a link
abbrev pub partner_in : PduLink → Option ℕ
partner_in Alone = None
partner_in (Before next) = None
partner_in (Partner partner) = Some partner

abbrev pub next_in : PduLink → Option ℕ
next_in Alone = None
next_in (Before next) = Some next
next_in (Partner partner) = None

-- whether an entry is of a side and has no partner
abbrev pub is_alone : Role → PairedPdu → Bool
is_alone side e = is_on side (header_of e) && is_none (partner_in e.link)

-- the places of those in a direction
abbrev pub alone_from : Role → SessionId → Dir → List Held → List Place
alone_from side session dir es = map (λ e. at_offset session dir e.0) (filter (λ e. is_alone side e.1) es)

-- and in both, the client's first
abbrev pub places_alone : Role → Entries → List Place
places_alone side es =
    alone_from side es.session FromClient es.client ++ alone_from side es.session FromCentre es.centre

-- whether PDUs are all of a session
abbrev pub are_of_session : SessionId → PairingValue → Bool
are_of_session session v = list_all (λ p. p.place.session.0 == session.0) (v.client ++ v.centre)

-- whether the PDUs of a place's direction are all below it
abbrev pub are_below : Place → PairingValue → Bool
are_below place v = list_all (λ p. nat_lt p.place.offset place.offset) (pdus_from place.dir v)

-- what is kept at an offset of a direction
abbrev pub held_at : ℕ → List Held → Option PairedPdu
held_at offset es = lookup (is_at (nat_cmp offset)) es

-- what is kept at a place
abbrev pub kept_at : Place → Entries → Option PairedPdu
kept_at place es =
    if place.session.0 == es.session.0 then held_at place.offset (entries_from place.dir es) else None

-- what the one at an offset of a direction has for its next
abbrev pub next_kept : Dir → ℕ → Entries → Option ℕ
next_kept dir offset es = option_and_then (λ e. next_in e.link) (held_at offset (entries_from dir es))

-- an entry with a link
abbrev pub with_its : PduLink → PairedPdu → PairedPdu
with_its link e = record e { link = link }

abbrev pub with_link : PduLink → Option PairedPdu → Option PairedPdu
with_link link None = None
with_link link (Some e) = Some (record e { link = link })

-- entries of which the one at an offset, if that is given and it is there, has this link
abbrev pub linked : Option ℕ → PduLink → List Held → List Held
linked None link es = es
linked (Some at) link es = with_value nat_cmp at (with_link link (held_at at es)) es

-- one more in a direction at a place of it, which is the partner of its own, and the next of the one at `before`
abbrev pub joined : Dir → Place → Option ℕ → PairedPdu → Entries → Entries
joined FromClient place before e es = record {
  session = place.session;
  client = linked before (Before place.offset) es.client ++ (place.offset, e) ∷ [];
  centre = linked (partner_in e.link) (Partner place.offset) es.centre;
}
joined FromCentre place before e es = record {
  session = place.session;
  client = linked (partner_in e.link) (Partner place.offset) es.client;
  centre = linked before (Before place.offset) es.centre ++ (place.offset, e) ∷ [];
}

-- the pair of two PDUs, whichever of them is the request
abbrev pub pair_by : PlacedHeader → PlacedHeader → Pair
pair_by p other = if is_request p.header then pair_of p other else pair_of other p

-- the partner of an entry of a direction
abbrev pub partner_kept : Dir → PairedPdu → Entries → Option PairedPdu
partner_kept dir e es = option_and_then (λ q. held_at q (entries_from (opposite dir) es)) (partner_in e.link)

-- the pair of an entry at a place with its partner, where that is found
abbrev pub pair_found : Place → PairedPdu → Option PairedPdu → Option Pair
pair_found place e found = option_and_then (λ q. option_map
    (λ x. pair_by (placed_at place e) (placed place.session (opposite place.dir) (q, x))) found) (partner_in e.link)

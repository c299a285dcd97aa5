-- The definitions computed on known frames, records and blocks.
use Rattle.std.proofs.Common.{◌≡◌, ℕ, Bool, List, length, vec_len, refl, ap, ◌∙◌}
use Rattle.smq_packets.specs.Blocks.{block_of, section_after}
use Rattle.smq_packets.specs.Fragments.{IsPartOf, is_overlapped, is_repeated, joined}
use Rattle.smq_packets.specs.Known.{KnownSegments, KnownRefusals, KnownRecords, KnownBlocks, KnownFragments}
use Rattle.smq_packets.specs.Numbers.{between}
use Rattle.smq_packets.specs.Options.{option_within}
use Rattle.smq_packets.specs.Segments.{behind_of, carried_by}
use Rattle.smq_packets.specs.declared.datagram.Fragment.{Fragment}
use Rattle.smq_packets.specs.declared.part.Part.{Part}

pub known_segments : KnownSegments
unfolding behind_of carried_by
known_segments = record {
  ethernet = refl;
  ethernet_6 = refl;
  padded = refl;
  cooked = refl;
  cooked_2 = refl;
  loopback = refl;
  loopback_big = refl;
  loopback_10 = refl;
  loopback_24 = refl;
  loopback_28 = refl;
  raw = refl;
  two_tags = refl;
  other_tags = refl;
  labels = refl;
  session = refl;
  multicast_label = refl;
  session_6 = refl;
  ip_in_ip = refl;
  version_6_in_4 = refl;
  version_4_in_6 = refl;
  gre = refl;
  gre_with_all = refl;
  vxlan = refl;
  extensions = refl;
  other_extensions = refl;
  authentication = refl;
  one_piece = refl;
  options = refl;
  two_captured = refl;
  head_alone = refl;
  reset = refl;
  uncut = refl;
  uncut_6 = refl;
  deepest = refl;
}

pub known_refusals : KnownRefusals
unfolding behind_of carried_by
known_refusals = record {
  short_ip = refl;
  short_total = refl;
  short_tcp = refl;
  long_tcp = refl;
  too_long = refl;
  long_extension = refl;
  no_session = refl;
  no_network = refl;
  cut_ethernet = refl;
  cut_ip = refl;
  cut_options = refl;
  cut_ip_6 = refl;
  cut_tcp = refl;
  arp = refl;
  dns = refl;
  icmp = refl;
  pptp = refl;
  gre_routing = refl;
  gre_strict = refl;
  gre_recursion = refl;
  version_5 = refl;
  first_part = refl;
  later_part = refl;
  last_part = refl;
  part_of_6 = refl;
  last_part_of_6 = refl;
  too_deep = refl;
}

pub known_records : KnownRecords
known_records = record {
  big = refl;
  big_nano = refl;
  little = refl;
  little_nano = refl;
  with_checksum = refl;
  link_types = refl;
  raw_link_types = refl;
  other_link = refl;
  other_magic = refl;
  short = refl;
  a_packet = refl;
  a_little_packet = refl;
  says = refl;
  no_head = refl;
  not_whole = refl;
  longest = refl;
  too_long = refl;
}

pub known_blocks : KnownBlocks
unfolding block_of section_after option_within
known_blocks = record {
  big = refl;
  little = refl;
  sections = refl;
  version_2 = refl;
  no_magic = refl;
  interface = refl;
  interface_block = refl;
  plain_interface = refl;
  packet = refl;
  late_packet = refl;
  same_section = refl;
  old_packet = refl;
  simple_packet = refl;
  all_captured = refl;
  statistics = refl;
  no_statistics = refl;
  units = refl;
  parts = refl;
  from_before = refl;
  before = refl;
  other = refl;
  no_head = refl;
  not_whole = refl;
  shortest = refl;
  no_words = refl;
  short = refl;
  long = refl;
  other_end = refl;
  no_interface = refl;
  more_octets = refl;
  no_first_interface = refl;
  more_simple_octets = refl;
}

-- how many octets a part has
size_of : (a : Part) {f : Fragment} {moment : ℕ} {octets : List ℕ} {o : Bool} → IsPartOf a f moment octets o →
    vec_len a.octets ≡ length (between f.start f.until octets)
size_of a p = a.octets.ok.0 ∙ ap length p.octets

pub known_fragments : KnownFragments
unfolding joined is_repeated is_overlapped behind_of carried_by
known_fragments = record {
  whole = refl;
  odd_last = refl;
  odd = refl;
  by_four = refl;
  cut = refl;
  empty = refl;
  highest = refl;
  too_high = refl;
  joined = λ a b p q. simp (
    p.source,
    p.destination,
    p.protocol,
    p.identification,
    p.offset,
    p.is_followed,
    p.overlapping,
    p.octets,
    q.source,
    q.destination,
    q.protocol,
    q.identification,
    q.offset,
    q.is_followed,
    q.overlapping,
    q.octets,
  );
  gap = λ b q. simp (q.source, q.destination, q.protocol, q.identification, q.offset);
  no_last = λ a p. simp (p.source, p.destination, p.protocol, p.identification, p.offset, p.is_followed, p.overlapping, p.octets);
  overlapping = λ a b p q. simp (
    p.source,
    p.destination,
    p.protocol,
    p.identification,
    p.offset,
    p.is_followed,
    p.overlapping,
    p.octets,
    q.source,
    q.destination,
    q.protocol,
    q.identification,
    q.offset,
    q.overlapping,
  );
  other = λ a b p q. simp (
    p.source,
    p.destination,
    p.protocol,
    p.identification,
    p.offset,
    q.source,
    q.destination,
    q.protocol,
    q.identification,
    q.offset,
  );
  again = λ a p. simp (p.source, p.destination, p.protocol, p.identification, p.offset, size_of a p);
  longer = λ a p. simp (p.source, p.destination, p.protocol, p.identification, p.offset, size_of a p);
  next = λ a p. simp (p.source, p.destination, p.protocol, p.identification, p.offset, p.overlapping, size_of a p);
  common = λ a p. simp (p.source, p.destination, p.protocol, p.identification, p.offset, p.overlapping, size_of a p);
  kept = λ a p. simp p.moment_is;
  old = λ a p. simp p.moment_is;
  room = λ a p. simp p.moment_is;
  full = λ a p. refl;
  carries = λ w s d p o. rw (s, d, p, o) refl;
  carries_no_extension = λ w s p. rw (s, p) refl;
  carries_extensions = λ w s d p o. rw (s, d, p, o) refl;
}

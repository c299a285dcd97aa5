-- What waits of each exchange, and what is kept of it.
use Rattle.std.specs.Prelude.{◌≡◌, ◌<◌, ◌+◌, ℕ, Bool, true, false, if◌then◌else◌, List, Option, Some, None, option_map, option_and_then, slice_get}
use Rattle.std.specs.Map.{lookup}
use Rattle.std.specs.BTreeMap.{is_at}
use Rattle.smq_kit.specs.declared.place.Dir.{Dir}
use Rattle.smq_pdu.specs.Header.{Header}
use Rattle.smq_pair.specs.declared.paired_pdu.Role.{Role}
use Rattle.smq_pair.specs.declared.paired_pdu.Role.TheVariants.{Request, Response}
use Rattle.smq_pair.specs.declared.paired_pdu.PduLink.{PduLink}
use Rattle.smq_pair.specs.declared.paired_pdu.PduLink.TheVariants.{Alone, Before, Partner}
use Rattle.smq_pair.specs.declared.paired_pdu.Series.{Series}
use Rattle.smq_pair.specs.declared.paired_pdu.Exchange.{Exchange}
use Rattle.smq_pair.specs.declared.paired_pdu.Waiting.{Waiting}
use Rattle.smq_pair.specs.declared.paired_pdu.Meeting.{Meeting}
use Rattle.smq_pair.specs.Pairing.{PairingValue, opposite, pdus_from}
use Rattle.smq_pair.specs.Growth.{AreInOrder}
use Rattle.smq_pair.specs.within.Turns.{count_in, index_at, next_of, other_side, partner_of}
use Rattle.smq_pair.specs.within.Orders.{exchange_cmp}
use Rattle.smq_pair.specs.within.Stream.{Held}
use Rattle.smq_pair.specs.within.Kept.{Entries, entries_from, header_of, next_kept, pdus_in}

-- the direction of a side, where this is that of requests; and the other way round
abbrev pub dir_of : Role → Dir → Dir
dir_of Request dir = dir
dir_of Response dir = opposite dir

-- the exchange of a series, and the series of an exchange
abbrev pub exchange_of : Series → Exchange
exchange_of s = record { seq = s.seq; dir = dir_of s.side s.dir }

abbrev pub series_in : Exchange → Role → Series
series_in x side = record { seq = x.seq; dir = dir_of side x.dir; side = side }

-- whether two sides are one
abbrev pub is_same : Role → Role → Bool
is_same Request Request = true
is_same Request Response = false
is_same Response Request = false
is_same Response Response = true

-- what a PDU at this offset makes of an exchange, where the second of those that wait is at `next`
abbrev pub meeting_with : Option Waiting → Role → ℕ → Option ℕ → Meeting
meeting_with None side offset next = record {
  waiting = Some (record { side = side; first = offset; last = offset });
  before = None;
  link = Alone;
}
meeting_with (Some w) side offset next =
    if is_same w.side side then record {
      waiting = Some (record { side = w.side; first = w.first; last = offset });
      before = Some w.last;
      link = Alone;
    } else record {
      waiting = option_map (λ first. record { side = w.side; first = first; last = w.last }) next;
      before = None;
      link = Partner w.first;
    }

-- what is kept of exchanges of which PDUs wait
abbrev pub Waits : Type 0
Waits = List (Exchange × Waiting)

abbrev pub waiting_kept : Waits → Exchange → Option Waiting
waiting_kept m x = lookup (is_at (exchange_cmp x)) m

-- what the PDU at an offset makes of the exchange of its series, by what is kept
abbrev pub next_waiting : Option Waiting → Exchange → Entries → Option ℕ
next_waiting None x es = None
next_waiting (Some w) x es = next_kept (dir_of w.side x.dir) w.first es

abbrev pub meeting_at : Series → ℕ → Waits → Entries → Meeting
meeting_at s offset m es =
    meeting_with (waiting_kept m (exchange_of s)) s.side offset (next_waiting (waiting_kept m (exchange_of s)) (exchange_of s) es)

-- the offset of the PDU at an index of a direction
abbrev pub offset_at : PairingValue → Dir → Option ℕ → Option ℕ
offset_at v dir o = option_and_then (λ i. option_map (λ p. p.place.offset) (slice_get (pdus_from dir v) i)) o

-- the offset of the PDU of a rank of a series
abbrev pub rank_offset : PairingValue → Series → ℕ → Option ℕ
rank_offset v s rank = offset_at v s.dir (index_at v (record { series = s; rank = rank }))

-- More PDUs of a series than of its partner's came. Those of higher ranks wait: the first and the last are at these offsets.
pub record AreWaiting (v : PairingValue) (s r : Series) (first last : ℕ) : Type 0 where
  pub more : count_in v r < count_in v s
  pub first_at : rank_offset v s (count_in v r) ≡ Some first
  pub last_at : (rank : ℕ) → rank + 1 ≡ count_in v s → rank_offset v s rank ≡ Some last

-- What is kept of an exchange is what waits, or there are as many of either side.
abbrev pub WaitsFor : PairingValue → Exchange → Option Waiting → Type 0
WaitsFor v x None = count_in v (series_in x Request) ≡ count_in v (series_in x Response)
WaitsFor v x (Some w) = AreWaiting v (series_in x w.side) (series_in x (other_side w.side)) w.first w.last

-- a link to a partner, or to the next that waits, or to none
abbrev pub link_by : Option ℕ → Option ℕ → PduLink
link_by None None = Alone
link_by None (Some next) = Before next
link_by (Some partner) next = Partner partner

-- the link of the header at an index of a direction
abbrev pub link_of : PairingValue → Dir → ℕ → Header → PduLink
link_of v dir i header = link_by (offset_at v (opposite dir) (partner_of v dir i header)) (offset_at v dir (next_of v dir i header))

-- The PDUs stand in order, each exchange has what waits of it, and each entry has its link.
pub record HoldsOf (v : PairingValue) (m : Waits) (es : Entries) : Type 0 where
  pub in_order : AreInOrder v
  pub waits : (x : Exchange) → WaitsFor v x (waiting_kept m x)
  pub links : (dir : Dir) (i : ℕ) (e : Held) → slice_get (entries_from dir es) i ≡ Some e → e.1.link ≡ link_of v dir i (header_of e.1)

-- What is kept is what the entries say.
abbrev pub Holds : Waits → Entries → Type 0
Holds m es = HoldsOf (pdus_in es) m es

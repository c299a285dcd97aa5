-- What the code keeps, with one PDU more.
use Rattle.std.proofs.Common.{◌≡◌, ◌≢◌, ℕ, ◌+◌, ◌-◌, ◌<◌, ◌≤◌, ◌⊎◌, inl, inr, Bool, true, false, cond, length, Option, Some, None, refl, sym, ap, ◌∙◌, subst, arith}
use Rattle.std.specs.Prelude.{count_by, nat_lt, option_map, option_and_then, slice_get}
use Rattle.std.proofs.lemmas.Bool.Decides.{nat_tests}
use Rattle.std.specs.BTreeMap.{is_at}
use Rattle.std.specs.List.Sorted.{IsStrictlySortedBy}
use Rattle.std.specs.Map.{keys_of}
use Rattle.smq_kit.specs.declared.place.Dir.{Dir}
use Rattle.smq_kit.specs.declared.place.Place.{Place}
use Rattle.smq_shelf.specs.Values.{with_value}
use Rattle.smq_pdu.specs.Header.{Header}
use Rattle.smq_pair.specs.declared.paired_pdu.PairedPdu.{PairedPdu}
use Rattle.smq_pair.specs.declared.paired_pdu.Exchange.{Exchange}
use Rattle.smq_pair.specs.declared.paired_pdu.Meeting.{Meeting}
use Rattle.smq_pair.specs.declared.paired_pdu.PduLink.TheVariants.{Alone, Before, Partner}
use Rattle.smq_pair.specs.declared.paired_pdu.Series.{Series}
use Rattle.smq_pair.specs.declared.paired_pdu.Role.{Role}
use Rattle.smq_pair.specs.declared.paired_pdu.Role.TheVariants.{Request, Response}
use Rattle.smq_pair.specs.declared.paired_pdu.Waiting.{Waiting}
use Rattle.smq_pair.specs.declared.pairing.Pair.{Pair}
use Rattle.smq_pair.specs.Pairing.{PlacedHeader, PairingValue, pdus_from, opposite, pair_at}
use Rattle.smq_pair.specs.Growth.{AreInOrder, IsNext, pushed}
use Rattle.smq_pair.specs.within.Turns.{Turn, is_of, headers_from, count_in, index_at, later, next_of, other_side, partner, partner_series, series_of, turn_after, turn_of, partner_of}
use Rattle.smq_pair.specs.within.Orders.{exchange_cmp}
use Rattle.smq_pair.specs.within.Stream.{Held}
use Rattle.smq_pair.specs.within.Kept.{Entries, are_of_session, at_offset, entries_from, header_of, held_at, joined, next_in, next_kept, pair_found, partner_in, partner_kept, placed, placed_at, pdus_in}
use Rattle.smq_pair.specs.within.Waits.{AreWaiting, Holds, HoldsOf, Waits, WaitsFor, dir_of, exchange_of, is_same, link_by, link_of, meeting_with, meeting_at, next_waiting, offset_at, rank_offset, series_in, waiting_kept}
use Rattle.smq_pair.proofs.Keys.{at_exchange, kept-with}
use Rattle.smq_pair.proofs.Lists.{none-beyond, some-is, some-within, never}
use Rattle.smq_pair.proofs.Turned
use Rattle.smq_pair.proofs.Turned.{index-free, index-next, opposite-apart, opposite-back, partner-back, pushed-apart, turn_parts, turn-found, turn-there, next_turn, index-others, other_side-back, turn-stays}
use Rattle.smq_pair.proofs.Standing.{pair_either, pair_with, pair-here}
use Rattle.smq_pair.proofs.Order.{in-order-next}
use Rattle.smq_pair.proofs.Held.{linked_to, found-kept}
use Rattle.smq_pair.proofs.Entries.{appended, set_in, set_in-session, of_session, of_session-from, of_session-pdus, of_session-holds, of_session-joined, pdus-at, header-kept, pdu-kept, entries-ascend, appended-in, length-kept, appended-get, linked-pdus, linked-get, joined-alone, joined-linked, joined-before}
use Rattle.smq_pair.proofs.Entered.{count-next, count-others, found-stays, later-none, nothing-found, partner-next, partner-linked}
use Rattle.smq_pair.proofs.Placed.{StandsBy, partner-pdu, next-pdu, index-pdu, offset-there, offset-stays, offset-last, own-at}

-- ---- a pair, by the entries

-- the pair of an entry with what is kept at an offset of the other direction
abbrev pair_by_offset : Entries → Dir → Held → Option ℕ → Option Pair
pair_by_offset es d e o = option_and_then (λ q. option_map (λ x. pair_either (placed es.session d e) (placed es.session (opposite d) (q, x)))
    (option_and_then (λ q. held_at q (entries_from (opposite d) es)) o)) o

pair_same : (d : Dir) (es : Entries) (e : Held) (o : Option ℕ) → AreInOrder (pdus_in es)
    → pair_by_offset es d e (offset_at (pdus_in es) (opposite d) o) ≡ pair_with (pdus_in es) d (placed es.session d e) o
pair_same d es e None order = refl
pair_same d es e (Some j) order =
    ap (λ o. pair_by_offset es d e (option_map (λ (p : PlacedHeader). p.place.offset) o)) (pdus-at (opposite d) es j)
    ∙ by_entry (slice_get (entries_from (opposite d) es) j) refl ∙ sym (ap (option_map (pair_either (placed es.session d e))) (pdus-at (opposite d) es j))
  where
    by_entry : (x : Option Held) → slice_get (entries_from (opposite d) es) j ≡ x
        → pair_by_offset es d e (option_map (λ (p : PlacedHeader). p.place.offset) (option_map (placed es.session (opposite d)) x))
        ≡ option_map (pair_either (placed es.session d e)) (option_map (placed es.session (opposite d)) x)
    by_entry None at = refl
    by_entry (Some x) at = ap (option_map (λ y. pair_either (placed es.session d e) (placed es.session (opposite d) (x.0, y))))
        (found-kept (entries_from (opposite d) es) j x (entries-ascend es (opposite d) order) at)

-- the partner of a link
pub partner-by : (partner next : Option ℕ) → partner_in (link_by partner next) ≡ partner
partner-by None None = refl
partner-by _ _ = refl

next-by : (partner next : Option ℕ) → partner ≡ None → next_in (link_by partner next) ≡ next
next-by None None e = refl
next-by None (Some next) e = refl
next-by (Some partner) next e = absurd cc

-- an entry's partner
pub partner-kept : (m : Waits) (es : Entries) (d : Dir) (i : ℕ) (e : Held) → Holds m es → slice_get (entries_from d es) i ≡ Some e
    → partner_in e.1.link ≡ offset_at (pdus_in es) (opposite d) (partner_of (pdus_in es) d i (header_of e.1))
partner-kept m es d i e h at = ap partner_in (h.links d i e at) ∙ partner-by _ _

-- what an entry says is its pair is the pair at its place
pub pair-found : (m : Waits) (es : Entries) (d : Dir) (i : ℕ) (e : Held) → Holds m es → slice_get (entries_from d es) i ≡ Some e
    → pair_found (at_offset es.session d e.0) e.1 (partner_kept d e.1 es) ≡ pair_at (pdus_in es) (at_offset es.session d e.0)
pair-found m es d i e h at =
    ap (pair_by_offset es d e) (partner-kept m es d i e h at)
    ∙ pair_same d es e (partner_of (pdus_in es) d i (header_of e.1)) h.in_order
    ∙ sym (pair-here (pdus_in es) d i (placed es.session d e) h.in_order (pdu-kept d es i e at))

-- ---- the two series of an exchange

dir_of-back : (side : Role) (d : Dir) → dir_of side (dir_of side d) ≡ d
dir_of-back Request d = refl
dir_of-back Response d = opposite-back d

dir_of-other : (side : Role) (d : Dir) → dir_of (other_side side) (dir_of side d) ≡ opposite d
dir_of-other Request d = refl
dir_of-other Response d = refl

series-back : (s : Series) → series_in (exchange_of s) s.side ≡ s
series-back s = λ i. record { seq = s.seq; dir = dir_of-back s.side s.dir i; side = s.side }

series-other : (s : Series) → series_in (exchange_of s) (other_side s.side) ≡ partner_series s
series-other s = λ i. record { seq = s.seq; dir = dir_of-other s.side s.dir i; side = other_side s.side }

exchange-back : (x : Exchange) (side : Role) → exchange_of (series_in x side) ≡ x
exchange-back x side = λ i. record { seq = x.seq; dir = dir_of-back side x.dir i }

-- one side is the same as another, or is the other one
sides : (a b : Role) (c : Bool) → is_same a b ≡ c → cond c (a ≡ b) (a ≡ other_side b)
sides Request Request true e = refl
sides Request Response false e = refl
sides Response Request false e = refl
sides Response Response true e = refl
sides _ _ _ e = absurd cc

-- as many came of either side, whichever is named first
even-from : (v : PairingValue) (x : Exchange) (side : Role) → WaitsFor v x None → count_in v (series_in x side) ≡ count_in v (series_in x (other_side side))
even-from v x Request h = h
even-from v x Response h = sym h

even-to : (v : PairingValue) (x : Exchange) (side : Role) → count_in v (series_in x side) ≡ count_in v (series_in x (other_side side)) → WaitsFor v x None
even-to v x Request h = h
even-to v x Response h = sym h

-- ---- links

-- a link is the same where its partner is, and its next, unless it has a partner
link-same : (a b n o : Option ℕ) → a ≡ b → ((a ≡ None) → n ≡ o) → link_by a n ≡ link_by b o
link-same None b n o e f = ap (link_by None) (f refl) ∙ ap (λ p. link_by p o) e
link-same (Some q) b n o e f = by_next n o ∙ ap (λ p. link_by p o) e
  where
    by_next : (n o : Option ℕ) → link_by (Some q) n ≡ link_by (Some q) o
    by_next n o = refl

-- where an offset is found, its entry stands
entry-there : (es : Entries) (d : Dir) (o : Option ℕ) (q : ℕ) → offset_at (pdus_in es) d o ≡ Some q
    → (j : ℕ) × (o ≡ Some j) × (e : Held) × (slice_get (entries_from d es) j ≡ Some e) × (e.0 ≡ q)
entry-there es d None q e = absurd cc
entry-there es d (Some j) q e = by_entry (slice_get (entries_from d es) j) refl (sym (ap (option_map (λ (p : PlacedHeader). p.place.offset)) (pdus-at d es j)) ∙ e)
  where
    by_entry : (x : Option Held) → slice_get (entries_from d es) j ≡ x → option_map (λ (p : PlacedHeader). p.place.offset) (option_map (placed es.session d) x) ≡ Some q
        → (k : ℕ) × (Some j ≡ Some k) × (e : Held) × (slice_get (entries_from d es) k ≡ Some e) × (e.0 ≡ q)
    by_entry None at e = absurd cc
    by_entry (Some x) at e = (j, refl, x, at, some-is _ _ e)

-- ---- a PDU that is in

module _ (m : Waits) (es : Entries) (d : Dir) (e : Held) (h : Holds m es) (next : IsNext (pdus_in es) (at_offset es.session d e.0)) where
  abbrev before : PairingValue
  before = pdus_in es

  abbrev new : PlacedHeader
  new = placed es.session d e

  abbrev after : PairingValue
  after = pushed before new

  -- where it stands
  abbrev last : ℕ
  last = length (pdus_from d before)

  -- what an entry's link is to be
  abbrev HasLink : Dir → ℕ → Held → Type 0
  HasLink f i x = x.1.link ≡ link_of after f i (header_of x.1)

  -- what stays is linked as before, where neither its partner nor, without one, its next is the new one
  link-stays : (f : Dir) (i : ℕ) (x : Held) → slice_get (entries_from f es) i ≡ Some x
      → ((u : Turn) → turn_of before f i (header_of x.1) ≡ Some u → next_turn before new ≢ Some (partner u))
      → (partner_of before f i (header_of x.1) ≡ None → (u : Turn) → turn_of before f i (header_of x.1) ≡ Some u → next_turn before new ≢ Some (later u))
      → HasLink f i x
  link-stays f i x at apart no_later =
      let P = partner_of before f i (header_of x.1) in
      let N = next_of before f i (header_of x.1) in
      h.links f i x at
      ∙ link-same _ _ _ _
      (sym (offset-stays before new (opposite f) P (partner-pdu before f i (header_of x.1)))
      ∙ ap (offset_at after (opposite f)) (sym (found-stays before new partner f i (header_of x.1) (header-kept f es i x at) apart)))
      (λ none. sym (offset-stays before new f N (next-pdu before f i (header_of x.1)))
      ∙ ap (offset_at after f) (sym (found-stays before new later f i (header_of x.1) (header-kept f es i x at)
      (no_later (alone P (partner-pdu before f i (header_of x.1)) none)))))
    where
      alone : (o : Option ℕ) → StandsBy before (opposite f) o → offset_at before (opposite f) o ≡ None → o ≡ None
      alone None stands none = refl
      alone (Some j) stands none = let p = stands j refl in never (offset_at before (opposite f) (Some j)) p.0.place.offset none (offset-there before (opposite f) j p.0 p.1)

  -- What the new one's partner is: the PDU at an index before it, if there is one.
  record FindsPartner : Type 0 where
    index : Option ℕ
    stands : StandsBy before (opposite d) index
    is : partner_in e.1.link ≡ offset_at before (opposite d) index
    found : partner_of after d last (header_of e.1) ≡ index

  -- Entries say what was there and the new PDU, and what is kept holds.
  abbrev IsIn : Waits → Entries → Type 0
  IsIn k fs = (pdus_in fs ≡ after) × Holds k fs

  in-with : (k : Waits) (fs : Entries) → fs.session ≡ es.session → pdus_in fs ≡ before → HasLink d last e
      → ((f : Dir) (i : ℕ) (x : Held) → slice_get (entries_from f fs) i ≡ Some x → HasLink f i x)
      → ((q : Exchange) → WaitsFor after q (waiting_kept k q)) → IsIn k (appended d e fs)
  in-with k fs session same own old waits =
      let pdus : pdus_in (appended d e fs) ≡ after = appended-in d e fs ∙ (λ i. pushed (same i) (placed (session i) d e)) in
      let links : (f : Dir) (i : ℕ) (x : Held) → slice_get (entries_from f (appended d e fs)) i ≡ Some x → HasLink f i x =
      λ f i x at. appended-get f d e fs i x at (old f i x) (λ dir end is.
      let at_end : last ≡ i = ap (λ (v : PairingValue). length (pdus_from d v)) (sym same) ∙ length-kept d fs ∙ sym end in
      subst (λ (f' : Dir). HasLink f' i x) (sym dir) (subst (λ (j : ℕ). HasLink d j x) at_end (subst (HasLink d last) (sym is) own))) in (
        pdus,
        subst (λ (v : PairingValue). HoldsOf v k (appended d e fs)) (sym pdus)
            (record { in_order = in-order-next before new h.in_order next; waits = waits; links = links }),
      )

  -- ---- series that it isn't of

  turn-not : (s : Series) (k : ℕ) → series_of d (header_of e.1) ≢ Some s → next_turn before new ≢ Some (record { series = s; rank = k })
  turn-not s k apart same = apart (turn_parts (headers_from d before) (series_of d (header_of e.1)) (record { series = s; rank = k }) same).0

  rank-stays : (s : Series) (k : ℕ) → next_turn before new ≢ Some (record { series = s; rank = k }) → rank_offset after s k ≡ rank_offset before s k
  rank-stays s k apart =
      let u : Turn = record { series = s; rank = k } in
      ap (offset_at after s.dir) (index-others before new u apart) ∙ offset-stays before new s.dir (index_at before u) (index-pdu before u)

  waits-stay : (q : Exchange) (w : Option Waiting) → ((side : Role) → series_of d (header_of e.1) ≢ Some (series_in q side)) → WaitsFor before q w → WaitsFor after q w
  waits-stay q None apart even =
      count-others before new (series_in q Request) (apart Request) ∙ even ∙ sym (count-others before new (series_in q Response) (apart Response))
  waits-stay q (Some w) apart a =
      let s = series_in q w.side in
      let r = series_in q (other_side w.side) in
      let same_s = count-others before new s (apart w.side) in
      let same_r = count-others before new r (apart (other_side w.side)) in
      record {
        more = omega (arith, same_s, same_r, a.more);
        first_at = ap (rank_offset after s) same_r ∙ rank-stays s (count_in before r) (turn-not s (count_in before r) (apart w.side)) ∙ a.first_at;
        last_at = λ k is. rank-stays s k (turn-not s k (apart w.side)) ∙ a.last_at k (is ∙ same_s);
      }

  -- it is no request and no response
  module _ (none : series_of d (header_of e.1) ≡ None) (alone : e.1.link ≡ Alone) where
    free : next_turn before new ≡ None
    free = ap (option_map (turn_after (headers_from d before))) none

    finds-none : FindsPartner
    finds-none = record { index = None; stands = λ j e. absurd cc; is = ap partner_in alone; found = nothing-found before new partner free }

    in-passed : IsIn m (joined d new.place None e.1 es)
    in-passed = subst (IsIn m) (sym (joined-alone d e es (ap partner_in alone)))
        (in-with m es refl refl
        (alone ∙ (λ i. link_by (offset_at after (opposite d) (sym (nothing-found before new partner free) i))
        (offset_at after d (sym (nothing-found before new later free) i))))
        (λ f i x at. link-stays f i x at (λ u turn same. never (next_turn before new) (partner u) free same)
        (λ _ u turn same. never (next_turn before new) (later u) free same))
        (λ q. waits-stay q (waiting_kept m q) (λ side same. never (series_of d (header_of e.1)) (series_in q side) none same) (h.waits q)))

  -- it is of a series
  module _ (s : Series) (is : series_of d (header_of e.1) ≡ Some s) where
    abbrev r : Series
    r = partner_series s

    abbrev turn : Turn
    turn = record { series = s; rank = count_in before s }

    abbrev met : Option ℕ
    met = index_at before (partner turn)

    s_dir : s.dir ≡ d
    s_dir = (Turned.series-has d (header_of e.1) s is).dir

    next-is : next_turn before new ≡ Some turn
    next-is =
        ap (option_map (turn_after (headers_from d before))) is
        ∙ (λ i. Some (record { series = s; rank = count_by (is_of s.side s.seq) (headers_from (sym s_dir i) before) }))

    not-partner : series_of d (header_of e.1) ≢ Some r
    not-partner same = opposite-apart s.dir (ap (λ (t : Series). t.dir) (some-is r s (sym same ∙ is)))

    more-own : count_in after s ≡ count_in before s + 1
    more-own = count-next before new s is

    same-other : count_in after r ≡ count_in before r
    same-other = count-others before new r not-partner

    own-offset : rank_offset after s (count_in before s) ≡ Some e.0
    own-offset =
        ap (offset_at after s.dir) (index-next before new turn next-is)
        ∙ ap (λ (f : Dir). offset_at after f (Some last)) s_dir ∙ offset-last before new

    -- what stays in both series
    own-stays : (k : ℕ) → k < count_in before s → rank_offset after s k ≡ rank_offset before s k
    own-stays k less = rank-stays s k (λ same.
        let one : k ≡ count_in before s = ap (λ (t : Turn). t.rank) (some-is (record { series = s; rank = k }) turn (sym same ∙ next-is)) in
        absurd (omega (arith, less, one)))

    other-stays : (k : ℕ) → rank_offset after r k ≡ rank_offset before r k
    other-stays k = rank-stays r k (turn-not r k not-partner)

    -- ---- its own link

    finds-met : partner_in e.1.link ≡ offset_at before (opposite d) met → FindsPartner
    finds-met found = record {
      index = met;
      stands = subst (λ (f : Dir). StandsBy before (opposite f) met) s_dir (index-pdu before (partner turn));
      is = found;
      found = partner-next before new turn next-is;
    }

    own-link : e.1.link ≡ link_by (offset_at before (opposite d) met) None → HasLink d last e
    own-link link =
        link
        ∙ ap (λ o. link_by o None) (sym (offset-stays before new (opposite d) met
        (subst (λ (f : Dir). StandsBy before (opposite f) met) s_dir (index-pdu before (partner turn))))
        ∙ ap (offset_at after (opposite d)) (sym (partner-next before new turn next-is)))
        ∙ ap (λ o. link_by (offset_at after (opposite d) (partner_of after d last (header_of e.1))) (offset_at after d o)) (sym (later-none before new turn next-is))

    -- ---- the others' links

    -- what isn't its partner, and isn't the one before it without a partner, stays linked
    kept-link : (f : Dir) (i : ℕ) (x : Held) → slice_get (entries_from f es) i ≡ Some x → (f ≡ opposite d → Some i ≢ met)
        → (f ≡ d → (k : ℕ) → k + 1 ≡ count_in before s → index_at before (record { series = s; rank = k }) ≡ Some i
        → index_at before (record { series = r; rank = k }) ≡ None → ⊥) → HasLink f i x
    kept-link f i x at apart no_last =
        link-stays f i x at
        (λ u turn_is same.
        let back : u ≡ partner turn = sym (partner-back u) ∙ ap partner (some-is (partner u) turn (sym same ∙ next-is)) in
        let there = turn-found before f i (header_of x.1) u (header-kept f es i x at) turn_is in
        apart (sym there.0 ∙ ap (λ (t : Turn). t.series.dir) back ∙ ap opposite s_dir) (sym there.1 ∙ ap (index_at before) back))
        (λ none u turn_is same.
        let one : later u ≡ turn = some-is (later u) turn (sym same ∙ next-is) in
        let series : u.series ≡ s = ap (λ (t : Turn). t.series) one in
        let rank : u.rank + 1 ≡ count_in before s = ap (λ (t : Turn). t.rank) one in
        let there = turn-found before f i (header_of x.1) u (header-kept f es i x at) turn_is in
        let its : u ≡ record { series = s; rank = u.rank } = (λ j. record { series = series j; rank = u.rank }) in
        no_last (sym there.0 ∙ ap (λ (t : Series). t.dir) series ∙ s_dir) u.rank rank
        (ap (index_at before) (sym its) ∙ there.1)
        (ap (λ (t : Series). index_at before (record { series = partner_series t; rank = u.rank })) (sym series)
        ∙ sym (ap (option_and_then (λ t. index_at before (partner t))) turn_is) ∙ none))

    -- where more came of the other side, or as many, the one before it has a partner
    has-partner : (k : ℕ) → k < count_in before r → index_at before (record { series = r; rank = k }) ≢ None
    has-partner k less none =
        let there = some-within (is_of r.side r.seq) (headers_from r.dir before) k less in
        never (index_at before (record { series = r; rank = k })) there.0 none there.1

    none-met : count_in before r ≤ count_in before s → met ≡ None
    none-met h = none-beyond (is_of r.side r.seq) (headers_from r.dir before) (count_in before s) h

    -- ---- what waits

    replaced : (k : Waits) (w : Option Waiting) → WaitsFor after (exchange_of s) w
        → ((q : Exchange) → waiting_kept k q ≡ cond (is_at (exchange_cmp (exchange_of s)) q) w (waiting_kept m q))
        → (q : Exchange) → WaitsFor after q (waiting_kept k q)
    replaced k w holds put q = at_exchange (exchange_of s) q (λ b. waiting_kept k q ≡ cond b w (waiting_kept m q) → WaitsFor after q (waiting_kept k q))
        (λ same e. subst (WaitsFor after q) (sym e) (subst (λ (q : Exchange). WaitsFor after q w) same holds))
        (λ apart e. subst (WaitsFor after q) (sym e) (waits-stay q (waiting_kept m q) (λ side of_it.
        apart (ap exchange_of (some-is s (series_in q side) (sym is ∙ of_it)) ∙ exchange-back q side)) (h.waits q))) (put q)

    -- those that wait, by the two series
    turned : (v : PairingValue) (a b a' b' : Series) (first last : ℕ) → a ≡ a' → b ≡ b' → AreWaiting v a b first last → AreWaiting v a' b' first last
    turned v a b a' b' first last e f w = subst (λ (t : Series). AreWaiting v t b' first last) e (subst (λ (t : Series). AreWaiting v a t first last) f w)

    abbrev x : Exchange
    x = exchange_of s

    own-side : (side : Role) → side ≡ s.side → (series_in x side ≡ s) × (series_in x (other_side side) ≡ r)
    own-side side same = (ap (series_in x) same ∙ series-back s, ap (λ (t : Role). series_in x (other_side t)) same ∙ series-other s)

    other-side : (side : Role) → side ≡ other_side s.side → (series_in x side ≡ r) × (series_in x (other_side side) ≡ s)
    other-side side same = (
      ap (series_in x) same ∙ series-other s,
      ap (λ (t : Role). series_in x (other_side t)) same ∙ ap (series_in x) (other_side-back s.side) ∙ series-back s,
    )

    abbrev Puts : Waits → Option Waiting → Type 0
    Puts k w = (q : Exchange) → waiting_kept k q ≡ cond (is_at (exchange_cmp x) q) w (waiting_kept m q)

    -- it is in, and its link is to its partner
    abbrev IsJoined : Waits → Option ℕ → Type 0
    IsJoined k o = IsIn k (joined d new.place o e.1 es) × (partner_in e.1.link ≡ offset_at before (opposite d) met)

    -- as many came of the other side: it waits alone
    in-even : (k : Waits) → waiting_kept m x ≡ None → Puts k (Some (record { side = s.side; first = e.0; last = e.0 })) → e.1.link ≡ Alone → IsJoined k None
    in-even k none put alone =
        let even : count_in before s ≡ count_in before r =
        sym (ap (count_in before) (series-back s)) ∙ even-from before x s.side (subst (WaitsFor before x) none (h.waits x)) ∙ ap (count_in before) (series-other s) in
        let no_met : met ≡ None = none-met (omega (arith, even)) in
        let back = own-side s.side refl in
        let waits : WaitsFor after x (Some (record { side = s.side; first = e.0; last = e.0 })) =
        turned after s r (series_in x s.side) (series_in x (other_side s.side)) e.0 e.0 (sym back.0) (sym back.1) (record {
          more = omega (arith, even, more-own, same-other);
          first_at = ap (rank_offset after s) (same-other ∙ sym even) ∙ own-offset;
          last_at = λ k is. let one : k ≡ count_in before s = omega (arith, is, more-own) in ap (rank_offset after s) one ∙ own-offset;
        }) in (
          subst (IsIn k) (sym (joined-alone d e es (ap partner_in alone)))
              (in-with k es refl refl (own-link (alone ∙ ap (λ o. link_by (offset_at before (opposite d) o) None) (sym no_met)))
              (λ f i y at. kept-link f i y at (λ dir same. never met i no_met (sym same))
              (λ dir k rank there none. has-partner k (omega (arith, rank, even)) none))
              (replaced k (Some (record { side = s.side; first = e.0; last = e.0 })) waits put)),
          ap partner_in alone ∙ ap (offset_at before (opposite d)) (sym no_met),
        )

    turn-after-there : (t : Turn) (f : Dir) (j : ℕ) (hd : Header) → t.series.dir ≡ f → index_at before t ≡ Some j → slice_get (headers_from f before) j ≡ Some hd
        → turn_of after f j hd ≡ Some t
    turn-after-there t f j hd dir at there = turn-stays before new f j hd there ∙ turn-there before t f j hd dir at there

    -- others of its side wait: it is the next of their last
    in-own : (k : Waits) (w : Waiting) → waiting_kept m x ≡ Some w → w.side ≡ s.side
        → Puts k (Some (record { side = w.side; first = w.first; last = e.0 })) → e.1.link ≡ Alone → IsJoined k (Some w.last)
    in-own k w some same put alone =
        let back = own-side w.side same in
        let a : AreWaiting before s r w.first w.last =
        turned before (series_in x w.side) (series_in x (other_side w.side)) s r w.first w.last back.0 back.1 (subst (WaitsFor before x) some (h.waits x)) in
        let more = a.more in
        let k0 : ℕ = count_in before s - 1 in
        let rank : k0 + 1 ≡ count_in before s = omega (arith, more) in
        let no_met : met ≡ None = none-met (omega (arith, more)) in
        let its : Turn = record { series = s; rank = k0 } in
        let st = entry-there es d (index_at before its) w.last
        (ap (λ (f : Dir). offset_at before f (index_at before its)) (sym s_dir) ∙ a.last_at k0 rank) in
        let j = st.0 in
        let y : Held = st.2 in
        let there = header-kept d es j y st.3 in
        let turn_is = turn-after-there its d j (header_of y.1) s_dir st.1 there in
        let no_partner : partner_of after d j (header_of y.1) ≡ None =
        ap (option_and_then (λ t. index_at after (partner t))) turn_is
        ∙ index-others before new (record { series = r; rank = k0 }) (turn-not r k0 not-partner)
        ∙ none-beyond (is_of r.side r.seq) (headers_from r.dir before) k0 (omega (arith, more, rank)) in
        let its_next : next_of after d j (header_of y.1) ≡ Some last =
        ap (option_and_then (λ t. index_at after (later t))) turn_is
        ∙ ap (λ n. index_at after (record { series = s; rank = n })) rank ∙ index-next before new turn next-is in
        let linked_last : HasLink d j (linked_to (Before e.0) y) =
        sym ((λ i. link_by (offset_at after (opposite d) (no_partner i)) (offset_at after d (its_next i))) ∙ ap (link_by None) (offset-last before new)) in
        let waits : WaitsFor after x (Some (record { side = w.side; first = w.first; last = e.0 })) =
        turned after s r (series_in x w.side) (series_in x (other_side w.side)) w.first e.0 (sym back.0) (sym back.1) (record {
          more = omega (arith, more, more-own, same-other);
          first_at = ap (rank_offset after s) same-other ∙ own-stays (count_in before r) more ∙ a.first_at;
          last_at = λ k is. let one : k ≡ count_in before s = omega (arith, is, more-own) in ap (rank_offset after s) one ∙ own-offset;
        }) in (
          subst (IsIn k) (sym (ap (λ o. joined d new.place (Some o) e.1 es) (sym st.4)
              ∙ joined-before d e es j y (ap partner_in alone) (entries-ascend es d h.in_order) st.3))
              (in-with k (set_in d j (linked_to (Before e.0) y) es) (set_in-session d j (linked_to (Before e.0) y) es)
              (linked-pdus d j (Before e.0) y es st.3)
              (own-link (alone ∙ ap (λ o. link_by (offset_at before (opposite d) o) None) (sym no_met)))
              (λ f i z at. linked-get d j (linked_to (Before e.0) y) es f i z at
              (λ apart old. kept-link f i z old (λ dir same. never met i no_met (sym same))
              (λ dir k rank' its_there none.
              let one : k ≡ k0 = omega (arith, rank, rank') in
              apart dir (some-is i j (sym its_there ∙ ap (λ n. index_at before (record { series = s; rank = n })) one ∙ st.1))))
              (λ dir here is_linked. subst (λ (f' : Dir). HasLink f' i z) (sym dir) (subst (λ (k : ℕ). HasLink d k z) (sym here)
              (subst (HasLink d j) (sym is_linked) linked_last))))
              (replaced k (Some (record { side = w.side; first = w.first; last = e.0 })) waits put)),
          ap partner_in alone ∙ ap (offset_at before (opposite d)) (sym no_met),
        )

    -- ---- others of the other side wait: it is the partner of the first

    split : (a b : ℕ) → (a < b) ⊎ (b ≤ a)
    split a b = elim (nat_lt a b) as (λ t. nat_lt a b ≡ t → (a < b) ⊎ (b ≤ a)) [
      | true ↦ λ e. inl (grind (arith, nat_tests, e))
      | false ↦ λ e. inr (grind (arith, nat_tests, e))
    ] refl

    -- what waits once the first of the other side has its partner
    abbrev left_by : Waiting → Option ℕ → Option Waiting
    left_by w o = option_map (λ first. record { side = w.side; first = first; last = w.last }) o

    left-waits : (w : Waiting) → w.side ≡ other_side s.side → AreWaiting before r s w.first w.last → (o : Option ℕ)
        → rank_offset before r (count_in before s + 1) ≡ o → WaitsFor after x (left_by w o)
    left-waits w other a None none =
        let more = a.more in
        let all : count_in before r ≤ count_in before s + 1 = elim (split (count_in before s + 1) (count_in before r)) [
          | inl less ↦
              let there = some-within (is_of r.side r.seq) (headers_from r.dir before) (count_in before s + 1) less in
              let p = index-pdu before (record { series = r; rank = count_in before s + 1 }) there.0 there.1 in
              never (rank_offset before r (count_in before s + 1)) p.0.place.offset none
              (ap (offset_at before r.dir) there.1 ∙ offset-there before r.dir there.0 p.0 p.1)
          | inr h ↦ h
        ] in
        even-to after x s.side (ap (count_in after) (series-back s) ∙ (let one : count_in after s ≡ count_in after r = omega (arith, more, all, more-own, same-other) in one)
        ∙ sym (ap (count_in after) (series-other s)))
    left-waits w other a (Some first) some =
        let back = other-side w.side other in
        let less : count_in before s + 1 < count_in before r = elim (split (count_in before s + 1) (count_in before r)) [
          | inl less ↦ less
          | inr h ↦ never (rank_offset before r (count_in before s + 1)) first
              (ap (offset_at before r.dir) (none-beyond (is_of r.side r.seq) (headers_from r.dir before) (count_in before s + 1) h)) some
        ] in
        turned after r s (series_in x w.side) (series_in x (other_side w.side)) first w.last (sym back.0) (sym back.1) (record {
          more = omega (arith, less, more-own, same-other);
          first_at = ap (rank_offset after r) more-own ∙ other-stays (count_in before s + 1) ∙ some;
          last_at = λ k is. other-stays k ∙ a.last_at k (is ∙ same-other);
        })

    in-other : (k : Waits) (w : Waiting) → waiting_kept m x ≡ Some w → w.side ≡ other_side s.side
        → Puts k (left_by w (next_kept (dir_of w.side x.dir) w.first es)) → e.1.link ≡ Partner w.first → IsJoined k None
    in-other k w some other put link =
        let back = other-side w.side other in
        let a : AreWaiting before r s w.first w.last =
        turned before (series_in x w.side) (series_in x (other_side w.side)) r s w.first w.last back.0 back.1 (subst (WaitsFor before x) some (h.waits x)) in
        let more = a.more in
        let r_dir : r.dir ≡ opposite d = ap opposite s_dir in
        let at_met : offset_at before (opposite d) met ≡ Some w.first = ap (λ (f : Dir). offset_at before f met) (sym r_dir) ∙ a.first_at in
        let st = entry-there es (opposite d) met w.first at_met in
        let j = st.0 in
        let y : Held = st.2 in
        let there = header-kept (opposite d) es j y st.3 in
        let ascend = entries-ascend es (opposite d) h.in_order in
        let turn_is = turn-there before (partner turn) (opposite d) j (header_of y.1) r_dir st.1 there in
        let its_next : next_kept (dir_of w.side x.dir) w.first es ≡ rank_offset before r (count_in before s + 1) =
        ap (λ (f : Dir). next_kept f w.first es) (ap (λ (t : Series). t.dir) back.0 ∙ r_dir)
        ∙ ap (λ n. option_and_then (λ z. next_in z.link) (held_at n (entries_from (opposite d) es))) (sym st.4)
        ∙ ap (option_and_then (λ z. next_in z.link)) (found-kept (entries_from (opposite d) es) j y ascend st.3)
        ∙ ap next_in (h.links (opposite d) j y st.3)
        ∙ next-by _ _ (ap (offset_at before (opposite (opposite d))) (ap (option_and_then (λ t. index_at before (partner t))) turn_is
        ∙ ap (index_at before) (partner-back turn) ∙ index-free before new turn next-is))
        ∙ ap (offset_at before (opposite d)) (ap (option_and_then (λ t. index_at before (later t))) turn_is)
        ∙ ap (λ (f : Dir). offset_at before f (index_at before (record { series = r; rank = count_in before s + 1 }))) (sym r_dir) in
        let linked_first : HasLink (opposite d) j (linked_to (Partner e.0) y) =
        sym (ap (λ o. link_by o (offset_at after (opposite d) (next_of after (opposite d) j (header_of y.1))))
        (ap (offset_at after (opposite (opposite d))) (partner-linked before new turn j (header_of y.1) next-is st.1 there)
        ∙ ap (λ (f : Dir). offset_at after f (Some last)) (opposite-back d) ∙ offset-last before new)) in (
          subst (IsIn k) (sym (joined-linked d e es j y (ap partner_in link ∙ ap Some (sym st.4)) ascend st.3))
              (in-with k (set_in (opposite d) j (linked_to (Partner e.0) y) es) (set_in-session (opposite d) j (linked_to (Partner e.0) y) es)
              (linked-pdus (opposite d) j (Partner e.0) y es st.3)
              (own-link (link ∙ ap (λ o. link_by o None) (sym at_met)))
              (λ f i z at. linked-get (opposite d) j (linked_to (Partner e.0) y) es f i z at
              (λ apart old. kept-link f i z old (λ dir same. apart dir (some-is i j (same ∙ st.1)))
              (λ dir k rank its_there none. has-partner k (omega (arith, rank, more)) none))
              (λ dir here is_linked. subst (λ (f' : Dir). HasLink f' i z) (sym dir) (subst (λ (k : ℕ). HasLink (opposite d) k z) (sym here)
              (subst (HasLink (opposite d) j) (sym is_linked) linked_first))))
              (replaced k (left_by w (next_kept (dir_of w.side x.dir) w.first es))
              (subst (λ o. WaitsFor after x (left_by w o)) (sym its_next) (left-waits w other a (rank_offset before r (count_in before s + 1)) refl)) put)),
          ap partner_in link ∙ sym at_met,
        )

    -- whatever waits, it is in
    abbrev outcome : Waiting → Bool → Meeting
    outcome w b = cond b (record { waiting = Some (record { side = w.side; first = w.first; last = e.0 }); before = Some w.last; link = Alone })
        (record { waiting = left_by w (next_kept (dir_of w.side x.dir) w.first es); before = None; link = Partner w.first })

    by_side : (k : Waits) (w : Waiting) → waiting_kept m x ≡ Some w → (b : Bool) → is_same w.side s.side ≡ b → Puts k (outcome w b).waiting
        → e.1.link ≡ (outcome w b).link → IsJoined k (outcome w b).before
    by_side k w some true same put link = in-own k w some (sides w.side s.side true same) put link
    by_side k w some false same put link = in-other k w some (sides w.side s.side false same) put link

    in-series : (k : Waits) (o : Option Waiting) → waiting_kept m x ≡ o → Puts k (meeting_with o s.side e.0 (next_waiting o x es)).waiting
        → e.1.link ≡ (meeting_with o s.side e.0 (next_waiting o x es)).link → IsJoined k (meeting_with o s.side e.0 (next_waiting o x es)).before
    in-series k None none put link = in-even k none put link
    in-series k (Some w) some put link = by_side k w some (is_same w.side s.side) refl put link

  -- its pair, with what was there, is the one at its place
  made-is : FindsPartner → pair_found new.place e.1 (partner_kept d e.1 es) ≡ pair_at after new.place
  made-is its =
      ap (pair_by_offset es d e) its.is
      ∙ pair_same d es e its.index h.in_order
      ∙ ap (λ ps. option_and_then (λ j. option_map (pair_either new) (slice_get ps j)) its.index)
      (sym (pushed-apart (opposite d) d before new (opposite-apart d)))
      ∙ ap (pair_with after d new) (sym its.found)
      ∙ sym (pair-here after d last new (in-order-next before new h.in_order next) (own-at before new))

-- ---- a call of add, by what its steps say

-- The entry is in, what is kept holds, and the pair with what was there is the one at its place.
pub record Adds (n : Waits) (es : Entries) (v : PairingValue) (q : Place) (x : PairedPdu) (fs : Entries) : Type 0 where
  pub pdus : pdus_in fs ≡ pushed v (placed_at q x)
  pub holds : Holds n fs
  pub pair : pair_found q x (partner_kept q.dir x es) ≡ pair_at (pdus_in fs) q

module _ (m : Waits) (es : Entries) (v : PairingValue) (q : Place) (x : PairedPdu) (h : Holds m es) (view : pdus_in es ≡ v) (next : IsNext v q) where
  all : are_of_session q.session (pdus_in es) ≡ true
  all = ap (are_of_session q.session) view ∙ next.session

  abbrev its : Entries
  its = of_session q.session es

  said : pdus_in its ≡ v
  said = of_session-pdus q.session es all ∙ view

  holds-its : Holds m its
  holds-its = of_session-holds m q.session es all h

  next-its : IsNext (pdus_in its) q
  next-its = subst (λ (v : PairingValue). IsNext v q) (sym said) next

  abbrev pdu : PlacedHeader
  pdu = placed_at q x

  adds-by : (n : Waits) (o : Option ℕ) → (pdus_in (joined q.dir q o x its) ≡ pushed (pdus_in its) pdu) × Holds n (joined q.dir q o x its)
      → FindsPartner m its q.dir (q.offset, x) holds-its next-its → (fs : Entries) → fs ≡ joined q.dir q o x es → Adds n es v q x fs
  adds-by n o is_in finds fs is =
      let made : pair_found q x (partner_kept q.dir x es) ≡ pair_at (pushed v pdu) q =
      ap (λ xs. pair_found q x (option_and_then (λ k. held_at k xs) (partner_in x.link))) (sym (of_session-from q.session (opposite q.dir) es))
      ∙ made-is m its q.dir (q.offset, x) holds-its next-its finds ∙ ap (λ (w : PairingValue). pair_at (pushed w pdu) q) said in
      let all : pdus_in (joined q.dir q o x its) ≡ pushed v pdu = is_in.0 ∙ ap (λ (w : PairingValue). pushed w pdu) said in
      subst (Adds n es v q x) (sym (is ∙ of_session-joined q.dir q o x es))
      (record { pdus = all; holds = is_in.1; pair = made ∙ ap (λ (w : PairingValue). pair_at w q) (sym all) })

  pub adds-alone : series_of q.dir (header_of x) ≡ None → x.link ≡ Alone → (fs : Entries) → fs ≡ joined q.dir q None x es → Adds m es v q x fs
  adds-alone none alone fs is = adds-by m None (in-passed m its q.dir (q.offset, x) holds-its next-its none alone)
      (finds-none m its q.dir (q.offset, x) holds-its next-its none alone) fs is

  -- what waits is the same of a session
  next-same : (o : Option Waiting) (k : Exchange) → next_waiting o k its ≡ next_waiting o k es
  next-same None k = refl
  next-same (Some w) k = ap (λ xs. option_and_then (λ z. next_in z.link) (held_at w.first xs)) (of_session-from q.session (dir_of w.side k.dir) es)

  pub adds-met : (n : Waits) (s : Series) → series_of q.dir (header_of x) ≡ Some s → IsStrictlySortedBy exchange_cmp (keys_of m)
      → n ≡ with_value exchange_cmp (exchange_of s) (meeting_at s q.offset m es).waiting m → x.link ≡ (meeting_at s q.offset m es).link
      → (fs : Entries) → fs ≡ joined q.dir q (meeting_at s q.offset m es).before x es → Adds n es v q x fs
  adds-met n s is sorted waits link fs fs_is =
      let k : Exchange = exchange_of s in
      let o : Option Waiting = waiting_kept m k in
      let same : meeting_with o s.side q.offset (next_waiting o k its) ≡ meeting_at s q.offset m es = ap (meeting_with o s.side q.offset) (next-same o k) in
      let put = λ (p : Exchange). ap (λ ws. waiting_kept ws p) waits ∙ kept-with k p (meeting_at s q.offset m es).waiting m sorted
      ∙ ap (λ (t : Meeting). cond (is_at (exchange_cmp k) p) t.waiting (waiting_kept m p)) (sym same) in
      let r = in-series m its q.dir (q.offset, x) holds-its next-its s is n o refl put (link ∙ ap (λ (t : Meeting). t.link) (sym same)) in
      adds-by n (meeting_with o s.side q.offset (next_waiting o k its)).before r.0
      (finds-met m its q.dir (q.offset, x) holds-its next-its s is r.1) fs
      (fs_is ∙ ap (λ (t : Meeting). joined q.dir q t.before x es) (sym same))

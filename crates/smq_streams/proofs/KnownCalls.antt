-- What the definitions say of known calls.
use Rattle.std.proofs.Common.{◌≡◌, ℕ, zero, suc, ◌+◌, ◌-◌, ◌<◌, ◌≤◌, Bool, true, false, List, [], ◌∷◌, ◌++◌, length, refl, sym, ap, ◌∙◌, subst, arith, inl, inr, lit<, lit≤}
use Rattle.std.specs.Prelude.{slice_get, Option, Some, None}
use Rattle.std.specs.Option.{option_or}
use Rattle.std.proofs.lemmas.Bool.{cases_lt}
use Rattle.std.proofs.lemmas.Option.{none-some, same_Some}
use Rattle.smq_reassembly.specs.declared.packet.Packet.{Packet}
use Rattle.smq_reassembly.specs.Octet.{Octet, octets_of}
use Rattle.smq_reassembly.specs.Moment.{IsGiven, Start, before_first, given_after, later}
use Rattle.smq_reassembly.specs.Piece.{Piece, first_octet, octet_in}
use Rattle.smq_reassembly.specs.Sequence.{IsAhead}
use Rattle.smq_reassembly.specs.State.{Follows, State}
use Rattle.smq_reassembly.specs.Stream.{IsGap}
use Rattle.smq_reassembly.specs.declared.sequence.Place.TheVariants.{Ahead}
use Rattle.smq_reassembly.proofs.Pieces.{octet-after, octet-is, or-none}
use Rattle.smq_streams.specs.Calls.{Become, Does, Course, IsBeginning, IsNew, IsPiece, with_calls, nothing}
use Rattle.smq_streams.specs.Calls.Call.{Added, Begun, Gave, GaveNone, Lent, Searched, Skipped}
use Rattle.smq_streams.specs.Direction.{Direction}
use Rattle.smq_streams.specs.Header.{IsHeaderAt, number_at}
use Rattle.smq_streams.specs.Known.{enquire_link, response}
use Rattle.smq_streams.specs.KnownCalls.{KnownCalls, behind_gap, calls, came, finished, first_packet, held_at, missing, no_packet, pdus, piece_at, second_packet, start_at, state_at, three, unknown}
use Rattle.smq_streams.specs.Search.{BeginNone, IsSeenAt, Search}
use Rattle.smq_streams.proofs.KnownOctets.{known_sights}
use Rattle.smq_streams.proofs.Places.{length-given}

front : (n : ℕ) → n < 3 → slice_get three n ≡ first_octet came (0 + n)
front zero h = refl
front (suc zero) h = refl
front (suc (suc zero)) h = refl
front (suc (suc (suc n))) h = absurd (omega arith)

back : (n : ℕ) → slice_get behind_gap n ≡ first_octet came (5 + n)
back n =
    let past : 0 + 3 ≤ 5 + n = omega arith in
    let here : 5 ≤ 5 + n = omega arith in
    let same : 5 + n - 5 ≡ n = omega arith in
    sym (
    ap (λ (o : Option Octet). option_or o (option_or (octet_in (piece_at 5 behind_gap) (5 + n)) None))
    (octet-after (piece_at 0 three) (5 + n) past)
    ∙ or-none (octet_in (piece_at 5 behind_gap) (5 + n))
    ∙ octet-is (piece_at 5 behind_gap) (5 + n) here
    ∙ ap (λ (k : ℕ). slice_get behind_gap k) same
    )

given_before : IsGiven came (start_at 0 0) three
given_before = record { text = three; stream = record { each = front; ends = refl }; moments = refl }

given_behind : IsGiven came (start_at 5 100) behind_gap
given_behind = record { text = behind_gap; stream = record { each = λ n h. back n; ends = refl }; moments = refl }

gap : IsGap came 3 5
gap = record {
  order = lit≤ tt;
  none = λ n low high.
      elim (cases_lt n 4) [
        | inl h ↦ let e : n ≡ 3 = omega arith in rw e refl
        | inr h ↦ let e : n ≡ 4 = omega arith in rw e refl
      ];
  some = refl;
}

-- a length of 7 * 2^24 is none, whatever follows
no_header : (more : List ℕ) → IsHeaderAt (7 ∷ 0 ∷ 0 ∷ 0 ∷ more) 0 → ⊥
unfolding number_at
no_header more h = let high = h.numbers.is_length.high in omega arith

passed : BeginNone false behind_gap 1
passed = record {
  within = lit≤ tt;
  none = λ m l s. let e : m ≡ 0 = omega arith in no_header _ (subst (λ (k : ℕ). IsSeenAt behind_gap k) e s).header;
  never = λ f m l more s. let e : m ≡ 0 = omega arith in no_header _ (subst (λ (k : ℕ). IsSeenAt (behind_gap ++ more) k) e s).header;
}

value_or : Option Octet → ℕ
value_or None = 0
value_or (Some o) = o.value

number_or : Option Octet → ℕ
number_or None = 0
number_or (Some o) = o.packet.number

given_value : (last : Packet) (os : List Octet) (n : ℕ) → value_or (slice_get (given_after last os) n) ≡ value_or (slice_get os n)
unfolding value_or
given_value last [] n = refl
given_value last (o ∷ os) zero = refl
given_value last (o ∷ os) (suc n) = given_value (later last o.packet) os n

value_of : (pieces : List Piece) (start : Start) (octets : List Octet) (n : ℕ) → n < length octets → IsBeginning pieces start octets
    → value_or (slice_get octets n) ≡ value_or (first_octet pieces (start.place + n))
value_of pieces start octets n h b =
    let long : length octets ≡ length b.text =
    ap (λ (os : List Octet). length os) b.moments ∙ length-given (before_first start) b.text in
    let within : n < length b.text = omega (arith, long) in
    ap (λ (os : List Octet). value_or (slice_get os n)) b.moments ∙ given_value (before_first start) b.text n
    ∙ ap value_or (b.each n within)

first_number : (last : Packet) (os : List Octet) (o : Octet) → slice_get os 0 ≡ Some o
    → number_or (slice_get (given_after last os) 0) ≡ (later last o.packet).number
unfolding number_or
first_number last [] o h = absurd (none-some o h)
first_number last (x ∷ xs) o h = ap (λ (y : Octet). (later last y.packet).number) (same_Some x o h)

early : IsBeginning came (start_at 5 0) (octets_of first_packet true (7 ∷ [])) → ⊥
unfolding number_or
early b =
    let long : 1 ≡ length b.text =
    ap (λ (os : List Octet). length os) b.moments ∙ length-given (before_first (start_at 5 0)) b.text in
    let within : 0 < length b.text = omega (arith, long) in
    let e : 1 ≡ 2 =
    ap (λ (os : List Octet). number_or (slice_get os 0)) b.moments ∙ first_number _ b.text _ (b.each 0 within) in
    omega (arith, e)

-- ---- the direction

-- what waits behind the gap is the stream from there on
waits : (n : ℕ) → 3 ≤ n → first_octet (piece_at 5 behind_gap ∷ []) n ≡ first_octet came n
waits n h =
    let past : 0 + 3 ≤ n = omega arith in
    sym (ap (λ (o : Option Octet). option_or o (first_octet (piece_at 5 behind_gap ∷ []) n)) (octet-after (piece_at 0 three) n past))

all_before : (n : ℕ) → 3 ≤ n → None ≡ first_octet (piece_at 0 three ∷ []) n
all_before n h =
    let past : 0 + 3 ≤ n = omega arith in
    sym (ap (λ (o : Option Octet). option_or o None) (octet-after (piece_at 0 three) n past))

all_behind : (n : ℕ) → 38 ≤ n → None ≡ first_octet came n
all_behind n h =
    let past : 5 + 33 ≤ n = omega arith in
    let low : 3 ≤ n = omega arith in
    sym (ap (λ (o : Option Octet). option_or o None) (octet-after (piece_at 5 behind_gap) n past)) ∙ waits n low

alone : (n : ℕ) → n < 3 → slice_get three n ≡ first_octet (piece_at 0 three ∷ []) (0 + n)
alone zero h = refl
alone (suc zero) h = refl
alone (suc (suc zero)) h = refl
alone (suc (suc (suc n))) h = absurd (omega arith)

follows_alone : Follows (piece_at 0 three ∷ []) (start_at 0 0) three (state_at 3 first_packet [])
follows_alone = record { text = three; place = refl; each = alone; moments = refl; last = refl; waits = all_before }

follows_before : Follows came (start_at 0 0) three (state_at 3 first_packet (piece_at 5 behind_gap ∷ []))
follows_before = record { text = three; place = refl; each = front; moments = refl; last = refl; waits = waits }

follows_none : Follows came (start_at 5 100) [] (state_at 5 (no_packet 100) (piece_at 5 behind_gap ∷ []))
follows_none = record {
  text = [];
  place = refl;
  each = λ n h. absurd (omega arith);
  moments = refl;
  last = refl;
  waits = λ n h. waits n (omega arith);
}

follows_behind : Follows came (start_at 5 100) behind_gap (state_at 38 second_packet [])
follows_behind = record { text = behind_gap; place = refl; each = λ n h. back n; moments = refl; last = refl; waits = all_behind }

-- one direction, between its first call and its last
direction : State → Search → ℕ → Bool → Bool → Direction
direction order held top searches behind = record {
  first = Some 5;
  order = order;
  extent = record { end = top; top = top; reached = 0 };
  held = held;
  opened = None;
  notes = [];
  is_searching = searches;
  is_behind_gap = behind;
  is_stopped = false;
}

piece_of_segment : (order : State) (held : Search) (top sequence far : ℕ) (packet : Packet) (octets : List ℕ) → IsAhead 5 order.next sequence far
    → IsPiece (direction order held top false false) (piece_at (order.next + far) (octets_of packet true octets))
unfolding direction
piece_of_segment order held top sequence far packet octets h = record {
  first = 5;
  sequence = sequence;
  place = Ahead far;
  packet = packet;
  octets = octets;
  known = refl;
  stands = h;
  is = refl;
}

begun : Direction
begun = direction (state_at 0 (no_packet 0) []) (held_at 0 [] 0) 0 false false

with_three : Direction
with_three = direction (state_at 3 first_packet []) (held_at 0 [] 0) 3 false false

waiting : Direction
waiting = direction (state_at 3 first_packet (piece_at 5 behind_gap ∷ [])) (held_at 0 [] 0) 38 false false

behind : Direction
behind = direction (state_at 5 (no_packet 100) (piece_at 5 behind_gap ∷ [])) (held_at 0 [] 0) 38 true true

found : Direction
found = direction (state_at 38 second_packet []) (held_at 6 pdus 1) 38 false true

through : Direction
through = direction (state_at 38 second_packet []) (held_at 38 [] 1) 38 false true

-- what was told before a call
abbrev told_three : Course
told_three = with_calls (Begun 5 false ∷ Lent (piece_at 0 three) three ∷ []) nothing

abbrev told_both : Course
told_both = with_calls (Added (piece_at 5 behind_gap) true ∷ Added (piece_at 20000000 three) false ∷ []) told_three

abbrev told_gap : Course
told_gap = with_calls (GaveNone ∷ Skipped (missing 3 5) ∷ []) told_both

lends : Does nothing (Lent (piece_at 0 three) three) begun with_three
unfolding direction begun with_three piece_of_segment
lends = (
  piece_of_segment (state_at 0 (no_packet 0) []) (held_at 0 [] 0) 0 5 0 first_packet (10 ∷ 11 ∷ 12 ∷ [])
      (record { near = lit< tt; same = refl }),
  (λ t. (
    record {
      next = refl;
      some = lit< tt;
      near = λ h. omega (arith, h);
      closed = refl;
      none = refl;
      searches = refl;
      stopped = refl;
    },
    record { follows = follows_alone; place = λ h. absurd (omega (arith, h)) },
  )),
  refl,
)

adds : Does told_three (Added (piece_at 5 behind_gap) true) with_three waiting
unfolding direction with_three waiting
adds = (
  piece_of_segment (state_at 3 first_packet []) (held_at 0 [] 0) 3 10 2 second_packet (7 ∷ enquire_link ++ response 0)
      (record { near = lit< tt; same = refl }),
  refl,
  (λ t. ((λ h. omega (arith, h)), record { follows = follows_before; place = λ h. absurd (omega (arith, h)) })),
  refl,
)

adds_none : Does told_both (Added (piece_at 20000000 three) false) waiting waiting
unfolding direction waiting
adds_none = (
  piece_of_segment (state_at 3 first_packet (piece_at 5 behind_gap ∷ [])) (held_at 0 [] 0) 38 20000005 19999997 first_packet
      (10 ∷ 11 ∷ 12 ∷ []) (record { near = lit< tt; same = refl }),
  refl,
  (λ t. (lit< tt, record { follows = follows_before; place = λ h. absurd (omega (arith, h)) })),
  refl,
)

skips : Does told_both (Skipped (missing 3 5)) waiting behind
unfolding direction waiting behind
skips = (
  refl,
  (λ t. record {
    from = refl;
    gap = gap;
    gives = record { follows = follows_none; place = λ h. absurd (omega (arith, h)) };
    searches = refl;
  }),
  refl,
)

searches : Does told_gap (Searched false behind_gap 1 true) behind found
unfolding direction behind found
searches = (
  refl,
  (λ t. (
    record {
      held = behind_gap;
      count = 1;
      whole = given_behind;
      passed = passed;
      left = refl;
      gives = record { follows = follows_behind; place = λ h. refl };
      stops = known_sights.two;
      place = λ e. refl;
      counts = refl;
    },
    refl,
    refl,
  )),
  refl,
)

gives : Does (with_calls (Searched false behind_gap 1 true ∷ []) told_gap) (Gave 6 pdus) found through
unfolding direction found through
gives = (refl, (λ t. (refl, record { follows = follows_behind; place = λ h. absurd (omega (arith, h)) })), refl)

become : Become nothing calls unknown finished
unfolding direction begun with_three waiting behind found through
become = (
  begun,
  (refl, refl),
  (
    with_three,
    lends,
    (
      waiting,
      adds,
      (
        waiting,
        adds_none,
        (
          waiting,
          (refl, (λ t. given_before), refl),
          (behind, skips, (found, searches, (through, gives, (finished, (refl, refl), (finished, refl, refl))))),
        ),
      ),
    ),
  ),
)

new : IsNew unknown
new = record {
  gives = record {
    follows = record { text = []; place = refl; each = λ n h. absurd (omega arith); moments = refl; last = refl; waits = λ n h. refl };
    place = λ h. absurd (omega (arith, h));
  };
  first = refl;
  searches = refl;
}

pub known_calls : KnownCalls
unfolding value_or
known_calls = record {
  new = new;
  become = become;
  told = refl;
  fit = (tt, (refl, (tt, (tt, (given_before, ((refl, gap), ((refl, given_behind, passed, known_sights.two), (refl, (lit≤ tt, (tt, tt))))))))));
  streams = (
    (
      record { text = behind_gap; each = λ n h. back n; moments = refl },
      (record { text = three; each = front; moments = refl }, tt),
    ),
    (lit≤ tt, (tt, tt)),
  );
  cut = refl;
  two = record { text = octets_of first_packet true (10 ∷ 11 ∷ []); each = λ n h. few n h; moments = refl };
  left_out = λ b. let e : 12 ≡ 11 = value_of _ _ _ 1 (lit< tt) b in omega (arith, e);
  twice = λ b. let e : 10 ≡ 11 = value_of _ _ _ 1 (lit< tt) b in omega (arith, e);
  beyond = λ b. let e : 7 ≡ 0 = value_of _ _ _ 3 (lit< tt) b in omega (arith, e);
  early = early;
  no_gap = λ f. let e : false ≡ true = f.1.some in absurd cc;
  no_longer = λ f. none-some _ (sym (f.1.none 5 (lit≤ tt) (lit< tt)));
  no_place = λ e. omega (arith, e);
  share = λ o. let l = o.0 in omega (arith, l);
}
  where
    few : (n : ℕ) → n < 2 → slice_get (octets_of first_packet true (10 ∷ 11 ∷ [])) n ≡ first_octet came (0 + n)
    few zero h = refl
    few (suc zero) h = refl
    few (suc (suc n)) h = absurd (omega arith)

-- What becomes of the octets of a direction, step by step.
use Rattle.std.proofs.Common.{◌≡◌, ◌≢◌, ℕ, zero, suc, ◌+◌, ◌<◌, ◌≤◌, max, Bool, true, false, List, [], ◌∷◌, ◌++◌, length, map, take, refl, sym, ap, subst, ◌∙◌, append_assoc, append-nil, slice_get, arith}
use Rattle.std.specs.Prelude.{Option, None, Some}
use Rattle.std.specs.List.{AllByRecursion}
use Rattle.smq_reassembly.specs.declared.packet.Packet.{Packet}
use Rattle.smq_reassembly.specs.Octet.{Octet, octets_of}
use Rattle.smq_reassembly.specs.Piece.{Piece, first_octet}
use Rattle.smq_reassembly.specs.Moment.{Start, before_first, given_after}
use Rattle.smq_reassembly.specs.State.{Follows, State}
use Rattle.smq_reassembly.specs.Segment.{piece_of}
use Rattle.smq_reassembly.specs.Sequence.{IsPlace}
use Rattle.smq_reassembly.specs.declared.sequence.Place.{Place}
use Rattle.smq_reassembly.specs.Stream.{IsGap}
use Rattle.smq_streams.specs.declared.stream.Missing.{Missing}
use Rattle.smq_streams.specs.Search.{Search}
use Rattle.smq_reassembly.proofs.Moments.{length-given}
use Rattle.smq_streams.specs.Calls.{octets_in}
use Rattle.smq_streams.specs.Direction as stream
use Rattle.smq_capture.specs.declared.direction.Direction.{Direction}
use Rattle.smq_capture.specs.declared.side.Side.{Side}
use Rattle.smq_capture.specs.declared.side.Side.TheVariants.{Client, Centre}
use Rattle.smq_capture.specs.declared.flow.Came.{Came}
use Rattle.smq_capture.specs.declared.flow.Came.TheVariants as came
use Rattle.smq_capture.specs.declared.flow.Flow.{Flow}
use Rattle.smq_capture.specs.Flow.{AreParts, Comes, Ended, Flows, FlowsIn, History, OnlyPuts, OtherStays, Puts, Stays, Tells, all_put, at_moment, direction_of, last_raised, put_in, raised, timed_from, timed_of, with_gap, with_passed, with_piece, with_put}
use Rattle.smq_capture.specs.Rows.{AllSettle, Row}
use Rattle.smq_capture.specs.Sessions.{Goes}

-- ---- rows of an end

timed-append : (side : Side) (xs ys : List Row) → timed_of side (xs ++ ys) ≡ timed_of side xs ++ timed_of side ys
timed-append side [] ys = refl
timed-append side (x ∷ xs) ys =
    ap (λ (ts : List (ℕ × ℕ)). timed_from side x.sender x.moment x.octets ++ ts) (timed-append side xs ys)
    ∙ sym (append_assoc (timed_from side x.sender x.moment x.octets) (timed_of side xs) (timed_of side ys))

pub timed-settled : (one : Side) (d : Direction) (side : Side) (rows now : List Row) → AllSettle one d rows now
    → timed_of side now ≡ timed_of side rows
timed-settled one d side [] [] h = refl
timed-settled one d side [] (u ∷ us) h = absurd h
timed-settled one d side (r ∷ rs) [] h = absurd h
timed-settled one d side (r ∷ rs) (u ∷ us) h =
    ap (λ (x : Row). timed_from side x.sender x.moment x.octets ++ timed_of side us) h.0.after_is
    ∙ ap (λ (ts : List (ℕ × ℕ)). timed_from side r.sender r.moment r.octets ++ ts) (timed-settled one d side rs us h.2)

timed-own : (side : Side) (m : ℕ) (os : List ℕ) → timed_from side side m os ≡ at_moment m os
timed-own Client m os = refl
timed-own Centre m os = refl

timed-other : (side one : Side) (m : ℕ) (os : List ℕ) → side ≢ one → timed_from side one m os ≡ []
timed-other Client Client m os h = absurd (h refl)
timed-other Centre Centre m os h = absurd (h refl)
timed-other Client Centre m os h = refl
timed-other Centre Client m os h = refl

-- rows of one end are none of the other
timed-none : (side one : Side) (rows : List Row) → side ≢ one → AllByRecursion (λ (row : Row). row.sender ≡ one) rows → timed_of side rows ≡ []
timed-none side one [] h all = refl
timed-none side one (r ∷ rs) h all =
    ap (λ (x : Side). timed_from side x r.moment r.octets ++ timed_of side rs) all.0
    ∙ ap (λ (ts : List (ℕ × ℕ)). ts ++ timed_of side rs) (timed-other side one r.moment r.octets h)
    ∙ timed-none side one rs h all.1

pub other-puts : (side one : Side) (written before after : List Row) → side ≢ one → Puts one before after
    → timed_of side (written ++ after) ≡ timed_of side (written ++ before)
other-puts side one written before after h p =
    ap (λ (xs : List Row). timed_of side (written ++ xs)) p.after_is
    ∙ ap (λ (xs : List Row). timed_of side xs) (sym (append_assoc written before p.more))
    ∙ timed-append side (written ++ before) p.more
    ∙ ap (λ (ts : List (ℕ × ℕ)). timed_of side (written ++ before) ++ ts) (timed-none side one p.more h p.sent)
    ∙ append-nil (timed_of side (written ++ before))

pub puts-none : (side : Side) (rows : List Row) → Puts side rows rows
puts-none side rows = record { more = []; after_is = sym (append-nil rows); sent = record {} }

all-append : (side : Side) (xs ys : List Row) → AllByRecursion (λ (r : Row). r.sender ≡ side) xs
    → AllByRecursion (λ (r : Row). r.sender ≡ side) ys → AllByRecursion (λ (r : Row). r.sender ≡ side) (xs ++ ys)
all-append side [] ys a b = b
all-append side (x ∷ xs) ys a b = (a.0, all-append side xs ys a.1 b)

pub puts-then : (side : Side) (before rows after : List Row) → Puts side before rows → Puts side rows after → Puts side before after
puts-then side before rows after p q = record {
  more = p.more ++ q.more;
  after_is = q.after_is ∙ ap (λ (xs : List Row). xs ++ q.more) p.after_is ∙ append_assoc before p.more q.more;
  sent = all-append side p.more q.more p.sent q.sent;
}

pub only-puts : (before between after : Direction) → OnlyPuts before between → OnlyPuts between after → OnlyPuts before after
only-puts before between after p q =
    q ∙ ap (λ (x : Direction). record x { stream = after.stream; moment = after.moment; raised = after.raised }) p

-- ---- moments that don't fall

raised-append : (m : ℕ) (xs ys : List Octet) → raised m (xs ++ ys) ≡ raised m xs ++ raised (last_raised m xs) ys
raised-append m [] ys = refl
raised-append m (x ∷ xs) ys =
    ap (λ (ts : List (ℕ × ℕ)). (x.value, max m x.packet.moment) ∷ ts) (raised-append (max m x.packet.moment) xs ys)

last-append : (m : ℕ) (xs ys : List Octet) → last_raised m (xs ++ ys) ≡ last_raised (last_raised m xs) ys
last-append m [] ys = refl
last-append m (x ∷ xs) ys = last-append (max m x.packet.moment) xs ys

max-again : (m n : ℕ) → max (max m n) n ≡ max m n
max-again m n = omega arith

raised-packet : (m : ℕ) (p : Packet) (b : Bool) (vs : List ℕ) → raised m (octets_of p b vs) ≡ at_moment (max m p.moment) vs
raised-packet m p b [] = refl
raised-packet m p b (v ∷ vs) =
    ap (λ (ts : List (ℕ × ℕ)). (v, max m p.moment) ∷ ts)
    (raised-packet (max m p.moment) p false vs ∙ ap (λ (n : ℕ). at_moment n vs) (max-again m p.moment))

last-packet : (m : ℕ) (p : Packet) (b : Bool) (vs : List ℕ) → 0 < length vs → last_raised m (octets_of p b vs) ≡ max m p.moment
last-packet m p b [] h = absurd (omega (arith, h))
last-packet m p b (v ∷ []) h = refl
last-packet m p b (v ∷ w ∷ vs) h =
    last-packet (max m p.moment) p false (w ∷ vs) (omega arith) ∙ max-again m p.moment

-- ---- a row is put

pub put-more : (s : History) (more then : List Octet) → with_put then (with_put more s) ≡ with_put (more ++ then) s
put-more s more then =
    ap (λ (os : List Octet). record s { part = record s.part { given = os } }) (append_assoc s.part.given more then)

pub put-none : (s : History) → s ≡ with_put [] s
put-none s = ap (λ (os : List Octet). record s { part = record s.part { given = os } }) (sym (append-nil s.part.given))

pub passed-none : (s : History) → s ≡ with_passed [] s
passed-none s = ap (λ (os : List Octet). record s { part = record s.part { passed = os } }) (sym (append-nil s.part.passed))

pub flows-put : (s : History) (all after : List Row) (side : Side) (m : ℕ) (p : Packet) (b : Bool) (row : Row)
    → timed_of side all ≡ raised 0 (all_put s) → m ≡ last_raised 0 (all_put s)
    → after ≡ all ++ row ∷ [] → row.sender ≡ side → row.moment ≡ max m p.moment
    → timed_of side after ≡ raised 0 (all_put (with_put (octets_of p b row.octets) s))
flows-put s all after side m p b row is last e sent moment =
    let os = octets_of p b row.octets in
    ap (λ (xs : List Row). timed_of side xs) e
    ∙ timed-append side all (row ∷ [])
    ∙ ap (λ (ts : List (ℕ × ℕ)). ts ++ timed_of side (row ∷ [])) is
    ∙ ap (λ (ts : List (ℕ × ℕ)). raised 0 (all_put s) ++ ts)
    (append-nil (timed_from side row.sender row.moment row.octets)
    ∙ ap (λ (x : Side). timed_from side x row.moment row.octets) sent
    ∙ timed-own side row.moment row.octets
    ∙ ap (λ (n : ℕ). at_moment n row.octets) (moment ∙ ap (λ (n : ℕ). max n p.moment) last)
    ∙ sym (raised-packet (last_raised 0 (all_put s)) p b row.octets))
    ∙ sym (raised-append 0 (all_put s) os)
    ∙ ap (λ (xs : List Octet). raised 0 xs) (append_assoc (put_in s.ended) s.part.given os)

pub last-put : (s : History) (m : ℕ) (p : Packet) (b : Bool) (values : List ℕ) → m ≡ last_raised 0 (all_put s) → 0 < length values
    → max m p.moment ≡ last_raised 0 (all_put (with_put (octets_of p b values) s))
last-put s m p b values last some =
    ap (λ (n : ℕ). max n p.moment) last
    ∙ sym (last-packet (last_raised 0 (all_put s)) p b values some)
    ∙ sym (last-append 0 (all_put s) (octets_of p b values))
    ∙ ap (λ (xs : List Octet). last_raised 0 xs) (append_assoc (put_in s.ended) s.part.given (octets_of p b values))

-- a row of octets that a stream gave is put behind the others
pub flows-next : (s : History) (written rows now : List Row) (side : Side) (d then : Direction) (p : Packet) (b : Bool) (row : Row)
    → timed_of side (written ++ rows) ≡ raised 0 (all_put s) → d.moment ≡ last_raised 0 (all_put s)
    → now ≡ rows ++ row ∷ [] → row.sender ≡ side → row.moment ≡ max d.moment p.moment → 0 < length row.octets
    → then.moment ≡ max d.moment p.moment → Tells (with_put (octets_of p b row.octets) s) then.stream
    → Flows (with_put (octets_of p b row.octets) s) written side then now
flows-next s written rows now side d then p b row is at e sent moment some last tells = record {
  tells = tells;
  rows_are = flows-put s (written ++ rows) (written ++ now) side d.moment p b row is at
      (ap (λ (xs : List Row). written ++ xs) e ∙ sym (append_assoc written rows (row ∷ []))) sent moment;
  moment = last ∙ last-put s d.moment p b row.octets at some;
}

-- it is written at once, where none waits
pub flows-at-once : (s : History) (written : List Row) (side : Side) (d then : Direction) (p : Packet) (b : Bool) (row : Row)
    → timed_of side (written ++ []) ≡ raised 0 (all_put s) → d.moment ≡ last_raised 0 (all_put s)
    → row.sender ≡ side → row.moment ≡ max d.moment p.moment → 0 < length row.octets
    → then.moment ≡ max d.moment p.moment → Tells (with_put (octets_of p b row.octets) s) then.stream
    → Flows (with_put (octets_of p b row.octets) s) (written ++ row ∷ []) side then []
flows-at-once s written side d then p b row is at sent moment some last tells = record {
  tells = tells;
  rows_are = flows-put s (written ++ []) ((written ++ row ∷ []) ++ []) side d.moment p b row is at
      (append-nil (written ++ row ∷ []) ∙ ap (λ (xs : List Row). xs ++ row ∷ []) (sym (append-nil written))) sent moment;
  moment = last ∙ last-put s d.moment p b row.octets at some;
}

pub flows-none : (s : History) (written rows : List Row) (side : Side) (d : Direction) → Flows s written side d rows
    → (more : List Octet) × Flows (with_put more s) written side d rows
flows-none s written rows side d f = ([], subst (λ (x : History). Flows x written side d rows) (put-none s) f)

pub flows-then : (s : History) (written rows : List Row) (side : Side) (d : Direction) (more : List Octet)
    → (then : List Octet) × Flows (with_put then (with_put more s)) written side d rows
    → (all : List Octet) × Flows (with_put all s) written side d rows
flows-then s written rows side d more f =
    (more ++ f.0, subst (λ (x : History). Flows x written side d rows) (put-more s more f.0) f.1)

-- ---- a stream's history goes on

pub parts-more : (pieces : List Piece) (piece : Piece) (place : ℕ) (ended : List Ended) → AreParts pieces place ended
    → AreParts (pieces ++ piece ∷ []) place ended
parts-more pieces piece place [] h = h
parts-more pieces piece place (e ∷ es) h = (
  h.0,
  (h.1.0 ++ piece ∷ [], sym (append_assoc e.pieces h.1.0 (piece ∷ [])) ∙ ap (λ (xs : List Piece). xs ++ piece ∷ []) h.1.1),
  h.2,
  h.3,
)

gives-same : (pieces : List Piece) (start : Start) (given : List Octet) (d then : stream.Direction) → stream.Gives pieces start given d
    → then.order ≡ d.order → then.held.octets ≡ d.held.octets → then.held.place ≡ d.held.place → stream.Gives pieces start given then
gives-same pieces start given d then g order octets place = record {
  follows = subst (λ (o : State). Follows pieces start (given ++ then.held.octets) o) (sym order)
      (subst (λ (os : List Octet). Follows pieces start (given ++ os) d.order) (sym octets) g.follows);
  place = λ some. place ∙ g.place (subst (λ (os : List Octet). 0 < length os) octets some);
}

-- of a stream counts what it has given and holds
pub tells-same : (s : History) (d then : stream.Direction) → Tells s d → then.order ≡ d.order → then.held.octets ≡ d.held.octets
    → then.held.place ≡ d.held.place → then.is_searching ≡ d.is_searching → then.first ≡ d.first → then.is_stopped ≡ d.is_stopped
    → Tells s then
tells-same s d then t order octets place searches first stops = record {
  gives = gives-same s.pieces s.part.start (octets_in s.part) d then t.gives order octets place;
  parts = t.parts;
  searches = λ is. t.searches (sym searches ∙ is);
  fresh = λ none. t.fresh (sym first ∙ none);
  goes = stops ∙ t.goes;
}

-- where nothing came nothing was given
given-none : (pieces : List Piece) (start : Start) (given : List Octet) (d : stream.Direction) → pieces ≡ []
    → stream.Gives pieces start given d → given ≡ []
given-none pieces start given d e g = none g.follows.text g.follows.each g.follows.moments
  where
    front : (xs ys : List Octet) → xs ++ ys ≡ [] → xs ≡ []
    front [] ys h = refl
    front (x ∷ xs) ys h = absurd (cc)

    none : (text : List Octet) → ((n : ℕ) → n < length text → slice_get text n ≡ first_octet pieces (start.place + n))
        → given ++ d.held.octets ≡ given_after (before_first start) text → given ≡ []
    none [] each moments = front given d.held.octets moments
    none (o ∷ os) each moments =
        absurd (let h = each 0 (omega arith) ∙ ap (λ (ps : List Piece). first_octet ps (start.place + 0)) e in cc)

-- the first number is learnt
pub tells-begun : (s : History) (d then : stream.Direction) → Tells s d → d.first ≡ None → then.order ≡ d.order → then.held ≡ d.held
    → (then.first ≡ None → ⊥) → then.is_stopped ≡ d.is_stopped → Tells s then
tells-begun s d then t first order held some stops = record {
  gives = gives-same s.pieces s.part.start (octets_in s.part) d then t.gives order
      (ap (λ (h : Search). h.octets) held) (ap (λ (h : Search). h.place) held);
  parts = t.parts;
  searches = λ _. behind s.part.passed s.part.given
      (given-none s.pieces s.part.start (octets_in s.part) d (t.fresh first) t.gives);
  fresh = λ none. absurd (some none);
  goes = stops ∙ t.goes;
}
  where
    behind : (xs ys : List Octet) → xs ++ ys ≡ [] → ys ≡ []
    behind [] ys h = h
    behind (x ∷ xs) ys h = absurd (cc)

-- a piece came
pub tells-piece : (s : History) (d then : stream.Direction) (piece : Piece) → Tells s d
    → stream.Gives (s.pieces ++ piece ∷ []) s.part.start (octets_in s.part) then → (then.first ≡ None → ⊥)
    → then.is_searching ≡ d.is_searching → then.is_stopped ≡ d.is_stopped → Tells (with_piece piece s) then
tells-piece s d then piece t gives some searches stops = record {
  gives = gives;
  parts = parts-more s.pieces piece s.part.start.place s.ended t.parts;
  searches = λ is. t.searches (sym searches ∙ is);
  fresh = λ none. absurd (some none);
  goes = stops ∙ t.goes;
}

-- octets were given
pub tells-put : (s : History) (d then : stream.Direction) (more : List Octet) → Tells s d
    → stream.Gives s.pieces s.part.start (octets_in s.part ++ more) then → then.first ≡ d.first
    → (then.is_searching ≡ true → ⊥) → then.is_stopped ≡ d.is_stopped → Tells (with_put more s) then
tells-put s d then more t gives first searches stops = record {
  gives = subst (λ (os : List Octet). stream.Gives s.pieces s.part.start os then) (append_assoc s.part.passed s.part.given more) gives;
  parts = t.parts;
  searches = λ is. absurd (searches is);
  fresh = λ none. t.fresh (sym first ∙ none);
  goes = stops ∙ t.goes;
}

-- octets were passed over, while none of the part became a row
pub tells-passed : (s : History) (d then : stream.Direction) (more : List Octet) → Tells s d → d.is_searching ≡ true
    → stream.Gives s.pieces s.part.start (octets_in s.part ++ more) then → then.first ≡ d.first
    → then.is_stopped ≡ d.is_stopped → Tells (with_passed more s) then
tells-passed s d then more t is gives first stops =
    let none = t.searches is in
    record {
      gives = subst (λ (os : List Octet). stream.Gives s.pieces s.part.start os then) (moved none) gives;
      parts = t.parts;
      searches = λ _. none;
      fresh = λ e. t.fresh (sym first ∙ e);
      goes = stops ∙ t.goes;
    }
  where
    moved : s.part.given ≡ [] → octets_in s.part ++ more ≡ octets_in (with_passed more s).part
    moved none =
        ap (λ (os : List Octet). (s.part.passed ++ os) ++ more) none
        ∙ ap (λ (os : List Octet). os ++ more) (append-nil s.part.passed)
        ∙ sym (append-nil (s.part.passed ++ more))
        ∙ ap (λ (os : List Octet). (s.part.passed ++ more) ++ os) (sym none)

-- a gap was given up
pub tells-gap : (s : History) (d then : stream.Direction) (missing : Missing) → Tells s d → d.held.octets ≡ []
    → stream.Skips s.pieces d then missing → then.first ≡ d.first → then.is_stopped ≡ d.is_stopped
    → Tells (with_gap missing.until d.order.last.moment s) then
tells-gap s d then missing t none skips first stops =
    let f = t.gives.follows in
    let moments : octets_in s.part ≡ given_after (before_first s.part.start) f.text =
    sym (append-nil (octets_in s.part)) ∙ ap (λ (os : List Octet). octets_in s.part ++ os) (sym none) ∙ f.moments in
    record {
      gives = skips.gives;
      parts = (
        refl,
        ([], append-nil s.pieces),
        record {
          begins = record { text = f.text; each = f.each; moments = moments };
          gap = subst (λ (n : ℕ). IsGap s.pieces n missing.until)
              (sym f.place ∙ ap (λ (n : ℕ). s.part.start.place + n)
              (sym (length-given (before_first s.part.start) f.text) ∙ sym (ap (λ (os : List Octet). length os) moments))) skips.gap;
        },
        t.parts,
      );
      searches = λ _. refl;
      fresh = λ e. t.fresh (sym first ∙ e);
      goes = stops ∙ t.goes;
    }

pub tells-begin : (s : History) (d then : stream.Direction) (f : ℕ) (is : Bool) → (d.first ≡ None → then ≡ record d { first = Some f; is_searching = is })
    → ((g : ℕ) → d.first ≡ Some g → then ≡ d) → Tells s d → Tells s then
tells-begin s d then f is begins same t = by d.first refl
  where
    by : (o : Option ℕ) → d.first ≡ o → Tells s then
    by None e =
        subst (λ (x : stream.Direction). Tells s x) (sym (begins e))
        (tells-begun s d (record d { first = Some f; is_searching = is }) t e refl refl (λ none. absurd (cc)) refl)
    by (Some g) e = subst (λ (x : stream.Direction). Tells s x) (sym (same g e)) t

-- ---- both directions

pub stays-client : (before : Flow) (after : Direction) → ((s : History) → Tells s before.client.stream → Tells s after.stream)
    → after.moment ≡ before.client.moment → Stays before (record before { client = after })
stays-client before after tells moment s written Client f = record { tells = tells s f.tells; rows_are = f.rows_are; moment = moment ∙ f.moment }
stays-client before after tells moment s written Centre f = f

pub stays-centre : (before : Flow) (after : Direction) → ((s : History) → Tells s before.centre.stream → Tells s after.stream)
    → after.moment ≡ before.centre.moment → Stays before (record before { centre = after })
stays-centre before after tells moment s written Client f = f
stays-centre before after tells moment s written Centre f = record { tells = tells s f.tells; rows_are = f.rows_are; moment = moment ∙ f.moment }

-- a stream that is like another in what counts
pub tells-like : (d then other : stream.Direction) → then ≡ other → other.order ≡ d.order → other.held.octets ≡ d.held.octets
    → other.held.place ≡ d.held.place → other.is_searching ≡ d.is_searching → other.first ≡ d.first → other.is_stopped ≡ d.is_stopped
    → (s : History) → Tells s d → Tells s then
tells-like d then other e order octets place searches first stops s t =
    subst (λ (x : stream.Direction). Tells s x) (sym e) (tells-same s d other t order octets place searches first stops)

pub in-client : (s : History) (written : List Row) (one : Side) (flow : Flow) → one ≡ Client → FlowsIn s written one flow
    → Flows s written one flow.client flow.rows
in-client s written one flow is f = subst (λ (x : Side). Flows s written one (direction_of x flow) flow.rows) is f

pub in-centre : (s : History) (written : List Row) (one : Side) (flow : Flow) → one ≡ Centre → FlowsIn s written one flow
    → Flows s written one flow.centre flow.rows
in-centre s written one flow is f = subst (λ (x : Side). Flows s written one (direction_of x flow) flow.rows) is f

pub of-client : (s : History) (written : List Row) (one : Side) (flow : Flow) → one ≡ Client
    → Flows s written one flow.client flow.rows → FlowsIn s written one flow
of-client s written one flow is f = subst (λ (x : Side). Flows s written one (direction_of x flow) flow.rows) (sym is) f

pub of-centre : (s : History) (written : List Row) (one : Side) (flow : Flow) → one ≡ Centre
    → Flows s written one flow.centre flow.rows → FlowsIn s written one flow
of-centre s written one flow is f = subst (λ (x : Side). Flows s written one (direction_of x flow) flow.rows) (sym is) f

-- rows that one end sent leave the other's
pub other-client : (before : Flow) (d : Direction) (rows : List Row) (one : Side) → one ≡ Client → Puts one before.rows rows
    → OtherStays one before (record before { client = d; rows = rows })
other-client before d rows one is puts s written Client h f = absurd (h (sym is))
other-client before d rows one is puts s written Centre h f = record {
  tells = f.tells;
  rows_are = other-puts Centre one written before.rows rows h puts ∙ f.rows_are;
  moment = f.moment;
}

pub other-centre : (before : Flow) (d : Direction) (rows : List Row) (one : Side) → one ≡ Centre → Puts one before.rows rows
    → OtherStays one before (record before { centre = d; rows = rows })
other-centre before d rows one is puts s written Centre h f = absurd (h (sym is))
other-centre before d rows one is puts s written Client h f = record {
  tells = f.tells;
  rows_are = other-puts Client one written before.rows rows h puts ∙ f.rows_are;
  moment = f.moment;
}

timed-after : (side : Side) (written before after : List Row) → timed_of side after ≡ timed_of side before
    → timed_of side (written ++ after) ≡ timed_of side (written ++ before)
timed-after side written before after e =
    timed-append side written after ∙ ap (λ (ts : List (ℕ × ℕ)). timed_of side written ++ ts) e
    ∙ sym (timed-append side written before)

-- rows are settled by one direction
pub settled-client : (before : Flow) (d : Direction) (rows : List Row) (one : Side) → AllSettle one before.client before.rows rows
    → Goes before.client d → Stays before (record before { client = d; rows = rows })
settled-client before d rows one h goes s written Client f = record {
  tells = subst (λ (x : Direction). Tells s x.stream) (sym goes.same) f.tells;
  rows_are = timed-after Client written before.rows rows (timed-settled one before.client Client before.rows rows h) ∙ f.rows_are;
  moment = ap (λ (x : Direction). x.moment) goes.same ∙ f.moment;
}
settled-client before d rows one h goes s written Centre f = record {
  tells = f.tells;
  rows_are = timed-after Centre written before.rows rows (timed-settled one before.client Centre before.rows rows h) ∙ f.rows_are;
  moment = f.moment;
}

pub settled-centre : (before : Flow) (d : Direction) (rows : List Row) (one : Side) → AllSettle one before.centre before.rows rows
    → Goes before.centre d → Stays before (record before { centre = d; rows = rows })
settled-centre before d rows one h goes s written Centre f = record {
  tells = subst (λ (x : Direction). Tells s x.stream) (sym goes.same) f.tells;
  rows_are = timed-after Centre written before.rows rows (timed-settled one before.centre Centre before.rows rows h) ∙ f.rows_are;
  moment = ap (λ (x : Direction). x.moment) goes.same ∙ f.moment;
}
settled-centre before d rows one h goes s written Client f = record {
  tells = f.tells;
  rows_are = timed-after Client written before.rows rows (timed-settled one before.centre Client before.rows rows h) ∙ f.rows_are;
  moment = f.moment;
}

-- a direction's first PDU is looked for
pub flows-passed : (s : History) (written rows : List Row) (side : Side) (d then : Direction) (is_end found : Bool) → Flows s written side d rows
    → d.stream.is_searching ≡ true
    → stream.Searches is_end s.pieces s.part.start (octets_in s.part) d.stream then.stream found
    → then.stream.first ≡ d.stream.first → then.stream.is_stopped ≡ d.stream.is_stopped → then.moment ≡ d.moment
    → (passed : List Octet) × Flows (with_passed passed s) written side then rows
flows-passed s written rows side d then is_end found f is h first stops moment = (
  take h.count h.held,
  record {
    tells = tells-passed s d.stream then.stream (take h.count h.held) f.tells is h.gives first stops;
    rows_are = f.rows_are;
    moment = moment ∙ f.moment;
  },
)

-- a gap of a direction is given up
pub flows-gap : (s : History) (written rows : List Row) (side : Side) (d then : Direction) (missing : Missing) → Flows s written side d rows
    → d.stream.held.octets ≡ [] → stream.Skips s.pieces d.stream then.stream missing
    → then.stream.first ≡ d.stream.first → then.stream.is_stopped ≡ d.stream.is_stopped → then.moment ≡ d.moment
    → Flows (with_gap missing.until d.stream.order.last.moment s) written side then rows
flows-gap s written rows side d then missing f none skips first stops moment = record {
  tells = tells-gap s d.stream then.stream missing f.tells none skips first stops;
  rows_are = f.rows_are ∙ ap (λ (os : List Octet). raised 0 os) (sym (append-nil (all_put s)));
  moment = moment ∙ f.moment ∙ ap (λ (os : List Octet). last_raised 0 os) (sym (append-nil (all_put s)));
}

-- what a segment that isn't too far ahead makes
pub comes-within : (far : Type 0) (before s : History) (written : List Row) (side : Side) (given : Came) (d : Direction) (rows : List Row)
    → (far → ⊥) → Comes ⊥ s s written side given d rows → Comes far before s written side given d rows
comes-within far before s written side (came.AtOnce given) d rows near h = (near, h.1, h.2, h.3, h.4, h.5)
comes-within far before s written side came.Taken d rows near h = (near, h.1, h.2, h.3)
comes-within far before s written side came.Outside d rows near h = absurd h.0

-- octets of a segment were lent
pub tells-lent : (s : History) (d then : stream.Direction) (piece : Piece) (more : List Octet) → Tells s d
    → stream.Gives (s.pieces ++ piece ∷ []) s.part.start (octets_in s.part ++ more) then → (then.first ≡ None → ⊥)
    → (then.is_searching ≡ true → ⊥) → then.is_stopped ≡ d.is_stopped → Tells (with_put more (with_piece piece s)) then
tells-lent s d then piece more t gives some searches stops = record {
  gives = subst (λ (os : List Octet). stream.Gives (s.pieces ++ piece ∷ []) s.part.start os then)
      (append_assoc s.part.passed s.part.given more) gives;
  parts = parts-more s.pieces piece s.part.start.place s.ended t.parts;
  searches = λ is. absurd (searches is);
  fresh = λ none. absurd (some none);
  goes = stops ∙ t.goes;
}

-- what a stream says of a segment that it takes
abbrev pub SaysOfAdded : ℕ → Packet → List ℕ → Bool → stream.Direction → stream.Direction → Type 0
SaysOfAdded sequence packet octets taken before after =
    (pieces : List Piece) (start : Start) (given : List Octet) (f : ℕ) (place : Place) → stream.Gives pieces start given before
    → before.first ≡ Some f → before.is_stopped ≡ false → 0 < length octets → IsPlace f before.order.next sequence place
    → stream.Adds pieces start given (piece_of place before.order.next packet octets) before after taken

-- so it is of one that is taken by a stream with a history, where what was asked before changed nothing
pub adds-at : (s : History) (sequence : ℕ) (packet : Packet) (octets : List ℕ) (taken : Bool) (f : ℕ) (place : Place)
    (d between after : stream.Direction) → Tells s d → d.first ≡ Some f → IsPlace f d.order.next sequence place → 0 < length octets
    → between ≡ d → SaysOfAdded sequence packet octets taken between after
    → stream.Adds s.pieces s.part.start (octets_in s.part) (piece_of place d.order.next packet octets) d after taken
adds-at s sequence packet octets taken f place d between after t first stands some e adds =
    subst (λ (x : stream.Direction). SaysOfAdded sequence packet octets taken x after) e adds s.pieces s.part.start (octets_in s.part) f place
    t.gives first t.goes some stands

-- a segment's octets are taken
pub flows-added : (s : History) (written rows : List Row) (side : Side) (piece : Piece) (f : ℕ) (d : Direction)
    (between after : stream.Direction) → Flows s written side d rows → d.stream.first ≡ Some f → between ≡ d.stream
    → stream.Adds s.pieces s.part.start (octets_in s.part) piece d.stream after true
    → after ≡ record between { order = after.order; extent = after.extent; held = after.held }
    → Flows (with_piece piece s) written side (record d { stream = after }) rows
flows-added s written rows side piece f d between after flow first e adds differs =
    let same = subst (λ (x : stream.Direction). after ≡ record x { order = after.order; extent = after.extent; held = after.held }) e differs in
    record {
      tells = tells-piece s d.stream after piece flow.tells adds.1
          (λ none. let known = ap (λ (x : stream.Direction). x.first) same ∙ first in absurd (cc))
          (ap (λ (x : stream.Direction). x.is_searching) same) (ap (λ (x : stream.Direction). x.is_stopped) same);
      rows_are = flow.rows_are;
      moment = flow.moment;
    }

-- a packet's moment is noted
pub flows-noted : (s : History) (written rows : List Row) (side : Side) (d then : Direction) → then ≡ record d { raised = then.raised }
    → Flows s written side d rows → Flows s written side then rows
flows-noted s written rows side d then e f = record {
  tells = subst (λ (x : Direction). Tells s x.stream) (sym e) f.tells;
  rows_are = f.rows_are;
  moment = ap (λ (x : Direction). x.moment) e ∙ f.moment;
}

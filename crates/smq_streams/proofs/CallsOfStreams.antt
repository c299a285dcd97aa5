-- The parts of a direction, by whatever calls.
use Rattle.std.proofs.Common.{◌≡◌, ℕ, ◌+◌, ◌<◌, ◌≤◌, Bool, true, false, List, [], ◌∷◌, ◌++◌, length, take, drop, refl, sym, ap, ◌∙◌, subst, append_assoc, append-nil, arith, length-append}
use Rattle.std.specs.Prelude.{Some, None}
use Rattle.std.specs.List.{AllByRecursion}
use Rattle.smq_reassembly.specs.declared.packet.Packet.{Packet}
use Rattle.smq_reassembly.specs.Octet.{Octet}
use Rattle.smq_reassembly.specs.Moment.{IsGiven, Start, before_first, moment_before}
use Rattle.smq_reassembly.specs.Piece.{Piece, first_octet}
use Rattle.smq_reassembly.specs.State.{Follows, State}
use Rattle.smq_reassembly.specs.Segment.{piece_of}
use Rattle.smq_reassembly.specs.Stream.{IsGap}
use Rattle.smq_reassembly.specs.declared.sequence.Place.{Place}
use Rattle.smq_streams.specs.declared.stream.Missing.{Missing}
use Rattle.smq_streams.specs.Direction.{Direction, Gives}
use Rattle.smq_streams.specs.Search.{BeginNone, Search, Stops}
use Rattle.smq_streams.specs.Calls.{AllFit, AreInOrder, AreStreams, Become, Call, Does, Fits, Course, IsBeginning, IsNew, Part, Tells, end_of, with_calls, nothing, octets_in, pieces_before, with_call}
use Rattle.smq_streams.specs.Calls.Call.{Added, Begun, Gave, GaveNone, Lent, Other, Searched, Skipped, Stopped}
use Rattle.smq_streams.proofs.Beginnings.{HaveAll, comes, cut-all, last-moment, let-go, none-of-none, of-follows, widen}
use Rattle.smq_streams.proofs.Places.{ends}

-- each ended part is a beginning
abbrev AllBegin : List Piece → List Part → Type 0
AllBegin pieces parts = AllByRecursion (λ (part : Part). IsBeginning pieces part.start (octets_in part)) parts

all-widen : (pieces more : List Piece) (parts : List Part) → HaveAll pieces more → AllBegin pieces parts → AllBegin more parts
all-widen pieces more [] all c = tt
all-widen pieces more (p ∷ ps) all c = (widen pieces more p.start (octets_in p) all c.0, all-widen pieces more ps all c.1)

-- what is told is so, and what else is known of a direction
record IsTold (c : Course) (d : Direction) : Type 0 where
  tells : Tells c d
  unknown : d.first ≡ None → c.pieces ≡ []
  searches : d.is_searching ≡ true → c.part.given ≡ []
  all : d.is_stopped ≡ false → c.pieces ≡ c.came
  some : HaveAll c.pieces c.came
  ended : AllBegin c.came c.ended
  order : AreInOrder (c.part ∷ c.ended)

-- what `Gives` says stays where the octets do
same-gives : (pieces : List Piece) (start : Start) (given : List Octet) (before after : Direction) → after.order ≡ before.order
    → after.held.octets ≡ before.held.octets → after.held.place ≡ before.held.place → Gives pieces start given before
    → Gives pieces start given after
same-gives pieces start given before after order octets place g =
    record {
      follows = subst (λ (s : State). Follows pieces start (given ++ after.held.octets) s) (sym order)
          (subst (λ (os : List Octet). Follows pieces start (given ++ os) before.order) (sym octets) g.follows);
      place = λ some. place ∙ g.place (subst (λ (os : List Octet). 0 < length os) octets some);
    }

first-none : (xs ys : List Octet) → xs ++ ys ≡ [] → xs ≡ []
first-none [] ys e = refl
first-none (x ∷ xs) ys e = absurd cc

second-none : (xs ys : List Octet) → xs ++ ys ≡ [] → ys ≡ []
second-none [] ys e = e
second-none (x ∷ xs) ys e = absurd cc

none-given : (c : Course) (d : Direction) → c.pieces ≡ [] → Tells c d → c.part.given ≡ []
none-given c d e g =
    let f : Follows [] c.part.start (octets_in c.part ++ d.held.octets) d.order =
    subst (λ (ps : List Piece). Follows ps c.part.start (octets_in c.part ++ d.held.octets) d.order) e g.follows in
    second-none c.part.passed c.part.given (first-none (octets_in c.part) d.held.octets (none-of-none c.part.start _ d.order f))

none-some-pieces : (c : Course) (before after : Direction) (f : ℕ) → before.first ≡ Some f → after.first ≡ before.first
    → after.first ≡ None → (X : Type 0) → X
none-some-pieces c before after f known same none X = absurd (let e : None ≡ Some f = sym none ∙ same ∙ known in cc)

not-both : (a b : Bool) → a ≡ b → b ≡ false → a ≡ true → ⊥
not-both a b e f g = let x : true ≡ false = sym g ∙ e ∙ f in cc

-- the part under way grew: it begins where it did
still-behind : (p q : Part) (ps : List Part) → q.start ≡ p.start → AreInOrder (p ∷ ps) → AreInOrder (q ∷ ps)
still-behind p q [] e o = o
still-behind p q (r ∷ rs) e o = (subst (λ (s : Start). end_of r ≤ s.place) (sym e) o.0, o.1)

pushed : (c : Course) (piece : Piece) (d : Direction) → d.is_stopped ≡ false → IsTold c d
    → (c.pieces ++ piece ∷ [] ≡ c.came ++ piece ∷ []) × HaveAll (c.pieces ++ piece ∷ []) (c.came ++ piece ∷ [])
    × AllBegin (c.came ++ piece ∷ []) c.ended
pushed c piece d on t =
    let same : c.pieces ++ piece ∷ [] ≡ c.came ++ piece ∷ [] = ap (λ (ps : List Piece). ps ++ piece ∷ []) (t.all on) in (
      same,
      (λ n o e. subst (λ (ps : List Piece). first_octet ps n ≡ Some o) same e),
      all-widen c.came (c.came ++ piece ∷ []) c.ended (comes c.came piece) t.ended,
    )

-- what follows where the last octets of a part stand
moved : (passed given more : List Octet) → given ≡ [] → (passed ++ given) ++ more ≡ (passed ++ more) ++ given
moved passed given more e =
    ap (λ (g : List Octet). (passed ++ g) ++ more) e
    ∙ ap (λ (g : List Octet). g ++ more) (append-nil passed)
    ∙ sym (append-nil (passed ++ more))
    ∙ ap (λ (g : List Octet). (passed ++ more) ++ g) (sym e)

-- ---- a call

begun : (c : Course) (first : ℕ) (is_searching : Bool) (before after : Direction) → IsTold c before
    → Does c (Begun first is_searching) before after → IsTold c after
begun c first is_searching before after t s =
    record {
      tells = same-gives _ _ _ before after (ap (λ (d : Direction). d.order) s.1) (ap (λ (d : Direction). d.held.octets) s.1)
          (ap (λ (d : Direction). d.held.place) s.1) t.tells;
      unknown = λ e. t.unknown s.0;
      searches = λ e. none-given c before (t.unknown s.0) t.tells;
      all = λ e. t.all (sym (ap (λ (d : Direction). d.is_stopped) s.1) ∙ e);
      some = t.some;
      ended = t.ended;
      order = t.order;
    }

lent : (c : Course) (piece : Piece) (octets : List Octet) (before after : Direction) → IsTold c before
    → Does c (Lent piece octets) before after → IsTold (with_call (Lent piece octets) c) after × Fits c (Lent piece octets)
lent c piece octets before after t s =
    let done = s.1 t.tells in
    let new = pushed c piece before done.0.stopped t in
    let end : end_of c.part + 0 ≡ before.order.next =
    ap (λ (os : List Octet). end_of c.part + length os) (sym done.0.none)
    ∙ omega (arith, ends c.pieces c.part.start (octets_in c.part ++ before.held.octets) before.order t.tells.follows, length-append (octets_in c.part) before.held.octets) in
    let at : piece.at ≡ before.order.next + 0 =
    ap (λ (p : Piece). p.at) s.0.is
    ∙ ap (λ (p : Place). (piece_of p before.order.next s.0.packet s.0.octets).at) done.0.next in (
      record {
        tells = subst (λ (os : List Octet). Gives (c.pieces ++ piece ∷ []) c.part.start os after)
            (append_assoc c.part.passed c.part.given octets) done.1;
        unknown = λ e. none-some-pieces c before after s.0.first s.0.known (ap (λ (d : Direction). d.first) s.2) e _;
        searches = λ e. absurd (not-both after.is_searching before.is_searching (ap (λ (d : Direction). d.is_searching) s.2) done.0.searches e);
        all = λ e. new.0;
        some = new.1;
        ended = new.2;
        order = still-behind c.part (record c.part { given = c.part.given ++ octets }) c.ended refl t.order;
      },
      omega (arith, at, end),
    )

added : (c : Course) (piece : Piece) (taken : Bool) (before after : Direction) → IsTold c before
    → Does c (Added piece taken) before after → IsTold (with_call (Added piece taken) c) after
added c piece true before after t s =
    let new = pushed c piece before s.1 t in
    record {
      tells = (s.2 t.tells).1;
      unknown = λ e. none-some-pieces c before after s.0.first s.0.known (ap (λ (d : Direction). d.first) s.3) e _;
      searches = λ e. t.searches (sym (ap (λ (d : Direction). d.is_searching) s.3) ∙ e);
      all = λ e. new.0;
      some = new.1;
      ended = new.2;
      order = t.order;
    }
added c piece false before after t s =
    record {
      tells = (s.2 t.tells).1;
      unknown = λ e. t.unknown (sym (ap (λ (d : Direction). d.first) s.3) ∙ e);
      searches = λ e. t.searches (sym (ap (λ (d : Direction). d.is_searching) s.3) ∙ e);
      all = λ e. t.all (sym (ap (λ (d : Direction). d.is_stopped) s.3) ∙ e);
      some = t.some;
      ended = t.ended;
      order = t.order;
    }

gave : (c : Course) (place : ℕ) (octets : List Octet) (before after : Direction) → IsTold c before
    → Does c (Gave place octets) before after → IsTold (with_call (Gave place octets) c) after
gave c place octets before after t s =
    record {
      tells = subst (λ (os : List Octet). Gives c.pieces c.part.start os after)
          (append_assoc c.part.passed c.part.given octets) (s.1 t.tells).1;
      unknown = λ e. t.unknown (sym (ap (λ (d : Direction). d.first) s.2) ∙ e);
      searches = λ e. absurd (not-both after.is_searching before.is_searching (ap (λ (d : Direction). d.is_searching) s.2) s.0 e);
      all = λ e. t.all (sym (ap (λ (d : Direction). d.is_stopped) s.2) ∙ e);
      some = t.some;
      ended = t.ended;
      order = still-behind c.part (record c.part { given = c.part.given ++ octets }) c.ended refl t.order;
    }

searched : (c : Course) (is_end : Bool) (octets : List Octet) (count : ℕ) (is_found : Bool) (before after : Direction) → IsTold c before
    → Does c (Searched is_end octets count is_found) before after
    → IsTold (with_call (Searched is_end octets count is_found) c) after × Fits c (Searched is_end octets count is_found)
searched c is_end octets count is_found before after t s =
    let done = s.1 t.tells in
    let none : c.part.given ≡ [] = t.searches s.0 in
    let over : take done.0.count done.0.held ≡ take count octets =
    ap (λ (n : ℕ). take n done.0.held) done.2 ∙ ap (λ (os : List Octet). take count os) done.1 in
    let all : octets_in c.part ++ take done.0.count done.0.held ≡ (c.part.passed ++ take count octets) ++ c.part.given =
    ap (λ (os : List Octet). octets_in c.part ++ os) over ∙ moved c.part.passed c.part.given (take count octets) none in
    let rest : after.held.octets ≡ drop count octets =
    done.0.left ∙ ap (λ (n : ℕ). drop n done.0.held) done.2 ∙ ap (λ (os : List Octet). drop count os) done.1 in
    let front : octets_in c.part ++ done.0.held ≡ c.part.passed ++ octets =
    ap (λ (os : List Octet). octets_in c.part ++ os) done.1
    ∙ ap (λ (os : List Octet). (c.part.passed ++ os) ++ octets) none
    ∙ ap (λ (os : List Octet). os ++ octets) (append-nil c.part.passed) in (
      record {
        tells = subst (λ (os : List Octet). Gives c.pieces c.part.start os after) all done.0.gives;
        unknown = λ e. t.unknown (sym (ap (λ (d : Direction). d.first) s.2) ∙ e);
        searches = λ e. none;
        all = λ e. t.all (sym (ap (λ (d : Direction). d.is_stopped) s.2) ∙ e);
        some = t.some;
        ended = t.ended;
        order = still-behind c.part (record c.part { passed = c.part.passed ++ take count octets }) c.ended refl t.order;
      },
      (
        none,
        subst (λ (os : List Octet). IsGiven c.pieces c.part.start os) front done.0.whole,
        subst (λ (n : ℕ). BeginNone is_end octets n) done.2
            (subst (λ (os : List Octet). BeginNone is_end os done.0.count) done.1 done.0.passed),
        subst (λ (os : List Octet). Stops is_end os is_found) rest done.0.stops,
      ),
    )

skipped : (c : Course) (missing : Missing) (before after : Direction) → IsTold c before → Does c (Skipped missing) before after
    → IsTold (with_call (Skipped missing) c) after × Fits c (Skipped missing)
skipped c missing before after t s =
    let done = s.1 t.tells in
    let whole : octets_in c.part ++ before.held.octets ≡ octets_in c.part =
    ap (λ (os : List Octet). octets_in c.part ++ os) s.0 ∙ append-nil (octets_in c.part) in
    let f : Follows c.pieces c.part.start (octets_in c.part) before.order =
    subst (λ (os : List Octet). Follows c.pieces c.part.start os before.order) whole t.tells.follows in
    let end : end_of c.part ≡ before.order.next = ends c.pieces c.part.start (octets_in c.part) before.order f in
    let moment : moment_before c.part.start.moment (octets_in c.part) (length (octets_in c.part)) ≡ before.order.last.moment =
    ap (λ (os : List Octet). moment_before c.part.start.moment os (length os)) f.moments
    ∙ last-moment (before_first c.part.start) f.text ∙ sym (ap (λ (p : Packet). p.moment) f.last) in
    let from : missing.from ≡ end_of c.part = done.from ∙ sym end in
    let gap : IsGap c.pieces missing.from missing.until =
    subst (λ (n : ℕ). IsGap c.pieces n missing.until) (sym done.from) done.gap in (
      record {
        tells = subst (λ (m : ℕ). Gives c.pieces (record { place = missing.until; moment = m }) [] after) (sym moment) done.gives;
        unknown = λ e. t.unknown (sym (ap (λ (d : Direction). d.first) s.2) ∙ e);
        searches = λ e. refl;
        all = λ e. t.all (sym (ap (λ (d : Direction). d.is_stopped) s.2) ∙ e);
        some = t.some;
        ended = (
          widen c.pieces c.came c.part.start (octets_in c.part) t.some
              (of-follows c.pieces c.part.start (octets_in c.part) before.held.octets before.order t.tells.follows),
          t.ended,
        );
        order = (omega (arith, gap.order, from), t.order);
      },
      (from, gap),
    )

stopped : (c : Course) (place : ℕ) (before after : Direction) → IsTold c before → Does c (Stopped place) before after
    → IsTold (with_call (Stopped place) c) after × Fits c (Stopped place)
stopped c place before after t s =
    let f : Follows (pieces_before place c.pieces) c.part.start (octets_in c.part ++ before.held.octets) (record before.order { waiting = [] }) =
    subst (λ (n : ℕ). Follows (pieces_before n c.pieces) c.part.start (octets_in c.part ++ before.held.octets) (record before.order { waiting = [] }))
    (sym s.0) (let-go c.pieces c.part.start (octets_in c.part ++ before.held.octets) before.order t.tells.follows) in
    let held : after.held ≡ before.held = ap (λ (d : Direction). d.held) s.1 in (
      record {
        tells = record {
          follows = subst (λ (x : State). Follows (pieces_before place c.pieces) c.part.start (octets_in c.part ++ after.held.octets) x)
              (sym (ap (λ (d : Direction). d.order) s.1))
              (subst (λ (x : Search). Follows (pieces_before place c.pieces) c.part.start (octets_in c.part ++ x.octets)
              (record before.order { waiting = [] })) (sym held) f);
          place = λ some.
              ap (λ (x : Search). x.place) held ∙ t.tells.place (subst (λ (x : Search). 0 < length x.octets) held some);
        };
        unknown = λ e.
            ap (λ (ps : List Piece). pieces_before place ps) (t.unknown (sym (ap (λ (d : Direction). d.first) s.1) ∙ e));
        searches = λ e. t.searches (sym (ap (λ (d : Direction). d.is_searching) s.1) ∙ e);
        all = λ e. absurd (let x : true ≡ false = sym (ap (λ (d : Direction). d.is_stopped) s.1) ∙ e in cc);
        some = λ n o e. t.some n o (cut-all place c.pieces n o e);
        ended = t.ended;
        order = t.order;
      },
      let e = ends c.pieces c.part.start (octets_in c.part ++ before.held.octets) before.order t.tells.follows in
          omega (arith, e, s.0, length-append (octets_in c.part) before.held.octets),
    )

other : (c : Course) (before after : Direction) → IsTold c before → Does c Other before after → IsTold c after
other c before after t s =
    record {
      tells = same-gives _ _ _ before after (ap (λ (d : Direction). d.order) s) (ap (λ (d : Direction). d.held.octets) s)
          (ap (λ (d : Direction). d.held.place) s) t.tells;
      unknown = λ e. t.unknown (sym (ap (λ (d : Direction). d.first) s) ∙ e);
      searches = λ e. t.searches (sym (ap (λ (d : Direction). d.is_searching) s) ∙ e);
      all = λ e. t.all (sym (ap (λ (d : Direction). d.is_stopped) s) ∙ e);
      some = t.some;
      ended = t.ended;
      order = t.order;
    }

step : (call : Call) (c : Course) (before after : Direction) → IsTold c before → Does c call before after
    → IsTold (with_call call c) after × Fits c call
step (Begun first is_searching) c before after t s = (begun c first is_searching before after t s, tt)
step (Lent piece octets) c before after t s = lent c piece octets before after t s
step (Added piece taken) c before after t s = (added c piece taken before after t s, tt)
step (Gave place octets) c before after t s = (gave c place octets before after t s, (s.1 t.tells).0)
step GaveNone c before after t s = (subst (λ (d : Direction). IsTold c d) (sym s.2) t, s.1 t.tells)
step (Searched is_end octets count is_found) c before after t s = searched c is_end octets count is_found before after t s
step (Skipped missing) c before after t s = skipped c missing before after t s
step (Stopped place) c before after t s = stopped c place before after t s
step Other c before after t s = (other c before after t s, tt)

all-fit : (calls : List Call) (c : Course) (before after : Direction) → IsTold c before → Become c calls before after
    → IsTold (with_calls calls c) after × AllFit c calls
all-fit [] c before after t b = (subst (λ (d : Direction). IsTold c d) (sym b) t, tt)
all-fit (call ∷ calls) c before after t b =
    let now = step call c before b.0 t b.1 in
    let rest = all-fit calls (with_call call c) b.0 after now.0 b.2 in (rest.0, (now.1, rest.1))

told : (calls : List Call) (empty d : Direction) → IsNew empty → Become nothing calls empty d
    → IsTold (with_calls calls nothing) d × AllFit nothing calls
told calls empty d new b =
    all-fit calls nothing empty d
    (record {
      tells = new.gives;
      unknown = λ e. refl;
      searches = λ e. refl;
      all = λ e. refl;
      some = λ n o e. e;
      ended = tt;
      order = (tt, tt);
    }) b

pub streams : (calls : List Call) (empty d : Direction) → IsNew empty → Become nothing calls empty d → AreStreams (with_calls calls nothing)
streams calls empty d new b =
    let t = (told calls empty d new b).0 in
    let c = with_calls calls nothing in (
      (
        widen c.pieces c.came c.part.start (octets_in c.part) t.some
            (of-follows c.pieces c.part.start (octets_in c.part) d.held.octets d.order t.tells.follows),
        t.ended,
      ),
      t.order,
    )

pub last : (calls : List Call) (empty d : Direction) → IsNew empty → Become nothing calls empty d → Tells (with_calls calls nothing) d
last calls empty d new b = (told calls empty d new b).0.tells

pub fit : (calls : List Call) (empty d : Direction) → IsNew empty → Become nothing calls empty d → AllFit nothing calls
fit calls empty d new b = (told calls empty d new b).1

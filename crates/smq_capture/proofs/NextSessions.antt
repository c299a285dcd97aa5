-- Where the next session of a connection begins, as its calls follow one another.
use Rattle.std.proofs.Common.{inl, inr, ◌≡◌, ℕ, Bool, true, false, List, [], refl, sym, ap, subst, ◌∙◌}
use Rattle.std.specs.Prelude.{◌↔◌, ◌⊎◌, IsTrue, Some, None, Option}
use Rattle.smq_streams.specs.Framing.{IsFramed}
use Rattle.smq_capture.specs.declared.direction.Direction.{Direction}
use Rattle.smq_capture.specs.declared.direction.Following.{Following}
use Rattle.smq_capture.specs.declared.flow.Flow.{Flow}
use Rattle.smq_capture.specs.declared.side.Side.{Side}
use Rattle.smq_capture.specs.declared.side.Side.TheVariants.{Client, Centre}
use Rattle.smq_capture.specs.declared.signs.Both.{Both}
use Rattle.smq_capture.specs.Flow.{direction_of, stream_of, with_direction}
use Rattle.smq_capture.specs.GoingOn.{BeginsNext, BeginsWith, FollowsBehind, GoesOn, HasOctets, other_of, signs_of}
use Rattle.smq_capture.specs.Rows.{AreSettledTo, Row, SomeEndsIn}
use Rattle.smq_capture.specs.Sessions.{Goes}
use Rattle.smq_capture.specs.Tops.{noted_before}

own-with : (side : Side) (d : Direction) (flow : Flow) → direction_of side (with_direction side d flow) ≡ d
own-with Client d flow = refl
own-with Centre d flow = refl

other-with : (side : Side) (d : Direction) (flow : Flow)
    → direction_of (other_of side) (with_direction side d flow) ≡ direction_of (other_of side) flow
other-with Client d flow = refl
other-with Centre d flow = refl

rows-with : (side : Side) (d : Direction) (flow : Flow) → (with_direction side d flow).rows ≡ flow.rows
rows-with Client d flow = refl
rows-with Centre d flow = refl

with-rows : (side : Side) (flow : Flow) (rows : List Row) → direction_of side (record flow { rows = rows }) ≡ direction_of side flow
with-rows Client flow rows = refl
with-rows Centre flow rows = refl

-- a flow in which octets of a direction were settled
pub record IsSettledIn (side : Side) (before mid : Flow) : Type 0 where
  pub is : mid ≡ record (with_direction side (direction_of side mid) before) { rows = mid.rows }
  pub goes : Goes (direction_of side before) (direction_of side mid)
  pub all : AreSettledTo None side before.rows mid.rows

other-settled : (side : Side) (before mid : Flow) → IsSettledIn side before mid
    → direction_of (other_of side) mid ≡ direction_of (other_of side) before
other-settled side before mid s =
    ap (λ (f : Flow). direction_of (other_of side) f) s.is
    ∙ with-rows (other_of side) (with_direction side (direction_of side mid) before) mid.rows
    ∙ other-with side (direction_of side mid) before

pub gap-settled : (side : Side) (before mid : Flow) → IsSettledIn side before mid
    → (stream_of side mid).is_behind_gap ≡ (stream_of side before).is_behind_gap
gap-settled side before mid s = ap (λ (d : Direction). d.stream.is_behind_gap) s.goes.same

-- the last session ended, or goes on
pub record Ended (side : Side) (number : ℕ) (has_rows : Bool) (last : ℕ) (mid : Flow) (signs : Both) (next : ℕ) (ended : Flow)
    (session : ℕ) : Type 0 where
  pub ends : HasOctets has_rows last mid.rows ended.rows
      → (session ≡ next) × FollowsBehind (other_of side) number mid signs session ended
  pub goes_on : (HasOctets has_rows last mid.rows ended.rows → ⊥) → GoesOn (other_of side) mid last ended session
  pub own : direction_of side ended ≡ direction_of side mid

-- a session begins with the next octets of a direction
pub record Begun (side : Side) (ended : Flow) (session : ℕ) (after : Flow) : Type 0 where
  pub is : after ≡ with_direction side (record (direction_of side ended) {
    framer = (direction_of side after).framer;
    session = session;
    following = None;
  }) ended
  pub framed : IsFramed [] (direction_of side after).framer

other-begun : (side : Side) (ended : Flow) (session : ℕ) (after : Flow) → Begun side ended session after
    → direction_of (other_of side) after ≡ direction_of (other_of side) ended
other-begun side ended session after b =
    ap (λ (f : Flow). direction_of (other_of side) f) b.is
    ∙ other-with side (record (direction_of side ended) {
      framer = (direction_of side after).framer;
      session = session;
      following = None;
    }) ended

rows-begun : (side : Side) (ended : Flow) (session : ℕ) (after : Flow) → Begun side ended session after → after.rows ≡ ended.rows
rows-begun side ended session after b =
    ap (λ (f : Flow). f.rows) b.is
    ∙ rows-with side (record (direction_of side ended) {
      framer = (direction_of side after).framer;
      session = session;
      following = None;
    }) ended

own-begun : (side : Side) (before mid ended : Flow) (session : ℕ) (after : Flow) → IsSettledIn side before mid
    → direction_of side ended ≡ direction_of side mid → Begun side ended session after
    → direction_of side after ≡ record (direction_of side before) {
      framer = (direction_of side after).framer;
      session = session;
      following = None;
    }
own-begun side before mid ended session after s e b =
    let begin : Direction → Direction = λ d. record d { framer = (direction_of side after).framer; session = session; following = None } in
    ap (λ (f : Flow). direction_of side f) b.is ∙ own-with side (begin (direction_of side ended)) ended
    ∙ ap begin e ∙ ap begin s.goes.same

follows-like : (other : Side) (number : ℕ) (before mid : Flow) (signs : Both) (session : ℕ) (ended after : Flow)
    → direction_of other mid ≡ direction_of other before → direction_of other after ≡ direction_of other ended
    → FollowsBehind other number mid signs session ended → FollowsBehind other number before signs session after
follows-like other number before mid signs session ended after e h f =
    let top : (stream_of other mid).extent.top ≡ (stream_of other before).extent.top =
    ap (λ (d : Direction). d.stream.extent.top) e in
    record {
      follows = ap (λ (d : Direction). d.following) h ∙ f.follows
          ∙ ap (λ (n : ℕ). Some (record { session = session; place = noted_before number n (signs_of other signs).tops })) top;
      behind = λ packets w is. ap (λ (n : ℕ). noted_before number n (signs_of other signs).tops) (sym top) ∙ f.behind packets w (top ∙ is);
    }

goes-on-like : (other : Side) (before mid : Flow) (last : ℕ) (ended after : Flow) (session : ℕ)
    → direction_of other mid ≡ direction_of other before → direction_of other after ≡ direction_of other ended
    → GoesOn other mid last ended session → GoesOn other before last after session
goes-on-like other before mid last ended after session e h g = record {
  same = g.same;
  goes = subst (λ (d : Direction). Goes (direction_of other before) d) (sym h)
      (subst (λ (d : Direction). Goes d (direction_of other ended)) e g.goes);
}

pub begins-behind : (side : Side) (number : ℕ) (has_rows still : Bool) (last : ℕ) (before mid : Flow) (signs : Both) (next : ℕ)
    (ended : Flow) (session : ℕ) (after : Flow) → IsSettledIn side before mid
    → IsTrue still ↔ HasOctets has_rows last before.rows mid.rows → Ended side number still last mid signs next ended session
    → Begun side ended session after → (stream_of side before).is_behind_gap ≡ true
    → BeginsWith side number has_rows last before signs next after session
begins-behind side number has_rows still last before mid signs next ended session after s o e b gap =
    let other = other_of side in
    let like = other-settled side before mid s in
    let stays = other-begun side ended session after b in
    let rows = rows-begun side ended session after b in
    record {
      own = own-begun side before mid ended session after s e.own b;
      framed = b.framed;
      behind = λ _. record {
        rows = mid.rows;
        settled = s.all;
        ends = λ h. let r = e.ends (into h) in
            (r.0, follows-like (other_of side) number before mid signs session ended after like stays r.1);
        goes_on = λ no. goes-on-like (other_of side) before mid last ended after session like stays (e.goes_on (λ h. no (out h)));
      };
      within = λ not. absurd (cc);
    }
  where
    into : HasOctets has_rows last before.rows mid.rows ⊎ SomeEndsIn last mid.rows after.rows → HasOctets still last mid.rows ended.rows
    into (inl h) = inl (o.1 h)
    into (inr h) = inr (subst (λ (rs : List Row). SomeEndsIn last mid.rows rs) (rows-begun side ended session after b) h)

    out : HasOctets still last mid.rows ended.rows → HasOctets has_rows last before.rows mid.rows ⊎ SomeEndsIn last mid.rows after.rows
    out (inl h) = inl (o.0 h)
    out (inr h) = inr (subst (λ (rs : List Row). SomeEndsIn last mid.rows rs) (sym (rows-begun side ended session after b)) h)

pub begins-within : (side : Side) (number : ℕ) (has_rows : Bool) (last : ℕ) (before mid : Flow) (signs : Both) (next : ℕ) (after : Flow)
    → IsSettledIn side before mid → Begun side mid last after → (stream_of side before).is_behind_gap ≡ false
    → BeginsWith side number has_rows last before signs next after last
begins-within side number has_rows last before mid signs next after s b gap = record {
  own = own-begun side before mid mid last after s refl b;
  framed = b.framed;
  behind = λ not. absurd (cc);
  within = λ _. (refl, other-begun side mid last after b ∙ other-settled side before mid s);
}

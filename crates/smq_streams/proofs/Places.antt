-- The places of octets that are given, and of those that are held.
use Rattle.std.proofs.Common.{◌≡◌, ℕ, zero, suc, Bool, true, false, ◌+◌, ◌-◌, ◌<◌, ◌≤◌, List, [], ◌∷◌, ◌++◌, length, take, drop, refl, sym, ap, subst, ◌∙◌, append_assoc, append-nil, arith, length-append, length-take}
use Rattle.std.specs.Prelude.{◌^◌, min, Option, Some, None, IfSome, MatchOption}
use Rattle.std.proofs.lemmas.List.{length-map, take-append-drop}
use Rattle.smq_reassembly.specs.declared.packet.Packet.{Packet}
use Rattle.smq_reassembly.specs.Octet.{Octet}
use Rattle.smq_reassembly.specs.Moment.{IsGiven, Start, before_first, given_after, later}
use Rattle.smq_reassembly.specs.Piece.{Piece}
use Rattle.smq_reassembly.specs.State.{Follows, State}
use Rattle.smq_streams.specs.declared.given.Given.{Given}
use Rattle.smq_streams.specs.Direction.{Direction, Gives, Searches}
use Rattle.smq_streams.specs.Search.{Finds, IsSeenAt, Search, Stops, counted, octets_given, place_with, with_given}

pub length-given : (last : Packet) (os : List Octet) → length (given_after last os) ≡ length os
length-given last [] = refl
length-given last (o ∷ os) = ap suc (length-given (later last o.packet) os)

-- what was given and what is held ends at the place of the next octet
pub ends : (pieces : List Piece) (start : Start) (given : List Octet) (s : State) → Follows pieces start given s
    → start.place + length given ≡ s.next
ends pieces start given s f =
    let long : length given ≡ length f.text = ap (λ (os : List Octet). length os) f.moments ∙ length-given (before_first start) f.text in
    omega (arith, long, f.place)

-- no place up to 2^60 is the greatest
exact : (place n : ℕ) → place + n ≤ 2 ^ 60 → counted place n ≡ place + n
exact place zero h = omega arith
exact place (suc n) h = omega (arith, h)

-- octets that come to be held
pub place-more : (start : Start) (given held : List Octet) (place next : ℕ)
    → (0 < length held → place ≡ start.place + length given) → start.place + length (given ++ held) ≡ next
    → place_with next held place ≡ start.place + length given
place-more start given [] place next h e = omega (arith, e, length-append given [])
place-more start given (o ∷ os) place next h e = h (omega arith)

-- octets that are given of those held, or passed over
pub gives-part : (pieces : List Piece) (start : Start) (given octets : List Octet) (n : ℕ) (d after : Direction)
    → after.order ≡ d.order → d.held.octets ≡ octets ++ after.held.octets → n ≡ length octets
    → after.held.place ≡ counted d.held.place n → d.order.next ≤ 2 ^ 60
    → Gives pieces start given d → Gives pieces start (given ++ octets) after
gives-part pieces start given octets n d after order e size place most g =
    let same : given ++ d.held.octets ≡ (given ++ octets) ++ after.held.octets =
    ap (λ (os : List Octet). given ++ os) e ∙ sym (append_assoc given octets after.held.octets) in
    let long : length d.held.octets ≡ length octets + length after.held.octets =
    ap (λ (os : List Octet). length os) e ∙ length-append octets after.held.octets in
    let end : start.place + length (given ++ d.held.octets) ≡ d.order.next = ends pieces start (given ++ d.held.octets) d.order g.follows in
    record {
      follows = subst (λ (s : State). Follows pieces start ((given ++ octets) ++ after.held.octets) s) (sym order)
          (subst (λ (os : List Octet). Follows pieces start os d.order) same g.follows);
      place = λ some.
          let at : d.held.place ≡ start.place + length given = g.place (omega (arith, some, long)) in
          let near : d.held.place + n ≤ 2 ^ 60 = omega (arith, at, end, most, size, long, length-append given d.held.octets) in
          place ∙ exact d.held.place n near ∙ omega (arith, at, size, length-append given octets);
    }

pub matched-none : (r : Option Given) (P : Type 0) (Q : Given → Type 0) → r ≡ None → MatchOption r P Q → P
matched-none None P Q e h = h
matched-none (Some x) P Q e h = absurd (cc)

-- the next octets are given where none are held
pub in-order : (pieces : List Piece) (start : Start) (given : List Octet) (d after : Direction) (result : Option Given)
    → d.held.octets ≡ [] → after.held ≡ d.held → Gives pieces start given d
    → IfSome result (λ part. part.place ≡ d.order.next)
    → IfSome result (λ part. Gives pieces start given (record after { held = with_given part d.held }))
    → IfSome result (λ part. (part.place ≡ start.place + length given) × Gives pieces start (given ++ octets_given part) after)
in-order pieces start given d after None none same g place gives = place
in-order pieces start given d after (Some part) none same g place gives =
    let gone : after.held.octets ≡ [] = ap (λ (s : Search). s.octets) same ∙ none in
    let none_held : length d.held.octets ≡ 0 = ap (λ (os : List Octet). length os) none in
    let at : part.place ≡ start.place + length given =
    omega (arith, place, none_held, ends pieces start (given ++ d.held.octets) d.order g.follows, length-append given d.held.octets) in
    let octets : given ++ (d.held.octets ++ octets_given part) ≡ (given ++ octets_given part) ++ after.held.octets =
    ap (λ (os : List Octet). given ++ (os ++ octets_given part)) none
    ∙ sym (append-nil (given ++ octets_given part))
    ∙ ap (λ (os : List Octet). (given ++ octets_given part) ++ os) (sym gone) in (
      at,
      record {
        follows = subst (λ (os : List Octet). Follows pieces start os after.order) octets gives.follows;
        place = λ some. absurd (omega (arith, some, ap (λ (os : List Octet). length os) gone));
      },
    )

-- where a PDU is seen to begin there is an octet
seen-some : (os : List Octet) → IsSeenAt os 0 → 0 < length os
seen-some os s = omega (arith, s.header.whole, length-map os (λ (o : Octet). o.value))

found-some : (is_end found : Bool) (os : List Octet) → found ≡ true → Stops is_end os found → 0 < length os
found-some is_end true os e s = seen-some os s
found-some is_end false os e s = absurd (cc)

pub searches : (is_end found : Bool) (pieces : List Piece) (start : Start) (given : List Octet) (before d after : Direction)
    → after.order ≡ d.order → d.held.passed ≡ before.held.passed → d.order.next ≤ 2 ^ 60 → Gives pieces start given d
    → IsGiven pieces start (given ++ d.held.octets) → Finds is_end d.held after.held found
    → Searches is_end pieces start given before after found
searches is_end found pieces start given before d after order passed most g whole f =
    let left : after.held.octets ≡ drop f.count d.held.octets = ap (λ (s : Search). s.octets) f.after_is in
    let size : length (take f.count d.held.octets) ≡ f.count = omega (arith, length-take f.count d.held.octets, f.passed.within) in
    let all : d.held.octets ≡ take f.count d.held.octets ++ after.held.octets =
    sym (take-append-drop f.count d.held.octets) ∙ ap (λ (os : List Octet). take f.count d.held.octets ++ os) (sym left) in
    let gives = gives-part pieces start given (take f.count d.held.octets) f.count d after order all (sym size)
    (ap (λ (s : Search). s.place) f.after_is) most g in
    record {
      held = d.held.octets;
      count = f.count;
      whole = whole;
      passed = f.passed;
      left = left;
      gives = gives;
      stops = f.stops;
      place = λ e.
          gives.place (found-some is_end found after.held.octets e f.stops)
          ∙ omega (arith, size, length-append given (take f.count d.held.octets));
      counts = ap (λ (s : Search). s.passed) f.after_is ∙ ap (λ (n : ℕ). counted n f.count) passed;
    }

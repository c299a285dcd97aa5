-- The stream of a direction, as its segments come.
use Rattle.std.proofs.Common.{◌≡◌, ℕ, ◌+◌, ◌-◌, ◌<◌, ◌≤◌, inl, inr, List, [], ◌∷◌, ◌++◌, length, take, drop, refl, sym, ap, ◌∙◌, arith, true, false, max}
use Rattle.std.specs.Prelude.{slice_get, Option, Some, None, Result, Ok, Err, IfOk}
use Rattle.std.specs.Option.{option_or}
use Rattle.std.proofs.lemmas.Bool.{cases_lt, lt-ltb, le-ltb}
use Rattle.std.proofs.lemmas.List.{length-append, length-take-le, length-drop}
use Rattle.std.proofs.lemmas.Option.{none-some, slice_get_past}
use Rattle.smq_reassembly.specs.declared.packet.Packet.{Packet}
use Rattle.smq_reassembly.specs.Octet.{Octet, octets_of}
use Rattle.smq_reassembly.specs.Piece.{Piece, octet_in, first_octet}
use Rattle.smq_reassembly.specs.Stream.{IsStream, IsOneStream}
use Rattle.smq_reassembly.specs.Moment.{Start, IsGiven, later, given_after, last_after, before_first}
use Rattle.smq_reassembly.specs.State.{State, Follows}
use Rattle.smq_reassembly.specs.Segment.{came}
use Rattle.smq_reassembly.specs.declared.reassembly.Taken.{Taken}
use Rattle.smq_reassembly.specs.declared.reassembly.Taken.TheVariants.{Lends, Waits, Repeats, TooFarAhead}
use Rattle.smq_reassembly.proofs.Lists.{got, get-left, get-right, get-take, get-drop, same_gets, length-octets, octets-take, octets-drop}
use Rattle.smq_reassembly.proofs.Pieces.{first-push, or-some, octet-is, octet-within, octet-after}

-- ---- one stream

not-longer : (pieces : List Piece) (start : ℕ) (a b : List Octet) → IsStream pieces start a → IsStream pieces start b → length b ≤ length a
not-longer pieces start a b p q =
    elim (cases_lt (length a) (length b)) [
      | inl less ↦ let g = got b (length a) less in absurd (none-some g.0 (sym p.ends ∙ sym (q.each (length a) less) ∙ g.1))
      | inr le ↦ le
    ]

pub one : (pieces : List Piece) (start : ℕ) (a b : List Octet) → IsOneStream pieces start a b
one pieces start a b p q =
    let h = not-longer pieces start a b p q in
    let k = not-longer pieces start b a q p in
    same_gets a b
    (λ i. elim (cases_lt i (length a)) [
      | inl less ↦ let other : i < length b = omega arith in p.each i less ∙ sym (q.each i other)
      | inr past ↦ let other : length b ≤ i = omega arith in slice_get_past a i past ∙ sym (slice_get_past b i other)
    ])

-- ---- moments

pub given-append : (last : Packet) (xs ys : List Octet) → given_after last (xs ++ ys) ≡ given_after last xs ++ given_after (last_after last xs) ys
given-append last [] ys = refl
given-append last (o ∷ os) ys =
    ap (λ (t : List Octet). (record o { packet = later last o.packet }) ∷ t) (given-append (later last o.packet) os ys)

pub last-append : (last : Packet) (xs ys : List Octet) → last_after last (xs ++ ys) ≡ last_after (last_after last xs) ys
last-append last [] ys = refl
last-append last (o ∷ os) ys = last-append (later last o.packet) os ys

max-twice : (a b : ℕ) → max (max a b) b ≡ max a b
max-twice a b = omega arith

later-twice : (last p : Packet) → later (later last p) p ≡ later last p
later-twice last p =
    elim (cases_lt p.number last.number) [
      | inl h ↦
          let is : later last p ≡ last = rw (lt-ltb p.number last.number h) refl in
          rw (is, is) refl
      | inr h ↦
          let here : p.number ≤ p.number = omega arith in
          let is : later last p ≡ (record { number = p.number; moment = max last.moment p.moment }) =
          rw (le-ltb p.number last.number h) refl in
          rw (is, le-ltb p.number p.number here, max-twice last.moment p.moment) refl
    ]

-- octets of one packet are given with one packet
pub given-octets : (last p : Packet) (b : _) (vs : List ℕ) → given_after last (octets_of p b vs) ≡ octets_of (later last p) b vs
given-octets last p b [] = refl
given-octets last p b (v ∷ vs) =
    ap (λ (t : List Octet). (record { value = v; packet = later last p; begins = b }) ∷ t)
    (given-octets (later last p) p false vs ∙ ap (λ (l : Packet). octets_of l false vs) (later-twice last p))

pub last-octets-more : (last p : Packet) (vs : List ℕ) → last_after (later last p) (octets_of p false vs) ≡ later last p
last-octets-more last p [] = refl
last-octets-more last p (v ∷ vs) =
    ap (λ (l : Packet). last_after l (octets_of p false vs)) (later-twice last p) ∙ last-octets-more last p vs

pub last-octets : (last p : Packet) (b : _) (vs : List ℕ) → 0 < length vs → last_after last (octets_of p b vs) ≡ later last p
last-octets last p b [] h = absurd (omega arith)
last-octets last p b (v ∷ vs) h = last-octets-more last p vs

-- ---- a direction

-- nothing follows
pub ended : (pieces : List Piece) (start : Start) (given : List Octet) (s : State) → Follows pieces start given s
    → first_octet s.waiting s.next ≡ None → IsGiven pieces start given
ended pieces start given s f none = record {
  text = f.text;
  stream = record {
    each = f.each;
    ends = ap (first_octet pieces) f.place ∙ sym (f.waits s.next (omega arith)) ∙ none;
  };
  moments = f.moments;
}

-- octets of a packet are given
pub gives : (pieces more : List Piece) (start : Start) (given : List Octet) (s t : State) (p : Packet) (b : _) (vs : List ℕ)
    → Follows pieces start given s → 0 < length vs → t.next ≡ s.next + length vs → t.last ≡ later s.last p
    → ((n : ℕ) (o : Octet) → first_octet pieces n ≡ Some o → first_octet more n ≡ Some o)
    → ((n : ℕ) → s.next ≤ n → n < t.next → first_octet more n ≡ slice_get (octets_of p b vs) (n - s.next))
    → ((n : ℕ) → t.next ≤ n → first_octet t.waiting n ≡ first_octet more n)
    → Follows more start (given ++ octets_of (later s.last p) b vs) t
gives pieces more start given s t p b vs f some next last keeps front waits =
    let first : Packet = before_first start in
    let size : length (octets_of p b vs) ≡ length vs = length-octets p b vs in
    let end : start.place + length (f.text ++ octets_of p b vs) ≡ t.next =
    omega (arith, length-append f.text (octets_of p b vs), size, f.place, next) in
    record {
      text = f.text ++ octets_of p b vs;
      place = end;
      each = λ n h. elim (cases_lt n (length f.text)) [
        | inl before ↦
            let g = got f.text n before in
            get-left f.text (octets_of p b vs) n before ∙ g.1
            ∙ sym (keeps (start.place + n) g.0 (sym (f.each n before) ∙ g.1))
        | inr after ↦
            let low : s.next ≤ start.place + n = omega (arith, f.place) in
            let high : start.place + n < t.next = omega arith in
            let same : n - length f.text ≡ start.place + n - s.next = omega (arith, f.place) in
            get-right f.text (octets_of p b vs) n after ∙ ap (λ (k : ℕ). slice_get (octets_of p b vs) k) same
            ∙ sym (front (start.place + n) low high)
      ];
      moments =
          ap (λ (g : List Octet). g ++ octets_of (later s.last p) b vs) f.moments
          ∙ ap (λ (g : List Octet). given_after first f.text ++ g)
          (ap (λ (l : Packet). octets_of (later l p) b vs) f.last ∙ sym (given-octets (last_after first f.text) p b vs))
          ∙ sym (given-append first f.text (octets_of p b vs));
      last =
          last ∙ ap (λ (l : Packet). later l p) f.last ∙ sym (last-octets (last_after first f.text) p b vs some)
          ∙ sym (last-append first f.text (octets_of p b vs));
      waits = waits;
    }

-- pieces come that change nothing of what was given
pub comes : (pieces more : List Piece) (start : Start) (given : List Octet) (s t : State) → Follows pieces start given s
    → t.next ≡ s.next → t.last ≡ s.last
    → ((n : ℕ) (o : Octet) → first_octet pieces n ≡ Some o → first_octet more n ≡ Some o)
    → ((n : ℕ) → s.next ≤ n → first_octet t.waiting n ≡ first_octet more n)
    → Follows more start given t
comes pieces more start given s t f next last keeps waits = record {
  text = f.text;
  place = f.place ∙ sym next;
  each = λ n h.
      let g = got f.text n h in g.1 ∙ sym (keeps (start.place + n) g.0 (sym (f.each n h) ∙ g.1));
  moments = f.moments;
  last = last ∙ f.last;
  waits = λ n h. waits n (omega (arith, next));
}

-- a piece that comes keeps the first copies
pub push-keeps : (pieces : List Piece) (q : Piece) (n : ℕ) (o : Octet) → first_octet pieces n ≡ Some o
    → first_octet (pieces ++ q ∷ []) n ≡ Some o
push-keeps pieces q n o h = first-push pieces q n ∙ or-some (first_octet pieces n) (octet_in q n) o h

-- the first piece that waits is given
pub gives-part : (pieces : List Piece) (start : Start) (given : List Octet) (s t : State) (piece : Piece) (p : Packet) (b : _) (vs : List ℕ)
    → Follows pieces start given s → s.waiting ≡ piece ∷ t.waiting → piece ≡ (record { at = s.next; octets = octets_of p b vs }) → 0 < length vs
    → t.next ≡ s.next + length vs → t.last ≡ later s.last p
    → Follows pieces start (given ++ octets_of (later s.last p) b vs) t
gives-part pieces start given s t piece p b vs f is same some next last =
    let size : length (octets_of p b vs) ≡ length vs = length-octets p b vs in
    let whole : Piece = record { at = s.next; octets = octets_of p b vs } in
    let waits : s.waiting ≡ whole ∷ t.waiting = is ∙ ap (λ (q : Piece). q ∷ t.waiting) same in
    let first : (n : ℕ) → s.next ≤ n → option_or (octet_in whole n) (first_octet t.waiting n) ≡ first_octet pieces n =
    λ n low. ap (λ (ps : List Piece). first_octet ps n) (sym waits) ∙ f.waits n low in
    gives pieces pieces start given s t p b vs f some next last (λ n o h. h)
    (λ n low high.
    let o = octet-within whole n low (omega (arith, size, next)) in
    sym (first n low) ∙ or-some (octet_in whole n) (first_octet t.waiting n) o.0 o.1 ∙ sym o.1 ∙ octet-is whole n low)
    (λ n low.
    ap (λ (o : Option Octet). option_or o (first_octet t.waiting n)) (sym (octet-after whole n (omega (arith, size, next))))
    ∙ first n (omega (arith, next)))

-- a piece gives so many of its octets, and those behind them are kept
pub gives-front : (pieces : List Piece) (piece : Piece) (start : Start) (given : List Octet) (s t : State) (p : Packet) (b : _) (vs : List ℕ) (k : ℕ)
    → ((n : ℕ) → s.next ≤ n → octet_in piece n ≡ octet_in (record { at = s.next; octets = octets_of p b vs }) n)
    → Follows pieces start given s → 0 < k → k ≤ length vs
    → ((n : ℕ) → s.next ≤ n → n < s.next + k → first_octet s.waiting n ≡ None)
    → t.next ≡ s.next + k → t.last ≡ later s.last p
    → ((n : ℕ) → first_octet t.waiting n
    ≡ option_or (first_octet s.waiting n) (octet_in (record { at = s.next + k; octets = octets_of p false (drop k vs) }) n))
    → Follows (pieces ++ piece ∷ []) start (given ++ octets_of (later s.last p) b (take k vs)) t
gives-front pieces piece start given s t p b vs k same f some whole none next last waits =
    let size : length (take k vs) ≡ k = length-take-le k vs whole in
    let at_next : Piece = record { at = s.next; octets = octets_of p b vs } in
    let behind : Piece = record { at = s.next + k; octets = octets_of p false (drop k vs) } in
    gives pieces (pieces ++ piece ∷ []) start given s t p b (take k vs) f (omega (arith, size)) (omega (arith, size, next)) last
    (push-keeps pieces piece)
    (λ n low high.
    let less : n < s.next + k = omega (arith, next) in
    let within : n - s.next < k = omega arith in
    first-push pieces piece n
    ∙ ap (λ (o : Option Octet). option_or o (octet_in piece n)) (sym (f.waits n low) ∙ none n low less)
    ∙ same n low ∙ octet-is at_next n low
    ∙ sym (ap (λ (os : List Octet). slice_get os (n - s.next)) (octets-take p b k vs) ∙ get-take k (octets_of p b vs) (n - s.next) within))
    (λ n low.
    let here : s.next ≤ n = omega (arith, next) in
    let from : s.next + k ≤ n = omega (arith, next) in
    let sum : k + (n - (s.next + k)) ≡ n - s.next = omega arith in
    let tail : octet_in behind n ≡ octet_in at_next n =
    octet-is behind n from ∙ ap (λ (os : List Octet). slice_get os (n - (s.next + k))) (octets-drop p b k vs some)
    ∙ get-drop k (octets_of p b vs) (n - (s.next + k)) ∙ ap (λ (j : ℕ). slice_get (octets_of p b vs) j) sum
    ∙ sym (octet-is at_next n here) in
    waits n
    ∙ ap (λ (o : Option Octet). option_or (first_octet s.waiting n) o) (tail ∙ sym (same n here))
    ∙ ap (λ (o : Option Octet). option_or o (octet_in piece n)) (f.waits n here)
    ∙ sym (first-push pieces piece n))

-- a piece waits
pub waits-whole : (pieces : List Piece) (piece whole : Piece) (start : Start) (given : List Octet) (s t : State)
    → ((n : ℕ) → s.next ≤ n → octet_in piece n ≡ octet_in whole n)
    → Follows pieces start given s → t.next ≡ s.next → t.last ≡ s.last
    → ((n : ℕ) → first_octet t.waiting n ≡ option_or (first_octet s.waiting n) (octet_in whole n))
    → Follows (pieces ++ piece ∷ []) start given t
waits-whole pieces piece whole start given s t same f next last waits =
    comes pieces (pieces ++ piece ∷ []) start given s t f next last (push-keeps pieces piece)
    (λ n low.
    waits n
    ∙ ap (λ (o : Option Octet). option_or (first_octet s.waiting n) o) (sym (same n low))
    ∙ ap (λ (o : Option Octet). option_or o (octet_in piece n)) (f.waits n low)
    ∙ sym (first-push pieces piece n))

-- a stream begins anew
pub begins-anew : (pieces : List Piece) (start : Start) (given : List Octet) (s : State) (place : ℕ) → Follows pieces start given s → s.next ≤ place
    → Follows pieces (record { place = place; moment = s.last.moment }) []
    (record { next = place; last = record { number = 0; moment = s.last.moment }; waiting = s.waiting })
begins-anew pieces start given s place f low = record {
  text = [];
  place = omega arith;
  each = λ n h. absurd (omega arith);
  moments = refl;
  last = refl;
  waits = λ n h. f.waits n (omega arith);
}

-- ---- a segment

-- of octets that begin before the next one those from there on count
pub behind-same : (next far : ℕ) (p : Packet) (vs : List ℕ) (n : ℕ) → 0 < far → next ≤ n
    → octet_in (record { at = next - far; octets = drop (far - next) (octets_of p true vs) }) n
    ≡ octet_in (record { at = next; octets = octets_of p false (drop far vs) }) n
behind-same next far p vs n some low =
    let here : next - far ≤ n = omega arith in
    let index : (far - next) + (n - (next - far)) ≡ far + (n - next) = omega arith in
    octet-is (record { at = next - far; octets = drop (far - next) (octets_of p true vs) }) n here
    ∙ get-drop (far - next) (octets_of p true vs) (n - (next - far))
    ∙ ap (λ (i : ℕ). slice_get (octets_of p true vs) i) index
    ∙ sym (octet-is (record { at = next; octets = octets_of p false (drop far vs) }) n low
    ∙ ap (λ (os : List Octet). slice_get os (n - next)) (octets-drop p true far vs some)
    ∙ get-drop far (octets_of p true vs) (n - next))

-- and they end where it ends
pub behind-end : (next far : ℕ) (p : Packet) (vs : List ℕ)
    → next + length (drop far vs) ≡ max next ((next - far) + length (drop (far - next) (octets_of p true vs)))
behind-end next far p vs = simp (length-drop, length-octets) (omega arith)

pub came-is : (taken : Taken) (pieces : List Piece) (piece : Piece) → (taken ≡ TooFarAhead → ⊥) → pieces ++ piece ∷ [] ≡ came taken pieces piece
came-is (Lends next) pieces piece h = refl
came-is Waits pieces piece h = refl
came-is Repeats pieces piece h = refl
came-is TooFarAhead pieces piece h = absurd (h refl)

pub both_ok : {T E : Type 0} (r : Result T E) {P Q R : T → Type 0} → IfOk r P → IfOk r Q → ((x : T) → P x → Q x → R x) → IfOk r R
both_ok (Ok x) p q f = f x p q
both_ok (Err e) p q f = tt

-- What is given of a direction, and what is held of it.
use Rattle.std.proofs.Common.{◌≡◌, ℕ, ◌<◌, List, [], ◌∷◌, ◌++◌, length, take, drop, refl, sym, ap, subst, ◌∙◌, append_assoc, append-nil, arith}
use Rattle.std.specs.Prelude.{Option, Some, None}
use Rattle.std.specs.Option.{option_or}
use Rattle.std.proofs.lemmas.List.{take-append-drop}
use Rattle.smq_reassembly.specs.Octet.{Octet}
use Rattle.smq_reassembly.specs.Moment.{Start}
use Rattle.smq_reassembly.specs.Piece.{Piece, first_octet, octet_in}
use Rattle.smq_reassembly.specs.declared.packet.Packet.{Packet}
use Rattle.smq_reassembly.specs.declared.reassembly.Next.{Next}
use Rattle.smq_reassembly.specs.declared.sequence.Place.{Place}
use Rattle.smq_reassembly.specs.declared.sequence.Place.TheVariants.{Ahead}
use Rattle.smq_reassembly.proofs.Pieces.{first-push, octet-within}
use Rattle.smq_reassembly.specs.State.{Follows, State}
use Rattle.smq_reassembly.specs.declared.reassembly.Taken.{Taken}
use Rattle.smq_reassembly.specs.declared.reassembly.Taken.TheVariants.{Lends, Waits, Repeats, TooFarAhead}
use Rattle.smq_reassembly.specs.Segment.{Changes, came, octets_given, piece_of}
use Rattle.smq_streams.specs.Direction.{Direction}

-- octets that are lent where none are held
pub lends : (pieces : List Piece) (start : Start) (given held octets : List Octet) (s : State) → held ≡ []
    → Follows pieces start ((given ++ held) ++ octets) s → Follows pieces start ((given ++ octets) ++ held) s
lends pieces start given held octets s e f =
    let same : (given ++ held) ++ octets ≡ (given ++ octets) ++ held =
    ap (λ (h : List Octet). (given ++ h) ++ octets) e
    ∙ ap (λ (g : List Octet). g ++ octets) (append-nil given)
    ∙ sym (append-nil (given ++ octets))
    ∙ ap (λ (h : List Octet). (given ++ octets) ++ h) (sym e) in
    subst (λ (o : List Octet). Follows pieces start o s) same f

-- of octets that are held some are let go
pub splits : (pieces : List Piece) (start : Start) (given held : List Octet) (n : ℕ) (s : State)
    → Follows pieces start (given ++ held) s → Follows pieces start ((given ++ take n held) ++ drop n held) s
splits pieces start given held n s f =
    let same : given ++ held ≡ (given ++ take n held) ++ drop n held =
    ap (λ (o : List Octet). given ++ o) (sym (take-append-drop n held)) ∙ sym (append_assoc given (take n held) (drop n held)) in
    subst (λ (o : List Octet). Follows pieces start o s) same f

-- a segment that isn't too far ahead is one of the pieces that came
comes : (t : Taken) (pieces : List Piece) (piece : Piece) → (t ≡ TooFarAhead → ⊥) → came t pieces piece ≡ pieces ++ piece ∷ []
comes (Lends next) pieces piece near = refl
comes Waits pieces piece near = refl
comes Repeats pieces piece near = refl
comes TooFarAhead pieces piece near = absurd (near refl)

-- what a segment gives at once is held behind what was
pub took : (t : Taken) (pieces : List Piece) (piece : Piece) (start : Start) (given held after : List Octet) (s next : State)
    → (t ≡ TooFarAhead → ⊥) → after ≡ held ++ octets_given t → next ≡ s
    → Follows (came t pieces piece) start ((given ++ held) ++ octets_given t) s → Follows (pieces ++ piece ∷ []) start (given ++ after) next
took t pieces piece start given held after s next near e n f =
    let same : (given ++ held) ++ octets_given t ≡ given ++ after =
    append_assoc given held (octets_given t) ∙ ap (λ (o : List Octet). given ++ o) (sym e) in
    let g = subst (λ (ps : List Piece). Follows ps start ((given ++ held) ++ octets_given t) s) (comes t pieces piece near) f in
    let h = subst (λ (o : List Octet). Follows (pieces ++ piece ∷ []) start o s) same g in
    subst (λ (x : State). Follows (pieces ++ piece ∷ []) start (given ++ after) x) (sym n) h

-- a segment that is lent is given
pub took_lent : (t : Taken) (pieces : List Piece) (piece : Piece) (start : Start) (given held : List Octet) (s : State)
    → (t ≡ TooFarAhead → ⊥) → held ≡ []
    → Follows (came t pieces piece) start ((given ++ held) ++ octets_given t) s → Follows (pieces ++ piece ∷ []) start ((given ++ octets_given t) ++ held) s
took_lent t pieces piece start given held s near e f =
    lends (pieces ++ piece ∷ []) start given held (octets_given t) s e
    (subst (λ (ps : List Piece). Follows ps start ((given ++ held) ++ octets_given t) s) (comes t pieces piece near) f)

-- of a direction that only grew some octets came to be held
pub grows : (a b c d : Direction) → b ≡ record a { order = b.order; held = b.held } → c ≡ record b { order = c.order }
    → d ≡ record c { held = d.held } → d ≡ record a { order = d.order; held = d.held }
grows a b c d p q r =
    r
    ∙ ap (λ (x : Direction). record x { held = d.held }) q
    ∙ ap (λ (x : Direction). record x { order = c.order; held = d.held }) p
    ∙ ap (λ (o : State). record a { order = o; held = d.held }) (sym (ap (λ (x : Direction). x.order) r))

second_none : (a b : Option Octet) → option_or a b ≡ None → b ≡ None
second_none None b e = e
second_none (Some o) b e = absurd (cc)

-- a segment at the next place has an octet there
pub has_next : (place : Place) (next : ℕ) (packet : Packet) (octets : List ℕ) → place ≡ Ahead 0 → 0 < length octets
    → octet_in (piece_of place next packet octets) next ≡ None → ⊥
has_next place next packet [] is some e = absurd (omega arith)
has_next place next packet (o ∷ os) is some e =
    let at = subst (λ (p : Place). octet_in (piece_of p next packet (o ∷ os)) next ≡ None) is e in
    let h = octet-within (piece_of (Ahead 0) next packet (o ∷ os)) next (omega arith) (omega arith) in
    let s = h.1 in absurd (cc)

unseen : (pieces : List Piece) (piece : Piece) (start : Start) (given : List Octet) (s after : State) → s.waiting ≡ [] → after.next ≡ s.next
    → first_octet after.waiting after.next ≡ first_octet s.waiting after.next
    → Follows (pieces ++ piece ∷ []) start given after → octet_in piece s.next ≡ None
unseen pieces piece start given s after closed next same f =
    let none : first_octet s.waiting after.next ≡ None = ap (λ (ps : List Piece). first_octet ps after.next) closed in
    let came : first_octet (pieces ++ piece ∷ []) after.next ≡ None = sym (f.waits after.next (omega arith)) ∙ same ∙ none in
    subst (λ (n : ℕ). octet_in piece n ≡ None) next (second_none _ _ (sym (first-push pieces piece after.next) ∙ came))

-- where nothing waits, what isn't lent has no octet at the next place, or is too far ahead
pub unlent : (t : Taken) (pieces : List Piece) (piece : Piece) (start : Start) (given : List Octet) (s after : State)
    → ((next : Next) → t ≡ Lends next → ⊥) → s.waiting ≡ [] → Changes t s after
    → first_octet after.waiting after.next ≡ first_octet s.waiting after.next
    → Follows (came t pieces piece) start given after → (octet_in piece s.next ≡ None → ⊥) → (t ≡ TooFarAhead) × (after ≡ s)
unlent (Lends next) pieces piece start given s after not closed changes same f some = absurd (not next refl)
unlent Waits pieces piece start given s after not closed changes same f some = absurd (some (unseen pieces piece start given s after closed changes.0 same f))
unlent Repeats pieces piece start given s after not closed changes same f some =
    absurd (some (unseen pieces piece start given s after closed (ap (λ (x : State). x.next) changes) same f))
unlent TooFarAhead pieces piece start given s after not closed changes same f some = (refl, changes)

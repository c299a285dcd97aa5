-- A direction that grows by a piece.
use Rattle.std.proofs.Common.{◌≡◌, ℕ, ◌+◌, ◌-◌, ◌<◌, ◌≤◌, ◌^◌, Bool, true, false, cond, Some, None, List, [], ◌∷◌, ◌++◌, length, refl, ap, sym, ◌∙◌, arith, zero-add}
use Rattle.std.specs.Prelude.{map}
use Rattle.std.proofs.lemmas.List.{append-nil, map-append, length-append, length-map}
use Rattle.std.proofs.lemmas.List.Concat.{flat_map-append}
use Rattle.smq_frame.specs.Frame.{FrameValue}
use Rattle.smq_frame.specs.Framing.{is_bad, rest_of}
use Rattle.smq_frame.specs.Stream.{Octet, values, handed_in, stream_frames, frames_after}
use Rattle.smq_frame.specs.Tail.{TailValue, tail_from, tail_of, tail_after}
use Rattle.smq_frame.proofs.Streams.{stream_grows, stamp_there, stream_frames-nil}
use Rattle.smq_pdu.specs.Placed.{PlacedPdu, placed_pdu}
use Rattle.smq_present.specs.declared.present.kept.StoredPdu.{StoredPdu}
use Rattle.smq_present.specs.declared.present.session.Piece.{Piece}
use Rattle.smq_present.specs.present.Kept.{kept_pdu, kept_pdus}
use Rattle.smq_present.specs.present.Stream.{stream_of, last_moment, Keeps}

-- what is kept of frames
abbrev pub kept_frames : List FrameValue → List StoredPdu
kept_frames frames = map kept_pdu (map placed_pdu frames)

kept_frames-append : (fs gs : List FrameValue) → kept_frames (fs ++ gs) ≡ kept_frames fs ++ kept_frames gs
kept_frames-append fs gs = ap (λ (ps : List PlacedPdu). map kept_pdu ps) (map-append placed_pdu fs gs)
    ∙ map-append kept_pdu (map placed_pdu fs) (map placed_pdu gs)

pub stream_of-push : (pieces : List Piece) (p : Piece) → stream_of (pieces ++ p ∷ []) ≡ stream_of pieces ++ handed_in p.moment p.octets
stream_of-push pieces p = flat_map-append (λ (q : Piece). handed_in q.moment q.octets) pieces (p ∷ [])
    ∙ ap (λ (t : List Octet). stream_of pieces ++ t) (append-nil (handed_in p.moment p.octets))

pub tail-grown : (s : List Octet) (m : ℕ) (octets : List ℕ) → tail_of (values (s ++ handed_in m octets)) ≡ tail_after (tail_of (values s)) octets
tail-grown s m octets = let g = stream_grows s m octets in g.tail

pub pdus-grown : (s : List Octet) (m : ℕ) (octets : List ℕ) → kept_pdus (s ++ handed_in m octets) ≡ kept_pdus s
    ++ kept_frames (frames_after (tail_of (values s)) m octets)
pdus-grown s m octets = let g = stream_grows s m octets in ap kept_frames g.frames
    ∙ kept_frames-append (stream_frames s) (frames_after (tail_of (values s)) m octets)

pub kept_pdus-nil : kept_pdus [] ≡ []
kept_pdus-nil = ap kept_frames stream_frames-nil

pub last_moment-nil : last_moment [] ≡ 0
unfolding last_moment
last_moment-nil = refl

pub last_moment-grown : (s : List Octet) (m : ℕ) (octets : List ℕ) → 0 < length octets → last_moment (s ++ handed_in m octets) ≡ m
unfolding last_moment
last_moment-grown s m octets some =
    let len : length (s ++ handed_in m octets) ≡ length s + length octets = length-append s (handed_in m octets)
    ∙ ap (λ (n : ℕ). length s + n) (length-map octets _) in
    rw len (stamp_there s m octets (length s + length octets - 1) (omega arith) (omega arith))

length-handed_in : (m : ℕ) (octets : List ℕ) → length (handed_in m octets) ≡ length octets
length-handed_in m octets = length-map octets _

-- what is kept of a direction after one more piece
pub keeps-grown : (pieces : List Piece) (now : List Octet) (moment : ℕ) (octets : List ℕ) (tail next : TailValue) (kept added : List StoredPdu) (last : ℕ)
    → Keeps (stream_of pieces) tail kept last → stream_of pieces ≡ now → added ≡ kept_frames (frames_after (tail_of (values now)) moment octets)
    → next ≡ tail_after (tail_of (values now)) octets → length now + length octets ≤ 2 ^ 48 → 0 < length octets
    → Keeps (stream_of (pieces ++ record { moment = moment; octets = octets } ∷ [])) next (kept ++ added) moment
keeps-grown pieces now moment octets tail next kept added last keeps seen pdus follows room some =
    let old : List Octet = stream_of pieces in
    let frames : added ≡ kept_frames (frames_after (tail_of (values old)) moment octets) = pdus
    ∙ ap (λ (s : List Octet). kept_frames (frames_after (tail_of (values s)) moment octets)) (sym seen) in
    rw (stream_of-push pieces (record { moment = moment; octets = octets })) (record {
      tail_is = follows ∙ ap (λ (s : List Octet). tail_after (tail_of (values s)) octets) (sym seen) ∙ sym (tail-grown old moment octets);
      pdus_are = (λ i. keeps.pdus_are i ++ frames i) ∙ sym (pdus-grown old moment octets);
      last_is = sym (last_moment-grown old moment octets some);
      in_limit = omega (arith, room, length-append old (handed_in moment octets), length-handed_in moment octets, ap length seen);
    })

-- the same of a piece whose parts are copied
pub keeps-copied : (pieces : List Piece) (now : List Octet) (moment : ℕ) (octets their_octets : List ℕ) (tail next their_next : TailValue)
    (kept added their_pdus : List StoredPdu) (last : ℕ)
    → octets ≡ their_octets → next ≡ their_next → added ≡ their_pdus
    → Keeps (stream_of pieces) tail kept last → stream_of pieces ≡ now → their_pdus ≡ kept_frames (frames_after (tail_of (values now)) moment their_octets)
    → their_next ≡ tail_after (tail_of (values now)) their_octets → length now + length their_octets ≤ 2 ^ 48 → 0 < length their_octets
    → Keeps (stream_of (pieces ++ record { moment = moment; octets = octets } ∷ [])) next (kept ++ added) moment
keeps-copied pieces now moment octets their_octets tail next their_next kept added their_pdus last o n a keeps seen pdus follows room some =
    rw (o, n, a) (keeps-grown pieces now moment their_octets tail their_next kept their_pdus last keeps seen pdus follows room some)

-- ---- the offset of a tail is the number of octets

tail_at : ℕ → List ℕ → Bool → TailValue
tail_at n r b = cond b (record { offset = n; rest = []; broken = Some (n - length r) }) (record { offset = n; rest = r; broken = None })

tail_at-offset : (n : ℕ) (r : List ℕ) (b : Bool) → (tail_at n r b).offset ≡ n
unfolding tail_at
tail_at-offset n r true = refl
tail_at-offset n r false = refl

pub tail_of-offset : (s : List Octet) → (tail_of (values s)).offset ≡ length s
unfolding tail_from tail_at
tail_of-offset s = tail_at-offset (0 + length (values s)) (rest_of (values s)) (is_bad (rest_of (values s)))
    ∙ zero-add (length (values s)) ∙ length-map s _

pub ruleset offset_facts = (tail_of-offset)

-- The rows of PDUs one after the other.
use Rattle.std.proofs.Common.{◌≡◌, ℕ, ◌+◌, ◌<◌, Bool, cond, eq-eqb, ne_eqb, List, [], ◌∷◌, ◌++◌, length, take, drop, get_or, refl, sym, ap, ◌∙◌, arith, append-nil, length-append, length-take-le, drop-drop, le_of_lt}
use Rattle.std.specs.Prelude.{flat_map, map, zip}
use Rattle.std.proofs.lemmas.List.{take_more}
use Rattle.std.proofs.lemmas.List.Concat.{flat_map-append}
use Rattle.smq_frame.specs.Frame.{FrameValue}
use Rattle.smq_frame.specs.Stream.{Octet, frames_after, stream_frames, values}
use Rattle.smq_frame.specs.Tail.{TailValue, tail_after, tail_of}
use Rattle.smq_frame.proofs.Streams.{stream_grows}
use Rattle.smq_present.specs.declared.present.session.Piece.{Piece}
use Rattle.smq_present.specs.declared.present.session.Session.{Session}
use Rattle.smq_present.specs.present.Stream.{stream_of}
use Rattle.smq_deal.specs.Texts.{both, direction_rows, pdu_row, pdu_rows, row_of, rows_of}
use Rattle.smq_deal.specs.declared.direction_rows.Origin.{Origin}
use Rattle.smq_deal.proofs.Cuts.{stream-more}

-- two lists one after the other beside another list
pub zip-both : {X Y : Type 0} (xs zs : List X) (ys : List Y) → zip (xs ++ zs) ys ≡ zip xs ys ++ zip zs (drop (length xs) ys)
zip-both [] zs ys = refl
zip-both (x ∷ xs) [] [] = refl
zip-both (x ∷ xs) (z ∷ zs) [] = refl
zip-both (x ∷ xs) zs (y ∷ ys) = ap (λ ps. (x, y) ∷ ps) (zip-both xs zs ys)

-- rows of more PDUs
pub rows-both : (o : Origin) (part : ℕ) (fs gs : List FrameValue) (parts : List ℕ)
    → pdu_rows o part (fs ++ gs) parts ≡ pdu_rows o part fs parts ++ pdu_rows o part gs (drop (length fs) parts)
rows-both o part fs gs parts =
    ap (λ ps. flat_map (pdu_row o part) ps) (zip-both fs gs parts)
    ∙ flat_map-append (pdu_row o part) (zip fs parts) (zip gs (drop (length fs) parts))

-- those of one PDU more
pub rows-more : (o : Origin) (part : ℕ) (frames : List FrameValue) (i : ℕ) (f : FrameValue) (parts left : List ℕ) → i < length frames
    → f ≡ get_or frames i f → left ≡ drop i parts
    → pdu_rows o part (take (i + 1) frames) parts ≡ pdu_rows o part (take i frames) parts ++ pdu_rows o part (f ∷ []) left
rows-more o part frames i f parts left lt is rest =
    ap (λ (fs : List FrameValue). pdu_rows o part fs parts)
    (take_more frames i f lt ∙ ap (λ (g : FrameValue). take i frames ++ g ∷ []) (sym is))
    ∙ rows-both o part (take i frames) (f ∷ []) parts
    ∙ ap (λ (n : ℕ). pdu_rows o part (take i frames) parts ++ pdu_rows o part (f ∷ []) (drop n parts))
    (length-take-le i frames (le_of_lt lt))
    ∙ ap (λ (ps : List ℕ). pdu_rows o part (take i frames) parts ++ pdu_rows o part (f ∷ []) ps) (sym rest)

-- that of one PDU, by its part
pub row-here : (o : Origin) (part : ℕ) (f : FrameValue) (first : ℕ) (others : List ℕ) → first ≡ part
    → pdu_rows o part (f ∷ []) (first ∷ others) ≡ row_of o f.moment f.octets
row-here o part f first others same =
    ap (λ (b : Bool). cond b (row_of o f.moment f.octets) [] ++ []) (eq-eqb first part same) ∙ append-nil (row_of o f.moment f.octets)

pub no-row-here : (o : Origin) (part : ℕ) (f : FrameValue) (first : ℕ) (others : List ℕ) → (first ≡ part → ⊥)
    → pdu_rows o part (f ∷ []) (first ∷ others) ≡ []
no-row-here o part f first others other =
    ap (λ (b : Bool). cond b (row_of o f.moment f.octets) [] ++ []) (ne_eqb first part other)

-- what is left after one more
pub drop-next : {X : Type 0} (xs : List X) (i : ℕ) (x : X) (others left : List X) → left ≡ drop i xs → left ≡ x ∷ others
    → others ≡ drop (i + 1) xs
drop-next xs i x others left is first =
    ap (drop 1) (sym first ∙ is) ∙ drop-drop 1 i xs

pub drop-none : {X : Type 0} (xs : List X) (i : ℕ) (left : List X) → left ≡ drop i xs → left ≡ [] → left ≡ drop (i + 1) xs
drop-none xs i left is none = none ∙ ap (drop 1) (sym none ∙ is) ∙ drop-drop 1 i xs

pub empty-list : {X : Type 0} (xs : List X) → length xs ≡ 0 → xs ≡ []
empty-list [] e = refl
empty-list (x ∷ xs) e = absurd (omega (arith, e))

-- ---- piece by piece

pub frames-more : (pieces : List Piece) (i : ℕ) (p : Piece) (tail : TailValue) → i < length pieces → p ≡ get_or pieces i p
    → tail ≡ tail_of (values (stream_of (take i pieces)))
    → stream_frames (stream_of (take (i + 1) pieces)) ≡ stream_frames (stream_of (take i pieces)) ++ frames_after tail p.moment p.octets
frames-more pieces i p tail lt is at =
    let g = stream_grows (stream_of (take i pieces)) p.moment p.octets in
    ap stream_frames (stream-more pieces i p lt is) ∙ g.frames
    ∙ ap (λ (t : TailValue). stream_frames (stream_of (take i pieces)) ++ frames_after t p.moment p.octets) (sym at)

pub tail-more : (pieces : List Piece) (i : ℕ) (p : Piece) (tail : TailValue) → i < length pieces → p ≡ get_or pieces i p
    → tail ≡ tail_of (values (stream_of (take i pieces)))
    → tail_after tail p.octets ≡ tail_of (values (stream_of (take (i + 1) pieces)))
tail-more pieces i p tail lt is at =
    let g = stream_grows (stream_of (take i pieces)) p.moment p.octets in
    ap (λ (t : TailValue). tail_after t p.octets) at ∙ sym g.tail
    ∙ ap (λ (s : List Octet). tail_of (values s)) (sym (stream-more pieces i p lt is))

-- the rows of the PDUs of one piece more
pub piece-rows : (o : Origin) (part : ℕ) (before after given : List FrameValue) (parts left : List ℕ) → after ≡ before ++ given
    → left ≡ drop (length before) parts
    → pdu_rows o part after parts ≡ pdu_rows o part before parts ++ pdu_rows o part given left
piece-rows o part before after given parts left more rest =
    ap (λ (fs : List FrameValue). pdu_rows o part fs parts) more ∙ rows-both o part before given parts
    ∙ ap (λ (ps : List ℕ). pdu_rows o part before parts ++ pdu_rows o part given ps) (sym rest)

pub piece-left : (before after given : List FrameValue) (parts left : List ℕ) → after ≡ before ++ given
    → left ≡ drop (length before) parts → drop (length given) left ≡ drop (length after) parts
piece-left before after given parts left more rest =
    ap (drop (length given)) rest ∙ drop-drop (length given) (length before) parts
    ∙ ap (λ (n : ℕ). drop n parts) (sym (ap length more ∙ length-append before given))

-- ---- session by session

-- the rows of one session more
pub session-rows : (ends part : ℕ) (e : ℕ × Session) (es : List (ℕ × Session)) (parts : List (List ℕ))
    → rows_of ends part (flat_map both (e ∷ es)) parts
    ≡ rows_of ends part (both e) parts ++ rows_of ends part (flat_map both es) (drop 2 parts)
session-rows ends part e es parts =
    ap (λ ps. flat_map (direction_rows ends part) ps) (zip-both (both e) (flat_map both es) parts)
    ∙ flat_map-append (direction_rows ends part) (zip (both e) parts) (zip (flat_map both es) (drop 2 parts))

pub map-drop : {X Y : Type 0} (f : X → Y) (xs : List X) → map f (drop 2 xs) ≡ drop 2 (map f xs)
map-drop f [] = refl
map-drop f (x ∷ []) = refl
map-drop f (x ∷ y ∷ xs) = refl

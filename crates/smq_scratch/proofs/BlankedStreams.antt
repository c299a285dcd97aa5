-- Streams that are read alike keep the same.
use Rattle.std.proofs.Common.{◌≡◌, ℕ, ◌+◌, ◌-◌, ◌≤◌, ◌^◌, List, [], ◌∷◌, length, refl, sym, ap, ◌∙◌, subst}
use Rattle.std.specs.Prelude.{◌↔◌, map, slice_index}
use Rattle.std.proofs.lemmas.List.{length-map}
use Rattle.smq_frame.specs.Framing.{rest_of}
use Rattle.smq_frame.specs.Stream.{Octet, moments, stamped, values}
use Rattle.smq_frame.specs.Tail.{TailValue, tail_from, tail_of, tail_with}
use Rattle.smq_frame.proofs.Streams.{has_one_split}
use Rattle.smq_pdu.specs.Placed.{placed_pdu}
use Rattle.smq_present.specs.declared.present.kept.StoredPdu.{StoredPdu}
use Rattle.smq_present.specs.present.Kept.{kept_pdu, kept_pdus}
use Rattle.smq_present.specs.present.Stream.{Keeps, last_moment}
use Rattle.smq_scratch.specs.Blanked.{AreReadAlike, AreStreamsAlike, OneByOne, kept_at}
use Rattle.smq_scratch.proofs.BlankedPdus.{pdus-keep}

-- what is kept of frames from an offset on, each with the moment of its last octet
abbrev kept_from : List Octet → ℕ → List (List ℕ) → List StoredPdu
kept_from stream offset frames = map kept_pdu (map placed_pdu (stamped stream offset frames))

frames-keep : (s t : List Octet) (offset : ℕ) (fs gs : List (List ℕ)) → moments s ≡ moments t → OneByOne AreReadAlike fs gs
    → kept_from s offset fs ≡ kept_from t offset gs
unfolding stamped
frames-keep s t offset [] [] e h = refl
frames-keep s t offset [] (g ∷ gs) e h = absurd h
frames-keep s t offset (f ∷ fs) [] e h = absurd h
frames-keep s t offset (f ∷ fs) (g ∷ gs) e h =
    let len : length f ≡ length g = h.0.len in
    let moment : slice_index (moments s) (offset + length f - 1) ≡ slice_index (moments t) (offset + length g - 1) =
    λ i. slice_index (e i) (offset + len i - 1) in
    let first : kept_at offset (slice_index (moments s) (offset + length f - 1)) f
    ≡ kept_at offset (slice_index (moments t) (offset + length g - 1)) g =
    pdus-keep f g offset (slice_index (moments s) (offset + length f - 1)) h.0
    ∙ ap (λ (m : ℕ). kept_at offset m g) moment in
    let later : kept_from s (offset + length f) fs ≡ kept_from t (offset + length g) gs =
    frames-keep s t (offset + length f) fs gs e h.1 ∙ ap (λ (n : ℕ). kept_from t (offset + n) gs) len in
    λ i. first i ∷ later i

pub pdus-stay : (s t : List Octet) → AreStreamsAlike s t → kept_pdus s ≡ kept_pdus t
pdus-stay s t h =
    let one = (has_one_split (values s)).1 h.frames h.rest h.splits in
    let other = (has_one_split (values t)).1 h.other_frames h.rest h.other_splits in
    ap (λ (fs : List (List ℕ)). kept_from s 0 fs) (sym one.0) ∙ frames-keep s t 0 h.frames h.other_frames h.moments_are h.alike
    ∙ ap (λ (fs : List (List ℕ)). kept_from t 0 fs) other.0

pub length-stays : (s t : List Octet) → AreStreamsAlike s t → length s ≡ length t
length-stays s t h = sym (length-map s (λ o. o.moment)) ∙ ap length h.moments_are ∙ length-map t (λ o. o.moment)

pub tail-stays : (s t : List Octet) → AreStreamsAlike s t → tail_of (values s) ≡ tail_of (values t)
unfolding tail_from
tail-stays s t h =
    let one = (has_one_split (values s)).1 h.frames h.rest h.splits in
    let other = (has_one_split (values t)).1 h.other_frames h.rest h.other_splits in
    let rests : rest_of (values s) ≡ rest_of (values t) = sym one.1 ∙ other.1 in
    let len : length (values s) ≡ length (values t) =
    length-map s (λ o. o.value) ∙ length-stays s t h ∙ sym (length-map t (λ o. o.value)) in
    λ i. tail_with (0 + len i) (rests i)

pub last-stays : (s t : List Octet) → AreStreamsAlike s t → last_moment s ≡ last_moment t
unfolding last_moment
last-stays s t h =
    let moments_are = h.moments_are in
    let len = length-stays s t h in
    λ i. slice_index (moments_are i) (len i - 1)

pub keeps-stay : (s t : List Octet) (tail : TailValue) (pdus : List StoredPdu) (last : ℕ) → AreStreamsAlike s t
    → Keeps s tail pdus last ↔ Keeps t tail pdus last
keeps-stay s t tail pdus last h = (
  λ k. record {
    tail_is = k.tail_is ∙ tail-stays s t h;
    pdus_are = k.pdus_are ∙ pdus-stay s t h;
    last_is = k.last_is ∙ last-stays s t h;
    in_limit = subst (λ (n : ℕ). n ≤ 2 ^ 48) (length-stays s t h) k.in_limit;
  },
  λ k. record {
    tail_is = k.tail_is ∙ sym (tail-stays s t h);
    pdus_are = k.pdus_are ∙ sym (pdus-stay s t h);
    last_is = k.last_is ∙ sym (last-stays s t h);
    in_limit = subst (λ (n : ℕ). n ≤ 2 ^ 48) (sym (length-stays s t h)) k.in_limit;
  },
)

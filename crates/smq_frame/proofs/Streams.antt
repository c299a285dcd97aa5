-- A stream that grows by a piece.
use Rattle.std.proofs.Common.{◌≡◌, ℕ, zero, suc, ◌+◌, ◌-◌, ◌<◌, ◌≤◌, ◌⊎◌, true, false, List, [], ◌∷◌, ◌++◌, length, get_or, take, drop, Some, None, refl, sym, ap, ◌∙◌, subst, inl, inr, append_assoc, arith}
use Rattle.std.specs.Prelude.{is_some, slice_index}
use Rattle.std.specs.List.{concat, AllByRecursion}
use Rattle.std.proofs.lemmas.Bool.{cases_Bool, cases_lt}
use Rattle.std.proofs.lemmas.Option.{slice_get-get_or}
use Rattle.std.proofs.lemmas.List.{take-append-drop, take-append-le, take_at, drop_at, length-append, length-map, map-append, get_or_append_left, get_or-append_right}
use Rattle.smq_frame.specs.Framing.{IsFrame, IsWaiting, IsBad, Splits, is_bad, frames_of, rest_of, frames_within, rest_within, HasOneSplit}
use Rattle.smq_frame.specs.Tail.{TailValue, tail_with, tail_from, tail_of, tail_after}
use Rattle.smq_frame.specs.Stream.{Octet, values, moments, handed_in, stamped, stream_frames, LiesIn, FramesLie, placed, frames_after, StreamGrows, PiecesJoin}
use Rattle.smq_frame.specs.Frame.{FrameValue}
use Rattle.smq_frame.proofs.Splits.{split_stands, split_is, frames_of-more, frames_of-bad, is_bad-true, is_bad_from, rest_of-short, ends_no_frame, IsBad-more}
use Rattle.smq_frame.proofs.Tails.{tail_from-is, frames_after-whole, frames_after-broken, tail_after-whole, tail_after-broken}

pub has_one_split : (octets : List ℕ) → HasOneSplit octets
has_one_split o = (split_stands o, split_is o)

values-handed_in : (m : ℕ) (p : List ℕ) → values (handed_in m p) ≡ p
values-handed_in m [] = refl
values-handed_in m (x ∷ p) = ap (λ (t : List ℕ). x ∷ t) (values-handed_in m p)

moments-handed_in : (m : ℕ) (p : List ℕ) (k : ℕ) → k < length p → get_or (moments (handed_in m p)) k 0 ≡ m
moments-handed_in m [] k h = absurd (omega arith)
moments-handed_in m (x ∷ p) zero h = refl
moments-handed_in m (x ∷ p) (suc k) h = moments-handed_in m p k (omega arith)

-- ---- stamps

stamped-append : (s : List Octet) (o : ℕ) (fs gs : List (List ℕ)) → stamped s o (fs ++ gs) ≡ stamped s o fs ++ stamped s (o + length (concat fs)) gs
unfolding stamped
stamped-append s o [] gs = let e : o + 0 ≡ o = omega arith in rw e refl
stamped-append s o (f ∷ fs) gs =
    let e : o + length f + length (concat fs) ≡ o + length (f ++ concat fs) = omega (arith, length-append f (concat fs)) in
    ap (λ (t : List FrameValue). record { offset = o; moment = slice_index (moments s) (o + length f - 1); octets = f } ∷ t)
    (stamped-append s (o + length f) fs gs ∙ ap (λ (k : ℕ). stamped s (o + length f) fs ++ stamped s k gs) e)

-- stamps within the earlier octets stay
stamped-front : (s t : List Octet) (o : ℕ) (fs : List (List ℕ)) → AllByRecursion IsFrame fs → o + length (concat fs) ≤ length s
    → stamped (s ++ t) o fs ≡ stamped s o fs
unfolding stamped
stamped-front s t o [] each h = refl
stamped-front s t o (f ∷ fs) each h =
    let good = each.0.good in
    let low : 16 ≤ length f = good.low in
    let within : o + length f - 1 < length (moments s) = omega (arith, length-append f (concat fs), length-map s (λ x. x.moment)) in
    let same : slice_index (moments (s ++ t)) (o + length f - 1) ≡ slice_index (moments s) (o + length f - 1) =
    rw (map-append (λ x. x.moment) s t) (get_or_append_left (moments s) (moments t) 0 (o + length f - 1) within) in
    let others = stamped-front s t (o + length f) fs each.1 (omega (arith, length-append f (concat fs))) in
    λ i. record { offset = o; moment = same i; octets = f } ∷ others i

-- the moment of an octet past the earlier ones
pub stamp_there : (s : List Octet) (m : ℕ) (p : List ℕ) (k : ℕ) → length s ≤ k → k < length s + length p
    → slice_index (moments (s ++ handed_in m p)) k ≡ m
stamp_there s m p k past below =
    let len : length (moments s) ≡ length s = length-map s (λ x. x.moment) in
    rw (
      map-append (λ x. x.moment) s (handed_in m p),
      get_or-append_right (moments s) (moments (handed_in m p)) (length s) k 0 len
          past,
    ) (moments-handed_in m p (k - length s) (omega arith))

-- stamps past the earlier octets are the moment of the later ones
stamped-past : (s : List Octet) (m : ℕ) (p : List ℕ) (o : ℕ) (gs : List (List ℕ)) → AllByRecursion IsFrame gs → length s ≤ o
    → o + length (concat gs) ≤ length s + length p → stamped (s ++ handed_in m p) o gs ≡ placed m o gs
unfolding stamped placed
stamped-past s m p o [] each past h = refl
stamped-past s m p o (f ∷ fs) each past h =
    let good = each.0.good in
    let low : 16 ≤ length f = good.low in
    let len = length-append f (concat fs) in
    let there = stamp_there s m p (o + length f - 1) (omega arith) (omega arith) in
    let others = stamped-past s m p (o + length f) fs each.1 (omega arith) (omega arith) in
    λ i. record { offset = o; moment = there i; octets = f } ∷ others i

-- a frame that begins in octets that wait ends past them
front_past : (r p f y : List ℕ) → IsFrame f → IsWaiting r ⊎ IsBad r → r ++ p ≡ f ++ y → length r < length f
front_past r p f y hf ends e =
    elim (cases_lt (length r) (length f)) [
      | inl lt ↦ lt
      | inr le ↦
          let same : take (length f) r ≡ f = sym (take-append-le (length f) r p le) ∙ ap (take (length f)) e ∙ take_at f y (length f) refl in
          let parts : r ≡ f ++ drop (length f) r = sym (take-append-drop (length f) r) ∙ ap (λ (t : List ℕ). t ++ drop (length f) r) same in
          absurd (ends_no_frame f (drop (length f) r) hf (subst (λ (t : List ℕ). IsWaiting t ⊎ IsBad t) parts ends))
    ]

-- the frames that a piece completes are stamped with its moment
stamped-new : (s : List Octet) (m : ℕ) (r p : List ℕ) (o : ℕ) (gs : List (List ℕ)) (q : List ℕ) → Splits (r ++ p) gs q
    → IsWaiting r ⊎ IsBad r → o + length r ≡ length s → stamped (s ++ handed_in m p) o gs ≡ placed m o gs
unfolding stamped placed
stamped-new s m r p o [] q split ends here = refl
stamped-new s m r p o (f ∷ fs) q split ends here =
    let good = split.each.0.good in
    let low : 16 ≤ length f = good.low in
    let past : length r < length f = front_past r p f (concat fs ++ q) split.each.0 ends (split.whole ∙ append_assoc f (concat fs) q) in
    let all : length r + length p ≡ length f + length (concat fs) + length q = sym (length-append r p) ∙ ap length split.whole
    ∙ length-append (f ++ concat fs) q ∙ ap (λ (k : ℕ). k + length q) (length-append f (concat fs)) in
    let there = stamp_there s m p (o + length f - 1) (omega arith) (omega arith) in
    let others = stamped-past s m p (o + length f) fs split.each.1 (omega arith) (omega arith) in
    λ i. record { offset = o; moment = there i; octets = f } ∷ others i

placed-nil : (m o : ℕ) → [] ≡ placed m o []
unfolding placed
placed-nil m o = refl

placed-append : (m o : ℕ) (fs gs : List (List ℕ)) → placed m o (fs ++ gs) ≡ placed m o fs ++ placed m (o + length (concat fs)) gs
unfolding placed
placed-append m o [] gs = let e : o + 0 ≡ o = omega arith in rw e refl
placed-append m o (f ∷ fs) gs =
    let e : o + length f + length (concat fs) ≡ o + length (f ++ concat fs) = omega (arith, length-append f (concat fs)) in
    ap (λ (t : List FrameValue). record { offset = o; moment = m; octets = f } ∷ t) (placed-append m (o + length f) fs gs
    ∙ ap (λ (k : ℕ). placed m (o + length f) fs ++ placed m k gs) e)

-- ---- a tail that grows

tail_from-good : (start : ℕ) (o : List ℕ) → is_bad (rest_of o) ≡ false
    → tail_from start o ≡ (record { offset = start + length o; rest = rest_of o; broken = None })
unfolding tail_from
tail_from-good start o e = rw e refl

tail_from-bad : (start : ℕ) (o : List ℕ) → is_bad (rest_of o) ≡ true
    → tail_from start o ≡ (record { offset = start + length o; rest = []; broken = Some (start + length o - length (rest_of o)) })
unfolding tail_from
tail_from-bad start o e = rw e refl

pub frames_grow : (start m : ℕ) (o p : List ℕ) → frames_after (tail_from start o) m p
    ≡ placed m (start + length (concat (frames_of o))) (frames_of (rest_of o ++ p))
frames_grow start m o p =
    elim (cases_Bool (is_bad (rest_of o))) [
      | inl bad ↦
          let none : frames_of (rest_of o ++ p) ≡ [] = (frames_of-bad (rest_of o) p (is_bad-true (rest_of o) bad)).0 in
          rw (tail_from-bad start o bad, none) (frames_after-broken
          (record { offset = start + length o; rest = []; broken = Some (start + length o - length (rest_of o)) }) m p refl
          ∙ placed-nil m (start + length (concat (frames_of o))))
      | inr good ↦
          let at : start + length o - length (rest_of o) ≡ start + length (concat (frames_of o)) = omega (arith, rest_of-short o) in
          rw (tail_from-good start o good) (frames_after-whole (record {
            offset = start + length o;
            rest = rest_of o;
            broken =
                None;
          }) m p refl ∙ ap (λ (k : ℕ). placed m k (frames_of (rest_of o ++ p))) at)
    ]

pub tail_grows : (start : ℕ) (o p : List ℕ) → tail_from start (o ++ p) ≡ tail_after (tail_from start o) p
tail_grows start o p =
    elim (cases_Bool (is_bad (rest_of o))) [
      | inl bad ↦
          let b = is_bad-true (rest_of o) bad in
          let stays : rest_of (o ++ p) ≡ rest_of o ++ p = (frames_of-more o p).1 ∙ (frames_of-bad (rest_of o) p b).1 in
          let still : is_bad (rest_of (o ++ p)) ≡ true = rw stays (is_bad_from (rest_of o ++ p) (IsBad-more (rest_of o) p b)) in
          let offset : start + length (o ++ p) ≡ start + length o + length p = omega (arith, length-append o p) in
          let place : start + length (o ++ p) - length (rest_of (o ++ p)) ≡ start + length o - length (rest_of o) =
          rw stays (omega (arith, length-append o p, length-append (rest_of o) p)) in
          rw (
            tail_from-bad start (o ++ p) still,
            tail_from-bad start o bad,
            tail_after-broken
                (record { offset = start + length o; rest = []; broken = Some (start + length o - length (rest_of o)) }) p refl,
          )
          (λ i. record { offset = offset i; rest = []; broken = Some (place i) })
      | inr good ↦
          let stays : rest_of (o ++ p) ≡ rest_of (rest_of o ++ p) = (frames_of-more o p).1 in
          let offset : start + length (o ++ p) ≡ start + length o - length (rest_of o) + length (rest_of o ++ p) =
          omega (arith, length-append o p, length-append (rest_of o) p, rest_of-short o) in
          rw (
            tail_from-is start (o ++ p),
            tail_from-good start o good,
            tail_after-whole
                (record { offset = start + length o; rest = rest_of o; broken = None }) p refl,
            stays,
          )
          (ap (λ (k : ℕ). tail_with k (rest_of (rest_of o ++ p))) offset)
    ]

-- ---- the laws

pub stream_grows : (stream : List Octet) (moment : ℕ) (piece : List ℕ) → StreamGrows stream moment piece
stream_grows s m p =
    let vs : values (s ++ handed_in m p) ≡ values s ++ p = map-append (λ x. x.value) s (handed_in m p)
    ∙ ap (λ (t : List ℕ). values s ++ t) (values-handed_in m p) in
    let more = frames_of-more (values s) p in
    let stands = split_stands (values s) in
    let short : length (rest_of (values s)) + length (concat (frames_of (values s))) ≡ length s = rest_of-short (values s)
    ∙ length-map s (λ x. x.value) in
    let front = stamped-front s (handed_in m p) 0 (frames_of (values s)) stands.each (omega arith) in
    let back = stamped-new s m (rest_of (values s)) p (length (concat (frames_of (values s)))) (frames_of (rest_of (values s) ++ p))
    (rest_of (rest_of (values s) ++ p)) (split_stands (rest_of (values s) ++ p)) stands.ends (omega arith) in
    let zeroed : 0 + length (concat (frames_of (values s))) ≡ length (concat (frames_of (values s))) = omega arith in
    let grown = frames_grow 0 m (values s) p in
    record {
      frames = rw (vs, more.0) (stamped-append (s ++ handed_in m p) 0 (frames_of (values s)) (frames_of (rest_of (values s) ++ p))
          ∙ rw (front, zeroed, back, grown, zeroed) refl);
      tail = rw vs (tail_grows 0 (values s) p);
    }

pub pieces_join : (t : TailValue) (moment : ℕ) (first second : List ℕ) → PiecesJoin t moment first second
pieces_join t m a b =
    elim t.broken as (λ v. t.broken ≡ v → PiecesJoin t m a b) [
      | None ↦ λ e.
          let start = t.offset - length t.rest in
          let joins : t.rest ++ (a ++ b) ≡ (t.rest ++ a) ++ b = sym (append_assoc t.rest a b) in
          let after : (x : List ℕ) → tail_after t x ≡ tail_from start (t.rest ++ x) = λ x. tail_after-whole t x e
          ∙ sym (tail_from-is start (t.rest ++ x)) in
          record {
            frames = rw (
              frames_after-whole t m (a ++ b) e,
              frames_after-whole t m a e,
              after a,
              frames_grow start m (t.rest ++ a)
                  b,
              joins,
              (frames_of-more (t.rest ++ a) b).0,
            )
                (placed-append m start (frames_of (t.rest ++ a)) (frames_of (rest_of (t.rest ++ a) ++ b)));
            tail = rw (after (a ++ b), after a, joins) (tail_grows start (t.rest ++ a) b);
          }
      | Some o ↦ λ e.
          let broken : is_some t.broken ≡ true = rw e refl in
          let first_tail : TailValue = record { offset = t.offset + length a; rest = []; broken = t.broken } in
          let offset : t.offset + length (a ++ b) ≡ t.offset + length a + length b = omega (arith, length-append a b) in
          record {
            frames = rw (
              frames_after-broken t m (a ++ b) broken,
              frames_after-broken t m a broken,
              tail_after-broken t a broken,
              frames_after-broken first_tail m b broken,
            ) refl;
            tail = rw (tail_after-broken t (a ++ b) broken, tail_after-broken t a broken, tail_after-broken first_tail b broken)
                (λ i. record { offset = offset i; rest = []; broken = t.broken });
          }
    ] refl

-- ---- frames lie in their stream

lies_from : (s : List Octet) (before : List ℕ) (fs : List (List ℕ)) (r : List ℕ) → values s ≡ before ++ (concat fs ++ r)
    → AllByRecursion IsFrame fs → AllByRecursion (LiesIn s) (stamped s (length before) fs)
unfolding stamped
lies_from s before [] r e each = tt
lies_from s before (f ∷ fs) r e each =
    let good = each.0.good in
    let low : 16 ≤ length f = good.low in
    let whole : values s ≡ before ++ (f ++ (concat fs ++ r)) = e ∙ ap (λ (t : List ℕ). before ++ t) (append_assoc f (concat fs) r) in
    let next : values s ≡ (before ++ f) ++ (concat fs ++ r) = whole ∙ sym (append_assoc before f (concat fs ++ r)) in
    let there : take (length f) (drop (length before) (values s)) ≡ f =
    rw (whole, drop_at before (f ++ (concat fs ++ r)) (length before) refl) (take_at f (concat fs ++ r) (length f) refl) in
    let all : length (moments s) ≡ length before + length f + length (concat fs ++ r) = length-map s (λ x. x.moment)
    ∙ sym (length-map s (λ x. x.value)) ∙ ap length next ∙ length-append (before ++ f) (concat fs ++ r)
    ∙ ap (λ (k : ℕ). k + length (concat fs ++ r)) (length-append before f) in
    let within : length before + length f - 1 < length (moments s) = omega arith in
    let others = lies_from s (before ++ f) fs r next each.1 in (
      record { octets = there; moment = slice_get-get_or (moments s) (length before + length f - 1) 0 within },
      subst (λ (k : ℕ). AllByRecursion (LiesIn s) (stamped s k fs)) (length-append before f) others,
    )

pub frames_lie : (stream : List Octet) → FramesLie stream
frames_lie s =
    let split = split_stands (values s) in
    lies_from s [] (frames_of (values s)) (rest_of (values s)) split.whole split.each

-- ---- no octets

pub tail_of-nil : tail_of [] ≡ (record { offset = 0; rest = []; broken = None })
unfolding tail_from rest_of rest_within
tail_of-nil = refl

pub stream_frames-nil : stream_frames [] ≡ []
unfolding stamped frames_of frames_within
stream_frames-nil = refl

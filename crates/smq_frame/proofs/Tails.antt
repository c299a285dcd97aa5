-- The tail after a piece.
use Rattle.std.proofs.Common.{◌≡◌, ℕ, ◌+◌, ◌-◌, ◌<◌, ◌≤◌, ◌⊎◌, true, false, List, [], ◌∷◌, ◌++◌, length, Some, None, refl, sym, ap, ◌∙◌, subst, inl, inr, zero-add, arith, rules}
use Rattle.std.specs.Prelude.{All, map, is_some}
use Rattle.smq_frame.specs.Frame.{FrameValue}
use Rattle.std.proofs.lemmas.Bool.{both_ways}
use Rattle.std.proofs.lemmas.List.{length-append}
use Rattle.std.proofs.lemmas.List.Elements.{All-nil, All-cons}
use Rattle.smq_frame.specs.Framing.{stated_length, IsGoodLength, IsWaiting, IsBad, Splits, is_bad, frames_of, rest_of}
use Rattle.smq_frame.specs.Tail.{TailValue, TailFollows, IsTail, tail_with, tail_from, tail_of, tail_after}
use Rattle.smq_frame.specs.Stream.{placed, frames_after}
use Rattle.smq_frame.proofs.Splits.{stated_length-append, is_bad_from, begins_frame-waiting, split_stands, split_is, rest_of-short}
use Rattle.smq_frame.proofs.Steps.{octets-placed}

pub waits_where : (r : List ℕ) → IsWaiting r ⊎ IsBad r → is_bad r ≡ false → IsWaiting r
waits_where r (inl w) e = w
waits_where r (inr b) e = absurd (both_ways (is_bad r) e (is_bad_from r b))

pub ruleset tail_facts = (waits_where)

pub rest_ends : (o : List ℕ) → IsWaiting (rest_of o) ⊎ IsBad (rest_of o)
rest_ends o = let s = split_stands o in s.ends

pub rest_short : (o : List ℕ) → length (rest_of o) ≤ length o
rest_short o = omega (arith, rest_of-short o)

pub frames_after-whole : (t : TailValue) (m : ℕ) (p : List ℕ) → t.broken ≡ None
    → frames_after t m p ≡ placed m (t.offset - length t.rest) (frames_of (t.rest ++ p))
unfolding frames_after
frames_after-whole t m p e = rw e refl

pub frames_after-broken : (t : TailValue) (m : ℕ) (p : List ℕ) → is_some t.broken ≡ true → frames_after t m p ≡ []
unfolding frames_after
frames_after-broken t m p e = rw e refl

pub tail_after-whole : (t : TailValue) (p : List ℕ) → t.broken ≡ None
    → tail_after t p ≡ tail_with (t.offset - length t.rest + length (t.rest ++ p)) (rest_of (t.rest ++ p))
unfolding tail_after tail_from
tail_after-whole t p e = rw e refl

pub tail_after-broken : (t : TailValue) (p : List ℕ) → is_some t.broken ≡ true
    → tail_after t p ≡ (record { offset = t.offset + length p; rest = []; broken = t.broken })
unfolding tail_after
tail_after-broken t p e = rw e refl

pub split_octets : (m at : ℕ) (o : List ℕ) → Splits o (map (λ f. f.octets) (placed m at (frames_of o))) (rest_of o)
split_octets m at o = rw (octets-placed m at (frames_of o)) (split_stands o)

-- the moments of frames placed at one moment
pub moments-placed : (m at : ℕ) (fs : List (List ℕ)) → All (λ (f : FrameValue). f.moment ≡ m) (placed m at fs)
unfolding placed
moments-placed m at [] = All-nil (λ (f : FrameValue). f.moment ≡ m)
moments-placed m at (f ∷ fs) = All-cons (λ (g : FrameValue). g.moment ≡ m) (record { offset = at; moment = m; octets = f })
    (placed m (at + length f) fs) refl (moments-placed m (at + length f) fs)

-- ---- the tail where these are left

tail_with-waiting : (n : ℕ) (r : List ℕ) → is_bad r ≡ false → tail_with n r ≡ (record { offset = n; rest = r; broken = None })
tail_with-waiting n r e = rw e refl

tail_with-bad : (n : ℕ) (r : List ℕ) → is_bad r ≡ true → tail_with n r ≡ (record { offset = n; rest = []; broken = Some (n - length r) })
tail_with-bad n r e = rw e refl

-- ---- a piece that completes no frame

-- octets that state a length go on waiting while they are fewer
pub waits_on : (t : TailValue) (settled recent p : List ℕ) → IsTail t → settled ++ recent ≡ t.rest → 4 ≤ length settled
    → length settled + (length recent + length p) < stated_length settled → IsWaiting (t.rest ++ p)
waits_on t settled recent p is whole four few =
    let len : length settled + length recent ≡ length t.rest = sym (length-append settled recent) ∙ ap length whole in
    let own : stated_length t.rest ≡ stated_length settled = ap stated_length (sym whole) ∙ stated_length-append settled recent four in
    let long : 4 ≤ length t.rest = omega (arith, len, four) in
    let same : stated_length (t.rest ++ p) ≡ stated_length t.rest = stated_length-append t.rest p long in
    let all : length (t.rest ++ p) ≡ length t.rest + length p = length-append t.rest p in
    elim is.waits [
      | inl short ↦ absurd (omega (arith, long, short))
      | inr w ↦ inr (omega (arith, all, long), subst IsGoodLength (sym same) w.1, omega (arith, all, len, own, same, few))
    ]

-- octets that wait have no frame, and are their own rest
pub split_waiting : (o : List ℕ) → IsWaiting o → Splits o [] o
split_waiting o w = record { whole = refl; each = tt; ends = inl w }

waits_alone : (o : List ℕ) → IsWaiting o → (frames_of o ≡ []) × (rest_of o ≡ o)
waits_alone o w = let is = split_is o [] o (split_waiting o w) in (sym is.0, sym is.1)

pub frames_after-waiting : (t : TailValue) (m : ℕ) (p : List ℕ) → t.broken ≡ None → IsWaiting (t.rest ++ p) → frames_after t m p ≡ []
unfolding frames_after placed
frames_after-waiting t m p e w = rw (e, (waits_alone (t.rest ++ p) w).0) refl

pub tail_after-waiting : (t : TailValue) (p : List ℕ) → t.broken ≡ None → length t.rest ≤ t.offset → IsWaiting (t.rest ++ p)
    → tail_after t p ≡ (record { offset = t.offset + length p; rest = t.rest ++ p; broken = None })
tail_after-waiting t p e within w =
    let offset : t.offset - length t.rest + length (t.rest ++ p) ≡ t.offset + length p = omega (arith, length-append t.rest p, within) in
    tail_after-whole t p e ∙ rw ((waits_alone (t.rest ++ p) w).1, offset) (tail_with-waiting (t.offset + length p) (t.rest ++ p)
    (begins_frame-waiting (t.rest ++ p) w))

pub rest_of-waiting : (o : List ℕ) → IsWaiting o → Splits o [] (rest_of o)
rest_of-waiting o w = rw ((waits_alone o w).1) (split_waiting o w)

-- ---- the relation tells the tail

pub tail_from-is : (start : ℕ) (o : List ℕ) → tail_from start o ≡ tail_with (start + length o) (rest_of o)
unfolding tail_from
tail_from-is start o = refl

pub tail_follows : (octets : List ℕ) (frames : List (List ℕ)) (rest : List ℕ) → Splits octets frames rest → TailFollows octets rest
tail_follows o fs r s =
    let is : tail_of o ≡ tail_with (length o) r = tail_from-is 0 o ∙ rw (zero-add (length o), (split_is o fs r s).1) refl in
    record {
      waits = λ w. is ∙ tail_with-waiting (length o) r (begins_frame-waiting r w);
      breaks = λ b. is ∙ tail_with-bad (length o) r (is_bad_from r b);
    }

pub ruleset frames_facts = (
  rest_ends,
  rest_short,
  frames_after-whole,
  frames_after-broken,
  waits_on,
  frames_after-waiting,
  tail_after-waiting,
  rest_of-waiting,
  tail_after-whole,
  tail_after-broken,
  split_octets,
  length-append,
)

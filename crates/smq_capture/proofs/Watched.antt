-- What notes of packets tell of how far the octets of a direction had come.
use Rattle.std.proofs.Common.{inl, inr, ◌≡◌, ℕ, zero, suc, ◌+◌, ◌-◌, ◌<◌, ◌≤◌, max, Bool, true, false, cond, List, [], ◌∷◌, ◌++◌, length, get_or, refl, sym, ap, ◌∙◌, arith}
use Rattle.std.specs.Prelude.{◌⊎◌, nat_lt}
use Rattle.std.specs.List.{AllByRecursion, filter}
use Rattle.std.specs.List.Sorted.{IsNonDecreasingBy}
use Rattle.std.proofs.lemmas.Bool.{le-ltb, lt-ltb}
use Rattle.std.proofs.lemmas.List.Recursion.{max_bounds, max_least}
use Rattle.std.proofs.lemmas.List.Sorted.{IsNonDecreasingBy-push}
use Rattle.smq_capture.specs.declared.tops.Top.{Top}
use Rattle.smq_capture.specs.Tops.{AreInOrder, AreNoted, Brought, IsWatched, NeedsNone, last_noted, noted_before, top_before, top_of, with_note}

-- one packet more, before a number and not
top-before : (w : ℕ) (p : Brought) (ps : List Brought) → p.number < w → top_before w (p ∷ ps) ≡ max p.until (top_before w ps)
top-before w p ps h =
    ap (λ (b : Bool). top_of (cond b (p ∷ filter (λ q. nat_lt q.number w) ps) (filter (λ q. nat_lt q.number w) ps))) (lt-ltb p.number w h)

top-behind : (w : ℕ) (p : Brought) (ps : List Brought) → w ≤ p.number → top_before w (p ∷ ps) ≡ top_before w ps
top-behind w p ps h =
    ap (λ (b : Bool). top_of (cond b (p ∷ filter (λ q. nat_lt q.number w) ps) (filter (λ q. nat_lt q.number w) ps))) (le-ltb p.number w h)

-- so it is with notes
noted-before : (w top : ℕ) (t : Top) (ts : List Top) → t.number < w → noted_before w top (t ∷ ts) ≡ noted_before w top ts
noted-before w top t ts h = ap (λ (b : Bool). cond b (noted_before w top ts) t.before) (lt-ltb t.number w h)

noted-behind : (w top : ℕ) (t : Top) (ts : List Top) → w ≤ t.number → noted_before w top (t ∷ ts) ≡ t.before
noted-behind w top t ts h = ap (λ (b : Bool). cond b (noted_before w top ts) t.before) (le-ltb t.number w h)

-- before a number or not
pub side : (n w : ℕ) → (n < w) ⊎ (w ≤ n)
side n zero = inr (omega arith)
side zero (suc w) = inl (omega arith)
side (suc n) (suc w) = elim (side n w) [ inl h ↦ inl (omega arith) | inr h ↦ inr (omega arith) ]

-- where none is before a number nothing came before it
top-none : (w n : ℕ) (ps : List Brought) → w ≤ n → AllByRecursion (λ q. n ≤ q.number) ps → top_before w ps ≡ 0
top-none w n [] h a = refl
top-none w n (p ∷ ps) h a = top-behind w p ps (omega (arith, a.0)) ∙ top-none w n ps h a.1

-- the place that notes tell isn't before the one that is asked for
lower : (w from place top : ℕ) (ps : List Brought) (tops : List Top) → AreInOrder ps → AreNoted from place ps tops
    → top ≡ max place (top_of ps) → max place (top_before w ps) ≤ noted_before w top tops
lower w from place top [] tops o n e = rw n (omega arith)
lower w from place top (p ∷ ps) tops o (inl n) e =
    let ih = lower w from (max place p.until) top ps tops o.1 n.1 (omega arith) in
    elim (side p.number w) [
      | inl h ↦ rw (top-before w p ps h) (omega (arith, ih))
      | inr h ↦ rw (top-behind w p ps h) (omega (arith, ih))
    ]
lower w from place top (p ∷ ps) tops o (inr (rest, some, is, n)) e =
    let t : Top = record { number = p.number; before = place } in
    let ih = lower w from (max place p.until) top ps rest o.1 n (omega arith) in
    elim (side p.number w) [
      | inl h ↦ rw (is, noted-before w top t rest h, top-before w p ps h) (omega (arith, ih))
      | inr h ↦ rw (is, noted-behind w top t rest h, top-behind w p ps h, top-none w p.number ps h o.0) (omega arith)
    ]

-- nor is it behind that of the packet from which on all are noted
upper : (w from place top : ℕ) (ps : List Brought) (tops : List Top) → w ≤ from → AreInOrder ps → AreNoted from place ps tops
    → top ≡ max place (top_of ps) → noted_before w top tops ≤ max place (top_before from ps)
upper w from place top [] tops l o n e = rw n (omega arith)
upper w from place top (p ∷ ps) tops l o (inl n) e =
    let ih = upper w from (max place p.until) top ps tops l o.1 n.1 (omega arith) in
    elim (side p.number from) [
      | inl h ↦ rw (top-before from p ps h) (omega (arith, ih))
      | inr h ↦ rw (top-behind from p ps h) (omega (arith, ih, n.0))
    ]
upper w from place top (p ∷ ps) tops l o (inr (rest, some, is, n)) e =
    let t : Top = record { number = p.number; before = place } in
    let ih = upper w from (max place p.until) top ps rest l o.1 n (omega arith) in
    elim (side p.number w) [
      | inl h ↦ rw (is, noted-before w top t rest h, top-before from p ps (omega arith)) (omega (arith, ih))
      | inr h ↦ rw (is, noted-behind w top t rest h) (omega arith)
    ]

-- what is noted from a number on is noted from a later one on
widen : (from w place : ℕ) (ps : List Brought) (tops : List Top) → from ≤ w → AreNoted from place ps tops → AreNoted w place ps tops
widen from w place [] tops l n = n
widen from w place (p ∷ ps) tops l (inl (inl h, n)) = inl (inl h, widen from w (max place p.until) ps tops l n)
widen from w place (p ∷ ps) tops l (inl (inr h, n)) = inl (inr (omega arith), widen from w (max place p.until) ps tops l n)
widen from w place (p ∷ ps) tops l (inr (rest, some, is, n)) = inr (rest, some, is, widen from w (max place p.until) ps rest l n)

pub early : (w from top : ℕ) (packets : List Brought) (tops : List Top) → IsWatched from packets tops → top ≡ top_of packets → w ≤ from
    → (top_before w packets ≤ noted_before w top tops) × (noted_before w top tops ≤ top_before from packets)
early w from top packets tops s e l =
    let low = lower w from 0 top packets tops s.order s.noted (omega arith) in
    let high = upper w from 0 top packets tops l s.order s.noted (omega arith) in
    (omega (arith, low), omega (arith, high))

pub tells : (w from top : ℕ) (packets : List Brought) (tops : List Top) → IsWatched from packets tops → top ≡ top_of packets → from ≤ w
    → noted_before w top tops ≡ top_before w packets
tells w from top packets tops s e l =
    let low = lower w from 0 top packets tops s.order s.noted (omega arith) in
    let high = upper w w 0 top packets tops (omega arith) s.order (widen from w 0 packets tops l s.noted) (omega arith) in
    omega (arith, low, high)

-- of notes in order the first that isn't of a packet before one is found
pub found : (w top i : ℕ) (ts : List Top) (t : Top) → ((k : ℕ) (d : Top) → k < i → (get_or ts k d).number < w)
    → ((k : ℕ) (d : Top) → i ≤ k → k < length ts → w ≤ (get_or ts k d).number) → i < length ts → t ≡ get_or ts i t
    → t.before ≡ noted_before w top ts
found w top i [] t b a l e = absurd (omega arith)
found w top zero (x ∷ ts) t b a l e =
    ap (λ (y : Top). y.before) e ∙ sym (noted-behind w top x ts (a 0 x (omega arith) (omega arith)))
found w top (suc i) (x ∷ ts) t b a l e =
    found w top i ts t (λ k d h. b (suc k) d (omega arith)) (λ k d g h. a (suc k) d (omega arith) (omega arith)) (omega arith) e
    ∙ sym (noted-before w top x ts (b 0 x (omega arith)))

pub none : (w top : ℕ) (ts : List Top) → ((k : ℕ) (d : Top) → k < length ts → (get_or ts k d).number < w) → top ≡ noted_before w top ts
none w top [] b = refl
none w top (x ∷ ts) b = none w top ts (λ k d h. b (suc k) d (omega arith)) ∙ sym (noted-before w top x ts (b 0 x (omega arith)))

-- of notes in order the last has the greatest number
pub last-is : (ts : List Top) (k : ℕ) (last : Top) → IsNonDecreasingBy (λ (t : Top). t.number) ts → k + 1 ≡ length ts
    → last ≡ get_or ts k last → last.number ≡ last_noted ts
last-is ts k last o l e =
    let high = max_bounds last_noted (λ (t : Top). t.number) refl (λ _ _. refl) ts k last (omega arith) in
    let same : last.number ≡ (get_or ts k last).number = ap (λ (t : Top). t.number) e in
    let low = max_least last_noted (λ (t : Top). t.number) refl (λ _ _. refl) ts last (get_or ts k last).number
    (λ i h. o i k last (omega arith) (omega arith)) in
    omega (arith, high, same, low)

pub pushed : (ts : List Top) (t : Top) → IsNonDecreasingBy (λ (t : Top). t.number) ts → last_noted ts ≤ t.number
    → IsNonDecreasingBy (λ (t : Top). t.number) (ts ++ t ∷ [])
pushed ts t o h = IsNonDecreasingBy-push (λ (t : Top). t.number) ts t o (λ d some.
    let high = max_bounds last_noted (λ (t : Top). t.number) refl (λ _ _. refl) ts (length ts - 1) d (omega arith) in omega (arith, high))

pub noted : (number before top : ℕ) (ts : List Top) → before < top
    → with_note number before top ts ≡ ts ++ record { number = max (last_noted ts) number; before = before } ∷ []
noted number before top ts h =
    ap (λ (b : Bool). cond b (ts ++ record { number = max (last_noted ts) number; before = before } ∷ []) ts) (lt-ltb before top h)

pub not-noted : (number before top : ℕ) (ts : List Top) → top ≤ before → with_note number before top ts ≡ ts
not-noted number before top ts h =
    ap (λ (b : Bool). cond b (ts ++ record { number = max (last_noted ts) number; before = before } ∷ []) ts) (le-ltb before top h)

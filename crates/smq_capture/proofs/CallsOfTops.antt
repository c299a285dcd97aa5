-- What is noted by any calls tells the place behind all octets that packets before one have.
use Rattle.std.proofs.Common.{inl, inr, ◌≡◌, ℕ, ◌<◌, ◌≤◌, max, List, [], ◌∷◌, ◌++◌, append-nil, append_assoc, refl, sym, ap, ◌∙◌, arith}
use Rattle.std.specs.Prelude.{◌⊎◌}
use Rattle.std.specs.List.{AllByRecursion}
use Rattle.std.proofs.lemmas.List.Recursion.{max_push}
use Rattle.smq_capture.specs.declared.tops.Top.{Top}
use Rattle.smq_capture.specs.Tops.{AreInOrder, AreNoted, Brought, Call, Forgets, KeepFrom, NeedsNone, Notes, Passes, TellTops, last_noted, noted_by, packets_in, top_of, with_note}
use Rattle.smq_capture.proofs.Watched.{not-noted, noted, side, tells}

top-more : (ps : List Brought) (p : Brought) → top_of (ps ++ p ∷ []) ≡ max (top_of ps) p.until
top-more ps p = max_push top_of (λ (p : Brought). p.until) refl (λ _ _. refl) ps p

-- one packet more that needs no note
plain : (from place top : ℕ) (ps : List Brought) (p : Brought) (tops : List Top) → AreNoted from place ps tops
    → top ≡ max place (top_of ps) → NeedsNone from top p → AreNoted from place (ps ++ p ∷ []) tops
plain from place top [] p tops n e (inl h) = inl (inl (omega arith), n)
plain from place top [] p tops n e (inr h) = inl (inr h, n)
plain from place top (q ∷ ps) p tops (inl n) e h =
    inl (n.0, plain from (max place q.until) top ps p tops n.1 (omega arith) h)
plain from place top (q ∷ ps) p tops (inr (rest, some, is, n)) e h =
    inr (rest, some, is, plain from (max place q.until) top ps p rest n (omega arith) h)

-- one that is noted
with-top : (from place top : ℕ) (ps : List Brought) (p : Brought) (tops : List Top) → AreNoted from place ps tops
    → top ≡ max place (top_of ps) → top < p.until
    → AreNoted from place (ps ++ p ∷ []) (tops ++ record { number = p.number; before = top } ∷ [])
with-top from place top [] p tops n e h =
    let same : top ≡ place = omega arith in
    inr (
      [],
      omega arith,
      ap (λ (ts : List Top). ts ++ record { number = p.number; before = top } ∷ []) n
          ∙ ap (λ (m : ℕ). record { number = p.number; before = m } ∷ []) same,
      refl,
    )
with-top from place top (q ∷ ps) p tops (inl n) e h =
    inl (n.0, with-top from (max place q.until) top ps p tops n.1 (omega arith) h)
with-top from place top (q ∷ ps) p tops (inr (rest, some, is, n)) e h =
    inr (
      rest ++ record { number = p.number; before = top } ∷ [],
      some,
      ap (λ (ts : List Top). ts ++ record { number = p.number; before = top } ∷ []) is,
      with-top from (max place q.until) top ps p rest n (omega arith) h,
    )

-- no number is noted that none of the packets has
greatest : (from place n : ℕ) (ps : List Brought) (tops : List Top) → AreNoted from place ps tops
    → AllByRecursion (λ q. q.number ≤ n) ps → last_noted tops ≤ n
greatest from place n [] tops w a = rw w (omega arith)
greatest from place n (p ∷ ps) tops (inl w) a = greatest from (max place p.until) n ps tops w.1 a.1
greatest from place n (p ∷ ps) tops (inr (rest, some, is, w)) a =
    let ih = greatest from (max place p.until) n ps rest w a.1 in
    let first = a.0 in
    rw is (omega (arith, ih, first))

before-all : (ps qs : List Brought) (p : Brought) → AreInOrder (ps ++ p ∷ qs) → AllByRecursion (λ q. q.number ≤ p.number) ps
before-all [] qs p o = tt
before-all (q ∷ ps) qs p o = (at ps o.0, before-all ps qs p o.1)
  where
    at : (rs : List Brought) → AllByRecursion (λ r. q.number ≤ r.number) (rs ++ p ∷ qs) → q.number ≤ p.number
    at [] a = a.0
    at (r ∷ rs) a = at rs a.1

-- a packet is noted, if it brought something
more : (from : ℕ) (ps : List Brought) (p : Brought) (tops : List Top) → AreNoted from 0 ps tops → last_noted tops ≤ p.number
    → AreNoted from 0 (ps ++ p ∷ []) (with_note p.number (top_of ps) (max (top_of ps) p.until) tops)
more from ps p tops n l =
    elim (side (top_of ps) p.until) [
      | inl h ↦
          let same : max (last_noted tops) p.number ≡ p.number = omega arith in
          rw (noted p.number (top_of ps) (max (top_of ps) p.until) tops (omega arith), same)
          (with-top from 0 (top_of ps) ps p tops n (omega arith) h)
      | inr h ↦
          rw (not-noted p.number (top_of ps) (max (top_of ps) p.until) tops (omega arith))
          (plain from 0 (top_of ps) ps p tops n (omega arith) (inl h))
    ]

-- where all are before a number none needs to be noted
forgot : (from place : ℕ) (ps : List Brought) → AllByRecursion (λ p. p.number < from) ps → AreNoted from place ps []
forgot from place [] a = refl
forgot from place (p ∷ ps) a = inl (inr a.0, forgot from (max place p.until) ps a.1)

after : (from : ℕ) (calls : List Call) (ps : List Brought) (tops : List Top) → AreNoted from 0 ps tops
    → AreInOrder (ps ++ packets_in calls) → KeepFrom from ps calls
    → AreNoted from 0 (ps ++ packets_in calls) (noted_by (top_of ps) tops calls)
after from [] ps tops n o k = rw append-nil n
after from (Notes p ∷ calls) ps tops n o k =
    let same = append_assoc ps (p ∷ []) (packets_in calls) in
    let step = after from calls (ps ++ p ∷ []) (with_note p.number (top_of ps) (max (top_of ps) p.until) tops)
    (more from ps p tops n (greatest from 0 p.number ps tops n (before-all ps (packets_in calls) p o))) (rw same o) k in
    rw (same, top-more ps p) at step
after from (Passes p ∷ calls) ps tops n o k =
    let same = append_assoc ps (p ∷ []) (packets_in calls) in
    let step = after from calls (ps ++ p ∷ []) tops (plain from 0 (top_of ps) ps p tops n (omega arith) (inr k.0)) (rw same o) k.1 in
    rw (same, top-more ps p) at step
after from (Forgets ∷ calls) ps tops n o k = after from calls ps [] (forgot from 0 ps k.0) o k.1

pub tell : (number : ℕ) (calls : List Call) → AreInOrder (packets_in calls) → KeepFrom number [] calls → TellTops number calls
tell number calls o k =
    tells number number (top_of (packets_in calls)) (packets_in calls) (noted_by 0 [] calls)
    (record { order = o; noted = after number calls [] [] refl o k }) refl (omega arith)

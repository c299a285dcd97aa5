-- The sessions of a row's octets, by runs.
use Rattle.std.proofs.Common.{◌≡◌, ◌≢◌, ◌↔◌, eqb, ℕ, zero, suc, ◌+◌, ◌-◌, ◌^◌, ◌<◌, ◌≤◌, ◌⊎◌, inl, inr, List, [], ◌∷◌, ◌++◌, length, take, drop, set, get_or, replicate, min, refl, sym, ap, subst, ◌∙◌, append_assoc, append-nil, arith, length-append, length-take, length-drop}
use Rattle.std.proofs.lemmas.List.{length-replicate, replicate-append-replicate, take-append-drop, drop-take, take-take, get_or_default}
use Rattle.std.specs.List.{last_or}
use Rattle.std.proofs.lemmas.Bool.{eq-eqb, eqb-true}
use Rattle.std.specs.Prelude.{IsTrue, Option, Some, None}
use Rattle.smq_capture.specs.declared.direction.Direction.{Direction}
use Rattle.smq_capture.specs.declared.direction.Following.{Following}
use Rattle.smq_capture.specs.declared.waiting.Run.{Run}
use Rattle.smq_capture.specs.Rows.{AreApart, AreParts, IsBeforeOther, MayDeal, Row, Settles, octets_in, sessions_in}
use Rattle.smq_capture.specs.Sessions.{Deals, Goes, next_session, session_behind}
use Rattle.smq_capture.specs.within.Runs.{AreRuns, IsBeforeRun, IsKept, parts_by, sessions_of}

abbrev run : ℕ → ℕ → Run
run count session = record { count = count; session = session }

-- ---- a run more

pub sessions-push : (xs : List Run) (count session : ℕ)
    → sessions_of (xs ++ run count session ∷ []) ≡ sessions_of xs ++ replicate count session
sessions-push [] count session = append-nil (replicate count session)
sessions-push (x ∷ xs) count session =
    ap (λ (ys : List ℕ). replicate x.count x.session ++ ys) (sessions-push xs count session)
    ∙ sym (append_assoc (replicate x.count x.session) (sessions_of xs) (replicate count session))

pub runs-push : (xs : List Run) (count session : ℕ) → 0 < count → AreRuns xs
    → ((n : ℕ) (d : Run) → length xs ≡ suc n → (get_or xs n d).session ≢ session) → AreRuns (xs ++ run count session ∷ [])
runs-push [] count session some k other = (some, tt, tt)
runs-push (x ∷ []) count session some k other = (k.0, other 0 x refl, (some, tt, tt))
runs-push (x ∷ y ∷ ys) count session some k other =
    (k.0, k.1, runs-push (y ∷ ys) count session some k.2 (λ n d e. other (suc n) d (ap (λ (m : ℕ). suc m) e)))

-- ---- the last run grows

pub sessions-grow : (xs : List Run) (n count session : ℕ) (d : Run) → length xs ≡ suc n → (get_or xs n d).session ≡ session
    → sessions_of (set xs n (run ((get_or xs n d).count + count) session)) ≡ sessions_of xs ++ replicate count session
sessions-grow [] n count session d l e = absurd (omega arith)
sessions-grow (x ∷ []) zero count session d l e =
    append-nil (replicate (x.count + count) session)
    ∙ sym (replicate-append-replicate x.count count session)
    ∙ ap (λ (s : ℕ). replicate x.count s ++ replicate count session) (sym e)
    ∙ ap (λ (ys : List ℕ). ys ++ replicate count session) (sym (append-nil (replicate x.count x.session)))
sessions-grow (x ∷ []) (suc n) count session d l e = absurd (omega arith)
sessions-grow (x ∷ y ∷ ys) zero count session d l e = absurd (omega arith)
sessions-grow (x ∷ y ∷ ys) (suc n) count session d l e =
    let less : length (y ∷ ys) ≡ suc n = omega arith in
    ap (λ (zs : List ℕ). replicate x.count x.session ++ zs) (sessions-grow (y ∷ ys) n count session d less e)
    ∙ sym (append_assoc (replicate x.count x.session) (sessions_of (y ∷ ys)) (replicate count session))

pub runs-grow : (xs : List Run) (n count session : ℕ) (d : Run) → length xs ≡ suc n → (get_or xs n d).session ≡ session
    → AreRuns xs → AreRuns (set xs n (run ((get_or xs n d).count + count) session))
runs-grow [] n count session d l e k = absurd (omega arith)
runs-grow (x ∷ []) zero count session d l e k = (omega (arith, k.0), tt, tt)
runs-grow (x ∷ []) (suc n) count session d l e k = absurd (omega arith)
runs-grow (x ∷ y ∷ ys) zero count session d l e k = absurd (omega arith)
runs-grow (x ∷ y ∷ []) (suc zero) count session d l e k =
    (k.0, subst (λ (s : ℕ). x.session ≢ s) e k.1, (omega (arith, k.2.0), tt, tt))
runs-grow (x ∷ y ∷ []) (suc (suc n)) count session d l e k = absurd (omega arith)
runs-grow (x ∷ y ∷ z ∷ zs) (suc zero) count session d l e k = absurd (omega arith)
runs-grow (x ∷ y ∷ z ∷ zs) (suc (suc n)) count session d l e k =
    let less : length (y ∷ z ∷ zs) ≡ suc (suc n) = omega arith in
    (k.0, k.1, runs-grow (y ∷ z ∷ zs) (suc n) count session d less e k.2)

pub grows : (xs : List Run) (n count session : ℕ) (last : Run) → length xs ≡ suc n → last ≡ get_or xs n last → last.session ≡ session
    → sessions_of (set xs n (run (last.count + count) session)) ≡ sessions_of xs ++ replicate count session
grows xs n count session last l e f =
    subst (λ (r : Run). sessions_of (set xs n (run (r.count + count) session)) ≡ sessions_of xs ++ replicate count session) (sym e)
    (sessions-grow xs n count session last l (ap (λ (r : Run). r.session) (sym e) ∙ f))

pub kept-grown : (xs : List Run) (n count session : ℕ) (last : Run) → length xs ≡ suc n → last ≡ get_or xs n last
    → last.session ≡ session → AreRuns xs → AreRuns (set xs n (run (last.count + count) session))
kept-grown xs n count session last l e f k =
    subst (λ (r : Run). AreRuns (set xs n (run (r.count + count) session))) (sym e)
    (runs-grow xs n count session last l (ap (λ (r : Run). r.session) (sym e) ∙ f) k)

pub other-last : (xs : List Run) (m session : ℕ) (last : Run) → length xs ≡ suc m → last ≡ get_or xs m last
    → (last.session ≡ session → ⊥) → (n : ℕ) (d : Run) → length xs ≡ suc n → (get_or xs n d).session ≢ session
other-last xs m session last l e f n d k =
    let same : n ≡ m = omega arith in
    let less : n < length xs = omega arith in
    let is : get_or xs n d ≡ last = get_or_default xs n d last less ∙ ap (λ (i : ℕ). get_or xs i last) same ∙ sym e in
    λ g. f (ap (λ (r : Run). r.session) (sym is) ∙ g)

-- no run has more octets than all
pub count-within : (xs : List Run) (n : ℕ) (d : Run) → n < length xs → (get_or xs n d).count ≤ length (sessions_of xs)
count-within [] n d l = absurd (omega arith)
count-within (x ∷ xs) zero d l =
    omega (arith, length-append (replicate x.count x.session) (sessions_of xs), length-replicate x.count x.session)
count-within (x ∷ xs) (suc n) d l =
    let less : n < length xs = omega arith in
    omega (arith, length-append (replicate x.count x.session) (sessions_of xs), count-within xs n d less)

-- ---- the last octet's session

last-append : (o : Option ℕ) (xs ys : List ℕ) → last_or o (xs ++ ys) ≡ last_or (last_or o xs) ys
last-append o [] ys = refl
last-append o (x ∷ xs) ys = last-append (Some x) xs ys

last-replicate : (o : Option ℕ) (n s : ℕ) → 0 < n → last_or o (replicate n s) ≡ Some s
last-replicate o zero s h = absurd (omega arith)
last-replicate o (suc zero) s h = refl
last-replicate o (suc (suc n)) s h = let more : 0 < suc n = omega arith in last-replicate (Some s) (suc n) s more

last-run : (o : Option ℕ) (xs : List Run) (n : ℕ) (d : Run) → length xs ≡ suc n → AreRuns xs
    → last_or o (sessions_of xs) ≡ Some (get_or xs n d).session
last-run o [] n d l k = absurd (omega arith)
last-run o (x ∷ []) zero d l k =
    last-append o (replicate x.count x.session) [] ∙ last-replicate o x.count x.session k.0
last-run o (x ∷ []) (suc n) d l k = absurd (omega arith)
last-run o (x ∷ y ∷ ys) zero d l k = absurd (omega arith)
last-run o (x ∷ y ∷ ys) (suc n) d l k =
    let less : length (y ∷ ys) ≡ suc n = omega arith in
    last-append o (replicate x.count x.session) (sessions_of (y ∷ ys))
    ∙ last-run (last_or o (replicate x.count x.session)) (y ∷ ys) n d less k.2

-- it is the last run's
pub last-is : (xs : List Run) (d : Run) → 0 < length xs → AreRuns xs → d ≡ get_or xs (length xs - 1) d
    → last_or None (sessions_of xs) ≡ Some d.session
last-is xs d l k e =
    let n : length xs ≡ suc (length xs - 1) = omega arith in
    last-run None xs (length xs - 1) d n k ∙ ap (λ (r : Run). Some r.session) (sym e)

pub tells-last : (o : Option ℕ) (s t : ℕ) → o ≡ Some s → IsTrue (eqb s t) ↔ (o ≡ Some t)
tells-last o s t e = (
  λ h. e ∙ ap (λ (n : ℕ). Some n) (eqb-true s t h),
  λ h. let f : Some s ≡ Some t = sym e ∙ h in let same : s ≡ t = cc in eq-eqb s t same,
)

-- ---- parts

take-more : (n m : ℕ) (os : List ℕ) → take n os ++ take m (drop n os) ≡ take (n + m) os
take-more n m os =
    let within : n ≤ n + m = omega arith in
    ap (λ (xs : List ℕ). xs ++ take m (drop n os)) (sym (take-take n (n + m) os within))
    ∙ ap (λ (xs : List ℕ). take n (take (n + m) os) ++ xs) (sym (drop-take n m os))
    ∙ take-append-drop n (take (n + m) os)

abbrev size : Run → List Run → ℕ
size r rs = length (replicate r.count r.session ++ sessions_of rs)

size-is : (r : Run) (rs : List Run) → size r rs ≡ r.count + length (sessions_of rs)
size-is r rs =
    omega (arith, length-append (replicate r.count r.session) (sessions_of rs), length-replicate r.count r.session)

pub rest-within : (r : Run) (rs : List Run) (os : List ℕ) → length (sessions_of (r ∷ rs)) ≤ length os
    → length (sessions_of rs) ≤ length (drop r.count os)
rest-within r rs os h = omega (arith, size-is r rs, length-drop r.count os)

pub first-within : (r : Run) (rs : List Run) (os : List ℕ) → length (sessions_of (r ∷ rs)) ≤ length os → r.count ≤ length os
first-within r rs os h = omega (arith, size-is r rs)

octets-by : (rs : List Run) (os : List ℕ) → length (sessions_of rs) ≤ length os
    → octets_in (parts_by os rs) ≡ take (length (sessions_of rs)) os
octets-by [] os h = refl
octets-by (r ∷ rs) os h =
    ap (λ (xs : List ℕ). take r.count os ++ xs) (octets-by rs (drop r.count os) (rest-within r rs os h))
    ∙ take-more r.count (length (sessions_of rs)) os
    ∙ ap (λ (n : ℕ). take n os) (sym (size-is r rs))

part-size : (r : Run) (rs : List Run) (os : List ℕ) → length (sessions_of (r ∷ rs)) ≤ length os → length (take r.count os) ≡ r.count
part-size r rs os h = omega (arith, length-take r.count os, first-within r rs os h)

sessions-by : (rs : List Run) (os : List ℕ) → length (sessions_of rs) ≤ length os → sessions_in (parts_by os rs) ≡ sessions_of rs
sessions-by [] os h = refl
sessions-by (r ∷ rs) os h =
    ap (λ (n : ℕ). replicate n r.session ++ sessions_in (parts_by (drop r.count os) rs)) (part-size r rs os h)
    ∙ ap (λ (xs : List ℕ). replicate r.count r.session ++ xs) (sessions-by rs (drop r.count os) (rest-within r rs os h))

before-other : (session : ℕ) (rs : List Run) (os : List ℕ) → IsBeforeRun session rs → IsBeforeOther session (parts_by os rs)
before-other session [] os h = tt
before-other session (r ∷ rs) os h = h

apart-by : (rs : List Run) (os : List ℕ) → length (sessions_of rs) ≤ length os → AreRuns rs → AreApart (parts_by os rs)
apart-by [] os h k = tt
apart-by (r ∷ rs) os h k = (
  omega (arith, part-size r rs os h, k.0),
  before-other r.session rs (drop r.count os) k.1,
  apart-by rs (drop r.count os) (rest-within r rs os h) k.2,
)

pub parts-are : (row : Row) (rs : List Run) (n : ℕ) → row.sessions ≡ sessions_of rs → IsKept row.octets n rs
    → AreParts row (parts_by row.octets rs)
parts-are row rs n e k =
    let within : length (sessions_of rs) ≤ length row.octets = omega (arith, k.count, k.within) in
    record {
      octets = octets-by rs row.octets within ∙ ap (λ (xs : List ℕ). take (length xs) row.octets) (sym e);
      sessions = sessions-by rs row.octets within ∙ sym e;
      apart = apart-by rs row.octets within k.runs_are;
    }

-- ---- what is settled of a row

abbrev settled : Row → List ℕ → Row
settled row sessions = record row { sessions = sessions }

pub settle-none : (d : Direction) (row : Row) → Settles d row row
settle-none d row = record {
  one = 0;
  other = 0;
  after_is = ap (λ (xs : List ℕ). settled row xs) (sym (append-nil row.sessions));
}

pub settle-one : (d : Direction) (row : Row) (n : ℕ) → Settles d row (settled row (row.sessions ++ replicate n d.session))
settle-one d row n = record {
  one = n;
  other = 0;
  after_is = ap (λ (xs : List ℕ). settled row (row.sessions ++ xs)) (sym (append-nil (replicate n d.session)));
}

two : (d : Direction) (row : Row) (n m s : ℕ) → (s ≡ d.session) ⊎ (s ≡ next_session d)
    → Settles d row (settled row (row.sessions ++ replicate n d.session ++ replicate m s))
two d row n m s (inl e) =
    subst (λ (xs : List ℕ). Settles d row (settled row xs))
    (ap (λ (xs : List ℕ). row.sessions ++ xs) (sym (replicate-append-replicate n m d.session))
    ∙ sym (append_assoc row.sessions (replicate n d.session) (replicate m d.session))
    ∙ ap (λ (t : ℕ). row.sessions ++ replicate n d.session ++ replicate m t) (sym e))
    (settle-one d row (n + m))
two d row n m s (inr e) = record {
  one = n;
  other = m;
  after_is = ap (λ (xs : List ℕ). settled row xs)
      (append_assoc row.sessions (replicate n d.session) (replicate m s)
      ∙ ap (λ (t : ℕ). row.sessions ++ (replicate n d.session ++ replicate m t)) e);
}

turned : (d e : Direction) → Goes d e → (e.session ≡ d.session) ⊎ (e.session ≡ next_session d)
turned d e g = elim (g.turn) [ inl h ↦ inl (h.0) | inr h ↦ inr (h.0) ]

pub settle-two : (d e : Direction) (row : Row) (n m : ℕ) → Goes d e
    → Settles d row (settled row (row.sessions ++ replicate n d.session ++ replicate m e.session))
settle-two d e row n m g = two d row n m e.session (turned d e g)

-- ---- a direction goes on

pub goes-none : (d : Direction) → Goes d d
goes-none d = record { same = refl; turn = inl (refl, refl) }

-- the session that follows, where a direction is as another was, or has none that follows
next-same : (d e : Direction) → e.session ≡ d.session → e.following ≡ d.following → next_session e ≡ next_session d
next-same d e p q =
    ap (λ (n : ℕ). session_behind n e.following) p ∙ ap (λ (f : Option Following). session_behind d.session f) q

next-none : (e : Direction) → e.following ≡ None → next_session e ≡ e.session
next-none e q = ap (λ (f : Option Following). session_behind e.session f) q

abbrev Turn : Direction → Direction → Type 0
Turn d e = ((e.session ≡ d.session) × (e.following ≡ d.following)) ⊎ ((e.session ≡ next_session d) × (e.following ≡ None))

turns-on : (a b c : Direction) → Turn a b → Turn b c → Turn a c
turns-on a b c (inl g) (inl h) = inl (h.0 ∙ g.0, h.1 ∙ g.1)
turns-on a b c (inl g) (inr h) = inr (h.0 ∙ next-same a b g.0 g.1, h.1)
turns-on a b c (inr g) (inl h) = inr (h.0 ∙ g.0, h.1 ∙ g.1)
turns-on a b c (inr g) (inr h) = inr (h.0 ∙ next-none b g.1 ∙ g.0, h.1)

pub goes-on : (a b c : Direction) → Goes a b → Goes b c → Goes a c
goes-on a b c g h = record {
  same = h.same ∙ ap (λ (x : Direction). record x { framer = c.framer; session = c.session; following = c.following }) g.same;
  turn = turns-on a b c g.turn h.turn;
}

abbrev dealt : Row → ℕ → ℕ → ℕ → ℕ → Row
dealt row n s m t = settled row (row.sessions ++ (replicate n s ++ replicate m t))

dealt-same : (row : Row) (n s m t p q : ℕ) → s ≡ p → t ≡ q → dealt row n s m t ≡ dealt row n p m q
dealt-same row n s m t p q e f =
    ap (λ (x : ℕ). dealt row n x m t) e ∙ ap (λ (x : ℕ). dealt row n p m x) f

later : (d e : Direction) (row after : Row) → Turn d e → Settles e row after → Settles d row after
later d e row after (inl g) s = record {
  one = s.one;
  other = s.other;
  after_is = s.after_is ∙ dealt-same row s.one e.session s.other (next_session e) d.session (next_session d) g.0 (next-same d e g.0 g.1);
}
later d e row after (inr g) s = record {
  one = 0;
  other = s.one + s.other;
  after_is = s.after_is
      ∙ dealt-same row s.one e.session s.other (next_session e) (next_session d) (next_session d) g.0 (next-none e g.1 ∙ g.0)
      ∙ ap (λ (xs : List ℕ). settled row (row.sessions ++ xs)) (replicate-append-replicate s.one s.other (next_session d));
}

pub settle-later : (d e : Direction) (row after : Row) → Goes d e → Settles e row after → Settles d row after
settle-later d e row after g s = later d e row after g.turn s

pub settle-by-one : (d : Direction) (row after : Row) (n s : ℕ) → s ≡ d.session
    → after ≡ settled row (row.sessions ++ replicate n s) → Settles d row after
settle-by-one d row after n s e f =
    subst (λ (r : Row). Settles d row r)
    (sym (f ∙ ap (λ (x : ℕ). settled row (row.sessions ++ replicate n x)) e)) (settle-one d row n)

pub settle-by-two : (d e : Direction) (row mid after : Row) (n m s t : ℕ) → Goes d e → s ≡ d.session → t ≡ e.session
    → mid ≡ settled row (row.sessions ++ replicate n s) → after ≡ settled mid (mid.sessions ++ replicate m t) → Settles d row after
settle-by-two d e row mid after n m s t g p q f h =
    subst (λ (r : Row). Settles d row r)
    (sym (h ∙ ap (λ (r : Row). settled r (r.sessions ++ replicate m t)) (f ∙ ap (λ (x : ℕ). settled row (row.sessions ++ replicate n x)) p)
    ∙ ap (λ (x : ℕ). settled row (row.sessions ++ replicate n d.session ++ replicate m x)) q))
    (settle-two d e row n m g)

dealt-so : (d e : Direction) (row mid after : Row) (n m s t : ℕ) → s ≡ d.session → t ≡ e.session
    → mid ≡ settled row (row.sessions ++ replicate n s) → after ≡ settled mid (mid.sessions ++ replicate m t)
    → after ≡ settled row (row.sessions ++ (replicate n d.session ++ replicate m e.session))
dealt-so d e row mid after n m s t p q f h =
    h ∙ ap (λ (r : Row). settled r (r.sessions ++ replicate m t)) f
    ∙ ap (λ (x : ℕ). settled row (row.sessions ++ replicate n x ++ replicate m t)) p
    ∙ ap (λ (x : ℕ). settled row (row.sessions ++ replicate n d.session ++ replicate m x)) q
    ∙ ap (λ (xs : List ℕ). settled row xs) (append_assoc row.sessions (replicate n d.session) (replicate m e.session))

pub dealt-by : (d e : Direction) (row mid after : Row) (n m s t from place k : ℕ) (os : List ℕ) → s ≡ d.session → t ≡ e.session
    → mid ≡ settled row (row.sessions ++ replicate n s) → after ≡ settled mid (mid.sessions ++ replicate m t)
    → length row.sessions ≡ from → place ≡ min (row.place + from) (2 ^ 64 - 1) → os ≡ take k (drop from row.octets)
    → m ≡ k - n → n ≤ length os → Deals d e place os n → MayDeal d e row after
dealt-by d e row mid after n m s t from place k os p q f h l w o j u g =
    let size : length os ≡ length (take k (drop from row.octets)) = ap (λ (xs : List ℕ). length xs) o in
    let all : k ≡ n + m = omega (arith, size, length-take k (drop from row.octets), j, u) in
    let here : place ≡ min (row.place + length row.sessions) (2 ^ 64 - 1) =
    w ∙ ap (λ (x : ℕ). min (row.place + x) (2 ^ 64 - 1)) (sym l) in
    let these : os ≡ take (n + m) (drop (length row.sessions) row.octets) =
    o ∙ ap (λ (x : ℕ). take x (drop from row.octets)) all ∙ ap (λ (x : ℕ). take (n + m) (drop x row.octets)) (sym l) in
    inr (record {
      one = n;
      other = m;
      deals = subst (λ (x : ℕ). Deals d e x (take (n + m) (drop (length row.sessions) row.octets)) n) here
          (subst (λ (xs : List ℕ). Deals d e place xs n) these g);
      after_is = dealt-so d e row mid after n m s t p q f h;
    })

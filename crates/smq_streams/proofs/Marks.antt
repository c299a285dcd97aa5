-- Octets by their marks.
use Rattle.std.proofs.Common.{◌≡◌, ℕ, zero, suc, ◌+◌, ◌-◌, ◌<◌, ◌≤◌, Bool, false, List, [], ◌∷◌, ◌++◌, length, take, drop, refl, sym, ap, subst, ◌∙◌, append_assoc, append-nil, arith, length-append, length-take, length-drop}
use Rattle.std.proofs.lemmas.List.{take-append-drop, drop-append-le, take-append-le, take_all}
use Rattle.smq_reassembly.specs.declared.packet.Packet.{Packet}
use Rattle.smq_reassembly.specs.Octet.{Octet, octets_of}
use Rattle.smq_reassembly.specs.Moment.{values}
use Rattle.smq_streams.specs.declared.seeker.Mark.{Mark}
use Rattle.std.specs.Prelude.{Option, Some, None}
use Rattle.std.specs.Option.{option_to_list}
use Rattle.smq_streams.specs.Search.{Search}
use Rattle.smq_streams.specs.within.Marks.{AreMarked, IsKept, marks_of, octets_by}
use Rattle.smq_streams.proofs.Octets.{drop-drop, length-octets, values-octets, values-append}

pub values-by : (ms : List Mark) (os : List ℕ) → AreMarked ms os → values (octets_by ms os) ≡ os
values-by [] os h = sym h
values-by (m ∷ ms) os h =
    values-append (octets_of m.packet m.begins (take m.left os)) (octets_by ms (drop m.left os))
    ∙ ap (λ (x : List ℕ). x ++ values (octets_by ms (drop m.left os))) (values-octets m.packet m.begins (take m.left os))
    ∙ ap (λ (x : List ℕ). take m.left os ++ x) (values-by ms (drop m.left os) h.2)
    ∙ take-append-drop m.left os

pub length-by : (ms : List Mark) (os : List ℕ) → AreMarked ms os → length (octets_by ms os) ≡ length os
length-by [] os h = ap (λ (x : List ℕ). length x) (sym h)
length-by (m ∷ ms) os h =
    omega (
      arith,
      length-append (octets_of m.packet m.begins (take m.left os)) (octets_by ms (drop m.left os)),
      length-octets m.packet m.begins (take m.left os),
      length-take m.left os,
      length-by ms (drop m.left os) h.2,
      length-drop m.left os,
      h.1,
    )

-- the first octet is passed over
pub passes : (p : Packet) (b : Bool) (left less : ℕ) (ms : List Mark) (os : List ℕ) → left ≡ suc less → left ≤ length os
    → octets_of p false (take less (drop 1 os)) ++ octets_by ms (drop less (drop 1 os))
    ≡ drop 1 (octets_of p b (take left os) ++ octets_by ms (drop left os))
passes p b left less ms [] e l = absurd (omega arith)
passes p b left less ms (o ∷ os) e l = rw e refl

-- behind all octets there is none
all_gone : (k : ℕ) (os : List ℕ) → length os ≤ k → drop k os ≡ []
all_gone zero [] h = refl
all_gone zero (o ∷ os) h = absurd (omega arith)
all_gone (suc k) [] h = refl
all_gone (suc k) (o ∷ os) h = let l : length os ≤ k = omega arith in all_gone k os l

-- octets of one more packet follow
pub by-more : (ms : List Mark) (m : Mark) (os new : List ℕ) → AreMarked ms os → m.left ≡ length new
    → octets_by (ms ++ m ∷ []) (os ++ new) ≡ octets_by ms os ++ octets_of m.packet m.begins new
by-more [] m os new h e =
    let same : os ++ new ≡ new = ap (λ (x : List ℕ). x ++ new) h in
    let all : take m.left new ≡ new = take_all m.left new (omega arith) in
    append-nil (octets_of m.packet m.begins (take m.left (os ++ new)))
    ∙ ap (λ (x : List ℕ). octets_of m.packet m.begins (take m.left x)) same
    ∙ ap (λ (x : List ℕ). octets_of m.packet m.begins x) all
by-more (n ∷ ms) m os new h e =
    ap (λ (x : List ℕ). octets_of n.packet n.begins x ++ octets_by (ms ++ m ∷ []) (drop n.left (os ++ new))) (take-append-le n.left os new h.1)
    ∙ ap (λ (x : List ℕ). octets_of n.packet n.begins (take n.left os) ++ octets_by (ms ++ m ∷ []) x) (drop-append-le n.left os new h.1)
    ∙ ap (λ (x : List Octet). octets_of n.packet n.begins (take n.left os) ++ x) (by-more ms m (drop n.left os) new h.2 e)
    ∙ sym (append_assoc (octets_of n.packet n.begins (take n.left os)) (octets_by ms (drop n.left os)) (octets_of m.packet m.begins new))

pub marked-more : (ms : List Mark) (m : Mark) (os new : List ℕ) → AreMarked ms os → m.left ≡ length new → 0 < length new
    → AreMarked (ms ++ m ∷ []) (os ++ new)
marked-more [] m os new h e some =
    let same : os ++ new ≡ new = ap (λ (x : List ℕ). x ++ new) h in
    rw same (omega arith, omega arith, all_gone m.left new (omega arith))
marked-more (n ∷ ms) m os new h e some = (
  h.0,
  omega (arith, h.1, length-append os new),
  subst (λ (x : List ℕ). AreMarked (ms ++ m ∷ []) x) (sym (drop-append-le n.left os new h.1)) (marked-more ms m (drop n.left os) new h.2 e some),
)

-- ---- a search

pub same_search : (p q : ℕ) (a b : List Octet) (n m : ℕ) (k l : ℕ) → p ≡ q → a ≡ b → n ≡ m → k ≡ l
    → ◌≡◌ {A = Search} (record { place = p; octets = a; passed = n; looked = k }) (record { place = q; octets = b; passed = m; looked = l })
same_search p q a b n m k l e f g h = rw (e, f, g, h) refl

-- no octets are left where there is no mark, and none is there where no octets are
pub empty : (ms : List Mark) (os : List ℕ) → AreMarked ms os → octets_by ms os ≡ [] → ms ≡ []
empty [] os h e = refl
empty (m ∷ ms) os h e =
    absurd (omega (arith, length-by (m ∷ ms) os h, ap (λ (x : List Octet). length x) e, h.0, h.1))

pub first_left : (first : Option Mark) (m : Mark) (others : List Mark) (os : List ℕ) → first ≡ Some m
    → AreMarked (marks_of first others) os → 0 < m.left
first_left None m others os e h = absurd (cc)
first_left (Some n) m others os e h =
    let same : n ≡ m = cc in
    let left : n.left ≡ m.left = ap (λ (x : Mark). x.left) same in omega (arith, left, h.0)

pub none_left : (first : Option Mark) (others : List Mark) (os : List ℕ) → first ≡ None → others ≡ []
    → octets_by (marks_of first others) os ≡ []
none_left None others os e f = rw f refl
none_left (Some m) others os e f = absurd (cc)

-- where no octets are left nothing is kept
pub kept-none : (items : List ℕ) (looked : ℕ) (first : Option Mark) (others : List Mark) → IsKept items looked first others
    → octets_by (marks_of first others) (drop looked items) ≡ [] → IsKept [] 0 first others
kept-none items looked first others k e =
    let none : marks_of first others ≡ [] = empty (marks_of first others) (drop looked items) k.marked e in
    record { within = omega arith; marked = rw none refl; front = k.front }

pub by-none : (items os : List ℕ) (looked : ℕ) (first : Option Mark) (others : List Mark) → IsKept items looked first others
    → octets_by (marks_of first others) (drop looked items) ≡ []
    → octets_by (marks_of first others) os ≡ octets_by (marks_of first others) (drop looked items)
by-none items os looked first others k e =
    let none : marks_of first others ≡ [] = empty (marks_of first others) (drop looked items) k.marked e in rw none refl

-- the first mark and those behind it, as a queue gives them
pub popped : (first : Option Mark) (others : List Mark) → marks_of first others ≡ option_to_list first ++ others
popped None others = refl
popped (Some m) others = refl

pub pass-mark : (first : Option Mark) (m : Mark) (others : List Mark) (items : List ℕ) (looked : ℕ) (less : ℕ) → first ≡ Some m
    → AreMarked (marks_of first others) (drop looked items) → m.left ≡ suc less
    → octets_of m.packet false (take less (drop (looked + 1) items)) ++ octets_by others (drop less (drop (looked + 1) items))
    ≡ drop 1 (octets_by (marks_of first others) (drop looked items))
pass-mark None m others items looked less e h l = absurd (cc)
pass-mark (Some n) m others items looked less e h l =
    let same : n ≡ m = cc in
    let long : n.left ≡ suc less = ap (λ (x : Mark). x.left) same ∙ l in
    let pack : m.packet ≡ n.packet = ap (λ (x : Mark). x.packet) (sym same) in
    ap (λ (p : Packet). octets_of p false (take less (drop (looked + 1) items)) ++ octets_by others (drop less (drop (looked + 1) items))) pack
    ∙ ap (λ (x : List ℕ). octets_of n.packet false (take less x) ++ octets_by others (drop less x)) (sym (drop-drop looked 1 items))
    ∙ passes n.packet n.begins n.left less others (drop looked items) long h.1

pub kept-more : (items new : List ℕ) (looked : ℕ) (first : Option Mark) (others : List Mark) (m : Mark) → (first ≡ None → ⊥)
    → IsKept items looked first others → m.left ≡ length new → 0 < length new → IsKept (items ++ new) looked first (others ++ m ∷ [])
kept-more items new looked None others m some k e l = absurd (some refl)
kept-more items new looked (Some n) others m some k e l =
    record {
      within = omega (arith, k.within, length-append items new);
      marked = subst (λ (x : List ℕ). AreMarked (n ∷ (others ++ m ∷ [])) x) (sym (drop-append-le looked items new k.within))
          (marked-more (n ∷ others) m (drop looked items) new k.marked e l);
      front = λ h. absurd (cc);
    }

pub by-push : (items new : List ℕ) (looked : ℕ) (first : Option Mark) (others : List Mark) (m : Mark) → (first ≡ None → ⊥)
    → IsKept items looked first others → m.left ≡ length new
    → octets_by (marks_of first (others ++ m ∷ [])) (drop looked (items ++ new))
    ≡ octets_by (marks_of first others) (drop looked items) ++ octets_of m.packet m.begins new
by-push items new looked None others m some k e = absurd (some refl)
by-push items new looked (Some n) others m some k e =
    ap (λ (x : List ℕ). octets_by (n ∷ (others ++ m ∷ [])) x) (drop-append-le looked items new k.within)
    ∙ by-more (n ∷ others) m (drop looked items) new k.marked e

-- With which packet each octet of a stream is given.
use Rattle.std.proofs.Common.{◌≡◌, ℕ, zero, suc, ◌+◌, ◌-◌, ◌<◌, ◌≤◌, ◌⊎◌, inl, inr, List, [], ◌∷◌, ◌++◌, length, take, drop, refl, sym, ap, ◌∙◌, arith, max}
use Rattle.std.specs.Prelude.{slice_get, Option, Some, None}
use Rattle.std.specs.Option.{option_or}
use Rattle.std.proofs.lemmas.Bool.{cases_lt, lt-ltb, le-ltb}
use Rattle.std.proofs.lemmas.List.{length-take-le}
use Rattle.std.proofs.lemmas.Option.{none-some, same_Some, slice_get_within}
use Rattle.smq_reassembly.specs.declared.packet.Packet.{Packet}
use Rattle.smq_reassembly.specs.Octet.{Octet}
use Rattle.smq_reassembly.specs.Piece.{Piece, octet_in, first_octet}
use Rattle.smq_reassembly.specs.Moment.{Start, later, given_after, last_after, before_first, moment_before, IsGivenAtCompletion, IsOneGiven, GivesStream, values}
use Rattle.smq_reassembly.proofs.Lists.{got, get-right, get-take}
use Rattle.smq_reassembly.proofs.Pieces.{first-append, first-push, or-some, or-assoc}
use Rattle.smq_reassembly.proofs.States.{one, given-append}

pub one_given : (pieces : List Piece) (start : Start) (given other : List Octet) → IsOneGiven pieces start given other
one_given pieces start given other g h =
    g.moments ∙ ap (λ (t : List Octet). given_after (before_first start) t) (one pieces start.place g.text h.text g.stream h.stream)
    ∙ sym h.moments

values-given : (last : Packet) (os : List Octet) → values (given_after last os) ≡ values os
values-given last [] = refl
values-given last (o ∷ os) = ap (λ (vs : List ℕ). o.value ∷ vs) (values-given (later last o.packet) os)

pub gives_stream : (pieces : List Piece) (start : Start) (given text : List Octet) → GivesStream pieces start given text
gives_stream pieces start given text g s =
    ap values g.moments ∙ values-given (before_first start) g.text ∙ ap values (one pieces start.place g.text text g.stream s)

pub length-given : (last : Packet) (os : List Octet) → length (given_after last os) ≡ length os
length-given last [] = refl
length-given last (o ∷ os) = ap suc (length-given (later last o.packet) os)

-- ---- the packet that completes

later-earlier : (l p : Packet) → p.number < l.number → later l p ≡ l
later-earlier l p h = rw (lt-ltb p.number l.number h) refl

later-other : (l p : Packet) → l.number ≤ p.number → later l p ≡ (record { number = p.number; moment = max l.moment p.moment })
later-other l p h = rw (le-ltb p.number l.number h) refl

-- each octet is of a packet before one with this number
abbrev AreBefore : ℕ → List Octet → Type 0
AreBefore number os = (i : ℕ) (o : Octet) → slice_get os i ≡ Some o → o.packet.number < number

last-before : (l : Packet) (number : ℕ) (os : List Octet) → l.number ≤ number → AreBefore number os → (last_after l os).number ≤ number
last-before l number [] h all = h
last-before l number (o ∷ os) h all =
    last-before (later l o.packet) number os
    (elim (cases_lt o.packet.number l.number) [
      | inl less ↦ rw (later-earlier l o.packet less) h
      | inr more ↦ rw (later-other l o.packet more) (let b = all 0 o refl in omega (arith, b))
    ])
    (λ i x is. all (suc i) x is)

-- each octet up to a place is of a packet, or of one before
abbrev AreUpTo : Packet → ℕ → List Octet → Type 0
AreUpTo p n os = (i : ℕ) (o : Octet) → i ≤ n → slice_get os i ≡ Some o → (o.packet.number < p.number) ⊎ (o.packet ≡ p)

later-stays : (l p q : Packet) → l.number ≡ p.number → p.moment ≤ l.moment → (q.number < p.number) ⊎ (q ≡ p) → later l q ≡ l
later-stays l p q same less (inl h) = later-earlier l q (omega (arith, same))
later-stays l p q same less (inr h) =
    let n : q.number ≡ p.number = ap (λ (x : Packet). x.number) h in
    let m : q.moment ≡ p.moment = ap (λ (x : Packet). x.moment) h in
    let number : q.number ≡ l.number = omega (arith, same) in
    let moment : max l.moment q.moment ≡ l.moment = omega (arith, less) in
    later-other l q (omega arith) ∙ rw (number, moment) refl

abbrev IsAt : Packet → ℕ → Octet → Type 0
IsAt p before g = (g.packet.number ≡ p.number) × (g.packet.moment ≡ max before p.moment)

-- after the packet all that follows is given with it, while none is of a later one
after-it : (l p : Packet) (os : List Octet) (n : ℕ) (g : Octet) → l.number ≡ p.number → p.moment ≤ l.moment → AreUpTo p n os
    → slice_get (given_after l os) n ≡ Some g → IsAt p (moment_before l.moment (given_after l os) n) g
after-it l p [] n g same less all is = absurd (none-some g is)
after-it l p (o ∷ os) zero g same less all is =
    let stays : later l o.packet ≡ l = later-stays l p o.packet same less (all 0 o (omega arith) refl) in
    let packet : g.packet ≡ l = ap (λ (x : Octet). x.packet) (sym (same_Some _ g is)) ∙ stays in
    (ap (λ (x : Packet). x.number) packet ∙ same, ap (λ (x : Packet). x.moment) packet ∙ omega (arith, less))
after-it l p (o ∷ os) (suc n) g same less all is =
    let stays : later l o.packet ≡ l = later-stays l p o.packet same less (all 0 o (omega arith) refl) in
    let number : (later l o.packet).number ≡ p.number = ap (λ (x : Packet). x.number) stays ∙ same in
    let moment : p.moment ≤ (later l o.packet).moment = let e = ap (λ (x : Packet). x.moment) stays in omega (arith, e, less) in
    after-it (later l o.packet) p os n g number moment (λ i x h e. all (suc i) x (omega arith) e) is

from-it : (l p : Packet) (o : Octet) (os : List Octet) (n : ℕ) (g : Octet) → l.number ≤ p.number → o.packet ≡ p → AreUpTo p n (o ∷ os)
    → slice_get (given_after l (o ∷ os)) n ≡ Some g → IsAt p (moment_before l.moment (given_after l (o ∷ os)) n) g
from-it l p o os zero g low is all at =
    let packet : g.packet ≡ (record { number = p.number; moment = max l.moment p.moment }) =
    ap (λ (x : Octet). x.packet) (sym (same_Some _ g at)) ∙ rw is (later-other l p low) in
    (ap (λ (x : Packet). x.number) packet, ap (λ (x : Packet). x.moment) packet)
from-it l p o os (suc n) g low is all at =
    let next : later l o.packet ≡ (record { number = p.number; moment = max l.moment p.moment }) = rw is (later-other l p low) in
    let number : (later l o.packet).number ≡ p.number = ap (λ (x : Packet). x.number) next in
    let moment : p.moment ≤ (later l o.packet).moment = let e = ap (λ (x : Packet). x.moment) next in omega (arith, e) in
    after-it (later l o.packet) p os n g number moment (λ i x h e. all (suc i) x (omega arith) e) at

moment-append : (l : Packet) (xs ys : List Octet) (n : ℕ) →
    moment_before l.moment (given_after l xs ++ ys) (length xs + n) ≡ moment_before (last_after l xs).moment ys n
moment-append l [] ys n = let e : 0 + n ≡ n = omega arith in rw e refl
moment-append l (x ∷ xs) ys n =
    let e : suc (length xs) + n ≡ suc (length xs + n) = omega arith in rw e (moment-append (later l x.packet) xs ys n)

cons-at : (xs : List Octet) (k : ℕ) (x : Octet) → slice_get xs k ≡ Some x → xs ≡ take k xs ++ x ∷ drop (suc k) xs
cons-at [] k x is = absurd (none-some x is)
cons-at (y ∷ ys) zero x is = ap (λ (z : Octet). z ∷ ys) (same_Some y x is)
cons-at (y ∷ ys) (suc k) x is = ap (λ (zs : List Octet). y ∷ zs) (cons-at ys k x is)

at-split : (xs ys : List Octet) (x : Octet) (p l : Packet) (m : ℕ) (o : Octet) → l.number ≤ p.number → AreBefore p.number xs → x.packet ≡ p
    → AreUpTo p m (x ∷ ys) → slice_get (given_after l (xs ++ x ∷ ys)) (length xs + m) ≡ Some o
    → IsAt p (moment_before l.moment (given_after l (xs ++ x ∷ ys)) (length xs + m)) o
at-split xs ys x p l m o low before is all at =
    let e = given-append l xs (x ∷ ys) in
    let size : length (given_after l xs) ≡ length xs = length-given l xs in
    let index : (length xs + m) - length (given_after l xs) ≡ m = omega (arith, size) in
    let there : slice_get (given_after (last_after l xs) (x ∷ ys)) m ≡ Some o =
    ap (λ (k : ℕ). slice_get (given_after (last_after l xs) (x ∷ ys)) k) (sym index)
    ∙ sym (get-right (given_after l xs) (given_after (last_after l xs) (x ∷ ys)) (length xs + m) (omega (arith, size)))
    ∙ ap (λ (os : List Octet). slice_get os (length xs + m)) (sym e) ∙ at in
    let r = from-it (last_after l xs) p x ys m o (last-before l p.number xs low before) is all there in
    let moment : moment_before l.moment (given_after l (xs ++ x ∷ ys)) (length xs + m)
    ≡ moment_before (last_after l xs).moment (given_after (last_after l xs) (x ∷ ys)) m =
    ap (λ (os : List Octet). moment_before l.moment os (length xs + m)) e
    ∙ moment-append l xs (given_after (last_after l xs) (x ∷ ys)) m in
    (r.0, r.1 ∙ ap (λ (k : ℕ). max k p.moment) (sym moment))

or-cases : (a b : Option Octet) (x : Octet) → option_or a b ≡ Some x → (a ≡ Some x) ⊎ ((a ≡ None) × (b ≡ Some x))
or-cases None b x h = inr (refl, h)
or-cases (Some y) b x h = inl h

pub completes : (before : List Piece) (piece : Piece) (after : List Piece) (packet : Packet) (start : Start) (given : List Octet) (n : ℕ) (o : Octet)
    → IsGivenAtCompletion before piece after packet start given n o
completes before piece after packet start given n o b c g is =
    let within : n < length g.text =
    omega (arith, slice_get_within given n o is, ap length g.moments, length-given (before_first start) g.text) in
    let here : (i : ℕ) → i ≤ n → (x : Octet) × (option_or (first_octet before (start.place + i)) (octet_in piece (start.place + i)) ≡ Some x)
    × (slice_get g.text i ≡ Some x) =
    λ i h.
    let x = got c.more i (let q = c.greater in omega arith) in
    let first : option_or (first_octet before (start.place + i)) (octet_in piece (start.place + i)) ≡ Some x.0 =
    sym (first-push before piece (start.place + i)) ∙ sym (c.long.each i (let q = c.greater in omega arith)) ∙ x.1 in (
      x.0,
      first,
      g.stream.each i (omega arith) ∙ first-append before (piece ∷ after) (start.place + i)
          ∙ sym (or-assoc (first_octet before (start.place + i)) (octet_in piece (start.place + i)) (first_octet after (start.place + i)))
          ∙ or-some _ (first_octet after (start.place + i)) x.0 first,
    ) in
    let label : (i : ℕ) (x : Octet) → i ≤ n → slice_get g.text i ≡ Some x → (x.packet.number < packet.number) ⊎ (x.packet ≡ packet) =
    λ i x h e.
    let y = here i h in
    let same : y.0 ≡ x = same_Some y.0 x (sym y.2 ∙ e) in
    elim (or-cases (first_octet before (start.place + i)) (octet_in piece (start.place + i)) y.0 y.1) [
      | inl f ↦ inl (b.earlier (start.place + i) x (f ∙ ap (λ (z : Octet). Some z) same))
      | inr f ↦ inr (b.its (start.place + i) x (f.1 ∙ ap (λ (z : Octet). Some z) same))
    ] in
    let less : length c.text ≤ n = c.less in
    let y = here (length c.text) less in
    let its : y.0.packet ≡ packet =
    elim (or-cases (first_octet before (start.place + length c.text)) (octet_in piece (start.place + length c.text)) y.0 y.1) [
      | inl f ↦ absurd (none-some y.0 (sym c.short.ends ∙ f))
      | inr f ↦ b.its (start.place + length c.text) y.0 f.1
    ] in
    let size : length (take (length c.text) g.text) ≡ length c.text = length-take-le (length c.text) g.text (omega arith) in
    let split : g.text ≡ take (length c.text) g.text ++ y.0 ∷ drop (suc (length c.text)) g.text = cons-at g.text (length c.text) y.0 y.2 in
    let index : length (take (length c.text) g.text) + (n - length c.text) ≡ n = omega (arith, size) in
    let earlier : AreBefore packet.number (take (length c.text) g.text) =
    λ i x e.
    let low : i < length c.text = omega (arith, slice_get_within _ i x e, size) in
    let z = got c.text i low in
    let w = here i (omega arith) in
    let text : slice_get g.text i ≡ Some x = sym (get-take (length c.text) g.text i low) ∙ e in
    let first : first_octet before (start.place + i) ≡ Some z.0 = sym (c.short.each i low) ∙ z.1 in
    let same : z.0 ≡ x = same_Some z.0 x (sym (or-some _ (octet_in piece (start.place + i)) z.0 first) ∙ w.1 ∙ sym w.2 ∙ text) in
    b.earlier (start.place + i) x (first ∙ ap (λ (v : Octet). Some v) same) in
    let rest : AreUpTo packet (n - length c.text) (y.0 ∷ drop (suc (length c.text)) g.text) =
    λ i x h e.
    let sum : (length c.text + i) - length (take (length c.text) g.text) ≡ i = omega (arith, size) in
    let there : slice_get g.text (length c.text + i) ≡ Some x =
    ap (λ (os : List Octet). slice_get os (length c.text + i)) split
    ∙ get-right (take (length c.text) g.text) (y.0 ∷ drop (suc (length c.text)) g.text) (length c.text + i) (omega (arith, size))
    ∙ ap (λ (j : ℕ). slice_get (y.0 ∷ drop (suc (length c.text)) g.text) j) sum ∙ e in
    label (length c.text + i) x (omega arith) there in
    let all : given ≡ given_after (before_first start) (take (length c.text) g.text ++ y.0 ∷ drop (suc (length c.text)) g.text) =
    g.moments ∙ ap (λ (os : List Octet). given_after (before_first start) os) split in
    let at : slice_get (given_after (before_first start) (take (length c.text) g.text ++ y.0 ∷ drop (suc (length c.text)) g.text))
    (length (take (length c.text) g.text) + (n - length c.text)) ≡ Some o =
    ap (λ (os : List Octet). slice_get os (length (take (length c.text) g.text) + (n - length c.text))) (sym all)
    ∙ ap (λ (j : ℕ). slice_get given j) index ∙ is in
    let r = at-split (take (length c.text) g.text) (drop (suc (length c.text)) g.text) y.0 packet (before_first start) (n - length c.text) o
    (omega arith) earlier its rest at in (
      r.0,
      r.1 ∙ ap (λ (j : ℕ). max j packet.moment)
          (ap (λ (os : List Octet). moment_before start.moment os (length (take (length c.text) g.text) + (n - length c.text))) (sym all)
          ∙ ap (λ (j : ℕ). moment_before start.moment given j) index),
    )

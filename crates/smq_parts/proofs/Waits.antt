-- What waits for scripts.
use Rattle.std.proofs.Common.{◌≡◌, ℕ, ◌==◌, List, [], ◌∷◌, ◌++◌, length, Bool, true, false, refl, sym, ◌∙◌, ap, subst, append_assoc, append-nil, arith, ◌<◌, get_or}
use Rattle.std.specs.Prelude.{Option, None, Some, IfSome, IfNone, cond}
use Rattle.std.proofs.lemmas.Bool.{and_parts}
use Rattle.std.proofs.lemmas.Bool.Decides.{nat_tests}
use Rattle.std.proofs.Math.ListN.{set}
use Rattle.std.proofs.Math.Seq.{set-append_seam, get_or-append_seam}
use Rattle.std.proofs.lemmas.List.{length-append}
use Rattle.smq_parts.specs.declared.by.Part.{Part}
use Rattle.smq_parts.specs.declared.gathered.Waiting.{Waiting}
use Rattle.smq_parts.specs.Parts.{is_part}
use Rattle.smq_parts.specs.within.Waiting.{IsAdded, IsAt, waits_for}

pub waits-append : (part : Part) (xs ys : List Waiting) → waits_for part (xs ++ ys) ≡ waits_for part xs ++ waits_for part ys
waits-append part [] ys = refl
waits-append part (x ∷ xs) ys =
    ap (λ (t : List ℕ). cond (is_part part x.part) x.text.items [] ++ t) (waits-append part xs ys)
    ∙ sym (append_assoc (cond (is_part part x.part) x.text.items []) (waits_for part xs) (waits_for part ys))

pub waits-last : (part : Part) (xs : List Waiting) (x : Waiting)
    → waits_for part (xs ++ x ∷ []) ≡ waits_for part xs ++ cond (is_part part x.part) x.text.items []
waits-last part xs x =
    waits-append part xs (x ∷ []) ∙ ap (λ (t : List ℕ). waits_for part xs ++ t) (append-nil (cond (is_part part x.part) x.text.items []))

equal : (m n : ℕ) → (m == n) ≡ true → m ≡ n
equal m n e = grind (arith, nat_tests, e)

-- a script is that one where it has the same link and day
pub same-part : (p q : Part) → is_part p q ≡ true → p ≡ q
same-part p q e =
    let parts = and_parts (p.link == q.link) (p.period == q.period) e in
    λ i. record { link = equal p.link q.link parts.0 i; period = equal p.period q.period parts.1 i }

-- a text for another script waits for none but that one
apart : (part to own : Part) (text : List ℕ) → is_part to own ≡ true → is_part part to ≡ false → cond (is_part part own) text [] ≡ []
apart part to own text is not =
    subst (λ (p : Part). cond (is_part part p) text [] ≡ []) (same-part to own is) (ap (λ (b : Bool). cond b text []) not)

-- a text more behind the last one that waits for a script
added-for : (to part : Part) (text : List ℕ) (front : List Waiting) (w v : Waiting) (back : List Waiting)
    → is_part to w.part ≡ true → waits_for to back ≡ [] → v.part ≡ w.part → v.text.items ≡ w.text.items ++ text
    → (is : Bool) → is_part part to ≡ is
    → waits_for part (front ++ v ∷ back) ≡ waits_for part (front ++ w ∷ back) ++ cond is text []
added-for to part text front w v back own none same more true is =
    let here : part ≡ to = same-part part to is in
    let one : waits_for to (v ∷ back) ≡ w.text.items ++ text = rw (same, own, more, none) (append-nil (w.text.items ++ text)) in
    let other : waits_for to (w ∷ back) ≡ w.text.items = rw (own, none) (append-nil w.text.items) in
    subst (λ (p : Part). waits_for p (front ++ v ∷ back) ≡ waits_for p (front ++ w ∷ back) ++ text) (sym here)
    (waits-append to front (v ∷ back) ∙ ap (λ (t : List ℕ). waits_for to front ++ t) one
    ∙ sym (append_assoc (waits_for to front) w.text.items text)
    ∙ ap (λ (t : List ℕ). t ++ text) (ap (λ (t : List ℕ). waits_for to front ++ t) (sym other) ∙ sym (waits-append to front (w ∷ back))))
added-for to part text front w v back own none same more false is =
    let one : waits_for part (v ∷ back) ≡ waits_for part back = ap (λ (t : List ℕ). t ++ waits_for part back)
    (ap (λ (p : Part). cond (is_part part p) v.text.items []) same ∙ apart part to w.part v.text.items own is) in
    let other : waits_for part (w ∷ back) ≡ waits_for part back = ap (λ (t : List ℕ). t ++ waits_for part back)
    (apart part to w.part w.text.items own is) in
    waits-append part front (v ∷ back) ∙ ap (λ (t : List ℕ). waits_for part front ++ t) (one ∙ sym other)
    ∙ sym (waits-append part front (w ∷ back)) ∙ sym (append-nil (waits_for part (front ++ w ∷ back)))

pub added-at : (to : Part) (text : List ℕ) (waiting : List Waiting) (place : ℕ) (d v : Waiting) → IsAt to waiting place
    → d ≡ get_or waiting place d → v.part ≡ d.part → v.text.items ≡ d.text.items ++ text
    → IsAdded to text waiting (set waiting place v)
added-at to text waiting place d v at is same more part =
    let front = at.1 in
    let w = at.2 in
    let back = at.3 in
    let place_is : length front ≡ place = at.5 in
    let own : d ≡ w = is ∙ ap (λ (ws : List Waiting). get_or ws place d) at.4
    ∙ ap (λ (n : ℕ). get_or (front ++ w ∷ back) n d) (sym place_is) ∙ get_or-append_seam front w back d in
    let changed : set waiting place v ≡ front ++ v ∷ back = ap (λ (ws : List Waiting). set ws place v) at.4
    ∙ ap (λ (n : ℕ). set (front ++ w ∷ back) n v) (sym place_is) ∙ set-append_seam front w back v in
    let done = added-for to part text front w v back at.6 at.7 (same ∙ ap (λ (x : Waiting). x.part) own)
    (more ∙ ap (λ (x : Waiting). x.text.items ++ text) own) (is_part part to) refl in
    ap (λ (ws : List Waiting). waits_for part ws) changed ∙ done
    ∙ ap (λ (ws : List Waiting). waits_for part ws ++ cond (is_part part to) text []) (sym at.4)

-- a text that is the first to wait for a script
pub added-first : (to : Part) (text : List ℕ) (waiting : List Waiting) (v : Waiting) → v.part ≡ to → v.text.items ≡ text
    → IsAdded to text waiting (waiting ++ v ∷ [])
added-first to text waiting v same is part =
    waits-last part waiting v
    ∙ ap (λ (t : List ℕ). waits_for part waiting ++ t) (λ i. cond (is_part part (same i)) (is i) [])

-- the last text of all, and those before it
pub at-last : (part : Part) (waiting before : List Waiting) (last : Waiting) → waiting ≡ before ++ last ∷ [] → is_part part last.part ≡ true
    → IsAt part waiting (length before)
at-last part waiting before last e is =
    (subst (λ (ws : List Waiting). length before < length ws) (sym e) (grind (arith, length-append)), before, last, [], e, refl, is, refl)

at-before : (part : Part) (waiting before : List Waiting) (last : Waiting) (place : ℕ) → waiting ≡ before ++ last ∷ []
    → is_part part last.part ≡ false → IsAt part before place → IsAt part waiting place
at-before part waiting before last place e not at = (
  subst (λ (ws : List Waiting). place < length ws) (sym e) (grind (arith, length-append, at.0)),
  at.1,
  at.2,
  at.3 ++ last ∷ [],
  e ∙ ap (λ (ws : List Waiting). ws ++ last ∷ []) at.4 ∙ append_assoc at.1 (at.2 ∷ at.3) (last ∷ []),
  at.5,
  at.6,
  waits-last part at.3 last ∙ rw (not, at.7) refl,
)

none-before : (part : Part) (waiting before : List Waiting) (last : Waiting) → waiting ≡ before ++ last ∷ []
    → is_part part last.part ≡ false → waits_for part before ≡ [] → waits_for part waiting ≡ []
none-before part waiting before last e not none =
    ap (λ (ws : List Waiting). waits_for part ws) e ∙ waits-last part before last ∙ rw (not, none) refl

pub some-before : (part : Part) (waiting before : List Waiting) (last : Waiting) (place : Option ℕ) → waiting ≡ before ++ last ∷ []
    → is_part part last.part ≡ false → IfSome place (IsAt part before) → IfSome place (IsAt part waiting)
some-before part waiting before last None e not some = record {}
some-before part waiting before last (Some n) e not at = at-before part waiting before last n e not at

pub none-of : (part : Part) (waiting before : List Waiting) (last : Waiting) (place : Option ℕ) → waiting ≡ before ++ last ∷ []
    → is_part part last.part ≡ false → IfNone place (waits_for part before ≡ []) → IfNone place (waits_for part waiting ≡ [])
none-of part waiting before last None e not none = none-before part waiting before last e not none
none-of part waiting before last (Some n) e not none = record {}

-- Octets are cut by their lengths in one way.
use Rattle.std.proofs.Common.{◌≡◌, ℕ, ◌+◌, ◌<◌, ◌≤◌, List, [], ◌∷◌, ◌++◌, length, take, drop, refl, sym, ap, subst, ◌∙◌, append_assoc, arith, length-append}
use Rattle.std.specs.List.{concat, AllByRecursion}
use Rattle.std.proofs.lemmas.List.{take_at, drop_at}
use Rattle.smq_streams.specs.declared.framer.Framer.{Framer}
use Rattle.smq_streams.specs.declared.framer.Framer.TheVariants.{Length, Left, Broken}
use Rattle.smq_streams.specs.Header.{IsLength, number_at}
use Rattle.smq_streams.specs.Framing.{IsOneFramer, IsPdu, IsUnderWay}
use Rattle.smq_streams.proofs.Framing.{number-front}

same_rest : (rest : List ℕ) (framer other : Framer) → IsUnderWay rest framer → IsUnderWay rest other → framer ≡ other
same_rest rest (Length c n) (Length d m) v w =
    let count : c ≡ d = omega (arith, v.0, w.0) in
    let number : n ≡ m = v.2 ∙ sym w.2 in
    rw (count, number) refl
same_rest rest (Length c n) (Left l) v w = absurd (omega (arith, v.0, v.1, w.0))
same_rest rest (Length c n) Broken v w = absurd (omega (arith, v.0, v.1, w.0))
same_rest rest (Left l) (Length d m) v w = absurd (omega (arith, w.0, w.1, v.0))
same_rest rest (Left l) (Left k) v w = let left : l ≡ k = omega (arith, v.2, w.2) in rw left refl
same_rest rest (Left l) Broken v w = absurd (w.1 v.1)
same_rest rest Broken (Length d m) v w = absurd (omega (arith, w.0, w.1, v.0))
same_rest rest Broken (Left k) v w = absurd (v.1 w.1)
same_rest rest Broken Broken v w = refl

-- what is under way has no whole PDU at its front
no_front : (pdu more : List ℕ) (framer : Framer) → IsPdu pdu → IsUnderWay (pdu ++ more) framer → ⊥
no_front pdu more (Length c n) it w = let low = it.is_length.low in omega (arith, low, w.0, w.1, length-append pdu more)
no_front pdu more (Left l) it w =
    let low = it.is_length.low in
    let long : 4 ≤ length pdu = omega arith in
    omega (arith, w.2, number-front pdu more long, it.stated, length-append pdu more)
no_front pdu more Broken it w =
    let low = it.is_length.low in
    let long : 4 ≤ length pdu = omega arith in
    w.1 (subst IsLength (sym (number-front pdu more long ∙ it.stated)) it.is_length)

-- PDUs at the front of the same octets are one
same_front : (p q s t : List ℕ) → IsPdu p → IsPdu q → p ++ s ≡ q ++ t → (p ≡ q) × (s ≡ t)
same_front p q s t a b e =
    let low = a.is_length.low in
    let less = b.is_length.low in
    let long : 4 ≤ length p = omega arith in
    let many : 4 ≤ length q = omega arith in
    let size : length p ≡ length q =
    sym (number-front p s long ∙ a.stated) ∙ ap (λ (o : List ℕ). number_at 0 o) e ∙ number-front q t many ∙ b.stated in (
      sym (take_at p s (length p) refl) ∙ ap (λ (o : List ℕ). take (length p) o) e ∙ take_at q t (length p) (sym size),
      sym (drop_at p s (length p) refl) ∙ ap (λ (o : List ℕ). drop (length p) o) e ∙ drop_at q t (length p) (sym size),
    )

same : (ps qs : List (List ℕ)) (r s : List ℕ) (framer other : Framer) → AllByRecursion IsPdu ps → AllByRecursion IsPdu qs
    → concat ps ++ r ≡ concat qs ++ s → IsUnderWay r framer → IsUnderWay s other → framer ≡ other
same [] [] r s framer other a b e v w = same_rest s framer other (subst (λ (o : List ℕ). IsUnderWay o framer) e v) w
same [] (q ∷ qs) r s framer other a b e v w =
    absurd (no_front q (concat qs ++ s) framer b.0 (subst (λ (o : List ℕ). IsUnderWay o framer) (e ∙ append_assoc q (concat qs) s) v))
same (p ∷ ps) [] r s framer other a b e v w =
    absurd (no_front p (concat ps ++ r) other a.0 (subst (λ (o : List ℕ). IsUnderWay o other) (sym e ∙ append_assoc p (concat ps) r) w))
same (p ∷ ps) (q ∷ qs) r s framer other a b e v w =
    let f = same_front p q (concat ps ++ r) (concat qs ++ s) a.0 b.0
    (sym (append_assoc p (concat ps) r) ∙ e ∙ append_assoc q (concat qs) s) in
    same ps qs r s framer other a.1 b.1 f.1 v w

pub one_framer : (octets : List ℕ) (framer other : Framer) → IsOneFramer octets framer other
one_framer octets framer other f g =
    same f.pdus g.pdus f.rest g.rest framer other f.cuts.each g.cuts.each (sym f.cuts.whole ∙ g.cuts.whole) f.under_way g.under_way

-- What goes out of a text, all of it or a beginning.
use Rattle.std.proofs.Common.{◌≡◌, ◌∙◌, ℕ, ◌+◌, List, ◌++◌, length, take, drop, Option, Result, Ok, Err, sym, ap, subst, arith, append_assoc, take_at, take-append-drop, refl}
use Rattle.std.proofs.lemmas.List.{drop-take, take-take, take_all}
use Rattle.std.proofs.KnownBytes.{Appends-trans}
use Rattle.std.specs.Prelude.{IfErr}
use Rattle.std.specs.Io.KnownBytes.{Appends}
use Rattle.smq_report.specs.Beginnings.{AppendsBeginning}
use Rattle.smq_report.specs.within.Pages.{AppendsAllBut}

-- a longer beginning of a text
take-more : (count more : ℕ) (text : List ℕ) → take (count + more) text ≡ take count text ++ take more (drop count text)
take-more count more text =
    sym (take-append-drop count (take (count + more) text))
    ∙ ap (λ (l : List ℕ). l ++ drop count (take (count + more) text)) (take-take count (count + more) text (omega arith))
    ∙ ap (λ (l : List ℕ). take count text ++ l) (drop-take count more text)

-- more of a text goes out
pub Appends-more : (old mid new : Option (List ℕ)) (count more : ℕ) (text : List ℕ) → Appends old mid (take count text)
    → Appends mid new (take more (drop count text)) → Appends old new (take (count + more) text)
Appends-more old mid new count more text first then =
    subst (Appends old new) (sym (take-more count more text)) (Appends-trans old mid new _ _ first then)

-- all goes out
pub begins-whole : (old new : Option (List ℕ)) (text : List ℕ) → Appends old new text → AppendsBeginning old new text
begins-whole old new text h = (length text, subst (Appends old new) (sym (take_all (length text) text (omega arith))) h)

-- some octets are left
pub begins-all_but : (old new : Option (List ℕ)) (left text : List ℕ) → AppendsAllBut old new left text → AppendsBeginning old new text
begins-all_but old new left text (written, grew, are) =
    (length written, subst (Appends old new) (sym (ap (take (length written)) (sym are) ∙ take_at written left (length written) refl)) grew)

-- a beginning of what is left goes out
pub begins-then : (old mid new : Option (List ℕ)) (left whole text : List ℕ) → AppendsAllBut old mid left whole → whole ≡ text
    → AppendsBeginning mid new left → AppendsBeginning old new text
begins-then old mid new left whole text (written, grew, are) is (count, more) =
    begins-all_but old new (drop count left) text (
      written ++ take count left,
      Appends-trans old mid new written (take count left) grew more,
      append_assoc written (take count left) (drop count left) ∙ ap (λ l. written ++ l) (take-append-drop count left) ∙ are ∙ is,
    )

-- all that was left goes out
pub appends-then : (old mid new : Option (List ℕ)) (left whole text : List ℕ) → AppendsAllBut old mid left whole → whole ≡ text
    → Appends mid new left → Appends old new text
appends-then old mid new left whole text (written, grew, are) is more =
    subst (Appends old new) (are ∙ is) (Appends-trans old mid new written left grew more)

-- a beginning of a text that is the same goes out
pub begins-same : (old new : Option (List ℕ)) (whole text : List ℕ) → AppendsBeginning old new whole → whole ≡ text → AppendsBeginning old new text
begins-same old new whole text h is = subst (AppendsBeginning old new) is h

-- what holds whatever an error is
pub whatever_error : {A E : Type 0} (r : Result A E) (P : Type 0) → P → IfErr r (λ _. P)
whatever_error (Ok a) P p = tt
whatever_error (Err e) P p = p

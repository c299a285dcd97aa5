-- What is written, and then what waits on a page, grows by the texts of items, one after the other.
use Rattle.std.proofs.Common.{◌≡◌, ◌∙◌, ℕ, ◌+◌, ◌<◌, add-one, drop, get_or, length, take, List, [], ◌∷◌, ◌++◌, refl, sym, ap, append-nil, append_assoc, take-append-drop}
use Rattle.std.proofs.Math.Seq.{drop-cons}
use Rattle.std.proofs.KnownBytes.{Appends-nil, Appends-trans}
use Rattle.std.specs.Prelude.{Option}
use Rattle.std.specs.List.{flat_map}
use Rattle.smq_report.specs.Beginnings.{AppendsBeginning}
use Rattle.smq_report.specs.within.Pages.{AppendsAllBut}
use Rattle.smq_report.proofs.BeginningLemmas.{begins-all_but}

-- Of all items some are left. The texts of the others, behind what waited before, are written but for what waits now.
abbrev pub Gathers : {X : Type 0} → (X → List ℕ) → List X → List X → Option (List ℕ) → List ℕ → Option (List ℕ) → List ℕ → Type 0
Gathers text all left old before new waits =
    (done : List ℕ) × (done ++ flat_map text left ≡ flat_map text all) × AppendsAllBut old new waits (before ++ done)

-- all are left
pub gathers-none : {X : Type 0} (text : X → List ℕ) (all : List X) (old : Option (List ℕ)) (before : List ℕ)
    → Gathers text all all old before old before
gathers-none text all old before = ([], refl, ([], Appends-nil old, sym (append-nil before)))

-- the text of the first that is left is written, or waits
pub gathers-next : {X : Type 0} (text : X → List ℕ) (all list left : List X) (item : X) (old mid new : Option (List ℕ)) (before waits rest : List ℕ)
    → list ≡ item ∷ left → AppendsAllBut mid new rest (waits ++ text item)
    → Gathers text all list old before mid waits → Gathers text all left old before new rest
gathers-next text all list left item old mid new before waits rest first (more, grown, sum) (done, parts, (written, grew, are)) = (
  done ++ text item,
  append_assoc done (text item) (flat_map text left) ∙ ap (λ items. done ++ flat_map text items) (sym first) ∙ parts,
  (
    written ++ more,
    Appends-trans old mid new written more grew grown,
    append_assoc written more rest ∙ ap (λ l. written ++ l) sum ∙ sym (append_assoc written waits (text item))
        ∙ ap (λ l. l ++ text item) are ∙ append_assoc before done (text item),
  ),
)

-- the text of the one at an index is written, or waits
pub gathers-at : {X : Type 0} (text : X → List ℕ) (all : List X) (index : ℕ) (default : X) (old mid new : Option (List ℕ)) (before waits rest : List ℕ)
    → index < length all → AppendsAllBut mid new rest (waits ++ text (get_or all index default))
    → Gathers text all (drop index all) old before mid waits → Gathers text all (drop (index + 1) all) old before new rest
gathers-at text all index default old mid new before waits rest inside grown gathered =
    gathers-next text all (drop index all) (drop (index + 1) all) (get_or all index default) old mid new before waits rest
    (rw add-one (drop-cons all index default inside)) grown gathered

-- none is left
pub gathers-all : {X : Type 0} (text : X → List ℕ) (all list : List X) (old new : Option (List ℕ)) (before waits : List ℕ)
    → list ≡ [] → Gathers text all list old before new waits → AppendsAllBut old new waits (before ++ flat_map text all)
gathers-all text all list old new before waits none (done, parts, (written, grew, are)) =
    (written, grew, are ∙ ap (λ l. before ++ l) (sym (append-nil done) ∙ ap (λ items. done ++ flat_map text items) (sym none) ∙ parts))

-- nothing more goes out
pub gathers-stop : {X : Type 0} (text : X → List ℕ) (all left : List X) (old new : Option (List ℕ)) (before waits : List ℕ)
    → Gathers text all left old before new waits → AppendsBeginning old new (before ++ flat_map text all)
gathers-stop text all left old new before waits (done, parts, (written, grew, are)) =
    begins-all_but old new (waits ++ flat_map text left) (before ++ flat_map text all) (
      written,
      grew,
      sym (append_assoc written waits (flat_map text left)) ∙ ap (λ l. l ++ flat_map text left) are
          ∙ append_assoc before done (flat_map text left) ∙ ap (λ l. before ++ l) parts,
    )

-- a beginning of what waits, and of the text of the first that is left, goes out
pub gathers-cut : {X : Type 0} (text : X → List ℕ) (all list left : List X) (item : X) (old mid new : Option (List ℕ)) (before waits page : List ℕ)
    → list ≡ item ∷ left → page ≡ waits ++ text item → AppendsBeginning mid new page
    → Gathers text all list old before mid waits → AppendsBeginning old new (before ++ flat_map text all)
gathers-cut text all list left item old mid new before waits page first is (count, more) gathered =
    gathers-stop text all left old new before (drop count page) (gathers-next text all list left item old mid new before waits (drop count page)
    first (take count page, more, take-append-drop count page ∙ is) gathered)

-- the same of the one at an index
pub gathers-cut_at : {X : Type 0} (text : X → List ℕ) (all : List X) (index : ℕ) (default : X) (old mid new : Option (List ℕ)) (before waits : List ℕ)
    → index < length all → AppendsBeginning mid new (waits ++ text (get_or all index default))
    → Gathers text all (drop index all) old before mid waits → AppendsBeginning old new (before ++ flat_map text all)
gathers-cut_at text all index default old mid new before waits inside begun gathered =
    gathers-cut text all (drop index all) (drop (index + 1) all) (get_or all index default) old mid new before waits _
    (rw add-one (drop-cons all index default inside)) refl begun gathered

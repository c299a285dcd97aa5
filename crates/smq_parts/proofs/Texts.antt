-- Texts of scripts that grow.
use Rattle.std.proofs.Common.{◌≡◌, ℕ, List, [], ◌∷◌, ◌++◌, Bool, true, false, refl, sym, ◌∙◌, ap, subst, append_assoc, append-nil}
use Rattle.std.specs.Prelude.{Option, None, Some, cond}
use Rattle.std.specs.List.{flat_map}
use Rattle.std.specs.Io.KnownBytes.{Appends, Keeps}
use Rattle.smq_parts.specs.declared.by.By.{By}
use Rattle.smq_parts.specs.declared.by.Part.{Part}
use Rattle.smq_parts.specs.Parts.{Become, Row, Texts, is_part, part_by, rows_of}

pub appends-then : (before between after : Option (List ℕ)) (one other : List ℕ) → Appends before between one → Appends between after other
    → Appends before after (one ++ other)
appends-then None between after one other a b = record {}
appends-then (Some xs) None after one other a b = absurd a
appends-then (Some xs) (Some ys) None one other a b = absurd b
appends-then (Some xs) (Some ys) (Some zs) one other a b =
    b ∙ ap (λ (t : List ℕ). t ++ other) a ∙ append_assoc xs one other

pub keeps-appends : (before after : Option (List ℕ)) → Keeps before after → Appends before after []
keeps-appends None after k = record {}
keeps-appends (Some xs) None k = absurd k
keeps-appends (Some xs) (Some ys) k = k ∙ sym (append-nil xs)

-- the text of the first row, where it is of the script, and those of the others
one_more : (row : Row) (rows : List Row) (is : Bool)
    → flat_map (λ r. r.text) (cond is (row ∷ rows) rows) ≡ cond is row.text [] ++ flat_map (λ r. r.text) rows
one_more row rows true = refl
one_more row rows false = refl

pub rows_become : (by : By) (rows : List Row) (before after : Texts) → Become by rows before after → (part : Part)
    → Appends (before part) (after part) (flat_map (λ r. r.text) (rows_of by part rows))
rows_become by [] before after become part = keeps-appends (before part) (after part) (become part)
rows_become by (row ∷ rows) before after become part =
    subst (λ (t : List ℕ). Appends (before part) (after part) t)
    (sym (one_more row (rows_of by part rows) (is_part part (part_by by row.link row.moment))))
    (appends-then (before part) (become.0 part) (after part) (cond (is_part part (part_by by row.link row.moment)) row.text [])
    (flat_map (λ r. r.text) (rows_of by part rows)) (become.1 part)
    (rows_become by rows become.0 after become.2 part))

-- The text of counts is that of their records, whose cells are written already.
use Rattle.std.proofs.Common.{◌≡◌, ℕ, List, [], ◌∷◌, ◌++◌, map, refl, ap, sym, ◌∙◌}
use Rattle.std.proofs.lemmas.List.Concat.{flat_map-cons}
use Rattle.std.specs.List.{flat_map}
use Rattle.smq_present.specs.join.Lines.{MessageLineValue}
use Rattle.smq_report.specs.Lines.{csv_record}
use Rattle.smq_count.specs.declared.counted.Counted.{Counted}
use Rattle.smq_count.specs.declared.counting.Counting.{Counting}
use Rattle.smq_count.specs.Counts.{count_columns, count_fields, counted_fields, counts_of, counts_text}

through : {A : Type 0} (fields : A → List (List ℕ)) (xs : List A) → flat_map csv_record (map fields xs) ≡ flat_map (λ x. csv_record (fields x)) xs
through fields [] = refl
through fields (x ∷ xs) =
    flat_map-cons csv_record (fields x) (map fields xs)
    ∙ ap (λ (rest : List ℕ). csv_record (fields x) ++ rest) (through fields xs)
    ∙ sym (flat_map-cons (λ y. csv_record (fields y)) x xs)

pub text-is : (counting : Counting) (lines : List MessageLineValue) (names : List (List ℕ)) (counted : List Counted)
    → names ≡ count_columns counting → map counted_fields counted ≡ map count_fields (counts_of counting lines)
    → csv_record names ++ flat_map (λ count. csv_record (counted_fields count)) counted ≡ counts_text counting lines
text-is counting lines names counted same are =
    let records = sym (through counted_fields counted) ∙ ap (flat_map csv_record) are ∙ through count_fields (counts_of counting lines) in
    (λ i. csv_record (same i) ++ records i)

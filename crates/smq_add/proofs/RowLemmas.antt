-- Rows that rise, and a row more.
use Rattle.std.proofs.Common.{◌≡◌, ◌∙◌, ◌+◌, ◌≤◌, ◌++◌, ◌∷◌, [], ℕ, List, ap, append-nil, append_assoc, arith, length, length-append, map, refl, subst, sym, true}
use Rattle.std.proofs.lemmas.List.{map-append}
use Rattle.std.proofs.lemmas.List.Concat.{flat_map-append}
use Rattle.std.proofs.lemmas.List.Elements.{All-append, All-cons, All-nil}
use Rattle.std.specs.Prelude.{Bool}
use Rattle.std.specs.declared.cmp.Ordering.{Ordering}
use Rattle.std.specs.declared.cmp.Ordering.TheVariants.{Less, Equal, Greater}
use Rattle.std.specs.Ordering.{is_lt}
use Rattle.smq_add.specs.declared.row.Row.{Row}
use Rattle.smq_add.specs.Rows.{AreRows, MayStand, Rise, key_cmp, row_line, rows_text}
use Rattle.smq_add.specs.Sums.{as_added}

rise-two : (before : List Row) (last row : Row) → key_cmp last.key row.key ≡ Less → Rise (before ++ last ∷ []) → Rise ((before ++ last ∷ []) ++ row ∷ [])
rise-two [] last row less rise = (less, tt)
rise-two (first ∷ []) last row less rise = (rise.0, (less, tt))
rise-two (first ∷ next ∷ more) last row less rise = (rise.0, rise-two (next ∷ more) last row less rise.1)

-- a row comes after the last
pub rise-more : (rows before : List Row) (last row : Row) → rows ≡ before ++ last ∷ [] → key_cmp last.key row.key ≡ Less → Rise rows → Rise (rows ++ row ∷ [])
rise-more rows before last row is less rise =
    subst (λ (all : List Row). Rise (all ++ row ∷ [])) (sym is) (rise-two before last row less (subst Rise is rise))

pub told_less : (order : Ordering) → is_lt order ≡ true → order ≡ Less
told_less Less e = refl
told_less Equal e = cc
told_less Greater e = cc

-- the same of rows that are seen in a slice
pub rises : (rows slice : List Row) (row : Row) → slice ≡ rows → (Rise slice → Rise (slice ++ row ∷ [])) → Rise rows → Rise (rows ++ row ∷ [])
rises rows slice row is more = subst (λ (l : List Row). Rise l → Rise (l ++ row ∷ [])) is more

-- a line more is counted
pub few-more : (number : ℕ) (text left line rest : List ℕ) → left ≡ line ++ 10 ∷ rest → number + length left ≤ length text
    → (number + 1) + length rest ≤ length text
few-more number text left line rest is few =
    let longer : length left ≡ length line + length (10 ∷ rest) = ap length is ∙ length-append line (10 ∷ rest) in
    omega (arith, longer, few)

-- the line of a row more is read
pub text-more : (rows : List Row) (row : Row) (text left line rest : List ℕ) → rows_text rows ++ left ≡ text → left ≡ line ++ 10 ∷ rest
    → line ++ 10 ∷ [] ≡ row_line row → rows_text (rows ++ row ∷ []) ++ rest ≡ text
text-more rows row text left line rest so_far split is =
    ap (λ (t : List ℕ). t ++ rest) (flat_map-append row_line rows (row ∷ []) ∙ ap (λ (t : List ℕ). rows_text rows ++ t) (append-nil (row_line row) ∙ sym is))
    ∙ append_assoc (rows_text rows) (line ++ 10 ∷ []) rest
    ∙ ap (λ (t : List ℕ). rows_text rows ++ t) (append_assoc line (10 ∷ []) rest ∙ sym split) ∙ so_far

-- a row more is one of a report
pub rows-more : (with_lengths : Bool) (rows : List Row) (row : Row) → AreRows with_lengths rows → MayStand with_lengths row.key row.count
    → Rise (rows ++ row ∷ []) → AreRows with_lengths (rows ++ row ∷ [])
rows-more with_lengths rows row are stands rise = record {
  each = All-append (λ (row : Row). MayStand with_lengths row.key row.count) rows (row ∷ []) are.each
      (All-cons (λ (row : Row). MayStand with_lengths row.key row.count) row [] stands (All-nil (λ (row : Row). MayStand with_lengths row.key row.count)));
  rise = rise;
}

-- a row more is added
pub added-more : (of_periods : Bool) (before done : List Row) (row added : Row) → added ≡ as_added of_periods row
    → (before ++ map (as_added of_periods) done) ++ added ∷ [] ≡ before ++ map (as_added of_periods) (done ++ row ∷ [])
added-more of_periods before done row added is =
    ap (λ (r : Row). (before ++ map (as_added of_periods) done) ++ r ∷ []) is
    ∙ append_assoc before (map (as_added of_periods) done) (as_added of_periods row ∷ [])
    ∙ ap (λ (l : List Row). before ++ l) (sym (map-append (as_added of_periods) done (row ∷ [])))

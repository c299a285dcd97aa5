-- Whether tables and facts are equal.
use Rattle.std.specs.Prelude.{Bool, ◌&&◌, nat_eq}
use Rattle.std.specs.Cmp.{IsEquivalence}
use Rattle.std.specs.Cmp.Lexicographic.{pointwise}
use Rattle.std.proofs.lemmas.Cmp.{on_equiv, and_equiv, lists_equiv, eq_by_cmp_equiv, nat_eq_equiv}
use Rattle.std.specs.FinMap as fin
use Rattle.smq_tally.specs.declared.fact.Fact.{Fact}
use Rattle.smq_tally.specs.contracts.fact.FactPartialEq.TheImpl as fact_block
use Rattle.smq_tally.specs.contracts.outcome.OutcomePartialEq.TheImpl as outcome_eq
use Rattle.smq_tally.specs.Rows.{same_count_key}
use Rattle.smq_tally.specs.Tables.{ShownRow, TablesKept, TablesValue}
use Rattle.smq_tally.specs.within.CountOrder.{count_keys_total, kept_value_eq}
use Rattle.smq_tally.specs.within.ListOrder.{same_listed, listed_total}

-- whether two entries have equal keys and equal values
abbrev pub both_eq : {K V : Type 0} → (K → K → Bool) → (V → V → Bool) → K × V → K × V → Bool
both_eq eq same p q = eq p.0 q.0 && same p.1 q.1

-- whether two tables have the same keys with the same counts, and the same listed places
abbrev pub tables_eq : TablesValue → TablesValue → Bool
tables_eq t u =
    pointwise (both_eq same_count_key nat_eq) (fin.entries t.counts) (fin.entries u.counts)
    && pointwise same_listed (fin.keys t.places) (fin.keys u.places)

-- that is an equivalence
pub tables_eq_laws : IsEquivalence tables_eq
tables_eq_laws =
    and_equiv
    (on_equiv (λ t. fin.entries t.counts)
    (lists_equiv (and_equiv (on_equiv (λ p. p.0) (eq_by_cmp_equiv count_keys_total)) (on_equiv (λ p. p.1) nat_eq_equiv))))
    (on_equiv (λ t. fin.keys t.places) (lists_equiv (eq_by_cmp_equiv listed_total)))

-- whether two tables show the same
abbrev pub shown_eq : TablesKept → TablesKept → Bool
shown_eq t u = tables_eq t.shown u.shown

-- that is an equivalence
pub shown_eq_laws : IsEquivalence shown_eq
shown_eq_laws = on_equiv (λ t. t.shown) tables_eq_laws

-- whether two rows as they are shown are equal
abbrev pub same_shown : ShownRow → ShownRow → Bool
same_shown p q = (kept_value_eq p.0 q.0 && (outcome_eq.ghosts).eq p.1 q.1) && nat_eq p.2 q.2

-- `==` of facts
abbrev pub fact_eq : Fact → Fact → Bool
fact_eq = (fact_block.ghosts).eq

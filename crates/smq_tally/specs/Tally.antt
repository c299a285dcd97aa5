-- What a tally holds: facts by place, and notes, now and when it was last settled.
use Rattle.std.specs.FinMap as fin
use Rattle.std.specs.FinSet as set
use Rattle.std.specs.Prelude.{ℕ, refl}
use Rattle.std.specs.Coded.{Coded, code_by, coded×, coded_ℕ}
use Rattle.smq_kit.specs.contracts.place.Place as place_block
use Rattle.smq_kit.specs.Orders.{place_cmp}
use Rattle.smq_tally.specs.contracts.fact.Fact as fact_block
use Rattle.smq_tally.specs.contracts.list.Listed as listed_block
use Rattle.smq_tally.specs.declared.fact.Fact.{Fact}
use Rattle.smq_tally.specs.Lists.{listed_cmp}

-- the facts, each at its place, and the listed places that were noted
pub record Held : Type 0 where
  pub facts : fin.FinMap place_cmp Fact
  pub notes : set.FinSet listed_cmp

-- these, what they were when the tally was last settled, its touches, and how many changes of facts `undo` would take back
pub record TallyValue : Type 0 where
  pub facts : fin.FinMap place_cmp Fact
  pub notes : set.FinSet listed_cmp
  pub settled : Held
  pub touches : ℕ
  pub pending : ℕ

-- what is held is stored as these two
abbrev pub held_code : Coded Held
held_code =
    code_by (fin.FinMap place_cmp Fact × set.FinSet listed_cmp)
    (coded× (fin.code (place_block.the_row).coded (fact_block.the_row).coded) (set.code (listed_block.the_row).coded))
    (λ t. (t.facts, t.notes)) (λ m. record { facts = m.0; notes = m.1 }) (λ _. refl)

-- what a tally holds now
abbrev pub held_in : TallyValue → Held
held_in t = record { facts = t.facts; notes = t.notes }

-- a tally is stored as what it holds now and held, and two numbers
abbrev pub tally_code : Coded TallyValue
tally_code =
    code_by (Held × (Held × (ℕ × ℕ))) (coded× held_code (coded× held_code (coded× coded_ℕ coded_ℕ)))
    (λ t. (held_in t, (t.settled, (t.touches, t.pending))))
    (λ m. record { facts = m.0.facts; notes = m.0.notes; settled = m.1.0; touches = m.1.1.0; pending = m.1.1.1 }) (λ _. refl)

-- a tally of nothing
abbrev pub opening_tally : TallyValue
opening_tally = record { facts = fin.empty; notes = fin.empty; settled = record { facts = fin.empty; notes = fin.empty }; touches = 0; pending = 0 }

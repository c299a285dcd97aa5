use Rattle.std.proofs.Common.{◌≡◌, true, false, Option, ℕ, ap, sym, ◌∙◌, subst, get_or}
use Rattle.std.specs.Prelude.{◌==◌}
use Rattle.smq_scratch.specs.within.Groups.{HasGroup, no_group, number_in}
use Rattle.smq_scratch.proofs.Grouped.{kept-decider, kept-shared}
use Rattle.smq_scratch.proofs.submitted.decision.Goals as goal

pub returns-then-is_single-clause-shared : goal.returns-then-is_single-clause-shared
returns-then-is_single-clause-shared c = λ submits receipts key h.
    let groups = c.args.groups.now in
    let n = c.in-Some.number in
    let single : (number_in (get_or groups n no_group).found == 1) ≡ true =
    ap (λ o. number_in o == 1) (sym c.group_at-found.ensures.found) ∙ sym c.is_single.ensures ∙ c.if-is_single.true in
    kept-shared groups n submits receipts key true (subst (λ (o : Option ℕ). HasGroup groups submits receipts key o) c.in-Some.is h) single

pub returns-then-is_single-clause-decider : goal.returns-then-is_single-clause-decider
returns-then-is_single-clause-decider c = λ submits receipts key h.
    let groups = c.args.groups.now in
    let n = c.in-Some.number in
    let single : (number_in (get_or groups n no_group).found == 1) ≡ true =
    ap (λ o. number_in o == 1) (sym c.group_at-found.ensures.found) ∙ sym c.is_single.ensures ∙ c.if-is_single.true in
    (c.group_at-found.ensures.decider ∙ kept-decider groups n submits receipts key true (subst (λ (o : Option ℕ). HasGroup groups submits receipts key o) c.in-Some.is h) single)

pub returns-else-is_single-clause-shared : goal.returns-else-is_single-clause-shared
returns-else-is_single-clause-shared c = λ submits receipts key h.
    let groups = c.args.groups.now in
    let n = c.in-Some.number in
    let single : (number_in (get_or groups n no_group).found == 1) ≡ false =
    ap (λ o. number_in o == 1) (sym c.group_at-found.ensures.found) ∙ sym c.is_single.ensures ∙ c.if-is_single.false in
    kept-shared groups n submits receipts key false (subst (λ (o : Option ℕ). HasGroup groups submits receipts key o) c.in-Some.is h) single

pub returns-else-is_single-clause-decider : goal.returns-else-is_single-clause-decider
returns-else-is_single-clause-decider c = λ submits receipts key h.
    let groups = c.args.groups.now in
    let n = c.in-Some.number in
    let single : (number_in (get_or groups n no_group).found == 1) ≡ false =
    ap (λ o. number_in o == 1) (sym c.group_at-found.ensures.found) ∙ sym c.is_single.ensures ∙ c.if-is_single.false in
    kept-decider groups n submits receipts key false (subst (λ (o : Option ℕ). HasGroup groups submits receipts key o) c.in-Some.is h) single

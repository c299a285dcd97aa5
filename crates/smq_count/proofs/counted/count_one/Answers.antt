use Rattle.std.proofs.Common.{◌≡◌, ◌+◌, ℕ, Option, ap, ◌∙◌, refl, arith}
use Rattle.std.specs.Prelude.{unwrap_or}
use Rattle.std.specs.FinMap.{put}
use Rattle.smq_count.specs.Cells.{tuple_cmp}
use Rattle.smq_count.specs.within.Kept.{kept, number_kept}
use Rattle.smq_count.proofs.Tallied.{seen-find, seen-insert}
use Rattle.smq_count.proofs.counted.count_one.Goals as goal

pub overflow_add-number : goal.overflow_add-number
overflow_add-number c =
    let number : c.unwrap_or-number.result ≡ number_kept c.args.counts.now.entries c.args.tuple.items =
    c.unwrap_or-number.ensures
    ∙ ap (λ (n : Option ℕ). unwrap_or n 0) (c.copied.ensures ∙ c.get.ensures.value ∙ seen-find (λ v. v.items) _ tuple_cmp (λ a b. refl) c.args.counts.now.entries c.args.tuple) in
    omega (arith, number)

pub returns-clause-ok : goal.returns-clause-ok
returns-clause-ok c =
    let number : c.unwrap_or-number.result ≡ number_kept c.args.counts.now.entries c.args.tuple.items =
    c.unwrap_or-number.ensures
    ∙ ap (λ (n : Option ℕ). unwrap_or n 0) (c.copied.ensures ∙ c.get.ensures.value ∙ seen-find (λ v. v.items) _ tuple_cmp (λ a b. refl) c.args.counts.now.entries c.args.tuple) in
    ap kept c.in_ok-insert.ensures.entries
    ∙ seen-insert (λ v. v.items) _ tuple_cmp (λ a b. refl) c.args.counts.now.entries c.args.tuple (c.unwrap_or-number.result + 1)
    ∙ (λ i. put tuple_cmp c.args.tuple.items (number i + 1) (kept c.args.counts.now.entries))

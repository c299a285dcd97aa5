use Rattle.std.proofs.Common.{◌≡◌, length, ap, ◌∙◌, arith}
use Rattle.std.specs.Int.{from_bool}
use Rattle.smq_shelf.proofs.Vacancies.{vacancies-length}
use Rattle.smq_shelf.proofs.kept.most_vacant_after.Goals as goal

pub returns-clause-vacated : goal.returns-clause-vacated
returns-clause-vacated g c = λ taken le.
    let one : c.from.result ≡ 1 = c.from.ensures ∙ ap from_bool taken in
    let there = vacancies-length c.args.shelf.now.entries in
    let count : c.len.result ≡ length c.args.shelf.now.entries = c.len.ensures.len ∙ ap length c.map.ensures in
    omega (arith, one, there, count, c.len.ensures.small, c.saturating_add.ensures, le)

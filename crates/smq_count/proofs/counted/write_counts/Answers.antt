use Rattle.std.proofs.Common.{◌≡◌, ◌∙◌, ℕ, List, OnOk, IfErr, ap, map, rules, subst}
use Rattle.std.proofs.KnownBytes.{Appends-nil}
use Rattle.std.specs.Io.KnownBytes.{Appends}
use Rattle.smq_report.specs.Beginnings.{AppendsBeginning}
use Rattle.smq_report.proofs.BeginningLemmas.{whatever_error}
use Rattle.smq_count.specs.Counts.{count_columns, count_fields, counted_fields}
use Rattle.smq_count.proofs.Texts.{text-is}
use Rattle.smq_count.proofs.counted.write_counts.Goals as goal

pub returns-in_err-counted-clause-begun : goal.returns-in_err-counted-clause-begun
returns-in_err-counted-clause-begun g c lines are = whatever_error c.from_residual-in_err-counted.result _ (0, Appends-nil _)

pub returns-clause-ok : goal.returns-clause-ok
returns-clause-ok g c lines are =
    let names : map (λ name. name.now) c.as_slice-3.result.now ≡ count_columns c.args.counting.now = search rules in
    let made : map counted_fields c.as_slice-4.result.now ≡ map count_fields c.args.counts = search rules in
    let text = text-is c.args.counting.now lines _ c.as_slice-4.result.now names (made ∙ ap (map count_fields) are) in
    subst (λ (t : List ℕ). OnOk c.write_lines.result (Appends (g.W.Write.contents c.args.writer.now) (g.W.Write.contents c.write_lines.new.writer) t)) text c.write_lines.ensures.ok

pub returns-clause-begun : goal.returns-clause-begun
returns-clause-begun g c lines are =
    let names : map (λ name. name.now) c.as_slice-3.result.now ≡ count_columns c.args.counting.now = search rules in
    let made : map counted_fields c.as_slice-4.result.now ≡ map count_fields c.args.counts = search rules in
    let text = text-is c.args.counting.now lines _ c.as_slice-4.result.now names (made ∙ ap (map count_fields) are) in
    subst (λ (t : List ℕ). IfErr c.write_lines.result (λ fault. AppendsBeginning (g.W.Write.contents c.args.writer.now) (g.W.Write.contents c.write_lines.new.writer) t)) text c.write_lines.ensures.begun

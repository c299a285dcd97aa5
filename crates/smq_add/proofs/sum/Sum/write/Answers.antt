use Rattle.std.proofs.Common.{◌≡◌, ◌++◌, ◌∷◌, [], ℕ, List, rules}
use Rattle.std.proofs.KnownBytes.{Appends-kept}
use Rattle.std.specs.Prelude.{string_bytes}
use Rattle.smq_report.proofs.BeginningLemmas.{appends-then, begins-same, begins-then, begins-whole, whatever_error}
use Rattle.smq_report.proofs.PageLemmas.{gathers-all, gathers-cut, gathers-next, gathers-stop}
use Rattle.smq_add.specs.declared.row.Key.{Key}
use Rattle.smq_add.specs.Rows.{counts_text, line_of}
use Rattle.smq_add.proofs.sum.Sum.write.Goals as goal

abbrev line : Key × ℕ → List ℕ
line entry = line_of entry.0 entry.1

pub loop-key-preserved : goal.loop-key-preserved
loop-key-preserved g c =
    let first : c.loop-key.key-iterator ≡ (c.in-Some.key, c.in-Some.count) ∷ c.next.new.self = search rules in
    gathers-next line _ _ _ _ _ _ _ _ _ _ first (rw c.in_ok-push_line.ensures at c.in_ok-send_full.ensures.ok) c.loop-key.invariant

pub returns-in_err-push_line-clause-begun : goal.returns-in_err-push_line-clause-begun
returns-in_err-push_line-clause-begun g c =
    let whole : string_bytes c.new-page.result ++ counts_text c.args.self ≡ counts_text c.args.self = search rules in
    whatever_error c.from_residual.result _ (begins-same _ _ _ _ (gathers-stop line _ _ _ _ _ _ c.loop-key.invariant) whole)

pub returns-in_err-send_full-clause-begun : goal.returns-in_err-send_full-clause-begun
returns-in_err-send_full-clause-begun g c =
    let first : c.loop-key.key-iterator ≡ (c.in-Some.key, c.in-Some.count) ∷ c.next.new.self = search rules in
    let whole : string_bytes c.new-page.result ++ counts_text c.args.self ≡ counts_text c.args.self = search rules in
    whatever_error c.from_residual-in_err-send_full.result _ (begins-same _ _ _ _
    (gathers-cut line _ _ _ _ _ _ _ _ _ _ first c.in_ok-push_line.ensures c.in_err-send_full.ensures.begun c.loop-key.invariant) whole)

pub returns-in_err-send-clause-begun : goal.returns-in_err-send-clause-begun
returns-in_err-send-clause-begun g c =
    let none : c.loop-key.key-iterator ≡ [] = search rules in
    let whole : string_bytes c.new-page.result ++ counts_text c.args.self ≡ counts_text c.args.self = search rules in
    whatever_error c.from_residual-in_err-send.result _
    (begins-then _ _ _ _ _ _ (gathers-all line _ _ _ _ _ _ none c.loop-key.invariant) whole c.in_err-send.ensures.begun)

pub returns-in_err-flush-clause-begun : goal.returns-in_err-flush-clause-begun
returns-in_err-flush-clause-begun g c =
    let none : c.loop-key.key-iterator ≡ [] = search rules in
    let whole : string_bytes c.new-page.result ++ counts_text c.args.self ≡ counts_text c.args.self = search rules in
    let written = appends-then _ _ _ _ _ _ (gathers-all line _ _ _ _ _ _ none c.loop-key.invariant) whole c.in_ok-send.ensures.written in
    whatever_error c.from_residual-in_err-flush.result _ (begins-whole _ _ _ (Appends-kept _ _ _ _ written c.in_err-flush.ensures.bytes))

pub returns-clause-ok : goal.returns-clause-ok
returns-clause-ok g c =
    let none : c.loop-key.key-iterator ≡ [] = search rules in
    let whole : string_bytes c.new-page.result ++ counts_text c.args.self ≡ counts_text c.args.self = search rules in
    let written = appends-then _ _ _ _ _ _ (gathers-all line _ _ _ _ _ _ none c.loop-key.invariant) whole c.in_ok-send.ensures.written in
    Appends-kept _ _ _ _ written c.in_ok-flush.ensures.bytes

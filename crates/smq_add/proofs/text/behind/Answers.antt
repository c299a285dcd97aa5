use Rattle.std.proofs.Common.{◌≡◌, ◌∙◌, ◌++◌, ℕ, List, length, take, arith, ap}
use Rattle.std.proofs.lemmas.List.{take-append-le, take_all}
use Rattle.std.proofs.lemmas.Slice.Eq.{bytes_eq-Decides}
use Rattle.smq_add.proofs.text.behind.Goals as goal

begins : (text beginning rest : List ℕ) → text ≡ beginning ++ rest → take (length beginning) text ≡ beginning
begins text beginning rest is =
    ap (take (length beginning)) is ∙ take-append-le (length beginning) beginning rest (omega arith)
    ∙ take_all (length beginning) beginning (omega arith)

pub returns-else-eq-clause-none : goal.returns-else-eq-clause-none
returns-else-eq-clause-none c rest is =
    let same = (bytes_eq-Decides c.split_at.result.0.now c.args.beginning.now).1
    (c.split_at.ensures.front ∙ begins c.args.text.now c.args.beginning.now rest is) in
    let told = c.eq.ensures in
    let not = c.if-eq.false in
    cc

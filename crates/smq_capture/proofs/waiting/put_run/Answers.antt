use Rattle.std.proofs.Common.{◌≡◌, ◌≢◌, ◌∙◌, ◌-◌, suc, ℕ, get_or, length, ap, arith}
use Rattle.smq_capture.specs.declared.waiting.Run.{Run}
use Rattle.smq_capture.proofs.Runs.{count-within, grows, kept-grown, other-last, runs-push, sessions-push}
use Rattle.smq_capture.proofs.waiting.put_run.Goals as goal
use Rattle.smq_capture.proofs.waiting.put_run.Goals.{then-length-gt0+else-last-session, else-length-gt0}

pub overflow_add-last : goal.overflow_add-last
overflow_add-last c =
    let size : c.len-length.result ≡ length c.args.runs.now.items = c.len-length.ensures ∙ c.args.runs.now.ok.0 in
    let most = count-within c.args.runs.now.items (c.len-length.result - 1) c.index-last.result.now (omega arith) in
    let e = ap (λ (r : Run). r.count) c.index-last.ensures in
    omega (arith, most, e)

pub returns-then-last-session-clause-kept : goal.returns-then-last-session-clause-kept
returns-then-last-session-clause-kept c =
    let size : c.len-length.result ≡ length c.args.runs.now.items = c.len-length.ensures ∙ c.args.runs.now.ok.0 in
    kept-grown c.args.runs.now.items (c.len-length.result - 1) c.args.count c.args.session c.index-last.result.now (omega arith)
    c.index-last.ensures c.if-last-session.true c.requires.runs_are

pub returns-then-last-session-clause-ok : goal.returns-then-last-session-clause-ok
returns-then-last-session-clause-ok c =
    let size : c.len-length.result ≡ length c.args.runs.now.items = c.len-length.ensures ∙ c.args.runs.now.ok.0 in
    grows c.args.runs.now.items (c.len-length.result - 1) c.args.count c.args.session c.index-last.result.now (omega arith)
    c.index-last.ensures c.if-last-session.true

pub returns-clause-ok : goal.returns-clause-ok
returns-clause-ok c = rw c.in_ok-push.ensures.items (sessions-push c.args.runs.now.items c.args.count c.args.session)

others : (c : goal.In_ok-push) → (n : ℕ) (d : Run) → length c.args.runs.now.items ≡ suc n
    → (get_or c.args.runs.now.items n d).session ≢ c.args.session
others c =
    let size : c.len-length.result ≡ length c.args.runs.now.items = c.len-length.ensures ∙ c.args.runs.now.ok.0 in
    elim c.if-length-gt0.branch [
      | then-length-gt0+else-last-session w ↦
          other-last c.args.runs.now.items (c.len-length.result - 1) c.args.session w.index-last.result.now (omega arith)
          w.index-last.ensures w.if-last-session.false
      | else-length-gt0 w ↦ λ n d e. absurd (omega arith)
    ]

pub returns-clause-kept : goal.returns-clause-kept
returns-clause-kept c =
    rw c.in_ok-push.ensures.items
    (runs-push c.args.runs.now.items c.args.count c.args.session c.requires.some c.requires.runs_are (others c))

use Rattle.std.proofs.Common.{◌≡◌, length, ◌∙◌}
use Rattle.smq_window.proofs.Keeps.{opened, opened-same}
use Rattle.smq_window.proofs.periods.open.Goals as goal

pub returns-then-is_newest : goal.returns-then-is_newest
returns-then-is_newest c =
    let size : c.len-count.result ≡ length c.args.periods.now.items = c.len-count.ensures ∙ c.args.periods.now.ok.0 in
    let f = rw c.as_slice.ensures.value at (c.is_newest.ensures.newest c.if-is_newest.true) in
    rw size (opened-same c.args.present c.args.periods.now.items f.0 f.1)

pub returns : goal.returns
returns c =
    let size : c.len-count.result ≡ length c.args.periods.now.items = c.len-count.ensures ∙ c.args.periods.now.ok.0 in
    let f = rw c.as_slice.ensures.value at (c.is_newest.ensures.older c.if-is_newest.false) in
    rw (size, c.in_ok-push.ensures.items) (opened c.args.present c.args.periods.now.items c.new.result c.new.ensures f)

use Rattle.std.proofs.Common.{◌≡◌, ap, ◌∙◌}
use Rattle.smq_scratch.proofs.Collected.{collects-same}
use Rattle.smq_scratch.proofs.from_nothing.decode_all.Goals as goal

pub returns : goal.returns
returns g c =
    let h = c.in_ok-all.ensures in
    let slice : c.map.result.base.base.slice.now ≡ c.args.sessions.now =
    ap (λ it. it.base.slice.now) c.map.ensures.base ∙ (ap (λ it. it.slice.now) c.with_min_len.ensures.base ∙ c.par_iter.ensures) in
    collects-same (λ v. v.items) c.args.sessions.now h.1.0 h.0 c.in_ok-all.all (h.1.1 ∙ slice) h.1.2 h.2

use Rattle.std.specs.Prelude.{string_bytes}
use Rattle.smq_deal.proofs.Lines.{line_is, window-parts}
use Rattle.smq_deal.proofs.head.window_row.Goals as goal

pub returns : goal.returns
returns c = line_is c.format.result string_bytes _ _ c.format.ensures.ok
    (window-parts c.args.link c.args.window c.milliseconds-milliseconds.result c.milliseconds-milliseconds.ensures.value)

-- What is written from here on of the links that are left makes the whole.
use Rattle.std.proofs.Common.{ℕ, List, Option}
use Rattle.std.specs.List.{flat_map}
use Rattle.std.specs.Io.KnownBytes.{Appends}
use Rattle.smq_deal.specs.Texts.{form_row}
use Rattle.smq_deal.proofs.head.Head.write_forms.Given as goal

abbrev pub invariant-loop-link : goal.invariant-loop-link
invariant-loop-link g l = (final : Option (List ℕ))
    → Appends (g.W.Write.contents l.writer) final (flat_map form_row l.link-iterator)
    → Appends (g.W.Write.contents l.fn.writer) final (flat_map form_row l.self.forms.entries)

-- The keys so far, and those of the messages that are left, are what was there and those of all.
use Rattle.std.proofs.Common.{◌≡◌}
use Rattle.std.specs.List.{flat_map}
use Rattle.smq_scratch.specs.Lines.{message_lines}
use Rattle.smq_deal.specs.Open.{Reaches, open_message}
use Rattle.smq_deal.proofs.open.Open.add_messages.Given as goal

abbrev pub invariant-loop-line : goal.invariant-loop-line
invariant-loop-line l = record {
  moment : l.self.moment ≡ l.initial.self.moment;
  keys : Reaches l.initial.self.keys l.self.keys
      (flat_map (open_message l.present.settings l.initial.self.moment) l.line-iterator)
      (flat_map (open_message l.present.settings l.initial.self.moment) (message_lines l.present));
}

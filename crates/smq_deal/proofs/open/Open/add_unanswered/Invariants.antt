-- The keys so far, and those of the sessions that are left, are what was there and those of all.
use Rattle.std.proofs.Common.{◌≡◌, drop}
use Rattle.std.specs.List.{flat_map}
use Rattle.smq_present.specs.within.Sourced.{sourced_of}
use Rattle.smq_deal.specs.Open.{Reaches, unanswered_in}
use Rattle.smq_deal.proofs.open.Open.add_unanswered.Given as goal

abbrev pub invariant-loop-view : goal.invariant-loop-view
invariant-loop-view l = record {
  moment : l.self.moment ≡ l.initial.self.moment;
  keys : Reaches l.initial.self.keys l.self.keys
      (flat_map (unanswered_in l.present.settings l.initial.self.moment) (drop l.view-index l.view-items))
      (flat_map (unanswered_in l.present.settings l.initial.self.moment) (sourced_of l.present));
}

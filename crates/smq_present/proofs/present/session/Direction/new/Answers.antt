use Rattle.std.proofs.Common.{sym, ◌∙◌, arith}
use Rattle.smq_frame.proofs.Streams.{tail_of-nil}
use Rattle.smq_present.proofs.lemmas.present.Growth.{kept_pdus-nil, last_moment-nil}
use Rattle.smq_present.proofs.present.session.Direction.new.Goals as goal

pub invariant_of-result : goal.invariant_of-result
invariant_of-result c = rw (c.new.ensures.items, c.new-2.ensures.items) (record {
  tail_is = c.at.ensures
      ∙ sym tail_of-nil;
  pdus_are = sym kept_pdus-nil;
  last_is = c.epoch.ensures ∙ sym last_moment-nil;
  in_limit = omega arith;
})

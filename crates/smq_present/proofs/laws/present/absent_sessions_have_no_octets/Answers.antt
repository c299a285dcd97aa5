use Rattle.std.proofs.Common.{Option, ap, ◌∙◌}
use Rattle.smq_frame.specs.Stream.{values}
use Rattle.smq_frame.specs.Tail.{tail_of}
use Rattle.smq_frame.proofs.Streams.{tail_of-nil}
use Rattle.smq_present.specs.declared.present.session.Session.{Session}
use Rattle.smq_present.specs.present.Present.{octets_in}
use Rattle.smq_present.proofs.laws.present.absent_sessions_have_no_octets.Goals as goal

pub returns : goal.returns
returns c p number dir absent = ap (λ (o : Option Session). tail_of (values (octets_in dir o))) absent ∙ tail_of-nil

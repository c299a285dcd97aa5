use Rattle.std.proofs.Common.{Option, sym, ap, ◌∙◌}
use Rattle.smq_kit.specs.Replies.{first_of}
use Rattle.smq_present.specs.declared.present.session.Session.{Session}
use Rattle.smq_present.specs.present.Batch.{BatchValue}
use Rattle.smq_present.specs.present.Present.{session_of}
use Rattle.smq_present.specs.present.Replies.{append_refusals}
use Rattle.smq_present.proofs.lemmas.present.RefusedBatches.{in-step}
use Rattle.smq_present.proofs.present.present.Present.put_batch.Goals as goal

pub put_batch_in_step-requires : goal.put_batch_in_step-requires
put_batch_in_step-requires c =
    let p = c.args.self.now in
    let b = c.args.batch in
    record {
      in_step = in-step (session_of p b.session.0) b
          (ap (λ (s : Option Session). first_of (append_refusals s b))
          (ap (session_of p) (sym (ap (λ (b : BatchValue). b.session.0) c.batch.view_is)) ∙ sym c.session.ensures)
          ∙ sym c.append_refusal.ensures ∙ c.in_default.is);
    }

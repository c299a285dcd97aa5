use Rattle.std.proofs.Common.{[], Option, Some, sym, ap, ◌∙◌}
use Rattle.std.specs.Option.{option_copied}
use Rattle.smq_kit.specs.Replies.{first_of}
use Rattle.smq_present.specs.declared.present.session.Session.{Session}
use Rattle.smq_present.specs.present.Replies.{append_refusals}
use Rattle.smq_present.proofs.lemmas.present.BatchReplies.{new_refusals}
use Rattle.smq_present.proofs.present.present.append_refusal.Goals as goal

pub returns-in-None : goal.returns-in-None
returns-in-None c =
    c.refusal-in-None.ensures
    ∙ ap (λ (s : Session). first_of (append_refusals (Some s) c.args.batch.now))
    (c.new.ensures ∙ (λ i. record { link = (c.batch.view_is i).link; client = []; centre = [] }))
    ∙ new_refusals c.args.batch.now
    ∙ ap (λ (s : Option Session). first_of (append_refusals s c.args.batch.now)) (sym (ap option_copied c.in-None.is))

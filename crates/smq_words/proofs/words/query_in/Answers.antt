use Rattle.std.proofs.Common.{◌∙◌, ap, codes}
use Rattle.std.specs.Prelude.{unwrap_or}
use Rattle.clap.specs.Words.{found_of}
use Rattle.clap.proofs.WalkLemmas.{first_value-rows}
use Rattle.smq_words.proofs.words.query_in.Goals as goal

pub returns-clause-pick : goal.returns-clause-pick
returns-clause-pick c pick h =
    c.named_pick.ensures pick (c.get_str.ensures ∙ first_value-rows (found_of c.args.entered.now) (codes "NAME") ∙ h)

pub returns-clause-format : goal.returns-clause-format
returns-clause-format c format h =
    let given = c.get_str-2.ensures ∙ first_value-rows (found_of c.args.entered.now) (codes "format") in
    c.named_format.ensures format (ap (λ o. unwrap_or o (codes "csv")) given ∙ h)

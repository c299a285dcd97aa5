use Rattle.std.proofs.Common.{◌∙◌}
use Rattle.std.proofs.lemmas.Result.{IfOk-weaker}
use Rattle.clap.specs.Words.{found_of}
use Rattle.clap.proofs.WalkLemmas.{first_value-rows}
use Rattle.smq_words.proofs.words.given_text.Goals as goal

pub returns : goal.returns
returns c =
    IfOk-weaker c.copied_text.result _ _
    (λ given h. h ∙ c.get_str.ensures ∙ first_value-rows (found_of c.args.entered.now) c.args.id.now) c.copied_text.ensures

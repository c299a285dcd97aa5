use Rattle.std.proofs.Common.{◌∙◌, ap, codes}
use Rattle.std.specs.Prelude.{unwrap_or}
use Rattle.clap.specs.Matches.{one_text}
use Rattle.clap.specs.Words.{found_of}
use Rattle.clap.proofs.WalkLemmas.{one_text-rows}
use Rattle.smq_words.proofs.ArgumentLemmas.{flag_is}
use Rattle.smq_words.proofs.words.is_given.Goals as goal

pub returns : goal.returns
returns c given has =
    let found = found_of c.args.entered.now in
    flag_is (one_text found c.args.id.now) c.get_flag.result given c.get_flag.ensures.none c.get_flag.ensures.value c.get_flag.ensures.other
    (ap (λ o. unwrap_or o (codes "false")) (one_text-rows found c.args.id.now) ∙ has)

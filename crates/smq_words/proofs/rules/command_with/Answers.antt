use Rattle.std.proofs.Common.{◌∙◌, ap}
use Rattle.std.proofs.lemmas.Result.{IfOk-weaker}
use Rattle.clap.specs.declared.builder.value_parser.ValueParser.TheVariants.{Names}
use Rattle.smq_words.specs.Words.{with_any_length}
use Rattle.smq_words.proofs.rules.command_with.Goals as goal

pub returns : goal.returns
returns c =
    let names = Names c.args.names in
    let formats = Names c.args.formats in
    IfOk-weaker c.with_any_length.result _ _
    (λ m h. record {
      names = names;
      formats = formats;
      takes_names = c.requires.names;
      takes_formats = c.requires.formats;
      is_program = h ∙ ap (with_any_length names formats) c.in_ok-first.ensures;
    }) c.with_any_length.ensures

use Rattle.std.proofs.Common.{◌≡◌, ◌∙◌, [], List, Result, Ok, Err, ap, inr, map, refl, subst, sym, true}
use Rattle.std.specs.Prelude.{IsErrAnd}
use Rattle.clap.specs.Faults.{is_simple_and_free}
use Rattle.clap.specs.Kinds.{HasKind}
use Rattle.clap.specs.Words.{App, Text, app_of, fault_of, is_simple, subcommand_of, subcommand_rows_of}
use Rattle.clap.specs.declared.builder.value_parser.ValueParser.{ValueParser}
use Rattle.clap.specs.declared.error.Error.{Error}
use Rattle.clap.proofs.OnLiterals.{clap_on_literals}
use Rattle.smq_words.specs.Words.{IsAsked, IsProgram, TakesWords, program}
use Rattle.smq_words.proofs.EnteredLemmas.{Asked}
use Rattle.smq_words.proofs.OrderLemmas.{words_ask}
use Rattle.smq_words.proofs.words.order.Goals as goal

program_is_simple : (names formats : ValueParser) → is_simple_and_free (program names formats) ≡ true
unfolding clap_on_literals
program_is_simple names formats = refl

program_has_matches : (names formats : ValueParser) → is_simple (program names formats) ≡ true
unfolding clap_on_literals
program_has_matches names formats = refl

-- a fault that is passed on
refused : {T : Type 0} (words : List Text) (app : App) (r : Result T Error) (e : Error) → IsProgram app → IsErrAnd r (λ x. x ≡ e)
    → HasKind (fault_of app words) e → TakesWords r words
refused words app (Ok a) e is h k = absurd h
refused words app (Err x) e is h k = inr (app, is, subst (HasKind (fault_of app words)) (sym h) k)

pub returns-in_err-matches-clause-words : goal.returns-in_err-matches-clause-words
returns-in_err-matches-clause-words g c =
    let is = c.in_ok-command.ensures in
    let words = map g.S.AsStr.text c.args.words.now in
    let simple = ap is_simple_and_free is.is_program ∙ program_is_simple is.names is.formats in
    refused words (app_of c.in_ok-command.command) c.from_residual-in_err-matches.result c.in_err-matches.field-0.0 is
    c.from_residual-in_err-matches.ensures.1 (c.in_err-matches.ensures.kinds simple)

pub returns-clause-words : goal.returns-clause-words
returns-clause-words g c =
    let is = c.in_ok-command.ensures in
    let simple = ap is_simple_and_free is.is_program ∙ program_is_simple is.names is.formats in
    inr (app_of c.in_ok-command.command, is, c.in_ok-matches.ensures.kinds simple)

pub returns-clause-order : goal.returns-clause-order
returns-clause-order g c =
    let is = c.in_ok-command.ensures in
    let app = app_of c.in_ok-command.command in
    let words = map g.S.AsStr.text c.args.words.now in
    let simple = ap is_simple_and_free is.is_program ∙ program_is_simple is.names is.formats in
    let no_fault = subst (λ (a : App). fault_of a words ≡ []) is.is_program (c.in_ok-matches.ensures.kinds simple) in
    let asked = words_ask is.names is.formats is.takes_names is.takes_formats words no_fault in
    let entered : subcommand_rows_of c.in_ok-matches.matches ≡ subcommand_of app words =
    (c.in_ok-matches.ensures.matches (ap is_simple is.is_program ∙ program_has_matches is.names is.formats)).1 in
    let asks = subst Asked (sym (entered ∙ ap (λ (a : App). subcommand_of a words) is.is_program)) asked in (
      app,
      is,
      subst (λ e. IsAsked e c.in_ok-order_in.field-0) entered (c.in_ok-order_in.ensures asks.0 asks.1 asks.2 asks.3 asks.4 asks.5 asks.6),
    )

use Rattle.std.proofs.Common.{◌≡◌, ◌∙◌, List, Some, subst, sym}
use Rattle.std.specs.Box.{box_value}
use Rattle.std.specs.Prelude.{Box, IfOk}
use Rattle.clap.specs.Words.{Row, Text, found_of, rows_of, subcommand_rows_of}
use Rattle.clap.specs.declared.parser.matches.ArgMatches.TheViews.{out-ArgMatches, out-SubCommand}
use Rattle.clap.specs.declared.parser.matches.SubCommand.{SubCommand}
use Rattle.smq_words.specs.Words.{Asks, IsAsked}
use Rattle.smq_words.proofs.OrderLemmas.{entered_is, second_is}
use Rattle.smq_words.proofs.words.order_in.Goals as goal

module _ {Z : Type 0} where
  abbrev name_of : Box SubCommand Z → Text
  name_of b = (out-SubCommand (box_value b)).name.now

  abbrev matched : Box SubCommand Z → List Row
  matched b = rows_of (found_of (out-SubCommand (box_value b)).matches)

pub returns-in-Some : goal.returns-in-Some
returns-in-Some c task path window counting dealing captures asks =
    let o = (out-ArgMatches c.args.matches.now).subcommand in
    let name = c.in-Some.name.now in
    let rows = rows_of (found_of c.in-Some.entered.now) in
    let is : subcommand_rows_of c.args.matches.now ≡ Some (name, rows) =
    entered_is o name_of matched name rows c.in-Some.ensures.name (c.in-Some.ensures.rows ∙ second_is o name_of matched) in
    subst (λ e. IfOk c.order_of.result (IsAsked e)) (sym is)
    (c.order_of.ensures task path window counting dealing captures (subst (λ e. Asks e task path window counting dealing captures) is asks))

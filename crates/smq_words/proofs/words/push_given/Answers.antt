use Rattle.std.proofs.Common.{◌∙◌, List, ◌++◌, [], ap, append-nil, map, sym}
use Rattle.std.specs.Borrow.{Bor}
use Rattle.std.specs.Prelude.{Option, option_map, string_bytes, unwrap_or}
use Rattle.std.proofs.lemmas.Result.{on_ok_weaker}
use Rattle.clap.specs.Words.{Text, found_of}
use Rattle.clap.proofs.WalkLemmas.{raw_values-rows}
use Rattle.smq_words.specs.Words.{texts_of}
use Rattle.smq_words.proofs.words.push_given.Goals as goal

abbrev values_in : Option (Bor (List (Bor Text))) → List Text
values_in values = unwrap_or (option_map (λ (s : Bor (List (Bor Text))). texts_of s.now) values) []

pub returns-in-Some : goal.returns-in-Some
returns-in-Some c =
    let read = raw_values-rows (found_of c.args.entered.now) c.args.id.now in
    on_ok_weaker c.push_texts.result
    (λ h. h
    ∙ ap (λ values. map string_bytes c.args.texts.now.items ++ values)
    (sym (ap values_in c.in-Some.is) ∙ ap (λ o. unwrap_or o []) (c.get_strs.ensures ∙ read))) c.push_texts.ensures

pub returns-in-None : goal.returns-in-None
returns-in-None c =
    let read = raw_values-rows (found_of c.args.entered.now) c.args.id.now in
    sym (append-nil (map string_bytes c.args.texts.now.items))
    ∙ ap (λ values. map string_bytes c.args.texts.now.items ++ values)
    (sym (ap values_in c.in-None.is) ∙ ap (λ o. unwrap_or o []) (c.get_strs.ensures ∙ read))

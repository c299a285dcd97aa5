use Rattle.std.proofs.Common.{◌≡◌, ◌++◌, List, ap, ◌∙◌}
use Rattle.std.specs.Prelude.{map, option_to_list}
use Rattle.smq_kit.specs.declared.place.Dir.{Dir}
use Rattle.smq_kit.specs.declared.place.Dir.TheVariants.{FromClient, FromCentre}
use Rattle.smq_frame.specs.Stream.{values}
use Rattle.smq_frame.specs.Tail.{TailValue, tail_of}
use Rattle.smq_tally.specs.declared.list.List.{List as ListName}
use Rattle.smq_tally.specs.declared.list.List.TheVariants as list
use Rattle.smq_tally.specs.declared.list.Listed.{Listed}
use Rattle.smq_tally.specs.Lists.{listed}
use Rattle.smq_present.specs.declared.present.kept.StoredPdu.{StoredPdu}
use Rattle.smq_present.specs.present.Kept.{kept_pdus}
use Rattle.smq_present.specs.pairing.Traffic.{Origin, broken_at, broken_notes}
use Rattle.smq_present.specs.within.Pairs.{from_session}
use Rattle.smq_present.specs.within.Sides.{noted, noted_in}
use Rattle.smq_present.proofs.lemmas.pairing.SideLemmas.{broken-are, noted-side, noted_both, notes-are}
use Rattle.smq_present.proofs.pairing.notes.push_notes.Goals as goal

pub returns : goal.returns
returns c =
    let o : Origin = from_session c.args.number in
    let client : List StoredPdu = kept_pdus c.args.session.now.client in
    let centre : List StoredPdu = kept_pdus c.args.session.now.centre in
    let old = c.args.notes.now.items in
    let of_client : (l : ListName) → noted l c.args.client.now ≡ noted_in l o FromClient client centre =
    λ l. noted-side l c.args.number FromClient client centre c.args.client.now c.requires.client in
    let of_centre : (l : ListName) → noted l c.args.centre.now ≡ noted_in l o FromCentre centre client =
    λ l. noted-side l c.args.number FromCentre centre client c.args.centre.now c.requires.centre in
    let both : (l : ListName) → noted l c.args.client.now ++ noted l c.args.centre.now ≡ noted_both o client centre l =
    λ l k. of_client l k ++ of_centre l k in
    let broken : Dir → TailValue → List Listed = λ dir tail. map (listed list.Broken) (option_to_list (broken_at o dir tail)) in
    let ends : TailValue → TailValue → List Listed = λ first second. (c.push_both-4.new.notes.items ++ broken FromClient first) ++ broken FromCentre second in
    let w = noted_both o client centre list.Waiting in
    let s = noted_both o client centre list.StrayAnswers in
    let m = noted_both o client centre list.Mismatched in
    let u = noted_in list.Unreadable o FromCentre centre client in
    let noted_all : c.push_both-4.new.notes.items ≡ ((((old ++ w) ++ s) ++ m) ++ u) ++ noted_both o client centre list.Undecodable =
    c.in_ok-push_both-4.ensures
    ∙ (λ k. c.in_ok-push_side.ensures k ++ both list.Undecodable k)
    ∙ (λ k. (c.in_ok-push_both-3.ensures k ++ of_centre list.Unreadable k) ++ noted_both o client centre list.Undecodable)
    ∙ (λ k. ((c.in_ok-push_both-2.ensures k ++ both list.Mismatched k) ++ u) ++ noted_both o client centre list.Undecodable)
    ∙ (λ k. (((c.in_ok-push_both.ensures k ++ both list.StrayAnswers k) ++ m) ++ u) ++ noted_both o client centre list.Undecodable)
    ∙ (λ k. ((((old ++ both list.Waiting k) ++ s) ++ m) ++ u) ++ noted_both o client centre list.Undecodable) in
    let broken_all = broken_notes o (tail_of (values c.args.session.now.client)) (tail_of (values c.args.session.now.centre)) in
    c.in_ok-push_broken-2.ensures
    ∙ ap (λ ns. ns ++ broken FromCentre c.tail-2.result.now) c.in_ok-push_broken.ensures
    ∙ (λ k. ends (c.tail.ensures k) (c.tail-2.ensures k))
    ∙ broken-are o client centre c.push_both-4.new.notes.items (option_to_list (broken_at o FromClient (tail_of (values c.args.session.now.client))))
    (option_to_list (broken_at o FromCentre (tail_of (values c.args.session.now.centre))))
    ∙ ap (λ ns. ns ++ broken_all) noted_all
    ∙ notes-are o client centre old broken_all

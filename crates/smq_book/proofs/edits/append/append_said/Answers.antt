use Rattle.std.proofs.Common.{[], sym, ap, subst, ◌∙◌}
use Rattle.std.specs.Option.{option_copied}
use Rattle.std.proofs.lemmas.Result.{on_ok_weaker}
use Rattle.smq_kit.specs.declared.names.LinkId.{LinkId}
use Rattle.smq_present.specs.present.Kept.{kept_pdus}
use Rattle.smq_book.specs.index.Held.{held_now}
use Rattle.smq_book.specs.index.Pushed.{IsSaidBy, origin_at}
use Rattle.smq_book.proofs.lemmas.index.Appending.{first-pairs, first-said, found-before, last-pairs, last-traffic, new-before}
use Rattle.smq_book.proofs.edits.append.append_said.Goals as goal

pub append_next-requires-clause-said : goal.append_next-requires-clause-said
append_next-requires-clause-said c =
    let p = c.args.present.now in
    let b = c.args.batch.now in
    let s = c.in-Some.session.now in
    let is = found-before p.sessions b s (sym c.requires.found ∙ ap option_copied c.in-Some.is) in
    subst (IsSaidBy (origin_at b.session s.link) (kept_pdus s.client) (kept_pdus s.centre)) (sym c.requires.traffic) (first-said p.sessions b s is)

pub returns-in-Some-clause-traffic : goal.returns-in-Some-clause-traffic
returns-in-Some-clause-traffic c =
    let p = c.args.present.now in
    let b = c.args.batch.now in
    let s = c.in-Some.session.now in
    let is = found-before p.sessions b s (sym c.requires.found ∙ ap option_copied c.in-Some.is) in
    on_ok_weaker c.append_next.result (last-traffic p.sessions b s is c.requires.unrefused c.settings-settings.result.now (held_now c.args.index.now)
    (held_now c.append_next.new.index) c.requires.traffic) c.append_next.ensures.held

pub returns-in-Some-clause-pairs : goal.returns-in-Some-clause-pairs
returns-in-Some-clause-pairs c =
    let p = c.args.present.now in
    let b = c.args.batch.now in
    let s = c.in-Some.session.now in
    let is = found-before p.sessions b s (sym c.requires.found ∙ ap option_copied c.in-Some.is) in
    on_ok_weaker c.append_next.result (λ pairs. pairs ∙ last-pairs p.sessions b s is) c.append_next.ensures.pairs

-- ---- a new session

pub append_next-requires-in-None-clause-said : goal.append_next-requires-in-None-clause-said
append_next-requires-in-None-clause-said c =
    let p = c.args.present.now in
    let b = c.args.batch.now in
    let s = c.new-session.result in
    let none = sym c.requires.found ∙ ap option_copied c.in-None.is in
    let is = new-before p.sessions b s none (c.new-session.ensures ∙ ap (λ (l : LinkId). record { link = l; client = []; centre = [] }) c.link.ensures) in
    subst (IsSaidBy (origin_at b.session s.link) (kept_pdus s.client) (kept_pdus s.centre)) (sym c.requires.traffic) (first-said p.sessions b s is)

pub append_next-requires-in-None-clause-pairs : goal.append_next-requires-in-None-clause-pairs
append_next-requires-in-None-clause-pairs c =
    let p = c.args.present.now in
    let b = c.args.batch.now in
    let s = c.new-session.result in
    let none = sym c.requires.found ∙ ap option_copied c.in-None.is in
    let is = new-before p.sessions b s none (c.new-session.ensures ∙ ap (λ (l : LinkId). record { link = l; client = []; centre = [] }) c.link.ensures) in
    c.requires.pairs ∙ first-pairs p.sessions b s is

pub returns-in-None-clause-traffic : goal.returns-in-None-clause-traffic
returns-in-None-clause-traffic c =
    let p = c.args.present.now in
    let b = c.args.batch.now in
    let s = c.new-session.result in
    let none = sym c.requires.found ∙ ap option_copied c.in-None.is in
    let is = new-before p.sessions b s none (c.new-session.ensures ∙ ap (λ (l : LinkId). record { link = l; client = []; centre = [] }) c.link.ensures) in
    on_ok_weaker c.append_next-in-None.result (last-traffic p.sessions b s is c.requires.unrefused c.settings-settings.result.now (held_now c.args.index.now)
    (held_now c.append_next-in-None.new.index) c.requires.traffic) c.append_next-in-None.ensures.held

pub returns-in-None-clause-pairs : goal.returns-in-None-clause-pairs
returns-in-None-clause-pairs c =
    let p = c.args.present.now in
    let b = c.args.batch.now in
    let s = c.new-session.result in
    let none = sym c.requires.found ∙ ap option_copied c.in-None.is in
    let is = new-before p.sessions b s none (c.new-session.ensures ∙ ap (λ (l : LinkId). record { link = l; client = []; centre = [] }) c.link.ensures) in
    on_ok_weaker c.append_next-in-None.result (λ pairs. pairs ∙ last-pairs p.sessions b s is) c.append_next-in-None.ensures.pairs

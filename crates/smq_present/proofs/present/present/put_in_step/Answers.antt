use Rattle.std.proofs.Common.{◌≡◌, [], refl, ap, subst, ◌∙◌}
use Rattle.std.specs.BTreeMap.{get_by}
use Rattle.std.specs.Option.{IsSome}
use Rattle.std.specs.Ordering.{nat_cmp}
use Rattle.smq_present.specs.present.Batch.{BatchValue}
use Rattle.smq_present.proofs.lemmas.present.Appended.{absent-in_step, absent-put, absent-refused, at_known, at_known-in_step}
use Rattle.smq_present.proofs.present.present.put_in_step.Goals as goal

pub append_in_step-requires : goal.append_in_step-requires
append_in_step-requires c = record {
  in_step = at_known-in_step c.args.sessions.now.entries c.batch.inside.session.0 c.args.batch.session.0 c.args.batch
      c.in-Some.session.now (ap (λ (b : BatchValue). b.session.0) c.batch.view_is) c.in-Some.ensures.value c.requires.in_step;
}

pub returns-in-Some : goal.returns-in-Some
returns-in-Some c =
    let number : c.batch.inside.session.0 ≡ c.args.batch.session.0 = ap (λ (b : BatchValue). b.session.0) c.batch.view_is in
    let there : IsSome (get_by (nat_cmp c.batch.inside.session.0) c.args.sessions.now) = subst IsSome c.in-Some.ensures.value refl in
    let written = (c.get_mut.follows.holds c.append_in_step.new.self).3 there in
    at_known c.args.sessions.now.entries (c.get_mut.follows.lender c.append_in_step.new.self).entries c.batch.inside.session.0
    c.args.batch.session.0 c.args.batch c.in-Some.session.now c.append_in_step.new.self c.append_in_step.result number c.in-Some.ensures.value
    written.0 c.append_in_step.ensures

-- ---- a new session

pub append_in_step-requires-in-None : goal.append_in_step-requires-in-None
append_in_step-requires-in-None c = record {
  in_step = absent-in_step c.args.sessions.now.entries c.get_mut.follows.lender-at-none.entries c.batch.inside.session.0 c.args.batch.session.0
      c.args.batch (ap (λ (b : BatchValue). b.session.0) c.batch.view_is) c.in-None.ensures.value (ap (λ m. m.entries) c.get_mut.follows.holds-at-none)
      c.new-session.result (c.new-session.ensures ∙ (λ i. record { link = (c.batch.view_is i).link; client = []; centre = [] })) c.requires.in_step;
}

pub returns-in-Ok : goal.returns-in-Ok
returns-in-Ok c =
    absent-put c.args.sessions.now.entries c.get_mut.follows.lender-at-none.entries c.batch.inside.session.0 c.args.batch.session.0
    c.args.batch (ap (λ (b : BatchValue). b.session.0) c.batch.view_is) c.in-None.ensures.value (ap (λ m. m.entries) c.get_mut.follows.holds-at-none)
    c.new-session.result (c.new-session.ensures ∙ (λ i. record { link = (c.batch.view_is i).link; client = []; centre = [] })) _ _
    c.append_in_step-in-None.new.self tt c.insert_session.new.sessions.entries c.insert_session.result c.in-Ok.ensures c.insert_session.ensures

pub returns-in-Err : goal.returns-in-Err
returns-in-Err c =
    absent-refused c.args.sessions.now.entries c.get_mut.follows.lender-at-none.entries c.batch.inside.session.0 c.args.batch.session.0
    c.args.batch (ap (λ (b : BatchValue). b.session.0) c.batch.view_is) c.in-None.ensures.value (ap (λ m. m.entries) c.get_mut.follows.holds-at-none)
    c.new-session.result (c.new-session.ensures ∙ (λ i. record { link = (c.batch.view_is i).link; client = []; centre = [] })) _ _ _ _
    c.in-Err.refusal c.in-Err.ensures

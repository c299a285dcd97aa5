use Rattle.std.proofs.Common.{◌≡◌, ◌≤◌, ◌+◌, length, Some, List, refl, sym, ap, subst, ◌∙◌, arith}
use Rattle.std.specs.FinMap.{get}
use Rattle.std.specs.List.{AllByRecursion, sum_by}
use Rattle.std.specs.Prelude.{map}
use Rattle.smq_kit.specs.declared.place.Place.{Place}
use Rattle.smq_book.specs.declared.index.stored.Item.{Item}
use Rattle.smq_present.specs.declared.present.edit.Edit.TheVariants.{SetForm}
use Rattle.smq_book.specs.edits.Reach.{groups}
use Rattle.smq_book.specs.index.Coming.{AreNew}
use Rattle.smq_book.specs.index.Held.{Holding, KeepsTraffic, held_now, traffic_held}
use Rattle.smq_book.specs.index.LinkOut.{keyed_on, keyed_places, put_of}
use Rattle.smq_book.specs.index.Touches.{index_cost, put_load, taken_load}
use Rattle.smq_present.specs.join.Keyed.{grouping_of}
use Rattle.smq_present.specs.join.Moves.{moved_by}
use Rattle.smq_present.specs.pairing.Traffic.{TrafficValue}
use Rattle.smq_present.specs.present.Present.{PresentValue}
use Rattle.smq_present.specs.present.Settings.{SettingsValue, forms_if_set}
use Rattle.smq_present.specs.present.Steps.{change, with_forms}
use Rattle.smq_present.specs.within.InOrder.{sessions_in}
use Rattle.smq_book.proofs.lemmas.index.FormBounds.{forms-bound}
use Rattle.smq_book.proofs.lemmas.index.FormsSet.{forms-back, forms-there, held-set}
use Rattle.smq_book.proofs.lemmas.index.KeptPairs.{settled-again, undone}
use Rattle.smq_book.proofs.lemmas.index.LinkOut.{in-again, keyed-new, keyed-stand}
use Rattle.smq_present.proofs.lemmas.present.NumberMaps.{insert-same}
use Rattle.smq_book.proofs.edits.forms.set_forms.Goals as goal

pub put_link-requires-clause-held : goal.put_link-requires-clause-held
put_link-requires-clause-held c =
    held-set c.present.inside.settings c.args.link c.args.forms c.set_forms.new.self c.in-Ok-set_forms.ensures.reply
    (traffic_held (held_now c.args.index.now)) c.requires.indexed.held.traffic (held_now c.take_link.new.index) c.in-Ok.ensures.held.held
    c.in-Ok.ensures.held.traffic

pub put_link-requires-clause-stand : goal.put_link-requires-clause-stand
put_link-requires-clause-stand c =
    subst (AllByRecursion (λ (e : Place × Item). KeepsTraffic (put_of e))) (sym c.in-Ok.ensures.taken)
    (keyed-stand c.args.link (traffic_held (held_now c.args.index.now)) c.requires.indexed.held.traffic)

pub put_link-requires-clause-new : goal.put_link-requires-clause-new
put_link-requires-clause-new c =
    let u = traffic_held (held_now c.take_link.new.index) in
    subst (λ (es : List (Place × Item)). AreNew u (map put_of es)) (sym c.in-Ok.ensures.taken)
    (keyed-new c.args.link (traffic_held (held_now c.args.index.now)) c.requires.indexed.held.traffic u c.in-Ok.ensures.held.traffic)

pub restore_forms-requires : goal.restore_forms-requires
restore_forms-requires c =
    forms-there c.present.inside.settings c.args.link c.args.forms c.set_forms.new.self c.in-Ok-set_forms.ensures.reply

pub returns-in_default-put_link-clause-reply : goal.returns-in_default-put_link-clause-reply
returns-in_default-put_link-clause-reply c = (
  refl,
  ap (λ (s : SettingsValue). record { sessions = sessions_in c.present.inside.sessions; settings = s })
      (forms-back c.present.inside.settings c.args.link c.args.forms c.set_forms.new.self c.in-Ok-set_forms.ensures.reply
      c.in-Ok-set_forms.before c.restore_forms.new.self c.in-Ok-set_forms.ensures.before c.restore_forms.ensures) ∙ c.present.view_is,
)

pub returns-in_default-put_link-clause-indexed : goal.returns-in_default-put_link-clause-indexed
returns-in_default-put_link-clause-indexed c =
    let settled = c.put_link.ensures.settled ∙ c.take_link.ensures.settled in
    undone ((returns-in_default-put_link-clause-reply c).1) (c.undo-in_default-put_link.ensures.held ∙ settled)
    (c.undo-in_default-put_link.ensures.settled ∙ settled) c.undo-in_default-put_link.ensures.pending c.requires.indexed

pub returns-clause-indexed : goal.returns-clause-indexed
returns-clause-indexed c =
    let u = traffic_held (held_now c.take_link.new.index) in
    settled-again c.put_link.new.index (sym (ap (λ (p : PresentValue). p.sessions) c.present.view_is)) c.in-Ok-put_link.ensures.held.held
    (c.in-Ok-put_link.ensures.held.traffic ∙ ap (λ (es : List (Place × Item)). moved_by u (map put_of es)) c.in-Ok.ensures.taken
    ∙ in-again c.args.link (traffic_held (held_now c.args.index.now)) c.requires.indexed.held.traffic u c.in-Ok.ensures.held.traffic)
    c.settle.ensures.held c.settle.ensures.settled c.settle.ensures.pending c.requires.indexed

pub returns-clause-touches : goal.returns-clause-touches
returns-clause-touches c =
    let p = c.args.present.now in
    let link = c.args.link in
    let g = c.args.index.now in
    let is = c.requires.indexed in
    let h = c.take_link.new.index in
    let u = traffic_held (held_now h) in
    let z = c.set_forms.new.self in
    let n = c.put_link.new.index.groups.members in
    let edit = SetForm link c.args.forms.response c.args.forms.receipt in
    let settings : z ≡ (change p edit).settings =
    c.in-Ok-set_forms.ensures.reply ∙ ap (λ (x : PresentValue). with_forms x.settings link c.args.forms) c.present.view_is in
    let last = c.in-Ok-put_link.ensures.held.traffic ∙ ap (λ (es : List (Place × Item)). moved_by u (map put_of es)) c.in-Ok.ensures.taken
    ∙ in-again link (traffic_held (held_now g)) is.held.traffic u c.in-Ok.ensures.held.traffic ∙ is.traffic in
    let members : n ≡ groups (change p edit) =
    ap (λ (x : Holding). x.members) c.in-Ok-put_link.ensures.held.held.held ∙ (λ i. grouping_of (settings i) (last i)) in
    let bound = forms-bound p g is link c.args.forms.response c.args.forms.receipt z h.groups n c.in-Ok.ensures.went settings members in
    let puts = ap (sum_by (put_load h.groups n z)) (c.in-Ok.ensures.taken ∙ ap (keyed_on link) is.traffic) in
    let taken = subst (λ (t : TrafficValue). index_cost h ≤ index_cost g
    + (2 + length (keyed_places link t) + sum_by (taken_load g.groups) (keyed_places link t))) is.traffic
    (c.in-Ok.ensures.touches is.pending.vacant) in
    omega (arith, bound, puts, taken, c.in-Ok-put_link.ensures.touches, c.settle.ensures.touches)

-- forms that are set, set again, change nothing
pub returns-then-has_forms-clause-reply : goal.returns-then-has_forms-clause-reply
returns-then-has_forms-clause-reply c =
    let p = c.args.present.now in
    let there : get p.settings.forms c.args.link.0 ≡ Some c.args.forms =
    ap (λ (q : PresentValue). forms_if_set q.settings c.args.link.0) (sym c.present.view_is) ∙ c.has_forms.ensures.0 c.if-has_forms.true in
    sym (ap (λ m. record p { settings = record p.settings { forms = m } }) (insert-same p.settings.forms c.args.link.0 c.args.forms there))

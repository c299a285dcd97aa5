use Rattle.std.proofs.Common.{◌≡◌, ◌≢◌, ◌≤◌, ◌+◌, ◌-◌, ◌*◌, ◌^◌, [], refl, sym, ap, subst, ◌∙◌}
use Rattle.std.specs.Prelude.{OnOk}
use Rattle.smq_frame.specs.Tail.{tail_of}
use Rattle.smq_book.specs.declared.whole.indexed_book.IndexedBook.TheInside.{Inside}
use Rattle.smq_present.specs.declared.present.edit.Edit.TheVariants.{Advance}
use Rattle.smq_book.specs.edits.Reach.{reach}
use Rattle.smq_book.specs.index.Held.{held_now, traffic_held}
use Rattle.smq_book.specs.index.Kept.{IsKept}
use Rattle.smq_book.specs.index.Touches.{touches_of}
use Rattle.smq_present.specs.present.Book.{BookValue}
use Rattle.smq_present.specs.present.Present.{PresentValue}
use Rattle.smq_present.specs.whole.Scratch.{scratch}
use Rattle.smq_book.proofs.lemmas.index.Bounds.{book-bound, settings-bound}
use Rattle.smq_book.proofs.lemmas.index.KeptPairs.{indexed, kept-edit}
use Rattle.smq_book.proofs.lemmas.index.LowerBounds.{rise-bound, settings-rise}
use Rattle.smq_book.proofs.lemmas.edits.Unreached.{another, clock_of, unreached}
use Rattle.smq_book.proofs.whole.indexed_book.IndexedBook.apply.Goals.{in-Append, in-Withdraw, in-SetForm, in-SetWindow, in-AddRoute, in-EndRoute, in-CorrectRoute, in-Advance}
use Rattle.smq_book.proofs.whole.indexed_book.IndexedBook.apply.Goals as goal

-- what a book keeps beside what is present
abbrev Keeps : Inside → Type 0
Keeps b = (b.empty_tail ≡ tail_of []) × IsKept b.present b.index b.pairings

pub invariant_of-self : goal.invariant_of-self
invariant_of-self c =
    let tail : c.self.inside.empty_tail ≡ tail_of [] = c.self.invariant.0 in
    elim c.match-edit.branch [
      | in-Append w ↦ subst Keeps (sym w.self-inside-is) (tail, w.append.ensures.kept)
      | in-Withdraw w ↦ subst Keeps (sym w.self-inside-is) (tail, w.withdraw.ensures.kept)
      | in-SetForm w ↦ subst Keeps (sym w.self-inside-is) (tail, kept-edit c.args.edit _ w.in-SetForm.is w.set_forms.result refl w.set_forms.ensures.reply w.set_forms.ensures.indexed c.self.invariant.1)
      | in-SetWindow w ↦ subst Keeps (sym w.self-inside-is) (tail, kept-edit c.args.edit _ w.in-SetWindow.is w.set_window.result refl w.set_window.ensures.reply w.set_window.ensures.indexed c.self.invariant.1)
      | in-AddRoute w ↦ subst Keeps (sym w.self-inside-is) (tail, kept-edit c.args.edit _ w.in-AddRoute.is w.add_route.result refl w.add_route.ensures.reply w.add_route.ensures.indexed c.self.invariant.1)
      | in-EndRoute w ↦ subst Keeps (sym w.self-inside-is) (tail, kept-edit c.args.edit _ w.in-EndRoute.is w.end_route.result refl w.end_route.ensures.reply w.end_route.ensures.indexed c.self.invariant.1)
      | in-CorrectRoute w ↦ subst Keeps (sym w.self-inside-is) (tail, kept-edit c.args.edit _ w.in-CorrectRoute.is w.correct_route.result refl w.correct_route.ensures.reply w.correct_route.ensures.indexed c.self.invariant.1)
      | in-Advance w ↦ subst Keeps (sym w.self-inside-is) (tail, kept-edit c.args.edit _ w.in-Advance.is w.advance.result refl w.advance.ensures.reply w.advance.ensures.indexed c.self.invariant.1)
    ]

pub returns-clause-unreached : goal.returns-clause-unreached
returns-clause-unreached c =
    λ clock is few wanting. elim c.match-edit.branch [
      | in-Append w ↦ another ⊥ c.args.edit clock (ap clock_of w.in-Append.is) is
      | in-Withdraw w ↦ another ⊥ c.args.edit clock (ap clock_of w.in-Withdraw.is) is
      | in-SetForm w ↦ another ⊥ c.args.edit clock (ap clock_of w.in-SetForm.is) is
      | in-SetWindow w ↦ another ⊥ c.args.edit clock (ap clock_of w.in-SetWindow.is) is
      | in-AddRoute w ↦ another ⊥ c.args.edit clock (ap clock_of w.in-AddRoute.is) is
      | in-EndRoute w ↦ another ⊥ c.args.edit clock (ap clock_of w.in-EndRoute.is) is
      | in-CorrectRoute w ↦ another ⊥ c.args.edit clock (ap clock_of w.in-CorrectRoute.is) is
      | in-Advance w ↦
          let p : PresentValue = c.self.inside.present in
          let whole : p ≡ c.args.self.now.present = ap (λ (b : BookValue). b.present) c.self.view_is in
          unreached p (traffic_held (held_now c.self.inside.index)) w.in-Advance.clock w.advance.result _ _ c.self.invariant.1.traffic
          w.advance.ensures.reply w.advance.ensures.none
          (ap (λ (q : PresentValue). reach q (Advance w.in-Advance.clock)) whole
          ∙ ap (reach c.args.self.now.present) (sym w.in-Advance.is) ∙ few)
          (sym w.result-is ∙ wanting)
    ]

pub returns-clause-touches : goal.returns-clause-touches
returns-clause-touches c =
    let now = c.args.self.now in
    let edit = c.args.edit in
    let p = c.self.inside.present in
    let index = c.self.inside.index in
    let pairings = c.self.inside.pairings in
    let kept = c.self.invariant.1 in
    let Within : Inside → Type 0 = λ b.
    OnOk c.match-edit.result (touches_of b.index b.pairings ≤ now.touches + 64 * (1 + reach now.present edit)) in
    let settings = settings-bound now p index pairings c.self.view_is kept edit in
    elim c.match-edit.branch [
      | in-Append w ↦ subst Within (sym w.self-inside-is) (book-bound now p index pairings c.self.view_is kept edit _ w.in-Append.is
          c.match-edit.result w.append.result w.result-is w.append.new.index w.append.new.pairings w.append.ensures.touches)
      | in-Withdraw w ↦ subst Within (sym w.self-inside-is) (book-bound now p index pairings c.self.view_is kept edit _ w.in-Withdraw.is
          c.match-edit.result w.withdraw.result w.result-is w.withdraw.new.index w.withdraw.new.pairings w.withdraw.ensures.touches)
      | in-SetForm w ↦ subst Within (sym w.self-inside-is)
          (settings _ w.in-SetForm.is c.match-edit.result w.set_forms.result w.result-is w.set_forms.new.index w.set_forms.ensures.touches)
      | in-SetWindow w ↦ subst Within (sym w.self-inside-is)
          (settings _ w.in-SetWindow.is c.match-edit.result w.set_window.result w.result-is w.set_window.new.index w.set_window.ensures.touches)
      | in-AddRoute w ↦ subst Within (sym w.self-inside-is)
          (settings _ w.in-AddRoute.is c.match-edit.result w.add_route.result w.result-is w.add_route.new.index w.add_route.ensures.touches)
      | in-EndRoute w ↦ subst Within (sym w.self-inside-is)
          (settings _ w.in-EndRoute.is c.match-edit.result w.end_route.result w.result-is w.end_route.new.index w.end_route.ensures.touches)
      | in-CorrectRoute w ↦ subst Within (sym w.self-inside-is)
          (settings _ w.in-CorrectRoute.is c.match-edit.result w.correct_route.result w.result-is w.correct_route.new.index w.correct_route.ensures.touches)
      | in-Advance w ↦ subst Within (sym w.self-inside-is)
          (settings _ w.in-Advance.is c.match-edit.result w.advance.result w.result-is w.advance.new.index w.advance.ensures.touches)
    ]

pub returns-clause-touched : goal.returns-clause-touched
returns-clause-touched c =
    let now = c.args.self.now in
    let p = c.self.inside.present in
    let i = c.self.inside.index in
    let k = c.self.inside.pairings in
    let kept = c.self.invariant.1 in
    let is = indexed kept in
    let Rises : Inside → Type 0 = λ b.
    (scratch b.present).counts ≢ (scratch now.present).counts → now.touches ≢ 2 ^ 64 - 1 → 1 + now.touches ≤ touches_of b.index b.pairings in
    elim c.match-edit.branch [
      | in-Append w ↦ subst Rises (sym w.self-inside-is) (rise-bound now p w.append.new.present i w.append.new.index k w.append.new.pairings c.self.view_is is
          (indexed w.append.ensures.kept) _ w.append.result _ w.append.ensures.reply w.append.ensures.rises w.append.ensures.pairs_counted)
      | in-Withdraw w ↦ subst Rises (sym w.self-inside-is) (rise-bound now p w.withdraw.new.present i w.withdraw.new.index k w.withdraw.new.pairings
          c.self.view_is is (indexed w.withdraw.ensures.kept) _ w.withdraw.result _ w.withdraw.ensures.reply w.withdraw.ensures.rises w.withdraw.ensures.pairs_counted)
      | in-SetForm w ↦ subst Rises (sym w.self-inside-is) (settings-rise now p w.set_forms.new.present i w.set_forms.new.index k c.self.view_is is
          w.set_forms.ensures.indexed c.args.edit _ w.in-SetForm.is w.set_forms.result w.set_forms.ensures.reply w.set_forms.ensures.rises)
      | in-SetWindow w ↦ subst Rises (sym w.self-inside-is) (settings-rise now p w.set_window.new.present i w.set_window.new.index k c.self.view_is is
          w.set_window.ensures.indexed c.args.edit _ w.in-SetWindow.is w.set_window.result w.set_window.ensures.reply w.set_window.ensures.rises)
      | in-AddRoute w ↦ subst Rises (sym w.self-inside-is) (settings-rise now p w.add_route.new.present i w.add_route.new.index k c.self.view_is is
          w.add_route.ensures.indexed c.args.edit _ w.in-AddRoute.is w.add_route.result w.add_route.ensures.reply w.add_route.ensures.rises)
      | in-EndRoute w ↦ subst Rises (sym w.self-inside-is) (settings-rise now p w.end_route.new.present i w.end_route.new.index k c.self.view_is is
          w.end_route.ensures.indexed c.args.edit _ w.in-EndRoute.is w.end_route.result w.end_route.ensures.reply w.end_route.ensures.rises)
      | in-CorrectRoute w ↦ subst Rises (sym w.self-inside-is) (settings-rise now p w.correct_route.new.present i w.correct_route.new.index k c.self.view_is is
          w.correct_route.ensures.indexed c.args.edit _ w.in-CorrectRoute.is w.correct_route.result w.correct_route.ensures.reply w.correct_route.ensures.rises)
      | in-Advance w ↦ subst Rises (sym w.self-inside-is) (settings-rise now p w.advance.new.present i w.advance.new.index k c.self.view_is is
          w.advance.ensures.indexed c.args.edit _ w.in-Advance.is w.advance.result w.advance.ensures.reply w.advance.ensures.rises)
    ]

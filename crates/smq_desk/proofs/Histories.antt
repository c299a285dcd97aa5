-- A history that is one entry longer.
use Rattle.std.proofs.Common.{◌≡◌, List, [], ◌∷◌, ◌++◌, refl, sym, ◌∙◌}
use Rattle.smq_present.specs.declared.present.edit.Edit.{Edit}
use Rattle.smq_present.specs.present.Present.{PresentValue, empty}
use Rattle.smq_present.specs.present.Steps.{step}
use Rattle.smq_desk.specs.declared.entry.Entry.{Entry}
use Rattle.smq_desk.specs.History.{replay_from, replay, reply_to, IsLegalFrom, IsLegal}

pub replay_from-snoc : (p : PresentValue) (es : List Entry) (e : Entry) → replay_from p (es ++ e ∷ []) ≡ step (replay_from p es) e.edit
replay_from-snoc p [] e = refl
replay_from-snoc p (x ∷ es) e = replay_from-snoc (step p x.edit) es e

pub legal_from-snoc : (p : PresentValue) (es : List Entry) (e : Entry) → IsLegalFrom p es → e.reply ≡ reply_to (replay_from p es) e.edit → IsLegalFrom p (es ++ e ∷ [])
legal_from-snoc p [] e h r = (r, tt)
legal_from-snoc p (x ∷ es) e h r = (h.0, legal_from-snoc (step p x.edit) es e h.1 r)

-- what a commit leaves is a legal history again, and the book is its replay
pub one_more : (es : List Entry) (book : PresentValue) (e : Entry) (edit : Edit) (book' : PresentValue) (es' : List Entry)
    → IsLegal es → book ≡ replay es → edit ≡ e.edit → e.reply ≡ reply_to book edit → book' ≡ step book edit → es' ≡ es ++ e ∷ []
    → IsLegal es' × (book' ≡ replay es')
one_more es book e edit book' es' legal is same answer after more =
    let at : e.reply ≡ reply_to (replay es) e.edit = cc in
    let now : book' ≡ step (replay es) e.edit = cc in (
      rw more (legal_from-snoc empty es e legal at),
      rw more (now ∙ sym (replay_from-snoc empty es e)),
    )

-- What each call's steps give together: what is told, and what is taken back.
use Rattle.std.proofs.Common.{◌≡◌, Bool, true, false, List, ◌∷◌, ◌++◌, Option, refl, sym, ◌∙◌, subst}
use Rattle.smq_kit.specs.declared.link_key.LinkKey.{LinkKey}
use Rattle.smq_shelf.specs.Keeping.{Keeping}
use Rattle.smq_shelf.specs.Places.{content_of}
use Rattle.smq_group.specs.declared.change.Change.{Change}
use Rattle.smq_group.specs.declared.changes.Added.{Added}
use Rattle.smq_group.specs.declared.member.Member.{Member}
use Rattle.smq_group.specs.declared.member.Candidate.{Candidate}
use Rattle.smq_group.specs.declared.member.ReceiptFacts.{ReceiptFacts}
use Rattle.smq_group.specs.declared.group_summary.Group.{Group}
use Rattle.smq_group.specs.declared.group_summary.GroupSummary.{GroupSummary}
use Rattle.smq_group.specs.Changes.{TellsChanges}
use Rattle.smq_group.specs.Matching.{Grouping}
use Rattle.smq_group.specs.within.Outlooks.{outlook_at}
use Rattle.smq_group.specs.within.Stored.{AreStored, CanTakeBack, grouping_in, outlook_in}
use Rattle.smq_group.specs.within.Told.{SubmitsByPlace, ReceiptsByPlace, changes_of_submits, told_receipts, turn_between}
use Rattle.smq_group.specs.within.Walked.{members_in}
use Rattle.smq_group.proofs.Changing.{Moves, tells}

-- what was told, of members that were read since, is what the move changed
pub tells-call : (g : Grouping) (s s' : List (Member × Bool)) (r r' : List (Member × ReceiptFacts)) (i : List (Candidate × Bool)) (o : List (LinkKey × Group)) (key : LinkKey) (added : Added) (x y : GroupSummary) (changes : List Change)
    → s ≡ s' → r ≡ r' → Moves g (grouping_in s r) key added → AreStored s r i o → x ≡ outlook_in g key → outlook_at key o ≡ y
    → changes ≡ changes_of_submits (turn_between x y) y added (members_in key s') ++ told_receipts (turn_between x y) x y added (members_in key r')
    → SubmitsByPlace (turn_between x y) (members_in key s') → ReceiptsByPlace (turn_between x y) (members_in key r') → TellsChanges g (grouping_in s r) changes
tells-call g s s' r r' i o key added x y changes es er moves st is_x is_y told so sr =
    tells g s r key added moves st.submits_once st.receipts_once x y is_x (sym is_y ∙ st.indexed.outlook key) changes
    (told ∙ (λ j. changes_of_submits (turn_between x y) y added (members_in key (sym es j)) ++ told_receipts (turn_between x y) x y added (members_in key (sym er j))))
    (subst (λ (z : List (Member × Bool)). SubmitsByPlace (turn_between x y) (members_in key z)) (sym es) so)
    (subst (λ (z : List (Member × ReceiptFacts)). ReceiptsByPlace (turn_between x y) (members_in key z)) (sym er) sr)

-- the receipts are as before once they are taken back
pub receipts-back : (d : Bool) (r r' r'' : Keeping Member ReceiptFacts) (c c' : Keeping Candidate Bool) (content : List (Member × ReceiptFacts)) → CanTakeBack d r c r' c' → r''.past ≡ r'.past
    → ((p : List (Member × Option ReceiptFacts)) (ps : List (List (Member × Option ReceiptFacts))) → r''.past ≡ p ∷ ps → content ≡ content_of p) → content ≡ r.content
receipts-back d r r' r'' c c' content back past taken = taken r.places r.past (past ∙ back.receipts) ∙ sym back.shown

-- and so are the candidates
pub candidates-back : (d : Bool) (r r' : Keeping Member ReceiptFacts) (c c' c'' : Keeping Candidate Bool) (content : List (Candidate × Bool)) → CanTakeBack d r c r' c' → c''.past ≡ c'.past → c''.content ≡ c'.content
    → ((p : List (Candidate × Option Bool)) (ps : List (List (Candidate × Option Bool))) → d ≡ true → c''.past ≡ p ∷ ps → content ≡ content_of p) → (d ≡ false → content ≡ c''.content) → content ≡ c.content
candidates-back true r r' c c' c'' content back past same taken stays = taken c.places c.past refl (past ∙ back.candidates refl) ∙ sym (back.shown_candidates refl)
candidates-back false r r' c c' c'' content back past same taken stays = stays refl ∙ same ∙ back.unchanged refl

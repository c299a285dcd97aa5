-- Batches, and edits, are equal by `==` where they are one.
use Rattle.std.proofs.Common.{◌≡◌, ◌∙◌, ℕ, true, false, List, refl, sym, ap, eqb, rules}
use Rattle.std.specs.Prelude.{nat_eq}
use Rattle.std.specs.Bool.{Decides}
use Rattle.std.specs.Cmp.Lexicographic.{pointwise, same_text, bytes_decides}
use Rattle.std.proofs.lemmas.Bool.{false≢true, eq-eqb}
use Rattle.std.proofs.lemmas.Bool.Decides.{Decides-and, Decides-like, Decides-eqb}
use Rattle.smq_kit.specs.declared.names.LinkId.{LinkId}
use Rattle.smq_kit.specs.declared.names.SessionId.{SessionId}
use Rattle.smq_kit.specs.declared.place.Dir.{Dir}
use Rattle.smq_kit.specs.contracts.names.LinkIdPartialEq.TheImpl as link_eq
use Rattle.smq_kit.specs.contracts.names.SessionIdPartialEq.TheImpl as session_eq
use Rattle.smq_kit.specs.contracts.place.DirPartialEq.TheImpl as dir_eq
use Rattle.smq_kit.specs.declared.message_id.Form.{Form}
use Rattle.smq_kit.specs.contracts.message_id.FormPartialEq.TheImpl as form_eq
use Rattle.smq_kit.specs.declared.names.RouteId.{RouteId}
use Rattle.smq_kit.specs.contracts.names.RouteIdPartialEq.TheImpl as route_eq
use Rattle.smq_frame.specs.Tail.{TailValue, tails_equal}
use Rattle.smq_frame.proofs.TailTests.{tails_equal-true, tails_equal-same}
use Rattle.smq_present.specs.present.Batch.{BatchValue}
use Rattle.smq_present.specs.declared.present.edit.Edit.{Edit}
use Rattle.smq_present.specs.declared.present.edit.Edit.TheVariants as v
use Rattle.smq_present.specs.within.EqualBatches.{batches_eq}
use Rattle.smq_present.specs.within.Equal.{edits_eq}

links : (a b : LinkId) → Decides (link_eq.ghosts.eq a b) (a ≡ b)
links a b = search rules

sessions : (a b : SessionId) → Decides (session_eq.ghosts.eq a b) (a ≡ b)
sessions a b = search rules

dirs : (a b : Dir) → Decides (dir_eq.ghosts.eq a b) (a ≡ b)
dirs a b = search rules

tails : (a b : TailValue) → Decides (tails_equal a b) (a ≡ b)
tails a b = (tails_equal-true a b, tails_equal-same a b)

octets : (a b : List ℕ) → Decides (pointwise nat_eq a b) (a ≡ b)
octets a b = (λ h. same_text a b (sym h), λ e. (bytes_decides a b).1 e)

-- each part of two batches is one
abbrev Parts : BatchValue → BatchValue → Type 0
Parts a b =
    (((((a.link ≡ b.link) × (a.session ≡ b.session)) × (a.dir ≡ b.dir)) × (a.tail ≡ b.tail)) × (a.moment ≡ b.moment))
    × (a.octets ≡ b.octets)

parts_decide : (a b : BatchValue) → Decides (batches_eq a b) (Parts a b)
parts_decide a b =
    Decides-and _ _
    (Decides-and _ _
    (Decides-and _ _
    (Decides-and _ _ (Decides-and _ _ (links a.link b.link) (sessions a.session b.session)) (dirs a.dir b.dir))
    (tails a.tail b.tail))
    (Decides-eqb a.moment b.moment))
    (octets a.octets b.octets)

one : (a b : BatchValue) → Parts a b → a ≡ b
one a b p = λ i. record {
  link = p.0.0.0.0.0 i;
  session = p.0.0.0.0.1 i;
  dir = p.0.0.0.1 i;
  tail = p.0.0.1 i;
  moment = p.0.1 i;
  octets = p.1 i;
}

parts : (a b : BatchValue) → a ≡ b → Parts a b
parts a b e = (
  ((((ap (λ x. x.link) e, ap (λ x. x.session) e), ap (λ x. x.dir) e), ap (λ x. x.tail) e), ap (λ x. x.moment) e),
  ap (λ x. x.octets) e,
)

pub batches : (a b : BatchValue) → Decides (batches_eq a b) (a ≡ b)
batches a b = Decides-like (batches_eq a b) (one a b) (parts a b) (parts_decide a b)

forms : (a b : Form) → Decides (form_eq.ghosts.eq a b) (a ≡ b)
forms a b = search rules

routes : (a b : RouteId) → Decides (route_eq.ghosts.eq a b) (a ≡ b)
routes a b = search rules

-- ---- edits, kind by kind

appends : (batch their_batch : BatchValue)
    → Decides (edits_eq (v.Append batch) (v.Append their_batch)) ((v.Append batch) ≡ (v.Append their_batch))
appends batch their_batch =
    Decides-like {P = (batch ≡ their_batch)} (edits_eq (v.Append batch) (v.Append their_batch))
    (λ p i. v.Append (p i))
    (λ e. (let same : batch ≡ their_batch = cc in same))
    (batches batch their_batch)

withdrawals : (session their_session : SessionId)
    → Decides (edits_eq (v.Withdraw session) (v.Withdraw their_session)) ((v.Withdraw session) ≡ (v.Withdraw their_session))
withdrawals session their_session =
    Decides-like {P = (session ≡ their_session)} (edits_eq (v.Withdraw session) (v.Withdraw their_session))
    (λ p i. v.Withdraw (p i))
    (λ e. (let same : session ≡ their_session = cc in same))
    (sessions session their_session)

forms_set : (link their_link : LinkId) (response their_response : Form) (receipt their_receipt : Form)
    → Decides (edits_eq (v.SetForm link response receipt) (v.SetForm their_link their_response their_receipt)) ((v.SetForm link response receipt) ≡ (v.SetForm their_link their_response their_receipt))
forms_set link their_link response their_response receipt their_receipt =
    Decides-like {P = (link ≡ their_link) × ((response ≡ their_response) × (receipt ≡ their_receipt))} (edits_eq (v.SetForm link response receipt) (v.SetForm their_link their_response their_receipt))
    (λ p i. v.SetForm (p.0 i) (p.1.0 i) (p.1.1 i))
    (λ e. ((let same : link ≡ their_link = cc in same), ((let same : response ≡ their_response = cc in same), (let same : receipt ≡ their_receipt = cc in same))))
    (Decides-and _ _ (links link their_link) (Decides-and _ _ (forms response their_response) (forms receipt their_receipt)))

link_windows : (link their_link : LinkId) (window their_window : ℕ)
    → Decides (edits_eq (v.SetWindow link window) (v.SetWindow their_link their_window)) ((v.SetWindow link window) ≡ (v.SetWindow their_link their_window))
link_windows link their_link window their_window =
    Decides-like {P = (link ≡ their_link) × (window ≡ their_window)} (edits_eq (v.SetWindow link window) (v.SetWindow their_link their_window))
    (λ p i. v.SetWindow (p.0 i) (p.1 i))
    (λ e. ((let same : link ≡ their_link = cc in same), (let same : window ≡ their_window = cc in same)))
    (Decides-and _ _ (links link their_link) (Decides-eqb window their_window))

routes_added : (prefix their_prefix : List ℕ) (from their_from : ℕ) (route their_route : RouteId) (network their_network : List ℕ)
    → Decides (edits_eq (v.AddRoute prefix from route network) (v.AddRoute their_prefix their_from their_route their_network)) ((v.AddRoute prefix from route network) ≡ (v.AddRoute their_prefix their_from their_route their_network))
routes_added prefix their_prefix from their_from route their_route network their_network =
    Decides-like {P = (prefix ≡ their_prefix) × ((from ≡ their_from) × ((route ≡ their_route) × (network ≡ their_network)))} (edits_eq (v.AddRoute prefix from route network) (v.AddRoute their_prefix their_from their_route their_network))
    (λ p i. v.AddRoute (p.0 i) (p.1.0 i) (p.1.1.0 i) (p.1.1.1 i))
    (λ e. ((let same : prefix ≡ their_prefix = cc in same), ((let same : from ≡ their_from = cc in same), ((let same : route ≡ their_route = cc in same), (let same : network ≡ their_network = cc in same)))))
    (Decides-and _ _ (octets prefix their_prefix) (Decides-and _ _ (Decides-eqb from their_from) (Decides-and _ _ (routes route their_route) (octets network their_network))))

routes_ended : (prefix their_prefix : List ℕ) (from their_from : ℕ) (until their_until : ℕ)
    → Decides (edits_eq (v.EndRoute prefix from until) (v.EndRoute their_prefix their_from their_until)) ((v.EndRoute prefix from until) ≡ (v.EndRoute their_prefix their_from their_until))
routes_ended prefix their_prefix from their_from until their_until =
    Decides-like {P = (prefix ≡ their_prefix) × ((from ≡ their_from) × (until ≡ their_until))} (edits_eq (v.EndRoute prefix from until) (v.EndRoute their_prefix their_from their_until))
    (λ p i. v.EndRoute (p.0 i) (p.1.0 i) (p.1.1 i))
    (λ e. ((let same : prefix ≡ their_prefix = cc in same), ((let same : from ≡ their_from = cc in same), (let same : until ≡ their_until = cc in same))))
    (Decides-and _ _ (octets prefix their_prefix) (Decides-and _ _ (Decides-eqb from their_from) (Decides-eqb until their_until)))

routes_corrected : (prefix their_prefix : List ℕ) (from their_from : ℕ) (route their_route : RouteId) (network their_network : List ℕ)
    → Decides (edits_eq (v.CorrectRoute prefix from route network) (v.CorrectRoute their_prefix their_from their_route their_network)) ((v.CorrectRoute prefix from route network) ≡ (v.CorrectRoute their_prefix their_from their_route their_network))
routes_corrected prefix their_prefix from their_from route their_route network their_network =
    Decides-like {P = (prefix ≡ their_prefix) × ((from ≡ their_from) × ((route ≡ their_route) × (network ≡ their_network)))} (edits_eq (v.CorrectRoute prefix from route network) (v.CorrectRoute their_prefix their_from their_route their_network))
    (λ p i. v.CorrectRoute (p.0 i) (p.1.0 i) (p.1.1.0 i) (p.1.1.1 i))
    (λ e. ((let same : prefix ≡ their_prefix = cc in same), ((let same : from ≡ their_from = cc in same), ((let same : route ≡ their_route = cc in same), (let same : network ≡ their_network = cc in same)))))
    (Decides-and _ _ (octets prefix their_prefix) (Decides-and _ _ (Decides-eqb from their_from) (Decides-and _ _ (routes route their_route) (octets network their_network))))

clocks : (clock their_clock : ℕ)
    → Decides (edits_eq (v.Advance clock) (v.Advance their_clock)) ((v.Advance clock) ≡ (v.Advance their_clock))
clocks clock their_clock =
    Decides-like {P = (clock ≡ their_clock)} (edits_eq (v.Advance clock) (v.Advance their_clock))
    (λ p i. v.Advance (p i))
    (λ e. (let same : clock ≡ their_clock = cc in same))
    (Decides-eqb clock their_clock)

-- which kind an edit is of
abbrev kind : Edit → ℕ
kind (v.Append batch) = 0
kind (v.Withdraw session) = 1
kind (v.SetForm link response receipt) = 2
kind (v.SetWindow link window) = 3
kind (v.AddRoute prefix from route network) = 4
kind (v.EndRoute prefix from until) = 5
kind (v.CorrectRoute prefix from route network) = 6
kind (v.Advance clock) = 7

-- edits of two kinds aren't equal
unlike : (a b : Edit) → edits_eq a b ≡ false → eqb (kind a) (kind b) ≡ false → Decides (edits_eq a b) (a ≡ b)
unlike a b differ apart = (
  λ t. absurd (false≢true (sym differ ∙ t)),
  λ e. absurd (false≢true (sym apart ∙ eq-eqb (kind a) (kind b) (ap kind e))),
)

pub edits : (a b : Edit) → Decides (edits_eq a b) (a ≡ b)
edits (v.Append a) (v.Append s) = appends a s
edits (v.Append a) (v.Withdraw s) = unlike (v.Append a) (v.Withdraw s) refl refl
edits (v.Append a) (v.SetForm s t u) = unlike (v.Append a) (v.SetForm s t u) refl refl
edits (v.Append a) (v.SetWindow s t) = unlike (v.Append a) (v.SetWindow s t) refl refl
edits (v.Append a) (v.AddRoute s t u w) = unlike (v.Append a) (v.AddRoute s t u w) refl refl
edits (v.Append a) (v.EndRoute s t u) = unlike (v.Append a) (v.EndRoute s t u) refl refl
edits (v.Append a) (v.CorrectRoute s t u w) = unlike (v.Append a) (v.CorrectRoute s t u w) refl refl
edits (v.Append a) (v.Advance s) = unlike (v.Append a) (v.Advance s) refl refl
edits (v.Withdraw a) (v.Append s) = unlike (v.Withdraw a) (v.Append s) refl refl
edits (v.Withdraw a) (v.Withdraw s) = withdrawals a s
edits (v.Withdraw a) (v.SetForm s t u) = unlike (v.Withdraw a) (v.SetForm s t u) refl refl
edits (v.Withdraw a) (v.SetWindow s t) = unlike (v.Withdraw a) (v.SetWindow s t) refl refl
edits (v.Withdraw a) (v.AddRoute s t u w) = unlike (v.Withdraw a) (v.AddRoute s t u w) refl refl
edits (v.Withdraw a) (v.EndRoute s t u) = unlike (v.Withdraw a) (v.EndRoute s t u) refl refl
edits (v.Withdraw a) (v.CorrectRoute s t u w) = unlike (v.Withdraw a) (v.CorrectRoute s t u w) refl refl
edits (v.Withdraw a) (v.Advance s) = unlike (v.Withdraw a) (v.Advance s) refl refl
edits (v.SetForm a b c) (v.Append s) = unlike (v.SetForm a b c) (v.Append s) refl refl
edits (v.SetForm a b c) (v.Withdraw s) = unlike (v.SetForm a b c) (v.Withdraw s) refl refl
edits (v.SetForm a b c) (v.SetForm s t u) = forms_set a s b t c u
edits (v.SetForm a b c) (v.SetWindow s t) = unlike (v.SetForm a b c) (v.SetWindow s t) refl refl
edits (v.SetForm a b c) (v.AddRoute s t u w) = unlike (v.SetForm a b c) (v.AddRoute s t u w) refl refl
edits (v.SetForm a b c) (v.EndRoute s t u) = unlike (v.SetForm a b c) (v.EndRoute s t u) refl refl
edits (v.SetForm a b c) (v.CorrectRoute s t u w) = unlike (v.SetForm a b c) (v.CorrectRoute s t u w) refl refl
edits (v.SetForm a b c) (v.Advance s) = unlike (v.SetForm a b c) (v.Advance s) refl refl
edits (v.SetWindow a b) (v.Append s) = unlike (v.SetWindow a b) (v.Append s) refl refl
edits (v.SetWindow a b) (v.Withdraw s) = unlike (v.SetWindow a b) (v.Withdraw s) refl refl
edits (v.SetWindow a b) (v.SetForm s t u) = unlike (v.SetWindow a b) (v.SetForm s t u) refl refl
edits (v.SetWindow a b) (v.SetWindow s t) = link_windows a s b t
edits (v.SetWindow a b) (v.AddRoute s t u w) = unlike (v.SetWindow a b) (v.AddRoute s t u w) refl refl
edits (v.SetWindow a b) (v.EndRoute s t u) = unlike (v.SetWindow a b) (v.EndRoute s t u) refl refl
edits (v.SetWindow a b) (v.CorrectRoute s t u w) = unlike (v.SetWindow a b) (v.CorrectRoute s t u w) refl refl
edits (v.SetWindow a b) (v.Advance s) = unlike (v.SetWindow a b) (v.Advance s) refl refl
edits (v.AddRoute a b c d) (v.Append s) = unlike (v.AddRoute a b c d) (v.Append s) refl refl
edits (v.AddRoute a b c d) (v.Withdraw s) = unlike (v.AddRoute a b c d) (v.Withdraw s) refl refl
edits (v.AddRoute a b c d) (v.SetForm s t u) = unlike (v.AddRoute a b c d) (v.SetForm s t u) refl refl
edits (v.AddRoute a b c d) (v.SetWindow s t) = unlike (v.AddRoute a b c d) (v.SetWindow s t) refl refl
edits (v.AddRoute a b c d) (v.AddRoute s t u w) = routes_added a s b t c u d w
edits (v.AddRoute a b c d) (v.EndRoute s t u) = unlike (v.AddRoute a b c d) (v.EndRoute s t u) refl refl
edits (v.AddRoute a b c d) (v.CorrectRoute s t u w) = unlike (v.AddRoute a b c d) (v.CorrectRoute s t u w) refl refl
edits (v.AddRoute a b c d) (v.Advance s) = unlike (v.AddRoute a b c d) (v.Advance s) refl refl
edits (v.EndRoute a b c) (v.Append s) = unlike (v.EndRoute a b c) (v.Append s) refl refl
edits (v.EndRoute a b c) (v.Withdraw s) = unlike (v.EndRoute a b c) (v.Withdraw s) refl refl
edits (v.EndRoute a b c) (v.SetForm s t u) = unlike (v.EndRoute a b c) (v.SetForm s t u) refl refl
edits (v.EndRoute a b c) (v.SetWindow s t) = unlike (v.EndRoute a b c) (v.SetWindow s t) refl refl
edits (v.EndRoute a b c) (v.AddRoute s t u w) = unlike (v.EndRoute a b c) (v.AddRoute s t u w) refl refl
edits (v.EndRoute a b c) (v.EndRoute s t u) = routes_ended a s b t c u
edits (v.EndRoute a b c) (v.CorrectRoute s t u w) = unlike (v.EndRoute a b c) (v.CorrectRoute s t u w) refl refl
edits (v.EndRoute a b c) (v.Advance s) = unlike (v.EndRoute a b c) (v.Advance s) refl refl
edits (v.CorrectRoute a b c d) (v.Append s) = unlike (v.CorrectRoute a b c d) (v.Append s) refl refl
edits (v.CorrectRoute a b c d) (v.Withdraw s) = unlike (v.CorrectRoute a b c d) (v.Withdraw s) refl refl
edits (v.CorrectRoute a b c d) (v.SetForm s t u) = unlike (v.CorrectRoute a b c d) (v.SetForm s t u) refl refl
edits (v.CorrectRoute a b c d) (v.SetWindow s t) = unlike (v.CorrectRoute a b c d) (v.SetWindow s t) refl refl
edits (v.CorrectRoute a b c d) (v.AddRoute s t u w) = unlike (v.CorrectRoute a b c d) (v.AddRoute s t u w) refl refl
edits (v.CorrectRoute a b c d) (v.EndRoute s t u) = unlike (v.CorrectRoute a b c d) (v.EndRoute s t u) refl refl
edits (v.CorrectRoute a b c d) (v.CorrectRoute s t u w) = routes_corrected a s b t c u d w
edits (v.CorrectRoute a b c d) (v.Advance s) = unlike (v.CorrectRoute a b c d) (v.Advance s) refl refl
edits (v.Advance a) (v.Append s) = unlike (v.Advance a) (v.Append s) refl refl
edits (v.Advance a) (v.Withdraw s) = unlike (v.Advance a) (v.Withdraw s) refl refl
edits (v.Advance a) (v.SetForm s t u) = unlike (v.Advance a) (v.SetForm s t u) refl refl
edits (v.Advance a) (v.SetWindow s t) = unlike (v.Advance a) (v.SetWindow s t) refl refl
edits (v.Advance a) (v.AddRoute s t u w) = unlike (v.Advance a) (v.AddRoute s t u w) refl refl
edits (v.Advance a) (v.EndRoute s t u) = unlike (v.Advance a) (v.EndRoute s t u) refl refl
edits (v.Advance a) (v.CorrectRoute s t u w) = unlike (v.Advance a) (v.CorrectRoute s t u w) refl refl
edits (v.Advance a) (v.Advance s) = clocks a s

pub edits_eq-one : (a b : Edit) → edits_eq a b ≡ true → a ≡ b
edits_eq-one a b e = (edits a b).0 e

pub edits_eq-same : (a b : Edit) → a ≡ b → edits_eq a b ≡ true
edits_eq-same a b e = (edits a b).1 e

pub ruleset same_edits = (edits_eq-one, edits_eq-same)

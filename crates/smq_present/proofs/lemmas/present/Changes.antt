-- What an edit changes, and when it is refused.
use Rattle.std.proofs.Common.{◌≡◌, ◌≢◌, ◌⊎◌, ℕ, Bool, true, false, cond, List, [], ◌∷◌, ◌++◌, Option, Some, None, refl, sym, ap, ◌∙◌, subst, inl, inr, arith}
use Rattle.std.specs.Prelude.{◌==◌, ◌&&◌, not, if◌then◌else◌, option_map, unwrap_or}
use Rattle.std.specs.List.{list_all}
use Rattle.std.proofs.lemmas.Bool.{false≢true}
use Rattle.std.proofs.lemmas.Bool.Decides.{nat_tests}
use Rattle.std.specs.Cmp.{nat_cmp_total, tied_itself}
use Rattle.std.specs.FinMap.{FinMap, get, insert, remove, get-insert, get-remove, same_map, nat_cmp-IsAntisymmetric}
use Rattle.std.specs.Ordering.{nat_cmp, is_eq}
use Rattle.std.specs.declared.cmp.Ordering.{Ordering}
use Rattle.std.specs.declared.cmp.Ordering.TheVariants.{Less, Equal, Greater}
use Rattle.smq_kit.specs.declared.message_id.Form.{Form}
use Rattle.smq_kit.specs.declared.names.LinkId.{LinkId}
use Rattle.smq_kit.specs.declared.names.RouteId.{RouteId}
use Rattle.smq_kit.specs.declared.names.SessionId.{SessionId}
use Rattle.smq_kit.specs.declared.place.Dir.{Dir}
use Rattle.smq_kit.specs.declared.place.Dir.TheVariants.{FromClient, FromCentre}
use Rattle.smq_kit.specs.declared.refusal.Refusal.{Refusal}
use Rattle.smq_kit.specs.declared.refusal.Refusal.TheVariants.{NoSession}
use Rattle.smq_frame.specs.Stream.{Octet, handed_in}
use Rattle.smq_route.specs.Edits.{ending, corrected}
use Rattle.smq_route.specs.Versions.{Versions, key_at}
use Rattle.smq_present.specs.declared.present.edit.Edit.{Edit}
use Rattle.smq_present.specs.declared.present.edit.Edit.TheVariants.{Append, Withdraw, SetForm, SetWindow, AddRoute, EndRoute, CorrectRoute, Advance}
use Rattle.smq_present.specs.declared.present.forms.Forms.{Forms}
use Rattle.smq_present.specs.declared.present.session.Session.{Session}
use Rattle.smq_present.specs.present.Batch.{BatchValue}
use Rattle.smq_present.specs.present.Present.{PresentValue, session_of, direction, octets_in, octets_of}
use Rattle.smq_present.specs.present.Settings.{forms_if_set, window_if_set, with_windows, with_versions, with_clock}
use Rattle.smq_kit.specs.Replies.{first_of}
use Rattle.smq_present.specs.present.Replies.{no_session, append_refusals, reply}
use Rattle.smq_present.specs.present.Steps.{session_with, session_after, change, step_unless, step, steps, Appends, Withdraws, SetsForm, SetsWindow, AddsRoute, EndsRoute, CorrectsRoute, Advances, is_append_to, is_of_session, edits_without, LeavesNoTrace, IsAsNeverThere, AreAppendedAgain, AppendsCommute}
use Rattle.smq_present.proofs.lemmas.present.BatchReplies.{new_session}
use Rattle.smq_present.proofs.lemmas.present.NumberMaps.{remove-none}
use Rattle.smq_present.proofs.lemmas.present.VersionLemmas.{put-there, put-elsewhere, changed-there, changed-elsewhere, same_versions}

-- ---- the session of a batch

with-grown : (d : Dir) (octets : List Octet) (s : Session) → direction d (session_with d octets s) ≡ direction d s ++ octets
with-grown FromClient octets s = refl
with-grown FromCentre octets s = refl

with-other : (d e : Dir) (octets : List Octet) (s : Session) → e ≢ d → direction e (session_with d octets s) ≡ direction e s
with-other FromClient FromClient octets s ne = absurd (ne refl)
with-other FromClient FromCentre octets s ne = refl
with-other FromCentre FromClient octets s ne = refl
with-other FromCentre FromCentre octets s ne = absurd (ne refl)

with-link : (d : Dir) (octets : List Octet) (s : Session) → (session_with d octets s).link ≡ s.link
with-link FromClient octets s = refl
with-link FromCentre octets s = refl

no_octets : (d : Dir) (b : BatchValue) → direction d (new_session b) ≡ []
no_octets FromClient b = refl
no_octets FromCentre b = refl

after-grown : (o : Option Session) (b : BatchValue) → direction b.dir (session_after o b) ≡ octets_in b.dir o ++ handed_in b.moment b.octets
after-grown None b = with-grown b.dir (handed_in b.moment b.octets) (new_session b)
    ∙ ap (λ (t : List Octet). t ++ handed_in b.moment b.octets) (no_octets b.dir b)
after-grown (Some s) b = with-grown b.dir (handed_in b.moment b.octets) s

after-other : (o : Option Session) (b : BatchValue) (d : Dir) → d ≢ b.dir → direction d (session_after o b) ≡ octets_in d o
after-other None b d ne = with-other b.dir d (handed_in b.moment b.octets) (new_session b) ne ∙ no_octets d b
after-other (Some s) b d ne = with-other b.dir d (handed_in b.moment b.octets) s ne

after-link : (o : Option Session) (b : BatchValue) → (session_after o b).link ≡ unwrap_or (option_map (λ (s : Session). s.link) o) b.link
after-link None b = with-link b.dir (handed_in b.moment b.octets) (new_session b)
after-link (Some s) b = with-link b.dir (handed_in b.moment b.octets) s

-- ---- a change at one number

get-here : {X : Type 0} (m : FinMap nat_cmp X) (k : ℕ) (v : X) → get (insert m k v) k ≡ Some v
get-here m k v = get-insert nat_cmp_total m k v k ∙ (λ i. cond (is_eq (tied_itself nat_cmp_total k i)) (Some v) (get m k))

unless : {X : Type 0} (k q : ℕ) (v w : X) (o : Ordering) → nat_cmp q k ≡ o → q ≢ k → cond (is_eq o) v w ≡ w
unless k q v w Less e ne = refl
unless k q v w Equal e ne = absurd (ne (nat_cmp-IsAntisymmetric q k e))
unless k q v w Greater e ne = refl

pub get-elsewhere : {X : Type 0} (m : FinMap nat_cmp X) (k q : ℕ) (v : X) → q ≢ k → get (insert m k v) q ≡ get m q
get-elsewhere m k q v ne = get-insert nat_cmp_total m k v q ∙ unless k q (Some v) (get m q) (nat_cmp q k) refl ne

get-removed : {X : Type 0} (m : FinMap nat_cmp X) (k : ℕ) → get (remove m k) k ≡ None
get-removed m k = get-remove nat_cmp_total m k k ∙ (λ i. cond (is_eq (tied_itself nat_cmp_total k i)) None (get m k))

get-left : {X : Type 0} (m : FinMap nat_cmp X) (k q : ℕ) → q ≢ k → get (remove m k) q ≡ get m q
get-left m k q ne = get-remove nat_cmp_total m k q ∙ unless k q None (get m q) (nat_cmp q k) refl ne

pub appends-change : (p : PresentValue) (b : BatchValue) → Appends p (change p (Append b)) b
appends-change p b =
    let here : session_of (change p (Append b)) b.session.0 ≡ Some (session_after (session_of p b.session.0) b) =
    get-here p.sessions b.session.0 (session_after (session_of p b.session.0) b) in
    record {
      grown = ap (octets_in b.dir) here ∙ after-grown (session_of p b.session.0) b;
      other_direction = λ d ne. ap (octets_in d) here ∙ after-other (session_of p b.session.0) b d ne;
      link = ap (option_map (λ (s : Session). s.link)) here ∙ ap Some (after-link (session_of p b.session.0) b);
      elsewhere = λ q ne. get-elsewhere p.sessions b.session.0 q (session_after (session_of p b.session.0) b) ne;
      rest = refl;
    }

pub withdraws-change : (p : PresentValue) (s : SessionId) → Withdraws p (change p (Withdraw s)) s
withdraws-change p s = record {
  absent = get-removed p.sessions s.0;
  elsewhere = λ q ne. get-left p.sessions s.0 q ne;
  rest = refl;
}

pub sets-change : (p : PresentValue) (link : LinkId) (response receipt : Form)
    → SetsForm p (change p (SetForm link response receipt)) link response receipt
sets-change p link response receipt = record {
  there = get-here p.settings.forms link.0 (record { response = response; receipt = receipt });
  elsewhere = λ q ne. get-elsewhere p.settings.forms link.0 q (record { response = response; receipt = receipt }) ne;
  rest = refl;
}

pub window-change : (p : PresentValue) (link : LinkId) (window : ℕ) → SetsWindow p (change p (SetWindow link window)) link window
window-change p link window = record {
  there = get-here p.settings.windows link.0 window;
  elsewhere = λ q ne. get-elsewhere p.settings.windows link.0 q window ne;
  rest = refl;
}

pub adds-change : (p : PresentValue) (prefix : List ℕ) (from : ℕ) (route : RouteId) (network : List ℕ)
    → AddsRoute p (change p (AddRoute prefix from route network)) prefix from route network
adds-change p prefix from route network = record {
  there = put-there p.settings.versions (key_at prefix from) (record { until = None; route = route; network = network });
  elsewhere = λ key ne. put-elsewhere p.settings.versions (key_at prefix from) (record { until = None; route = route; network = network }) key ne;
  rest = refl;
}

pub ends-change : (p : PresentValue) (prefix : List ℕ) (from until : ℕ) → EndsRoute p (change p (EndRoute prefix from until)) prefix from until
ends-change p prefix from until = record {
  there = changed-there p.settings.versions prefix from (ending until);
  elsewhere = λ key ne. changed-elsewhere p.settings.versions prefix from (ending until) key ne;
  rest = refl;
}

pub corrects-change : (p : PresentValue) (prefix : List ℕ) (from : ℕ) (route : RouteId) (network : List ℕ)
    → CorrectsRoute p (change p (CorrectRoute prefix from route network)) prefix from route network
corrects-change p prefix from route network = record {
  there = changed-there p.settings.versions prefix from (corrected route network);
  elsewhere = λ key ne. changed-elsewhere p.settings.versions prefix from (corrected route network) key ne;
  rest = refl;
}

pub advances-change : (p : PresentValue) (clock : ℕ) → Advances p (change p (Advance clock)) clock
advances-change p clock = record { there = refl; rest = refl }

-- ---- no other change

same_link : (a b : LinkId) (o : Option LinkId) → Some a ≡ o → Some b ≡ o → a ≡ b
same_link a b o e f = cc

same_session : (o u : Option Session) (k : LinkId) → option_map (λ (s : Session). s.link) o ≡ Some k
    → option_map (λ (s : Session). s.link) u ≡ Some k → ((d : Dir) → octets_in d o ≡ octets_in d u) → o ≡ u
same_session None u k e f h = absurd cc
same_session (Some s) None k e f h = absurd cc
same_session (Some s) (Some t) k e f h =
    let link : s.link ≡ t.link = same_link s.link t.link (Some k) e f in
    λ i. Some (record { link = link i; client = h FromClient i; centre = h FromCentre i })

either_dir : (d e : Dir) → (d ≡ e) ⊎ (d ≢ e)
either_dir FromClient FromClient = inl refl
either_dir FromClient FromCentre = inr (λ h. cc)
either_dir FromCentre FromClient = inr (λ h. cc)
either_dir FromCentre FromCentre = inl refl

same_octets : (p q r : PresentValue) (b : BatchValue) → Appends p q b → Appends p r b → (d : Dir)
    → octets_of q b.session.0 d ≡ octets_of r b.session.0 d
same_octets p q r b one two d =
    elim (either_dir d b.dir) [
      | inl is ↦ subst (λ (e : Dir). octets_of q b.session.0 e ≡ octets_of r b.session.0 e) (sym is) (one.grown ∙ sym two.grown)
      | inr ne ↦ one.other_direction d ne ∙ sym (two.other_direction d ne)
    ]

either_number : (q k : ℕ) (o : Ordering) → nat_cmp q k ≡ o → (q ≡ k) ⊎ (q ≢ k)
either_number q k Less e = inr (λ is. let same : nat_cmp q k ≡ Equal = subst (λ (n : ℕ). nat_cmp q n ≡ Equal) is (tied_itself nat_cmp_total q) in cc)
either_number q k Equal e = inl (nat_cmp-IsAntisymmetric q k e)
either_number q k Greater e = inr (λ is. let same : nat_cmp q k ≡ Equal =
    subst (λ (n : ℕ). nat_cmp q n ≡ Equal) is (tied_itself nat_cmp_total q) in cc)

same_at : (p q r : PresentValue) (b : BatchValue) → Appends p q b → Appends p r b → (n : ℕ) → session_of q n ≡ session_of r n
same_at p q r b one two n =
    elim (either_number n b.session.0 (nat_cmp n b.session.0) refl) [
      | inl is ↦ subst (λ (m : ℕ). session_of q m ≡ session_of r m) (sym is)
          (same_session (session_of q b.session.0) (session_of r b.session.0) _ one.link two.link (same_octets p q r b one two))
      | inr ne ↦ one.elsewhere n ne ∙ sym (two.elsewhere n ne)
    ]

pub appends-alone : (p q : PresentValue) (b : BatchValue) → Appends p q b → q ≡ change p (Append b)
appends-alone p q b one =
    let same : q.sessions ≡ (change p (Append b)).sessions =
    same_map nat_cmp_total nat_cmp-IsAntisymmetric _ _ (same_at p q (change p (Append b)) b one (appends-change p b)) in
    one.rest ∙ ap (λ (m : FinMap nat_cmp Session). record p { sessions = m }) same

withdrawn_at : (p q r : PresentValue) (s : SessionId) → Withdraws p q s → Withdraws p r s → (n : ℕ) → session_of q n ≡ session_of r n
withdrawn_at p q r s one two n =
    elim (either_number n s.0 (nat_cmp n s.0) refl) [
      | inl is ↦ subst (λ (m : ℕ). session_of q m ≡ session_of r m) (sym is) (one.absent ∙ sym two.absent)
      | inr ne ↦ one.elsewhere n ne ∙ sym (two.elsewhere n ne)
    ]

pub withdraws-alone : (p q : PresentValue) (s : SessionId) → Withdraws p q s → q ≡ change p (Withdraw s)
withdraws-alone p q s one =
    let new = change p (Withdraw s) in
    let same : q.sessions ≡ new.sessions = same_map nat_cmp_total nat_cmp-IsAntisymmetric _ _ (withdrawn_at p q new s one (withdraws-change p s)) in
    one.rest ∙ ap (λ (m : FinMap nat_cmp Session). record p { sessions = m }) same

same_forms : (p q r : PresentValue) (link : LinkId) (response receipt : Form) → SetsForm p q link response receipt
    → SetsForm p r link response receipt → (n : ℕ) → forms_if_set q.settings n ≡ forms_if_set r.settings n
same_forms p q r link response receipt one two n =
    elim (either_number n link.0 (nat_cmp n link.0) refl) [
      | inl is ↦ subst (λ (m : ℕ). forms_if_set q.settings m ≡ forms_if_set r.settings m) (sym is) (one.there ∙ sym two.there)
      | inr ne ↦ one.elsewhere n ne ∙ sym (two.elsewhere n ne)
    ]

pub sets-alone : (p q : PresentValue) (link : LinkId) (response receipt : Form) → SetsForm p q link response receipt
    → q ≡ change p (SetForm link response receipt)
sets-alone p q link response receipt one =
    let new = change p (SetForm link response receipt) in
    let same : q.settings.forms ≡ new.settings.forms =
    same_map nat_cmp_total nat_cmp-IsAntisymmetric _ _
    (same_forms p q new link response receipt one (sets-change p link response receipt)) in
    one.rest ∙ ap (λ (m : FinMap nat_cmp Forms). record p { settings = record p.settings { forms = m } }) same

same_windows : (p q r : PresentValue) (link : LinkId) (window : ℕ) → SetsWindow p q link window → SetsWindow p r link window
    → (n : ℕ) → window_if_set q.settings n ≡ window_if_set r.settings n
same_windows p q r link window one two n =
    elim (either_number n link.0 (nat_cmp n link.0) refl) [
      | inl is ↦ subst (λ (m : ℕ). window_if_set q.settings m ≡ window_if_set r.settings m) (sym is) (one.there ∙ sym two.there)
      | inr ne ↦ one.elsewhere n ne ∙ sym (two.elsewhere n ne)
    ]

pub window-alone : (p q : PresentValue) (link : LinkId) (window : ℕ) → SetsWindow p q link window → q ≡ change p (SetWindow link window)
window-alone p q link window one =
    let new = change p (SetWindow link window) in
    let same : q.settings.windows ≡ new.settings.windows =
    same_map nat_cmp_total nat_cmp-IsAntisymmetric _ _ (same_windows p q new link window one (window-change p link window)) in
    one.rest ∙ ap (λ (m : FinMap nat_cmp ℕ). record p { settings = with_windows p.settings m }) same

pub adds-alone : (p q : PresentValue) (prefix : List ℕ) (from : ℕ) (route : RouteId) (network : List ℕ)
    → AddsRoute p q prefix from route network → q ≡ change p (AddRoute prefix from route network)
adds-alone p q prefix from route network one =
    let two = adds-change p prefix from route network in
    one.rest ∙ ap (λ (m : Versions). record p { settings = with_versions p.settings m })
    (same_versions p.settings.versions q.settings.versions _ (key_at prefix from) (one.there ∙ sym two.there) one.elsewhere
    two.elsewhere)

pub ends-alone : (p q : PresentValue) (prefix : List ℕ) (from until : ℕ) → EndsRoute p q prefix from until → q ≡ change p (EndRoute prefix from until)
ends-alone p q prefix from until one =
    let two = ends-change p prefix from until in
    one.rest ∙ ap (λ (m : Versions). record p { settings = with_versions p.settings m })
    (same_versions p.settings.versions q.settings.versions _ (key_at prefix from) (one.there ∙ sym two.there) one.elsewhere
    two.elsewhere)

pub corrects-alone : (p q : PresentValue) (prefix : List ℕ) (from : ℕ) (route : RouteId) (network : List ℕ)
    → CorrectsRoute p q prefix from route network → q ≡ change p (CorrectRoute prefix from route network)
corrects-alone p q prefix from route network one =
    let two = corrects-change p prefix from route network in
    one.rest ∙ ap (λ (m : Versions). record p { settings = with_versions p.settings m })
    (same_versions p.settings.versions q.settings.versions _ (key_at prefix from) (one.there ∙ sym two.there) one.elsewhere
    two.elsewhere)

pub advances-alone : (p q : PresentValue) (clock : ℕ) → Advances p q clock → q ≡ change p (Advance clock)
advances-alone p q clock one = one.rest ∙ ap (λ (n : ℕ). record p { settings = with_clock p.settings n }) one.there

pub step-made : (p : PresentValue) (e : Edit) → reply p e ≡ None → step p e ≡ change p e
step-made p e h = ap (λ (o : Option Refusal). step_unless o p e) h

pub step-refused : (p : PresentValue) (e : Edit) (r : Refusal) → reply p e ≡ Some r → step p e ≡ p
step-refused p e r h = ap (λ (o : Option Refusal). step_unless o p e) h

-- ---- withdrawals

-- withdrawing a session that is absent is refused, and there is nothing to take out
step-withdrawn : (p : PresentValue) (s : SessionId) (o : Option Session) → session_of p s.0 ≡ o
    → step_unless (no_session o) p (Withdraw s) ≡ change p (Withdraw s)
step-withdrawn p s None e = ap (λ (m : FinMap nat_cmp Session). record p { sessions = m }) (sym (remove-none p.sessions s.0 e))
step-withdrawn p s (Some there) e = refl

step-withdraw : (p : PresentValue) (s : SessionId) → step p (Withdraw s) ≡ change p (Withdraw s)
step-withdraw p s = step-withdrawn p s (session_of p s.0) refl

remove-insert : {X : Type 0} (m : FinMap nat_cmp X) (k n : ℕ) (v : X) → n ≡ k → remove (insert m n v) k ≡ remove m k
remove-insert m k n v is = same_map nat_cmp_total nat_cmp-IsAntisymmetric _ _ (λ q.
    elim (either_number q k (nat_cmp q k) refl) [
      | inl at ↦ subst (λ (j : ℕ). get (remove (insert m n v) k) j ≡ get (remove m k) j) (sym at) (get-removed (insert m n v) k
          ∙ sym (get-removed m k))
      | inr ne ↦ get-left (insert m n v) k q ne ∙ get-elsewhere m n q v (λ at. ne (at ∙ is)) ∙ sym (get-left m k q ne)
    ])

same_number : (a b : ℕ) → a == b ≡ true → a ≡ b
same_number a b h = grind (arith, nat_tests, h)

hidden : (p : PresentValue) (s : SessionId) (e : Edit) (o : Option Refusal) → is_append_to s e ≡ true
    → change (step_unless o p e) (Withdraw s) ≡ change p (Withdraw s)
hidden p s e (Some r) h = refl
hidden p s (Append b) None h = ap (λ (m : FinMap nat_cmp Session). record p { sessions = m })
    (remove-insert p.sessions s.0 b.session.0 (session_after (session_of p b.session.0) b) (same_number b.session.0 s.0 h))
hidden p s (Withdraw t) None h = absurd (false≢true h)
hidden p s (SetForm link response receipt) None h = absurd (false≢true h)
hidden p s (SetWindow link window) None h = absurd (false≢true h)
hidden p s (AddRoute prefix from route network) None h = absurd (false≢true h)
hidden p s (EndRoute prefix from until) None h = absurd (false≢true h)
hidden p s (CorrectRoute prefix from route network) None h = absurd (false≢true h)
hidden p s (Advance clock) None h = absurd (false≢true h)

and_parts : (a b : Bool) → a && b ≡ true → (a ≡ true) × (b ≡ true)
and_parts true true h = (refl, refl)
and_parts true false h = absurd (false≢true h)
and_parts false b h = absurd (false≢true h)

no_trace : (p : PresentValue) (s : SessionId) (edits : List Edit) → list_all (is_append_to s) edits ≡ true
    → change (steps p edits) (Withdraw s) ≡ change p (Withdraw s)
no_trace p s [] h = refl
no_trace p s (e ∷ edits) h =
    let parts = and_parts (is_append_to s e) (list_all (is_append_to s) edits) h in
    no_trace (step p e) s edits parts.1 ∙ hidden p s e (reply p e) parts.0

-- ---- edits that aren't of the session are the same without it

number_apart : (a b : ℕ) → a == b ≡ false → a ≢ b
number_apart a b h is = grind (arith, nat_tests, h, is)

remove-insert-apart : {X : Type 0} (m : FinMap nat_cmp X) (k n : ℕ) (v : X) → n ≢ k → remove (insert m n v) k ≡ insert (remove m k) n v
remove-insert-apart m k n v ne = same_map nat_cmp_total nat_cmp-IsAntisymmetric _ _ (λ q.
    elim (either_number q n (nat_cmp q n) refl) [
      | inl at ↦ subst (λ (j : ℕ). get (remove (insert m n v) k) j ≡ get (insert (remove m k) n v) j) (sym at)
          (get-left (insert m n v) k n ne ∙ get-here m n v ∙ sym (get-here (remove m k) n v))
      | inr far ↦ elim (either_number q k (nat_cmp q k) refl) [
        | inl at ↦ subst (λ (j : ℕ). get (remove (insert m n v) k) j ≡ get (insert (remove m k) n v) j) (sym at)
            (get-removed (insert m n v) k ∙ sym (get-elsewhere (remove m k) n k v (λ is. ne (sym is)) ∙ get-removed m k))
        | inr apart ↦ get-left (insert m n v) k q apart ∙ get-elsewhere m n q v far
            ∙ sym (get-elsewhere (remove m k) n q v far ∙ get-left m k q apart)
      ]
    ])

remove-remove : {X : Type 0} (m : FinMap nat_cmp X) (k n : ℕ) → remove (remove m n) k ≡ remove (remove m k) n
remove-remove m k n = same_map nat_cmp_total nat_cmp-IsAntisymmetric _ _ (λ q.
    elim (either_number q k (nat_cmp q k) refl) [
      | inl at ↦ elim (either_number q n (nat_cmp q n) refl) [
        | inl too ↦ subst (λ (j : ℕ). get (remove (remove m n) k) j ≡ None) (sym at) (get-removed (remove m n) k)
            ∙ sym (subst (λ (j : ℕ). get (remove (remove m k) n) j ≡ None) (sym too) (get-removed (remove m k) n))
        | inr far ↦ subst (λ (j : ℕ). get (remove (remove m n) k) j ≡ None) (sym at) (get-removed (remove m n) k)
            ∙ sym (get-left (remove m k) n q far ∙ subst (λ (j : ℕ). get (remove m k) j ≡ None) (sym at) (get-removed m k))
      ]
      | inr apart ↦ get-left (remove m n) k q apart ∙ elim (either_number q n (nat_cmp q n) refl) [
        | inl too ↦ subst (λ (j : ℕ). get (remove m n) j ≡ None) (sym too) (get-removed m n)
            ∙ sym (subst (λ (j : ℕ). get (remove (remove m k) n) j ≡ None) (sym too) (get-removed (remove m k) n))
        | inr far ↦ get-left m n q far ∙ sym (get-left (remove m k) n q far ∙ get-left m k q apart)
      ]
    ])

remove-twice : {X : Type 0} (m : FinMap nat_cmp X) (k n : ℕ) → n ≡ k → remove (remove m n) k ≡ remove m k
remove-twice m k n is = same_map nat_cmp_total nat_cmp-IsAntisymmetric _ _ (λ q.
    elim (either_number q k (nat_cmp q k) refl) [
      | inl at ↦ subst (λ (j : ℕ). get (remove (remove m n) k) j ≡ get (remove m k) j) (sym at) (get-removed (remove m n) k ∙ sym (get-removed m k))
      | inr ne ↦ get-left (remove m n) k q ne ∙ get-left m n q (λ at. ne (at ∙ is)) ∙ sym (get-left m k q ne)
    ])

abbrev without : PresentValue → SessionId → PresentValue
without p s = change p (Withdraw s)

set-apart : (p : PresentValue) (s : SessionId) (b : BatchValue) → b.session.0 ≢ s.0 → (o : Option Refusal) → o ≡ reply p (Append b)
    → without (step_unless o p (Append b)) s ≡ step (without p s) (Append b)
set-apart p s b ne o is =
    let same : session_of (without p s) b.session.0 ≡ session_of p b.session.0 = get-left p.sessions s.0 b.session.0 ne in
    let replies : o ≡ reply (without p s) (Append b) = is ∙ sym (ap (λ (there : Option Session). first_of (append_refusals there b)) same) in
    elim o as (λ (q : Option Refusal). q ≡ reply (without p s) (Append b) → without (step_unless q p (Append b)) s ≡ step (without p s) (Append b)) [
      | None ↦ λ none. ap (λ (m : FinMap nat_cmp Session). record p { sessions = m })
          (remove-insert-apart p.sessions s.0 b.session.0 (session_after (session_of p b.session.0) b) ne)
          ∙ ap (λ (there : Option Session). record p { sessions = insert (remove p.sessions s.0) b.session.0 (session_after there b) }) (sym same)
          ∙ sym (step-made (without p s) (Append b) (sym none))
      | Some r ↦ λ some. sym (step-refused (without p s) (Append b) r (sym some))
    ] replies

either_way : (p : PresentValue) (s : SessionId) (e : Edit) (o : Option Refusal) → without (change p e) s ≡ change (without p s) e
    → without (step_unless o p e) s ≡ step_unless o (without p s) e
either_way p s e None same = same
either_way p s e (Some r) same = refl

-- an edit that isn't of a session leaves without the session what it leaves where that is absent
apart : (p : PresentValue) (s : SessionId) (e : Edit) → is_of_session s e ≡ false → without (step p e) s ≡ step (without p s) e
apart p s (Append b) h = set-apart p s b (number_apart b.session.0 s.0 h) (reply p (Append b)) refl
apart p s (Withdraw t) h =
    ap (λ (q : PresentValue). without q s) (step-withdraw p t)
    ∙ ap (λ (m : FinMap nat_cmp Session). record p { sessions = m }) (remove-remove p.sessions s.0 t.0)
    ∙ sym (step-withdraw (without p s) t)
apart p s (SetForm link response receipt) h = refl
apart p s (SetWindow link window) h = refl
apart p s (AddRoute prefix from route network) h =
    either_way p s (AddRoute prefix from route network) (reply p (AddRoute prefix from route network)) refl
apart p s (EndRoute prefix from until) h = either_way p s (EndRoute prefix from until) (reply p (EndRoute prefix from until)) refl
apart p s (CorrectRoute prefix from route network) h =
    either_way p s (CorrectRoute prefix from route network) (reply p (CorrectRoute prefix from route network)) refl
apart p s (Advance clock) h = either_way p s (Advance clock) (reply p (Advance clock)) refl

-- an edit of the session leaves nothing without it
of_it : (p : PresentValue) (s : SessionId) (e : Edit) → is_of_session s e ≡ true → without (step p e) s ≡ without p s
of_it p s (Append b) h = hidden p s (Append b) (reply p (Append b)) h
of_it p s (Withdraw t) h =
    ap (λ (q : PresentValue). without q s) (step-withdraw p t)
    ∙ ap (λ (m : FinMap nat_cmp Session). record p { sessions = m }) (remove-twice p.sessions s.0 t.0 (same_number t.0 s.0 h))
of_it p s (SetForm link response receipt) h = absurd (false≢true h)
of_it p s (SetWindow link window) h = absurd (false≢true h)
of_it p s (AddRoute prefix from route network) h = absurd (false≢true h)
of_it p s (EndRoute prefix from until) h = absurd (false≢true h)
of_it p s (CorrectRoute prefix from route network) h = absurd (false≢true h)
of_it p s (Advance clock) h = absurd (false≢true h)

-- Without the session, all edits leave what those that aren't of it leave where it is absent.
all_left : (p : PresentValue) (s : SessionId) (edits : List Edit) → without (steps p edits) s ≡ steps (without p s) (edits_without s edits)
all_left p s [] = refl
all_left p s (e ∷ edits) =
    all_left (step p e) s edits
    ∙ elim (is_of_session s e) as (λ (b : Bool). is_of_session s e ≡ b → steps (without (step p e) s) (edits_without s edits)
    ≡ steps (without p s) (if not b then e ∷ edits_without s edits else edits_without s edits)) [
      | true ↦ λ h. ap (λ (q : PresentValue). steps q (edits_without s edits)) (of_it p s e h)
      | false ↦ λ h. ap (λ (q : PresentValue). steps q (edits_without s edits)) (apart p s e h)
    ] refl

others_left : (p : PresentValue) (s : SessionId) (edits : List Edit) → without (steps p (edits_without s edits)) s
    ≡ steps (without p s) (edits_without s edits)
others_left p s [] = refl
others_left p s (e ∷ edits) =
    elim (is_of_session s e) as (λ (b : Bool). is_of_session s e ≡ b
    → without (steps p (if not b then e ∷ edits_without s edits else edits_without s edits)) s
    ≡ steps (without p s) (if not b then e ∷ edits_without s edits else edits_without s edits)) [
      | true ↦ λ h. others_left p s edits
      | false ↦ λ h. others_left (step p e) s edits ∙ ap (λ (q : PresentValue). steps q (edits_without s edits)) (apart p s e h)
    ] refl

pub leaves_no_trace : LeavesNoTrace
leaves_no_trace p s edits =
    step-withdraw (steps p edits) s ∙ all_left p s edits
    ∙ sym (others_left p s edits) ∙ sym (step-withdraw (steps p (edits_without s edits)) s)

pub as_never_there : (p : PresentValue) (s : SessionId) (edits : List Edit) → session_of p s.0 ≡ None → IsAsNeverThere p s edits
as_never_there p s edits missing =
    let others = edits_without s edits in
    let first : without p s ≡ p = ap (λ (m : FinMap nat_cmp Session). record p { sessions = m }) (remove-none p.sessions s.0 missing) in
    let last : without (steps p others) s ≡ steps p others = others_left p s edits ∙ ap (λ (q : PresentValue). steps q others) first in
    record {
      left = step-withdraw (steps p edits) s ∙ all_left p s edits ∙ ap (λ (q : PresentValue). steps q others) first;
      absent = ap (λ (q : PresentValue). session_of q s.0) (sym last) ∙ get-removed (steps p others).sessions s.0;
    }

pub appended_again : AreAppendedAgain
appended_again p s edits missing h =
    let gone : step (steps p edits) (Withdraw s) ≡ p = step-withdraw (steps p edits) s ∙ no_trace p s edits h
    ∙ sym (step-withdraw p s) ∙ step-refused p (Withdraw s) NoSession (ap no_session missing) in
    ap (λ (q : PresentValue). steps q edits) gone

-- ---- batches of different sessions

left_alone : (p : PresentValue) (one two : BatchValue) → two.session.0 ≢ one.session.0 → (o : Option Refusal)
    → session_of (step_unless o p (Append one)) two.session.0 ≡ session_of p two.session.0
left_alone p one two ne None = get-elsewhere p.sessions one.session.0 two.session.0 (session_after (session_of p one.session.0) one) ne
left_alone p one two ne (Some r) = refl

same_reply : (p : PresentValue) (one two : BatchValue) → two.session.0 ≢ one.session.0 → reply (step p (Append one)) (Append two)
    ≡ reply p (Append two)
same_reply p one two ne = ap (λ (o : Option Session). first_of (append_refusals o two)) (left_alone p one two ne (reply p (Append one)))

pub insert-insert : {X : Type 0} (m : FinMap nat_cmp X) (j k : ℕ) (v w : X) → k ≢ j → insert (insert m j v) k w ≡ insert (insert m k w) j v
insert-insert m j k v w ne = same_map nat_cmp_total nat_cmp-IsAntisymmetric _ _ (λ q.
    elim (either_number q k (nat_cmp q k) refl) [
      | inl at ↦ subst (λ (n : ℕ). get (insert (insert m j v) k w) n ≡ get (insert (insert m k w) j v) n) (sym at)
          (get-here (insert m j v) k w ∙ sym (get-elsewhere (insert m k w) j k v ne ∙ get-here m k w))
      | inr apart ↦ get-elsewhere (insert m j v) k q w apart ∙ elim (either_number q j (nat_cmp q j) refl) [
        | inl at ↦ subst (λ (n : ℕ). get (insert m j v) n ≡ get (insert (insert m k w) j v) n) (sym at) (get-here m j v
            ∙ sym (get-here (insert m k w) j v))
        | inr far ↦ get-elsewhere m j q v far ∙ sym (get-elsewhere (insert m k w) j q v far ∙ get-elsewhere m k q w apart)
      ]
    ])

both_made : (p : PresentValue) (one two : BatchValue) → two.session.0 ≢ one.session.0 → change (change p (Append one)) (Append two)
    ≡ change (change p (Append two)) (Append one)
both_made p one two ne =
    let first : session_of (change p (Append one)) two.session.0 ≡ session_of p two.session.0 = left_alone p one two ne None in
    let second : session_of (change p (Append two)) one.session.0 ≡ session_of p one.session.0 = left_alone p two one (λ e. ne (sym e)) None in
    let with : FinMap nat_cmp Session → PresentValue = λ m. record p { sessions = m } in
    ap (λ (o : Option Session). with (insert (change p (Append one)).sessions two.session.0 (session_after o two))) first
    ∙ ap with (insert-insert p.sessions one.session.0 two.session.0 (session_after (session_of p one.session.0) one)
    (session_after (session_of p two.session.0) two) ne)
    ∙ sym (ap (λ (o : Option Session). with (insert (change p (Append two)).sessions one.session.0 (session_after o one))) second)

in_either_order : (p : PresentValue) (one two : BatchValue) → two.session.0 ≢ one.session.0 → (a b : Option Refusal)
    → step_unless b (step_unless a p (Append one)) (Append two) ≡ step_unless a (step_unless b p (Append two)) (Append one)
in_either_order p one two ne None None = both_made p one two ne
in_either_order p one two ne None (Some r) = refl
in_either_order p one two ne (Some q) None = refl
in_either_order p one two ne (Some q) (Some r) = refl

pub appends_commute : (p : PresentValue) (one two : BatchValue) → one.session ≢ two.session → AppendsCommute p one two
appends_commute p one two apart =
    let ne : two.session.0 ≢ one.session.0 = λ e. apart (λ i. record { 0 = sym e i }) in
    let replies : reply (step p (Append one)) (Append two) ≡ reply p (Append two) = same_reply p one two ne in
    let replies_back : reply (step p (Append two)) (Append one) ≡ reply p (Append one) = same_reply p two one (λ e. ne (sym e)) in
    record {
      replies = replies;
      left = ap (λ (o : Option Refusal). step_unless o (step p (Append one)) (Append two)) replies
          ∙ in_either_order p one two ne (reply p (Append one)) (reply p (Append two))
          ∙ sym (ap (λ (o : Option Refusal). step_unless o (step p (Append two)) (Append one)) replies_back);
    }

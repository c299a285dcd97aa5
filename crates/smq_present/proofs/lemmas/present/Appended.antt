-- A batch among the sessions that are present.
use Rattle.std.proofs.Common.{◌≡◌, ℕ, cond, List, Option, Some, None, Result, Ok, Err, subst, refl, sym, ap, ◌∙◌}
use Rattle.std.specs.Prelude.{MatchResult}
use Rattle.std.specs.BTreeMap.{is_at}
use Rattle.std.specs.FinMap.{FinMap, get, insert, remove}
use Rattle.std.specs.Map.{lookup}
use Rattle.std.specs.Ordering.{nat_cmp}
use Rattle.smq_frame.specs.Stream.{Octet, values}
use Rattle.smq_frame.specs.Tail.{tail_of}
use Rattle.smq_kit.specs.declared.refusal.Refusal.{Refusal}
use Rattle.smq_kit.specs.declared.refusal.Refusal.TheVariants.{Memory, NoSession}
use Rattle.smq_present.specs.declared.present.edit.Edit.TheVariants.{Append}
use Rattle.smq_present.specs.declared.present.session.Session.{Session}
use Rattle.smq_present.specs.present.Batch.{BatchValue}
use Rattle.smq_present.specs.present.Present.{PresentValue, direction, octets_in}
use Rattle.smq_present.specs.present.Settings.{SettingsValue}
use Rattle.smq_kit.specs.Replies.{IsReply, IsReplyInPlace, first_of}
use Rattle.smq_present.specs.present.Replies.{append_refusals, no_session, reply}
use Rattle.smq_present.specs.present.Steps.{session_after, change}
use Rattle.smq_present.proofs.lemmas.present.BatchReplies.{IsReply-weaker, new_session, no_octets, put-new, refused-new}
use Rattle.smq_present.proofs.lemmas.present.NumberMaps.{seen, get-seen, insert-seen, insert-same, remove-seen}

-- what becomes of sessions where a batch goes to the session of a number
abbrev pub Becomes : {T : Type 0} → FinMap nat_cmp Session → FinMap nat_cmp Session → ℕ → BatchValue → Result T Refusal → Type 0
Becomes old new n b r = IsReply (first_of (append_refusals (get old n) b)) r (new ≡ insert old n (session_after (get old n) b)) (new ≡ old)

-- what stands under a number
pub found-at : (es : List (ℕ × Session)) (k n : ℕ) (o : Option Session) → k ≡ n → o ≡ lookup (is_at (nat_cmp k)) es → get (seen es) n ≡ o
found-at es k n o number is = ap (get (seen es)) (sym number) ∙ get-seen es k ∙ sym is

-- the session is there
pub at_known : {T : Type 0} (es fs : List (ℕ × Session)) (k n : ℕ) (b : BatchValue) (s s' : Session) (r : Result T Refusal) → k ≡ n
    → Some s ≡ lookup (is_at (nat_cmp k)) es
    → ((q : ℕ) → lookup (is_at (nat_cmp q)) fs ≡ cond (is_at (nat_cmp k) q) (Some s') (lookup (is_at (nat_cmp q)) es))
    → IsReply (first_of (append_refusals (Some s) b)) r (s' ≡ session_after (Some s) b) (s' ≡ s) → Becomes (seen es) (seen fs) n b r
at_known es fs k n b s s' r number there h a =
    let found : get (seen es) k ≡ Some s = get-seen es k ∙ sym there in
    let put : seen fs ≡ insert (seen es) k s' = insert-seen es fs k s' h in
    let at_k : Becomes (seen es) (seen fs) k b r =
    subst (λ (o : Option Session). IsReply (first_of (append_refusals o b)) r (seen fs ≡ insert (seen es) k (session_after o b))
    (seen fs ≡ seen es)) (sym found)
    (IsReply-weaker (first_of (append_refusals (Some s) b)) r (λ e. put ∙ ap (λ (t : Session). insert (seen es) k t) e) (λ e. put
    ∙ ap (λ (t : Session). insert (seen es) k t) e ∙ insert-same (seen es) k s found) a) in
    subst (λ (m : ℕ). Becomes (seen es) (seen fs) m b r) number at_k

-- a batch that is in step with what is present is so with its session there
pub at_known-in_step : (es : List (ℕ × Session)) (k n : ℕ) (b : BatchValue) (s : Session) → k ≡ n
    → Some s ≡ lookup (is_at (nat_cmp k)) es → b.tail ≡ tail_of (values (octets_in b.dir (get (seen es) n)))
    → b.tail ≡ tail_of (values (direction b.dir s))
at_known-in_step es k n b s number there step =
    step ∙ ap (λ (o : Option Session). tail_of (values (octets_in b.dir o))) (found-at es k n (Some s) number there)

-- the session is absent, and a new one is put in with the batch, or not
module _ (es gs : List (ℕ × Session)) (k n : ℕ) (b : BatchValue) (number : k ≡ n) (missing : None ≡ lookup (is_at (nat_cmp k)) es) (same : gs ≡ es)
    (s : Session) (is : s ≡ new_session b) where
  pub absent-in_step : b.tail ≡ tail_of (values (octets_in b.dir (get (seen es) n))) → b.tail ≡ tail_of (values (direction b.dir s))
  absent-in_step step =
      step ∙ ap (λ (o : Option Session). tail_of (values (octets_in b.dir o))) (found-at es k n None number missing)
      ∙ ap (λ (octets : List Octet). tail_of (values octets)) (sym (no_octets b.dir b.link))
      ∙ ap (λ (t : Session). tail_of (values (direction b.dir t))) (sym is)

  at_absent : {T : Type 0} (fs : List (ℕ × Session)) (r : Result T Refusal)
      → IsReply (first_of (append_refusals None b)) r (seen fs ≡ insert (seen gs) n (session_after None b)) (seen fs ≡ seen gs)
      → Becomes (seen es) (seen fs) n b r
  at_absent fs r a =
      subst (λ (o : Option Session). IsReply (first_of (append_refusals o b)) r (seen fs ≡ insert (seen es) n (session_after o b))
      (seen fs ≡ seen es)) (sym (found-at es k n None number missing))
      (subst (λ (hs : List (ℕ × Session)). IsReply (first_of (append_refusals None b)) r (seen fs
      ≡ insert (seen hs) n (session_after None b)) (seen fs ≡ seen hs)) same a)

  pub absent-put : {U : Type 0} (T R : Type 0) (s' : Session) (x : T) (fs : List (ℕ × Session)) (r : Result U Refusal)
      → IsReply {T = T} (first_of (append_refusals (Some s) b)) (Ok x) (s' ≡ session_after (Some s) b) R
      → MatchResult r (λ _. seen fs ≡ insert (seen gs) k s') (λ e. (e ≡ Memory) × (seen fs ≡ seen gs)) → Becomes (seen es) (seen fs) n b r
  absent-put T R s' x fs r a put =
      at_absent fs r (put-new T (seen fs ≡ insert (seen gs) n (session_after None b)) (seen fs ≡ seen gs) R s s' b x r is a (λ after.
      subst (λ (t : Session). MatchResult r (λ _. seen fs ≡ insert (seen gs) n t) (λ e. (e ≡ Memory) × (seen fs ≡ seen gs))) after
      (subst (λ (m : ℕ). MatchResult r (λ _. seen fs ≡ insert (seen gs) m s') (λ e. (e ≡ Memory) × (seen fs ≡ seen gs))) number put)))

  pub absent-refused : (T U P Q : Type 0) (e : Refusal) → IsReply {T = T} (first_of (append_refusals (Some s) b)) (Err e) P Q
      → Becomes {T = U} (seen es) (seen gs) n b (Err e)
  absent-refused T U P Q e a = at_absent {T = U} gs (Err e) (refused-new T U P Q _ _ s b e is a refl)

-- the same of what is present
pub present_becomes : {T : Type 0} (p : PresentValue) (old new : FinMap nat_cmp Session) (settings : SettingsValue) (b : BatchValue)
    (r : Result T Refusal) → (record { sessions = old; settings = settings }) ≡ p
    → Becomes old new b.session.0 b r → IsReply (reply p (Append b)) r ((record { sessions = new; settings = settings })
    ≡ change p (Append b)) ((record { sessions = new; settings = settings }) ≡ p)
present_becomes p old new settings b r is a =
    let before : PresentValue = record { sessions = old; settings = settings } in
    let after : PresentValue = record { sessions = new; settings = settings } in
    let with : FinMap nat_cmp Session → PresentValue = λ m. record { sessions = m; settings = settings } in
    subst (λ (q : PresentValue). IsReply (reply q (Append b)) r (after ≡ change q (Append b)) (after ≡ q)) is
    (IsReply-weaker (reply before (Append b)) r (λ e. ap with e) (λ e. ap with e) a)

-- the session is taken out, or isn't there
pub removed : {T : Type 0} (es fs : List (ℕ × Session)) (k : ℕ) (s : Session) (x : T) → Some s ≡ lookup (is_at (nat_cmp k)) es
    → ((q : ℕ) → lookup (is_at (nat_cmp q)) fs ≡ cond (is_at (nat_cmp k) q) None (lookup (is_at (nat_cmp q)) es))
    → IsReplyInPlace (no_session (get (seen es) k)) (Ok x) (seen fs ≡ remove (seen es) k) (seen fs ≡ seen es)
removed es fs k s x there h =
    let found : get (seen es) k ≡ Some s = get-seen es k ∙ sym there in
    subst (λ (o : Option Session). IsReplyInPlace (no_session o) (Ok x) (seen fs ≡ remove (seen es) k) (seen fs ≡ seen es))
    (sym found) (remove-seen es fs k h)

pub absent : (T : Type 0) (es fs : List (ℕ × Session)) (k : ℕ) → None ≡ lookup (is_at (nat_cmp k)) es → fs ≡ es
    → IsReplyInPlace {T = T} (no_session (get (seen es) k)) (Err NoSession) (seen fs ≡ remove (seen es) k) (seen fs ≡ seen es)
absent T es fs k missing same =
    let none : get (seen es) k ≡ None = get-seen es k ∙ sym missing in
    subst (λ (o : Option Session). IsReplyInPlace {T = T} (no_session o) (Err NoSession) (seen fs ≡ remove (seen es) k) (seen fs
    ≡ seen es)) (sym none) (refl, ap (λ (gs : List (ℕ × Session)). seen gs) same)

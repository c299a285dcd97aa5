-- The reply to a batch, for a new session and for one that is present.
use Rattle.std.proofs.Common.{◌≡◌, true, List, [], ◌∷◌, ◌++◌, Option, Some, None, Result, Ok, Err, refl, ap, ◌∙◌, subst, eq-eqb}
use Rattle.std.specs.Prelude.{◌==◌, MatchResult}
use Rattle.smq_kit.specs.declared.names.LinkId.{LinkId}
use Rattle.smq_kit.specs.declared.place.Dir.{Dir}
use Rattle.smq_kit.specs.declared.place.Dir.TheVariants.{FromClient, FromCentre}
use Rattle.smq_kit.specs.declared.refusal.Refusal.{Refusal}
use Rattle.smq_kit.specs.declared.refusal.Refusal.TheVariants.{Memory}
use Rattle.smq_frame.specs.Stream.{Octet, values}
use Rattle.smq_frame.specs.Tail.{TailValue, tail_of, tails_equal}
use Rattle.smq_present.specs.declared.present.session.Session.{Session}
use Rattle.smq_present.specs.present.Batch.{BatchValue}
use Rattle.smq_present.specs.present.Present.{direction}
use Rattle.smq_kit.specs.Replies.{IsReply, first_of}
use Rattle.smq_present.specs.present.Replies.{append_refusals, backward, stream_refusals}
use Rattle.smq_present.specs.present.Steps.{session_after}
use Rattle.smq_present.proofs.lemmas.present.RefusedBatches.{own_tail}

pub IsReply-weaker : {T P P' Q Q' : Type 0} (o : Option Refusal) (r : Result T Refusal) → (P → P') → (Q → Q') → IsReply o r P Q → IsReply o r P' Q'
IsReply-weaker None (Ok x) f g a = f a
IsReply-weaker None (Err e) f g a = (a.0, g a.1)
IsReply-weaker (Some q) (Ok x) f g a = a
IsReply-weaker (Some q) (Err e) f g a = (a.0, g a.1)

-- what nothing refuses is made, or memory is wanting
pub made-or-wanting : {T : Type 0} (P Q : Type 0) (o : Option Refusal) (r : Result T Refusal) → o ≡ None
    → MatchResult r (λ _. P) (λ e. (e ≡ Memory) × Q) → IsReply o r P Q
made-or-wanting P Q o (Ok x) none a = rw none a
made-or-wanting P Q o (Err e) none a = rw none a

pub told : (T P Q : Type 0) (o : Option Refusal) (e : Refusal) → o ≡ Some e → Q → IsReply {T = T} o (Err e) P Q
told T P Q o e is same = rw is (refl, same)

-- where its link and its tail fit, its moment alone can refuse it
alone : (o : Option Refusal) → first_of (o ∷ []) ≡ o
alone None = refl
alone (Some refusal) = refl

pub by-moment : (s : Session) (b : BatchValue) → s.link.0 ≡ b.link.0 → b.tail ≡ tail_of (values (direction b.dir s))
    → first_of (append_refusals (Some s) b) ≡ backward (direction b.dir s) b
by-moment s b link in_step =
    let same : (s.link.0 == b.link.0) ≡ true = eq-eqb s.link.0 b.link.0 link in
    let fits : tails_equal b.tail (tail_of (values (direction b.dir s))) ≡ true =
    subst (λ (t : TailValue). tails_equal b.tail t ≡ true) in_step (own_tail b.tail) in
    rw (same, fits) (alone (backward (direction b.dir s) b))

-- ---- a new session

abbrev pub new_session : BatchValue → Session
new_session b = record { link = b.link; client = []; centre = [] }

pub no_octets : (d : Dir) (l : LinkId) → direction d (record { link = l; client = []; centre = [] }) ≡ []
no_octets FromClient l = refl
no_octets FromCentre l = refl

pub new_refusals : (b : BatchValue) → first_of (append_refusals (Some (new_session b)) b) ≡ first_of (append_refusals None b)
new_refusals b =
    let same : (b.link.0 == b.link.0) ≡ true = eq-eqb b.link.0 b.link.0 refl in
    rw same (ap (λ (o : List Octet). first_of (stream_refusals o b)) (no_octets b.dir b.link))

-- what a session with no octets is refused for, none is
as-none : {T : Type 0} (P Q : Type 0) (s : Session) (b : BatchValue) (r : Result T Refusal) → s ≡ new_session b
    → IsReply (first_of (append_refusals (Some s) b)) r P Q → IsReply (first_of (append_refusals None b)) r P Q
as-none {T} P Q s b r is a =
    subst (λ (o : Option Refusal). IsReply {T = T} o r P Q) (ap (λ (t : Session). first_of (append_refusals (Some t) b)) is ∙ new_refusals b) a

-- once a batch is put into it, the reply is that of what is done with it
pub put-new : {U : Type 0} (T P Q R : Type 0) (s s' : Session) (b : BatchValue) (x : T) (r : Result U Refusal) → s ≡ new_session b
    → IsReply {T = T} (first_of (append_refusals (Some s) b)) (Ok x) (s' ≡ session_after (Some s) b) R
    → (s' ≡ session_after None b → MatchResult r (λ _. P) (λ e. (e ≡ Memory) × Q)) → IsReply (first_of (append_refusals None b)) r P Q
put-new {U} T P Q R s s' b x r is a then = by (first_of (append_refusals None b)) (as-none (s' ≡ session_after (Some s) b) R s b (Ok x) is a)
  where
    by : (o : Option Refusal) → IsReply {T = T} o (Ok x) (s' ≡ session_after (Some s) b) R → IsReply o r P Q
    by None put = made-or-wanting P Q None r refl (then (put ∙ ap (λ (t : Session). session_after (Some t) b) is))
    by (Some refusal) put = absurd put

-- and where none is, it is the same
pub refused-new : (T U P Q P' Q' : Type 0) (s : Session) (b : BatchValue) (e : Refusal) → s ≡ new_session b
    → IsReply {T = T} (first_of (append_refusals (Some s) b)) (Err e) P Q → Q' → IsReply {T = U} (first_of (append_refusals None b)) (Err e) P' Q'
refused-new T U P Q P' Q' s b e is a same = by (first_of (append_refusals None b)) (as-none {T = T} P Q s b (Err e) is a)
  where
    by : (o : Option Refusal) → IsReply {T = T} o (Err e) P Q → IsReply {T = U} o (Err e) P' Q'
    by None refused = (refused.0, same)
    by (Some refusal) refused = (refused.0, same)

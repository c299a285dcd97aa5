-- Which refusals edits have.
use Rattle.std.proofs.Common.{◌≡◌, ℕ, Bool, true, false, List, [], ◌∷◌, Option, Some, None, arith, subst}
use Rattle.std.specs.Prelude.{⊤, option_map}
use Rattle.smq_kit.specs.declared.refusal.Refusal.{Refusal}
use Rattle.smq_kit.specs.declared.refusal.Refusal.TheVariants.{OtherLink, NoSession, Overlap, Ended, BadEnd, ClockBack}
use Rattle.smq_kit.specs.Replies.{first_of, refused_if}
use Rattle.smq_route.specs.declared.version.Version.{Version}
use Rattle.smq_route.specs.Edits.{no_route, ended, bad_end}
use Rattle.smq_route.specs.Versions.{version_of, overlap}
use Rattle.smq_present.specs.declared.present.edit.Edit.{Edit}
use Rattle.smq_present.specs.declared.present.edit.Edit.TheVariants.{Append, Withdraw, SetForm, SetWindow, AddRoute, EndRoute, CorrectRoute, Advance}
use Rattle.smq_present.specs.declared.present.session.Session.{Session}
use Rattle.smq_present.specs.present.Batch.{BatchValue}
use Rattle.smq_present.specs.present.Present.{PresentValue, session_of, octets_in}
use Rattle.smq_present.specs.present.Replies.{IsOfEdits, append_refusals, stream_refusals, other_link, out_of_step, backward, reply}

-- each refusal of some is one that edits have
abbrev AllOfEdits : Option Refusal → Type 0
AllOfEdits None = ⊤
AllOfEdits (Some refusal) = IsOfEdits refusal

tested : (b : Bool) (q : Refusal) → IsOfEdits q → AllOfEdits (refused_if b q)
tested true q h = h
tested false q h = tt

first : (o : Option Refusal) (later : List (Option Refusal)) → AllOfEdits o → AllOfEdits (first_of later) → AllOfEdits (first_of (o ∷ later))
first None later here there = there
first (Some q) later here there = here

of_other_link : (o : Option Session) (b : BatchValue) → AllOfEdits (other_link o b)
of_other_link None b = tt
of_other_link (Some s) b = tested _ (OtherLink s.link) (omega arith, omega arith)

of_append : (o : Option Session) (b : BatchValue) → AllOfEdits (first_of (append_refusals o b))
of_append o b =
    first (other_link o b) (stream_refusals (octets_in b.dir o) b) (of_other_link o b)
    (first (out_of_step (octets_in b.dir o) b) _ (tested _ _ (omega arith, omega arith))
    (first (backward (octets_in b.dir o) b) [] (tested _ _ (omega arith, omega arith)) tt))

of_overlap : (o : Option ℕ) → AllOfEdits (option_map Overlap o)
of_overlap None = tt
of_overlap (Some from) = (omega arith, omega arith)

of_no_route : (o : Option Version) → AllOfEdits (no_route o)
of_no_route None = (omega arith, omega arith)
of_no_route (Some v) = tt

of_until : (o : Option ℕ) → AllOfEdits (option_map Ended o)
of_until None = tt
of_until (Some until) = (omega arith, omega arith)

of_ended : (o : Option Version) → AllOfEdits (ended o)
of_ended None = tt
of_ended (Some v) = of_until v.until

of_edit : (p : PresentValue) (edit : Edit) → AllOfEdits (reply p edit)
of_edit p (Append b) = of_append (session_of p b.session.0) b
of_edit p (Withdraw s) = tested _ NoSession (omega arith, omega arith)
of_edit p (SetForm link response receipt) = tt
of_edit p (SetWindow link window) = tt
of_edit p (AddRoute prefix from route network) =
    first (option_map Overlap (overlap p.settings.versions prefix from)) [] (of_overlap (overlap p.settings.versions prefix from)) tt
of_edit p (EndRoute prefix from until) =
    let version = version_of p.settings.versions prefix from in
    first (no_route version) (ended version ∷ bad_end from until ∷ []) (of_no_route version)
    (first (ended version) (bad_end from until ∷ []) (of_ended version)
    (first (bad_end from until) [] (tested _ BadEnd (omega arith, omega arith)) tt))
of_edit p (CorrectRoute prefix from route network) =
    first (no_route (version_of p.settings.versions prefix from)) [] (of_no_route (version_of p.settings.versions prefix from)) tt
of_edit p (Advance clock) = tested _ (ClockBack p.settings.clock) (omega arith, omega arith)

pub replies_of_edits : (p : PresentValue) (edit : Edit) (refusal : Refusal) → reply p edit ≡ Some refusal → IsOfEdits refusal
replies_of_edits p edit refusal e = subst AllOfEdits e (of_edit p edit)

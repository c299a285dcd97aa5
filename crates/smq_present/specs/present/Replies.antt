-- What refuses an edit: its refusals in the order in which they are tested, of which the first that holds is told. Who
-- adds one puts it at the place at which the code tests it; what a piece alone decides stands in Batch, and what refuses an
-- edit of routes in smq_route.
use Rattle.std.specs.Prelude.{◌≡◌, ◌≤◌, ◌==◌, not, ℕ, nat_lt, is_none, List, [], ◌∷◌, length, Option, Some, None}
use Rattle.smq_kit.specs.declared.names.LinkId.{LinkId}
use Rattle.smq_kit.specs.declared.refusal.Refusal.{Refusal}
use Rattle.smq_kit.specs.declared.refusal.Refusal.TheVariants.{OtherLink, OutOfStep, Backward, NoSession, ClockBack}
use Rattle.smq_kit.specs.Refusals.{number_of}
use Rattle.smq_frame.specs.Stream.{Octet, values}
use Rattle.smq_frame.specs.Tail.{tails_equal, tail_of}
use Rattle.smq_present.specs.declared.present.edit.Edit.{Edit}
use Rattle.smq_present.specs.declared.present.edit.Edit.TheVariants.{Append, Withdraw, SetForm, SetWindow, AddRoute, EndRoute, CorrectRoute, Advance}
use Rattle.smq_present.specs.declared.present.session.Session.{Session}
use Rattle.smq_kit.specs.Replies.{first_of, refused_if}
use Rattle.smq_route.specs.Edits.{add_refusals, end_refusals, correct_refusals}
use Rattle.smq_route.specs.Versions.{version_of}
use Rattle.smq_present.specs.present.Batch.{BatchValue}
use Rattle.smq_present.specs.present.Present.{PresentValue, session_of, link_of, octets_in, octets_of, tail_in}
use Rattle.smq_present.specs.present.Stream.{last_moment}

-- the batch's session is present under another link, which the refusal tells
abbrev pub other_link : Option Session → BatchValue → Option Refusal
other_link None batch = None
other_link (Some session) batch = refused_if (not (session.link.0 == batch.link.0)) (OtherLink session.link)

-- the batch's tail isn't that of its direction, whose number of octets the refusal tells
abbrev pub out_of_step : List Octet → BatchValue → Option Refusal
out_of_step octets batch =
    refused_if (not (tails_equal batch.tail (tail_of (values octets)))) (OutOfStep (length octets))

-- the batch's moment is below the last moment of its direction, which the refusal tells
abbrev pub backward : List Octet → BatchValue → Option Refusal
backward octets batch =
    refused_if (nat_lt batch.moment (last_moment octets)) (Backward (last_moment octets))

-- what refuses a batch for the octets of its direction, in order
abbrev pub stream_refusals : List Octet → BatchValue → List (Option Refusal)
stream_refusals octets batch = out_of_step octets batch ∷ backward octets batch ∷ []

-- what refuses a batch for its session, which may be absent, in order
abbrev pub append_refusals : Option Session → BatchValue → List (Option Refusal)
append_refusals session batch =
    other_link session batch ∷ stream_refusals (octets_in batch.dir session) batch

-- the session that is to be withdrawn isn't present
abbrev pub no_session : Option Session → Option Refusal
no_session session = refused_if (is_none session) NoSession

-- the new clock is below the present one, which the refusal tells
abbrev pub clock_back : ℕ → ℕ → Option Refusal
clock_back present clock = refused_if (nat_lt clock present) (ClockBack present)

-- the first refusal of an edit that holds, lack of memory aside
abbrev pub reply : PresentValue → Edit → Option Refusal
reply p (Append batch) = first_of (append_refusals (session_of p batch.session.0) batch)
reply p (Withdraw session) = no_session (session_of p session.0)
reply p (SetForm link response receipt) = None
reply p (SetWindow link window) = None
reply p (AddRoute prefix from route network) = first_of (add_refusals p.settings.versions prefix from)
reply p (EndRoute prefix from until) =
    first_of (end_refusals (version_of p.settings.versions prefix from) from until)
reply p (CorrectRoute prefix from route network) =
    first_of (correct_refusals (version_of p.settings.versions prefix from))
reply p (Advance clock) = clock_back p.settings.clock clock

-- a refusal that edits have: its number is one of 3 to 11
abbrev pub IsOfEdits : Refusal → Type 0
IsOfEdits refusal = (3 ≤ number_of refusal) × (number_of refusal ≤ 11)

-- A batch goes after its direction: its session is present under no other link, its tail is the direction's, and its
-- moment isn't below the direction's last.
pub record GoesAfter (p : PresentValue) (batch : BatchValue) : Type 0 where
  pub same_link : (link : LinkId) → link_of p batch.session.0 ≡ Some link → link ≡ batch.link
  pub in_step : batch.tail ≡ tail_in p batch.session.0 batch.dir
  pub forward : last_moment (octets_of p batch.session.0 batch.dir) ≤ batch.moment

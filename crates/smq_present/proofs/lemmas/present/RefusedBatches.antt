-- When a batch is refused.
use Rattle.std.proofs.Common.{◌≡◌, ℕ, Bool, true, false, List, [], ◌∷◌, Option, Some, None, refl, ap, ◌∙◌, subst, eq-eqb}
use Rattle.std.specs.Prelude.{◌==◌, ◌&&◌, ◌↔◌, not, nat_eq, nat_lt, option_map}
use Rattle.std.specs.Option.{option_eq}
use Rattle.std.specs.Cmp.{unsigned_Decides}
use Rattle.std.specs.Cmp.Lexicographic.{pointwise}
use Rattle.std.proofs.lemmas.Bool.{ltb-false, le-ltb}
use Rattle.std.proofs.lemmas.Slice.Eq.{slice_eq-Decides}
use Rattle.smq_kit.specs.declared.names.LinkId.{LinkId}
use Rattle.smq_kit.specs.declared.refusal.Refusal.{Refusal}
use Rattle.smq_frame.specs.Stream.{values}
use Rattle.smq_frame.specs.Tail.{TailValue, tail_of, tails_equal}
use Rattle.smq_present.specs.declared.present.edit.Edit.TheVariants.{Append}
use Rattle.smq_present.specs.declared.present.session.Session.{Session}
use Rattle.smq_kit.specs.Replies.{refused_if, first_of}
use Rattle.smq_present.specs.present.Batch.{BatchValue}
use Rattle.smq_present.specs.present.Present.{PresentValue, octets_in, octets_of, session_of, tail_in}
use Rattle.smq_present.specs.present.Replies.{GoesAfter, append_refusals, backward, other_link, out_of_step, reply}
use Rattle.smq_present.specs.present.Stream.{last_moment}

-- ---- the test of tails

both : (a b : Bool) → (a && b) ≡ true → (a ≡ true) × (b ≡ true)
both true b e = (refl, e)
both false b e = absurd cc

same_options : (o u : Option ℕ) → option_eq nat_eq o u ≡ true → o ≡ u
same_options None None e = refl
same_options None (Some y) e = absurd cc
same_options (Some x) None e = absurd cc
same_options (Some x) (Some y) e = ap Some ((unsigned_Decides x y).0 e)

own_option : (o : Option ℕ) → option_eq nat_eq o o ≡ true
own_option None = refl
own_option (Some x) = eq-eqb x x refl

own_list : (xs : List ℕ) → pointwise nat_eq xs xs ≡ true
own_list xs = (slice_eq-Decides unsigned_Decides xs xs (pointwise nat_eq xs xs) refl).1 refl

same_tails : (t u : TailValue) → tails_equal t u ≡ true → t ≡ u
same_tails t u e =
    let parts = both (t.offset == u.offset && pointwise nat_eq t.rest u.rest) (option_eq nat_eq t.broken u.broken) e in
    let firsts = both (t.offset == u.offset) (pointwise nat_eq t.rest u.rest) parts.0 in
    let offset : t.offset ≡ u.offset = (unsigned_Decides t.offset u.offset).0 firsts.0 in
    let rest : t.rest ≡ u.rest = (slice_eq-Decides unsigned_Decides t.rest u.rest (pointwise nat_eq t.rest u.rest) refl).0 firsts.1 in
    let broken : t.broken ≡ u.broken = same_options t.broken u.broken parts.1 in
    λ i. record { offset = offset i; rest = rest i; broken = broken i }

pub own_tail : (t : TailValue) → tails_equal t t ≡ true
own_tail t = let same : (t.offset == t.offset) ≡ true = eq-eqb t.offset t.offset refl in rw (same, own_list t.rest, own_option t.broken) refl

-- ---- each refusal

first_of-none : (a b c : Option Refusal) → first_of (a ∷ b ∷ c ∷ []) ≡ None → (a ≡ None) × (b ≡ None) × (c ≡ None)
first_of-none None None None e = (refl, refl, refl)
first_of-none None None (Some r) e = absurd cc
first_of-none None (Some r) c e = absurd cc
first_of-none (Some r) b c e = absurd cc

refused_if-none : (t : Bool) (r : Refusal) → refused_if t r ≡ None → t ≡ false
refused_if-none true r e = absurd cc
refused_if-none false r e = refl

not-false : (t : Bool) → not t ≡ false → t ≡ true
not-false true e = refl
not-false false e = absurd cc

other_link-none : (o : Option Session) (b : BatchValue) → other_link o b ≡ None → (link : LinkId)
    → option_map (λ (s : Session). s.link) o ≡ Some link → link ≡ b.link
other_link-none None b e link is = absurd cc
other_link-none (Some s) b e link is =
    let number : s.link.0 ≡ b.link.0 = (unsigned_Decides s.link.0 b.link.0).0
    (not-false (s.link.0 == b.link.0) (refused_if-none (not (s.link.0 == b.link.0)) _ e)) in
    let same : link ≡ s.link = cc in
    same ∙ (λ i. record { 0 = number i })

other_link-fits : (o : Option Session) (b : BatchValue) → ((link : LinkId) → option_map (λ (s : Session). s.link) o ≡ Some link
    → link ≡ b.link) → other_link o b ≡ None
other_link-fits None b h = refl
other_link-fits (Some s) b h =
    let same : (s.link.0 == b.link.0) ≡ true = eq-eqb s.link.0 b.link.0 (ap (λ (l : LinkId). l.0) (h s.link refl)) in
    rw same refl

pub in-step : (o : Option Session) (b : BatchValue) → first_of (append_refusals o b) ≡ None → b.tail ≡ tail_of (values (octets_in b.dir o))
in-step o b e =
    let parts = first_of-none (other_link o b) (out_of_step (octets_in b.dir o) b) (backward (octets_in b.dir o) b) e in
    let tail = tail_of (values (octets_in b.dir o)) in
    same_tails b.tail tail (not-false (tails_equal b.tail tail) (refused_if-none (not (tails_equal b.tail tail)) _ parts.1))

pub not_refused : (p : PresentValue) (b : BatchValue) → (reply p (Append b) ≡ None) ↔ GoesAfter p b
not_refused p b =
    let session = session_of p b.session.0 in
    let octets = octets_of p b.session.0 b.dir in (
      λ e.
          let parts = first_of-none (other_link session b) (out_of_step octets b) (backward octets b) e in
          record {
            same_link = other_link-none session b parts.0;
            in_step = in-step session b e;
            forward = ltb-false b.moment (last_moment octets) (refused_if-none (nat_lt b.moment (last_moment octets)) _ parts.2);
          },
      λ fits.
          let link : other_link session b ≡ None = other_link-fits session b fits.same_link in
          let step : tails_equal b.tail (tail_in p b.session.0 b.dir) ≡ true =
          subst (λ (t : TailValue). tails_equal b.tail t ≡ true) fits.in_step (own_tail b.tail) in
          let order : nat_lt b.moment (last_moment octets) ≡ false = le-ltb b.moment (last_moment octets) fits.forward in
          rw (link, step, order) refl,
    )

-- A batch that is cut in two leaves what it leaves whole.
use Rattle.std.proofs.Common.{◌≡◌, ◌<◌, ℕ, List, ◌++◌, length, Option, Some, None, refl, sym, ap, ◌∙◌, append_assoc, arith}
use Rattle.std.specs.Prelude.{unwrap_or}
use Rattle.std.proofs.lemmas.List.{map-append}
use Rattle.smq_kit.specs.declared.names.LinkId.{LinkId}
use Rattle.smq_frame.specs.Stream.{Octet, handed_in, values}
use Rattle.smq_frame.specs.Tail.{TailValue, tail_of, tail_after}
use Rattle.smq_frame.proofs.Streams.{pieces_join}
use Rattle.smq_present.specs.declared.present.edit.Edit.TheVariants.{Append}
use Rattle.smq_present.specs.present.Batch.{BatchValue, with_octets, continued}
use Rattle.smq_present.specs.present.Present.{PresentValue, session_of, link_of, octets_of, tail_in}
use Rattle.smq_present.specs.declared.present.session.Session.{Session}
use Rattle.smq_kit.specs.Replies.{first_of}
use Rattle.smq_present.specs.present.Replies.{GoesAfter, append_refusals, reply}
use Rattle.smq_present.specs.present.Steps.{Appends, change, step}
use Rattle.smq_present.specs.present.Stream.{last_moment}
use Rattle.smq_present.proofs.lemmas.present.Changes.{appends-change, appends-alone, step-made}
use Rattle.smq_present.proofs.lemmas.present.RefusedBatches.{not_refused}
use Rattle.smq_present.proofs.lemmas.present.Growth.{last_moment-grown, tail-grown}

module _ (p : PresentValue) (batch : BatchValue) (first second : List ℕ) where
  abbrev whole : BatchValue
  whole = with_octets batch (first ++ second)

  abbrev one : PresentValue
  one = change p (Append (with_octets batch first))

  abbrev two : ℕ → PresentValue
  two moment = change one (Append (continued batch first moment second))

  -- ---- tails

  grown-tail : (q r : PresentValue) (b : BatchValue) → Appends q r b → tail_in r b.session.0 b.dir ≡ tail_after (tail_in q b.session.0 b.dir) b.octets
  grown-tail q r b appends = ap (λ (octets : List Octet). tail_of (values octets)) appends.grown
      ∙ tail-grown (octets_of q b.session.0 b.dir) b.moment b.octets

  joined-tail : (t : TailValue) → tail_after (tail_after t first) second ≡ tail_after t (first ++ second)
  joined-tail t = let join = pieces_join t batch.moment first second in sym join.tail

  pub same-tail : (moment : ℕ) → batch.tail ≡ tail_in p batch.session.0 batch.dir → tail_in (two moment) batch.session.0 batch.dir
      ≡ tail_in (change p (Append whole)) batch.session.0 batch.dir
  same-tail moment in_step =
      grown-tail one (two moment) (continued batch first moment second) (appends-change one (continued batch first moment second))
      ∙ ap (λ t. tail_after t second) (grown-tail p one (with_octets batch first) (appends-change p (with_octets batch first)))
      ∙ joined-tail (tail_in p batch.session.0 batch.dir)
      ∙ sym (grown-tail p (change p (Append whole)) whole (appends-change p whole))

  -- ---- one moment

  own_link : (o : Option LinkId) (link : LinkId) → ((l : LinkId) → o ≡ Some l → l ≡ link) → unwrap_or o link ≡ link
  own_link None link h = refl
  own_link (Some l) link h = h l refl

  some_is : (a b : LinkId) (o : Option LinkId) → o ≡ Some a → o ≡ Some b → a ≡ b
  some_is a b o e f = cc

  pub goes-on : 0 < length first → GoesAfter p (with_octets batch first) → GoesAfter one (continued batch first batch.moment second)
  goes-on some fits =
      let appends = appends-change p (with_octets batch first) in
      record {
        same_link = λ link is. some_is link batch.link (link_of one batch.session.0) is (appends.link
            ∙ ap Some (own_link (link_of p batch.session.0) batch.link fits.same_link));
        in_step = ap (λ t. tail_after t first) fits.in_step ∙ sym (grown-tail p one (with_octets batch first) appends);
        forward = let last : last_moment (octets_of one batch.session.0 batch.dir) ≡ batch.moment = ap last_moment appends.grown
            ∙ last_moment-grown (octets_of p batch.session.0 batch.dir) batch.moment first some in omega (arith, last);
      }

  appends-whole : Appends p (two batch.moment) whole
  appends-whole =
      let a = appends-change p (with_octets batch first) in
      let b = appends-change one (continued batch first batch.moment second) in
      record {
        grown = b.grown ∙ ap (λ (octets : List Octet). octets ++ handed_in batch.moment second) a.grown
            ∙ append_assoc (octets_of p batch.session.0 batch.dir) (handed_in batch.moment first) (handed_in batch.moment second)
            ∙ ap (λ (octets : List Octet). octets_of p batch.session.0 batch.dir ++ octets) (sym (map-append _ first second));
        other_direction = λ dir ne. b.other_direction dir ne ∙ a.other_direction dir ne;
        link = b.link ∙ ap (λ (o : Option LinkId). Some (unwrap_or o batch.link)) a.link;
        elsewhere = λ number ne. b.elsewhere number ne ∙ a.elsewhere number ne;
        rest = refl;
      }

  refused_by : (o : Option Session) → first_of (append_refusals o (with_octets batch first)) ≡ first_of (append_refusals o whole)
  refused_by None = refl
  refused_by (Some s) = refl

  same-refusal : reply p (Append (with_octets batch first)) ≡ reply p (Append whole)
  same-refusal = refused_by (session_of p batch.session.0)

  pub second-made : 0 < length first → reply p (Append (with_octets batch first)) ≡ None
      → reply (step p (Append (with_octets batch first))) (Append (continued batch first batch.moment second)) ≡ None
  second-made some none =
      let fits = goes-on some ((not_refused p (with_octets batch first)).0 none) in
      ap (λ (q : PresentValue). reply q (Append (continued batch first batch.moment second))) (step-made p (Append (with_octets batch first)) none)
      ∙ (not_refused one (continued batch first batch.moment second)).1 fits

  pub same-left : 0 < length first → reply p (Append (with_octets batch first)) ≡ None
      → step (step p (Append (with_octets batch first))) (Append (continued batch first batch.moment second)) ≡ step p (Append whole)
  same-left some none =
      step-made (step p (Append (with_octets batch first))) (Append (continued batch first batch.moment second)) (second-made some none)
      ∙ ap (λ (q : PresentValue). change q (Append (continued batch first batch.moment second))) (step-made p (Append (with_octets batch first)) none)
      ∙ appends-alone p (two batch.moment) whole appends-whole
      ∙ sym (step-made p (Append whole) (sym same-refusal ∙ none))

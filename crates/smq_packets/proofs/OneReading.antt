-- Exactly one segment, or one reason, is read of a frame.
use Rattle.std.proofs.Common.{◌≡◌, ℕ, zero, suc, ◌+◌, ◌-◌, ◌<◌, ◌⊎◌, inl, inr, Bool, true, false, List, Result, Ok, Err, arith, refl, sym, ap, ◌∙◌}
use Rattle.smq_packets.proofs.Carried.{carried_at_tcp, carried_on, carried_no_more, carried_none}
use Rattle.smq_packets.specs.Readings.{IsBehind, LeadsNoFurther, EndsIn, IsRead, HasOneReading}
use Rattle.smq_packets.specs.Segments.{SegmentValue, behind_head, behind_of, carried_by, is_tcp, tcp_of}
use Rattle.smq_packets.specs.declared.layer.Head.{Head}
use Rattle.smq_packets.specs.declared.layer.Head.TheVariants as h
use Rattle.smq_packets.specs.declared.layer.Layer.{Layer}
use Rattle.smq_packets.specs.declared.layer.Unread.{Unread}
use Rattle.smq_packets.specs.declared.layer.Unread.TheVariants.{OtherProtocol, TooDeep}

-- nothing is behind TCP's head
tcp_stops : (head : Head) (frame : List ℕ) (l : Layer) → is_tcp head ≡ true → behind_head head frame l ≡ Err OtherProtocol
tcp_stops h.Tcp frame l last = refl
tcp_stops _ frame l last = absurd (let no : false ≡ true = last in cc)

-- so a head that leads on isn't TCP's
leads_on : (b : Bool) (frame : List ℕ) (l next : Layer) → is_tcp l.head ≡ b → behind_of frame l ≡ Ok next → is_tcp l.head ≡ false
unfolding behind_of
leads_on false frame l next is leads = is
leads_on true frame l next is leads = absurd (let stops = tcp_stops l.head frame l is in let no : Err OtherProtocol ≡ Ok next = sym stops ∙ leads in cc)

-- what is read behind a head is read behind those before it
read_behind : (n m : ℕ) (frame : List ℕ) (first l : Layer) → IsBehind n frame first l → carried_by (n + m) frame first ≡ carried_by m frame l
read_behind zero m frame first l same =
    let none : 0 + m ≡ m = omega arith in
    rw (none, same) refl
read_behind (suc n) m frame first l (next, leads, rest) =
    carried_on (suc n + m) (n + m) frame first next (omega arith) (leads_on (is_tcp first.head) frame first next refl leads) leads
    ∙ read_behind n m frame next l rest

-- ---- no other is read

one_end : (most n : ℕ) (frame : List ℕ) (first l : Layer) (result : Result SegmentValue Unread) → IsBehind n frame first l →
    EndsIn most n frame l result → result ≡ carried_by most frame first
one_end most n frame first l result behind (inl (before, here, is)) =
    let left : most ≡ n + (most - n) = omega arith in
    let some : 0 < most - n = omega arith in
    is ∙ sym (ap (λ k. carried_by k frame first) left ∙ read_behind n (most - n) frame first l behind
    ∙ carried_at_tcp (most - n) frame l some here)
one_end most n frame first l result behind (inr (inl (before, other, stop))) =
    let left : most ≡ n + (most - n) = omega arith in
    let some : 0 < most - n = omega arith in
    stop.is ∙ sym (ap (λ k. carried_by k frame first) left ∙ read_behind n (most - n) frame first l behind
    ∙ carried_no_more (most - n) frame l stop.why some other stop.stops)
one_end most n frame first l result behind (inr (inr (all, is))) =
    let left : most ≡ n + 0 = omega arith in
    is ∙ sym (ap (λ k. carried_by k frame first) left ∙ read_behind n 0 frame first l behind ∙ carried_none 0 frame l refl)

-- ---- what is computed is read

one_more : (most n : ℕ) (frame : List ℕ) (l : Layer) (result : Result SegmentValue Unread) → EndsIn most n frame l result →
    EndsIn (suc most) (suc n) frame l result
one_more most n frame l result (inl (before, here, is)) = inl (omega arith, here, is)
one_more most n frame l result (inr (inl (before, other, stop))) = inr (inl (omega arith, other, stop))
one_more most n frame l result (inr (inr (all, is))) = inr (inr (ap suc all, is))

behind_that : (most : ℕ) (frame : List ℕ) (l next : Layer) → behind_of frame l ≡ Ok next →
    IsRead most frame next (carried_by most frame next) → IsRead (suc most) frame l (carried_by most frame next)
behind_that most frame l next leads rest = record {
  passed = suc rest.passed;
  last = rest.last;
  behind = (next, leads, rest.behind);
  ends = one_more most rest.passed frame rest.last _ rest.ends;
}

by_head : (most : ℕ) (frame : List ℕ) (l : Layer) (behind : Result Layer Unread) → is_tcp l.head ≡ false → behind_of frame l ≡ behind →
    ((next : Layer) → IsRead most frame next (carried_by most frame next)) → IsRead (suc most) frame l (carried_by (suc most) frame l)
by_head most frame l (Ok next) other leads rest =
    rw (carried_on (suc most) most frame l next (omega arith) other leads) (behind_that most frame l next leads (rest next))
by_head most frame l (Err why) other stops rest = record {
  passed = 0;
  last = l;
  behind = refl;
  ends = inr (inl (
    omega arith,
    other,
    record {
      why = why;
      stops = stops;
      is = carried_no_more (suc most) frame l why (omega arith) other stops;
    },
  ));
}

by_last : (most : ℕ) (frame : List ℕ) (l : Layer) (b : Bool) → is_tcp l.head ≡ b →
    ((next : Layer) → IsRead most frame next (carried_by most frame next)) → IsRead (suc most) frame l (carried_by (suc most) frame l)
by_last most frame l true here rest = record {
  passed = 0;
  last = l;
  behind = refl;
  ends = inl (omega arith, here, carried_at_tcp (suc most) frame l (omega arith) here);
}
by_last most frame l false other rest = by_head most frame l (behind_of frame l) other refl rest

reads : (most : ℕ) (frame : List ℕ) (l : Layer) → IsRead most frame l (carried_by most frame l)
reads zero frame l = record {
  passed = 0;
  last = l;
  behind = refl;
  ends = inr (inr (refl, carried_none 0 frame l refl));
}
reads (suc most) frame l = by_last most frame l (is_tcp l.head) refl (λ next. reads most frame next)

pub one_reading : (frame : List ℕ) (first : Layer) → HasOneReading frame first
one_reading frame first =
    (reads 32 frame first, λ result is. one_end 32 is.passed frame first is.last result is.behind is.ends)

use Rattle.std.proofs.Common.{◌≡◌, ℕ, Bool, true, false, refl, ap, sym, subst, ◌∙◌}
use Rattle.smq_capture.specs.declared.connection.Connection.{Connection}
use Rattle.smq_capture.specs.Flow.{FlowsIn, stream_of}
use Rattle.smq_capture.specs.GoingOn.{BeginsWith}
use Rattle.smq_streams.specs.Direction as stream
use Rattle.smq_capture.proofs.NextSessions.{Begun, Ended, IsSettledIn, begins-behind, begins-within, gap-settled}
use Rattle.smq_capture.proofs.connection.Connection.begin_with.Goals as goal
use Rattle.smq_capture.proofs.connection.Connection.begin_with.Goals.{then-is_behind_gap+in_ok-end_last, else-is_behind_gap}

pub returns-in_err-end_last-clause-stays : goal.returns-in_err-end_last-clause-stays
returns-in_err-end_last-clause-stays g c =
    λ s written side f. c.end_last.ensures.stays s written side (c.settle.ensures.stays s written side f)

pub returns-clause-begins : goal.returns-clause-begins
returns-clause-begins g c =
    let side = c.args.side in
    let before = c.args.self.now in
    let mid = c.settle.new.self in
    let joined = c.if-is_behind_gap.self in
    let after = c.begin_session.new.self in
    let next = c.args.output.now.following in
    let settled : IsSettledIn side before.flow mid.flow = record {
      is = ap (λ (k : Connection). k.flow) c.settle.ensures.rest;
      goes = c.settle.ensures.goes;
      all = c.in_ok-settle.ensures.all refl;
    } in
    let gap : (stream_of side before.flow).is_behind_gap ≡ c.is_behind_gap.result =
    sym (gap-settled side before.flow mid.flow settled) ∙ sym (ap (λ (d : stream.Direction). d.is_behind_gap) c.stream.ensures)
    ∙ sym c.is_behind_gap.ensures in
    let begun : Begun side joined.flow joined.last after = record {
      is = c.begin_session.ensures.begins;
      framed = c.begin_session.ensures.framed;
    } in
    elim c.if-is_behind_gap.branch [
      | then-is_behind_gap+in_ok-end_last w ↦
          let done : Ended side c.args.number mid.has_rows mid.last mid.flow mid.signs next w.end_last.new.self.flow
          w.end_last.new.self.last = record {
            ends = w.in_ok-end_last.ensures.ends;
            goes_on = w.in_ok-end_last.ensures.goes_on;
            own = w.end_last.ensures.own;
          } in
          let ended = subst (λ (k : Connection). Ended side c.args.number mid.has_rows k.last mid.flow k.signs next
          w.end_last.new.self.flow w.end_last.new.self.last) c.settle.ensures.rest done in
          let here = subst (λ (k : Connection). Ended side c.args.number mid.has_rows before.last mid.flow before.signs next k.flow k.last)
          (sym w.self-is) ended in
          begins-behind side c.args.number before.has_rows mid.has_rows before.last before.flow mid.flow before.signs next joined.flow
          joined.last after settled c.in_ok-settle.ensures.octets here begun (gap ∙ w.if-is_behind_gap.true)
      | else-is_behind_gap w ↦
          let last : joined.last ≡ before.last =
          ap (λ (k : Connection). k.last) w.self-is ∙ ap (λ (k : Connection). k.last) c.settle.ensures.rest in
          let here = subst (λ (k : Connection). Begun side k.flow joined.last after) w.self-is begun in
          let there = subst (λ (n : ℕ). Begun side mid.flow n after) last here in
          subst (λ (n : ℕ). BeginsWith side c.args.number before.has_rows before.last before.flow before.signs next after n) (sym last)
          (begins-within side c.args.number before.has_rows before.last before.flow mid.flow before.signs next after settled there
          (gap ∙ w.if-is_behind_gap.false))
    ]

pub returns-clause-stays : goal.returns-clause-stays
returns-clause-stays g c =
    λ s written side f. let settled = c.settle.ensures.stays s written side f in
    elim c.if-is_behind_gap.branch [
      | then-is_behind_gap+in_ok-end_last w ↦
          c.begin_session.ensures.stays s written side
          (subst (λ (k : Connection). FlowsIn s written side k.flow) (sym w.self-is) (w.end_last.ensures.stays s written side settled))
      | else-is_behind_gap w ↦
          c.begin_session.ensures.stays s written side (subst (λ (k : Connection). FlowsIn s written side k.flow) (sym w.self-is) settled)
    ]

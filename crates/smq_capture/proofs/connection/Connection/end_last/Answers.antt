use Rattle.smq_capture.proofs.connection.Connection.end_last.Goals as goal

pub returns-in_err-begin_session-clause-stays : goal.returns-in_err-begin_session-clause-stays
returns-in_err-begin_session-clause-stays g c =
    λ s written side f. c.begin_session.ensures.stays s written side (c.settle.ensures.stays s written side f)

pub returns-in_ok-begin_session-clause-stays : goal.returns-in_ok-begin_session-clause-stays
returns-in_ok-begin_session-clause-stays g c =
    λ s written side f. c.begin_session.ensures.stays s written side (c.settle.ensures.stays s written side f)

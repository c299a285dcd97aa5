use Rattle.std.proofs.KnownBytes.{Appends-kept}
use Rattle.smq_report.proofs.BeginningLemmas.{begins-whole}
use Rattle.smq_engine.proofs.answer.send.Goals as goal

pub returns-then-is_err-clause-fault : goal.returns-then-is_err-clause-fault
returns-then-is_err-clause-fault g c =
    begins-whole _ _ _ (Appends-kept _ _ _ _ c.in_ok-write_octets.ensures.ok c.flush.ensures.bytes)

use Rattle.std.proofs.Common.{◌∙◌, sym}
use Rattle.smq_capture.proofs.Waits.{now-centre, now-client, still-centre, still-client, weight-settled}
use Rattle.smq_capture.proofs.rows.Rows.settle.Goals as goal

pub invariant_of-self : goal.invariant_of-self
invariant_of-self c =
    let done = still-client _ _ _ _ _ _ c.in-Client.is c.settle_from.ensures.settles c.settle_from.ensures.kept
    (c.self.invariant.1, c.self.invariant.2) in
    (c.self.invariant.0 ∙ sym (weight-settled _ _ _ _ c.settle_from.ensures.settles), done.0, done.1)

pub invariant_of-self-in-Client : goal.invariant_of-self-in-Client
invariant_of-self-in-Client c =
    let done = now-client _ _ _ _ _ _ _ c.in-Client.is c.settle_from.ensures.settles c.in_ok-done-in-Client.ensures.done
    (c.self.invariant.1, c.self.invariant.2) in
    (c.self.invariant.0 ∙ sym (weight-settled _ _ _ _ c.settle_from.ensures.settles), done.0, done.1)

pub invariant_of-self-in_err-done-in-Centre : goal.invariant_of-self-in_err-done-in-Centre
invariant_of-self-in_err-done-in-Centre c =
    let done = still-centre _ _ _ _ _ _ c.in-Centre.is c.settle_from-in-Centre.ensures.settles c.settle_from-in-Centre.ensures.kept
    (c.self.invariant.1, c.self.invariant.2) in
    (c.self.invariant.0 ∙ sym (weight-settled _ _ _ _ c.settle_from-in-Centre.ensures.settles), done.0, done.1)

pub invariant_of-self-in-Centre : goal.invariant_of-self-in-Centre
invariant_of-self-in-Centre c =
    let done = now-centre _ _ _ _ _ _ _ c.in-Centre.is c.settle_from-in-Centre.ensures.settles c.in_ok-done-in-Centre.ensures.done
    (c.self.invariant.1, c.self.invariant.2) in
    (c.self.invariant.0 ∙ sym (weight-settled _ _ _ _ c.settle_from-in-Centre.ensures.settles), done.0, done.1)

use Rattle.std.proofs.Common.{◌≡◌, List, ◌++◌, length, ap, ◌∙◌, subst, arith}
use Rattle.smq_desk.specs.declared.entry.Entry.{Entry}
use Rattle.smq_desk.specs.within.Chunks.{joined, AreShared}
use Rattle.smq_desk.proofs.Chunking.{shared_joined, shared_full}
use Rattle.smq_desk.proofs.history.History.copy.Goals as goal

pub invariant_of-result : goal.invariant_of-result
invariant_of-result c =
    let old = c.self.inside in
    let same : AreShared old.sealed.items c.in_ok-sealed.sealed.items = subst (λ cs. AreShared cs c.in_ok-sealed.sealed.items) c.as_slice.ensures.value c.in_ok-sealed.ensures in
    let rest : c.in_ok-rest.rest.items ≡ old.rest.items = c.in_ok-rest.ensures ∙ c.as_slice-2.ensures.value in
    let all : joined c.in_ok-sealed.sealed.items ++ c.in_ok-rest.rest.items ≡ joined old.sealed.items ++ old.rest.items =
    ap (λ (es : List Entry). es ++ c.in_ok-rest.rest.items) (shared_joined old.sealed.items c.in_ok-sealed.sealed.items same)
    ∙ ap (λ (es : List Entry). joined old.sealed.items ++ es) rest in (
      shared_full old.sealed.items c.in_ok-sealed.sealed.items same c.self.invariant.0,
      omega (arith, c.self.invariant.1, ap length rest),
      omega (arith, c.self.invariant.2, ap length all),
    )

pub returns : goal.returns
returns c =
    let old = c.self.inside in
    let same : AreShared old.sealed.items c.in_ok-sealed.sealed.items = subst (λ cs. AreShared cs c.in_ok-sealed.sealed.items) c.as_slice.ensures.value c.in_ok-sealed.ensures in
    let rest : c.in_ok-rest.rest.items ≡ old.rest.items = c.in_ok-rest.ensures ∙ c.as_slice-2.ensures.value in
    ap (λ (es : List Entry). es ++ c.in_ok-rest.rest.items) (shared_joined old.sealed.items c.in_ok-sealed.sealed.items same)
    ∙ (ap (λ (es : List Entry). joined old.sealed.items ++ es) rest ∙ ap (λ h. h.entries) c.self.view_is)

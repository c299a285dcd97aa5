use Rattle.std.proofs.Common.{◌≡◌, [], List, sym, subst, ap, refl}
use Rattle.smq_reassembly.specs.Octet.{Octet}
use Rattle.smq_streams.specs.Search.{Search, kept_before}
use Rattle.smq_streams.proofs.Marks.{by-none, kept-none, same_search}
use Rattle.smq_streams.proofs.seeker.Seeker.clear.Goals as goal

pub invariant_of-self : goal.invariant_of-self
invariant_of-self c =
    let none = subst (λ (s : Search). s.octets ≡ []) (sym c.self.view_is) (c.if-is_through.ensures.0 refl) in
    rw c.clear.ensures.items (kept-none _ _ _ _ c.self.invariant none)

pub returns-then-is_through : goal.returns-then-is_through
returns-then-is_through c =
    let none = subst (λ (s : Search). s.octets ≡ []) (sym c.self.view_is) (c.if-is_through.ensures.0 refl) in
    rw (← c.self.view_is)
    (same_search _ _ _ _ _ _ _ _ refl (by-none _ _ _ _ _ c.self.invariant none) refl
    (ap (λ (os : List Octet). kept_before os c.self.inside.looked) (sym none)))

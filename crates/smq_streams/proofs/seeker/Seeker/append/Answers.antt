use Rattle.std.proofs.Common.{◌≡◌, ◌∙◌, ◌<◌, ◌++◌, ◌∷◌, [], List, ℕ, length, ap, arith, refl, sym, false, true}
use Rattle.std.proofs.lemmas.Bool.Decides.{nat_tests}
use Rattle.std.specs.Prelude.{Option, None}
use Rattle.std.specs.Option.{is_some}
use Rattle.smq_streams.specs.declared.seeker.Mark.{Mark}
use Rattle.smq_streams.proofs.Marks.{by-push, kept-more, same_search}
use Rattle.smq_streams.proofs.seeker.Seeker.append.Goals.{After-push_back_reserved}
use Rattle.smq_streams.proofs.seeker.Seeker.append.Goals as goal

mark : After-push_back_reserved → Mark
mark c =
    record {
      packet = record { number = c.args.given.now.number; moment = c.args.given.now.moment };
      begins = c.args.given.now.begins;
      left = c.len.result;
    }

items : (c : After-push_back_reserved) → c.extend_from_slice.new.self.items ≡ c.self.inside.octets.items ++ c.args.given.now.octets.items
items c = c.in_ok-extend_from_slice.ensures.items ∙ ap (λ (x : List ℕ). c.self.inside.octets.items ++ x) c.as_slice.ensures.value

marks : (c : After-push_back_reserved) → c.push_back_reserved.new.self.items ≡ c.self.inside.others.items ++ mark c ∷ []
unfolding mark
marks c = c.push_back_reserved.ensures.items ∙ ap (λ (ms : List Mark). ms ++ mark c ∷ []) c.reserve.ensures.items

some : (c : After-push_back_reserved) → c.self.inside.first ≡ None → ⊥
some c e =
    let t : is_some c.self.inside.first ≡ true = c.if-is_none.ensures in
    let none : Option Mark = None in
    let f : is_some c.self.inside.first ≡ is_some none = ap (λ (x : Option Mark). is_some x) e in
    let g : false ≡ true = sym f ∙ t in absurd (cc)

size : (c : After-push_back_reserved) → (mark c).left ≡ length c.args.given.now.octets.items
unfolding mark
size c = c.len.ensures ∙ c.args.given.now.octets.ok.0

pub invariant_of-self-else-is_none : goal.invariant_of-self-else-is_none
invariant_of-self-else-is_none c =
    rw (items c, marks c)
    (kept-more c.self.inside.octets.items c.args.given.now.octets.items c.self.inside.looked c.self.inside.first c.self.inside.others.items (mark c)
    (some c) c.self.invariant (size c) (let e = c.is_empty.ensures in let f = c.if-is_empty.false in let s = c.args.given.now.octets.ok.0 in grind (arith, nat_tests)))

pub returns-else-is_none-clause-ok : goal.returns-else-is_none-clause-ok
unfolding mark
returns-else-is_none-clause-ok c =
    rw (← c.self.view_is)
    (same_search _ _ _ _ _ _ _ _ refl
    (rw (items c, marks c)
    (by-push c.self.inside.octets.items c.args.given.now.octets.items c.self.inside.looked c.self.inside.first c.self.inside.others.items (mark c)
    (some c) c.self.invariant (size c)))
    refl refl)

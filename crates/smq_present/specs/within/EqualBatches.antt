-- `==` of batches, for the contract of that test.
use Rattle.std.specs.Prelude.{Bool, ◌&&◌, nat_eq}
use Rattle.std.proofs.Common.{rules}
use Rattle.std.specs.Cmp.{IsEquivalence}
use Rattle.std.specs.Cmp.Lexicographic.{pointwise}
use Rattle.std.specs.Option.{option_eq}
use Rattle.std.specs.Cmp.Rules.{comparing}
use Rattle.std.proofs.lemmas.Cmp.{on_equiv, and_equiv, lists_equiv, nat_eq_equiv}
use Rattle.smq_kit.specs.declared.names.LinkId.{LinkId}
use Rattle.smq_kit.specs.declared.names.SessionId.{SessionId}
use Rattle.smq_kit.specs.declared.place.Dir.{Dir}
use Rattle.smq_kit.specs.contracts.names.LinkIdPartialEq.TheImpl as link_block
use Rattle.smq_kit.specs.contracts.names.SessionIdPartialEq.TheImpl as session_block
use Rattle.smq_kit.specs.contracts.place.DirPartialEq.TheImpl as dir_block
use Rattle.smq_frame.specs.Tail.{tails_equal}
use Rattle.smq_present.specs.present.Batch.{BatchValue}

abbrev link_eq : LinkId → LinkId → Bool
link_eq = (link_block.ghosts).eq

abbrev session_eq : SessionId → SessionId → Bool
session_eq = (session_block.ghosts).eq

abbrev dir_eq : Dir → Dir → Bool
dir_eq = (dir_block.ghosts).eq

links : IsEquivalence link_eq
links = Prim.search (comparing, rules)

sessions : IsEquivalence session_eq
sessions = Prim.search (comparing, rules)

directions : IsEquivalence dir_eq
directions = Prim.search (comparing, rules)

offsets : IsEquivalence (option_eq nat_eq)
offsets = Prim.search (comparing, rules)

tails : IsEquivalence tails_equal
tails =
    and_equiv
    (and_equiv (on_equiv (λ t. t.offset) nat_eq_equiv) (on_equiv (λ t. t.rest) (lists_equiv nat_eq_equiv)))
    (on_equiv (λ t. t.broken) offsets)

-- whether each of their parts is equal
abbrev pub batches_eq : BatchValue → BatchValue → Bool
batches_eq a b =
    ((((link_eq a.link b.link && session_eq a.session b.session) && dir_eq a.dir b.dir)
    && tails_equal a.tail b.tail) && nat_eq a.moment b.moment) && pointwise nat_eq a.octets b.octets

-- that is an equivalence
pub batches_eq_laws : IsEquivalence batches_eq
batches_eq_laws =
    and_equiv
    (and_equiv
    (and_equiv
    (and_equiv
    (and_equiv (on_equiv (λ b. b.link) links) (on_equiv (λ b. b.session) sessions))
    (on_equiv (λ b. b.dir) directions))
    (on_equiv (λ b. b.tail) tails))
    (on_equiv (λ b. b.moment) nat_eq_equiv))
    (on_equiv (λ b. b.octets) (lists_equiv nat_eq_equiv))

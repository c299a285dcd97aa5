-- What it costs to set forms: what a walk leaves of groups, and what a move of a key walks over once others came.
use Rattle.std.proofs.Common.{◌≡◌, ℕ, ◌+◌, ◌*◌, ◌≤◌, Option, Some, None, refl, sym, ap, ◌∙◌, arith}
use Rattle.std.specs.Prelude.{count_by}
use Rattle.std.specs.FinMap.{get}
use Rattle.smq_kit.specs.declared.link_key.LinkKey.{LinkKey}
use Rattle.smq_kit.specs.declared.place.Place.{Place}
use Rattle.smq_kit.specs.LinkKeys.{same_key}
use Rattle.smq_group.specs.Groups.{GroupsValue}
use Rattle.smq_group.specs.Matching.{Grouping}
use Rattle.smq_book.specs.edits.Reach.{members}
use Rattle.smq_book.specs.index.Touches.{MembersCome, MembersGo, key_in, load_of, taken_load, taken_of, walk_of}

-- what a move of a key walks over now is what it walks over where all came and none was filled
pub walks-more : (g h : GroupsValue) → MembersCome g h → (n : Grouping) → ((k : LinkKey) → members h.members k ≤ members n k)
    → (key : Option LinkKey) → load_of h key ≤ walk_of g n key
walks-more g h come n fewer None = omega arith
walks-more g h come n fewer (Some key) =
    let a = come.vacant key in
    let b = fewer key in
    omega (arith, a, b)

-- ---- what a walk leaves of groups

module _ (g h : GroupsValue) (same_members : h.members ≡ g.members) (same_vacant : h.vacant ≡ g.vacant) where
  pub go-read : (k : GroupsValue) → MembersGo h k → MembersGo g k
  go-read k went = record {
    submits = λ q key e. ap (λ (m : Grouping). get m.submits q) (sym same_members) ∙ went.submits q key e;
    receipts = λ q r e. ap (λ (m : Grouping). get m.receipts q) (sym same_members) ∙ went.receipts q r e;
    fewer = λ key. (let a = went.fewer key in let b = ap (λ (m : Grouping). members m key) same_members in omega (arith, a, b));
    vacant = λ key. (
        let a = went.vacant key in
        let b = ap (λ (m : Grouping). members m key) same_members in
        let c = ap (count_by (same_key key)) same_vacant in
        omega (arith, a, b, c));
  }

  taken-read : (key : Option LinkKey) → taken_of h key ≡ taken_of g key
  taken-read None = refl
  taken-read (Some key) = λ i. count_by (same_key key) (same_vacant i) + 33 * members (same_members i) key

  pub load-read : (q : Place) → taken_load h q ≡ taken_load g q
  load-read q =
      ap (λ (n : ℕ). 49 + n) (ap (λ (m : Grouping). taken_of h (key_in q.dir m q)) same_members ∙ taken-read (key_in q.dir g.members q))

use Rattle.std.proofs.Common.{◌≡◌, cond, ◌++◌, [], ◌∷◌, Some, None, sym, ap, ◌∙◌}
use Rattle.std.specs.Prelude.{not}
use Rattle.std.specs.BTreeMap.{is_at}
use Rattle.std.specs.Map.{lookup}
use Rattle.std.specs.Ordering.{nat_cmp}
use Rattle.smq_scratch.specs.declared.key_numbers.KeyNumbers.{KeyNumbers}
use Rattle.smq_scratch.specs.within.KeyNumbers.{first_at, index_of, is_key, number_by, other_at}
use Rattle.smq_scratch.proofs.KeyNumbered.{index-new, none-is, numbered-beside, numbered-first}
use Rattle.smq_scratch.proofs.key_numbers.KeyNumbers.number_of.Goals as goal
use Rattle.smq_scratch.proofs.key_numbers.KeyNumbers.number_of.Goals.{then-is_none+in_ok-insert, else-is_none+in_ok-insert-2}

pub returns-clause-number : goal.returns-clause-number
returns-clause-number c =
    let old = c.args.self.now in
    let first : c.copied-first.result ≡ first_at old.firsts c.args.key =
    c.copied-first.ensures ∙ c.get.ensures.value ∙ ap (λ s. lookup (is_at (nat_cmp s)) old.firsts.entries) c.slot_of-slot.ensures in
    let absent : index_of c.args.key old.keys.items ≡ None =
    sym (c.requires c.args.key) ∙ ap (λ o. number_by o old c.args.key) (sym first) ∙ sym c.known.ensures ∙ c.in_default.is in
    let kept : c.if-is_none.self.keys ≡ old.keys =
    elim c.if-is_none.branch [
      | then-is_none+in_ok-insert w ↦ ap (λ s. s.keys) w.self-is
      | else-is_none+in_ok-insert-2 w ↦ ap (λ s. s.keys) w.self-is
    ] in
    ap (index_of c.args.key) (c.in_ok-push.ensures.items ∙ ap (λ ks. ks.items ++ c.args.key ∷ []) kept)
    ∙ index-new c.args.key old.keys.items absent ∙ ap Some (sym (c.len-number.ensures ∙ old.keys.ok.0))

pub returns-clause-numbered : goal.returns-clause-numbered
returns-clause-numbered c =
    let old = c.args.self.now in
    let new : KeyNumbers = record { keys = c.push.new.self; firsts = c.if-is_none.self.firsts; others = c.if-is_none.self.others } in
    let first : c.copied-first.result ≡ first_at old.firsts c.args.key =
    c.copied-first.ensures ∙ c.get.ensures.value ∙ ap (λ s. lookup (is_at (nat_cmp s)) old.firsts.entries) c.slot_of-slot.ensures in
    let absent : index_of c.args.key old.keys.items ≡ None =
    sym (c.requires c.args.key) ∙ ap (λ o. number_by o old c.args.key) (sym first) ∙ sym c.known.ensures ∙ c.in_default.is in
    let kept : c.if-is_none.self.keys ≡ old.keys =
    elim c.if-is_none.branch [
      | then-is_none+in_ok-insert w ↦ ap (λ s. s.keys) w.self-is
      | else-is_none+in_ok-insert-2 w ↦ ap (λ s. s.keys) w.self-is
    ] in
    let keys : c.push.new.self.items ≡ old.keys.items ++ c.args.key ∷ [] =
    c.in_ok-push.ensures.items ∙ ap (λ ks. ks.items ++ c.args.key ∷ []) kept in
    elim c.if-is_none.branch [
      | then-is_none+in_ok-insert w ↦ numbered-first old new c.args.key c.requires keys absent
          (sym first ∙ none-is c.copied-first.result (c.is_none.ensures ∙ ap not w.if-is_none.true))
          (ap (λ s. s.others) w.self-is)
          (λ s. ap (λ m. lookup (is_at (nat_cmp s)) m.firsts.entries) w.self-is ∙ w.in_ok-insert.ensures.updates.0 s
          ∙ (λ i. cond (is_at (nat_cmp (c.slot_of-slot.ensures i)) s) (Some ((c.len-number.ensures ∙ old.keys.ok.0) i)) (lookup (is_at (nat_cmp s)) old.firsts.entries)))
      | else-is_none+in_ok-insert-2 w ↦ numbered-beside old new c.args.key c.requires keys absent
          (ap (λ s. s.firsts) w.self-is)
          (λ q. ap (λ m. other_at m.others q) w.self-is ∙ w.in_ok-insert-2.ensures.updates.0 q
          ∙ (λ i. cond (is_key (w.copy.ensures i) q) (Some ((c.len-number.ensures ∙ old.keys.ok.0) i)) (other_at old.others q)))
    ]

use Rattle.std.proofs.Common.{◌≡◌, ◌++◌, List, ℕ, ℤ, w32, OnOk, ap, string_bytes, subst, ◌∙◌}
use Rattle.std.proofs.lemmas.Int.{to_z-of_z}
use Rattle.std.proofs.lemmas.List.{append_assoc}
use Rattle.smq_count.specs.LocalTime.{local_time_text, offset_text}
use Rattle.smq_count.proofs.local.push_local_hour.Goals as goal

pub returns : goal.returns
returns c =
    let before = string_bytes c.args.text.now in
    let time = local_time_text c.args.local in
    let offset = offset_text c.args.offset in
    subst (λ (all : List ℕ). OnOk c.push_offset.result (string_bytes c.push_offset.new.text ≡ all))
    (ap (λ (o : ℤ). string_bytes c.push_local_time.new.text ++ offset_text o) (to_z-of_z w32 c.args.offset c.ranges.offset)
    ∙ ap (λ (text : List ℕ). text ++ offset) c.in_ok-push_local_time.ensures ∙ append_assoc before time offset) c.push_offset.ensures

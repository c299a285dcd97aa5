use Rattle.std.proofs.Common.{◌≡◌, ◌++◌, ◌∷◌, [], ◌/◌, ◌%◌, List, ℕ, ℤ, w32, OnOk, ap, string_bytes, subst, ◌∙◌}
use Rattle.std.proofs.lemmas.Int.{to_z-of_z}
use Rattle.std.proofs.lemmas.List.{append_assoc}
use Rattle.smq_count.specs.LocalTime.{local_time_text, offset_text}
use Rattle.smq_count.specs.Months.{two_digits}
use Rattle.smq_count.proofs.local.push_local_minute.Goals as goal

pub returns : goal.returns
returns c =
    let before = string_bytes c.args.text.now in
    let time = local_time_text c.args.local in
    let minute = two_digits (c.args.local / 60 % 60) in
    let offset = offset_text c.args.offset in
    let text = c.in_ok-push_two.ensures
    ∙ ap (λ (text : List ℕ). text ++ minute)
    (c.in_ok-push_str.ensures.bytes ∙ ap (λ (text : List ℕ). text ++ 58 ∷ []) c.in_ok-push_local_time.ensures) in
    subst (λ (all : List ℕ). OnOk c.push_offset.result (string_bytes c.push_offset.new.text ≡ all))
    (ap (λ (o : ℤ). string_bytes c.push_two.new.text ++ offset_text o) (to_z-of_z w32 c.args.offset c.ranges.offset)
    ∙ ap (λ (text : List ℕ). text ++ offset)
    (text ∙ append_assoc (before ++ time) (58 ∷ []) minute ∙ append_assoc before time (58 ∷ minute))
    ∙ append_assoc before (time ++ 58 ∷ minute) offset) c.push_offset.ensures

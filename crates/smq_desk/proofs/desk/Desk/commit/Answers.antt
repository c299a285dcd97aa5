use Rattle.std.proofs.Common.{◌≡◌, ◌∙◌, ap, List, [], ◌∷◌, ◌++◌}
use Rattle.smq_desk.specs.declared.entry.Call.{Call}
use Rattle.smq_desk.specs.History.{replay}
use Rattle.smq_desk.specs.Seats.{call_of}
use Rattle.smq_desk.proofs.BookReplies.{called}
use Rattle.smq_desk.proofs.desk.Desk.commit.Goals as goal

pub returns-in-Some : goal.returns-in-Some
returns-in-Some g c =
    let told = c.in_ok-number.ensures.ok in
    let call = call_of c.in_ok-number.number c.args.edit c.in_ok-number.reply in
    let more : c.push_reserved.new.self.items ≡ c.seat.inside.calls.items ++ call ∷ [] =
    c.push_reserved.ensures.items ∙ ap (λ (cs : List Call). cs ++ call ∷ []) c.reserve.ensures.items in
    called (replay c.deref_mut.result.now.entries) c.args.seat.now c.seat.inside.number c.seat.inside.calls.items c.push_reserved.new.self.items
    c.args.edit c.in-Ok.theirs c.in_ok-number.reply c.refusal-refusal.result c.in-Some.refusal c.in_ok-number.number
    c.in-Ok.ensures told.replied c.refusal-refusal.ensures c.in-Some.is more c.seat.view_is

use Rattle.std.proofs.Common.{◌++◌, ◌∷◌, [], List, ℕ, take, ap, ◌∙◌, sym, subst}
use Rattle.std.specs.Prelude.{cond}
use Rattle.std.specs.Io.KnownBytes.{Appends}
use Rattle.std.proofs.lemmas.List.{take_more}
use Rattle.smq_parts.specs.declared.gathered.Waiting.{Waiting}
use Rattle.smq_parts.specs.Parts.{is_part}
use Rattle.smq_parts.specs.within.Waiting.{waits_for}
use Rattle.smq_parts.proofs.Texts.{appends-then}
use Rattle.smq_parts.proofs.Waits.{waits-last}
use Rattle.smq_parts.proofs.gathered.write_all.Goals as goal

pub loop-it-preserved : goal.loop-it-preserved
loop-it-preserved g c part =
    let ws = c.args.waiting.now in
    let i = c.loop-it.it-index in
    let x = c.it-item.result in
    let more = take_more ws i x c.loop-it-test.true ∙ ap (λ (y : Waiting). take i ws ++ y ∷ []) (sym c.it-item.is) in
    let text = ap (λ (ys : List Waiting). waits_for part ys) more ∙ waits-last part (take i ws) x in
    subst (λ (t : List ℕ). Appends (g.F.Folder.contents c.args.folder.now part) (g.F.Folder.contents c.append.new.self part) t) (sym text)
    (appends-then (g.F.Folder.contents c.args.folder.now part) (g.F.Folder.contents c.loop-it.folder part)
    (g.F.Folder.contents c.append.new.self part) (waits_for part (take i ws)) (cond (is_part part x.part) x.text.items [])
    (c.loop-it.invariant part)
    (subst (λ (t : List ℕ). Appends (g.F.Folder.contents c.loop-it.folder part) (g.F.Folder.contents c.append.new.self part)
    (cond (is_part part x.part) t [])) c.as_slice.ensures.value (c.in_ok-append.ensures part)))

use Rattle.std.proofs.Common.{◌≡◌, ◌∷◌, ◌++◌, ◌∙◌, ◌+◌, Option, Some, [], drop, ap, sym}
use Rattle.std.proofs.lemmas.List.{drop_more}
use Rattle.toml.specs.View.{items_view, view}
use Rattle.smq_load.specs.Settings.{link_before, link_in, links_in}
use Rattle.smq_load.specs.declared.link_settings.LinkSettings.{LinkSettings}
use Rattle.smq_load.proofs.LinkLemmas.{after, after-more}
use Rattle.smq_load.proofs.link_settings.read_tables.Goals as goal

-- one more table is read
pub loop-value-preserved : goal.loop-value-preserved
loop-value-preserved c =
    let values = c.deref-value-items.result.now in
    let i = c.loop-value.value-index in
    let left = drop (i + 1) values in
    let items : c.push.new.self.items ≡ c.loop-value.links.items ++ c.in-Some.link ∷ [] = c.in_ok-push.ensures.items in
    let says : Some c.in-Some.link ≡ link_in (view c.value-item.result) = sym c.in-Some.is ∙ c.read_link_table.ensures in
    let next : link_before (Some c.in-Some.link) (links_in (items_view left)) ≡ links_in (items_view (drop i values)) =
    ap (λ (l : Option LinkSettings). link_before l (links_in (items_view left))) says
    ∙ ap (λ v. link_before (link_in (view v)) (links_in (items_view left))) c.value-item.is
    ∙ sym (ap (λ vs. links_in (items_view vs)) (drop_more values i c.value-item.result c.loop-value-test.true)) in
    rw items (after-more c.loop-value.links.items c.in-Some.link (links_in (items_view left))
    ∙ ap (after c.loop-value.links.items) next ∙ c.loop-value.invariant)

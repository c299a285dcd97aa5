use Rattle.std.proofs.Common.{◌≡◌, ◌∙◌, ap, length, sym, true, false}
use Rattle.std.specs.Prelude.{◌==◌, ◌&&◌}
use Rattle.smq_pair.specs.within.Kept.{entries_in}
use Rattle.smq_pair.proofs.Nexts.{of-session, of-another}
use Rattle.smq_pair.proofs.streams.Streams.are_of.Goals as goal

pub returns-then-self-session : goal.returns-then-self-session
returns-then-self-session c = of-session (entries_in c.args.self.now) c.args.session c.if-self-session.true

pub returns-then-is_empty : goal.returns-then-is_empty
returns-then-is_empty c =
    let centre = c.args.self.now.centre.content in
    let none : (length c.args.self.now.client.content == 0) ≡ true =
    sym (c.is_empty.ensures ∙ ap (λ xs. length xs == 0) c.entries.ensures.content) ∙ c.if-is_empty.true in
    c.is_empty-then-is_empty.ensures ∙ ap (λ xs. length xs == 0) c.entries-then-is_empty.ensures.content
    ∙ sym (of-another (entries_in c.args.self.now) c.args.session c.if-self-session.false ∙ ap (λ b. b && length centre == 0) none)

pub returns-else-is_empty : goal.returns-else-is_empty
returns-else-is_empty c =
    let centre = c.args.self.now.centre.content in
    let none : (length c.args.self.now.client.content == 0) ≡ false =
    sym (c.is_empty.ensures ∙ ap (λ xs. length xs == 0) c.entries.ensures.content) ∙ c.if-is_empty.false in
    c.if-is_empty.false
    ∙ sym (of-another (entries_in c.args.self.now) c.args.session c.if-self-session.false ∙ ap (λ b. b && length centre == 0) none)

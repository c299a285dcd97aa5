use Rattle.std.proofs.Common.{drop}
use Rattle.std.specs.Arc.{arc_value}
use Rattle.smq_desk.specs.History.{StartsWith}
use Rattle.smq_desk.specs.within.Boards.{shown_in}
use Rattle.smq_desk.proofs.BoardSteps.{publishes}
use Rattle.smq_desk.proofs.board.put_on.Goals as goal

pub publish_as-board-requires : goal.publish_as-board-requires
publish_as-board-requires g c next is =
    let now = c.append.new.self in
    let longer : StartsWith (arc_value c.args.published) (shown_in now.desk.shown.value) = rw c.in-Ok.ensures.desk c.requires in
    publishes (λ published. arc_value published) now.desk.place.id now.desk.place.me.0.client now.desk.shown.value next
    (drop c.args.board.behind c.args.board.log.items) (drop now.behind now.log.items) c.args.published c.in-Ok.ensures.pending is longer

use Rattle.std.proofs.Common.{arith, FitsSigned, w16, pos, ◌+◌, ◌<◌, ◌^◌, ◌↔◌, ◌∙◌, sym, IsOk}
use Rattle.std.proofs.lemmas.Int.{ints, to_z-of_z, to_z_pos}
use Rattle.jiff.specs.Words.{IsDate}
use Rattle.smq_receipt.proofs.Calendar.{is_date-from_calendar, calendar-from_is_date}
use Rattle.smq_receipt.proofs.date.date_of.Goals as goal

pub returns-clause-found : goal.returns-clause-found
returns-clause-found c =
    let y : c.args.year < 2 ^ 15 = omega arith in
    let z : FitsSigned w16 (pos (2000 + c.args.year)) = omega (arith, ints) in
    let m : c.args.month < 2 ^ 7 = omega arith in
    let d : c.args.day < 2 ^ 7 = omega arith in
    let s : IsOk c.new.result ↔ IsDate (pos (2000 + c.args.year)) (pos c.args.month) (pos c.args.day) =
    simp (to_z-of_z, to_z_pos) at c.new.ensures.succeeds in (
      λ some. is_date-from_calendar c.args.year c.args.month c.args.day (s.0 (sym c.ok.ensures.variant ∙ some)),
      λ is.
          c.ok.ensures.variant ∙ s.1 (calendar-from_is_date c.args.year c.args.month c.args.day c.requires.year_in is),
    )

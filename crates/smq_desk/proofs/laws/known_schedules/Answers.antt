use Rattle.std.proofs.Common.{[], refl, arith}
use Rattle.smq_desk.specs.KnownLoads.{row_of}
use Rattle.smq_desk.proofs.KnownEnds.{of_one_thread, two_steps, no_worker, out_of_step, in_step, ends_one_by_one, ends_in_turns, of_their_own}
use Rattle.smq_desk.proofs.laws.known_schedules.Goals as goal

pub returns : goal.returns
returns c = record {
  one_by_one = ends_one_by_one;
  in_turns = ends_in_turns;
  of_one_thread = of_one_thread;
  own_sessions = of_their_own;
  two_steps = two_steps;
  no_worker = no_worker;
  not_own = λ h. h 0 1 [] (omega arith) (omega arith) 0 (row_of 10 1000 []) (omega arith) 0 (row_of 10 1000 []) (omega arith) refl;
  out_of_step = out_of_step;
  in_step = in_step;
}

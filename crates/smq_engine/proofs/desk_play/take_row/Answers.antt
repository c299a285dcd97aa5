use Rattle.smq_engine.proofs.desk_play.take_row.Goals as goal

pub returns-in-Plain-clause-pieces : goal.returns-in-Plain-clause-pieces
returns-in-Plain-clause-pieces g c before jobs_of = rw c.in-Plain.is (c.make_plain.ensures.pieces before jobs_of)

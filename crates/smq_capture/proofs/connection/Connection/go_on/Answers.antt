use Rattle.std.proofs.Common.{◌≡◌, Bool, true, false, refl, sym, ◌∙◌}
use Rattle.smq_capture.specs.Flow.{stream_of}
use Rattle.smq_capture.proofs.connection.Connection.go_on.Goals as goal

pub returns-clause-goes_on : goal.returns-clause-goes_on
returns-clause-goes_on g c =
    let told = rw c.in-Some.is at c.in_ok-found.ensures.found in
    record {
      found = c.search.new.self;
      number = c.in-Some.found.number;
      begun = c.begin_with.new.self.flow;
      finds = record {
        searches = λ pieces start given gives.
            rw c.in-Some.is at (c.in_ok-found.ensures.searches (looks (stream_of c.args.side c.args.self.now.flow).is_searching refl)
            pieces start given gives);
        place_is = told.1;
        number_is = told.2;
      };
      begins = c.in_ok-begin_with.ensures.begins;
      puts = c.in_ok-put_all.ensures.puts;
      keeps = c.in_ok-put_all.ensures.same;
    }
  where
    looks : (b : Bool) → (stream_of c.args.side c.args.self.now.flow).is_searching ≡ b
        → (stream_of c.args.side c.args.self.now.flow).is_searching ≡ true
    looks true e = e
    looks false e = let idle = (c.in_ok-found.ensures.idle e).0 in absurd (cc)

pub returns-in_default-clause-idle : goal.returns-in_default-clause-idle
returns-in_default-clause-idle g c told = record {
  still = λ e. (c.in_ok-found.ensures.idle e).1;
  searches = λ is pieces start given gives. rw c.in_default.is at (c.in_ok-found.ensures.searches is pieces start given gives);
}

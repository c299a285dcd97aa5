use Rattle.std.proofs.Common.{◌≡◌, inl, ◌+◌, ◌∙◌, ℕ, List, [], drop, sym, subst, ap}
use Rattle.std.specs.Prelude.{slice_get, Some}
use Rattle.std.specs.Option.{option_map}
use Rattle.smq_reassembly.specs.Octet.{Octet}
use Rattle.smq_reassembly.specs.Moment.{values}
use Rattle.smq_streams.specs.declared.headers.Sight.TheVariants.{Other}
use Rattle.smq_streams.specs.Search.{Search, Shows, emptied}
use Rattle.smq_streams.proofs.Finding.{beyond-more, none-left, one-more}
use Rattle.smq_streams.proofs.seeker.Seeker.find.Goals as goal

pub octets-preserved : goal.octets-preserved
octets-preserved c =
    let i = c.octets.invariant in
    let left : c.octets.self.octets ≡ drop i.0 c.args.self.now.octets = ap (λ (s : Search). s.octets) i.2 in
    let begins : option_map (λ (o : Octet). o.begins) (slice_get (drop i.0 c.args.self.now.octets) 0) ≡ Some c.in-Some.begins =
    ap (λ (o : List Octet). option_map (λ (x : Octet). x.begins) (slice_get o 0)) (sym left) ∙ sym c.begins.ensures ∙ c.in-Some.is in
    let shows : Shows c.args.is_end (values (drop i.0 c.args.self.now.octets)) c.in-Some.begins Other =
    subst (λ (o : List ℕ). Shows c.args.is_end o c.in-Some.begins Other) (c.rest.ensures ∙ ap values left) c.in-Other.ensures in
    (i.0 + 1, one-more c.args.is_end c.args.self.now.octets i.0 c.in-Some.begins i.1 begins shows, c.pass.ensures ∙ beyond-more i.0 c.args.self.now c.octets.self i.2)

pub returns : goal.returns
returns c =
    let i = c.octets.invariant in
    record {
      count = i.0;
      passed = i.1;
      after_is = c.clear.ensures ∙ ap (λ (s : Search). emptied s) i.2;
      stops = inl (ap (λ (s : Search). s.octets) c.clear.ensures ∙ none-left c.octets.self.octets (sym c.begins.ensures ∙ c.in_default.is));
    }

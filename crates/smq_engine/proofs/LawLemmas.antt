-- Laws of what is said, and of the names that are asked.
use Rattle.std.proofs.Common.{◌≡◌, ◌∙◌, List, [], ◌∷◌, ◌++◌, ℕ, Some, refl, sym, ap, append-nil, append_assoc}
use Rattle.smq_tally.specs.declared.list.List.TheVariants as list
use Rattle.smq_tally.specs.declared.view.View.TheVariants as view
use Rattle.smq_report.specs.declared.pick.Pick.{Pick}
use Rattle.smq_report.specs.declared.pick.Pick.TheVariants as pick
use Rattle.smq_engine.specs.declared.record.Record.{Record}
use Rattle.smq_engine.specs.Record.{ask_name, pick_of}
use Rattle.smq_engine.specs.Answers.{said_of}

-- what is said of records, and then of more
pub said-append : (say : List Record → Record → List ℕ) (before records more : List Record)
    → said_of say before (records ++ more) ≡ said_of say before records ++ said_of say (before ++ records) more
said-append say before [] more = ap (λ (all : List Record). said_of say all more) (sym (append-nil before))
said-append say before (q ∷ records) more =
    ap (λ (l : List ℕ). say before q ++ l) (said-append say (before ++ q ∷ []) records more
    ∙ ap (λ (all : List Record). said_of say (before ++ q ∷ []) records ++ said_of say all more) (append_assoc before (q ∷ []) records))
    ∙ sym (append_assoc (say before q) (said_of say (before ++ q ∷ []) records) (said_of say (before ++ q ∷ records) more))

pub each-is-asked : (pick : Pick) → pick_of (ask_name pick) ≡ Some pick
each-is-asked pick.All = refl
each-is-asked (pick.View view.Link) = refl
each-is-asked (pick.View view.Route) = refl
each-is-asked (pick.View view.Network) = refl
each-is-asked (pick.View view.Error) = refl
each-is-asked (pick.View view.LinkDelay) = refl
each-is-asked (pick.View view.CentreDelay) = refl
each-is-asked (pick.List list.Waiting) = refl
each-is-asked (pick.List list.StrayAnswers) = refl
each-is-asked (pick.List list.Mismatched) = refl
each-is-asked (pick.List list.StrayReceipts) = refl
each-is-asked (pick.List list.AmbiguousReceipts) = refl
each-is-asked (pick.List list.ExtraReceipts) = refl
each-is-asked (pick.List list.Unreadable) = refl
each-is-asked (pick.List list.Undecodable) = refl
each-is-asked (pick.List list.Broken) = refl
each-is-asked (pick.List list.Open) = refl
each-is-asked (pick.List list.Lapsed) = refl

-- Keys of rows that compare equal are one, and so are listed places.
use Rattle.std.specs.Prelude.{◌≡◌}
use Rattle.std.specs.Bool.{Decides}
use Rattle.std.proofs.Common.{rules, ap, ◌∙◌}
use Rattle.std.specs.declared.cmp.Ordering.TheVariants.{Equal}
use Rattle.std.specs.Ordering.{is_eq}
use Rattle.smq_kit.specs.declared.place.Place.{Place}
use Rattle.smq_kit.specs.contracts.place.PlacePartialEq.TheImpl as place_eq
use Rattle.smq_tally.specs.declared.fact.RowKey.{RowKey}
use Rattle.smq_tally.specs.declared.list.List as l
use Rattle.smq_tally.specs.declared.list.Listed.{Listed}
use Rattle.smq_tally.specs.declared.outcome.Outcome.{Outcome}
use Rattle.smq_tally.specs.declared.value.SubmitError.{SubmitError}
use Rattle.smq_tally.specs.declared.value.Value.{Value}
use Rattle.smq_tally.specs.declared.view.View.{View}
use Rattle.smq_tally.specs.contracts.fact.RowKeyOrd.TheImpl.Laws as row_laws
use Rattle.smq_tally.specs.contracts.list.ListPartialEq.TheImpl as list_eq
use Rattle.smq_tally.specs.contracts.list.ListedPartialEq.TheImpl as listed_eq
use Rattle.smq_tally.specs.contracts.list.ListedOrd.TheImpl.Laws as listed_laws
use Rattle.smq_tally.specs.contracts.outcome.OutcomePartialEq.TheImpl as outcome_eq
use Rattle.smq_tally.specs.contracts.value.SubmitErrorPartialEq.TheImpl as error_eq
use Rattle.smq_tally.specs.contracts.value.ValuePartialEq.TheImpl as value_eq
use Rattle.smq_tally.specs.contracts.view.ViewPartialEq.TheImpl as view_eq
use Rattle.smq_tally.specs.within.CountOrder.{kept_row_cmp}
use Rattle.smq_tally.specs.within.ListOrder.{kept_listed_cmp}
use Rattle.std.proofs.lemmas.Bool.Decides.{Decides-and, Decides-like}

pub views : (a b : View) → Decides (view_eq.ghosts.eq a b) (a ≡ b)
views a b = search rules

pub errors : (a b : SubmitError) → Decides (error_eq.ghosts.eq a b) (a ≡ b)
errors a b = search rules

pub values : (a b : Value) → Decides (value_eq.ghosts.eq a b) (a ≡ b)
values a b = search (rules, errors)

pub in_lists : (a b : l.List) → Decides (list_eq.ghosts.eq a b) (a ≡ b)
in_lists a b = search rules

pub at_places : (a b : Place) → Decides (place_eq.ghosts.eq a b) (a ≡ b)
at_places a b = search rules

pub outcomes : (a b : Outcome) → Decides (outcome_eq.ghosts.eq a b) (a ≡ b)
outcomes a b = search rules

pub row_key_exact : (x y : RowKey) → kept_row_cmp x y ≡ Equal → x ≡ y
row_key_exact x y e =
    let parts = (Decides-and _ _ (views x.view y.view) (values x.value y.value)).0 (row_laws.matches_eq-law x y ∙ ap is_eq e) in
    λ i. record { view = parts.0 i; value = parts.1 i }

pub listed_decides : (x y : Listed) → Decides (listed_eq.ghosts.eq x y) (x ≡ y)
listed_decides x y =
    Decides-like (listed_eq.ghosts.eq x y) (λ p i. record { list = p.0 i; place = p.1 i }) (λ e. (ap (λ z. z.list) e, ap (λ z. z.place) e))
    (Decides-and _ _ (in_lists x.list y.list) (at_places x.place y.place))

pub listed_key_exact : (x y : Listed) → kept_listed_cmp x y ≡ Equal → x ≡ y
listed_key_exact x y e = (listed_decides x y).0 (listed_laws.matches_eq-law x y ∙ ap is_eq e)

use Rattle.std.proofs.Common.{[], ◌∷◌, Some, refl}
use Rattle.smq_group.specs.declared.change.Standing.TheVariants.{Deciding, Extra, Noted, Shared, Single}
use Rattle.smq_group.specs.Known.{centre_at, client_at, late, late_and_early, one, told, two, undecided}
use Rattle.smq_group.proofs.Placing.{sorted_none, sorted_one, sorted_two}
use Rattle.smq_group.proofs.KnownGroups.{tells-known}
use Rattle.smq_group.proofs.laws.known_changes.Goals as goal

pub returns : goal.returns
returns c = record {
  replaced = tells-known one one late late_and_early
      (told (client_at 0) (Single (Some (centre_at 90))) ∷ []) (told (centre_at 18) Extra ∷ told (centre_at 90) Deciding ∷ []) tt tt tt tt
      (sorted_one (client_at 0)) (sorted_two (centre_at 18) (centre_at 90) refl)
      (client_at 0) (client_at 49) refl refl (λ q e f. ((e, tt), (e, tt), (e, tt)))
      (centre_at 18) (centre_at 90) refl refl (λ q e f. ((e, tt), (e, (f, tt)), (e, (f, tt))));
  back = tells-known one one late_and_early late
      (told (client_at 0) (Single (Some (centre_at 18))) ∷ []) (told (centre_at 18) Deciding ∷ []) tt tt tt tt
      (sorted_one (client_at 0)) (sorted_one (centre_at 18))
      (client_at 0) (client_at 49) refl refl (λ q e f. ((e, tt), (e, tt), (e, tt)))
      (centre_at 18) (centre_at 90) refl refl (λ q e f. ((e, (f, tt)), (e, tt), (e, tt)));
  shared = tells-known one two late late
      (told (client_at 0) Shared ∷ told (client_at 49) Shared ∷ []) (told (centre_at 18) Shared ∷ []) tt tt tt tt
      (sorted_two (client_at 0) (client_at 49) refl) (sorted_one (centre_at 18))
      (client_at 0) (client_at 49) refl refl (λ q e f. ((e, tt), (e, (f, tt)), (e, (f, tt))))
      (centre_at 18) (centre_at 90) refl refl (λ q e f. ((e, tt), (e, tt), (e, tt)));
  alone = tells-known two one late late
      (told (client_at 0) (Single (Some (centre_at 18))) ∷ []) (told (centre_at 18) Deciding ∷ []) tt tt tt tt
      (sorted_one (client_at 0)) (sorted_one (centre_at 18))
      (client_at 0) (client_at 49) refl refl (λ q e f. ((e, (f, tt)), (e, tt), (e, tt)))
      (centre_at 18) (centre_at 90) refl refl (λ q e f. ((e, tt), (e, tt), (e, tt)));
  noted = tells-known one one [] undecided [] (told (centre_at 18) Noted ∷ []) tt tt tt tt
      sorted_none (sorted_one (centre_at 18))
      (client_at 0) (client_at 49) refl refl (λ q e f. ((e, tt), (e, tt), tt))
      (centre_at 18) (centre_at 90) refl refl (λ q e f. (tt, (e, tt), (e, tt)));
}

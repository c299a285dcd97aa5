-- The order of places is total and exact, maps keep it, and it has a least place.
use Rattle.std.proofs.Common.{◌≡◌, ◌∙◌, ℕ, true, subst, refl, sym}
use Rattle.std.specs.declared.cmp.Ordering.{Ordering}
use Rattle.std.specs.declared.cmp.Ordering.TheVariants.{Equal}
use Rattle.std.specs.Ordering.{is_le, nat_cmp, ordering_then}
use Rattle.std.specs.Cmp.{IsTotalOrder}
use Rattle.std.proofs.lemmas.Cmp.{on_total, then_total, nat_cmp_total}
use Rattle.std.specs.FinMap.{IsAntisymmetric, nat_cmp-IsAntisymmetric}
use Rattle.smq_kit.specs.declared.place.Dir.{Dir}
use Rattle.smq_kit.specs.declared.place.Dir.TheVariants.{FromClient, FromCentre}
use Rattle.smq_kit.specs.declared.place.Place.{Place}
use Rattle.smq_kit.specs.contracts.place.DirOrd.TheImpl as dir_ord
use Rattle.smq_kit.specs.Orders.{dir_cmp, kept_place_cmp, least_place, place_cmp}
use Rattle.smq_kit.proofs.Comparisons.{le_zero, then_first, then_le, then_second}

dir_number : Dir → ℕ
dir_number FromClient = 0
dir_number FromCentre = 1

dirs_by_number : (a b : Dir) → dir_cmp a b ≡ nat_cmp (dir_number a) (dir_number b)
unfolding dir_number
dirs_by_number FromClient FromClient = refl
dirs_by_number FromClient FromCentre = refl
dirs_by_number FromCentre FromClient = refl
dirs_by_number FromCentre FromCentre = refl

dirs_total : IsTotalOrder dir_cmp
dirs_total = subst IsTotalOrder (sym (λ i a b. dirs_by_number a b i)) (on_total dir_number nat_cmp_total)

pub places_total : IsTotalOrder place_cmp
places_total = then_total (on_total (λ p. p.session.0) nat_cmp_total)
    (then_total (on_total (λ p. p.dir) dirs_total) (on_total (λ p. p.offset) nat_cmp_total))

same_dir : (a b : Dir) → dir_cmp a b ≡ Equal → a ≡ b
same_dir FromClient FromClient e = refl
same_dir FromClient FromCentre e = absurd cc
same_dir FromCentre FromClient e = absurd cc
same_dir FromCentre FromCentre e = refl

pub places_exact : IsAntisymmetric place_cmp
places_exact a b e =
    let sessions : Ordering = nat_cmp a.session.0 b.session.0 in
    let dirs : Ordering = dir_cmp a.dir b.dir in
    let offsets : Ordering = nat_cmp a.offset b.offset in
    let later : ordering_then dirs offsets ≡ Equal = then_second sessions (ordering_then dirs offsets) e in
    λ i. record {
      session = record { 0 = nat_cmp-IsAntisymmetric a.session.0 b.session.0 (then_first sessions (ordering_then dirs offsets) e) i };
      dir = same_dir a.dir b.dir (then_first dirs offsets later) i;
      offset = nat_cmp-IsAntisymmetric a.offset b.offset (then_second dirs offsets later) i;
    }

dir_order : (a b : Dir) → (dir_ord.ghosts).cmp a b ≡ dir_cmp a b
dir_order FromClient FromClient = refl
dir_order FromClient FromCentre = refl
dir_order FromCentre FromClient = refl
dir_order FromCentre FromCentre = refl

-- the order by which a map of std compares places is this order
pub place-order : kept_place_cmp ≡ place_cmp
place-order = λ i a b. ordering_then (nat_cmp a.session.0 b.session.0) (ordering_then (dir_order a.dir b.dir i) (nat_cmp a.offset b.offset))

le_client : (d : Dir) → is_le (dir_cmp FromClient d) ≡ true
le_client FromClient = refl
le_client FromCentre = refl

-- no place is below the least
pub least-le : (p : Place) → is_le (place_cmp least_place p) ≡ true
least-le p =
    then_le (nat_cmp 0 p.session.0) (ordering_then (dir_cmp FromClient p.dir) (nat_cmp 0 p.offset)) (le_zero p.session.0)
    (then_le (dir_cmp FromClient p.dir) (nat_cmp 0 p.offset) (le_client p.dir) (le_zero p.offset))

pub least-kept : (p : Place) → is_le (kept_place_cmp least_place p) ≡ true
least-kept p = (λ i. is_le (place-order i least_place p)) ∙ least-le p

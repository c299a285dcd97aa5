-- Exchanges that compare equal are one.
use Rattle.std.specs.Prelude.{◌≡◌, ℕ, refl}
use Rattle.std.specs.Ordering.{nat_cmp, ordering_then}
use Rattle.std.specs.declared.cmp.Ordering.{Ordering}
use Rattle.std.specs.declared.cmp.Ordering.TheVariants.{Equal}
use Rattle.std.specs.FinMap.{nat_cmp-IsAntisymmetric}
use Rattle.smq_kit.specs.declared.place.Dir.{Dir}
use Rattle.smq_kit.specs.declared.place.Dir.TheVariants.{FromClient, FromCentre}
use Rattle.smq_kit.specs.contracts.place.DirOrd.TheImpl as dir_ord
use Rattle.smq_kit.proofs.Comparisons.{then_first, then_second}
use Rattle.smq_pair.specs.declared.paired_pdu.Exchange.{Exchange}
use Rattle.smq_pair.specs.within.Orders.{exchange_cmp}

-- directions by number
abbrev pub dir_number : Dir → ℕ
dir_number FromClient = 0
dir_number FromCentre = 1

one_dir : (x y : Dir) → (dir_ord.ghosts).cmp x y ≡ Equal → x ≡ y
one_dir FromClient FromClient h = refl
one_dir FromClient FromCentre h = absurd cc
one_dir FromCentre FromClient h = absurd cc
one_dir FromCentre FromCentre h = refl

pub dir_order : (x y : Dir) → (dir_ord.ghosts).cmp x y ≡ nat_cmp (dir_number x) (dir_number y)
dir_order FromClient FromClient = refl
dir_order FromClient FromCentre = refl
dir_order FromCentre FromClient = refl
dir_order FromCentre FromCentre = refl

-- the order of exchanges by two numbers
abbrev pub numbers_cmp : Exchange → Exchange → Ordering
numbers_cmp x y = ordering_then (nat_cmp x.seq y.seq) (nat_cmp (dir_number x.dir) (dir_number y.dir))

pub exchange_order : (x y : Exchange) → exchange_cmp x y ≡ numbers_cmp x y
exchange_order x y = λ i. ordering_then (nat_cmp x.seq y.seq) (dir_order x.dir y.dir i)

pub one_exchange : (x y : Exchange) → exchange_cmp x y ≡ Equal → x ≡ y
one_exchange x y h =
    let seqs : Ordering = nat_cmp x.seq y.seq in
    let dirs : Ordering = (dir_ord.ghosts).cmp x.dir y.dir in
    λ i. record {
      seq = nat_cmp-IsAntisymmetric x.seq y.seq (then_first seqs dirs h) i;
      dir = one_dir x.dir y.dir (then_second seqs dirs h) i;
    }

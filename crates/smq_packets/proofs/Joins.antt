-- The octets of a datagram, part by part, behind those that were joined before.
use Rattle.std.proofs.Common.{◌≡◌, ℕ, zero, suc, ◌+◌, ◌-◌, ◌<◌, true, false, List, ◌++◌, length, Option, Some, None, option_map, append_assoc, arith, refl, sym, ap, ◌∙◌}
use Rattle.smq_packets.specs.Fragments.{joined, part_at}
use Rattle.smq_packets.specs.declared.datagram.Fragment.{Fragment}
use Rattle.smq_packets.specs.declared.part.Part.{Part}

-- what stands behind two lists, one after the other
behind_both : (a b : List ℕ) (o : Option (List ℕ)) →
    option_map (λ rest. a ++ rest) (option_map (λ rest. b ++ rest) o) ≡ option_map (λ rest. (a ++ b) ++ rest) o
behind_both a b None = refl
behind_both a b (Some c) = ap Some (sym (append_assoc a b c))

-- without a part there is none
pub join_absent : (before : List ℕ) (n : ℕ) (parts : List Part) (f : Fragment) (at : ℕ) → part_at parts f at ≡ None →
    None ≡ option_map (λ rest. before ++ rest) (joined n parts f at)
unfolding joined
join_absent before zero parts f at absent = refl
join_absent before (suc n) parts f at absent = rw absent refl

-- nor behind one that overlapped
pub join_overlapping : (before : List ℕ) (n : ℕ) (parts : List Part) (f : Fragment) (at : ℕ) (p : Part) → part_at parts f at ≡ Some p →
    p.is_overlapping ≡ true → None ≡ option_map (λ rest. before ++ rest) (joined n parts f at)
unfolding joined
join_overlapping before zero parts f at p there overlapped = refl
join_overlapping before (suc n) parts f at p there overlapped = rw (there, overlapped) refl

-- the last part ends it
pub join_last : (before : List ℕ) (n : ℕ) (parts : List Part) (f : Fragment) (at : ℕ) (p : Part) → 0 < n → part_at parts f at ≡ Some p →
    p.is_overlapping ≡ false → p.is_followed ≡ false →
    Some (before ++ p.octets.items) ≡ option_map (λ rest. before ++ rest) (joined n parts f at)
unfolding joined
join_last before zero parts f at p some there clean last = absurd (omega arith)
join_last before (suc n) parts f at p some there clean last = rw (there, clean, last) refl

-- any other leads on
on_to : (before : List ℕ) (n m : ℕ) (parts : List Part) (f : Fragment) (at : ℕ) (p : Part) → n ≡ m + 1 →
    part_at parts f at ≡ Some p → p.is_overlapping ≡ false → p.is_followed ≡ true →
    option_map (λ rest. before ++ rest) (joined n parts f at)
    ≡ option_map (λ rest. (before ++ p.octets.items) ++ rest) (joined m parts f (at + length p.octets.items))
unfolding joined
on_to before zero m parts f at p one_more there clean followed = absurd (omega arith)
on_to before (suc n) m parts f at p one_more there clean followed =
    let same : n ≡ m = omega arith in
    rw (there, clean, followed)
    (ap (λ k. option_map (λ rest. before ++ rest) (option_map (λ rest. p.octets.items ++ rest)
    (joined k parts f (at + length p.octets.items)))) same
    ∙ behind_both before p.octets.items (joined m parts f (at + length p.octets.items)))

pub join_on : (before after : List ℕ) (n m : ℕ) (parts : List Part) (f : Fragment) (at next : ℕ) (p : Part) → n ≡ m + 1 →
    part_at parts f at ≡ Some p → p.is_overlapping ≡ false → p.is_followed ≡ true →
    after ≡ before ++ p.octets.items → next ≡ at + length p.octets.items →
    option_map (λ rest. before ++ rest) (joined n parts f at) ≡ option_map (λ rest. after ++ rest) (joined m parts f next)
join_on before after n m parts f at next p one_more there clean followed grown moved =
    rw (grown, moved) (on_to before n m parts f at p one_more there clean followed)

-- no part, no octets
pub join_none : (before : List ℕ) (n : ℕ) (parts : List Part) (f : Fragment) (at : ℕ) → n ≡ 0 →
    None ≡ option_map (λ rest. before ++ rest) (joined n parts f at)
unfolding joined
join_none before n parts f at none = rw none refl

-- What sessions say, one after the other.
use Rattle.std.proofs.Common.{◌≡◌, List, [], ◌∷◌, ◌++◌, map, Ok, Err, IfOk, MatchResult, refl, ap, ◌∙◌, subst}
use Rattle.std.specs.Prelude.{Result}
use Rattle.std.specs.FinMap.{entries}
use Rattle.std.specs.List.{AllZip, Contains, flat_map}
use Rattle.std.proofs.lemmas.List.Elements.{same_from_all_zip}
use Rattle.std.proofs.lemmas.List.Folds.{flat_map-map}
use denote.Bor.{Bor}
use Rattle.rayon.proofs.ToStd.{slice-AllZip}
use Rattle.smq_present.specs.present.Present.{PresentValue}
use Rattle.smq_present.specs.within.Lists.{notes_of, receipts_of, submits_of}
use Rattle.smq_present.specs.declared.pairing.traffic.SessionReading.{SessionReading}
use Rattle.smq_present.specs.within.Said.{Says}
use Rattle.smq_present.specs.within.Sourced.{SessionView, sourced_by, sourced_of, submits_in, receipts_in, notes_in}

-- what is said of each is what is said of all
flat-said : {X Y C : Type 0} (R : X → Y → Type 0) (f : X → List C) (g : Y → List C) → ((x : X) (y : Y) → R x y → g y ≡ f x)
    → (xs : List X) (ys : List Y) → AllZip R xs ys → flat_map g ys ≡ flat_map f xs
flat-said R f g e [] [] h = refl
flat-said R f g e [] (y ∷ ys) h = elim h [ ]
flat-said R f g e (x ∷ xs) [] h = elim h [ ]
flat-said R f g e (x ∷ xs) (y ∷ ys) h = λ i. e x y h.0 i ++ flat-said R f g e xs ys h.1 i

-- messages read of each session are those of what is present, and so are notes
pub submits-present : (p : PresentValue) (xs : List SessionView) (ts : List SessionReading) → xs ≡ sourced_of p → AllZip Says xs ts
    → flat_map (λ (t : SessionReading). t.submits.items) ts ≡ submits_of p
submits-present p xs ts is h =
    flat-said Says submits_in (λ (t : SessionReading). t.submits.items) (λ x t s. s.0) xs ts h ∙ ap (flat_map submits_in) is
    ∙ flat_map-map submits_in (sourced_by p.settings) (entries p.sessions)

pub notes-present : (p : PresentValue) (xs : List SessionView) (ts : List SessionReading) → xs ≡ sourced_of p → AllZip Says xs ts
    → flat_map (λ (t : SessionReading). t.notes.items) ts ≡ notes_of p
notes-present p xs ts is h =
    flat-said Says notes_in (λ (t : SessionReading). t.notes.items) (λ x t s. s.1) xs ts h ∙ ap (flat_map notes_in) is
    ∙ flat_map-map notes_in (sourced_by p.settings) (entries p.sessions)

pub receipts-present : (p : PresentValue) (xs : List SessionView) → xs ≡ sourced_of p → flat_map receipts_in xs ≡ receipts_of p
receipts-present p xs is = ap (λ ys. flat_map receipts_in ys) is ∙ flat_map-map receipts_in (sourced_by p.settings) (entries p.sessions)

-- ---- what a parallel map whose closure may fail collects

oks : {S F : Type 0} (E : Type 0) (R : S → F → Type 0) (refs : List (Bor S)) (ys : List F)
    → AllZip (λ (b : Bor S) (q : Result F E). IfOk q (λ f. R b.now f)) refs (map Ok ys) → AllZip (λ (b : Bor S) y. R b.now y) refs ys
oks E R [] [] h = h
oks E R [] (y ∷ ys) h = elim h [ ]
oks E R (b ∷ refs) [] h = elim h [ ]
oks E R (b ∷ refs) (y ∷ ys) h = (h.0, oks E R refs ys h.1)

pub collects : {S F E V : Type 0} (R : S → F → Type 0) (items : V → List F) (s : List S) (refs : List (Bor S)) (x : List (Result F E)) (r : Result V E)
    → map (λ (b : Bor S). b.now) refs ≡ s → AllZip (λ (b : Bor S) (q : Result F E). IfOk q (λ f. R b.now f)) refs x
    → MatchResult r (λ c. (ys : List F) × (x ≡ map Ok ys) × (items c ≡ ys)) (λ e. Contains x (Err e)) → IfOk r (λ v. AllZip R s (items v))
collects {S = S} {F = F} {E = E} R items s refs x (Ok v) e zip m =
    let here : AllZip (λ (b : Bor S) (q : Result F E). IfOk q (λ f. R b.now f)) refs (map Ok m.0) =
    subst (λ z. AllZip (λ (b : Bor S) (q : Result F E). IfOk q (λ f. R b.now f)) refs z) m.1 zip in
    rw m.2 (slice-AllZip refs s e R m.0 (oks E R refs m.0 here))
collects R items s refs x (Err q) e zip m = tt

-- the same where the closure gives what it is given
pub collects-same : {S E V : Type 0} (items : V → List S) (s : List S) (refs : List (Bor S)) (x : List (Result S E)) (r : Result V E)
    → map (λ (b : Bor S). b.now) refs ≡ s → AllZip (λ (b : Bor S) (q : Result S E). IfOk q (λ f. f ≡ b.now)) refs x
    → MatchResult r (λ c. (ys : List S) × (x ≡ map Ok ys) × (items c ≡ ys)) (λ e. Contains x (Err e)) → IfOk r (λ v. items v ≡ s)
collects-same items s refs x (Ok v) e zip m =
    same_from_all_zip (λ a b. b ≡ a) s (items v) (collects (λ a b. b ≡ a) items s refs x (Ok v) e zip m) (λ a b same. same)
collects-same items s refs x (Err q) e zip m = tt

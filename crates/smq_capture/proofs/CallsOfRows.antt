-- Rows come once, by whatever calls.
use Rattle.std.proofs.Common.{◌≡◌, ℕ, List, [], ◌∷◌, ◌++◌, map, refl, sym, ap, ◌∙◌, append_assoc, append-nil}
use Rattle.std.proofs.lemmas.List.{map-append}
use Rattle.smq_capture.specs.declared.direction.Direction.{Direction}
use Rattle.smq_capture.specs.declared.side.Side.{Side}
use Rattle.smq_capture.specs.Calls.{Become, Call, ComeOnce, OctetsStay, bare, octets_from, octets_of, rows_put, rows_taken}
use Rattle.smq_capture.specs.Calls.Call.{Puts, Settles, Takes}
use Rattle.smq_capture.specs.Rows.{AllSettle, Row}

bare-settled : (side : Side) (d : Direction) (rows now : List Row) → AllSettle side d rows now → map bare now ≡ map bare rows
bare-settled side d [] [] h = refl
bare-settled side d [] (u ∷ us) h = absurd h
bare-settled side d (r ∷ rs) [] h = absurd h
bare-settled side d (r ∷ rs) (u ∷ us) h =
    ap (λ (x : Row). bare x ∷ map bare us) h.0.after_is ∙ ap (λ (xs : List Row). bare r ∷ xs) (bare-settled side d rs us h.2)

stay : (calls : List Call) (before after : List Row) → Become calls before after
    → map bare (rows_taken calls ++ after) ≡ map bare (before ++ rows_put calls)
stay [] before after h = ap (λ (xs : List Row). map bare xs) (h ∙ sym (append-nil before))
stay (Puts row ∷ calls) before after h =
    stay calls (before ++ row ∷ []) after h
    ∙ ap (λ (xs : List Row). map bare xs) (append_assoc before (row ∷ []) (rows_put calls))
stay (Settles side d ∷ calls) before after h =
    stay calls h.0 after h.2
    ∙ map-append bare h.0 (rows_put calls)
    ∙ ap (λ (xs : List Row). xs ++ map bare (rows_put calls)) (bare-settled side d before h.0 h.1)
    ∙ sym (map-append bare before (rows_put calls))
stay (Takes row ∷ calls) before after h =
    ap (λ (xs : List Row). bare row ∷ xs) (stay calls h.0 after h.3)
    ∙ ap (λ (xs : List Row). map bare (xs ++ rows_put calls)) (sym h.2)

pub come-once : (calls : List Call) (rows : List Row) → Become calls [] rows → ComeOnce calls rows
come-once calls rows h = stay calls [] rows h

octets-append : (side : Side) (xs ys : List Row) → octets_of side (xs ++ ys) ≡ octets_of side xs ++ octets_of side ys
octets-append side [] ys = refl
octets-append side (x ∷ xs) ys =
    ap (λ (os : List ℕ). octets_from side x.sender x.octets ++ os) (octets-append side xs ys)
    ∙ sym (append_assoc (octets_from side x.sender x.octets) (octets_of side xs) (octets_of side ys))

octets-bare : (side : Side) (rows : List Row) → octets_of side (map bare rows) ≡ octets_of side rows
octets-bare side [] = refl
octets-bare side (r ∷ rs) = ap (λ (os : List ℕ). octets_from side r.sender r.octets ++ os) (octets-bare side rs)

pub octets-stay : (side : Side) (calls : List Call) (rows : List Row) → Become calls [] rows → OctetsStay side calls rows
octets-stay side calls rows h =
    sym (octets-append side (rows_taken calls) rows) ∙ sym (octets-bare side (rows_taken calls ++ rows))
    ∙ ap (λ (xs : List Row). octets_of side xs) (come-once calls rows h) ∙ octets-bare side (rows_put calls)

-- What a writer holds, and what waits to be written to it.
use Rattle.std.proofs.Common.{◌≡◌, ℕ, List, [], ◌∷◌, ◌++◌, sym, ◌∙◌, ap, append_assoc, append-nil}
use Rattle.std.specs.Prelude.{Option, None, Some}
use Rattle.std.specs.Io.KnownBytes.{Appends, Keeps, append_known}
use Rattle.smq_capture.specs.Rows as rows
use Rattle.smq_capture.specs.Row.{row_text}
use Rattle.smq_capture.specs.Written.{parts_text}

pub appends-put : (known : Option (List ℕ)) (text now more : List ℕ) → now ≡ text ++ more
    → Appends (append_known known text) (append_known known now) more
appends-put None text now more e = record {}
appends-put (Some xs) text now more e = ap (λ (t : List ℕ). xs ++ t) e ∙ sym (append_assoc xs text more)

pub appends-kept : (before between after : Option (List ℕ)) (more : List ℕ) → Appends before between more → Keeps between after
    → Appends before after more
appends-kept None between after more a k = record {}
appends-kept (Some xs) None after more a k = absurd a
appends-kept (Some xs) (Some ys) None more a k = absurd k
appends-kept (Some xs) (Some ys) (Some zs) more a k = k ∙ a

pub appends-none : (known : Option (List ℕ)) → Appends known known []
appends-none None = record {}
appends-none (Some xs) = sym (append-nil xs)

pub appends-then : (before between after : Option (List ℕ)) (one other : List ℕ) → Appends before between one → Appends between after other
    → Appends before after (one ++ other)
appends-then None between after one other a b = record {}
appends-then (Some xs) None after one other a b = absurd a
appends-then (Some xs) (Some ys) None one other a b = absurd b
appends-then (Some xs) (Some ys) (Some zs) one other a b =
    b ∙ ap (λ (t : List ℕ). t ++ other) a ∙ append_assoc xs one other

-- parts that are written one by one
pub parts-more : (link : ℕ) (row : rows.Row) (done : List rows.Part) (p : rows.Part)
    → parts_text link row (done ++ p ∷ []) ≡ parts_text link row done ++ row_text link p.session row.sender row.moment p.octets
parts-more link row [] p = append-nil (row_text link p.session row.sender row.moment p.octets)
parts-more link row (q ∷ qs) p =
    ap (λ (t : List ℕ). row_text link q.session row.sender row.moment q.octets ++ t) (parts-more link row qs p)
    ∙ sym (append_assoc (row_text link q.session row.sender row.moment q.octets) (parts_text link row qs)
    (row_text link p.session row.sender row.moment p.octets))

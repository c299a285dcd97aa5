-- The records of a text: there is one list of them.
use Rattle.std.proofs.Common.{◌≡◌, ◌==◌, ◌≤◌, ◌-◌, ℕ, zero, suc, List, [], ◌∷◌, ◌++◌, length, Bool, true, false, cond, Option, Some, None, refl, sym, ap, ◌∙◌, subst, arith}
use Rattle.std.proofs.lemmas.Option.{none-some, same_Some}
use Rattle.std.proofs.lemmas.Bool.{false≢true}
use Rattle.csv.specs.Machine.{Read, after_end, ends_at_end, ends_with, in_field, is_end, next_record, start_field, start_record, step, fields_after, field_after}
use Rattle.csv.specs.Reading.{AreRecords, Reached, default_config}
use Rattle.csv.specs.declared.parser.Terminator.TheVariants as term
use Rattle.csv.specs.declared.parser.State.{State}
use Rattle.csv.specs.declared.parser.State.TheVariants as st
use Rattle.csv.specs.declared.parser.Action.{Action}
use Rattle.csv.specs.declared.parser.Action.TheVariants as act

-- after the end of a record the text may end
abbrev pub Settles : State × Action → Type 0
Settles p = is_end p.1 ≡ true → ends_at_end p.0 ≡ false

-- what a test chooses settles where both choices do
choice : (b : Bool) (x y : State × Action) → Settles x → Settles y → Settles (cond b x y)
choice true x y p q = p
choice false x y p q = q

skips : (s : State) → Settles (s, act.Skip)
skips s e = absurd (false≢true e)

copies : (s : State) → Settles (s, act.Copy)
copies s e = absurd (false≢true e)

ends_field : (s : State) → Settles (s, act.EndField)
ends_field s e = absurd (false≢true e)

ends_record : (b : Bool) → Settles (cond b st.AfterCr st.StartRecord, act.EndRecord)
ends_record true e = refl
ends_record false e = refl

settles-in_field : (c : ℕ) → Settles (in_field default_config c)
settles-in_field c =
    choice (c == 44) (st.StartField, act.EndField) _ (ends_field st.StartField)
    (choice (ends_with term.CRLF c) (after_end term.CRLF c, act.EndRecord) (st.InField, act.Copy) (ends_record (c == 13)) (copies st.InField))

settles-start_field : (c : ℕ) → Settles (start_field default_config c)
settles-start_field c = choice (c == 34) (st.InQuoted, act.Skip) (in_field default_config c) (skips st.InQuoted) (settles-in_field c)

settles-start_record : (c : ℕ) → Settles (start_record default_config c)
settles-start_record c = choice (ends_with term.CRLF c) (st.StartRecord, act.Skip) (start_field default_config c)
    (skips st.StartRecord) (settles-start_field c)

pub settles-step : (s : State) (c : ℕ) → Settles (step default_config s c)
settles-step st.StartRecord c = settles-start_record c
settles-step st.StartField c = settles-start_field c
settles-step st.InField c = settles-in_field c
settles-step st.InQuoted c = choice (c == 34) (st.AfterQuote, act.Skip) (st.InQuoted, act.Copy) (skips st.AfterQuote) (copies st.InQuoted)
settles-step st.InEscape c = copies st.InQuoted
settles-step st.AfterQuote c = choice (c == 34) (st.InQuoted, act.Copy) (in_field default_config c) (copies st.InQuoted) (settles-in_field c)
settles-step st.InComment c = choice (c == 10) (st.StartRecord, act.Skip) (st.InComment, act.Skip) (skips st.StartRecord) (skips st.InComment)
settles-step st.AfterCr c = choice (c == 10) (st.StartRecord, act.Skip) (start_record default_config c) (skips st.StartRecord)
    (settles-start_record c)

-- a record takes some of the text, and where it ends the text may end
abbrev pub Takes : List ℕ → Read → Type 0
Takes xs p = (length p.2 ≤ length xs - 1) × (ends_at_end p.1 ≡ false)

pub next_record-takes : (s : State) (fields : List (List ℕ)) (field xs : List ℕ) (p : Read)
    → next_record default_config s fields field xs ≡ Some p → Takes xs p
unfolding next_record
next_record-takes s fields field [] p e = at_end (ends_at_end s) e
  where
    at_end : (b : Bool) → cond b (Some (fields ++ (field ∷ []), st.StartRecord, [])) None ≡ Some p → Takes [] p
    at_end true h = subst (Takes []) (same_Some _ _ h) (omega arith, refl)
    at_end false h = cc h
next_record-takes s fields field (c ∷ rest) p e =
    within (is_end (step default_config s c).1) refl e
    (next_record-takes (step default_config s c).0 (fields_after (step default_config s c).1 fields field)
    (field_after (step default_config s c).1 c field) rest p)
  where
    within : (b : Bool) → is_end (step default_config s c).1 ≡ b
        → cond b (Some (fields_after (step default_config s c).1 fields field, (step default_config s c).0, rest))
        (next_record default_config (step default_config s c).0 (fields_after (step default_config s c).1 fields field)
        (field_after (step default_config s c).1 c field) rest) ≡ Some p
        → (next_record default_config (step default_config s c).0 (fields_after (step default_config s c).1 fields field)
        (field_after (step default_config s c).1 c field) rest ≡ Some p
        → Takes rest p)
        → Takes (c ∷ rest) p
    within true b h more = subst (Takes (c ∷ rest)) (same_Some _ _ h) (omega arith, settles-step s c b)
    within false b h more = (let low = (more h).0 in omega (arith, low), (more h).1)

-- no record is left where the text ends and may end
pub next_record-end : (s : State) → ends_at_end s ≡ false → next_record default_config s [] [] [] ≡ None
unfolding next_record
next_record-end s h = rw h refl

-- each text has records, from each state in which it may end
pub AreRecords-exist : (n : ℕ) (s : State) (xs : List ℕ) → length xs ≤ n → ends_at_end s ≡ false
    → (records : List (List (List ℕ))) × AreRecords default_config s xs records
unfolding Reached
AreRecords-exist n s [] h e = ([], (s, [], (refl, refl), next_record-end s e))
AreRecords-exist zero s (c ∷ xs) h e = absurd (omega arith)
AreRecords-exist (suc n) s (c ∷ xs) h e = go (next_record default_config s [] [] (c ∷ xs)) refl (AreRecords-exist n)
  where
    go : (o : Option Read) → next_record default_config s [] [] (c ∷ xs) ≡ o
        → ((s2 : State) (ys : List ℕ) → length ys ≤ n → ends_at_end s2 ≡ false → (records : List (List (List ℕ)))
        × AreRecords default_config s2 ys records)
        → (records : List (List (List ℕ))) × AreRecords default_config s (c ∷ xs) records
    go None none more = ([], (s, c ∷ xs, (refl, refl), none))
    go (Some p) some more =
        let takes = next_record-takes s [] [] (c ∷ xs) p some in
        let (records, all) = more p.1 p.2 (omega (arith, takes.0)) takes.1 in
        (p.0 ∷ records, (all.0, all.1, (p, some, refl, all.2), all.3))

-- where records reach, the text may end
pub Reached-settles : (s : State) (xs : List ℕ) (records : List (List (List ℕ))) (s2 : State) (ys : List ℕ) → ends_at_end s ≡ false
    → Reached default_config s xs records s2 ys → ends_at_end s2 ≡ false
unfolding Reached
Reached-settles s xs [] s2 ys e h = ap ends_at_end (sym h.0) ∙ e
Reached-settles s xs (r ∷ rs) s2 ys e h = Reached-settles h.0.1 h.0.2 rs s2 ys (next_record-takes s [] [] xs h.0 h.1).1 h.3

-- records, and then the records of what is left
pub AreRecords-append : (s : State) (xs : List ℕ) (before after : List (List (List ℕ))) (s2 : State) (ys : List ℕ)
    → Reached default_config s xs before s2 ys → AreRecords default_config s2 ys after → AreRecords default_config s xs (before ++ after)
unfolding Reached
AreRecords-append s xs [] after s2 ys h more = rw (h.0, h.1) more
AreRecords-append s xs (r ∷ rs) after s2 ys h more =
    let rest = AreRecords-append h.0.1 h.0.2 rs after s2 ys h.3 more in
    (rest.0, rest.1, (h.0, h.1, h.2, rest.2), rest.3)

-- a text has no other records
pub AreRecords-unique : (s : State) (xs : List ℕ) (a b : List (List (List ℕ))) → AreRecords default_config s xs a
    → AreRecords default_config s xs b → a ≡ b
unfolding Reached
AreRecords-unique s xs [] [] h k = refl
AreRecords-unique s xs [] (q ∷ qs) h k =
    let none : next_record default_config s [] [] xs ≡ None = rw (h.2.0, h.2.1) h.3 in
    absurd (none-some _ (sym none ∙ k.2.1))
AreRecords-unique s xs (r ∷ rs) [] h k =
    let none : next_record default_config s [] [] xs ≡ None = rw (k.2.0, k.2.1) k.3 in
    absurd (none-some _ (sym none ∙ h.2.1))
AreRecords-unique s xs (r ∷ rs) (q ∷ qs) h k =
    let same : h.2.0 ≡ k.2.0 = same_Some _ _ (sym h.2.1 ∙ k.2.1) in
    let heads : r ≡ q = h.2.2 ∙ ap (λ (p : Read). p.0) same ∙ sym k.2.2 in
    let others = subst (λ (p : Read). AreRecords default_config p.1 p.2 qs) (sym same) (k.0, k.1, k.2.3, k.3) in
    let tails : rs ≡ qs = AreRecords-unique h.2.0.1 h.2.0.2 rs qs (h.0, h.1, h.2.3, h.3) others in
    cc

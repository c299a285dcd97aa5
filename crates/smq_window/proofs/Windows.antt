-- What is kept of connections by their sessions, as sessions leave and pieces come.
use Rattle.std.proofs.Common.{◌≡◌, ℕ, ◌/◌, ◌<◌, ◌≤◌, ◌⊎◌, Bool, true, false, cond, List, [], ◌∷◌, ◌++◌, Option, Some, None, unwrap_or, refl, sym, ap, subst, ◌∙◌, arith, ⊎_elim, eqb, ltb, append_assoc, append-nil}
use Rattle.std.proofs.lemmas.Bool.{cases_order, cases_lt, eqb-false, eqb-true, eq-eqb, ne_eqb, lt-ltb, le-ltb}
use Rattle.std.proofs.lemmas.Nat.{le-div}
use Rattle.std.proofs.Math.Nat.{div-mul-le_self}
use Rattle.std.specs.BTreeMap.{BTreeMap, get}
use Rattle.std.specs.Cmp.{nat_cmp_is}
use Rattle.std.specs.Ordering.{is_eq, nat_cmp}
use Rattle.std.specs.declared.cmp.Ordering.TheVariants.{Less, Equal, Greater}
use Rattle.smq_window.specs.declared.belief.Belief.{Belief}
use Rattle.smq_window.specs.declared.connection.Connection.{Connection}
use Rattle.smq_window.specs.declared.connection.Origin.{Origin}
use Rattle.smq_window.specs.declared.made.Made.{Made}
use Rattle.smq_window.specs.declared.periods.Period.{Period}
use Rattle.smq_window.specs.declared.row.Row.{Row}
use Rattle.smq_window.specs.Belief.{belief_after, is_doubted, later}
use Rattle.smq_window.specs.Connection.{ConnectionValue, new_connection}
use Rattle.smq_window.specs.Homes.{Homed}
use Rattle.smq_window.specs.Window.{connection_of, if_left, is_first, is_over, known_passed, known_without, left_of, made_passed, present_by, present_of, rows_of_left, rows_passed, rows_without, with_known, withdraw_row, without_first}
use Rattle.smq_window.specs.within.Kept.{IsKept}
use Rattle.smq_window.specs.within.Shown.{Shows}
use Rattle.smq_window.specs.within.Standing.{AllShown, IsFrom, Known, MayShow, Passes}

-- ---- later periods

kept-later : (pdus : List Homed) (oldest present older later : ℕ) (ps : List Period) → oldest ≤ older → present ≤ later → older ≤ later
    → IsKept pdus oldest present ps → IsKept pdus older later ps
kept-later pdus oldest present older later ps low high order kept =
    record {
      order = order;
      balances = λ q from asker number. kept.balances q (omega arith) asker number;
      ascend = kept.ascend;
      within = λ k d inside. let most = kept.within k d inside in omega arith;
    }

shows-later : (c : ConnectionValue) (oldest present older later : ℕ) (kept : Connection) → oldest ≤ older → present ≤ later → older ≤ later
    → Shows c oldest present kept → Shows c older later kept
shows-later c oldest present older later kept low high order shows =
    record {
      link = shows.link;
      client = shows.client;
      centre = shows.centre;
      periods = shows.periods;
      balances = kept-later c.pdus oldest present older later kept.periods.items low high order shows.balances;
    }

may-later : (c : Option ConnectionValue) (oldest present older later : ℕ) (kept : Option Connection) → oldest ≤ older → present ≤ later
    → older ≤ later → MayShow c oldest present kept → MayShow c older later kept
may-later None oldest present older later None low high order m = tt
may-later None oldest present older later (Some kept) low high order m = absurd m
may-later (Some c) oldest present older later None low high order m = absurd m
may-later (Some c) oldest present older later (Some kept) low high order m =
    shows-later c oldest present older later kept low high order m

pub all-later : (known : Known) (oldest present older later : ℕ) (kept : BTreeMap ℕ Connection) → oldest ≤ older → present ≤ later
    → older ≤ later → AllShown known oldest present kept → AllShown known older later kept
all-later known oldest present older later kept low high order all =
    record {
      each = λ s. may-later (known s) oldest present older later (get nat_cmp kept s) low high order (all.each s);
    }

-- the present period never falls
div-mono : (a b k : ℕ) → 0 < k → a ≤ b → a / k ≤ b / k
div-mono a b k some low = le-div (a / k) b k some (omega (arith, div-mul-le_self a k))

present-later : (step : ℕ) (newest : Option ℕ) (moment : ℕ) → 0 < step → present_by step newest ≤ present_by step (Some (later newest moment))
present-later step None moment some = omega arith
present-later step (Some newest) moment some =
    ⊎_elim
    (λ (below : newest < moment).
    subst (λ (b : Bool). newest / step ≤ cond b moment newest / step) (sym (lt-ltb newest moment below))
    (div-mono newest moment step some (omega arith)))
    (λ (above : moment ≤ newest).
    subst (λ (b : Bool). newest / step ≤ cond b moment newest / step) (sym (le-ltb newest moment above)) (omega arith))
    (cases_lt newest moment)

pub present-rises : (l : ℕ × ℕ) (belief : Belief) (moment : ℕ) → 0 < l.0 → present_of l belief ≤ present_of l (belief_after belief moment)
present-rises l belief moment some =
    at (is_doubted belief moment)
  where
    at : (b : Bool) → present_of l belief
        ≤ present_of l (cond b (record { newest = belief.newest; doubted = Some moment }) (record { newest = Some (later belief.newest moment); doubted = None }))
    at true = omega arith
    at false = present-later l.0 belief.newest moment some

-- ---- connections by their sessions

same-key : (k q : ℕ) → is_eq (nat_cmp k q) ≡ eqb k q
same-key k q =
    ⊎_elim
    (λ (e : k ≡ q). ap is_eq (sym (nat_cmp_is k q Equal e)) ∙ sym (eq-eqb k q e))
    (λ (ne : (k < q) ⊎ (q < k)).
    ⊎_elim
    (λ (below : k < q). ap is_eq (sym (nat_cmp_is k q Less below)) ∙ sym (ne_eqb k q (λ e. omega arith)))
    (λ (above : q < k). ap is_eq (sym (nat_cmp_is k q Greater above)) ∙ sym (ne_eqb k q (λ e. omega arith)))
    ne)
    (cases_order k q)

-- a map in which one session has what a connection shows, or nothing
pub all-set : (known : Known) (k : ℕ) (c : Option ConnectionValue) (v : Option Connection) (oldest present : ℕ) (before after : BTreeMap ℕ Connection)
    → ((q : ℕ) → get nat_cmp after q ≡ cond (is_eq (nat_cmp k q)) v (get nat_cmp before q))
    → ((q : ℕ) → (k ≡ q → ⊥) → MayShow (known q) oldest present (get nat_cmp before q))
    → MayShow c oldest present v → AllShown (with_known known k c) oldest present after
all-set known k c v oldest present before after updates others shown =
    record {
      each = λ q.
          subst (λ (x : Option Connection). MayShow (cond (eqb k q) c (known q)) oldest present x)
          (sym (updates q ∙ ap (λ (b : Bool). cond b v (get nat_cmp before q)) (same-key k q)))
          (at q (eqb k q) refl);
    }
  where
    at : (q : ℕ) (b : Bool) → eqb k q ≡ b → MayShow (cond b c (known q)) oldest present (cond b v (get nat_cmp before q))
    at q true e = shown
    at q false e = others q (eqb-false k q e)

-- the other sessions of a map in which one was set
pub others-shown : (known : Known) (k : ℕ) (c : Option ConnectionValue) (oldest present : ℕ) (kept : BTreeMap ℕ Connection)
    → AllShown (with_known known k c) oldest present kept → (q : ℕ) → (k ≡ q → ⊥) → MayShow (known q) oldest present (get nat_cmp kept q)
others-shown known k c oldest present kept all q apart =
    subst (λ (b : Bool). MayShow (cond b c (known q)) oldest present (get nat_cmp kept q)) (ne_eqb k q apart) (all.each q)

pub shown-none : (c : Option ConnectionValue) (oldest present : ℕ) → MayShow c oldest present None → c ≡ None
shown-none None oldest present m = refl
shown-none (Some c) oldest present m = absurd m

pub shown-some : (c : Option ConnectionValue) (oldest present : ℕ) (kept : Connection) → MayShow c oldest present (Some kept)
    → (d : ConnectionValue) × (c ≡ Some d) × Shows d oldest present kept
shown-some None oldest present kept m = absurd m
shown-some (Some c) oldest present kept m = (c, refl, m)

-- ---- sessions that leave one after the other

pub passes-more : (known : Known) (oldest present : ℕ) (made ms : List Made) (rows some more : List Row) (m : Made) (kept after : BTreeMap ℕ Connection)
    → m.period < oldest → (p : Passes known oldest present made rows kept (m ∷ ms) some)
    → AllShown (known_without m p.now) oldest present after → more ≡ some ++ rows_without m p.now
    → Passes known oldest present made rows after ms more
unfolding rows_passed known_passed made_passed
passes-more known oldest present made ms rows some more m kept after older p shown adds =
    let is : ltb m.period oldest ≡ true = lt-ltb m.period oldest older in
    record {
      now = known_without m p.now;
      shown = shown;
      adds = ap (λ (x : List Row). x ++ rows_passed oldest ms (known_without m p.now)) adds
          ∙ append_assoc some (rows_without m p.now) (rows_passed oldest ms (known_without m p.now))
          ∙ ap (λ (b : Bool). some ++ cond b (rows_without m p.now ++ rows_passed oldest ms (known_without m p.now)) []) (sym is)
          ∙ p.adds;
      passed = ap (λ (b : Bool). cond b (known_passed oldest ms (known_without m p.now)) p.now) (sym is) ∙ p.passed;
      stays = ap (λ (b : Bool). cond b (made_passed oldest ms) (m ∷ ms)) (sym is) ∙ p.stays;
    }

-- where the first isn't older, none leaves
stay : (oldest : ℕ) (made : List Made) (now : Known) → IsFrom oldest made
    → (rows_passed oldest made now ≡ []) × (known_passed oldest made now ≡ now) × (made_passed oldest made ≡ made)
unfolding rows_passed known_passed made_passed
stay oldest [] now from = (refl, refl, refl)
stay oldest (m ∷ ms) now from =
    let other : ltb m.period oldest ≡ false = le-ltb m.period oldest from in (
      ap (λ (b : Bool). cond b (rows_without m now ++ rows_passed oldest ms (known_without m now)) []) other,
      ap (λ (b : Bool). cond b (known_passed oldest ms (known_without m now)) now) other,
      ap (λ (b : Bool). cond b (made_passed oldest ms) (m ∷ ms)) other,
    )

pub passes-all : (known : Known) (oldest present : ℕ) (made left : List Made) (rows some : List Row) (kept : BTreeMap ℕ Connection)
    → IsFrom oldest left → Passes known oldest present made rows kept left some
    → AllShown (known_passed oldest made known) oldest present kept
    × (some ≡ rows ++ rows_passed oldest made known)
    × (left ≡ made_passed oldest made)
passes-all known oldest present made left rows some kept from p =
    let s = stay oldest left p.now from in (
      subst (λ (k : Known). AllShown k oldest present kept) (sym s.1 ∙ p.passed) p.shown,
      sym (append-nil some) ∙ ap (λ (x : List Row). some ++ x) (sym s.0) ∙ p.adds,
      sym s.2 ∙ p.stays,
    )

-- ---- a session that was made, as it is taken back

twice : {X : Type 0} (b : Bool) (v w x : X) → cond b v (cond b w x) ≡ cond b v x
twice true v w x = refl
twice false v w x = refl

-- taking out and putting in is putting in
pub set-twice : (n : ℕ) (v w : Option Connection) (before mid after : BTreeMap ℕ Connection)
    → ((q : ℕ) → get nat_cmp mid q ≡ cond (is_eq (nat_cmp n q)) w (get nat_cmp before q))
    → ((q : ℕ) → get nat_cmp after q ≡ cond (is_eq (nat_cmp n q)) v (get nat_cmp mid q))
    → (q : ℕ) → get nat_cmp after q ≡ cond (is_eq (nat_cmp n q)) v (get nat_cmp before q)
set-twice n v w before mid after first second q =
    second q ∙ ap (λ (x : Option Connection). cond (is_eq (nat_cmp n q)) v x) (first q) ∙ twice (is_eq (nat_cmp n q)) v w (get nat_cmp before q)

pub withdraw-some : (m : Made) (known : Known) (oldest present n : ℕ) (before after : BTreeMap ℕ Connection) (rows made : List Row)
    (kept : Connection) (left : Option Connection) → n ≡ m.session
    → Some kept ≡ get nat_cmp before n
    → ((q : ℕ) → get nat_cmp after q ≡ cond (is_eq (nat_cmp n q)) left (get nat_cmp before q))
    → AllShown known oldest present before
    → ((c : ConnectionValue) → Shows c oldest present kept → MayShow (left_of m.period (Some c)) oldest present left × (made ≡ rows ++ rows_of_left m (Some c)))
    → AllShown (known_without m known) oldest present after × (made ≡ rows ++ rows_without m known)
withdraw-some m known oldest present n before after rows made kept left same some updates all behind =
    let s = shown-some (known n) oldest present kept (subst (λ (v : Option Connection). MayShow (known n) oldest present v) (sym some) (all.each n)) in
    let there : known m.session ≡ Some s.0 = ap known (sym same) ∙ s.1 in
    let b = behind s.0 s.2 in (
      subst (λ (k : ℕ). AllShown (with_known known k (left_of m.period (known m.session))) oldest present after) same
          (all-set known n (left_of m.period (known m.session)) left oldest present before after updates (λ q apart. all.each q)
          (subst (λ (c : Option ConnectionValue). MayShow (left_of m.period c) oldest present left) (sym there) b.0)),
      b.1 ∙ ap (λ (c : Option ConnectionValue). rows ++ rows_of_left m c) (sym there),
    )

-- what is left of a connection: nothing, or what is kept
pub left-none : (m : Made) (c : ConnectionValue) (oldest present : ℕ) → is_first m.period c.periods ≡ true → is_over (without_first c) ≡ true
    → MayShow (left_of m.period (Some c)) oldest present None
left-none m c oldest present first over =
    subst (λ (x : Option ConnectionValue). MayShow x oldest present None)
    (sym (ap (λ (b : Bool). cond b (if_left (without_first c)) (Some c)) first ∙ ap (λ (b : Bool). cond b None (Some (without_first c))) over)) tt

pub left-some : (m : Made) (c : ConnectionValue) (oldest present : ℕ) (kept : Connection) → is_first m.period c.periods ≡ true
    → is_over (without_first c) ≡ false → Shows (without_first c) oldest present kept → MayShow (left_of m.period (Some c)) oldest present (Some kept)
left-some m c oldest present kept first over shows =
    subst (λ (x : Option ConnectionValue). MayShow x oldest present (Some kept))
    (sym (ap (λ (b : Bool). cond b (if_left (without_first c)) (Some c)) first ∙ ap (λ (b : Bool). cond b None (Some (without_first c))) over)) shows

pub left-all : (m : Made) (c : ConnectionValue) (oldest present : ℕ) (kept : Connection) → is_first m.period c.periods ≡ false
    → Shows c oldest present kept → MayShow (left_of m.period (Some c)) oldest present (Some kept)
left-all m c oldest present kept other shows =
    subst (λ (x : Option ConnectionValue). MayShow x oldest present (Some kept))
    (sym (ap (λ (b : Bool). cond b (if_left (without_first c)) (Some c)) other)) shows

pub row-first : (m : Made) (c : ConnectionValue) → is_first m.period c.periods ≡ true → rows_of_left m (Some c) ≡ withdraw_row m.session m.period ∷ []
row-first m c first = ap (λ (b : Bool). cond b (withdraw_row m.session m.period ∷ []) []) first

pub row-other : (m : Made) (c : ConnectionValue) → is_first m.period c.periods ≡ false → rows_of_left m (Some c) ≡ []
row-other m c other = ap (λ (b : Bool). cond b (withdraw_row m.session m.period ∷ []) []) other

-- ---- the connection of a piece

pub out-none : (at : Origin) (known : Known) (oldest present n : ℕ) (before after : BTreeMap ℕ Connection) (kept : Connection) → n ≡ at.session
    → None ≡ get nat_cmp before n
    → ((q : ℕ) → get nat_cmp after q ≡ cond (is_eq (nat_cmp n q)) None (get nat_cmp before q))
    → AllShown known oldest present before → Shows (new_connection at.link) oldest present kept
    → Shows (connection_of at known) oldest present kept × AllShown (with_known known at.session None) oldest present after
out-none at known oldest present n before after kept same none updates all new =
    let unknown : known at.session ≡ None =
    ap known (sym same) ∙ shown-none (known n) oldest present (subst (λ (v : Option Connection). MayShow (known n) oldest present v) (sym none) (all.each n)) in (
      subst (λ (c : Option ConnectionValue). Shows (unwrap_or c (new_connection at.link)) oldest present kept) (sym unknown) new,
      subst (λ (k : ℕ). AllShown (with_known known k None) oldest present after) same
          (all-set known n None None oldest present before after updates (λ q apart. all.each q) tt),
    )

pub put-in : (known : Known) (session n : ℕ) (d : ConnectionValue) (kept : Connection) (oldest present : ℕ) (before after : BTreeMap ℕ Connection)
    → n ≡ session → AllShown (with_known known session None) oldest present before
    → ((q : ℕ) → get nat_cmp after q ≡ cond (is_eq (nat_cmp n q)) (Some kept) (get nat_cmp before q))
    → Shows d oldest present kept → AllShown (with_known known session (Some d)) oldest present after
put-in known session n d kept oldest present before after same all updates shows =
    subst (λ (k : ℕ). AllShown (with_known known k (Some d)) oldest present after) same
    (all-set known n (Some d) (Some kept) oldest present before after updates
    (others-shown known n None oldest present before (subst (λ (k : ℕ). AllShown (with_known known k None) oldest present before) (sym same) all))
    shows)

-- where a session was not there, taking it out changes nothing
pub all-kept : (known : Known) (n oldest present : ℕ) (before after : BTreeMap ℕ Connection) → known n ≡ None
    → ((q : ℕ) → get nat_cmp after q ≡ cond (is_eq (nat_cmp n q)) None (get nat_cmp before q))
    → AllShown known oldest present before → AllShown known oldest present after
all-kept known n oldest present before after unknown updates all =
    record {
      each = λ q.
          subst (λ (x : Option Connection). MayShow (known q) oldest present x)
          (sym (updates q ∙ ap (λ (b : Bool). cond b None (get nat_cmp before q)) (same-key n q))) (at q (eqb n q) refl);
    }
  where
    at : (q : ℕ) (b : Bool) → eqb n q ≡ b → MayShow (known q) oldest present (cond b None (get nat_cmp before q))
    at q true e =
        subst (λ (c : Option ConnectionValue). MayShow c oldest present None) (sym (ap known (sym (eqb-true n q e)) ∙ unknown)) tt
    at q false e = all.each q

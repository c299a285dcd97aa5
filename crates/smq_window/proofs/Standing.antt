-- A window as it is kept, after the clock, a piece and a session that is taken back.
use Rattle.std.proofs.Common.{◌≡◌, ℕ, ◌-◌, ◌<◌, ◌≤◌, Bool, true, false, cond, List, [], ◌++◌, map, Option, Some, None, unwrap_or, refl, sym, ap, subst, ◌∙◌, arith}
use Rattle.std.specs.BTreeMap.{BTreeMap, get}
use Rattle.std.specs.Ordering.{is_eq, nat_cmp}
use Rattle.smq_kit.specs.declared.refusal.Refusal.{Refusal}
use Rattle.smq_kit.specs.Replies.{first_of}
use Rattle.smq_window.specs.declared.belief.Belief.{Belief}
use Rattle.smq_window.specs.declared.connection.Connection.{Connection}
use Rattle.smq_window.specs.declared.connection.Origin.{Origin}
use Rattle.smq_window.specs.declared.made.Made.{Made}
use Rattle.smq_window.specs.declared.row.Row.{Row}
use Rattle.smq_window.specs.declared.window.Window.{Window}
use Rattle.smq_window.specs.Belief.{belief_after, is_doubted, later, moment_taken}
use Rattle.smq_window.specs.Connection.{ConnectionValue, connection_after, direction_of, new_connection, rows_of_piece}
use Rattle.smq_window.specs.Window.{WindowValue, connection_of, known_passed, made_passed, made_with, oldest_of, origin_taken, piece_refusal, piece_refusals, present_of, rows_after, rows_at, rows_of_session, rows_passed, window_after, window_at, window_without, with_known, withdraw_row}
use Rattle.smq_window.specs.within.Kept.{numbers}
use Rattle.smq_window.specs.within.Shown.{Shows}
use Rattle.smq_window.specs.within.Standing.{AllShown, IsWindow, Known, MayShow}
use Rattle.smq_window.proofs.Windows.{all-kept, all-later, all-set, present-rises, shown-none, shown-some}

pub clock-window : (l : ℕ × ℕ) (w : WindowValue) (win after : Window) (moment oldest : ℕ) (rows : List Row) → 0 < l.0 → IsWindow l w win
    → after.length ≡ win.length → after.belief ≡ belief_after win.belief moment → oldest ≡ oldest_of win.length after.belief
    → ((known : Known) (present : ℕ) → AllShown known oldest present win.connections
    → AllShown (known_passed oldest win.made.items known) oldest present after.connections
    × (rows ≡ [] ++ rows_passed oldest win.made.items known)
    × (after.made.items ≡ made_passed oldest win.made.items))
    → (rows ≡ rows_at l moment w) × IsWindow l (window_at l moment w) after
clock-window l w win after moment oldest rows some is same belief old passed =
    let eb : after.belief ≡ belief_after w.belief moment = belief ∙ ap (λ (b : Belief). belief_after b moment) is.belief in
    let eo : oldest ≡ oldest_of l (belief_after w.belief moment) = old ∙ (λ i. oldest_of (is.length i) (eb i)) in
    let rises : present_of l w.belief ≤ present_of l (belief_after w.belief moment) = present-rises l w.belief moment some in
    let all : AllShown w.known (oldest_of l (belief_after w.belief moment)) (present_of l (belief_after w.belief moment)) win.connections =
    all-later w.known (oldest_of l w.belief) (present_of l w.belief) (oldest_of l (belief_after w.belief moment))
    (present_of l (belief_after w.belief moment)) win.connections (lower (present_of l w.belief) (present_of l (belief_after w.belief moment)) l.1 rises) rises
    (below (present_of l (belief_after w.belief moment)) l.1) is.known in
    let p = passed w.known (present_of l (belief_after w.belief moment))
    (subst (λ (o : ℕ). AllShown w.known o (present_of l (belief_after w.belief moment)) win.connections) (sym eo) all) in (
      p.1 ∙ (λ i. rows_passed (eo i) (is.made i) w.known),
      record {
        length = same ∙ is.length;
        belief = eb;
        made = p.2 ∙ (λ i. made_passed (eo i) (is.made i));
        known = subst (λ (ms : List Made). AllShown (known_passed (oldest_of l (belief_after w.belief moment)) ms w.known)
            (oldest_of l (belief_after w.belief moment)) (present_of l (belief_after w.belief moment)) after.connections) is.made
            (subst (λ (o : ℕ). AllShown (known_passed o win.made.items w.known) o (present_of l (belief_after w.belief moment)) after.connections) eo p.0);
      },
    )
  where
    lower : (a b k : ℕ) → a ≤ b → a - k ≤ b - k
    lower a b k h = omega arith

    below : (a k : ℕ) → a - k ≤ a
    below a k = omega arith

-- a doubted moment leaves the newest one that is believed
moment-same : (b : Belief) (m last : ℕ) (t : Bool) → is_doubted b m ≡ t
    → cond t (later (belief_after b m).newest last) m ≡ cond t (later b.newest last) m
moment-same b m last true e =
    ap (λ (x : Bool). later (cond {A = Belief} x (record { newest = b.newest; doubted = Some m }) (record { newest = Some (later b.newest m); doubted = None })).newest last) e
moment-same b m last false e = refl

pub taken-window : (l : ℕ × ℕ) (w : WindowValue) (p after : Window) (at : Origin) (octets : List ℕ) (moment oldest present last : ℕ) (t : Bool)
    (kept : Connection) (mid : BTreeMap ℕ Connection) (rows made : List Row)
    → rows ≡ rows_at l at.moment w → IsWindow l (window_at l at.moment w) p
    → oldest ≡ oldest_of p.length p.belief → present ≡ present_of p.length p.belief → oldest ≤ present
    → ((known : Known) (o q : ℕ) → o ≤ q → AllShown known o q p.connections
    → Shows (connection_of at known) o q kept × AllShown (with_known known at.session None) o q mid)
    → t ≡ is_doubted w.belief at.moment → moment ≡ cond t (later p.belief.newest last) at.moment
    → ((c : ConnectionValue) (o q : ℕ) → Shows c o q kept → last ≡ (direction_of at.sender c).last)
    → ((known : Known) (c : ConnectionValue) → Shows c oldest present kept → AllShown (with_known known at.session None) oldest present mid
    → AllShown (with_known known at.session (Some (connection_after (record at { moment = moment }) oldest present octets c))) oldest present after.connections
    × (made ≡ rows ++ rows_of_piece (record at { moment = moment }) oldest present octets c)
    × (after.made.items ≡ made_with p.made.items present at.session c.periods (connection_after (record at { moment = moment }) oldest present octets c).periods))
    → after.length ≡ p.length → after.belief ≡ p.belief
    → (made ≡ rows_after l at octets w) × IsWindow l (window_after l at octets w) after
taken-window l w p after at octets moment oldest present last t kept mid rows made is_rows is eo ep order out doubted em el put same belief =
    let W : WindowValue = window_at l at.moment w in
    let c : ConnectionValue = connection_of at W.known in
    let EO : oldest ≡ oldest_of l W.belief = eo ∙ (λ i. oldest_of (is.length i) (is.belief i)) in
    let EP : present ≡ present_of l W.belief = ep ∙ (λ i. present_of (is.length i) (is.belief i)) in
    let shown : AllShown W.known oldest present p.connections =
    subst (λ (o : ℕ). AllShown W.known o present p.connections) (sym EO)
    (subst (λ (q : ℕ). AllShown W.known (oldest_of l W.belief) q p.connections) (sym EP) is.known) in
    let o = out W.known oldest present order shown in
    let L : last ≡ (direction_of at.sender c).last = el c oldest present o.0 in
    let M : moment ≡ moment_taken w.belief at.moment (direction_of at.sender c).last =
    em ∙ (λ i. cond (doubted i) (later (is.belief i).newest (L i)) at.moment)
    ∙ moment-same w.belief at.moment (direction_of at.sender c).last (is_doubted w.belief at.moment) refl in
    let EA : record at { moment = moment } ≡ origin_taken w.belief at c = λ i. record at { moment = M i } in
    let ed : connection_after (record at { moment = moment }) oldest present octets c
    ≡ connection_after (origin_taken w.belief at c) (oldest_of l W.belief) (present_of l W.belief) octets c =
    λ i. connection_after (EA i) (EO i) (EP i) octets c in
    let d : ConnectionValue = connection_after (origin_taken w.belief at c) (oldest_of l W.belief) (present_of l W.belief) octets c in
    let pt = put W.known c o.0 o.1 in (
      pt.1 ∙ (λ i. is_rows i ++ rows_of_piece (EA i) (EO i) (EP i) octets c),
      record {
        length = same ∙ is.length;
        belief = belief ∙ is.belief;
        made = pt.2 ∙ (λ i. made_with (is.made i) (EP i) at.session c.periods (ed i).periods);
        known = subst (λ (q : ℕ). AllShown (with_known W.known at.session (Some d)) (oldest_of l W.belief) q after.connections) EP
            (subst (λ (x : ℕ). AllShown (with_known W.known at.session (Some d)) x present after.connections) EO
            (subst (λ (x : ConnectionValue). AllShown (with_known W.known at.session (Some x)) oldest present after.connections) ed pt.0));
      },
    )

-- ---- what is refused

pub refused-known : (l : ℕ × ℕ) (w : WindowValue) (win : Window) (at : Origin) (octets : List ℕ) (n : ℕ) (kept : Connection) (r : Option Refusal)
    → n ≡ at.session → Some kept ≡ get nat_cmp win.connections n → IsWindow l w win
    → ((c : ConnectionValue) (o q : ℕ) → Shows c o q kept → r ≡ first_of (piece_refusals at octets c))
    → r ≡ piece_refusal at octets w
refused-known l w win at octets n kept r same some is refusal =
    let s = shown-some (w.known n) (oldest_of l w.belief) (present_of l w.belief) kept
    (subst (λ (v : Option Connection). MayShow (w.known n) (oldest_of l w.belief) (present_of l w.belief) v) (sym some) (is.known.each n)) in
    let there : w.known at.session ≡ Some s.0 = ap w.known (sym same) ∙ s.1 in
    refusal s.0 (oldest_of l w.belief) (present_of l w.belief) s.2
    ∙ ap (λ (x : Option ConnectionValue). first_of (piece_refusals at octets (unwrap_or x (new_connection at.link)))) (sym there)

pub refused-new : (l : ℕ × ℕ) (w : WindowValue) (win : Window) (at : Origin) (octets : List ℕ) (n : ℕ) (kept : Connection) (r : Option Refusal)
    → n ≡ at.session → None ≡ get nat_cmp win.connections n → IsWindow l w win
    → ((o q : ℕ) → o ≤ q → Shows (new_connection at.link) o q kept)
    → ((c : ConnectionValue) (o q : ℕ) → Shows c o q kept → r ≡ first_of (piece_refusals at octets c))
    → r ≡ piece_refusal at octets w
refused-new l w win at octets n kept r same none is new refusal =
    let unknown : w.known at.session ≡ None =
    ap w.known (sym same) ∙ shown-none (w.known n) (oldest_of l w.belief) (present_of l w.belief)
    (subst (λ (v : Option Connection). MayShow (w.known n) (oldest_of l w.belief) (present_of l w.belief) v) (sym none) (is.known.each n)) in
    refusal (new_connection at.link) 0 0 (new 0 0 (omega arith))
    ∙ ap (λ (x : Option ConnectionValue). first_of (piece_refusals at octets (unwrap_or x (new_connection at.link)))) (sym unknown)

-- ---- a session that is taken back

pub session-none : (l : ℕ × ℕ) (w : WindowValue) (win after : Window) (session n : ℕ) → n ≡ session → None ≡ get nat_cmp win.connections n
    → IsWindow l w win
    → ((q : ℕ) → get nat_cmp after.connections q ≡ cond (is_eq (nat_cmp n q)) None (get nat_cmp win.connections q))
    → after.length ≡ win.length → after.belief ≡ win.belief → after.made.items ≡ win.made.items
    → (w.known session ≡ None) × IsWindow l w after
session-none l w win after session n same none is updates len belief made =
    let unknown : w.known n ≡ None =
    shown-none (w.known n) (oldest_of l w.belief) (present_of l w.belief)
    (subst (λ (v : Option Connection). MayShow (w.known n) (oldest_of l w.belief) (present_of l w.belief) v) (sym none) (is.known.each n)) in (
      ap w.known (sym same) ∙ unknown,
      record {
        length = len ∙ is.length;
        belief = belief ∙ is.belief;
        made = made ∙ is.made;
        known = all-kept w.known n (oldest_of l w.belief) (present_of l w.belief) win.connections after.connections unknown updates is.known;
      },
    )

pub session-some : (l : ℕ × ℕ) (w : WindowValue) (win after : Window) (session n : ℕ) (kept : Connection) (rows : List Row) → n ≡ session
    → Some kept ≡ get nat_cmp win.connections n → IsWindow l w win
    → ((q : ℕ) → get nat_cmp after.connections q ≡ cond (is_eq (nat_cmp n q)) None (get nat_cmp win.connections q))
    → rows ≡ map (withdraw_row session) (numbers kept.periods.items)
    → after.length ≡ win.length → after.belief ≡ win.belief → after.made.items ≡ win.made.items
    → (w.known session ≡ None → ⊥) × (rows ≡ rows_of_session session (w.known session)) × IsWindow l (window_without session w) after
session-some l w win after session n kept rows same some is updates is_rows len belief made =
    let s = shown-some (w.known n) (oldest_of l w.belief) (present_of l w.belief) kept
    (subst (λ (v : Option Connection). MayShow (w.known n) (oldest_of l w.belief) (present_of l w.belief) v) (sym some) (is.known.each n)) in
    let there : w.known session ≡ Some s.0 = ap w.known (sym same) ∙ s.1 in
    let shows : Shows s.0 (oldest_of l w.belief) (present_of l w.belief) kept = s.2 in (
      (λ none. some-none s.0 (sym there ∙ none)),
      is_rows ∙ ap (λ (ns : List ℕ). map (withdraw_row session) ns) shows.periods
          ∙ ap (λ (x : Option ConnectionValue). rows_of_session session x) (sym there),
      record {
        length = len ∙ is.length;
        belief = belief ∙ is.belief;
        made = made ∙ is.made;
        known = subst (λ (k : ℕ). AllShown (with_known w.known k None) (oldest_of l w.belief) (present_of l w.belief) after.connections) same
            (all-set w.known n None None (oldest_of l w.belief) (present_of l w.belief) win.connections after.connections updates (λ q apart. is.known.each q) tt);
      },
    )
  where
    some-none : (c : ConnectionValue) → Some c ≡ None → ⊥
    some-none c e = absurd cc

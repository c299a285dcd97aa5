use Rattle.std.proofs.Common.{◌≡◌, ◌+◌, ◌-◌, ◌*◌, ◌/◌, ◌%◌, ◌≤◌, List, Some, length, ap, ◌∙◌, sym, refl, arith}
use Rattle.std.specs.List.{slice_get}
use Rattle.std.proofs.lemmas.Option.{slice_get_read}
use Rattle.smq_desk.specs.declared.entry.Entry.{Entry}
use Rattle.smq_desk.proofs.Chunking.{in_chunk, after_chunks, found}
use Rattle.smq_desk.proofs.history.History.get.Goals as goal

pub returns-in-Some : goal.returns-in-Some
returns-in-Some c =
    let cs = c.self.inside.sealed.items in
    let rest = c.self.inside.rest.items in
    let all = c.args.self.now.entries in
    let n = c.in_ok-index.index in
    let chunk = c.in-Some.chunk.now in
    let told = c.in-Some.ensures.lookup in
    let at = slice_get_read c.deref.result.now (length c.deref.result.now) (n / 1024) chunk refl told.3.0 told.1 in
    let one : slice_get cs (n / 1024) ≡ Some chunk = ap (λ xs. slice_get xs (n / 1024)) (sym c.deref.ensures.value) ∙ at in
    let here = in_chunk cs rest (n / 1024) (n % 1024) n chunk c.self.invariant.0 one (omega arith) (omega arith) in
    let part : slice_get all n ≡ slice_get c.entries.result.now (n % 1024) =
    ap (λ h. slice_get h.entries n) (sym c.self.view_is) ∙ here
    ∙ ap (λ (es : List Entry). slice_get es (n % 1024)) (sym (c.entries.ensures.value ∙ c.deref-in-Some.ensures)) in
    found all c.entries.result.now c.args.number n (n % 1024) c.get-in-Some.result (omega (arith, c.in_ok-index.ensures)) part c.get-in-Some.ensures.lookup

pub returns-in-None : goal.returns-in-None
returns-in-None c =
    let cs = c.self.inside.sealed.items in
    let rest = c.self.inside.rest.items in
    let all = c.args.self.now.entries in
    let n = c.in_ok-index.index in
    let past : length c.deref.result.now ≤ n / 1024 = c.in-None.ensures.lookup.3 in
    let place = n - c.len.result * 1024 in
    let beyond : n ≡ 1024 * length cs + place =
    omega (arith, past, ap length c.deref.ensures.value, c.len.ensures, c.self.inside.sealed.ok) in
    let part : slice_get all n ≡ slice_get c.deref-in-None.result.now place =
    ap (λ h. slice_get h.entries n) (sym c.self.view_is) ∙ after_chunks cs rest n place c.self.invariant.0 beyond
    ∙ ap (λ (es : List Entry). slice_get es place) (sym c.deref-in-None.ensures.value) in
    found all c.deref-in-None.result.now c.args.number n place c.get-in-None.result (omega (arith, c.in_ok-index.ensures)) part c.get-in-None.ensures.lookup

-- The parts of a line that is put together.
use Rattle.std.proofs.Common.{◌≡◌, ℕ, List, ◌++◌, Result, Ok, Err, IfOk, append_assoc, ap, ◌∙◌}
use Rattle.std.specs.Prelude.{codes, decimal}
use Rattle.smq_kit.specs.declared.message_id.Form.{Form}
use Rattle.smq_kit.specs.declared.names.LinkId.{LinkId}
use Rattle.smq_deal.specs.Texts.{form_name, form_row, window_row}

-- a line is another text that is the same
pub line_is : {T E : Type 0} (r : Result T E) (text : T → List ℕ) (a b : List ℕ) → IfOk r (λ line. text line ≡ a) → a ≡ b
    → IfOk r (λ line. text line ≡ b)
line_is (Ok line) text a b h same = h ∙ same
line_is (Err e) text a b h same = tt

-- five texts, joined from the right and from the left
join-five : (a b c d e : List ℕ) → a ++ (b ++ (c ++ (d ++ e))) ≡ a ++ b ++ c ++ d ++ e
join-five a b c d e = simp append_assoc

-- seven
join-seven : (a b c d e f g : List ℕ) → a ++ (b ++ (c ++ (d ++ (e ++ (f ++ g))))) ≡ a ++ b ++ c ++ d ++ e ++ f ++ g
join-seven a b c d e f g = simp append_assoc

pub window-parts : (link : LinkId) (window milliseconds : ℕ) → milliseconds ≡ window
    → codes "window," ++ (decimal link.0 ++ (codes "," ++ (decimal milliseconds ++ codes "\n"))) ≡ window_row (link, window)
window-parts link window milliseconds same =
    join-five (codes "window,") (decimal link.0) (codes ",") (decimal milliseconds) (codes "\n")
    ∙ ap (λ (n : ℕ). window_row (link, n)) same

pub form-parts : (link : LinkId) (response receipt : Form) (one other : List ℕ) → one ≡ form_name response → other ≡ form_name receipt
    → codes "form," ++ (decimal link.0 ++ (codes "," ++ (one ++ (codes "," ++ (other ++ codes "\n")))))
    ≡ form_row (link, (response, receipt))
form-parts link response receipt one other first second =
    join-seven (codes "form,") (decimal link.0) (codes ",") one (codes ",") other (codes "\n")
    ∙ ap (λ (t : List ℕ). codes "form," ++ decimal link.0 ++ codes "," ++ t ++ codes "," ++ other ++ codes "\n") first
    ∙ ap (λ (t : List ℕ). codes "form," ++ decimal link.0 ++ codes "," ++ form_name response ++ codes "," ++ t ++ codes "\n") second

-- `==` of forms and of edits.
use Rattle.std.specs.Prelude.{Bool}
use Rattle.smq_present.specs.declared.present.edit.Edit.{Edit}
use Rattle.smq_present.specs.declared.present.forms.Forms.{Forms}
use Rattle.smq_present.specs.contracts.present.edit.EditPartialEq.TheImpl as edit_block
use Rattle.smq_present.specs.contracts.present.forms.FormsPartialEq.TheImpl as forms_block

-- `==` of forms
abbrev pub forms_eq : Forms → Forms → Bool
forms_eq = (forms_block.ghosts).eq

-- `==` of edits
abbrev pub edits_eq : Edit → Edit → Bool
edits_eq = (edit_block.ghosts).eq

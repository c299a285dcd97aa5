use Rattle.std.proofs.Common.{◌≡◌, length}
use Rattle.csv.specs.Records.{fields_of}
use Rattle.smq_load.proofs.RecordLemmas.{drop-two, drop-three, drop-four, drop-five, drop-six}
use Rattle.smq_load.proofs.record.read_fields.Goals as goal

pub returns-in-Piece : goal.returns-in-Piece
returns-in-Piece c =
    let fields = fields_of c.args.fields.now in
    let count : length fields ≡ 6 = rw c.in-Piece.is at c.requires in
    let parts = drop-six fields c.field.result.now c.field-in-Piece.result.now c.field-in-Piece-2.result.now
    c.field-in-Piece-3.result.now c.field-in-Piece-4.result.now count c.field.ensures c.field-in-Piece.ensures
    c.field-in-Piece-2.ensures c.field-in-Piece-3.ensures c.field-in-Piece-4.ensures in
    rw (c.in-Piece.is, parts) c.read_piece.ensures

pub returns-in-Withdraw : goal.returns-in-Withdraw
returns-in-Withdraw c =
    let fields = fields_of c.args.fields.now in
    let count : length fields ≡ 2 = rw c.in-Withdraw.is at c.requires in
    let parts = drop-two fields c.field-in-Withdraw.result.now count c.field-in-Withdraw.ensures in
    rw (c.in-Withdraw.is, parts) c.read_withdraw.ensures

pub returns-in-Form : goal.returns-in-Form
returns-in-Form c =
    let fields = fields_of c.args.fields.now in
    let count : length fields ≡ 4 = rw c.in-Form.is at c.requires in
    let parts = drop-four fields c.field-in-Form.result.now c.field-in-Form-2.result.now c.field-in-Form-3.result.now count
    c.field-in-Form.ensures c.field-in-Form-2.ensures c.field-in-Form-3.ensures in
    rw (c.in-Form.is, parts) c.read_forms.ensures

pub returns-in-Window : goal.returns-in-Window
returns-in-Window c =
    let fields = fields_of c.args.fields.now in
    let count : length fields ≡ 3 = rw c.in-Window.is at c.requires in
    let parts = drop-three fields c.field-in-Window.result.now c.field-in-Window-2.result.now count c.field-in-Window.ensures
    c.field-in-Window-2.ensures in
    rw (c.in-Window.is, parts) c.read_link_window.ensures

pub returns-in-Route : goal.returns-in-Route
returns-in-Route c =
    let fields = fields_of c.args.fields.now in
    let count : length fields ≡ 5 = rw c.in-Route.is at c.requires in
    let parts = drop-five fields c.field-in-Route.result.now c.field-in-Route-2.result.now c.field-in-Route-3.result.now
    c.field-in-Route-4.result.now count c.field-in-Route.ensures c.field-in-Route-2.ensures c.field-in-Route-3.ensures
    c.field-in-Route-4.ensures in
    rw (c.in-Route.is, parts) c.read_added.ensures

pub returns-in-End : goal.returns-in-End
returns-in-End c =
    let fields = fields_of c.args.fields.now in
    let count : length fields ≡ 4 = rw c.in-End.is at c.requires in
    let parts = drop-four fields c.field-in-End.result.now c.field-in-End-2.result.now c.field-in-End-3.result.now count
    c.field-in-End.ensures c.field-in-End-2.ensures c.field-in-End-3.ensures in
    rw (c.in-End.is, parts) c.read_end.ensures

pub returns-in-Correct : goal.returns-in-Correct
returns-in-Correct c =
    let fields = fields_of c.args.fields.now in
    let count : length fields ≡ 5 = rw c.in-Correct.is at c.requires in
    let parts = drop-five fields c.field-in-Correct.result.now c.field-in-Correct-2.result.now c.field-in-Correct-3.result.now
    c.field-in-Correct-4.result.now count c.field-in-Correct.ensures c.field-in-Correct-2.ensures c.field-in-Correct-3.ensures
    c.field-in-Correct-4.ensures in
    rw (c.in-Correct.is, parts) c.read_corrected.ensures

pub returns-in-Clock : goal.returns-in-Clock
returns-in-Clock c =
    let fields = fields_of c.args.fields.now in
    let count : length fields ≡ 2 = rw c.in-Clock.is at c.requires in
    let parts = drop-two fields c.field-in-Clock.result.now count c.field-in-Clock.ensures in
    rw (c.in-Clock.is, parts) c.read_clock.ensures

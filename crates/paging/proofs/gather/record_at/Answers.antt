use Rattle.std.proofs.Common.{◌≡◌, ℕ, List, [], get_or, unwrap_or, sym, ap, ◌∙◌}
use Rattle.records.specs.Items.{records_in}
use Rattle.records.specs.Records.{is_record}
use Rattle.records.proofs.Itemized.{get_or-records_in}
use Rattle.paging.proofs.gather.record_at.Goals as goal

pub returns-in_err-item : goal.returns-in_err-item
returns-in_err-item c =
    let xs = c.args.block.now in
    let none : get_or (records_in xs) c.args.n [] ≡ [] = get_or-records_in xs c.args.n c.requires ∙ ap (λ o. unwrap_or {T = List ℕ} o []) (sym c.in_err-item.ensures) in
    rw c.from_residual.ensures (ap is_record none)

pub returns-in_err-read_record : goal.returns-in_err-read_record
returns-in_err-read_record c =
    let xs = c.args.block.now in
    let same = get_or-records_in xs c.args.n c.requires ∙ ap (λ o. unwrap_or {T = List ℕ} o []) (sym c.in_ok-item.ensures) in
    rw c.from_residual-in_err-read_record.ensures (ap is_record same ∙ c.in_err-read_record.ensures)

pub returns : goal.returns
returns c =
    let xs = c.args.block.now in
    sym (get_or-records_in xs c.args.n c.requires ∙ ap (λ o. unwrap_or {T = List ℕ} o []) (sym c.in_ok-item.ensures))

use Rattle.std.proofs.Common.{◌-◌, sym, ◌∙◌, arith}
use Rattle.std.proofs.lemmas.Bool.{eq-eqb, ne_eqb, eqb-true, both_ways}
use Rattle.header.specs.Headers.{LawfulAt}
use Rattle.header.proofs.RunsLaws.{run_beside, same_beside, next_told}
use Rattle.header.proofs.law.is_lawful_at.Goals as goal
use Rattle.header.proofs.law.is_lawful_at.Goals.{then-slots-s, else-slots-s}

pub returns-then-room-gt7 : goal.returns-then-room-gt7
returns-then-room-gt7 c = next_told _ _ _ _ (omega arith) (λ before. (λ e. absurd (cc), λ here. absurd (omega arith)))

pub returns-then-s-room : goal.returns-then-s-room
returns-then-s-room c =
    let slots = c.args.slots.now in
    let rooms = c.args.rooms.now in
    let s = c.args.s in
    let near = c.if-s-room.true in
    next_told _ _ _ _ (omega arith)
    (λ lawful.
    let before : LawfulAt slots rooms (s - 1) = lawful (s - 1) (omega arith) in
    elim c.if-slots-s.branch [
      | then-slots-s w ↦ (
        λ e. run_beside slots rooms s (s - 1) near before w.if-slots-s.true (eqb-true _ _ (sym w.result-is ∙ e)),
        λ here. w.result-is ∙ eq-eqb _ _ (same_beside slots rooms s (s - 1) (omega arith) near before here).1,
      )
      | else-slots-s w ↦ (
        λ e. absurd (both_ways _ (w.result-is ∙ ne_eqb _ _ w.if-slots-s.false) e),
        λ here. absurd (w.if-slots-s.false (same_beside slots rooms s (s - 1) (omega arith) near before here).0),
      )
    ])

pub returns : goal.returns
returns c = next_told _ _ _ _ (omega arith) (λ before. (λ e. (omega arith, c.is_run.ensures.0 e), λ here. c.is_run.ensures.1 here.1))

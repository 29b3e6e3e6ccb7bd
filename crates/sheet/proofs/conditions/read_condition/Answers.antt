use Rattle.std.proofs.Common.{◌/◌, cond, length, [], Some, None, sym, ap, ◌∙◌, arith}
use Rattle.std.proofs.lemmas.Bool.{lt-ltb}
use Rattle.sheet.specs.Conditions.{condition_at}
use Rattle.sheet.proofs.Chunks.{condition_alone}
use Rattle.sheet.proofs.conditions.read_condition.Goals as goal

pub returns : goal.returns
returns c =
    let cs = c.args.section.now in
    let k = c.args.index in
    let found = c.in_ok-record.ensures.lookup.3 in
    ap Some (c.condition.ensures ∙ (ap (λ r. condition_at r 0) (found.1 []) ∙ condition_alone cs c.as_chunks.result.0.now c.as_chunks.ensures.front k (omega arith))) ∙ sym (ap (λ b. cond b (Some (condition_at cs k)) None) (lt-ltb k (length cs / 4) (omega arith)))

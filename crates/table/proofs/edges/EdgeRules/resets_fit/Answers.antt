use Rattle.std.proofs.Common.{◌^◌, ◌<◌, ◌≤◌, sym, ◌∙◌, arith, pow_mono}
use Rattle.std.proofs.lemmas.Bool.{lt-ltb, le-leb}
use Rattle.table.proofs.edges.EdgeRules.resets_fit.Goals as goal

pub returns-then-self-ge8 : goal.returns-then-self-ge8
returns-then-self-ge8 c =
    let clocks = c.args.self.clocks in
    let p : 2 ^ 8 ≤ 2 ^ clocks = pow_mono c.if-self-ge8.true in
    let lt : c.args.resets < 2 ^ clocks = omega arith in
    le-leb 8 clocks c.if-self-ge8.true ∙ sym (lt-ltb c.args.resets (2 ^ clocks) lt)

use Rattle.std.proofs.Common.{◌+◌, ap, ◌∙◌, arith}
use Rattle.sheet.specs.Conditions.{condition_told}
use Rattle.device_sheet.proofs.Lawfuls.{edge_at_fits}
use Rattle.table.proofs.Guards.{edge_within, condition_past, condition_some}
use Rattle.table.proofs.answers.TableDevice.condition.Goals as goal

pub returns-then-place-from : goal.returns-then-place-from
returns-then-place-from c =
    let t = c.args.self.now in
    condition_past t.nodes t.start t.clocks t.constant t.edges.now t.conditions.now c.args.number c.in_ok-edge.edge c.in_ok-edge.ensures c.args.place (omega arith)

pub returns : goal.returns
returns c =
    let t = c.args.self.now in
    let es = t.edges.now in
    let cs = t.conditions.now in
    let e = c.args.number in
    let found = c.in_ok-edge.ensures in
    let within = edge_within t.nodes t.start t.clocks t.constant es cs e c.in_ok-edge.edge found in
    let fits = edge_at_fits t.nodes t.start t.clocks t.constant es cs t.numbers t.few t.records e within in
    c.read_condition.ensures ∙ (ap (λ first. condition_told cs (first + c.args.place)) c.from-2.ensures ∙ condition_some t.nodes t.start t.clocks t.constant es cs e c.in_ok-edge.edge found c.args.place (omega arith) fits.last)

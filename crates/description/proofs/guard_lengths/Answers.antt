use Rattle.std.proofs.Common.{◌<◌, ◌^◌, List, sum_by, rules, refl, ◌∙◌, arith}
use Rattle.std.specs.List.{filter_map, range_with_len}
use Rattle.std.proofs.lemmas.Iterator.{YieldsList-from_range, YieldsList-from_map}
use Rattle.std.proofs.lemmas.Iterator.Consumers.{YieldsList-at, YieldsList-from_filter_map, sum_by_from_yields_List, fits_by_from_yields_list}
use Rattle.device.specs.declared.Edge.{Edge}
use Rattle.device.specs.Meaning.{edge_of}
use Rattle.description.proofs.Totals.{lengths_added, lengths_fit}
use Rattle.description.proofs.guard_lengths.Goals as goal

pub sum-requires-clause-fits : goal.sum-requires-clause-fits
sum-requires-clause-fits g c =
    let m = g.D.Device.meaning c.args.device.now in
    let told : List Edge = filter_map (edge_of m) (range_with_len 0 c.args.edges) in
    let fits : sum_by (λ e. e.conditions) told < 2 ^ 64 = omega (arith, lengths_added m 0 c.args.edges, lengths_fit m (g.D.Device.lawful c.args.device.now) 0 c.args.edges) in
    fits_by_from_yields_list (λ e. e.conditions) told c.map.result (2 ^ 64) (YieldsList-from_map _ (λ e. e.conditions) (YieldsList-at c.map.ensures.source (YieldsList-from_filter_map _ (edge_of m) (YieldsList-at c.filter_map.ensures.source (YieldsList-from_range 0 c.args.edges c.args.edges refl (omega arith))) c.filter_map.ensures.closure (λ x r q k. search rules))) c.map.ensures.closure (λ x r q k. search rules)) fits

pub returns : goal.returns
returns g c =
    let m = g.D.Device.meaning c.args.device.now in
    let told : List Edge = filter_map (edge_of m) (range_with_len 0 c.args.edges) in
    sum_by_from_yields_List (λ e. e.conditions) told c.map.result _ c.sum.ensures.ran (YieldsList-from_map _ (λ e. e.conditions) (YieldsList-at c.map.ensures.source (YieldsList-from_filter_map _ (edge_of m) (YieldsList-at c.filter_map.ensures.source (YieldsList-from_range 0 c.args.edges c.args.edges refl (omega arith))) c.filter_map.ensures.closure (λ x r q k. search rules))) c.map.ensures.closure (λ x r q k. search rules)) ∙ lengths_added m 0 c.args.edges

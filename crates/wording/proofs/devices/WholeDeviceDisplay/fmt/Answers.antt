use Rattle.std.proofs.Common.{◌≡◌, ℕ, List, Option, None, Some, option_map, rules, refl}
use Rattle.std.proofs.Output.{has_written_append, has_written_of_eq}
use Rattle.device.specs.declared.Edge.{Edge}
use Rattle.device.specs.Meaning.{Meaning, edge_of}
use Rattle.wording.specs.Devices.{edge_line, edge_text}
use Rattle.wording.proofs.Texts.{told_text, told_written}
use Rattle.wording.proofs.devices.WholeDeviceDisplay.fmt.Goals as goal

edge_told : {A : Type 0} (m : Meaning) (e : ℕ) (text : A → List ℕ) (numbered : Edge → A) → ((x : Edge) → text (numbered x) ≡ edge_line m e (Some x)) → (o : Option Edge) → told_text text (option_map numbered o) ≡ edge_line m e o
edge_told m e text numbered is None = refl
edge_told m e text numbered is (Some x) = is x

pub returns-clause-writes : goal.returns-clause-writes
returns-clause-writes g c =
    λ plain ok.
    let m = g.D.Device.meaning c.args.self.now.0.now in
    let head = c.in_ok-writeln.ensures.writes plain refl in
    let edges = told_written _ _ _ (λ x. edge_line (g.D.Device.meaning x.device.now) x.number (Some x.edge)) (λ e. option_map (λ x. record { device = c.args.self.now.0; number = e; edge = x }) (edge_of m e)) (edge_text m) c.number-edges.result _ _ _ c.filter_map.ensures.source c.filter_map.ensures.closure (λ x r q k. search rules) (λ e. edge_told m e _ _ (λ x. refl) (edge_of m e)) (λ x. refl) c.write_each.ensures head.plain ok in
    has_written_of_eq _ _ _ _ _ (cc) (has_written_append _ _ _ _ _ _ head edges)

-- The frame of rational time: a node with a valuation of the device's and the property's clocks.
use Rattle.std.specs.Prelude.{ℕ, ◌+◌}
use Rattle.device.specs.Meaning.{Meaning}
use Rattle.device.specs.Terms.{renumbered}
use Rattle.region.specs.Valuations.{Valuation, zero_valuation, reset}
use Rattle.region.specs.Conditions.{holds}
use Rattle.region.specs.TimedSteps.{State, DelayStep, ActionStep}
use Rattle.semantics.specs.Frames.{Frame}

abbrev pub state : ℕ → Valuation → State
state n v = record { node = n; valuation = v }

-- clock c of the property is clock (device clocks + c), in resets and in conditions
abbrev pub rational_time : Meaning → Frame
rational_time m = record {
  Point = State;
  Delay = DelayStep;
  Act = ActionStep m;
  reset = λ c x. state x.node (reset (m.clocks + c) x.valuation);
  test = λ c x. holds (renumbered m.clocks c) x.valuation;
}

-- the start node, with every clock at 0
abbrev pub start_state : Meaning → State
start_state m = state m.start zero_valuation

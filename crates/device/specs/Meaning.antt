-- What a device means: six numbers, and its edges by number; and the limits that every meaning keeps.
use Rattle.std.specs.Prelude.{◌≡◌, ℕ, ◌^◌, ◌<◌, ◌≤◌, List, length, Some, None, Option, refl}
use Rattle.std.proofs.Common.{arith}
use Rattle.std.specs.List.{slice_get}
use Rattle.device.specs.Terms.{Condition, ClockSet, ConditionLawful}
pub use Rattle.device.specs.declared.Edge.{Edge}
pub use Rattle.device.specs.declared.Number.{Number}
pub use Rattle.device.specs.declared.Number.TheVariants.{Nodes, Start, Clocks, LargestConstant, MostConditions, EdgeNumbers}

-- an edge as it is meant, with its guard written out
pub record Transition : Type 0 where
  pub source : ℕ
  pub target : ℕ
  pub action : ℕ
  pub resets : ClockSet
  pub guard : List Condition

pub record Meaning : Type 0 where
  pub nodes : ℕ
  pub start : ℕ
  pub clocks : ℕ
  pub constant : ℕ
  pub most : ℕ
  pub edges : ℕ
  pub edge_at : ℕ → Option Transition

-- the six numbers
abbrev pub number_of : Meaning → Number → ℕ
number_of m Nodes = m.nodes
number_of m Start = m.start
number_of m Clocks = m.clocks
number_of m LargestConstant = m.constant
number_of m MostConditions = m.most
number_of m EdgeNumbers = m.edges

-- an edge is told with the length of its guard
abbrev pub told : Option Transition → Option Edge
told None = None
told (Some t) = Some (record {
  source = t.source;
  target = t.target;
  action = t.action;
  resets = t.resets;
  conditions = length t.guard;
})

abbrev pub edge_of : Meaning → ℕ → Option Edge
edge_of m e = told (m.edge_at e)

abbrev pub guard_at : Option Transition → ℕ → Option Condition
guard_at None i = None
guard_at (Some t) i = slice_get t.guard i

abbrev pub condition_of : Meaning → ℕ → ℕ → Option Condition
condition_of m e i = guard_at (m.edge_at e) i

-- the limits of an edge
pub record TransitionLawful (m : Meaning) (t : Transition) : Type 0 where
  pub source : t.source < m.nodes
  pub target : t.target < m.nodes
  pub action_low : 1 ≤ t.action
  pub action_high : t.action ≤ 16
  pub resets : t.resets.bits < 2 ^ m.clocks
  pub guard_length : length t.guard ≤ m.most
  pub guard : (i : ℕ) (c : Condition) → slice_get t.guard i ≡ Some c → ConditionLawful m.clocks m.constant c

-- the limits of a device
pub record Lawful (m : Meaning) : Type 0 where
  pub nodes_low : 1 ≤ m.nodes
  pub nodes_high : m.nodes ≤ 4096
  pub start : m.start < m.nodes
  pub clocks : m.clocks ≤ 4
  pub constant : m.constant ≤ 15
  pub most : m.most ≤ 32
  pub edges : m.edges ≤ 102400
  pub past : (e : ℕ) → m.edges ≤ e → m.edge_at e ≡ None
  pub transitions : (e : ℕ) (t : Transition) → m.edge_at e ≡ Some t → TransitionLawful m t

-- one node and nothing else; its most conditions are a parameter: 8 for a new table, 0 elsewhere
abbrev pub idle : ℕ → Meaning
idle n = record {
  nodes = 1;
  start = 0;
  clocks = 0;
  constant = 0;
  most = n;
  edges = 0;
  edge_at = λ _. None;
}

pub idle_lawful : (n : ℕ) → n ≤ 32 → Lawful (idle n)
idle_lawful n h = record {
  nodes_low = omega arith;
  nodes_high = omega arith;
  start = omega arith;
  clocks = omega arith;
  constant = omega arith;
  most = h;
  edges = omega arith;
  past = λ e g. refl;
  transitions = λ e t eq. absurd (cc);
}

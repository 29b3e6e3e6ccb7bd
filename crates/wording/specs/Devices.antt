-- A device in words: a line of its numbers, then a line for each edge.
use Rattle.std.specs.Prelude.{ℕ, Bool, true, false, List, [], ◌++◌, Some, None, codes, decimal, Option}
use Rattle.device.specs.declared.Condition.{Condition}
use Rattle.device.specs.declared.Edge.{Edge}
use Rattle.device.specs.Terms.{has_clock}
use Rattle.device.specs.Meaning.{Meaning, edge_of, condition_of}
use Rattle.wording.specs.Terms.{condition_text}
use Rattle.wording.specs.Texts.{texts}

-- nodes, start, clocks, largest constant and edge numbers
abbrev pub numbers_text : ℕ → ℕ → ℕ → ℕ → ℕ → List ℕ
numbers_text n s c k e =
    codes "device: nodes " ++ (decimal n ++ (codes ", start " ++ (decimal s ++ (codes ", clocks " ++ (decimal c ++ (codes ", largest constant " ++ (decimal k ++ (codes ", edges " ++ (decimal e ++ codes "\n")))))))))

-- a condition of a guard, and a clock that is reset
abbrev pub clause_text : Option Condition → List ℕ
clause_text None = []
clause_text (Some c) = codes ", when " ++ condition_text c

abbrev pub reset_clause : Bool → ℕ → List ℕ
reset_clause true c = codes ", reset clock " ++ decimal c
reset_clause false c = []

abbrev pub reset_text : ℕ → ℕ → List ℕ
reset_text bits c = reset_clause (has_clock bits c) c

abbrev pub ends_text : ℕ → Edge → List ℕ
ends_text e x =
    codes "edge " ++ (decimal e ++ (codes ": from node " ++ (decimal x.source ++ (codes " to node " ++ (decimal x.target ++ (codes ", action " ++ decimal x.action))))))

-- edge e as it is told, nothing for an absent number
abbrev pub edge_line : Meaning → ℕ → Option Edge → List ℕ
edge_line m e None = []
edge_line m e (Some x) =
    ends_text e x ++ (texts (λ i. clause_text (condition_of m e i)) 0 x.conditions ++ (texts (reset_text x.resets.bits) 0 8 ++ codes "\n"))

abbrev pub edge_text : Meaning → ℕ → List ℕ
edge_text m e = edge_line m e (edge_of m e)

abbrev pub device_text : Meaning → List ℕ
device_text m =
    numbers_text m.nodes m.start m.clocks m.constant m.edges ++ texts (edge_text m) 0 m.edges

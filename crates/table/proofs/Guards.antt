-- The edges and conditions of a table, by number and place.
use Rattle.std.proofs.Common.{◌≡◌, ℕ, zero, suc, ◌+◌, ◌/◌, ◌<◌, ◌≤◌, Bool, true, false, cond, ltb, List, length, Some, None, Option, sym, refl, ap, ◌∙◌, arith}
use Rattle.std.proofs.lemmas.Bool.{lt-ltb, ltb-true}
use Rattle.std.proofs.lemmas.Option.{cond_some, MatchOption-at_some, MatchOption-at_none}
use Rattle.std.specs.Option.{MatchOption, IsSomeAnd}
use Rattle.std.specs.List.{slice_get}
use Rattle.device.specs.declared.Edge.{Edge}
use Rattle.device.specs.Meaning.{Meaning, told, edge_of, guard_at, condition_of}
use Rattle.sheet.specs.Conditions.{condition_at, condition_told, conditions_from}
use Rattle.sheet.proofs.Records.{conditions_length}
use Rattle.device_sheet.specs.Edges.{source_at, target_at, action_at, resets_at, first_at, count_at, transition_at}
use Rattle.device_sheet.specs.Sheets.{table_meaning}
use Rattle.table.specs.declared.edges.EdgeRecord.{EdgeRecord}
use Rattle.table.specs.Records.{record_at, record_told}
use Rattle.table.specs.Meanings.{edge_of_record, edge_told}

from_past : (cs : List ℕ) (k n i : ℕ) → n ≤ i → slice_get (conditions_from cs k n) i ≡ None
from_past cs k zero i h = refl
from_past cs k (suc n) zero h = absurd (omega arith)
from_past cs k (suc n) (suc i) h = from_past cs (k + 1) n i (omega arith)

from_nth : (cs : List ℕ) (k n i : ℕ) → i < n → slice_get (conditions_from cs k n) i ≡ Some (condition_at cs (k + i))
from_nth cs k zero i h = absurd (omega arith)
from_nth cs k (suc n) zero h = ap (λ j. Some (condition_at cs j)) (omega arith)
from_nth cs k (suc n) (suc i) h =
    let e : k + 1 + i ≡ k + suc i = omega arith in
    from_nth cs (k + 1) n i (omega arith) ∙ ap (λ j. Some (condition_at cs j)) e

module _ (n s c m : ℕ) (es cs : List ℕ) (e : ℕ) where
  abbrev me : Meaning
  me = table_meaning n s c m es cs

  there : e < length es / 8 → me.edge_at e ≡ Some (transition_at es cs e)
  there h = ap (λ t. cond t (Some (transition_at es cs e)) None) (lt-ltb e (length es / 8) h)

  edge_some : Some (edge_told es e) ≡ told (Some (transition_at es cs e))
  edge_some =
      sym (ap (λ k. Some (record { source = source_at es e; target = target_at es e; action = action_at es e; resets = record { bits = resets_at es e }; conditions = k })) (conditions_length cs (first_at es e) (count_at es e)))

  -- the answer for an edge is made of what was read of its record
  module _ (o : Option EdgeRecord) (x : Option Edge) (made : EdgeRecord → Edge → Type 0) (tells : (r : EdgeRecord) (d : Edge) → made r d → d ≡ edge_of_record r) (each : MatchOption o (x ≡ None) (λ r. IsSomeAnd x (made r))) where
    told_by : (y : Option Edge) (r : EdgeRecord) → IsSomeAnd y (made r) → y ≡ Some (edge_of_record r)
    told_by None r h = absurd h
    told_by (Some d) r h = ap Some (tells r d h)

    by_test : (t : Bool) → o ≡ cond t (Some (record_at es e)) None → x ≡ told (cond t (Some (transition_at es cs e)) None)
    by_test true found =
        told_by x (record_at es e) (MatchOption-at_some (x ≡ None) (λ r. IsSomeAnd x (made r)) (record_at es e) found each) ∙ edge_some
    by_test false found = MatchOption-at_none (x ≡ None) (λ r. IsSomeAnd x (made r)) found each

    pub edge_mapped : o ≡ record_told es e → x ≡ edge_of me e
    edge_mapped found = by_test (ltb e (length es / 8)) found

  -- the record that was read is that of an edge
  module _ (r : EdgeRecord) (found : Some r ≡ record_told es e) where
    read : (e < length es / 8) × (record_at es e ≡ r)
    read =
        let p = cond_some (ltb e (length es / 8)) (record_at es e) r (sym found) in (ltb-true e (length es / 8) p.0, p.1)

    pub edge_within : e < length es / 8
    edge_within = read.0

    pub condition_past : (i : ℕ) → r.count ≤ i → None ≡ condition_of me e i
    condition_past i past =
        let count : count_at es e ≡ r.count = ap (λ x. x.count) read.1 in
        sym (ap (λ o. guard_at o i) (there read.0) ∙ from_past cs (first_at es e) (count_at es e) i (omega arith))

    pub condition_some : (i : ℕ) → i < r.count → first_at es e + count_at es e ≤ length cs / 4 → condition_told cs (r.first + i) ≡ condition_of me e i
    condition_some i within last =
        let count : count_at es e ≡ r.count = ap (λ x. x.count) read.1 in
        let first : first_at es e ≡ r.first = ap (λ x. x.first) read.1 in
        let exists : first_at es e + i < length cs / 4 = omega arith in
        ap (λ j. condition_told cs (j + i)) (sym first) ∙ (ap (λ t. cond t (Some (condition_at cs (first_at es e + i))) None) (lt-ltb (first_at es e + i) (length cs / 4) exists) ∙ sym (ap (λ o. guard_at o i) (there read.0) ∙ from_nth cs (first_at es e) (count_at es e) i (omega arith)))

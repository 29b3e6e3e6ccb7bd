-- The region carries rational time to places.
use Rattle.std.proofs.Common.{◌≡◌, ℕ, ◌+◌, ◌≤◌, Bool, true, ◌↔◌, length, Some, None, Option, sym, refl, ap, ◌∙◌, subst, arith}
use Rattle.std.specs.List.{AllByRecursion, slice_get}
use Rattle.device.specs.declared.Condition.{Condition}
use Rattle.device.specs.declared.ClockSet.{ClockSet}
use Rattle.device.specs.Meaning.{Meaning, Transition, Lawful}
use Rattle.device.proofs.Conditions.{lawful_more, lawful_renumbered}
use Rattle.device.specs.Terms.{ConditionLawful, renumbered}
use Rattle.property_sheet.specs.Contents.{Content, ContentLawful, LineLawful}
use Rattle.property_sheet.specs.declared.Line.{Line}
use Rattle.property_sheet.specs.declared.Line.TheVariants.{Reset, Holds}
use Rattle.region.specs.Valuations.{Valuation, delay, reset_set}
use Rattle.region.specs.Regions.{region_of, reset_region_set}
use Rattle.region.specs.Conditions.{holds, holds_in}
use Rattle.region.specs.TimedSteps.{State, DelayStep, ActionStep}
use Rattle.region_laws.proofs.Agreeing.{conditions_agree}
use Rattle.region_laws.proofs.Resets.{resets_agree}
use Rattle.region_laws.proofs.Delays.{delays_succeed}
use Rattle.semantics.specs.Frames.{line_or_false, line_of}
use Rattle.semantics.specs.RationalTime.{state, rational_time}
use Rattle.semantics.specs.Places.{limit, all_clocks, Place, place, PlaceDelay, PlaceAction, places, place_of}
use Rattle.semantics.proofs.Carrying.{Carries}
use Rattle.semantics.proofs.Guards.{guard_passes}
use Rattle.semantics.proofs.Present.{present_at, present_in}

-- every line of a lawful property is lawful, those past its last too
pub line_lawful :
    (s : Content) → ContentLawful s → (p : ℕ) (l : Line) → line_of s p ≡ l →
    LineLawful (length s.lines) s.clocks s.constant l
line_lawful s law p l is =
    subst (LineLawful (length s.lines) s.clocks s.constant) is (by (slice_get s.lines p) refl)
  where
    by :
        (o : Option Line) → slice_get s.lines p ≡ o →
        LineLawful (length s.lines) s.clocks s.constant (line_or_false o)
    by None was = tt
    by (Some q) was = law.lines p q was

module _ (m : Meaning) (s : Content) (device : Lawful m) (property : ContentLawful s) where
  pub clocks_few : all_clocks m s ≤ 6
  clocks_few = omega (arith, device.clocks, property.clocks)

  -- a condition of the property, over the clocks after the device's
  pub test_agrees :
      (c : Condition) (v : Valuation) → ConditionLawful s.clocks s.constant c →
      holds (renumbered m.clocks c) v ≡ holds_in (renumbered m.clocks c) (region_of (limit m s) (all_clocks m s) v)
  test_agrees c v w =
      conditions_agree (limit m s) (all_clocks m s) v (renumbered m.clocks c) clocks_few
      (lawful_more (all_clocks m s) (all_clocks m s) s.constant (limit m s) (renumbered m.clocks c) (omega arith) (omega arith)
      (lawful_renumbered m.clocks s.clocks s.constant c w))

  -- a condition of an edge's guard, and the whole guard
  pub condition_agrees :
      (e : ℕ) (t : Transition) → m.edge_at e ≡ Some t → (v : Valuation) (i : ℕ) (c : Condition) → slice_get t.guard i ≡ Some c →
      holds c v ≡ holds_in c (region_of (limit m s) (all_clocks m s) v)
  condition_agrees e t there v i c is =
      conditions_agree (limit m s) (all_clocks m s) v c clocks_few
      (lawful_more m.clocks (all_clocks m s) m.constant (limit m s) c (omega arith) (omega arith)
      ((device.transitions e t there).guard i c is))

  pub guard_agrees :
      (e : ℕ) (t : Transition) → m.edge_at e ≡ Some t → (v : Valuation) →
      AllByRecursion (λ c. holds c v ≡ true) t.guard ↔
      AllByRecursion (λ c. holds_in c (region_of (limit m s) (all_clocks m s) v) ≡ true) t.guard
  guard_agrees e t there v =
      let f : Condition → Bool = λ c. holds c v in
      let g : Condition → Bool = λ c. holds_in c (region_of (limit m s) (all_clocks m s) v) in
      let same = condition_agrees e t there v in
      (guard_passes f g t.guard same, guard_passes g f t.guard (λ i c is. sym (same i c is)))

  -- the clocks of an edge reset
  pub set_agrees :
      (r : ClockSet) (v : Valuation) →
      region_of (limit m s) (all_clocks m s) (reset_set r v) ≡
      reset_region_set (all_clocks m s) r (region_of (limit m s) (all_clocks m s) v)
  set_agrees r v = resets_agree.set (limit m s) (all_clocks m s) v r clocks_few

  -- a delay leads through successors, and every successor is reached by one
  pub delay_forth : (x y : State) → DelayStep x y → PlaceDelay (limit m s) (all_clocks m s) (place_of m s x) (place_of m s y)
  delay_forth x y d =
      let f = delays_succeed.passed (limit m s) (all_clocks m s) x.valuation clocks_few d.r d.d d.positive in
      record {
        i = f.i;
        node = d.node;
        region = ap (region_of (limit m s) (all_clocks m s)) d.valuation ∙ f.after;
      }

  pub delay_back :
      (x : State) (z : Place) → PlaceDelay (limit m s) (all_clocks m s) (place_of m s x) z →
      (y : State) × DelayStep x y × (place_of m s y ≡ z)
  delay_back x z d =
      let f = delays_succeed.reached (limit m s) (all_clocks m s) x.valuation clocks_few d.i in (
        state x.node (delay f.0 f.1 f.2 x.valuation),
        record { r = f.0; d = f.1; positive = f.2; node = refl; valuation = refl },
        λ i. place (sym d.node i) ((f.3 ∙ sym d.region) i),
      )

  -- an edge is open at a state exactly if it is at its place
  pub act_forth : (a : ℕ) (x y : State) → ActionStep m a x y → PlaceAction m (all_clocks m s) a (place_of m s x) (place_of m s y)
  act_forth a x y t =
      let o = t.taken in
      record {
        edge = o.edge;
        taken = record {
          present = present_in m o.edge device o.number o.present;
          source = o.source;
          action = o.action;
          guard = (guard_agrees o.number o.edge o.present x.valuation).0 o.guard;
        };
        node = t.node;
        region = ap (region_of (limit m s) (all_clocks m s)) t.valuation ∙ set_agrees o.edge.resets x.valuation;
      }

  pub act_back :
      (a : ℕ) (x : State) (z : Place) → PlaceAction m (all_clocks m s) a (place_of m s x) z →
      (y : State) × ActionStep m a x y × (place_of m s y ≡ z)
  act_back a x z t =
      let o = t.taken in
      let e = present_at m t.edge o.present in (
        state t.edge.target (reset_set t.edge.resets x.valuation),
        record {
          taken = record {
            number = e.0;
            edge = t.edge;
            present = e.1;
            source = o.source;
            action = o.action;
            guard = (guard_agrees e.0 t.edge e.1 x.valuation).1 o.guard;
          };
          node = refl;
          valuation = refl;
        },
        λ i. place (sym t.node i) ((set_agrees t.edge.resets x.valuation ∙ sym t.region) i),
      )

  -- a clock of the property reset
  pub reset_agrees :
      (l c p : ℕ) → line_of s l ≡ Reset c p → (x : State) →
      place_of m s ((rational_time m).reset c x) ≡ (places m s).reset c (place_of m s x)
  reset_agrees l c p is x =
      let h = line_lawful s property l (Reset c p) is in
      ap (place x.node)
      (resets_agree.one (limit m s) (all_clocks m s) x.valuation (m.clocks + c) clocks_few (omega (arith, h.0)))

  abbrev pub region_carries : Carries (rational_time m) (places m s) (line_of s)
  region_carries = record {
    to = place_of m s;
    delay_forth = delay_forth;
    delay_back = delay_back;
    act_forth = act_forth;
    act_back = act_back;
    resets = reset_agrees;
    tests = λ l c is x. test_agrees c x.valuation (line_lawful s property l (Holds c) is);
  }

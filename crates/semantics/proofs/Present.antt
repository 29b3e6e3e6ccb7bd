-- The listed edges are those that the device has at some number.
use Rattle.std.proofs.Common.{◌≡◌, ℕ, zero, suc, ◌+◌, ◌<◌, ◌≤◌, ◌⊎◌, List, Some, None, Option, sym, refl, ap, ◌∙◌, subst, inl, inr, arith}
use Rattle.std.proofs.lemmas.Bool.{cases_lt, cases_eq}
use Rattle.device.specs.Meaning.{Meaning, Transition, Lawful}
use Rattle.semantics.specs.Members.{In}
use Rattle.semantics.specs.Places.{with_edge, present_from, present}

-- one number more
module _ (t : Transition) (ts : List Transition) where
  with_parts : (o : Option Transition) → In t (with_edge o ts) → (o ≡ Some t) ⊎ In t ts
  with_parts None i = inr i
  with_parts (Some u) (inl is) = inl (ap Some (sym is))
  with_parts (Some u) (inr i) = inr i

  with_later : (o : Option Transition) → In t ts → In t (with_edge o ts)
  with_later None i = i
  with_later (Some u) i = inr i

  with_here : (o : Option Transition) → o ≡ Some t → In t (with_edge o ts)
  with_here o is = subst (λ (r : Option Transition). In t (with_edge r ts)) (sym is) (inl refl)

module _ (m : Meaning) (t : Transition) where
  -- among f numbers from e on
  listed_at : (f e : ℕ) → In t (present_from m e f) → (j : ℕ) × (m.edge_at j ≡ Some t)
  listed_at zero e i = absurd i
  listed_at (suc f) e i = elim (with_parts t (present_from m (e + 1) f) (m.edge_at e) i) [
    | inl is ↦ (e, is)
    | inr later ↦ listed_at f (e + 1) later
  ]

  listed_below : (f e j : ℕ) → e ≤ j → j < e + f → m.edge_at j ≡ Some t → In t (present_from m e f)
  listed_below zero e j low high is = absurd (omega arith)
  listed_below (suc f) e j low high is = elim (cases_eq e j) [
    | inl here ↦ with_here t (present_from m (e + 1) f) (m.edge_at e) (ap m.edge_at here ∙ is)
    | inr later ↦
        with_later t (present_from m (e + 1) f) (m.edge_at e) (listed_below f (e + 1) j (omega arith) (omega arith) is)
  ]

  pub present_at : In t (present m) → (e : ℕ) × (m.edge_at e ≡ Some t)
  unfolding present
  present_at i = listed_at m.edges 0 i

  pub present_in : Lawful m → (e : ℕ) → m.edge_at e ≡ Some t → In t (present m)
  unfolding present
  present_in law e is = elim (cases_lt e m.edges) [
    | inl low ↦ listed_below m.edges 0 e (omega arith) (omega arith) is
    | inr past ↦
        let none = law.past e past in
        let z : ◌≡◌ {A = ℕ} 0 1 = cc in absurd (omega arith)
  ]

-- A refuted pair is in no satisfiability relation.
use Rattle.std.proofs.Common.{◌≡◌, ℕ, true, sym, ◌∙◌, subst, inl, inr}
use Rattle.std.proofs.lemmas.Bool.{true≢false}
use Rattle.property_sheet.specs.declared.Line.{Line}
use Rattle.property_sheet.specs.declared.Line.TheVariants.{False, Both, Either, SomeDelay, EveryDelay, SomeAction, EveryAction, Reset, Holds}
use Rattle.semantics.specs.Frames.{Frame, Meets, Satisfiability, Satisfied, Refuted, by_false, by_first, by_second, by_neither, by_no_delay, by_a_delay, by_no_action, by_an_action, by_reset, by_test}

module _ (F : Frame) (line : ℕ → Line) (R : F.Point → ℕ → Type 0) (closed : Satisfiability F line R) where
  rule : (x : F.Point) (l : ℕ) (q : Line) → line l ≡ q → R x l → Meets F R x q
  rule x l q e h = subst (λ z. Meets F R x z) e (closed x l h)

  pub refuted_never : (x : F.Point) (l : ℕ) → Refuted F line x l → R x l → ⊥
  refuted_never x₀ l₀ (by_false x l e) h = rule x l False e h
  refuted_never x₀ l₀ (by_first x l p q e fails) h = refuted_never x p fails (rule x l (Both p q) e h).0
  refuted_never x₀ l₀ (by_second x l p q e fails) h = refuted_never x q fails (rule x l (Both p q) e h).1
  refuted_never x₀ l₀ (by_neither x l p q e not-p not-q) h = elim (rule x l (Either p q) e h) [
    | inl r ↦ refuted_never x p not-p r
    | inr r ↦ refuted_never x q not-q r
  ]
  refuted_never x₀ l₀ (by_no_delay x l p e none) h =
      let r = rule x l (SomeDelay p) e h in
      refuted_never r.0 p (none r.0 r.1) r.2
  refuted_never x₀ l₀ (by_a_delay x l p e y d fails) h = refuted_never y p fails (rule x l (EveryDelay p) e h y d)
  refuted_never x₀ l₀ (by_no_action x l a p e none) h =
      let r = rule x l (SomeAction a p) e h in
      refuted_never r.0 p (none r.0 r.1) r.2
  refuted_never x₀ l₀ (by_an_action x l a p e y d fails) h = refuted_never y p fails (rule x l (EveryAction a p) e h y d)
  refuted_never x₀ l₀ (by_reset x l c p e fails) h = refuted_never (F.reset c x) p fails (rule x l (Reset c p) e h)
  refuted_never x₀ l₀ (by_test x l c e fails) h = true≢false (sym (rule x l (Holds c) e h) ∙ fails)

-- and so in none that is told by a test
pub refuted_unsatisfied : (F : Frame) (line : ℕ → Line) (x : F.Point) (l : ℕ) → Refuted F line x l → Satisfied F line x l → ⊥
refuted_unsatisfied F line x l fails s =
    refuted_never F line (λ y q. s.relation y q ≡ true) s.closed x l fails s.here

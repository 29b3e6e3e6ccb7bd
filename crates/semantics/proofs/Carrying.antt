-- A map between frames that goes forth and back carries refutations both ways, and rules and relations back.
use Rattle.std.proofs.Common.{◌≡◌, ℕ, true, sym, refl, ap, ◌∙◌, subst}
use Rattle.device.specs.declared.Condition.{Condition}
use Rattle.property_sheet.specs.declared.Line.{Line}
use Rattle.property_sheet.specs.declared.Line.TheVariants.{True, False, Both, Either, SomeDelay, EveryDelay, SomeAction, EveryAction, Reset, Holds}
use Rattle.semantics.specs.Frames.{Frame, Meets, Satisfiability, Satisfied, Refuted, by_false, by_first, by_second, by_neither, by_no_delay, by_a_delay, by_no_action, by_an_action, by_reset, by_test}

-- resets and tests agree where some line has them
pub record Carries (F G : Frame) (line : ℕ → Line) : Type 0 where
  pub to : F.Point → G.Point
  pub delay_forth : (x y : F.Point) → F.Delay x y → G.Delay (to x) (to y)
  pub delay_back : (x : F.Point) (z : G.Point) → G.Delay (to x) z → (y : F.Point) × F.Delay x y × (to y ≡ z)
  pub act_forth : (a : ℕ) (x y : F.Point) → F.Act a x y → G.Act a (to x) (to y)
  pub act_back : (a : ℕ) (x : F.Point) (z : G.Point) → G.Act a (to x) z → (y : F.Point) × F.Act a x y × (to y ≡ z)
  pub resets : (l c p : ℕ) → line l ≡ Reset c p → (x : F.Point) → to (F.reset c x) ≡ G.reset c (to x)
  pub tests : (l : ℕ) (c : Condition) → line l ≡ Holds c → (x : F.Point) → F.test c x ≡ G.test c (to x)

module _ (F G : Frame) (line : ℕ → Line) (w : Carries F G line) where
  -- a step over G comes from a step over F, so what holds wherever steps over F lead holds where it leads
  carried :
      (P : G.Point → Type 0) (D : F.Point → Type 0) (z : G.Point) → (y : F.Point) × D y × (w.to y ≡ z) →
      ((y : F.Point) → D y → P (w.to y)) → P z
  carried P D z b h = subst P b.2 (h b.0 b.1)

  -- and what holds where it leads holds where some step over F leads
  some_back :
      (P : G.Point → Type 0) (D : F.Point → Type 0) (z : G.Point) → (y : F.Point) × D y × (w.to y ≡ z) →
      P z → (y : F.Point) × D y × P (w.to y)
  some_back P D z b h = (b.0, b.1, subst P (sym b.2) h)

  pub refuted_forth : (x : F.Point) (l : ℕ) → Refuted F line x l → Refuted G line (w.to x) l
  refuted_forth x₀ l₀ (by_false x l e) = by_false (w.to x) l e
  refuted_forth x₀ l₀ (by_first x l p q e h) = by_first (w.to x) l p q e (refuted_forth x p h)
  refuted_forth x₀ l₀ (by_second x l p q e h) = by_second (w.to x) l p q e (refuted_forth x q h)
  refuted_forth x₀ l₀ (by_neither x l p q e h g) = by_neither (w.to x) l p q e (refuted_forth x p h) (refuted_forth x q g)
  refuted_forth x₀ l₀ (by_no_delay x l p e h) =
      by_no_delay (w.to x) l p e
      (λ z d. carried (λ y. Refuted G line y p) (F.Delay x) z (w.delay_back x z d) (λ y b. refuted_forth y p (h y b)))
  refuted_forth x₀ l₀ (by_a_delay x l p e y d h) = by_a_delay (w.to x) l p e (w.to y) (w.delay_forth x y d) (refuted_forth y p h)
  refuted_forth x₀ l₀ (by_no_action x l a p e h) =
      by_no_action (w.to x) l a p e
      (λ z d. carried (λ y. Refuted G line y p) (F.Act a x) z (w.act_back a x z d) (λ y b. refuted_forth y p (h y b)))
  refuted_forth x₀ l₀ (by_an_action x l a p e y d h) = by_an_action (w.to x) l a p e (w.to y) (w.act_forth a x y d) (refuted_forth y p h)
  refuted_forth x₀ l₀ (by_reset x l c p e h) =
      by_reset (w.to x) l c p e (subst (λ (y : G.Point). Refuted G line y p) (w.resets l c p e x) (refuted_forth (F.reset c x) p h))
  refuted_forth x₀ l₀ (by_test x l c e h) = by_test (w.to x) l c e (sym (w.tests l c e x) ∙ h)

  -- at every point that is mapped to a refuted one
  refuted_at : (z : G.Point) (l : ℕ) → Refuted G line z l → (x : F.Point) → w.to x ≡ z → Refuted F line x l
  refuted_at z₀ l₀ (by_false z l e) x is = by_false x l e
  refuted_at z₀ l₀ (by_first z l p q e h) x is = by_first x l p q e (refuted_at z p h x is)
  refuted_at z₀ l₀ (by_second z l p q e h) x is = by_second x l p q e (refuted_at z q h x is)
  refuted_at z₀ l₀ (by_neither z l p q e h g) x is = by_neither x l p q e (refuted_at z p h x is) (refuted_at z q g x is)
  refuted_at z₀ l₀ (by_no_delay z l p e h) x is =
      by_no_delay x l p e
      (λ y d. refuted_at (w.to y) p (h (w.to y) (subst (λ (u : G.Point). G.Delay u (w.to y)) is (w.delay_forth x y d))) y refl)
  refuted_at z₀ l₀ (by_a_delay z l p e u d h) x is =
      let b = w.delay_back x u (subst (λ (v : G.Point). G.Delay v u) (sym is) d) in
      by_a_delay x l p e b.0 b.1 (refuted_at u p h b.0 b.2)
  refuted_at z₀ l₀ (by_no_action z l a p e h) x is =
      by_no_action x l a p e
      (λ y d. refuted_at (w.to y) p (h (w.to y) (subst (λ (u : G.Point). G.Act a u (w.to y)) is (w.act_forth a x y d))) y refl)
  refuted_at z₀ l₀ (by_an_action z l a p e u d h) x is =
      let b = w.act_back a x u (subst (λ (v : G.Point). G.Act a v u) (sym is) d) in
      by_an_action x l a p e b.0 b.1 (refuted_at u p h b.0 b.2)
  refuted_at z₀ l₀ (by_reset z l c p e h) x is =
      by_reset x l c p e (refuted_at (G.reset c z) p h (F.reset c x) (w.resets l c p e x ∙ ap (λ (u : G.Point). G.reset c u) is))
  refuted_at z₀ l₀ (by_test z l c e h) x is = by_test x l c e (w.tests l c e x ∙ ap (λ (u : G.Point). G.test c u) is ∙ h)

  pub refuted_back : (x : F.Point) (l : ℕ) → Refuted G line (w.to x) l → Refuted F line x l
  refuted_back x l h = refuted_at (w.to x) l h x refl

  -- a rule over G is one over F
  pub rule_back :
      (R : G.Point → ℕ → Type 0) (x : F.Point) (l : ℕ) (q : Line) → line l ≡ q → Meets G R (w.to x) q →
      Meets F (λ y p. R (w.to y) p) x q
  rule_back R x l True e h = tt
  rule_back R x l False e h = h
  rule_back R x l (Both p q) e h = h
  rule_back R x l (Either p q) e h = h
  rule_back R x l (SomeDelay p) e h =
      some_back (λ z. R z p) (F.Delay x) h.0 (w.delay_back x h.0 h.1) h.2
  rule_back R x l (EveryDelay p) e h = λ y d. h (w.to y) (w.delay_forth x y d)
  rule_back R x l (SomeAction a p) e h =
      some_back (λ z. R z p) (F.Act a x) h.0 (w.act_back a x h.0 h.1) h.2
  rule_back R x l (EveryAction a p) e h = λ y d. h (w.to y) (w.act_forth a x y d)
  rule_back R x l (Reset c p) e h = subst (λ (z : G.Point). R z p) (sym (w.resets l c p e x)) h
  rule_back R x l (Holds c) e h = w.tests l c e x ∙ h

  -- and so a relation over G is one over F
  pub satisfiability_back :
      (R : G.Point → ℕ → Type 0) → Satisfiability G line R → Satisfiability F line (λ x p. R (w.to x) p)
  satisfiability_back R closed x p h = rule_back R x p (line p) refl (closed (w.to x) p h)

  pub satisfied_back : (x : F.Point) (l : ℕ) → Satisfied G line (w.to x) l → Satisfied F line x l
  satisfied_back x l s = record {
    relation = λ y q. s.relation (w.to y) q;
    closed = satisfiability_back (λ z p. s.relation z p ≡ true) s.closed;
    here = s.here;
  }

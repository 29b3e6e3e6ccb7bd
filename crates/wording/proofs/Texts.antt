-- Texts of a range of numbers, which are written one after the other.
use Rattle.std.proofs.Common.{◌≡◌, ℕ, zero, suc, ◌+◌, List, [], ◌∷◌, ◌++◌, Option, None, Some, Result, map, ap, refl, ◌∙◌, subst, arith}
use Rattle.std.specs.List.{concat, cons_option, filter_map, range_with_len}
use Rattle.std.specs.Fmt.{WritesOnOk}
use Rattle.std.specs.Fn.{Called}
use Rattle.std.specs.Iterator.Adapters.{filter_map_source, filter_map_callee, filter_map_steps}
use Rattle.std.specs.Iterator.{AlwaysYields}
use Rattle.std.specs.declared.fmt.Error.{Error}
use Rattle.std.specs.declared.fmt.Formatter.{Formatter}
use Rattle.std.specs.declared.iter.FilterMap.{FilterMap}
use Rattle.std.specs.declared.ops.Range.{Range}
use Rattle.std.proofs.iter.Yields.{nat_range_steps}
use Rattle.std.proofs.lemmas.Iterator.{YieldsList-from_range}
use Rattle.std.proofs.lemmas.Iterator.Consumers.{YieldsList-at, YieldsList-from_filter_map}
use denote.Param.Members.{Mut}
use Rattle.wording.specs.Texts.{texts, WritesEach}

module _ {A : Type 0} (text : A → List ℕ) where
  -- the text of a value, nothing for none
  abbrev pub told_text : Option A → List ℕ
  told_text None = []
  told_text (Some x) = text x

  text_of_cons : (o : Option A) (xs : List A) → concat (map text (cons_option o xs)) ≡ told_text o ++ concat (map text xs)
  text_of_cons None xs = refl
  text_of_cons (Some x) xs = refl

  texts_of_told : (h : ℕ → Option A) (f : ℕ → List ℕ) → ((x : ℕ) → told_text (h x) ≡ f x) → (k n : ℕ) → concat (map text (filter_map h (range_with_len k n))) ≡ texts f k n
  unfolding texts
  texts_of_told h f is k zero = refl
  texts_of_told h f is k (suc n) = text_of_cons (h k) (filter_map h (range_with_len (k + 1) n)) ∙ λ i. is k i ++ texts_of_told h f is (k + 1) n i

  -- the texts of the items that come
  seen : {S : Type 0} (steps : S → Option A → S → Type 0) (xs : List A) (s : S) → AlwaysYields steps (λ x. x) s xs → AlwaysYields steps text s (map text xs)
  seen steps [] s e = e
  seen steps (x ∷ xs) s e = (e.0, λ y j p. let m = e.1 y j p in (ap text m.0, seen steps xs j m.1))

-- what a closure makes of the numbers below n is written; it may make nothing of some
pub told_written : {W F A : Type 0} (took : W → List ℕ → W → Type 0) (output : A → Option (List ℕ)) (g : Mut F (ℕ × Unit {0}) (Option A)) (text : A → List ℕ) (h : ℕ → Option A) (f : ℕ → List ℕ) (n : ℕ) {s : FilterMap (Range ℕ) F} {p : F} (from to : Formatter W) (r : Result (Unit {0}) Error) → filter_map_source s ≡ record { start = 0; end = n } → filter_map_callee s ≡ p → ((x : ℕ) (y : Option A) (q : F) → Called g p (x, tt) y q → (q ≡ p) × (y ≡ h x)) → ((x : ℕ) → told_text text (h x) ≡ f x) → ((y : A) → output y ≡ Some (text y)) → WritesEach took output (filter_map_steps nat_range_steps g) s from r to → WritesOnOk took from r (texts f 0 n) to
told_written took output g text h f n {s} from to r source callee closure is shows writes =
    let items = YieldsList-from_filter_map g h (YieldsList-at source (YieldsList-from_range 0 n n refl (omega arith))) callee closure in
    subst (λ l. WritesOnOk took from r l to) (texts_of_told text h f is 0 n) (writes text _ shows (seen text (filter_map_steps nat_range_steps g) _ s items.runs))

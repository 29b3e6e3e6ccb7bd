use Rattle.std.proofs.Common.{◌≡◌, ℕ, Ok, List, [], ◌∷◌, ◌++◌, map, ap, sym, ◌∙◌, refl, subst, append-nil}
use Rattle.std.specs.List.{concat}
use Rattle.std.specs.Fmt.{DisplaysOnOk}
use Rattle.std.specs.Iterator.{AlwaysYields}
use Rattle.std.proofs.Output.{has_written_append, has_written_of_eq}
use Rattle.std.proofs.lemmas.List.{map-append}
use Rattle.std.proofs.lemmas.List.Folds.{concat-append}
use Rattle.std.proofs.lemmas.Iterator.{YieldsList}
use Rattle.std.proofs.lemmas.Iterator.Consumers.{YieldsList-end}
use Rattle.wording.proofs.each.write_each.Goals as goal

one_more : {T : Type 0} (text : T → List ℕ) (xs : List T) (x : T) → concat (map text xs) ++ text x ≡ concat (map text (xs ++ x ∷ []))
one_more text xs x =
    sym (ap concat (map-append text xs (x ∷ [])) ∙ (concat-append (map text xs) (text x ∷ []) ∙ ap (λ l. concat (map text xs) ++ l) (append-nil (text x))))

pub loop-item-preserved : goal.loop-item-preserved
loop-item-preserved g c =
    λ text shows plain.
    let before = c.loop-item.invariant text shows plain in
    let write = subst (λ o. DisplaysOnOk g.W.Write.write_str_gives c.loop-item.f (Ok c.in_ok-write.field-0) o c.write.new.self) (shows c.in-Some.item) c.in_ok-write.ensures.writes in
    has_written_of_eq _ _ _ _ _ (one_more text c.loop-item.yielded c.in-Some.item) (has_written_append _ _ _ _ _ _ before (write before.plain refl))

pub returns : goal.returns
returns g c =
    λ text all shows gives plain ok.
    let items : YieldsList g.I.Iterator.next_gives text c.into_iter-item-iterator.result all = record { runs = subst (λ s. AlwaysYields g.I.Iterator.next_gives text s all) (sym c.into_iter-item-iterator.ensures.into_iter_gives) gives } in
    let whole = YieldsList-end items c.loop-item.yielded _ c.loop-item.yielded_by c.next.result _ c.in-None.is c.next.ensures.steps in
    has_written_of_eq _ _ _ _ _ (ap concat whole.0) (c.loop-item.invariant text shows plain)

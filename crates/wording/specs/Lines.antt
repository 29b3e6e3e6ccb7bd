-- A property in words: a line of its numbers, then its lines.
use Rattle.std.specs.Prelude.{ℕ, List, [], ◌++◌, length, Some, None, codes, decimal, Option}
use Rattle.std.specs.List.{slice_get}
use Rattle.property_sheet.specs.declared.Line.{Line}
use Rattle.property_sheet.specs.declared.Line.TheVariants.{True, False, Both, Either, SomeDelay, EveryDelay, SomeAction, EveryAction, Reset, Holds}
use Rattle.property_sheet.specs.Contents.{Content}
use Rattle.wording.specs.Terms.{condition_text}
use Rattle.wording.specs.Texts.{texts}

abbrev pub line_text : Line → List ℕ
line_text True = codes "true"
line_text False = codes "false"
line_text (Both p q) = codes "line " ++ (decimal p ++ (codes " and line " ++ decimal q))
line_text (Either p q) = codes "line " ++ (decimal p ++ (codes " or line " ++ decimal q))
line_text (SomeDelay p) = codes "after some delay line " ++ decimal p
line_text (EveryDelay p) = codes "after every delay line " ++ decimal p
line_text (SomeAction a p) = codes "after some action " ++ (decimal a ++ (codes " line " ++ decimal p))
line_text (EveryAction a p) = codes "after every action " ++ (decimal a ++ (codes " line " ++ decimal p))
line_text (Reset c p) = codes "with clock " ++ (decimal c ++ (codes " reset line " ++ decimal p))
line_text (Holds t) = condition_text t

-- line p with its number, nothing past the count
abbrev pub numbered_text : ℕ → Option Line → List ℕ
numbered_text p None = []
numbered_text p (Some l) = codes "line " ++ (decimal p ++ (codes ": " ++ (line_text l ++ codes "\n")))

-- clocks, largest constant and lines
abbrev pub counts_text : ℕ → ℕ → ℕ → List ℕ
counts_text c k n =
    codes "property: clocks " ++ (decimal c ++ (codes ", largest constant " ++ (decimal k ++ (codes ", lines " ++ (decimal n ++ codes "\n")))))

abbrev pub property_text : Content → List ℕ
property_text s =
    counts_text s.clocks s.constant (length s.lines) ++ texts (λ p. numbered_text p (slice_get s.lines p)) 0 (length s.lines)

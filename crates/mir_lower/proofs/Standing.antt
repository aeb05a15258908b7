-- What stands around an expression, as the graph has it.
use Rattle.std.proofs.Common.{◌≡◌, List, [], ◌++◌, refl, sym, ap, ◌∙◌, subst, append_assoc, append-nil}
use Rattle.source_meaning.specs.Around.{Around, marking}
use Rattle.source_meaning.specs.Source.{Source, Cell}
use Rattle.mir_lower.specs.Does.{Landings, FrontAll, Stands}
use Rattle.mir_graph.specs.Graph.{Shape, OpenTarget}
use Rattle.mir_lower.specs.Lowered.{Keeps}

-- what came into use in the graph came into use around what is lowered next
pub marking-fits : {source : Source} {old new whole : Shape} {lands : Landings} {marked : List Cell} → Keeps source old new marked → (around : Around) → Stands whole old lands around → Stands whole new lands (marking marked around)
marking-fits {whole = whole} {lands = lands} {marked = marked} keeps around stands =
    record {
      marks = ap (λ (marks : List Cell). marks ++ marked) stands.marks ∙ sym keeps.scope;
      result = stands.result;
      returns = stands.returns;
      targets = subst (λ (targets : List OpenTarget). FrontAll whole lands targets around.targets) (sym keeps.spares.targets) stands.targets;
    }

-- what stands around the code of a graph stands around that of another one with the same cells in use, in the same loops
pub stands-in : {old new whole : Shape} {lands : Landings} {around : Around} → new.scope ≡ old.scope → new.targets ≡ old.targets → Stands whole old lands around → Stands whole new lands around
stands-in {whole = whole} {lands = lands} {around = around} scope targets stands =
    record {
      marks = stands.marks ∙ sym scope;
      result = stands.result;
      returns = stands.returns;
      targets = subst (λ (open_targets : List OpenTarget). FrontAll whole lands open_targets around.targets) (sym targets) stands.targets;
    }

-- whatever cells are in use
pub stands-with : {old new whole : Shape} {lands : Landings} {around : Around} → new.targets ≡ old.targets → Stands whole old lands around → Stands whole new lands (record around { marks = new.scope })
stands-with {whole = whole} {lands = lands} {around = around} targets stands =
    record {
      marks = refl;
      result = stands.result;
      returns = stands.returns;
      targets = subst (λ (open_targets : List OpenTarget). FrontAll whole lands open_targets around.targets) (sym targets) stands.targets;
    }

pub marking-none : (around : Around) → marking [] around ≡ around
marking-none around = ap (λ (marks : List Cell). record around { marks = marks }) (append-nil around.marks)

pub marking-more : (first second : List Cell) (around : Around) → marking second (marking first around) ≡ marking (first ++ second) around
marking-more first second around = ap (λ (marks : List Cell). record around { marks = marks }) (append_assoc around.marks first second)

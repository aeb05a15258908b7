-- The order of a graph's locals.
use Rattle.std.specs.Prelude.{◌≡◌, ℕ, zero, suc, List, [], ◌∷◌, ◌++◌, length, Option, Some, None}
use Rattle.types.specs.declared.ty.Ty.{Ty}
use Rattle.mir.specs.declared.body.Local.{Local}
use Rattle.source_meaning.specs.Source.{Source, binding_type, node_type, root}
use Rattle.mir_graph.specs.Graph.{local_of_type}

-- a local of a type, where there is one
abbrev pub local_if_any : Option Ty → List Local
local_if_any (Some ty) = local_of_type ty ∷ []
local_if_any None = []

-- the return slot, and a local for each of the first bindings that no closure owns, by rising id
unfoldable pub first_locals : Source → ℕ → List Local
first_locals source zero = local_if_any (node_type source (root source))
first_locals source (suc count) = first_locals source count ++ local_if_any (binding_type source count)

-- locals are the return slot, one for each binding that no closure owns, by rising id, and then the temporaries
pub record AreInOrder (source : Source) (locals : List Local) : Type 0 where
  pub temporaries : List Local
  pub order : locals ≡ first_locals source (length source.body.bindings) ++ temporaries

-- The parameters of a body in its graph: their locals are in use from the start on.
use Rattle.std.specs.Prelude.{◌≡◌, ◌++◌, ℕ, List, map, Some}
use Rattle.mir.specs.declared.ids.LocalId.{LocalId}
use Rattle.source_meaning.specs.Calls.{parameters, parameter_cells}
use Rattle.source_meaning.specs.Source.{Source, Binding}
use Rattle.mir_lower.specs.Callees.{AreLocalsOf}
use Rattle.mir_graph.specs.Graph.{Shape, local_of, with_scope}

-- bindings were marked as in use in the innermost open scope, in order, and these are their locals
pub record MarksBindings (old new : Shape) (bound : List ℕ) (locals : List LocalId) : Type 0 where
  pub marked : new ≡ with_scope (old.scope ++ map Binding bound) old
  pub told : AreLocalsOf (local_of old) bound locals

-- the cells that the parameters of a body bind were marked, and these are the parameters' locals
pub record LowersParameters (source : Source) (old new : Shape) (locals : List LocalId) : Type 0 where
  pub marked : new ≡ with_scope (old.scope ++ parameter_cells source) old
  pub bound : List ℕ
  pub binds : parameters source ≡ Some bound
  pub told : AreLocalsOf (local_of new) bound locals

-- Whether the types that a body needs have layouts, so that its cells can be placed.
use Rattle.std.specs.Prelude.{ℕ, zero, suc, Bool, true, ◌&&◌, List, [], ◌∷◌, length, flat_map, Option, Some, None, is_some, option_and_then}
use Rattle.std.specs.List.{list_all}
use Rattle.types.specs.declared.ty.Ty.{Ty}
use Rattle.world.specs.Lookups.{layout_of}
use Rattle.source_meaning.specs.Entering.{below}
use Rattle.source_meaning.specs.Source.{Source, binding_type, node, node_type, own_type, root}
use Rattle.source_meaning.specs.Valid.{sized_parts}

-- the expressions that need a layout where one is evaluated into a place, as far down as the depth says
unfoldable pub needing_in : ℕ → Source → ℕ → List ℕ
needing_in zero source e = []
needing_in (suc depth) source e = e ∷ flat_map (needing_in depth source) (sized_parts source (node source e))

-- the same, however deep the expression is
unfoldable pub needing : Source → ℕ → List ℕ
needing source e = needing_in (length source.body.exprs) source e

-- whether a type has a layout
abbrev pub has_layout : Source → Option Ty → Bool
has_layout source ty = is_some (option_and_then (layout_of source.world) ty)

-- whether the types of an expression, before and after its adjustment, have layouts
abbrev pub is_laid_node : Source → ℕ → Bool
is_laid_node source e = has_layout source (own_type source e) && has_layout source (node_type source e)

-- whether the type of a binding has a layout; a binding that a closure owns has no type here
abbrev pub is_laid_or_none : Source → Option Ty → Bool
is_laid_or_none source (Some ty) = has_layout source (Some ty)
is_laid_or_none source None = true

-- whether the types of each expression that needs a layout, and that of each binding that no closure owns, have layouts
unfoldable pub is_laid_out : Source → Bool
is_laid_out source =
    list_all (is_laid_node source) (needing source (root source))
    && list_all (λ b. is_laid_or_none source (binding_type source b)) (below (length source.body.bindings))

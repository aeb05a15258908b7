-- What entering a body costs: a block, and the bytes of its cells.
use Rattle.std.specs.Prelude.{ℕ, zero, suc, ◌+◌, Bool, true, false, cond, not, ◌&&◌, ◌||◌, ◌==◌, List, [], ◌∷◌, length, flat_map, map, filter, sum, Option, Some, None, option_and_then}
use Rattle.std.specs.List.{list_all}
use Rattle.types.specs.declared.ty.Ty.{Ty}
use Rattle.world.specs.declared.database.HirDatabase.{HirDatabase}
use Rattle.world.specs.declared.layout.Layout.{Layout}
use Rattle.world.specs.Lookups.{layout_of}
use Rattle.source_meaning.specs.Core.{is_place}
use Rattle.source_meaning.specs.Ends.{Cost}
use Rattle.source_meaning.specs.Heights.{height}
use Rattle.source_meaning.specs.Source.{Source, Cell, IndexOf, Node, Binding, Never, binding_type, cell_layout, node, unadjusted, own_type, node_type, root}
use Rattle.source_meaning.specs.Steps.{parts_of}

-- the numbers below a bound, from the greatest down
unfoldable pub below : ℕ → List ℕ
below zero = []
below (suc n) = n ∷ below n

-- how many bytes a cell takes at most: its size, and as many for its alignment; none without a size
abbrev pub room_of : Option Layout → ℕ
room_of (Some layout) = cond layout.sized (layout.size + layout.align) 0
room_of None = 0

abbrev pub cell_room : Source → Cell → ℕ
cell_room source cell = room_of (cell_layout source cell)

-- whether an expression has a cell: a path, a field or an element has none, unless it is the root, whose cell is that of the result
abbrev pub has_cell : Source → ℕ → Bool
has_cell source e = not (is_place (unadjusted source e)) || (e == root source)

-- how many bytes the cells of a body take at most: those of its expressions, those of the `!` of expressions that are adjusted
-- by `NeverToAny`, those of the indices of index expressions, and those of its bindings that no closure owns
unfoldable pub body_room : Source → ℕ
body_room source =
    sum (map (λ e. cell_room source (Node e)) (filter (has_cell source) (below (length source.body.exprs))))
    + sum (map (λ e. cell_room source (Never e)) (below (length source.body.exprs)))
    + sum (map (λ e. cell_room source (IndexOf e)) (below (length source.body.exprs)))
    + sum (map (λ b. cell_room source (Binding b)) (below (length source.body.bindings)))

-- whether a type has a layout with a size
abbrev pub is_sized_layout : Option Layout → Bool
is_sized_layout (Some layout) = layout.sized
is_sized_layout None = false

abbrev pub is_sized_type : Source → Option Ty → Bool
is_sized_type source ty = is_sized_layout (option_and_then (layout_of source.world) ty)

-- whether the type of a binding has a layout with a size; a binding that a closure owns has no type here
abbrev pub is_sized_or_none : Source → Option Ty → Bool
is_sized_or_none source (Some ty) = is_sized_type source (Some ty)
is_sized_or_none source None = true

-- the expressions that are evaluated where one is, as far down as the depth says
unfoldable pub evaluated_in : ℕ → Source → ℕ → List ℕ
evaluated_in zero source e = []
evaluated_in (suc depth) source e = e ∷ flat_map (evaluated_in depth source) (parts_of (node source e))

-- the same, however deep the expression is
unfoldable pub evaluated : Source → ℕ → List ℕ
evaluated source e = evaluated_in (length source.body.exprs) source e

-- whether the types of an expression, before and after its adjustment, have layouts with a size
abbrev pub is_sized_node : Source → ℕ → Bool
is_sized_node source e = is_sized_type source (own_type source e) && is_sized_type source (node_type source e)

-- whether the types of each expression that is evaluated, and that of each binding that no closure owns, have layouts with a size
unfoldable pub is_cost_defined : Source → Bool
is_cost_defined source =
    list_all (is_sized_node source) (evaluated source (root source))
    && list_all (λ b. is_sized_or_none source (binding_type source b)) (below (length source.body.bindings))

-- how many levels of nesting a value takes, by its type
abbrev pub value_height : HirDatabase → Option Ty → ℕ
value_height world (Some ty) = height world ty
value_height world None = 0

-- The cost of entering a body: a block, the bytes of its cells, and the level of nesting that it runs on.
unfoldable pub entering : Source → Cost
entering source = record { turns = 1; bytes = body_room source; nesting = 1; defined = is_cost_defined source }

-- What a run of a body by itself costs beside the body: on its level of nesting stand those of its value.
unfoldable pub run_cost : Source → Cost
run_cost source = record { turns = 0; bytes = 0; nesting = suc (value_height source.world (node_type source (root source))); defined = true }

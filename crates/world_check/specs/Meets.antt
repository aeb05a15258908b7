-- What each row of the check asks at a place. Where a row doesn't speak of a place, or the world doesn't have the place, nothing is asked there.
use Rattle.std.specs.Prelude.{◌≡◌, ℕ, ◌==◌, ◌&&◌, Bool, true, not, List, length, take, Option, slice_get, IfSome}
use Rattle.std.specs.List.{list_any}
use Rattle.types.specs.Orders.{args_eq, ty_eq}
use Rattle.types.specs.declared.ids.AliasId.{AliasId}
use Rattle.types.specs.declared.ids.FunctionId.{FunctionId}
use Rattle.types.specs.declared.ty.GenericArgs.{GenericArgs}
use Rattle.types.specs.declared.ty.Ty.{Ty}
use Rattle.world.specs.declared.body.Body.{Body}
use Rattle.world.specs.declared.database.BodyRow.{BodyRow}
use Rattle.world.specs.declared.database.HirDatabase.{HirDatabase}
use Rattle.world.specs.declared.impls.ConstImplRow.{ConstImplRow}
use Rattle.world.specs.declared.impls.ImplRow.{ImplRow}
use Rattle.world.specs.declared.layout.Layout.{Layout}
use Rattle.check_names.specs.Known.{is_nameable}
use Rattle.check_items.specs.Agree.{IsListedRight, has_all_params, is_closure_row}
use Rattle.check_items.specs.Closed.{is_const_impl_closed, is_impl_closed, is_normal_closed}
use Rattle.check_items.specs.Names.{is_closure_named, is_const_impl_named, is_const_named, is_const_param_named, is_enum_named, is_function_known, is_function_named, is_impl_named, is_layout_named, is_normal_named, is_static_named, is_struct_named, is_variant_named}
use Rattle.check_ids.specs.Parts.{if_there, is_part_right}
use Rattle.check_ids.specs.declared.part.BodyPart.{BodyPart}
use Rattle.check_ids.specs.declared.part.BodyPart.TheVariants as part
use Rattle.check_trees.specs.Ellipsis.{is_ellipsis_inside}
use Rattle.check_trees.specs.Jumps.{IsJumpInside}
use Rattle.check_trees.specs.Tree.{IsExprInOrder, IsPatInOrder}
use Rattle.check_layouts.specs.Laid.{HasRightTag, IsRowLaidOut}
use Rattle.world_check.specs.declared.fault.CheckRow.{CheckRow}
use Rattle.world_check.specs.declared.fault.CheckRow.TheVariants.{C1, C2, C3, C4, C5, C6, C7}
use Rattle.world_check.specs.declared.place.NamedFunction.{NamedFunction}
use Rattle.world_check.specs.declared.place.NamedFunction.TheVariants.{Drop, Deref, DerefMut, Call, CallMut, CallOnce}
use Rattle.world_check.specs.declared.place.NodeKind.{NodeKind}
use Rattle.world_check.specs.declared.place.NodeKind.TheVariants.{Exprs, Pats, Bindings, Labels}
use Rattle.world_check.specs.declared.place.Place.{Place}
use Rattle.world_check.specs.declared.place.Place.TheVariants.{Table, Row, Nodes, Node, Function}
use Rattle.world_check.specs.declared.place.TableName.{TableName}
use Rattle.world_check.specs.declared.place.TableName.TheVariants.{Crates, Functions, Consts, Statics, Structs, Unions, Enums, Variants, Traits, Aliases, TypeParams, ConstParams, Closures, Bodies, Layouts, Normals, Impls, ConstImpls}

-- the element at an index passes a test of the index and of itself, if it is there
abbrev pub if_at : {X : Type 0} → (ℕ → X → Bool) → List X → ℕ → Bool
if_at test xs i = if_there (test i) (slice_get xs i)

-- no row before row `i` passes the test
abbrev pub none_before : {X : Type 0} → (X → Bool) → List X → ℕ → Bool
none_before test rows i = not (list_any test (take i rows))

-- C1: ids are in range, those of fields too; lists whose places an id or a number of 32 bits names are short enough; each node has one type; keys are distinct; and
-- `char` literals are Unicode scalar values.

-- a table whose rows are named by ids, or by the indices of bodies, has fewer than 2^32 rows; of any other nothing is asked
abbrev pub is_table_nameable : HirDatabase → TableName → Bool
is_table_nameable world Crates = is_nameable (length world.crates)
is_table_nameable world Functions = is_nameable (length world.functions)
is_table_nameable world Consts = is_nameable (length world.consts)
is_table_nameable world Statics = is_nameable (length world.statics)
is_table_nameable world Structs = is_nameable (length world.structs)
is_table_nameable world Unions = is_nameable (length world.unions)
is_table_nameable world Enums = is_nameable (length world.enums)
is_table_nameable world Variants = is_nameable (length world.variants)
is_table_nameable world Traits = is_nameable (length world.traits)
is_table_nameable world Aliases = is_nameable (length world.aliases)
is_table_nameable world TypeParams = is_nameable (length world.type_params)
is_table_nameable world ConstParams = is_nameable (length world.const_params)
is_table_nameable world Closures = is_nameable (length world.closures)
is_table_nameable world Bodies = is_nameable (length world.bodies)
is_table_nameable world _ = true

-- no row before has the same type
abbrev pub has_new_type : HirDatabase → ℕ → Ty × Layout → Bool
has_new_type world i row = none_before (λ (other : Ty × Layout). ty_eq row.0 other.0) world.layouts i

-- no row before has the same alias with the same arguments
abbrev pub has_new_alias : HirDatabase → ℕ → AliasId × GenericArgs × Ty → Bool
has_new_alias world i row = none_before (λ (other : AliasId × GenericArgs × Ty). row.0.0 == other.0.0 && args_eq row.1 other.1) world.normals i

-- no row before has the same function with the same arguments
abbrev pub has_new_function : HirDatabase → ℕ → ImplRow → Bool
has_new_function world i row = none_before (λ (other : ImplRow). row.function.0 == other.function.0 && args_eq row.args other.args) world.impls i

-- no row before has the same constant with the same arguments
abbrev pub has_new_const : HirDatabase → ℕ → ConstImplRow → Bool
has_new_const world i row = none_before (λ (other : ConstImplRow). row.konst.0 == other.konst.0 && args_eq row.args other.args) world.const_impls i

-- what is asked of a part of the body in row `b`, if it is there
abbrev pub is_part_known : HirDatabase → ℕ → BodyPart → Bool
is_part_known world b part = if_there (λ (row : BodyRow). is_part_right world row.body row.infer part) (slice_get world.bodies b)

abbrev pub is_row_known : HirDatabase → TableName → ℕ → Bool
is_row_known world Functions i = if_there (is_function_named world) (slice_get world.functions i)
is_row_known world Consts i = if_there (is_const_named world) (slice_get world.consts i)
is_row_known world Statics i = if_there (is_static_named world) (slice_get world.statics i)
is_row_known world Structs i = if_there (is_struct_named world) (slice_get world.structs i)
is_row_known world Unions i = if_there (is_struct_named world) (slice_get world.unions i)
is_row_known world Enums i = if_there (is_enum_named world) (slice_get world.enums i)
is_row_known world Variants i = if_there (is_variant_named world) (slice_get world.variants i)
is_row_known world ConstParams i = if_there (is_const_param_named world) (slice_get world.const_params i)
is_row_known world Closures i = if_there (is_closure_named world) (slice_get world.closures i)
is_row_known world Bodies b = is_part_known world b part.Rest
is_row_known world Layouts i = if_at (λ j row. is_layout_named world row && has_new_type world j row) world.layouts i
is_row_known world Normals i = if_at (λ j row. is_normal_named world row && has_new_alias world j row) world.normals i
is_row_known world Impls i = if_at (λ j row. is_impl_named world row && has_new_function world j row) world.impls i
is_row_known world ConstImpls i = if_at (λ j row. is_const_impl_named world row && has_new_const world j row) world.const_impls i
is_row_known world _ i = true

-- a list of a body's nodes, or of its labels
abbrev pub is_list_known : HirDatabase → ℕ → NodeKind → Bool
is_list_known world b Exprs = is_part_known world b part.Exprs
is_list_known world b Pats = is_part_known world b part.Pats
is_list_known world b Bindings = is_part_known world b part.Bindings
is_list_known world b Labels = is_part_known world b part.Labels

-- a node of a body; a label is asked nothing
abbrev pub is_node_known : HirDatabase → ℕ → NodeKind → ℕ → Bool
is_node_known world b Exprs e = is_part_known world b (part.Expr e)
is_node_known world b Pats p = is_part_known world b (part.Pat p)
is_node_known world b Bindings i = is_part_known world b (part.Binding i)
is_node_known world b Labels i = true

-- the lang function of the world with this name, if it has one
abbrev pub named_function : HirDatabase → NamedFunction → Option FunctionId
named_function world Drop = world.drop_fn
named_function world Deref = world.deref_fn
named_function world DerefMut = world.deref_mut_fn
named_function world Call = world.call_fn
named_function world CallMut = world.call_mut_fn
named_function world CallOnce = world.call_once_fn

abbrev pub has_known_ids : HirDatabase → Place → Bool
has_known_ids world (Table table) = is_table_nameable world table
has_known_ids world (Row table i) = is_row_known world table i
has_known_ids world (Nodes b kind) = is_list_known world b kind
has_known_ids world (Node b kind i) = is_node_known world b kind i
has_known_ids world (Function name) = is_function_known world (named_function world name)

-- a fact of the body in row `b`, if it is there
abbrev pub InBody : HirDatabase → ℕ → (Body → Type 0) → Type 0
InBody world b fact = IfSome (slice_get world.bodies b) (λ (row : BodyRow). fact row.body)

-- C2: bodies are trees: a child has a lower id than its parent where both are expressions or both are patterns, an expression inside a pattern has a lower id than the
-- expression that holds the pattern, each node but the root and the parameters occurs at most once as a child, and no path of more than 400 steps leads down from any node.
abbrev pub IsInOrder : HirDatabase → Place → Type 0
IsInOrder world (Node b Exprs e) = InBody world b (λ body. IfSome (slice_get body.exprs e) (IsExprInOrder body e))
IsInOrder world (Node b Pats p) = InBody world b (λ body. IfSome (slice_get body.pats p) (IsPatInOrder body p))
IsInOrder world _ = Unit {0}

-- C3: a jump's label is that of an enclosing loop or block.
abbrev pub HasEnclosingLabel : HirDatabase → Place → Type 0
HasEnclosingLabel world (Node b Exprs e) = InBody world b (λ body. IfSome (slice_get body.exprs e) (IsJumpInside body e))
HasEnclosingLabel world _ = Unit {0}

-- C4: normalized types, and the arguments of resolved impl items, have no alias and no generic parameter in them.
abbrev pub is_resolved : HirDatabase → Place → Bool
is_resolved world (Row Normals i) = if_there is_normal_closed (slice_get world.normals i)
is_resolved world (Row Impls i) = if_there is_impl_closed (slice_get world.impls i)
is_resolved world (Row ConstImpls i) = if_there is_const_impl_closed (slice_get world.const_impls i)
is_resolved world _ = true

-- C5: layouts follow the rules of all 64-bit targets. The types of parts have their layouts in rows above.
abbrev pub HasRightLayout : HirDatabase → Place → Type 0
HasRightLayout world (Row Layouts i) = IsRowLaidOut world i
HasRightLayout world _ = Unit {0}

-- C6: tags fit their enums.
abbrev pub HasFittingTag : HirDatabase → Place → Type 0
HasFittingTag world (Row Layouts i) = IfSome (slice_get world.layouts i) (λ (row : Ty × Layout). HasRightTag world row.0 row.1)
HasFittingTag world _ = Unit {0}

-- C7: functions have as many parameters as their bodies, and closures as their expressions, variants stand just where their rows say in the lists of enums, and each
-- `..` stands among the parts of its pattern or behind the last.
abbrev pub Agrees : HirDatabase → Place → Type 0
Agrees world (Row Functions i) = if_there (has_all_params world) (slice_get world.functions i) ≡ true
Agrees world (Row Variants i) = IfSome (slice_get world.variants i) (IsListedRight world i)
Agrees world (Row Closures i) = if_there (is_closure_row world) (slice_get world.closures i) ≡ true
Agrees world (Node b Pats p) = InBody world b (λ body. IfSome (slice_get body.pats p) (λ pattern. is_ellipsis_inside pattern ≡ true))
Agrees world _ = Unit {0}

-- what a row of the check asks at a place
abbrev pub Meets : CheckRow → HirDatabase → Place → Type 0
Meets C1 world place = has_known_ids world place ≡ true
Meets C2 world place = IsInOrder world place
Meets C3 world place = HasEnclosingLabel world place
Meets C4 world place = is_resolved world place ≡ true
Meets C5 world place = HasRightLayout world place
Meets C6 world place = HasFittingTag world place
Meets C7 world place = Agrees world place

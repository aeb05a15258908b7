-- Which function a call enters, and what its body starts from.
use Rattle.std.specs.Prelude.{◌==◌, ◌++◌, ℕ, Bool, List, [], ◌∷◌, length, Option, Some, None, option_map, option_and_then, if◌then◌else◌, flat_map}
use Rattle.std.specs.BTreeMap.{is_at}
use Rattle.std.specs.Map.{lookup}
use Rattle.types.specs.contracts.ids.ExprIdOrd.TheImpl as ExprIdOrd
use Rattle.types.specs.declared.ids.BindingId.{BindingId}
use Rattle.types.specs.declared.ids.CallableDefId.TheVariants.{FunctionId as CalledFunction}
use Rattle.types.specs.declared.ids.DefWithBodyId.TheVariants.{FunctionId as FunctionBody}
use Rattle.types.specs.declared.ids.FunctionId.{FunctionId}
use Rattle.types.specs.declared.ids.PatId.{PatId}
use Rattle.types.specs.declared.ty.ComplexMemoryMap.{ComplexMemoryMap}
use Rattle.types.specs.declared.ty.Const.{Const}
use Rattle.types.specs.declared.ty.Const.TheOpen as layer
use Rattle.types.specs.declared.ty.GenericArg.{GenericArg}
use Rattle.types.specs.declared.ty.GenericArgs.{GenericArgs}
use Rattle.types.specs.declared.ty.MemoryMap.{MemoryMap}
use Rattle.types.specs.declared.ty.TraitRef.{TraitRef}
use Rattle.types.specs.declared.ty.Ty.{Ty, Ty-F, out-Ty}
use Rattle.types.specs.declared.ty.UnevaluatedConst.{UnevaluatedConst}
use Rattle.types.specs.declared.ty.ValueConst.{ValueConst}
use Rattle.world.specs.declared.database.BodyRow.{BodyRow}
use Rattle.world.specs.declared.database.HirDatabase.{HirDatabase}
use Rattle.world.specs.declared.infer.MethodRes.{MethodRes}
use Rattle.world.specs.Lookups.{body_row}
use Rattle.source_meaning.specs.Contents.{Contents}
use Rattle.source_meaning.specs.Source.{Source, is_marked, monomorphic, Store, Cell, Result, Binding, bound_by, own_type, pattern, cell_size, zeroed, with_cell_bytes}

-- a type's variant
abbrev TyLayer : Type 0
TyLayer = Ty-F Const GenericArg MemoryMap Ty ComplexMemoryMap GenericArgs TraitRef UnevaluatedConst ValueConst

-- a function that is given no generic arguments
abbrev pub without_generics : FunctionId → List GenericArg → Option FunctionId
without_generics id [] = Some id
without_generics id _ = None

abbrev pub function_of : TyLayer → Option FunctionId
function_of (layer.FnDef (CalledFunction id) args) = without_generics id args.0
function_of _ = None

-- the function that a type is the one of, where it is the type of one function, without generic arguments
abbrev pub function_in : Ty → Option FunctionId
function_in ty = function_of (out-Ty ty)

-- what a method call is resolved to, where it is
abbrev pub method_of : Source → ℕ → Option MethodRes
method_of source e = lookup (is_at (ExprIdOrd.ghosts.cmp (record { 0 = e }))) source.infer.method_res

-- the function that a method call is resolved to, where it is given no generic arguments
abbrev pub method_function : MethodRes → Option FunctionId
method_function method = without_generics method.function method.args.0

-- The function that a call names: that of its callee's own type, a function definition's, or, without a callee, the one that the call is
-- resolved to, as a method call is. In MIR a callee is a constant of no bytes, so the expression isn't evaluated.
unfoldable pub function_called : Source → ℕ → (callee : Option ℕ) → Option FunctionId
function_called source e (Some callee) = option_and_then function_in (own_type source callee)
function_called source e None = option_and_then method_function (method_of source e)

-- a row of the table of bodies, as a source in its world
abbrev pub source_at : HirDatabase → BodyRow → Source
source_at world row = monomorphic world row.body row.infer

-- the source of a function: its row in the table of bodies
unfoldable pub source_of : HirDatabase → FunctionId → Option Source
source_of world id = option_map (source_at world) (body_row world (FunctionBody id))

-- the source of the body that a call with this callee enters
unfoldable pub source_called : Source → ℕ → (callee : Option ℕ) → Option Source
source_called source e callee = option_and_then (source_of source.world) (function_called source e callee)

-- Whether a call is one whose callee must not return: those that inference found diverging. In MIR the call's terminator has no target
-- block then.
unfoldable pub must_not_return : Source → ℕ → Bool
must_not_return source e = is_marked source e

-- the bindings that patterns are the plain names of, one each
unfoldable pub names_bound : Source → List PatId → Option (List ℕ)
names_bound source [] = Some []
names_bound source (first ∷ rest) =
    option_and_then (λ (id : BindingId). option_map (λ others. id.0 ∷ others) (names_bound source rest)) (pattern source first.0)

-- the binding of `self`, where there is one
abbrev pub self_bound : Option BindingId → List ℕ
self_bound (Some id) = id.0 ∷ []
self_bound None = []

-- The bindings of a body's parameters, in order: `self` first, where there is one. Where a parameter is a plain name by value, its local is
-- the binding's own, so the argument lies in the binding's cell; where one is any other pattern there is no answer.
unfoldable pub parameters : Source → Option (List ℕ)
parameters source = option_map (λ named. self_bound source.body.self_param ++ named) (names_bound source source.body.params)

-- The cells that the parameters' patterns bind, in order, that of `self` first. They are in use from the body's start on, in the body's own
-- scope, so leaving the body drops those whose type isn't `Copy`.
unfoldable pub parameter_cells : Source → List Cell
parameter_cells source = bound_by source.body.self_param ++ flat_map (λ (pat : PatId). bound_by (pattern source pat.0)) source.body.params

-- The store after each parameter's cell took the bytes of an argument, in order, where they are as many, and each has the size of its
-- cell.
unfoldable pub filled : Source → Store → List ℕ → List Contents → Option Store
filled callee store [] [] = Some store
filled callee store (b ∷ others) (bytes ∷ given) =
    if length bytes == cell_size callee (Binding b) then filled callee (with_cell_bytes store (Binding b) bytes) others given else None
filled callee store [] (bytes ∷ given) = None
filled callee store (b ∷ others) [] = None

-- The store that a called body starts from: each local is new and zeroed, but for the return place, which is the call's destination itself
-- and holds what that holds, and for the parameters' locals, which hold the arguments.
unfoldable pub started : Source → (result : Contents) → (given : List Contents) → Option Store
started callee result given =
    option_and_then (λ bound. filled callee (with_cell_bytes (zeroed callee) Result result) bound given) (parameters callee)

-- Which calls are built, by the types of their callees.
use Rattle.std.proofs.Common.{◌≡◌, ℕ, List, [], Option, true, false, Some, None, IfOk, Result, Ok, Err, codes, ◌⊎◌, ⊎_elim, inl, inr, option_and_then, refl, sym, ap, ◌∙◌, subst}
use Rattle.types.specs.declared.ids.CallableDefId.TheVariants.{FunctionId as CalledFunction}
use Rattle.types.specs.declared.ids.FunctionId.{FunctionId}
use Rattle.types.specs.declared.ty.Const.{Const}
use Rattle.types.specs.declared.ty.GenericArgs.{GenericArgs}
use Rattle.types.specs.declared.ty.Ty.{Ty, FnDef}
use Rattle.world.specs.Lookups.{function_row}
use Rattle.mir.specs.declared.errors.MirLowerError.{MirLowerError}
use Rattle.mir.specs.declared.operand.Operand.{Operand}
use Rattle.mir.specs.declared.operand.OperandKind.{OperandKind}
use Rattle.mir.specs.declared.operand.OperandKind.TheVariants.{Constant}
use Rattle.mir.specs.Run.{constant_bytes}
use Rattle.mir.specs.declared.errors.MirLowerError.TheVariants as refusal
use Rattle.source_meaning.specs.Built.{CallsFunction, is_direct}
use Rattle.source_meaning.specs.Calls.{function_called, function_in}
use Rattle.source_meaning.specs.Core as expr
use Rattle.source_meaning.specs.Source.{Source, node, own_type}
use Rattle.source_meaning.proofs.Calls.{names_function}
use Rattle.body_forms.specs.Callees.{IsCalleeOperand}
use Rattle.body_forms.specs.Literals.{IsConstantOf}
use Rattle.body_forms.specs.Refusals.{IsUnbuilt, IsUnbuiltCall, RefusesNode}

-- a callee is the function that its type is the one of
pub called-by-type : (source : Source) (e callee : ℕ) (ty : Ty) → own_type source callee ≡ Some ty → function_called source e (Some callee) ≡ function_in ty
unfolding function_called
called-by-type source e callee ty typed = ap (option_and_then function_in) typed

-- a callee has no type
pub without-type : (source : Source) (e callee : ℕ) → own_type source callee ≡ None → IsUnbuiltCall source e (Some callee)
unfolding function_called
without-type source e callee none = inl (ap (option_and_then function_in) none)

-- its type is that of no function
pub without-function : (source : Source) (e callee : ℕ) (ty : Ty) → own_type source callee ≡ Some ty → function_in ty ≡ None → IsUnbuiltCall source e (Some callee)
without-function source e callee ty typed none = inl (called-by-type source e callee ty typed ∙ none)

-- a call doesn't enter the function's own body
pub with-other : (source : Source) (e : ℕ) (callee : Option ℕ) (id : FunctionId) → function_called source e callee ≡ Some id → is_direct (function_row source.world id) ≡ false → IsUnbuiltCall source e callee
with-other source e callee id names is = inr (id, names, is)

-- or it does
pub with-body : (source : Source) (e : ℕ) (callee : Option ℕ) (id : FunctionId) → function_called source e callee ≡ Some id → is_direct (function_row source.world id) ≡ true → CallsFunction source e callee
with-body source e callee id names is = record { id = id; names = names; direct = is }

-- a call that isn't built is refused
pub refuses-call : (source : Source) (e : ℕ) (callee : Option ℕ) (args : List ℕ) (error : MirLowerError) → node source e ≡ Some (expr.Call callee args) → IsUnbuiltCall source e callee
    → (error ≡ refusal.NotSupported (codes "form not built")) ⊎ (error ≡ refusal.NoMemory) → RefusesNode source e error
refuses-call source e callee args error is unbuilt =
    ⊎_elim
    (λ text. subst (RefusesNode source e) (sym text) (refl, subst (IsUnbuilt source e) (sym is) unbuilt))
    (λ none. subst (RefusesNode source e) (sym none) tt)

-- the operand of a callee is a constant of its own type
callee-operand : (source : Source) (e callee : ℕ) (bytes : List ℕ) (operand : OperandKind) → bytes ≡ [] → IsConstantOf source callee bytes operand → IsCalleeOperand source e (Some callee) operand
callee-operand source e callee bytes operand none is =
    record { konst = is.konst; ty = is.ty; is = is.is_constant; empty = is.bytes_are ∙ ap Some none; names = sym (called-by-type source e callee is.ty is.typed) }

pub names-callee : (source : Source) (e callee : ℕ) (bytes : List ℕ) (result : Result Operand MirLowerError) → bytes ≡ [] → IfOk result (λ operand. IsConstantOf source callee bytes operand.kind) → IfOk result (λ operand. IsCalleeOperand source e (Some callee) operand.kind)
names-callee source e callee bytes (Ok operand) none is = callee-operand source e callee bytes operand.kind none is
names-callee source e callee bytes (Err error) none is = is

-- and that of a method is one of the type of the function that it is resolved to
pub method-operand : (source : Source) (e : ℕ) (id : FunctionId) (konst : Const) (args : GenericArgs) (operand : OperandKind) → function_called source e None ≡ Some id → args.0 ≡ [] → constant_bytes konst ≡ Some [] →
    operand ≡ Constant konst (FnDef (CalledFunction id) args) → IsCalleeOperand source e None operand
method-operand source e id konst args operand names none empty is =
    record { konst = konst; ty = FnDef (CalledFunction id) args; is = is; empty = empty; names = names_function id args none ∙ sym names }

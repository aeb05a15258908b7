-- The texts of errors: a variant's name, with its parts in parentheses.
use Rattle.std.specs.Prelude.{ℕ, List, [], ◌∷◌, ◌++◌, codes, map}
use Rattle.mir.specs.declared.errors.ConstEvalError.{ConstEvalError}
use Rattle.mir.specs.declared.errors.ConstEvalError.TheVariants as constant
use Rattle.mir.specs.declared.errors.LayoutError.{LayoutError}
use Rattle.mir.specs.declared.errors.LayoutError.TheVariants as layout
use Rattle.mir.specs.declared.errors.MirEvalError.{MirEvalError, MirEvalError-F, fold-MirEvalError}
use Rattle.mir.specs.declared.errors.MirEvalError.TheOpen as eval
use Rattle.mir.specs.declared.errors.MirLowerError.{MirLowerError}
use Rattle.mir.specs.declared.errors.MirLowerError.TheVariants as lower
use Rattle.mir.specs.declared.errors.TrailEntry.{TrailEntry}
use Rattle.world.specs.declared.database.HirDatabase.{HirDatabase}
use Rattle.report_text.specs.Ids.{callee_text, crate_text, def_text, function_text, span_text}
use Rattle.report_text.specs.Texts.{bracketed, named, quoted}
use Rattle.report_text.specs.Types.{type_text}

-- why a type has no layout
abbrev pub layout_error_text : LayoutError → List ℕ
layout_error_text layout.HasPlaceholder = codes "HasPlaceholder"
layout_error_text layout.Unknown = codes "Unknown"

-- the text of a call that an error passed through: what was called, at which place in the source, and the body that this place is in
abbrev pub entry_text : TrailEntry → List ℕ
entry_text entry = callee_text entry.callee ++ (codes " at " ++ (span_text entry.span ++ (codes " of " ++ def_text entry.caller)))

-- the text of all calls that an error passed through, in brackets
abbrev pub trail_text : List TrailEntry → List ℕ
trail_text trail = bracketed (map entry_text trail)

-- why a body could not be lowered to MIR
abbrev pub lower_error_text : MirLowerError → List ℕ
lower_error_text (lower.LayoutError error) = named (codes "LayoutError") (layout_error_text error ∷ [])
lower_error_text lower.IncompleteExpr = codes "IncompleteExpr"
lower_error_text (lower.UnresolvedName name) = named (codes "UnresolvedName") (quoted name ∷ [])
lower_error_text lower.HasErrors = codes "HasErrors"
lower_error_text (lower.TypeError text) = named (codes "TypeError") (quoted text ∷ [])
lower_error_text (lower.NotSupported text) = named (codes "NotSupported") (quoted text ∷ [])
lower_error_text lower.ContinueWithoutLoop = codes "ContinueWithoutLoop"
lower_error_text lower.BreakWithoutLoop = codes "BreakWithoutLoop"
lower_error_text lower.UnresolvedLabel = codes "UnresolvedLabel"
lower_error_text lower.InaccessibleLocal = codes "InaccessibleLocal"
lower_error_text lower.NoMemory = codes "NoMemory"

-- the text of an error of running MIR, from that of the error that it wraps, if it wraps one
abbrev pub eval_layer_text : HirDatabase → MirEvalError-F (List ℕ) → List ℕ
eval_layer_text world (eval.LayoutError error ty) = named (codes "LayoutError") (layout_error_text error ∷ type_text world ty ∷ [])
eval_layer_text world (eval.TargetDataLayoutNotAvailable krate) = named (codes "TargetDataLayoutNotAvailable") (crate_text krate ∷ [])
eval_layer_text world (eval.UndefinedBehavior text) = named (codes "UndefinedBehavior") (quoted text ∷ [])
eval_layer_text world (eval.Panic text) = named (codes "Panic") (quoted text ∷ [])
eval_layer_text world (eval.MirLowerError id error) = named (codes "MirLowerError") (function_text id ∷ lower_error_text error ∷ [])
eval_layer_text world (eval.TypeIsUnsized ty text) = named (codes "TypeIsUnsized") (type_text world ty ∷ quoted text ∷ [])
eval_layer_text world (eval.NotSupported text) = named (codes "NotSupported") (quoted text ∷ [])
eval_layer_text world (eval.InFunction inner trail) = named (codes "InFunction") (inner ∷ trail_text trail ∷ [])
eval_layer_text world eval.ExecutionLimitExceeded = codes "ExecutionLimitExceeded"
eval_layer_text world eval.StackOverflow = codes "StackOverflow"
eval_layer_text world eval.MemoryLimitExceeded = codes "MemoryLimitExceeded"
eval_layer_text world (eval.InternalError text) = named (codes "InternalError") (quoted text ∷ [])
eval_layer_text world eval.NoMemory = codes "NoMemory"

-- the text of an error of running MIR
unfoldable pub eval_error_text : HirDatabase → MirEvalError → List ℕ
eval_error_text world = fold-MirEvalError (List ℕ) (eval_layer_text world)

-- the text of an error of constant evaluation, after the phase that it is from: lowering to MIR, or running the MIR
abbrev pub fault_text : HirDatabase → ConstEvalError → List ℕ
fault_text world (constant.MirLowerError error) = codes "lower " ++ lower_error_text error
fault_text world (constant.MirEvalError error) = codes "eval " ++ eval_error_text world error
fault_text world constant.NoMemory = codes "eval NoMemory"

-- Why a type has no layout, and how errors are carried upwards.
use Rattle.std.specs.Prelude.{if◌then◌else◌}
use Rattle.types.specs.declared.ty.Ty.{Ty}
use Rattle.mentions.specs.Mentions.{holds_param}
use Rattle.mir.specs.declared.errors.ConstEvalError.{ConstEvalError}
use Rattle.mir.specs.declared.errors.ConstEvalError.TheVariants as constant
use Rattle.mir.specs.declared.errors.LayoutError.{LayoutError}
use Rattle.mir.specs.declared.errors.LayoutError.TheVariants as layout
use Rattle.mir.specs.declared.errors.MirEvalError.{MirEvalError}
use Rattle.mir.specs.declared.errors.MirEvalError as eval
use Rattle.mir.specs.declared.errors.MirLowerError.{MirLowerError}
use Rattle.mir.specs.declared.errors.MirLowerError.TheVariants as lower

-- why a type that has no entry in the world's layouts has no layout: it holds a generic parameter, or none
unfoldable pub layout_error_of : Ty → LayoutError
layout_error_of ty = if holds_param ty then layout.HasPlaceholder else layout.Unknown

-- want of memory is passed on, and each other refusal is carried
abbrev pub from_lower_error : MirLowerError → ConstEvalError
from_lower_error lower.NoMemory = constant.NoMemory
from_lower_error error = constant.MirLowerError error

-- want of memory is passed on, and each other fault is carried
abbrev pub from_eval_error : MirEvalError → ConstEvalError
from_eval_error eval.NoMemory = constant.NoMemory
from_eval_error error = constant.MirEvalError error

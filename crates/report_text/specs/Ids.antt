-- The texts of the ids of items, of nodes of a body and of MIR locals: a word for what has the id, and a number.
use Rattle.std.specs.Prelude.{ℕ, List, ◌++◌, codes, decimal}
use Rattle.either.specs.declared.Either.{Either}
use Rattle.either.specs.declared.Either.TheVariants.{Left, Right}
use Rattle.mir.specs.declared.ids.LocalId.{LocalId}
use Rattle.mir.specs.declared.span.MirSpan.{MirSpan}
use Rattle.mir.specs.declared.span.MirSpan.TheVariants.{ExprId, PatId, BindingId, Unknown}
use Rattle.types.specs.declared.ids.Crate.{Crate}
use Rattle.types.specs.declared.ids.DefWithBodyId.{DefWithBodyId}
use Rattle.types.specs.declared.ids.DefWithBodyId.TheVariants as body
use Rattle.types.specs.declared.ids.FunctionId.{FunctionId}
use Rattle.types.specs.declared.ids.GenericParamId.{GenericParamId}
use Rattle.types.specs.declared.ids.GenericParamId.TheVariants.{TypeParamId, ConstParamId}
use Rattle.types.specs.declared.ids.InternedClosureId.{InternedClosureId}
use Rattle.types.specs.declared.ids.TraitId.{TraitId}

-- the text of a function
abbrev pub function_text : FunctionId → List ℕ
function_text id = codes "fn#" ++ decimal id.0

-- the text of a definition with a body
abbrev pub def_text : DefWithBodyId → List ℕ
def_text (body.FunctionId id) = function_text id
def_text (body.StaticId id) = codes "static#" ++ decimal id.0
def_text (body.ConstId id) = codes "const#" ++ decimal id.0
def_text (body.VariantId id) = codes "variant#" ++ decimal id.0

-- the text of a generic parameter
abbrev pub generic_param_text : GenericParamId → List ℕ
generic_param_text (TypeParamId id) = codes "typaram#" ++ decimal id.0
generic_param_text (ConstParamId id) = codes "constparam#" ++ decimal id.0

-- the text of a trait
abbrev pub trait_text : TraitId → List ℕ
trait_text id = codes "trait#" ++ decimal id.0

-- the text of a crate
abbrev pub crate_text : Crate → List ℕ
crate_text krate = codes "crate#" ++ decimal krate.0

-- the text of a closure
abbrev pub closure_text : InternedClosureId → List ℕ
closure_text id = codes "closure#" ++ decimal id.0

-- the text of what a call enters: a function or a closure
abbrev pub callee_text : Either FunctionId InternedClosureId → List ℕ
callee_text (Left id) = function_text id
callee_text (Right id) = closure_text id

-- the text of a local of a MIR body
abbrev pub local_text : LocalId → List ℕ
local_text id = codes "local#" ++ decimal id.0

-- the text of a place in the source, which is a node of the body that the MIR was lowered from
abbrev pub span_text : MirSpan → List ℕ
span_text (ExprId id) = codes "expr#" ++ decimal id.0
span_text (PatId id) = codes "pat#" ++ decimal id.0
span_text (BindingId id) = codes "binding#" ++ decimal id.0
span_text Unknown = codes "unknown"

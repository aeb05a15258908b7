-- The form of a struct all of whose fields are given by expressions.
use Rattle.std.proofs.Common.{◌≡◌, ℕ, suc, ◌+◌, ◌<◌, ◌≤◌, List, [], ◌∷◌, ◌++◌, length, drop, Option, Some, None, option_map, refl, sym, ◌∙◌, ap, arith, length-append, length-drop}
use Rattle.std.specs.Prelude.{IsSome}
use Rattle.std.proofs.lemmas.List.{length-map}
use Rattle.types.specs.declared.ids.ExprId.{ExprId}
use Rattle.world.specs.Nodes.{expr_numbers, field_numbers}
use Rattle.world.specs.declared.expr.RecordLitField.{RecordLitField}
use Rattle.mir.specs.declared.operand.Operand.{Operand}
use Rattle.source_meaning.specs.Core as expr
use Rattle.source_meaning.specs.Core.{CoreExpr, MakeStruct}
use Rattle.source_meaning.specs.Source.{Source, node}
use Rattle.body_forms.specs.Form.{core_form, exprs_given, places_given}
use Rattle.body_forms.specs.declared.form.Form.TheVariants as form
use Rattle.body_forms.specs.declared.structs.StructValue.{StructValue}

-- as many operands were lowered as expressions
pub one-more-operand : (args : List ExprId) (operands : List Operand) (operand : Operand) (all : List Operand) (i : ℕ) → i < length args → all ≡ operands ++ operand ∷ [] →
    length operands + length (drop i args) ≡ length args → length all + length (drop (i + 1) args) ≡ length args
one-more-operand args operands operand all i less pushed so-far =
    let long = ap length pushed ∙ length-append operands (operand ∷ []) in
    omega (arith, less, so-far, long, length-drop i args, length-drop (i + 1) args)

pub all-operands : (args : List ExprId) (operands : List Operand) (i : ℕ) → length args ≤ i → length operands + length (drop i args) ≡ length args → length operands ≡ length args
all-operands args operands i none so-far = omega (arith, none, so-far, length-drop i args)

-- and as many expressions are there as fields are written
pub as-many-written : (parts : List ExprId) (written : List RecordLitField) → expr_numbers parts ≡ field_numbers written → length parts ≡ length written
as-many-written [] [] same = refl
as-many-written [] (field ∷ written) same = absurd cc
as-many-written (part ∷ parts) [] same = absurd cc
as-many-written (part ∷ parts) (field ∷ written) same = ap suc (as-many-written parts written (let rest : expr_numbers parts ≡ field_numbers written = cc in rest))

-- and so are there as numbers
pub as-many-numbers : (parts : List ExprId) (numbers : List ℕ) → expr_numbers parts ≡ numbers → length parts ≡ length numbers
as-many-numbers parts numbers same = sym (length-map parts (λ (id : ExprId). id.0)) ∙ ap length same

-- the strict form that a struct is whose fields are given by expressions at places
abbrev pub struct_with : StructValue → List ℕ → CoreExpr
struct_with value places = expr.Strict (MakeStruct value.made.id value.made.args.now places) (exprs_given value.given)

pub record HasStructForm (source : Source) (e : ℕ) (value : StructValue) : Type 0 where
  pub places : List ℕ
  pub are : places_given value ≡ Some places
  pub form : node source e ≡ Some (struct_with value places)

pub struct-form : (source : Source) (e : ℕ) (value : StructValue) → node source e ≡ core_form (form.Struct value) → IsSome (places_given value) → HasStructForm source e value
struct-form source e value is given = by (places_given value) refl is given
  where
    by : (found : Option (List ℕ)) → places_given value ≡ found → node source e ≡ option_map (struct_with value) found → IsSome found → HasStructForm source e value
    by (Some places) are is given = record { places = places; are = are; form = is }
    by None are is given = absurd cc

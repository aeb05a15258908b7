-- The form of an expression, by its variant and by how its value is adjusted.
use Rattle.std.proofs.Common.{◌≡◌, ℕ, Bool, true, false, ◌&&◌, cond, if◌then◌else◌, Option, Some, None, option_and_then, option_map, refl, ap, ◌∙◌, inl, inr}
use Rattle.source_meaning.specs.Core.{CoreExpr, Findings, Keep, Convert, cast_operation, core_of, is_coercion, is_number_type, is_literal, is_place, value_type}
use Rattle.source_meaning.specs.Source.{Source, diverges, findings, is_adjusted, node, unadjusted}
use Rattle.types.specs.declared.ids.ExprId.{ExprId}
use Rattle.world.specs.declared.expr.Expr.{Expr}
use Rattle.world.specs.declared.expr.Expr.TheVariants as whole
use Rattle.world.specs.declared.infer.InferenceResult.{InferenceResult}
use Rattle.world.specs.Lookups.{expr_of, type_of}
use Rattle.body_forms.specs.declared.form.Form.{Form}
use Rattle.body_forms.specs.declared.form.Form.TheVariants as form
use Rattle.body_forms.specs.Form.{IsFormOf, IsCauseAt, HasForm, core_form, literal_sources, places_given}

-- an expression of none of the forms that have a meaning
pub otherwise : (found : Findings) (e : Expr) → ((l : _) → e ≡ whole.Literal l → ⊥) → ((name : _) → e ≡ whole.Path name → ⊥) → ((base : _) (name : _) → e ≡ whole.Field base name → ⊥) → ((base : _) (index : _) → e ≡ whole.Index base index → ⊥) → ((operand : _) (op : _) → e ≡ whole.UnaryOp operand op → ⊥) → ((operand : _) → e ≡ whole.Cast operand → ⊥) → ((lhs : _) (rhs : _) (op : _) → e ≡ whole.BinaryOp lhs rhs op → ⊥) → ((condition : _) (then_branch : _) (else_branch : _) → e ≡ whole.If condition then_branch else_branch → ⊥) → ((target : _) (value : _) → e ≡ whole.Assignment target value → ⊥) → ((statements : _) (tail : _) (label : _) → e ≡ whole.Block statements tail label → ⊥) → ((body : _) (label : _) → e ≡ whole.Loop body label → ⊥) → ((value : _) (label : _) → e ≡ whole.Break value label → ⊥) → ((label : _) → e ≡ whole.Continue label → ⊥) → ((value : _) → e ≡ whole.Return value → ⊥) → ((callee : _) (args : _) → e ≡ whole.Call callee args → ⊥) → ((receiver : _) (args : _) (name : _) → e ≡ whole.MethodCall receiver args name → ⊥) → ((parts : _) → e ≡ whole.Tuple parts → ⊥) → ((elements : _) → e ≡ whole.Array elements → ⊥) → ((initializer : _) → e ≡ whole.Repeat initializer → ⊥) → ((path : _) (written : _) (base : _) → e ≡ whole.RecordLit path written base → ⊥) → (e ≡ whole.Missing → ⊥) → IsFormOf found e form.Unbuilt
otherwise found (whole.Literal l) literal path part element unary cast binary either assigned block loop break continue return call method tuple array repeat literal_of_struct missing = absurd (literal l refl)
otherwise found (whole.Path name) literal path part element unary cast binary either assigned block loop break continue return call method tuple array repeat literal_of_struct missing = absurd (path name refl)
otherwise found (whole.Field base name) literal path part element unary cast binary either assigned block loop break continue return call method tuple array repeat literal_of_struct missing = absurd (part base name refl)
otherwise found (whole.Index base index) literal path part element unary cast binary either assigned block loop break continue return call method tuple array repeat literal_of_struct missing = absurd (element base index refl)
otherwise found (whole.UnaryOp operand op) literal path part element unary cast binary either assigned block loop break continue return call method tuple array repeat literal_of_struct missing = absurd (unary operand op refl)
otherwise found (whole.Cast operand) literal path part element unary cast binary either assigned block loop break continue return call method tuple array repeat literal_of_struct missing = absurd (cast operand refl)
otherwise found (whole.BinaryOp lhs rhs op) literal path part element unary cast binary either assigned block loop break continue return call method tuple array repeat literal_of_struct missing = absurd (binary lhs rhs op refl)
otherwise found (whole.If condition then_branch else_branch) literal path part element unary cast binary either assigned block loop break continue return call method tuple array repeat literal_of_struct missing = absurd (either condition then_branch else_branch refl)
otherwise found (whole.Assignment target value) literal path part element unary cast binary either assigned block loop break continue return call method tuple array repeat literal_of_struct missing = absurd (assigned target value refl)
otherwise found (whole.Block statements tail label) literal path part element unary cast binary either assigned block loop break continue return call method tuple array repeat literal_of_struct missing = absurd (block statements tail label refl)
otherwise found (whole.Loop body label) literal path part element unary cast binary either assigned block loop break continue return call method tuple array repeat literal_of_struct missing = absurd (loop body label refl)
otherwise found (whole.Break value label) literal path part element unary cast binary either assigned block loop break continue return call method tuple array repeat literal_of_struct missing = absurd (break value label refl)
otherwise found (whole.Continue label) literal path part element unary cast binary either assigned block loop break continue return call method tuple array repeat literal_of_struct missing = absurd (continue label refl)
otherwise found (whole.Return value) literal path part element unary cast binary either assigned block loop break continue return call method tuple array repeat literal_of_struct missing = absurd (return value refl)
otherwise found (whole.Call callee args) literal path part element unary cast binary either assigned block loop break continue return call method tuple array repeat literal_of_struct missing = absurd (call callee args refl)
otherwise found (whole.MethodCall receiver args name) literal path part element unary cast binary either assigned block loop break continue return call method tuple array repeat literal_of_struct missing = absurd (method receiver args name refl)
otherwise found (whole.Tuple parts) literal path part element unary cast binary either assigned block loop break continue return call method tuple array repeat literal_of_struct missing = absurd (tuple parts refl)
otherwise found (whole.Array elements) literal path part element unary cast binary either assigned block loop break continue return call method tuple array repeat literal_of_struct missing = absurd (array elements refl)
otherwise found (whole.Repeat initializer) literal path part element unary cast binary either assigned block loop break continue return call method tuple array repeat literal_of_struct missing = absurd (repeat initializer refl)
otherwise found (whole.RecordLit path' written base') literal path part element unary cast binary either assigned block loop break continue return call method tuple array repeat literal_of_struct missing = absurd (literal_of_struct path' written base' refl)
otherwise found whole.Missing literal path part element unary cast binary either assigned block loop break continue return call method tuple array repeat literal_of_struct missing = absurd (missing refl)
otherwise found _ literal path part element unary cast binary either assigned block loop break continue return call method tuple array repeat literal_of_struct missing = record { core = refl; cause = λ lacks. lacks }

node-adjusted : (source : Source) (e : ℕ) → is_adjusted source e ≡ true → node source e ≡ None
unfolding node
node-adjusted source e is = ap (λ adjusted. if adjusted then None else option_and_then (core_of (findings source e)) (expr_of source.body e)) is

pub node-plain : (source : Source) (e : ℕ) (given : Expr) → is_adjusted source e ≡ false → expr_of source.body e ≡ Some given → node source e ≡ core_of (findings source e) given
unfolding node
node-plain source e given is there =
    ap (λ adjusted. if adjusted then None else option_and_then (core_of (findings source e)) (expr_of source.body e)) is
    ∙ ap (option_and_then (core_of (findings source e))) there

-- an expression whose value is adjusted otherwise than by `NeverToAny` isn't built, where that is looked at
pub form-adjusted : (source : Source) (e : ℕ) → is_adjusted source e ≡ true → HasForm source e form.Unbuilt
form-adjusted source e is = record { core = node-adjusted source e is; cause = inl is }

-- any other has the form of its variant
pub form-plain : (source : Source) (e : ℕ) (given : Expr) (f : Form) → is_adjusted source e ≡ false → expr_of source.body e ≡ Some given → IsFormOf (findings source e) given f → HasForm source e f
form-plain source e given f is there of =
    record { core = node-plain source e given is there ∙ of.core; cause = by-form f of }
  where
    by-form : (f : Form) → IsFormOf (findings source e) given f → IsCauseAt source e f
    by-form form.Incomplete of = record { expr = given; stands = there; plain = is; lacks = of.cause }
    by-form form.Unbuilt of = inr (record { expr = given; stands = there; no_form = of.core; complete = of.cause })
    by-form (form.Struct value) of = of.cause
    by-form (form.Update literal base) of = of.cause
    by-form _ of = tt

-- an adjusted expression is none of the forms for those that use its value
pub unadjusted-none : (source : Source) (e : ℕ) → diverges source e ≡ true → unadjusted source e ≡ None
unadjusted-none source e is = ap (λ (test : Bool). cond test None (node source e)) is

-- a form that is no literal's, and one that is no place's
no-literal-strict : {A : Type 0} (form_with : A → CoreExpr) → ((places : A) → is_literal (Some (form_with places)) ≡ false) → (places : Option A) → is_literal (option_map form_with places) ≡ false
no-literal-strict form_with each (Some places) = each places
no-literal-strict form_with each None = refl

no-place-strict : {A : Type 0} (form_with : A → CoreExpr) → ((places : A) → is_place (Some (form_with places)) ≡ false) → (places : Option A) → is_place (option_map form_with places) ≡ false
no-place-strict form_with each (Some places) = each places
no-place-strict form_with each None = refl

no-literal-form : (f : Form) → ((l : _) → f ≡ form.Literal l → ⊥) → is_literal (core_form f) ≡ false
no-literal-form (form.Literal l) differ = absurd (differ l refl)
no-literal-form (form.Struct value) differ = no-literal-strict _ (λ places. refl) (places_given value)
no-literal-form (form.Update literal base) differ = no-literal-strict _ (λ sources. refl) (literal_sources literal)
no-literal-form _ differ = refl

pub no-literal : (source : Source) (e : ℕ) (f : Form) → HasForm source e f → ((l : _) → f ≡ form.Literal l → ⊥) → is_literal (node source e) ≡ false
no-literal source e f has differ = ap is_literal has.core ∙ no-literal-form f differ

no-place-form : (f : Form) → ((name : _) → f ≡ form.Path name → ⊥) → ((base : _) (field : _) → f ≡ form.Field base field → ⊥) → is_place (core_form f) ≡ false
no-place-form (form.Path name) path part = absurd (path name refl)
no-place-form (form.Field base field) path part = absurd (part base field refl)
no-place-form (form.Struct value) path part = no-place-strict _ (λ places. refl) (places_given value)
no-place-form (form.Update literal base) path part = no-place-strict _ (λ sources. refl) (literal_sources literal)
no-place-form _ path part = refl

pub no-place : (source : Source) (e : ℕ) (f : Form) → HasForm source e f → ((name : _) → f ≡ form.Path name → ⊥) → ((base : _) (field : _) → f ≡ form.Field base field → ⊥) → is_place (node source e) ≡ false
no-place source e f has path part = ap is_place has.core ∙ no-place-form f path part

-- what a cast computes
pub cast-keeps : (infer : InferenceResult) (cast operand : ExprId) → is_coercion infer operand ≡ true → cast_operation infer cast operand ≡ Some Keep
unfolding cast_operation
cast-keeps infer cast operand is = rw is refl

pub cast-converts : (infer : InferenceResult) (cast operand : ExprId) → is_coercion infer operand ≡ false → (is_number_type (value_type infer operand) && is_number_type (type_of infer cast.0)) ≡ true → cast_operation infer cast operand ≡ Some Convert
unfolding cast_operation
cast-converts infer cast operand is are = rw (is, are) refl

pub cast-of-none : (infer : InferenceResult) (cast operand : ExprId) → is_coercion infer operand ≡ false → (is_number_type (value_type infer operand) && is_number_type (type_of infer cast.0)) ≡ false → cast_operation infer cast operand ≡ None
unfolding cast_operation
cast-of-none infer cast operand is are = rw (is, are) refl

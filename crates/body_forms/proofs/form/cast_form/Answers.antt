-- What a cast computes, by whether it is a coercion, and whether it is between numbers.
use Rattle.std.proofs.Common.{sym, ap, ◌∙◌}
use Rattle.source_meaning.specs.Core.{unary_form}
use Rattle.body_forms.proofs.Forms.{cast-keeps, cast-converts, cast-of-none}
use Rattle.body_forms.proofs.form.cast_form.Goals as goal

pub returns-then-is_coercion : goal.returns-then-is_coercion
returns-then-is_coercion c =
    record {
      core = ap (unary_form c.args.operand.0) (cast-keeps c.args.context.now.infer.now c.args.cast c.args.operand (sym c.is_coercion.ensures ∙ c.if-is_coercion.true));
      cause = tt;
    }

pub returns-then-is_conversion : goal.returns-then-is_conversion
returns-then-is_conversion c =
    record {
      core = ap (unary_form c.args.operand.0) (cast-converts c.args.context.now.infer.now c.args.cast c.args.operand (sym c.is_coercion.ensures ∙ c.if-is_coercion.false) (sym c.is_conversion.ensures ∙ c.if-is_conversion.true));
      cause = tt;
    }

pub returns-else-is_conversion : goal.returns-else-is_conversion
returns-else-is_conversion c =
    record {
      core = ap (unary_form c.args.operand.0) (cast-of-none c.args.context.now.infer.now c.args.cast c.args.operand (sym c.is_coercion.ensures ∙ c.if-is_coercion.false) (sym c.is_conversion.ensures ∙ c.if-is_conversion.false));
      cause = λ lacks. lacks;
    }

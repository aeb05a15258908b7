-- The constant has the bytes, and the operand the type.
use Rattle.std.proofs.Common.{ap}
use Rattle.mir.specs.declared.operand.OperandKind.TheVariants.{Constant}
use Rattle.types.specs.declared.ty.Const as whole
use Rattle.types.specs.declared.ty.Const.TheOpen as layer
use Rattle.types.specs.declared.ty.Const.TheVariants.{Value}
use Rattle.types.specs.declared.ty.Const.TheViews.{out-roll-Const}
use Rattle.types.specs.declared.ty.MemoryMap.TheVariants.{Empty}
use Rattle.mir.specs.Run.{layer_bytes}
use Rattle.body_forms.proofs.literal.constant.Goals as goal

pub returns-clause-lowered : goal.returns-clause-lowered
unfolding whole.roll-Const whole.out-Const denote.Hole.Carrier.roll
returns-clause-lowered c =
    record {
      konst = Value (record { ty = c.in_ok-try_clone.field-0; memory = c.args.memory; memory_map = Empty });
      ty = c.args.ty.now;
      is_constant = ap (Constant (Value (record { ty = c.in_ok-try_clone.field-0; memory = c.args.memory; memory_map = Empty }))) c.in_ok-ty.ensures;
      bytes_are = ap layer_bytes (out-roll-Const (layer.Value (record { ty = c.in_ok-try_clone.field-0; memory = c.args.memory; memory_map = Empty })));
      typed = c.requires;
    }

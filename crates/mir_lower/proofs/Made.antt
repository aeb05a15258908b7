-- A struct is made of the operands of its fields.
use Rattle.std.proofs.Common.{◌≡◌, ℕ, zero, suc, List, [], ◌∷◌, slice_get, Option, Some, sym, ◌∙◌, subst, refl}
use Rattle.types.specs.declared.ids.AdtId.TheVariants as adt
use Rattle.types.specs.declared.ids.StructId.{StructId}
use Rattle.types.specs.declared.ids.VariantId.TheVariants as variant
use Rattle.types.specs.declared.ty.GenericArgs.{GenericArgs}
use Rattle.types.specs.declared.ty.Ty.TheVariants as type
use Rattle.world.specs.Lookups.{layout_of}
use Rattle.mir.specs.declared.ids.LocalId.{LocalId}
use Rattle.mir.specs.declared.operand.AggregateKind.TheVariants as kind
use Rattle.mir.specs.declared.operand.Operand.{Operand as MirOperand}
use Rattle.mir.specs.declared.operand.OperandKind.{OperandKind}
use Rattle.mir.specs.declared.operand.Rvalue.{Rvalue}
use Rattle.mir.specs.declared.operand.Rvalue.TheVariants.{Aggregate}
use Rattle.mir.specs.declared.span.MirSpan.{MirSpan}
use Rattle.mir.specs.Memory.{Memory}
use Rattle.mir.specs.Run.{Frame, reads_out}
use Rattle.source_meaning.specs.Meaning.{made_into, put_answer, struct_of, values_of}
use Rattle.source_meaning.specs.Places.{some_out}
use Rattle.source_meaning.specs.Source.{Source, Cell, Operand, Store}
use Rattle.source_meaning.specs.Structs.{picked}
use Rattle.source_meaning.proofs.Structs.{picked-more, picked-none, picks-first}
use Rattle.mir_lower.specs.Does.{here, Fits, FitAll, Holds, IsFrameOf, Landings, Nothing, Reaches}
use Rattle.mir_graph.specs.Graph.{Shape, local_of, with_statement}
use Rattle.mir_lower.specs.Growth.{Grows, IsOpen, IsSound}
use Rattle.mir_lower.proofs.Operations.{assignment}
use Rattle.mir_lower.proofs.Rvalues.{kinds, struct-agrees}
use Rattle.mir_lower.proofs.Steps.{assigned-agreeing, assigned-within}
use Rattle.mir_lower.proofs.Within.{some-out-same}

-- the value of an operand
pub record FitsOne (source : Source) (operand : OperandKind) (whole : Shape) (frame : Frame) (found : Option Operand) : Type 0 where
  pub value : Operand
  pub is : found ≡ Some value
  pub fits : Fits source operand whole frame value

pub value-of : (source : Source) (whole : Shape) (frame : Frame) (operands : List MirOperand) (values : List Operand) → FitAll source (kinds operands) whole frame values → (k : ℕ) (x : MirOperand) → slice_get operands k ≡ Some x → FitsOne source x.kind whole frame (slice_get values k)
value-of source whole frame [] values fit k x at = absurd cc
value-of source whole frame (one ∷ operands) [] fit k x at = absurd fit
value-of source whole frame (one ∷ operands) (value ∷ values) fit zero x at =
    let same : one ≡ x = cc in record { value = value; is = refl; fits = subst (λ (y : MirOperand). Fits source y.kind whole frame value) same fit.0 }
value-of source whole frame (one ∷ operands) (value ∷ values) fit (suc k) x at = value-of source whole frame operands values fit.1 k x at

pub record FitFields (source : Source) (fields : List MirOperand) (whole : Shape) (frame : Frame) (found : Option (List Operand)) : Type 0 where
  pub chosen : List Operand
  pub are : found ≡ Some chosen
  pub fit : FitAll source (kinds fields) whole frame chosen

-- operands at places fit those of the source at these
pub fit-picked : (source : Source) (whole : Shape) (frame : Frame) (operands : List MirOperand) (values : List Operand) → FitAll source (kinds operands) whole frame values → (places : List ℕ) (fields : List MirOperand) → picked places operands ≡ Some fields → FitFields source fields whole frame (picked places values)
fit-picked source whole frame operands values fit [] fields is =
    let none : Some fields ≡ Some [] = sym is ∙ picked-none operands in
    let same : fields ≡ [] = cc in
    record { chosen = []; are = picked-none values; fit = subst (λ (f : List MirOperand). FitAll source (kinds f) whole frame []) (sym same) tt }
fit-picked source whole frame operands values fit (place ∷ places) fields is =
    let from = picks-first place places operands fields is in
    let first = value-of source whole frame operands values fit place from.first from.there in
    let rest = fit-picked source whole frame operands values fit places from.others from.rest in
    record {
      chosen = first.value ∷ rest.chosen;
      are = picked-more place places values first.value rest.chosen first.is rest.are;
      fit = subst (λ (f : List MirOperand). FitAll source (kinds f) whole frame (first.value ∷ rest.chosen)) (sym from.are) (first.fits, rest.fit);
    }

-- the assignment of a struct: the source's is made of the operands that fit those of its fields
module _ (source : Source) (s whole : Shape) (frame : Frame) (to : LocalId) (id : StructId) (args : GenericArgs) (fields : List MirOperand) (span : MirSpan) (opened : IsOpen s) (sound : IsSound source whole) (is : IsFrameOf whole frame) (world : frame.program.world ≡ source.world) (lands : Landings) where
  abbrev pub made-of-fields : Rvalue
  made-of-fields = Aggregate (kind.Adt (variant.StructId id) args) fields

  pub made-reaches : Grows (with_statement (assignment to made-of-fields span) s) whole → (c : Cell) → local_of whole c ≡ Some to.0 → (store : Store) (memory : Memory) → Holds whole frame store memory → (found : Option (List Operand)) → FitFields source fields whole frame found →
      Reaches source whole lands frame (here s) (here (with_statement (assignment to made-of-fields span) s)) memory (Nothing whole frame) (made_into source id args found (record { cell = c }) store)
  unfolding reads_out
  made-reaches grows c local store memory holds found fits =
      let answer = struct_of (layout_of source.world (type.Adt (adt.StructId id) args)) (values_of source store fits.chosen) in
      subst (λ given. Reaches source whole lands frame (here s) (here (with_statement (assignment to made-of-fields span) s)) memory (Nothing whole frame) (made_into source id args given (record { cell = c }) store)) (sym fits.are)
      (assigned-within source s whole frame to made-of-fields span opened sound is lands grows c local store memory holds (some_out source store fits.chosen) (some-out-same source whole frame store memory holds fields fits.chosen fits.fit) (put_answer store (record { cell = c }) answer)
      (λ within. assigned-agreeing source s whole frame to made-of-fields span opened sound is lands grows c local store memory holds answer (struct-agrees source whole frame id args fields fits.chosen store memory holds world fits.fit)))

-- What the graph's rvalues give: what the operations that they are answer.
use Rattle.std.proofs.Common.{◌≡◌, ◌||◌, ℕ, Bool, true, false, List, [], ◌∷◌, ◌++◌, map, flat_map, Option, Some, None, option_and_then, option_map, Result, Ok, Err, replicate, refl, sym, ap, ◌∙◌, subst}
use Rattle.std.specs.List.{concat}
use Rattle.numbers.specs.Aggregates.{with_part, with_parts, constructed}
use Rattle.numbers.specs.Constants.{number_in}
use Rattle.numbers.specs.declared.operator.Operator.{Operator}
use Rattle.numbers.specs.Operators.{Answer, Computes as Computed, Panics, Undefined, computed, converted, kind_of}
use Rattle.types.specs.declared.ids.AdtId.TheVariants as adt
use Rattle.types.specs.declared.ids.StructId.{StructId}
use Rattle.types.specs.declared.ids.VariantId.TheVariants as variant
use Rattle.types.specs.declared.ty.Const.{Const}
use Rattle.types.specs.declared.ty.GenericArgs.{GenericArgs}
use Rattle.types.specs.declared.ty.Ty.{Ty}
use Rattle.types.specs.declared.ty.Ty.TheVariants as type
use Rattle.world.specs.Checked.{fixed_size}
use Rattle.world.specs.Lookups.{layout_of}
use Rattle.world.specs.declared.database.HirDatabase.{HirDatabase}
use Rattle.world.specs.declared.layout.Layout.{Layout}
use Rattle.mir.specs.declared.errors.MirEvalError.{MirEvalError}
use Rattle.mir.specs.declared.errors.MirEvalError as error
use Rattle.mir.specs.declared.operand.AggregateKind.TheVariants as kind
use Rattle.mir.specs.declared.operand.CastKind.TheVariants.{IntToInt}
use Rattle.mir.specs.declared.operand.Operand.{Operand as MirOperand}
use Rattle.mir.specs.declared.operand.OperandKind.{OperandKind}
use Rattle.mir.specs.declared.operand.Rvalue.{Rvalue}
use Rattle.mir.specs.declared.operand.Rvalue.TheVariants.{Aggregate, Cast, CheckedBinaryOp, Repeat as Repeated, UnaryOp as Unary, Use}
use Rattle.mir.specs.declared.operand.UnOp.{UnOp}
use Rattle.mir.specs.declared.operand.UnOp.TheVariants as one
use Rattle.mir.specs.Memory.{Memory}
use Rattle.mir.specs.declared.body.MirBody.{MirBody}
use Rattle.mir.specs.declared.ids.LocalId.{LocalId}
use Rattle.mir.specs.Run.{Frame, operand_out as mir_out, reads_out, some_out, aggregated, before, cast_to, laid_out as mir_laid_out, part_outside, placed_parts, read, repeats, rvalue_bytes, operated, operated_on, computed_of, answered as answer, operand_bytes as mir_bytes, operand_type as mir_type, operands_bytes}
use Rattle.source_meaning.specs.Aggregates.{array_length, laid_out, made, repeated_for}
use Rattle.source_meaning.specs.Core.{Operation, Negate, Invert, Keep, Convert, Combine, MakeTuple, MakeArray, Repeat, MakeStruct}
use Rattle.source_meaning.specs.Meaning.{Value, operand_kind, value_of, values_of, answered, converted_to, struct_of}
use Rattle.source_meaning.specs.Places.{operand_bytes}
use Rattle.body_forms.specs.Form.{operation_of}
use Rattle.source_meaning.specs.Source.{Source, own_type, Store, Operand}
use Rattle.source_meaning.proofs.Aggregates.{length_of_array}
use Rattle.mir_lower.specs.Does.{Holds, Fits, FitAll}
use Rattle.mir_graph.specs.Graph.{Shape}
use Rattle.body_forms.specs.Operations.{IsKindOf, IsRvalueOf, several_operation}
use Rattle.body_forms.specs.declared.operation.Several.{Several}
use Rattle.body_forms.specs.declared.operation.Several.TheVariants as several

-- A run of the graph gives what an operation answers, where that is a value or a panic. Of an answer without meaning nothing is said.
abbrev pub Agrees : Answer → Result (List ℕ) MirEvalError → Type 0
Agrees (Computed bytes) result = result ≡ Ok bytes
Agrees (Panics word) result = result ≡ Err (error.Panic word)
Agrees Undefined result = Unit {0}

-- what is equal to the answer of the table of operators agrees with it
agrees : (given : Answer) (result : Result (List ℕ) MirEvalError) → result ≡ answer given → Agrees given result
unfolding answer
agrees (Computed bytes) result is = is
agrees (Panics word) result is = is
agrees Undefined result is = tt

-- the kinds of operands
abbrev pub kinds : List MirOperand → List OperandKind
kinds operands = map (λ (operand : MirOperand). operand.kind) operands

-- an operand of the graph has the bytes of a value, and its kind
pub record Reads (frame : Frame) (memory : Memory) (x : MirOperand) (value : Value) : Type 0 where
  pub bytes_are : mir_bytes frame memory x.kind ≡ Some value.bytes
  pub kind_is : option_and_then kind_of (mir_type frame.program.world frame.body x.kind) ≡ value.kind

-- operands of the graph have the bytes of values, one each
abbrev pub ReadAll : Frame → Memory → List MirOperand → List Value → Type 0
ReadAll frame memory [] [] = Unit {0}
ReadAll frame memory (x ∷ operands) (value ∷ values) = Reads frame memory x value × ReadAll frame memory operands values
ReadAll frame memory _ _ = ⊥

-- an rvalue of the graph is what the operation of an expression makes of its operands' values
abbrev pub Computes : Source → ℕ → Operation → List MirOperand → Rvalue → Type 0
Computes source e operation operands rvalue =
    (frame : Frame) (values : List Value) (memory : Memory) → frame.program.world ≡ source.world → ReadAll frame memory operands values →
    Agrees (answered source.world (own_type source e) operation values) (rvalue_bytes frame memory rvalue)

-- Operands that fit those of the source have their values, where these have some.

kind-of-read : (source : Source) (whole : Shape) (frame : Frame) (x : MirOperand) (value : Operand) → Fits source x.kind whole frame value → option_and_then kind_of (mir_type frame.program.world frame.body x.kind) ≡ operand_kind source value
kind-of-read source whole frame x value fits = ap (option_and_then kind_of) fits.ty

read-one : (source : Source) (whole : Shape) (frame : Frame) (store : Store) (memory : Memory) → Holds whole frame store memory → (x : MirOperand) (value : Operand) → Fits source x.kind whole frame value → (given : Value) → value_of source store value ≡ Some given → Reads frame memory x given
read-one source whole frame store memory holds x value fits given is = by_bytes (operand_bytes source store value) refl is
  where
    made-value : List ℕ → Value
    made-value b = record { kind = operand_kind source value; bytes = b }

    by_bytes : (bytes : Option (List ℕ)) → operand_bytes source store value ≡ bytes → option_map (λ (b : List ℕ). made-value b) bytes ≡ Some given → Reads frame memory x given
    by_bytes (Some bytes) are same =
        let is-given : made-value bytes ≡ given = cc in
        subst (Reads frame memory x) is-given
        (record { bytes_are = fits.bytes store memory holds ∙ are; kind_is = kind-of-read source whole frame x value fits })
    by_bytes None are same = absurd cc

pub read-all : (source : Source) (whole : Shape) (frame : Frame) (store : Store) (memory : Memory) → Holds whole frame store memory → (operands : List MirOperand) (values : List Operand) → FitAll source (kinds operands) whole frame values → (given : List Value) → values_of source store values ≡ Some given → ReadAll frame memory operands given
unfolding values_of
read-all source whole frame store memory holds [] [] fits given is = let none : [] ≡ given = cc in subst (ReadAll frame memory []) none tt
read-all source whole frame store memory holds [] (value ∷ values) fits given is = absurd fits
read-all source whole frame store memory holds (x ∷ operands) [] fits given is = absurd fits
read-all source whole frame store memory holds (x ∷ operands) (value ∷ values) fits given is =
    by_first (λ rest rest-is. read-all source whole frame store memory holds operands values fits.1 rest rest-is) (value_of source store value) refl is
  where
    Goal : Type 0
    Goal = ReadAll frame memory (x ∷ operands) given

    by_rest : ((rest : List Value) → values_of source store values ≡ Some rest → ReadAll frame memory operands rest) → (first : Value) → value_of source store value ≡ Some first → (rest : Option (List Value)) → values_of source store values ≡ rest → option_map (λ (others : List Value). first ∷ others) rest ≡ Some given → Goal
    by_rest others first first-is (Some rest) rest-is same =
        let all : first ∷ rest ≡ given = cc in
        subst (ReadAll frame memory (x ∷ operands)) all
        (read-one source whole frame store memory holds x value fits.0 first first-is, others rest rest-is)
    by_rest others first first-is None rest-is same = absurd cc

    by_first : ((rest : List Value) → values_of source store values ≡ Some rest → ReadAll frame memory operands rest) → (first : Option Value) → value_of source store value ≡ first → option_and_then (λ (v : Value). option_map (λ (others : List Value). v ∷ others) (values_of source store values)) first ≡ Some given → Goal
    by_first others (Some first) first-is same = by_rest others first first-is (values_of source store values) refl same
    by_first others None first-is same = absurd cc

-- An operator on one operand, and one on two.

one-answer : (world : HirDatabase) (ty : Option Ty) (op : UnOp) (value : Value) → computed_of op value.kind value.bytes ≡ answered world ty (operation_of op) (value ∷ [])
unfolding computed_of answered
one-answer world ty one.Not value = refl
one-answer world ty one.Neg value = refl

two-answer : (world : HirDatabase) (ty : Option Ty) (op : Operator) (left right : Value) → computed op left.kind right.kind left.bytes right.bytes ≡ answered world ty (Combine op) (left ∷ right ∷ [])
unfolding answered
two-answer world ty op left right = refl

unary-bytes : (frame : Frame) (memory : Memory) (op : UnOp) (x : MirOperand) (value : Value) → Reads frame memory x value → rvalue_bytes frame memory (Unary op x) ≡ answer (computed_of op value.kind value.bytes)
unfolding rvalue_bytes operated_on
unary-bytes frame memory op x value reads =
    ap (operated_on op (mir_type frame.program.world frame.body x.kind)) reads.bytes_are
    ∙ ap (λ k. answer (computed_of op k value.bytes)) reads.kind_is

unary-computes : (source : Source) (e : ℕ) (op : UnOp) (x : MirOperand) → Computes source e (operation_of op) (x ∷ []) (Unary op x)
unary-computes source e op x frame [] memory same reads = absurd reads
unary-computes source e op x frame (value ∷ []) memory same reads =
    agrees (answered source.world (own_type source e) (operation_of op) (value ∷ [])) (rvalue_bytes frame memory (Unary op x))
    (unary-bytes frame memory op x value reads.0 ∙ ap answer (one-answer source.world (own_type source e) op value))
unary-computes source e op x frame (value ∷ more ∷ rest) memory same reads = absurd reads.1

-- A cast: a coercion keeps the bytes, and any other converts them to the size of its type.

keep-bytes : (frame : Frame) (memory : Memory) (x : MirOperand) (value : Value) → Reads frame memory x value → rvalue_bytes frame memory (Use x) ≡ answer (Computed value.bytes)
unfolding rvalue_bytes answer
keep-bytes frame memory x value reads = ap read reads.bytes_are

keep-answer : (world : HirDatabase) (ty : Option Ty) (value : Value) → Computed value.bytes ≡ answered world ty Keep (value ∷ [])
unfolding answered
keep-answer world ty value = refl

keep-computes : (source : Source) (e : ℕ) (x : MirOperand) → Computes source e Keep (x ∷ []) (Use x)
keep-computes source e x frame [] memory same reads = absurd reads
keep-computes source e x frame (value ∷ []) memory same reads =
    agrees (answered source.world (own_type source e) Keep (value ∷ [])) (rvalue_bytes frame memory (Use x))
    (keep-bytes frame memory x value reads.0 ∙ ap answer (keep-answer source.world (own_type source e) value))
keep-computes source e x frame (value ∷ more ∷ rest) memory same reads = absurd reads.1

cast-by-size : (size : Option ℕ) (value : Value) → ◌≡◌ {A = Result (List ℕ) MirEvalError} (elim size [ Some bytes ↦ answer (converted value.kind bytes value.bytes) | None ↦ answer Undefined ]) (answer (converted_to size value))
cast-by-size (Some size) value = refl
cast-by-size None value = refl

cast-answer : (world : HirDatabase) (ty : Ty) (value : Value) → converted_to (fixed_size ty) value ≡ answered world (Some ty) Convert (value ∷ [])
unfolding answered
cast-answer world ty value = refl

cast-read : (ty : Ty) (from : Option Ty) (value : Value) → option_and_then kind_of from ≡ value.kind → cast_to ty from (Some value.bytes) ≡ answer (converted_to (fixed_size ty) value)
unfolding cast_to
cast-read ty from value is =
    ap (λ k. elim (fixed_size ty) [ Some size ↦ answer (converted k size value.bytes) | None ↦ answer Undefined ]) is ∙ cast-by-size (fixed_size ty) value

cast-bytes : (source : Source) (frame : Frame) (memory : Memory) (ty : Ty) (x : MirOperand) (value : Value) → Reads frame memory x value → rvalue_bytes frame memory (Cast IntToInt x ty) ≡ answer (answered source.world (Some ty) Convert (value ∷ []))
unfolding rvalue_bytes
cast-bytes source frame memory ty x value reads =
    ap (cast_to ty (mir_type frame.program.world frame.body x.kind)) reads.bytes_are
    ∙ cast-read ty (mir_type frame.program.world frame.body x.kind) value reads.kind_is
    ∙ ap answer (cast-answer source.world ty value)

cast-computes : (source : Source) (e : ℕ) (ty : Ty) (x : MirOperand) → own_type source e ≡ Some ty → Computes source e Convert (x ∷ []) (Cast IntToInt x ty)
cast-computes source e ty x typed frame [] memory same reads = absurd reads
cast-computes source e ty x typed frame (value ∷ []) memory same reads =
    agrees (answered source.world (own_type source e) Convert (value ∷ [])) (rvalue_bytes frame memory (Cast IntToInt x ty))
    (cast-bytes source frame memory ty x value reads.0 ∙ ap (λ t. answer (answered source.world t Convert (value ∷ []))) (sym typed))
cast-computes source e ty x typed frame (value ∷ more ∷ rest) memory same reads = absurd reads.1

binary-bytes : (frame : Frame) (memory : Memory) (op : Operator) (x y : MirOperand) (left right : Value) → Reads frame memory x left → Reads frame memory y right → rvalue_bytes frame memory (CheckedBinaryOp op x y) ≡ answer (computed op left.kind right.kind left.bytes right.bytes)
unfolding rvalue_bytes operated
binary-bytes frame memory op x y left right one other =
    let left-type = mir_type frame.program.world frame.body x.kind in
    let right-type = mir_type frame.program.world frame.body y.kind in
    ap (λ b. operated op left-type right-type b (mir_bytes frame memory y.kind)) one.bytes_are
    ∙ ap (operated op left-type right-type (Some left.bytes)) other.bytes_are
    ∙ ap (λ k. answer (computed op k (option_and_then kind_of right-type) left.bytes right.bytes)) one.kind_is
    ∙ ap (λ k. answer (computed op left.kind k left.bytes right.bytes)) other.kind_is

pub binary-agrees : (world : HirDatabase) (ty : Option Ty) (op : Operator) (x y : MirOperand) (frame : Frame) (values : List Value) (memory : Memory) → ReadAll frame memory (x ∷ y ∷ []) values → Agrees (answered world ty (Combine op) values) (rvalue_bytes frame memory (CheckedBinaryOp op x y))
binary-agrees world ty op x y frame [] memory reads = absurd reads
binary-agrees world ty op x y frame (left ∷ []) memory reads = absurd reads.1
binary-agrees world ty op x y frame (left ∷ right ∷ []) memory reads =
    agrees (answered world ty (Combine op) (left ∷ right ∷ [])) (rvalue_bytes frame memory (CheckedBinaryOp op x y))
    (binary-bytes frame memory op x y left right reads.0 reads.1.0 ∙ ap answer (two-answer world ty op left right))
binary-agrees world ty op x y frame (left ∷ right ∷ more ∷ rest) memory reads = absurd reads.1.1

binary-computes : (source : Source) (e : ℕ) (op : Operator) (x y : MirOperand) → Computes source e (Combine op) (x ∷ y ∷ []) (CheckedBinaryOp op x y)
binary-computes source e op x y frame values memory same reads = binary-agrees source.world (own_type source e) op x y frame values memory reads

-- Aggregates, of any number of operands.

parts-bytes : (frame : Frame) (memory : Memory) (operands : List MirOperand) (values : List Value) → ReadAll frame memory operands values → operands_bytes frame memory operands ≡ Some (map (λ (part : Value). part.bytes) values)
unfolding operands_bytes
parts-bytes frame memory [] [] reads = refl
parts-bytes frame memory [] (value ∷ values) reads = absurd reads
parts-bytes frame memory (x ∷ operands) [] reads = absurd reads
parts-bytes frame memory (x ∷ operands) (value ∷ values) reads =
    ap (λ bytes. before bytes (operands_bytes frame memory operands)) reads.0.bytes_are
    ∙ ap (before (Some value.bytes)) (parts-bytes frame memory operands values reads.1)

-- a part that stands where the definition puts it, and those behind it
placed-behind : (size offset : ℕ) (offsets : List ℕ) (parts : List (List ℕ)) (next : Option (List ℕ)) (done : List ℕ) → ((bytes : List ℕ) → with_parts offsets parts bytes ≡ Some done → placed_parts size offsets parts bytes ≡ Ok done) → option_and_then (with_parts offsets parts) next ≡ Some done → ◌≡◌ {A = Result (List ℕ) MirEvalError} (elim next [ Some bytes ↦ placed_parts size offsets parts bytes | None ↦ Err (part_outside size offset) ]) (Ok done)
placed-behind size offset offsets parts (Some bytes) done rest is = rest bytes is
placed-behind size offset offsets parts None done rest is = absurd cc

placed : (size : ℕ) (offsets : List ℕ) (parts : List (List ℕ)) (bytes done : List ℕ) → with_parts offsets parts bytes ≡ Some done → placed_parts size offsets parts bytes ≡ Ok done
unfolding with_parts placed_parts
placed size [] [] bytes done is = let same : bytes ≡ done = cc in ap Ok same
placed size (offset ∷ offsets) [] bytes done is = let same : bytes ≡ done = cc in ap Ok same
placed size [] (part ∷ parts) bytes done is = absurd cc
placed size (offset ∷ offsets) (part ∷ parts) bytes done is = placed-behind size offset offsets parts (with_part offset part bytes) done (λ next h. placed size offsets parts next done h) is

made-agrees : (size : ℕ) (offsets : List ℕ) (parts : List (List ℕ)) (found : Option (List ℕ)) → with_parts offsets parts (replicate size 0) ≡ found → Agrees (made found) (placed_parts size offsets parts (replicate size 0))
made-agrees size offsets parts (Some bytes) is = placed size offsets parts (replicate size 0) bytes is
made-agrees size offsets parts None is = tt

laid-agrees : (layout : Option Layout) (parts : List (List ℕ)) → Agrees (laid_out layout parts) (mir_laid_out layout parts)
unfolding mir_laid_out constructed
laid-agrees (Some layout) parts = made-agrees layout.size layout.offsets parts (with_parts layout.offsets parts (replicate layout.size 0)) refl
laid-agrees None parts = tt

tuple-answer : (world : HirDatabase) (ty : Ty) (values : List Value) → answered world (Some ty) MakeTuple values ≡ laid_out (layout_of world ty) (map (λ (part : Value). part.bytes) values)
unfolding answered
tuple-answer world ty values = refl

tuple-bytes : (source : Source) (frame : Frame) (memory : Memory) (ty : Ty) (operands : List MirOperand) (parts : List (List ℕ)) → frame.program.world ≡ source.world → operands_bytes frame memory operands ≡ Some parts → rvalue_bytes frame memory (Aggregate (kind.Tuple ty) operands) ≡ mir_laid_out (layout_of source.world ty) parts
unfolding rvalue_bytes aggregated
tuple-bytes source frame memory ty operands parts same is =
    ap (aggregated frame.program.world (kind.Tuple ty)) is ∙ ap (λ world. mir_laid_out (layout_of world ty) parts) same

tuple-computes : (source : Source) (e : ℕ) (ty : Ty) (operands : List MirOperand) → own_type source e ≡ Some ty → Computes source e MakeTuple operands (Aggregate (kind.Tuple ty) operands)
tuple-computes source e ty operands typed frame all memory same reads =
    let parts = map (λ (part : Value). part.bytes) all in
    let answers : answered source.world (own_type source e) MakeTuple all ≡ laid_out (layout_of source.world ty) parts = ap (λ t. answered source.world t MakeTuple all) typed ∙ tuple-answer source.world ty all in
    let runs = tuple-bytes source frame memory ty operands parts same (parts-bytes frame memory operands all reads) in
    subst (λ given. Agrees given (rvalue_bytes frame memory (Aggregate (kind.Tuple ty) operands))) (sym answers)
    (subst (Agrees (laid_out (layout_of source.world ty) parts)) (sym runs) (laid-agrees (layout_of source.world ty) parts))

array-answer : (world : HirDatabase) (ty : Option Ty) (values : List Value) → answered world ty MakeArray values ≡ Computed (flat_map (λ (part : Value). part.bytes) values)
unfolding answered
array-answer world ty values = refl

array-bytes : (frame : Frame) (memory : Memory) (element : Ty) (operands : List MirOperand) (parts : List (List ℕ)) → operands_bytes frame memory operands ≡ Some parts → rvalue_bytes frame memory (Aggregate (kind.Array element) operands) ≡ Ok (concat parts)
unfolding rvalue_bytes aggregated
array-bytes frame memory element operands parts is = ap (aggregated frame.program.world (kind.Array element)) is

joined : (values : List Value) → concat (map (λ (part : Value). part.bytes) values) ≡ flat_map (λ (part : Value). part.bytes) values
joined [] = refl
joined (value ∷ values) = ap (λ rest. value.bytes ++ rest) (joined values)

array-computes : (source : Source) (e : ℕ) (element : Ty) (operands : List MirOperand) → Computes source e MakeArray operands (Aggregate (kind.Array element) operands)
array-computes source e element operands frame all memory same reads =
    subst (λ given. Agrees given (rvalue_bytes frame memory (Aggregate (kind.Array element) operands))) (sym (array-answer source.world (own_type source e) all))
    (array-bytes frame memory element operands (map (λ (part : Value). part.bytes) all) (parts-bytes frame memory operands all reads) ∙ ap Ok (joined all))

repeat-agrees : (count : Option ℕ) (bytes : List ℕ) → Agrees (repeated_for count bytes) (repeats count (Some bytes))
unfolding repeats
repeat-agrees (Some count) bytes = refl
repeat-agrees None bytes = tt

repeat-answer : (world : HirDatabase) (ty : Ty) (value : Value) → answered world (Some ty) Repeat (value ∷ []) ≡ repeated_for (array_length ty) value.bytes
unfolding answered
repeat-answer world ty value = refl

repeat-bytes : (frame : Frame) (memory : Memory) (len : Const) (x : MirOperand) (bytes : List ℕ) → mir_bytes frame memory x.kind ≡ Some bytes → rvalue_bytes frame memory (Repeated x len) ≡ repeats (number_in len) (Some bytes)
unfolding rvalue_bytes
repeat-bytes frame memory len x bytes is = ap (repeats (number_in len)) is

repeat-computes : (source : Source) (e : ℕ) (element : Ty) (len : Const) (x : MirOperand) → own_type source e ≡ Some (type.Array element len) → Computes source e Repeat (x ∷ []) (Repeated x len)
repeat-computes source e element len x typed frame [] memory same reads = absurd reads
repeat-computes source e element len x typed frame (given ∷ []) memory same reads =
    let answers : answered source.world (own_type source e) Repeat (given ∷ []) ≡ repeated_for (number_in len) given.bytes =
    ap (λ t. answered source.world t Repeat (given ∷ [])) typed ∙ repeat-answer source.world (type.Array element len) given ∙ ap (λ count. repeated_for count given.bytes) (length_of_array element len) in
    let runs = repeat-bytes frame memory len x given.bytes reads.0.bytes_are in
    subst (λ answer. Agrees answer (rvalue_bytes frame memory (Repeated x len))) (sym answers)
    (subst (Agrees (repeated_for (number_in len) given.bytes)) (sym runs) (repeat-agrees (number_in len) given.bytes))
repeat-computes source e element len x typed frame (value ∷ more ∷ rest) memory same reads = absurd reads.1

-- Structs, of the operands of their fields.

struct-bytes : (source : Source) (frame : Frame) (memory : Memory) (id : StructId) (args : GenericArgs) (fields : List MirOperand) (parts : List (List ℕ)) → frame.program.world ≡ source.world → operands_bytes frame memory fields ≡ Some parts →
    rvalue_bytes frame memory (Aggregate (kind.Adt (variant.StructId id) args) fields) ≡ mir_laid_out (layout_of source.world (type.Adt (adt.StructId id) args)) parts
unfolding rvalue_bytes aggregated
struct-bytes source frame memory id args fields parts same is =
    ap (aggregated frame.program.world (kind.Adt (variant.StructId id) args)) is ∙ ap (λ world. mir_laid_out (layout_of world (type.Adt (adt.StructId id) args)) parts) same

-- a struct of operands that fit those of the source is the struct of their values, where these are there
pub struct-agrees : (source : Source) (whole : Shape) (frame : Frame) (id : StructId) (args : GenericArgs) (fields : List MirOperand) (chosen : List Operand) (store : Store) (memory : Memory) → Holds whole frame store memory → frame.program.world ≡ source.world →
    FitAll source (kinds fields) whole frame chosen → Agrees (struct_of (layout_of source.world (type.Adt (adt.StructId id) args)) (values_of source store chosen)) (rvalue_bytes frame memory (Aggregate (kind.Adt (variant.StructId id) args) fields))
struct-agrees source whole frame id args fields chosen store memory holds same fit = by-values (values_of source store chosen) refl
  where
    by-values : (values : Option (List Value)) → values_of source store chosen ≡ values → Agrees (struct_of (layout_of source.world (type.Adt (adt.StructId id) args)) values) (rvalue_bytes frame memory (Aggregate (kind.Adt (variant.StructId id) args) fields))
    by-values (Some values) are =
        let reads = read-all source whole frame store memory holds fields chosen fit values are in
        let parts = map (λ (part : Value). part.bytes) values in
        let ty = type.Adt (adt.StructId id) args in
        let runs = struct-bytes source frame memory id args fields parts same (parts-bytes frame memory fields values reads) in
        subst (Agrees (laid_out (layout_of source.world ty) parts)) (sym runs) (laid-agrees (layout_of source.world ty) parts)
    by-values None are = tt

-- an aggregate of a kind is what the operation makes
pub is-aggregate : (source : Source) (e : ℕ) (several : Several) (given : _) (operands : List MirOperand) → IsKindOf source e several given → IsRvalueOf source e (several_operation several) operands (Aggregate given operands)
is-aggregate source e several.Tuple given operands of = record { given = given; of = of; is = refl }
is-aggregate source e several.Array given operands of = record { given = given; of = of; is = refl }

-- an operation that makes no struct
abbrev pub IsNoStruct : Operation → Type 0
IsNoStruct (MakeStruct id args places) = ⊥
IsNoStruct _ = Unit {0}

-- whatever such an operation of an expression makes in the graph, computes it
pub rvalue-computes : (source : Source) (e : ℕ) (operation : Operation) (operands : List MirOperand) (r : Rvalue) → IsNoStruct operation → IsRvalueOf source e operation operands r → Computes source e operation operands r
rvalue-computes source e Negate (x ∷ []) r none is = subst (Computes source e Negate (x ∷ [])) (sym is) (unary-computes source e one.Neg x)
rvalue-computes source e Invert (x ∷ []) r none is = subst (Computes source e Invert (x ∷ [])) (sym is) (unary-computes source e one.Not x)
rvalue-computes source e Keep (x ∷ []) r none is = subst (Computes source e Keep (x ∷ [])) (sym is) (keep-computes source e x)
rvalue-computes source e Convert (x ∷ []) r none is = subst (Computes source e Convert (x ∷ [])) (sym is.is) (cast-computes source e is.ty x is.typed)
rvalue-computes source e (Combine op) (x ∷ y ∷ []) r none is = subst (Computes source e (Combine op) (x ∷ y ∷ [])) (sym is) (binary-computes source e op x y)
rvalue-computes source e MakeTuple operands r none is =
    subst (Computes source e MakeTuple operands) (sym (is.is ∙ ap (λ given. Aggregate given operands) is.of.is)) (tuple-computes source e is.of.ty operands is.of.typed)
rvalue-computes source e MakeArray operands r none is =
    subst (Computes source e MakeArray operands) (sym (is.is ∙ ap (λ given. Aggregate given operands) is.of.is)) (array-computes source e is.of.element operands)
rvalue-computes source e (MakeStruct id args places) operands r none is = absurd none
rvalue-computes source e Repeat (x ∷ []) r none is = subst (Computes source e Repeat (x ∷ [])) (sym is.is) (repeat-computes source e is.element is.len x is.typed)
rvalue-computes source e Negate [] r none is = absurd is
rvalue-computes source e Negate (x ∷ y ∷ rest) r none is = absurd is
rvalue-computes source e Invert [] r none is = absurd is
rvalue-computes source e Invert (x ∷ y ∷ rest) r none is = absurd is
rvalue-computes source e Keep [] r none is = absurd is
rvalue-computes source e Keep (x ∷ y ∷ rest) r none is = absurd is
rvalue-computes source e Convert [] r none is = absurd is
rvalue-computes source e Convert (x ∷ y ∷ rest) r none is = absurd is
rvalue-computes source e (Combine op) [] r none is = absurd is
rvalue-computes source e (Combine op) (x ∷ []) r none is = absurd is
rvalue-computes source e (Combine op) (x ∷ y ∷ z ∷ rest) r none is = absurd is
rvalue-computes source e Repeat [] r none is = absurd is
rvalue-computes source e Repeat (x ∷ y ∷ rest) r none is = absurd is

-- It reads a place that is out of bounds just where one of its operands is such a place.
module _ (world : HirDatabase) (body : MirBody) (numbers : LocalId → Option ℕ) where
  or-none : (test : Bool) → test ≡ (test || false)
  or-none true = refl
  or-none false = refl

  one-out : (x : MirOperand) → mir_out world body numbers x.kind ≡ some_out world body numbers (x ∷ [])
  unfolding some_out
  one-out x = or-none (mir_out world body numbers x.kind)

  pub two-out : (x y : MirOperand) → (mir_out world body numbers x.kind || mir_out world body numbers y.kind) ≡ some_out world body numbers (x ∷ y ∷ [])
  unfolding some_out
  two-out x y = ap (λ other. mir_out world body numbers x.kind || other) (or-none (mir_out world body numbers y.kind))

  abbrev ReadsOut : List MirOperand → Rvalue → Type 0
  ReadsOut operands r = reads_out world body numbers r ≡ some_out world body numbers operands

  made-reads : (given : _) (operands : List MirOperand) → ReadsOut operands (Aggregate given operands)
  unfolding reads_out
  made-reads given operands = refl

  unary-reads : (op : UnOp) (x : MirOperand) → ReadsOut (x ∷ []) (Unary op x)
  unfolding reads_out
  unary-reads op x = one-out x

  use-reads : (x : MirOperand) → ReadsOut (x ∷ []) (Use x)
  unfolding reads_out
  use-reads x = one-out x

  cast-reads : (ty : Ty) (x : MirOperand) → ReadsOut (x ∷ []) (Cast IntToInt x ty)
  unfolding reads_out
  cast-reads ty x = one-out x

  repeat-reads : (len : Const) (x : MirOperand) → ReadsOut (x ∷ []) (Repeated x len)
  unfolding reads_out
  repeat-reads len x = one-out x

  binary-reads : (op : Operator) (x y : MirOperand) → ReadsOut (x ∷ y ∷ []) (CheckedBinaryOp op x y)
  unfolding reads_out
  binary-reads op x y = two-out x y

  pub rvalue-reads : (source : Source) (e : ℕ) (operation : Operation) (operands : List MirOperand) (r : Rvalue) → IsNoStruct operation → IsRvalueOf source e operation operands r → ReadsOut operands r
  rvalue-reads source e Negate (x ∷ []) r none is = subst (ReadsOut (x ∷ [])) (sym is) (unary-reads one.Neg x)
  rvalue-reads source e Invert (x ∷ []) r none is = subst (ReadsOut (x ∷ [])) (sym is) (unary-reads one.Not x)
  rvalue-reads source e Keep (x ∷ []) r none is = subst (ReadsOut (x ∷ [])) (sym is) (use-reads x)
  rvalue-reads source e Convert (x ∷ []) r none is = subst (ReadsOut (x ∷ [])) (sym is.is) (cast-reads is.ty x)
  rvalue-reads source e (Combine op) (x ∷ y ∷ []) r none is = subst (ReadsOut (x ∷ y ∷ [])) (sym is) (binary-reads op x y)
  rvalue-reads source e MakeTuple operands r none is = subst (ReadsOut operands) (sym is.is) (made-reads is.given operands)
  rvalue-reads source e MakeArray operands r none is = subst (ReadsOut operands) (sym is.is) (made-reads is.given operands)
  rvalue-reads source e (MakeStruct id args places) operands r none is = absurd none
  rvalue-reads source e Repeat (x ∷ []) r none is = subst (ReadsOut (x ∷ [])) (sym is.is) (repeat-reads is.len x)
  rvalue-reads source e Negate [] r none is = absurd is
  rvalue-reads source e Negate (x ∷ y ∷ rest) r none is = absurd is
  rvalue-reads source e Invert [] r none is = absurd is
  rvalue-reads source e Invert (x ∷ y ∷ rest) r none is = absurd is
  rvalue-reads source e Keep [] r none is = absurd is
  rvalue-reads source e Keep (x ∷ y ∷ rest) r none is = absurd is
  rvalue-reads source e Convert [] r none is = absurd is
  rvalue-reads source e Convert (x ∷ y ∷ rest) r none is = absurd is
  rvalue-reads source e (Combine op) [] r none is = absurd is
  rvalue-reads source e (Combine op) (x ∷ []) r none is = absurd is
  rvalue-reads source e (Combine op) (x ∷ y ∷ z ∷ rest) r none is = absurd is
  rvalue-reads source e Repeat [] r none is = absurd is
  rvalue-reads source e Repeat (x ∷ y ∷ rest) r none is = absurd is

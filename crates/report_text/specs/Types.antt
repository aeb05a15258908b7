-- The texts of types, generic arguments and constants, with the names that a world gives to items and parameters.
use Rattle.std.specs.Prelude.{ℕ, List, [], ◌∷◌, ◌++◌, codes, map, Option, Some, None}
use Rattle.numbers.specs.declared.operator.Kind.{Kind}
use Rattle.numbers.specs.declared.operator.Kind.TheVariants.{Signed, Unsigned, Boolean, Character}
use Rattle.types.specs.declared.scalars.FloatTy.{FloatTy}
use Rattle.types.specs.declared.scalars.FloatTy.TheVariants.{F16, F32, F64, F128}
use Rattle.types.specs.declared.scalars.IntTy.{IntTy}
use Rattle.types.specs.declared.scalars.IntTy.TheVariants.{I8, I16, I32, I64, I128, Isize}
use Rattle.types.specs.declared.scalars.Mutability.{Mutability}
use Rattle.types.specs.declared.scalars.Mutability.TheVariants.{Not, Mut}
use Rattle.types.specs.declared.scalars.UintTy.{UintTy}
use Rattle.types.specs.declared.scalars.UintTy.TheVariants.{U8, U16, U32, U64, U128, Usize}
use Rattle.types.specs.declared.ty.Const.{Const}
use Rattle.types.specs.declared.ty.Const.TheFolds.{fold-Const, fold-GenericArg, fold-GenericArgs, fold-TraitRef, fold-Ty}
use Rattle.types.specs.declared.ty.Const.TheOpen as one
use Rattle.types.specs.declared.ty.Const.TheOpen.{Const-F, GenericArg-F, MemoryMap-F, Ty-F, ComplexMemoryMap-F, GenericArgs-F, TraitRef-F, UnevaluatedConst-F, ValueConst-F}
use Rattle.types.specs.declared.ty.GenericArg.{GenericArg}
use Rattle.types.specs.declared.ty.GenericArgs.{GenericArgs}
use Rattle.types.specs.declared.ty.TraitRef.{TraitRef}
use Rattle.types.specs.declared.ty.Ty.{Ty}
use Rattle.world.specs.declared.database.HirDatabase.{HirDatabase}
use Rattle.report_text.specs.Consts.{bytes_text}
use Rattle.report_text.specs.Ids.{closure_text}
use Rattle.report_text.specs.Names.{adt_name, alias_name, callable_name, const_param_name, general_const_name, trait_name, type_param_name}
use Rattle.report_text.specs.Texts.{listed, summed, with_args}

-- the text of a signed integer type
abbrev pub int_text : IntTy → List ℕ
int_text I8 = codes "i8"
int_text I16 = codes "i16"
int_text I32 = codes "i32"
int_text I64 = codes "i64"
int_text I128 = codes "i128"
int_text Isize = codes "isize"

-- the text of an unsigned integer type
abbrev pub uint_text : UintTy → List ℕ
uint_text U8 = codes "u8"
uint_text U16 = codes "u16"
uint_text U32 = codes "u32"
uint_text U64 = codes "u64"
uint_text U128 = codes "u128"
uint_text Usize = codes "usize"

-- the text of a floating-point type
abbrev pub float_text : FloatTy → List ℕ
float_text F16 = codes "f16"
float_text F32 = codes "f32"
float_text F64 = codes "f64"
float_text F128 = codes "f128"

-- the text before the type that a reference points to
abbrev pub reference_word : Mutability → List ℕ
reference_word Not = codes "&"
reference_word Mut = codes "&mut "

-- the text before the type that a raw pointer points to
abbrev pub pointer_word : Mutability → List ℕ
pointer_word Not = codes "*const "
pointer_word Mut = codes "*mut "

-- the text of a tuple type, from those of its fields
abbrev pub tuple_text : List (List ℕ) → List ℕ
tuple_text [] = codes "()"
tuple_text (field ∷ []) = codes "(" ++ (field ++ codes ",)")
tuple_text (first ∷ second ∷ others) = codes "(" ++ (listed (first ∷ second ∷ others) ++ codes ")")

-- the text of an array type, from those of its element type and of its length
abbrev pub array_text : List ℕ → List ℕ → List ℕ
array_text element len = codes "[" ++ (element ++ (codes "; " ++ (len ++ codes "]")))

-- the text of a slice type, from that of its element type
abbrev pub slice_text : List ℕ → List ℕ
slice_text element = codes "[" ++ (element ++ codes "]")

-- the text of a function pointer type, from those of its parameters and of its result
abbrev pub pointer_to_function_text : List (List ℕ) → List ℕ → List ℕ
pointer_to_function_text params ret = codes "fn(" ++ (listed params ++ (codes ") -> " ++ ret))

-- the text of a trait object type, from those of its bounds, which are joined by plus signs
abbrev pub dynamic_text : List (List ℕ) → List ℕ
dynamic_text bounds = codes "dyn " ++ summed bounds

-- a type as it is rendered: its text, as Rust writes the type, and the kind of its values if they are integers or booleans
pub record RenderedType : Type 0 where
  pub text : List ℕ
  pub kind : Option Kind

-- The outermost constructor of a type, of a constant or of a part of one, where what the constructor takes is already rendered:
-- constants, generic arguments and trait bounds as their texts, types as `RenderedType`, lists of generic arguments as lists of texts, and the memory of
-- a constant as nothing.
abbrev Over : (Type 0 → Type 0 → Type 0 → Type 0 → Type 0 → Type 0 → Type 0 → Type 0 → Type 0 → Type 0) → Type 0
Over Layer = Layer (List ℕ) (List ℕ) (Unit {0}) RenderedType (Unit {0}) (List (List ℕ)) (List ℕ) (List ℕ) (List ℕ)

-- the text of a rendered type
abbrev pub rendered_text : RenderedType → List ℕ
rendered_text rendered = rendered.text

-- the text of a type, from its outermost constructor; a closure has no generic arguments in its text
abbrev pub ty_layer_text : HirDatabase → Over Ty-F → List ℕ
ty_layer_text world one.Bool = codes "bool"
ty_layer_text world one.Char = codes "char"
ty_layer_text world (one.Int int) = int_text int
ty_layer_text world (one.Uint uint) = uint_text uint
ty_layer_text world (one.Float float) = float_text float
ty_layer_text world one.Str = codes "str"
ty_layer_text world one.Never = codes "!"
ty_layer_text world (one.Tuple fields) = tuple_text (map rendered_text fields)
ty_layer_text world (one.Array element len) = array_text element.text len
ty_layer_text world (one.Slice element) = slice_text element.text
ty_layer_text world (one.Ref to mutability) = reference_word mutability ++ to.text
ty_layer_text world (one.RawPtr to mutability) = pointer_word mutability ++ to.text
ty_layer_text world (one.Adt id args) = with_args (adt_name world id) args
ty_layer_text world (one.FnDef id args) = with_args (callable_name world id) args
ty_layer_text world (one.FnPtr params ret) = pointer_to_function_text (map rendered_text params) ret.text
ty_layer_text world (one.Closure id args) = closure_text id
ty_layer_text world (one.Dynamic bounds) = dynamic_text bounds
ty_layer_text world (one.Alias id args) = with_args (alias_name world id) args
ty_layer_text world (one.Ty::Param param) = type_param_name world param.id
ty_layer_text world one.Ty::Error = codes "{error}"

-- the kind of a type's values if they are integers, booleans or characters, from the type's outermost constructor
abbrev pub ty_layer_kind : Over Ty-F → Option Kind
ty_layer_kind one.Bool = Some Boolean
ty_layer_kind one.Char = Some Character
ty_layer_kind (one.Int _) = Some Signed
ty_layer_kind (one.Uint _) = Some Unsigned
ty_layer_kind _ = None

-- a rendered type, from its outermost constructor
abbrev ty_layer : HirDatabase → Over Ty-F → RenderedType
ty_layer world ty = record { text = ty_layer_text world ty; kind = ty_layer_kind ty }

-- the text of a generic argument, which is that of its type or of its constant
abbrev arg_layer : HirDatabase → Over GenericArg-F → List ℕ
arg_layer world (one.Ty ty) = ty.text
arg_layer world (one.Konst konst) = konst

-- the texts of a list of generic arguments
abbrev args_layer : HirDatabase → Over GenericArgs-F → List (List ℕ)
args_layer world args = args.0

-- the text of a trait with its generic arguments, from the texts of the arguments
abbrev bound_layer : HirDatabase → Over TraitRef-F → List ℕ
bound_layer world bound = with_args (trait_name world bound.def) bound.args

-- the text of a constant, from its outermost constructor: a value's bytes, a const parameter's name, or the name of a constant that
-- is not evaluated yet
abbrev const_layer : HirDatabase → Over Const-F → List ℕ
const_layer world (one.Value value) = value
const_layer world (one.Const::Param param) = const_param_name world param.id
const_layer world (one.Unevaluated named) = named
const_layer world one.Const::Error = codes "{error}"

-- the text of a value's bytes, by the kind of its type's values
abbrev value_layer : HirDatabase → Over ValueConst-F → List ℕ
value_layer world value = bytes_text value.ty.kind value.memory

-- the text of a constant that is not evaluated yet, which is its name without generic arguments
abbrev unevaluated_layer : HirDatabase → Over UnevaluatedConst-F → List ℕ
unevaluated_layer world named = general_const_name world named.def

-- the memory behind the addresses in a value, which has no text in a type
abbrev map_layer : HirDatabase → Over MemoryMap-F → Unit {0}
map_layer world map = tt

-- the entries of that memory by address, which have no text in a type
abbrev complex_layer : HirDatabase → Over ComplexMemoryMap-F → Unit {0}
complex_layer world map = tt

-- a type as it is rendered
unfoldable pub rendered_ty : HirDatabase → Ty → RenderedType
rendered_ty world = fold-Ty _ _ _ _ _ _ _ _ _ (const_layer world) (arg_layer world) (map_layer world) (ty_layer world) (complex_layer world) (args_layer world) (bound_layer world) (unevaluated_layer world) (value_layer world)

-- the text of a type, as Rust writes it
abbrev pub type_text : HirDatabase → Ty → List ℕ
type_text world ty = (rendered_ty world ty).text

-- the text of a constant: a number if its type is an integer type, else its bytes or its name
unfoldable pub const_text : HirDatabase → Const → List ℕ
const_text world = fold-Const _ _ _ _ _ _ _ _ _ (const_layer world) (arg_layer world) (map_layer world) (ty_layer world) (complex_layer world) (args_layer world) (bound_layer world) (unevaluated_layer world) (value_layer world)

-- the text of a generic argument
unfoldable pub arg_text : HirDatabase → GenericArg → List ℕ
arg_text world = fold-GenericArg _ _ _ _ _ _ _ _ _ (const_layer world) (arg_layer world) (map_layer world) (ty_layer world) (complex_layer world) (args_layer world) (bound_layer world) (unevaluated_layer world) (value_layer world)

-- the texts of generic arguments
unfoldable pub args_texts : HirDatabase → GenericArgs → List (List ℕ)
args_texts world = fold-GenericArgs _ _ _ _ _ _ _ _ _ (const_layer world) (arg_layer world) (map_layer world) (ty_layer world) (complex_layer world) (args_layer world) (bound_layer world) (unevaluated_layer world) (value_layer world)

-- the text of a trait bound: the trait's name with its generic arguments
unfoldable pub bound_text : HirDatabase → TraitRef → List ℕ
bound_text world = fold-TraitRef _ _ _ _ _ _ _ _ _ (const_layer world) (arg_layer world) (map_layer world) (ty_layer world) (complex_layer world) (args_layer world) (bound_layer world) (unevaluated_layer world) (value_layer world)

-- The layouts of integer types, `bool` and `char`, in a checked world.
use Rattle.std.proofs.Common.{◌≡◌, ℕ, true, Some, refl, sym, ap, ◌∙◌}
use Rattle.world.specs.declared.database.HirDatabase.{HirDatabase}
use Rattle.world.specs.declared.layout.Layout.{Layout}
use Rattle.types.specs.declared.scalars.IntTy.{IntTy}
use Rattle.types.specs.declared.scalars.IntTy.TheVariants as int
use Rattle.types.specs.declared.scalars.UintTy.{UintTy}
use Rattle.types.specs.declared.scalars.UintTy.TheVariants as uint
use Rattle.types.specs.declared.ty.Ty.{Ty, Bool as BoolTy, Int as IntType, Uint as UintType, Char as CharType}
use Rattle.world.specs.Lookups.{layout_of}
use Rattle.world.proofs.Rows.{layout_row}
use Rattle.world.specs.Checked.{IsChecked, IsCheckedLayout, fixed_size, int_bytes, uint_bytes}
use Rattle.numbers.specs.Bytes.{is_width}
use Rattle.source_meaning.specs.Valid.{IsInteger, IsScalar, IsNumber, IsBool}
use Rattle.source_meaning.proofs.Operators.{IsLengthOf}

int_is_width : (ty : IntTy) → is_width (int_bytes ty) ≡ true
int_is_width int.I8 = refl
int_is_width int.I16 = refl
int_is_width int.I32 = refl
int_is_width int.I64 = refl
int_is_width int.I128 = refl
int_is_width int.Isize = refl

uint_is_width : (ty : UintTy) → is_width (uint_bytes ty) ≡ true
uint_is_width uint.U8 = refl
uint_is_width uint.U16 = refl
uint_is_width uint.U32 = refl
uint_is_width uint.U64 = refl
uint_is_width uint.U128 = refl
uint_is_width uint.Usize = refl

checked_is_width : (ty : Ty) (layout : Layout) → IsCheckedLayout ty layout → IsInteger ty → is_width layout.size ≡ true
checked_is_width BoolTy layout checked integer = absurd integer
checked_is_width (IntType ty) layout checked integer = ap is_width (checked.size) ∙ int_is_width ty
checked_is_width (UintType ty) layout checked integer = ap is_width (checked.size) ∙ uint_is_width ty
checked_is_width _ layout checked integer = absurd integer

pub integer_is_width : (world : HirDatabase) (ty : Ty) (layout : Layout) → IsChecked world → IsInteger ty → layout_of world ty ≡ Some layout → is_width layout.size ≡ true
integer_is_width world ty layout checked integer found =
    let row = layout_row world ty layout found in
    checked_is_width ty layout (checked.layouts row.0 (ty, layout) row.1) integer

pub bool_is_one : (world : HirDatabase) (layout : Layout) → IsChecked world → layout_of world BoolTy ≡ Some layout → layout.size ≡ 1
bool_is_one world layout checked found =
    let row = layout_row world BoolTy layout found in
    (checked.layouts row.0 (BoolTy, layout) row.1).size

pub char_is_four : (world : HirDatabase) (layout : Layout) → IsChecked world → layout_of world CharType ≡ Some layout → layout.size ≡ 4
char_is_four world layout checked found =
    let row = layout_row world CharType layout found in
    (checked.layouts row.0 (CharType, layout) row.1).size

pub number_has_length : (world : HirDatabase) (ty : Ty) (layout : Layout) → IsChecked world → IsNumber ty → layout_of world ty ≡ Some layout → IsLengthOf ty layout.size
number_has_length world BoolTy layout checked number found = bool_is_one world layout checked found
number_has_length world (IntType ty) layout checked number found = integer_is_width world (IntType ty) layout checked tt found
number_has_length world (UintType ty) layout checked number found = integer_is_width world (UintType ty) layout checked tt found
number_has_length world CharType layout checked number found = char_is_four world layout checked found
number_has_length world _ layout checked number found = absurd number

-- the size of a number's type is the same in each world
checked_has_size : (ty : Ty) (layout : Layout) → IsCheckedLayout ty layout → IsNumber ty → fixed_size ty ≡ Some layout.size
checked_has_size BoolTy layout checked number = ap Some (sym checked.size)
checked_has_size (IntType ty) layout checked number = ap Some (sym checked.size)
checked_has_size (UintType ty) layout checked number = ap Some (sym checked.size)
checked_has_size CharType layout checked number = ap Some (sym checked.size)
checked_has_size _ layout checked number = absurd number

pub number_has_size : (world : HirDatabase) (ty : Ty) (layout : Layout) → IsChecked world → IsNumber ty → layout_of world ty ≡ Some layout → fixed_size ty ≡ Some layout.size
number_has_size world ty layout checked number found =
    let row = layout_row world ty layout found in
    checked_has_size ty layout (checked.layouts row.0 (ty, layout) row.1) number

pub integer_is_number : (ty : Ty) → IsInteger ty → IsNumber ty
integer_is_number BoolTy integer = absurd integer
integer_is_number (IntType ty) integer = tt
integer_is_number (UintType ty) integer = tt
integer_is_number _ integer = absurd integer

pub bool_is_number : (ty : Ty) → IsBool ty → IsNumber ty
bool_is_number BoolTy is_bool = tt
bool_is_number (IntType ty) is_bool = tt
bool_is_number (UintType ty) is_bool = tt
bool_is_number _ is_bool = absurd is_bool

pub scalar_is_number : (ty : Ty) → IsScalar ty → IsNumber ty
scalar_is_number BoolTy scalar = tt
scalar_is_number (IntType ty) scalar = tt
scalar_is_number (UintType ty) scalar = tt
scalar_is_number _ scalar = absurd scalar

pub bool_length_is_one : (ty : Ty) (size : ℕ) → IsBool ty → IsLengthOf ty size → size ≡ 1
bool_length_is_one BoolTy size is_bool long = long
bool_length_is_one (IntType ty) size is_bool long = absurd is_bool
bool_length_is_one (UintType ty) size is_bool long = absurd is_bool
bool_length_is_one _ size is_bool long = absurd is_bool
